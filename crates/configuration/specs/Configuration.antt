-- What deriving may take, which instances get components, what names become by rename rules, and what aliases stand for.
use Rattle.std.specs.Prelude.{ℕ, List, [], ◌++◌, codes}
use Rattle.diag.specs.declared.rename_row.RenamePlace.{RenamePlace}
use Rattle.diag.specs.declared.rename_row.RenamePlace.TheVariants.{Field, Variant}
use Rattle.diag.specs.declared.rename_row.RenameRow.{RenameRow}
use Rattle.written_types.specs.Written.{Written}
use Rattle.configuration.specs.declared.collect.SchemaCollect.{SchemaCollect}
use Rattle.configuration.specs.declared.collect.SchemaCollect.TheVariants.{NonInlined}

-- a name, and the type that it stands for
pub record Alias : Type 0 where
  pub name : List ℕ
  pub of : Written

-- the most instances that may be reachable, the most copies of schemas that may be inlined, which instances get a component,
-- what names become by rename rules, where of rows for the same name the first counts, and what aliases stand for
pub record Configuration : Type 0 where
  pub limit : ℕ
  pub copies : ℕ
  pub collect : SchemaCollect
  pub renames : List RenameRow
  pub aliases : List Alias

-- what holds where nothing is configured
abbrev pub empty_configuration : Configuration
empty_configuration = record { limit = 1000; copies = 10000; collect = NonInlined; renames = []; aliases = [] }

-- with another bound
abbrev pub with_limit : Configuration → ℕ → Configuration
with_limit c n = record c { limit = n }

abbrev pub with_copies : Configuration → ℕ → Configuration
with_copies c n = record c { copies = n }

-- with others that get a component
abbrev pub with_collect : Configuration → SchemaCollect → Configuration
with_collect c collect = record c { collect = collect }

-- with other rows, and with rows behind its own
abbrev pub with_renames : Configuration → List RenameRow → Configuration
with_renames c rows = record c { renames = rows }

abbrev pub with_rows : Configuration → List RenameRow → Configuration
with_rows c rows = record c { renames = c.renames ++ rows }

-- with other aliases, and with aliases behind its own
abbrev pub with_only_aliases : Configuration → List Alias → Configuration
with_only_aliases c aliases = record c { aliases = aliases }

abbrev pub with_aliases : Configuration → List Alias → Configuration
with_aliases c aliases = record c { aliases = c.aliases ++ aliases }

-- what a row calls the place of its names
abbrev pub place_name : RenamePlace → List ℕ
place_name Field = codes "field"
place_name Variant = codes "variant"
