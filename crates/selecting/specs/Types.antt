-- Aliases of files as those of a configuration.
use Rattle.std.specs.Prelude.{◌≡◌, ℕ, List, [], ◌∷◌, Bool, false, cond, bytes_eq}
use Rattle.written_types.specs.Written.{Written, path}
use Rattle.configuration.specs.Aliases as configured
use Rattle.configuration.specs.Aliases.{IsTypeText}
use Rattle.configuration.specs.Configuration.{Alias, Configuration, with_aliases}
use Rattle.prepare.specs.declared.file_items.FileAlias.{FileAlias}
use Rattle.selecting.specs.Lists.{is_named}

-- the name alone
abbrev pub is_alone : List ℕ → List (List ℕ) → Bool
is_alone name (n ∷ []) = bytes_eq n name
is_alone name _ = false

-- the type is a path to a type of the name, as in `type Url = url::Url;`
abbrev pub is_path_to : List ℕ → Written → Bool
is_path_to name (path p) = is_alone name (configured.path_last_names p)
is_path_to name _ = false

-- the alias names this type, which is another than one of its own name, and the configuration has no alias of its name
abbrev pub Names : Configuration → FileAlias → Written → Type 0
Names c a t = (is_named a.declared.name (configured.alias_names c.aliases) ≡ false) × IsTypeText a.of t × (is_path_to a.declared.name t ≡ false)

-- the alias names a type
abbrev pub NamesType : Configuration → FileAlias → Type 0
NamesType c a = (t : Written) × Names c a t

-- the configuration with the alias behind its own, where it has none of the name
abbrev pub with_new : Configuration → Alias → Configuration
with_new c x = cond (is_named x.name (configured.alias_names c.aliases)) c (with_aliases c (x ∷ []))

-- the second configuration is the first with these aliases, one after the other
abbrev pub Adds : Configuration → List FileAlias → Configuration → Type 0
Adds c [] d = d ≡ c
Adds c (a ∷ aliases) d = (t : Written) × IsTypeText a.of t × Adds (with_new c (record { name = a.declared.name; of = t })) aliases d
