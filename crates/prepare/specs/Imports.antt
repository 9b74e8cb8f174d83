-- The names that a `use` gives to what it brings in (The Rust Reference, "Use declarations").
use Rattle.std.specs.Prelude.{List, [], ◌∷◌, ◌++◌, codes, true, false, cond, Option, Some, None}
use Rattle.tokens.specs.Trees.{Tree, token, group, Trees, end, ◌▸◌}
use Rattle.words.specs.Words.{cover}
use Rattle.written_types.specs.declared.written.Ident.{Ident}
use Rattle.prepare.specs.declared.item.Standing.{Standing}
use Rattle.prepare.specs.declared.item.Stands.TheVariants.{Alias}
use Rattle.prepare.specs.Trees.{is_word, span_of}
use Rattle.prepare.specs.Forms.{ident}

-- what `B as C` gives, by the two trees beside the `as` and the names that they are: C is a name for B
abbrev pub import_of : Option Ident → Option Ident → Tree → Tree → List Standing
import_of (Some of) (Some name) t v = record { what = Alias (record { name = name.text; is_first = false; names = of.text ∷ [] }) (span_of t) true; span = cover (span_of t) (span_of v) } ∷ []
import_of (Some of) None t v = []
import_of None name t v = []

-- and the first three of the trees
abbrev pub import_at : Trees → List Standing
import_at end = []
import_at (t ▸ end) = []
import_at (t ▸ (u ▸ end)) = []
import_at (t ▸ (u ▸ (v ▸ ts))) = cond (is_word (codes "as") u) (import_of (ident t) (ident v) t v) []

abbrev mutual
  -- what stands inside a tree
  pub imports_in : Tree → List Standing
  imports_in (token t) = []
  imports_in (group b ts s) = imports_of ts

  -- what each of the trees begins, and what stands inside it
  pub imports_of : Trees → List Standing
  imports_of end = []
  imports_of (t ▸ ts) = import_at (t ▸ ts) ++ (imports_in t ++ imports_of ts)
