-- What is not read of a declaration, since it says nothing of its JSON: how it lies in memory, what its parameters are where none
-- is given, what a `PhantomData` is of, and the fields that serde skips (The Rust Reference, "Type layout", "Generic parameters"; std, "PhantomData").
use Rattle.std.specs.Prelude.{ℕ, List, [], ◌∷◌, ◌++◌, codes, Bool, false, not, cond, ◌&&◌, ◌||◌, ◌==◌}
use Rattle.tokens.specs.declared.token.Bracket.TheVariants.{Square}
use Rattle.tokens.specs.Trees.{Tree, token, group, Trees, end, ◌▸◌, trees_of}
use Rattle.texts.specs.declared.span.Span.{Span}
use Rattle.words.specs.Words.{cover}
use Rattle.prepare.specs.declared.previous.Behind.{Behind}
use Rattle.prepare.specs.declared.previous.Behind.TheVariants.{Other}
use Rattle.prepare.specs.Trees.{is_word, is_sign, span_of}
use Rattle.prepare.specs.Ends.{behind, angles, is_minus}
use Rattle.prepare.specs.Fields.{is_comma}
use Rattle.prepare.specs.Skipped.{span_if, declared_skips}
use Rattle.prepare.specs.Traits.{are_deriving}
use Rattle.prepare.specs.declared.traits.Traits.TheVariants.{Serde, SerdeRepr}

-- ---- `repr`

-- `[repr ..]`
abbrev pub is_repr : Tree → Bool
is_repr (group Square (t ▸ ts) s) = is_word (codes "repr") t
is_repr _ = false

-- the bytes of that, with the `#` before it
abbrev pub repr_at : Tree → List Tree → List Span
repr_at t [] = []
repr_at t (u ∷ ts) = cond (is_repr u) (cover (span_of t) (span_of u) ∷ []) []

abbrev pub repr_spans : List Tree → List Span
repr_spans [] = []
repr_spans (t ∷ ts) = repr_at t ts ++ repr_spans ts

abbrev pub begins_with : List ℕ → List Tree → Bool
begins_with text [] = false
begins_with text (t ∷ ts) = is_word text t

-- the JSON does not depend on `repr`: that of a struct, and that of which a derive of serde's makes the impl, and none of serde_repr's
abbrev pub is_without_repr : (attributes keyword : List Tree) → Bool
is_without_repr attributes keyword = begins_with (codes "struct") keyword || (not (are_deriving SerdeRepr attributes) && are_deriving Serde attributes)

-- ---- defaults of parameters

-- the `>` behind the last of parameters, or of arguments
abbrev pub is_last : Behind → ℕ → Tree → Bool
is_last was opened t = (opened == 0) && (is_sign (codes ">") t && not (is_minus was))

-- a default is from its `=` to a comma, or to the end
abbrev pub in_default : Bool → ℕ → Tree → Bool
in_default inside opened t = ((opened == 0) && is_sign (codes "=") t) || (inside && not (is_comma opened t))

abbrev pub default_spans : (inside : Bool) → Behind → ℕ → List Tree → List Span
default_spans inside was opened [] = []
default_spans inside was opened (t ∷ ts) =
    let now : Bool = in_default inside opened t in
    cond (is_last was opened t) [] (span_if now t ++ default_spans now (behind was t) (angles was opened t) ts)

-- those of a declaration, by what stands behind its name
abbrev pub parameter_defaults : List Tree → List Span
parameter_defaults [] = []
parameter_defaults (t ∷ ts) = cond (is_sign (codes "<") t) (default_spans false Other 0 ts) []

-- ---- arguments of `PhantomData`

-- those behind a `<`
abbrev pub arguments_from : Behind → ℕ → Trees → List Span
arguments_from was opened end = []
arguments_from was opened (t ▸ ts) = cond (is_last was opened t) [] (span_of t ∷ arguments_from (behind was t) (angles was opened t) ts)

abbrev pub arguments_at : Trees → List Span
arguments_at end = []
arguments_at (t ▸ ts) = cond (is_sign (codes "<") t) (arguments_from Other 0 ts) []

-- those of the tree, where it is `PhantomData`
abbrev pub phantom_at : Tree → Trees → List Span
phantom_at t ts = cond (is_word (codes "PhantomData") t) (arguments_at ts) []

abbrev mutual
  -- inside a tree
  pub phantoms_in : Tree → List Span
  phantoms_in (token t) = []
  phantoms_in (group b ts s) = phantoms_of ts

  -- of each of the trees, and inside it
  pub phantoms_of : Trees → List Span
  phantoms_of end = []
  phantoms_of (t ▸ ts) = phantom_at t ts ++ (phantoms_in t ++ phantoms_of ts)

-- ---- all

abbrev pub unread_of : (attributes keyword behind : List Tree) → List Span
unread_of attributes keyword behind =
    cond (is_without_repr attributes keyword) (repr_spans attributes) [] ++ (parameter_defaults behind ++ (phantoms_of (trees_of behind) ++ declared_skips keyword behind))
