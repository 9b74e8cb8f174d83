-- The fields with names that serde skips: nothing of them is read (serde, "Field attributes").
use Rattle.std.specs.Prelude.{ℕ, List, [], ◌∷◌, ◌++◌, codes, Bool, true, false, cond}
use Rattle.std.specs.List.{flat_map}
use Rattle.tokens.specs.Trees.{Tree}
use Rattle.texts.specs.declared.span.Span.{Span}
use Rattle.prepare.specs.declared.previous.Behind.{Behind}
use Rattle.prepare.specs.declared.previous.Behind.TheVariants.{Other}
use Rattle.prepare.specs.Trees.{is_word, is_curly, inside, span_of, before}
use Rattle.prepare.specs.Attributes.{after_attributes}
use Rattle.prepare.specs.Ends.{behind, angles}
use Rattle.prepare.specs.Fields.{is_comma, are_skipping}

abbrev pub span_if : Bool → Tree → List Span
span_if true t = span_of t ∷ []
span_if false t = []

-- a field begins with the trees, and serde skips it wholly
abbrev pub begins_skipped : List Tree → Bool
begins_skipped ts = are_skipping true (before ts (after_attributes ts))

-- the field of the first of the trees is skipped, where one begins there, or else the one that goes on
abbrev pub is_skipped : (begins goes_on : Bool) → List Tree → Bool
is_skipped begins goes_on ts = cond begins (begins_skipped ts) goes_on

-- the trees of skipped fields, each with the comma behind it
abbrev pub skipped_from : (begins goes_on : Bool) → Behind → ℕ → List Tree → List Span
skipped_from begins goes_on was opened [] = []
skipped_from begins goes_on was opened (t ∷ ts) =
    let now : Bool = is_skipped begins goes_on (t ∷ ts) in
    span_if now t ++ skipped_from (is_comma opened t) now (behind was t) (angles was opened t) ts

-- in a group of fields that have names
abbrev pub field_skips : Tree → List Span
field_skips t = cond (is_curly t) (skipped_from true false Other 0 (inside t)) []

-- in the groups of fields of variants
abbrev pub variant_skips : Tree → List Span
variant_skips t = cond (is_curly t) (flat_map field_skips (inside t)) []

-- in a declaration, from its keyword on, by what stands behind its name
abbrev pub declared_skips : (keyword behind : List Tree) → List Span
declared_skips [] behind = []
declared_skips (t ∷ ts) behind = cond (is_word (codes "enum") t) (flat_map variant_skips behind) (flat_map field_skips behind)
