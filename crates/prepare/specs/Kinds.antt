-- What an item is, by the words that it begins with (The Rust Reference, "Items", "Keywords").
use Rattle.std.specs.Prelude.{ℕ, List, [], ◌∷◌, codes, Bool, cond, Option, Some, None}
use Rattle.words.specs.Words.{is_among}
use Rattle.prepare.specs.declared.kind.Kind.{Kind}
use Rattle.prepare.specs.declared.kind.Kind.TheVariants as kinds

-- what goes to a block may begin with `const` and these
abbrev pub is_function_word : List ℕ → Bool
is_function_word word = is_among word (codes "fn" ∷ codes "unsafe" ∷ codes "async" ∷ codes "extern" ∷ codes "trait" ∷ codes "impl" ∷ [])

abbrev pub const_kind : Option (List ℕ) → Kind
const_kind None = kinds.Line
const_kind (Some word) = cond (is_function_word word) kinds.Block kinds.Line

-- these are keywords in front of another word alone
abbrev pub weak_kind : Option (List ℕ) → Kind
weak_kind None = kinds.Call
weak_kind (Some word) = kinds.Block

unfoldable pub kind_of : List ℕ → Option (List ℕ) → Kind
kind_of first next =
    cond (is_among first (codes "struct" ∷ codes "enum" ∷ [])) kinds.Declaration
    (cond (is_among first (codes "impl" ∷ [])) kinds.Impl
    (cond (is_among first (codes "use" ∷ [])) kinds.Use
    (cond (is_among first (codes "mod" ∷ [])) kinds.Module
    (cond (is_among first (codes "type" ∷ [])) kinds.Alias
    (cond (is_among first (codes "static" ∷ [])) kinds.Line
    (cond (is_among first (codes "fn" ∷ codes "trait" ∷ codes "unsafe" ∷ codes "async" ∷ codes "extern" ∷ codes "macro" ∷ [])) kinds.Block
    (cond (is_among first (codes "const" ∷ [])) (const_kind next)
    (cond (is_among first (codes "union" ∷ codes "auto" ∷ codes "safe" ∷ codes "default" ∷ codes "gen" ∷ [])) (weak_kind next) kinds.Call))))))))
