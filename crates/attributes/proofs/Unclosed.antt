-- A text without the closing sign of a comment.
use Rattle.std.proofs.Common.{◌≡◌, ◌∙◌, ◌-◌, inl, inr, ℕ, List, ◌++◌, length, refl, ap, sym, codes, take, drop, Bool, true, false, cond}
use Rattle.std.proofs.lemmas.Slice.Eq.{bytes_eq-Decides}
use Rattle.std.proofs.lemmas.List.{take-append-drop}
use Rattle.std.specs.Str.{bytes_eq}
use Rattle.std.proofs.lemmas.Bool.{cases_Bool}
use Rattle.attributes.specs.AttributeWords.{unclosed}

-- a text that does not end in `*/` is left as it is
unclosed_from : (text : List ℕ) (b : Bool) → b ≡ false → text ≡ cond b (take (length text - 2) text) text
unclosed_from text false e = refl
unclosed_from text true e = cc

pub left_unclosed : (text : List ℕ) → ((front : List ℕ) → text ≡ front ++ codes "*/" → ⊥) → text ≡ unclosed text
left_unclosed text none = elim (cases_Bool (bytes_eq (drop (length text - 2) text) (codes "*/"))) [
  | inl ends ↦ absurd (none (take (length text - 2) text)
      (sym (take-append-drop (length text - 2) text) ∙ ap (λ v. take (length text - 2) text ++ v) ((bytes_eq-Decides (drop (length text - 2) text) (codes "*/")).0 ends)))
  | inr other ↦ unclosed_from text (bytes_eq (drop (length text - 2) text) (codes "*/")) other
]
