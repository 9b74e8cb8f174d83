-- What is reported of warnings.
use Rattle.std.proofs.Common.{◌≡◌, ◌∙◌, ◌<◌, ◌≤◌, ◌≢◌, ◌++◌, ℕ, List, [], ◌∷◌, length, take, refl, ap, ap₂, sym, subst, arith}
use Rattle.std.specs.List.{flat_map}
use Rattle.std.proofs.Math.Nat.{min-le_left}
use Rattle.std.proofs.lemmas.List.{length-take, take_all}
use Rattle.telling.specs.Printable.{printable}
use Rattle.telling.specs.Told.{told_lines, more_line, first_told, all_told}
use Rattle.telling.specs.declared.told.Told.{Told}
use Rattle.file_derivation.specs.Warned.{AreFirst}
use Rattle.file_derivation.specs.declared.warned.Warnings.{Warnings}

first_again : (all : List Told) → take 100 (take 100 all) ≡ take 100 all
first_again all = take_all 100 (take 100 all) (subst (λ n. n ≤ 100) (sym (length-take 100 all)) (min-le_left 100 (length all)))

-- the first hundred and their number tell of all
pub reported : (all told : List Told) (w : Warnings) → told ≡ w.told → AreFirst all w → first_told told w.count ≡ all_told all
reported all told w is first = ap₂ first_told (is ∙ first.0) first.1 ∙ ap (λ (v : List Told). printable (flat_map told_lines v ++ more_line (length all))) (first_again all)

pub none_counted : (all : List Told) (count : ℕ) → count ≡ length all → count ≡ 0 → all ≡ []
none_counted [] count is none = refl
none_counted (t ∷ all) count is none = absurd (omega arith)

pub some_counted : (all : List Told) (count : ℕ) → count ≡ length all → 0 < count → all ≢ []
some_counted all count is some none = let zero : length all ≡ 0 = ap length none in absurd (omega arith)
