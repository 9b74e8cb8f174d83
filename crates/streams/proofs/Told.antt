-- Lists and their fronts.
use Rattle.std.specs.Io.KnownBytes.{Consumes}
use Rattle.streams.specs.Told.{IsAll}
use Rattle.std.proofs.Common.{◌≡◌, ◌∙◌, ◌+◌, ◌<◌, ◌++◌, ℕ, List, Option, Some, None, length, take, drop, refl, ap, sym, arith, take-append-drop, ◌≤◌}
use Rattle.std.proofs.lemmas.Grind.{common_steps}
use Rattle.std.proofs.lemmas.List.{drop-drop, length-append}

-- what stands from a place on is a front of it, and the rest
pub front_and_rest : (at count : ℕ) (xs : List ℕ) → drop at xs ≡ take count (drop at xs) ++ drop (at + count) xs
front_and_rest at count xs = sym (take-append-drop count (drop at xs)) ∙ ap (λ ys. take count (drop at xs) ++ ys) (drop-drop count at xs)

-- a buffer whose front was filled from a place on has that front
pub filled_front : (at count : ℕ) (bytes buffer front : List ℕ) → front ≡ take count (drop at bytes) → count ≤ length (drop at bytes)
    → drop at bytes ≡ take count (front ++ drop count buffer) ++ drop (at + count) bytes
filled_front at count bytes buffer front is within =
    let same : take count (drop at bytes) ≡ take count (front ++ drop count buffer) = grind (arith, common_steps) in
    front_and_rest at count bytes ∙ ap (λ xs. xs ++ drop (at + count) bytes) same

-- a source that gave many bytes had many
pub longer_text : (old new : Option (List ℕ)) (bytes : List ℕ) (most : ℕ) → Consumes old new bytes → most < length bytes
    → (text : List ℕ) × IsAll old text × (most < length text)
longer_text None new bytes most given long = (bytes, tt, long)
longer_text (Some xs) None bytes most given long = absurd given
longer_text (Some xs) (Some ys) bytes most given long = (xs, refl, omega (arith, ap length given, length-append bytes ys))
