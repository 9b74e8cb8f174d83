-- The reader by levels, and small facts of views.
use Rattle.std.proofs.Common.{◌≡◌, ℕ, zero, suc, ◌-◌, ◌<◌, false, List, [], ◌∷◌, length, refl, arith, Err, Result, sub-one}
use Rattle.tokens.specs.declared.token.TokenTree.{TokenTree}
use Rattle.words.specs.Words.{Word, words_view}
use Rattle.words.specs.Reading.{Fault, wrong, Fails, IsWrong, StopsAlike}
use Rattle.words.specs.declared.stopping.Stop.{Stop}
use Rattle.words.specs.declared.stopping.Stop.TheVariants as stop
use Rattle.type_grammar.specs.declared.starts.Bounds.{Bounds}
use Rattle.type_grammar.specs.Reading.{type_in, type_step, too_deep, is_end}

pub type_in_zero : (n : ℕ) (b : Bounds) (ws : List Word) → n ≡ 0 → type_in n b ws ≡ too_deep ws
unfolding type_in
type_in_zero zero b ws e = refl
type_in_zero (suc n) b ws e = absurd (omega arith)

pub type_in_suc : (n : ℕ) (b : Bounds) (ws : List Word) → 0 < n → type_in n b ws ≡ type_step b (type_in (n - 1)) ws
unfolding type_in
type_in_suc zero b ws h = absurd (omega arith)
type_in_suc (suc n) b ws h = rw sub-one refl

pub end_view : (ts : List TokenTree) → 0 < length ts → is_end (words_view ts) ≡ false
end_view [] h = absurd (omega arith)
end_view (t ∷ ts) h = refl

wrong_fails : {Y : Type 0} (s : Stop) (r : Result Y Fault) → IsWrong s → r ≡ Err wrong → Fails s r
wrong_fails (stop.Unexpected at) r h e = e
wrong_fails stop.Ended r h e = e
wrong_fails (stop.Deep at) r h e = absurd h
wrong_fails stop.Memory r h e = absurd h

-- stops of one kind tell of one failing
pub alike : {Y : Type 0} (s t : Stop) (r : Result Y Fault) → StopsAlike s t → Fails s r → Fails t r
alike (stop.Unexpected at) t r h e = wrong_fails t r h e
alike stop.Ended t r h e = wrong_fails t r h e
alike (stop.Deep at) t r h e = rw h e
alike stop.Memory t r h e = rw h tt
