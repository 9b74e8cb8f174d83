-- Words that are taken one after the other.
use Rattle.std.proofs.Common.{◌≡◌, ◌∙◌, ◌<◌, ◌≤◌, ℕ, List, [], ◌∷◌, length, get_or, map, Err, String, Global, string_bytes, ap, sym, arith}
use Rattle.file_runs.specs.Words.{with_word, and_then, after, nothing_asked, at_end, finished, asked, Answers}
use Rattle.file_runs.specs.declared.arguments.State.{State}
use Rattle.file_runs.specs.declared.arguments.Stop.{Stop}
use Rattle.file_runs.specs.declared.arguments.Stop.TheVariants.{Memory, Misused}

-- where no word is left, what the last one leaves is asked for
pub all_taken : (words rest : List (String Global)) (s : State) → length rest < 1 → after (map string_bytes rest) s ≡ after (map string_bytes words) nothing_asked
    → asked (map string_bytes words) ≡ at_end s.pending s.request
unfolding asked
all_taken words [] s none e = ap finished (sym e)
all_taken words (word ∷ rest) s none e = absurd (omega arith)

-- where a word is misused, so are all
pub stopped : (words rest : List (String Global)) (word : String Global) (text : List ℕ) (s : State) (stop : Stop) → 1 ≤ length rest → word ≡ get_or rest 0 word → text ≡ string_bytes word
    → after (map string_bytes rest) s ≡ after (map string_bytes words) nothing_asked → Answers (with_word s.pending text s) (Err stop) → Answers (asked (map string_bytes words)) (Err stop)
unfolding asked
stopped words [] word text s stop some is reads e said = absurd (omega arith)
stopped words (w ∷ rest) word text s Memory some is reads e said = tt
stopped words (w ∷ rest) word text s (Misused misuse) some is reads e said =
    let step = ap (λ (v : List ℕ). with_word s.pending v s) (sym (reads ∙ ap string_bytes is)) ∙ said in
    ap finished (sym e ∙ ap (and_then (after (map string_bytes rest))) step)
