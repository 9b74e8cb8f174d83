use Rattle.std.proofs.Common.{◌≡◌, ◌++◌, ◌+◌, ◌%◌, ℕ, List, zero, suc, sym, ap, ◌∙◌, append_assoc, arith}
use Rattle.std.proofs.lemmas.List.{append-nil}
use Rattle.std.specs.List.{flat_map, range_with_len}
use Rattle.samples.specs.Rings.{turn, name}
use Rattle.samples.specs.Samples.{declaration_text, numbered_text, type_text}
use Rattle.samples.proofs.source.sample_source.Goals as goal

-- one number more
one_more : (f : ℕ → List ℕ) (a n j : ℕ) → a + n ≡ j → flat_map f (range_with_len a (n + 1)) ≡ flat_map f (range_with_len a n) ++ f j
one_more f a zero j e = append-nil (f a) ∙ ap f (let same : a ≡ j = omega arith in same)
one_more f a (suc n) j e =
    let counted : suc n + 1 ≡ suc (n + 1) = omega arith in
    rw counted (ap (λ t. f a ++ t) (one_more f (a + 1) n j (omega arith)) ∙ sym (append_assoc (f a) (flat_map f (range_with_len (a + 1) n)) (f j)))

pub loop-number-preserved : goal.loop-number-preserved
loop-number-preserved c =
    let n = c.args.n in
    let i = c.loop-number.number in
    let behind : i + 1 ≡ suc i = omega arith in
    let said = c.as_str.ensures.value ∙ c.in_ok-declaration.ensures ∙ ap (λ k. declaration_text (turn i) (name i) (type_text (k % n))) behind in
    c.in_ok-push.ensures.ok ∙ ap (λ t. c.loop-number.text ++ t) said ∙ ap (λ t. t ++ numbered_text n i) c.loop-number.invariant ∙ sym (one_more (numbered_text n) 0 i i (omega arith))
