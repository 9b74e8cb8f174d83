use Rattle.std.proofs.Common.{◌≡◌, ◌∙◌, ◌-◌, ℕ, List, length, take, drop, min, ap, ap₂, arith}
use Rattle.std.proofs.lemmas.List.{take_min, drop_min}
use Rattle.telling.specs.Positions.{without_return}
use Rattle.telling.specs.Printable.{escaped}
use Rattle.telling.specs.Told.{begun, line_around, marks}
use Rattle.telling.specs.declared.told.Shown.{Shown}
use Rattle.telling.proofs.marked.shown_at.Goals as goal

shown_same : (line line' column column' : ℕ) (text text' below below' : List ℕ) → line ≡ line' → column ≡ column' → text ≡ text' → below ≡ below'
    → ◌≡◌ {A = Shown} (record { line = line; column = column; text = text; marks = below }) (record { line = line'; column = column'; text = text'; marks = below' })
shown_same line line' column column' text text' below below' p q r s = λ i. record { line = p i; column = q i; text = r i; marks = s i }

-- a part of a line that goes to a place in it, or to its end, and as much of what follows
parts_marked : (line front back : List ℕ) (mid at most much : ℕ) → mid ≡ min at (length line) → front ≡ take mid line → back ≡ drop mid line → much ≡ min most (length back)
    → marks front (take much back) ≡ marks (take at line) (take most (drop at line))
parts_marked line front back mid at most much is_mid is_front is_back is_much =
    ap₂ marks
    (is_front ∙ ap (λ n. take n line) is_mid ∙ take_min at line)
    (ap (λ n. take n back) is_much ∙ take_min most back ∙ ap (take most) (is_back ∙ ap (λ n. drop n line) is_mid ∙ drop_min at line))

pub returns : goal.returns
returns c =
    let text = c.args.text.now in
    let span = c.args.span in
    let marked : c.saturating_sub-marked.result ≡ begun text span.end - begun text span.start =
    c.saturating_sub-marked.ensures ∙ ap₂ (λ (a b : ℕ). a - b) c.begun.ensures c.begun-2.ensures in
    let around = c.as_slice.ensures.value ∙ c.in_ok-around.ensures.line in
    let line : c.without_return-line.result.now ≡ line_around c.args.place.now text span.start = c.without_return-line.ensures ∙ ap without_return around in
    shown_same _ _ _ _ _ _ _ _
    c.line_in.ensures
    c.column_in.ensures
    (c.in_ok-escaped.ensures ∙ ap escaped line)
    (c.in_ok-marks.ensures
    ∙ parts_marked c.without_return-line.result.now _ _ _ c.in_ok-around.front c.saturating_sub-marked.result _
    (c.min.ensures ∙ ap (λ n. min c.in_ok-around.front n) (omega arith)) c.split_at.ensures.front c.split_at.ensures.back
    (c.min-2.ensures ∙ ap (λ n. min c.saturating_sub-marked.result n) (omega arith))
    ∙ ap (λ n. marks (take c.in_ok-around.front c.without_return-line.result.now) (take n (drop c.in_ok-around.front c.without_return-line.result.now))) marked
    ∙ ap₂ (λ (n : ℕ) (cs : List ℕ). marks (take n cs) (take (begun text span.end - begun text span.start) (drop n cs))) c.in_ok-around.ensures.front line)
