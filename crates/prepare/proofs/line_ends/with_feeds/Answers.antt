use Rattle.std.proofs.Common.{◌≡◌, ◌∙◌, ◌++◌, ◌==◌, ℕ, List, [], ◌∷◌, Bool, true, false, chars, string_bytes, refl, ap, sym, append_assoc, append-nil, map-id, encode_utf8}
use Rattle.std.proofs.lemmas.Iterator.{YieldsList-from_chars}
use Rattle.std.proofs.lemmas.Iterator.Consumers.{YieldsList-end}
use Rattle.std.specs.Str.{encode_utf8_all}
use Rattle.prepare.specs.FileTexts.{with_feeds}
use Rattle.prepare.specs.Returns.{waiting, written_at}
use Rattle.prepare.proofs.Feeds.{one_step}
use Rattle.prepare.proofs.line_ends.with_feeds.Goals as goal
use Rattle.prepare.proofs.line_ends.with_feeds.Goals.{then-waits+in_ok-push, else-waits}

encoded : (front rest : List ℕ) → encode_utf8_all (front ++ rest) ≡ encode_utf8_all front ++ encode_utf8_all rest
encoded [] rest = refl
encoded (c ∷ cs) rest = ap (λ v. encode_utf8 c ++ v) (encoded cs rest) ∙ sym (append_assoc (encode_utf8 c) (encode_utf8_all cs) (encode_utf8_all rest))

pub loop-c-preserved : goal.loop-c-preserved
loop-c-preserved c = λ rest.
    let x = c.in-Some.c in
    let waits = c.loop-c.waits in
    let bytes = string_bytes c.loop-c.text in
    ap (λ v. encode_utf8_all (with_feeds v)) (append_assoc c.loop-c.yielded (x ∷ []) rest)
    ∙ c.loop-c.invariant (x ∷ rest)
    ∙ ap (λ v. bytes ++ encode_utf8_all v) (one_step waits x rest)
    ∙ ap (λ v. bytes ++ v) (encoded (written_at waits x) (with_feeds (waiting (x == 13) ++ rest)))
    ∙ sym (append_assoc bytes (encode_utf8_all (written_at waits x)) (encode_utf8_all (with_feeds (waiting (x == 13) ++ rest))))
    ∙ ap (λ v. v ++ encode_utf8_all (with_feeds (waiting (x == 13) ++ rest))) (sym c.in_ok-push_read.ensures)

at_end : (waits : Bool) → with_feeds (waiting waits ++ []) ≡ waiting waits
at_end true = refl
at_end false = refl

pub returns : goal.returns
returns c =
    let bytes = string_bytes c.loop-c.text in
    let end = YieldsList-end (YieldsList-from_chars c.args.source.now c.utf8.source cc) c.loop-c.yielded _ c.loop-c.yielded_by _ _ c.in-None.is c.next.ensures.steps in
    let yielded : c.loop-c.yielded ≡ chars c.args.source.now = sym (map-id c.loop-c.yielded) ∙ end.0 in
    let all : encode_utf8_all (with_feeds (chars c.args.source.now)) ≡ bytes ++ encode_utf8_all (waiting c.loop-c.waits) =
    ap (λ v. encode_utf8_all (with_feeds v)) (sym (append-nil c.loop-c.yielded ∙ yielded)) ∙ c.loop-c.invariant [] ∙ ap (λ v. bytes ++ encode_utf8_all v) (at_end c.loop-c.waits) in
    elim c.if-waits.branch [
      | then-waits+in_ok-push w ↦ c.from.ensures ∙ ap string_bytes w.text-is ∙ w.in_ok-push.ensures.bytes ∙ ap (λ v. bytes ++ v) (sym (append-nil (encode_utf8 13))) ∙ ap (λ v. bytes ++ encode_utf8_all (waiting v)) (sym w.if-waits.true) ∙ sym all
      | else-waits w ↦ c.from.ensures ∙ ap string_bytes w.text-is ∙ sym (append-nil bytes) ∙ ap (λ v. bytes ++ encode_utf8_all (waiting v)) (sym w.if-waits.false) ∙ sym all
    ]
