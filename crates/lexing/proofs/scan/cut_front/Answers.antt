use Rattle.std.proofs.Common.{◌≡◌, ◌≤◌, ◌<◌, ◌+◌, ◌-◌, ◌++◌, ℕ, List, length, arith, sym, ap, subst, ◌∙◌, refl, rules}
use Rattle.std.proofs.lemmas.Bool.{eqb-false}
use Rattle.std.specs.Str.{chars, IsUtf8, encode_utf8_all}
use Rattle.lexing.specs.Fronts.{count_open, open_after_piece}
use Rattle.lexing.proofs.CutLaws.{cuts_pushed, cuts_left, no_cuts, front_bytes, chars_nonempty}
use Rattle.lexing.proofs.FrontLaws.{count_pushed, open_few}
use Rattle.lexing.specs.RawStrings.{NoneCloses}
use Rattle.lexing.proofs.PieceLaws.{finds_longest, word_no_literal}
use Rattle.lexing.proofs.RawLaws.{none_left}
use Rattle.lexing.proofs.scan.cut_front.Goals as goal

pub returns-in-None-clause-refused : goal.returns-in-None-clause-refused
returns-in-None-clause-refused c = (
  c.first_char_span.ensures,
  λ all h.
      let left = c.pieces.invariant.leaves all h in
      let more = chars_nonempty c.pieces.rest.now c.pieces.invariant.is_text (eqb-false (length c.pieces.rest.now) 0 (sym c.pieces-test.ensures)) in
      no_cuts left.0 (length c.args.source.now - length c.pieces.rest.now) (chars c.pieces.rest.now) more c.in-None.ensures left.1,
)

pub unclosed_after-unclosed-requires-clause-found : goal.unclosed_after-unclosed-requires-clause-found
unclosed_after-unclosed-requires-clause-found c = word_no_literal (chars c.pieces.rest.now) c.in-Some.kind (chars c.in-Some.after.now) c.in-Some.ensures.0

pub pieces-preserved : goal.pieces-preserved
pieces-preserved c =
    let source = c.args.source.now in
    let rest = c.pieces.rest.now in
    let after = c.in-Some.after.now in
    let kept = c.pieces.invariant in
    let found = finds_longest (chars rest) c.in-Some.kind (chars after) c.in-Some.ensures.0 in
    let utf8 : IsUtf8 after = c.in-Some.ensures.2 in
    let fewer : length after < length rest = c.in-Some.ensures.1 in
    let within : length c.args.text.now ≤ length source = c.requires.within in
    let bytes : (front : List ℕ) → chars rest ≡ front ++ chars after → length source - length after ≡ (length source - length rest) + length (encode_utf8_all front) =
    λ front e. let taken = front_bytes rest after front kept.is_text utf8 e in omega (arith, within, kept.shorter) in record {
      is_text = utf8;
      shorter = omega (arith, kept.shorter, fewer);
      joins = cuts_pushed _ c.pieces.pieces _ (length source - length c.args.text.now) (length source - length rest) (length source - length after) (chars c.args.text.now) (chars rest) (chars after) c.in_ok-push-in-Some.ensures.ok c.in-Some.ensures.0 refl refl bytes kept.joins;
      leaves = λ all h.
          let left = kept.leaves all h in
          cuts_left left.0 (length source - length rest) (length source - length after) (chars rest) (chars after) c.in-Some.kind c.in-Some.ensures.0 bytes left.1;
      known = none_left c.unclosed_after-unclosed.result found.0 (chars after) (subst (NoneCloses c.unclosed_after-unclosed.result) found.1 c.unclosed_after-unclosed.ensures);
      counted = c.open_after_piece-depth.ensures ∙ ap (open_after_piece c.in-Some.kind) kept.counted ∙ sym (ap (count_open 0) c.in_ok-push-in-Some.ensures.ok ∙ count_pushed 0 c.pieces.pieces _);
      few = let more = open_few c.in-Some.kind c.pieces.depth in omega (arith, kept.few, fewer, more, c.open_after_piece-depth.ensures);
      closed = c.is_last-ended.ensures.closed;
      never = search rules;
      moves = λ e. omega (arith, kept.shorter, fewer);
    }
