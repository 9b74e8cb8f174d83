use Rattle.std.proofs.Common.{◌≡◌, None, sym, ap, subst, ◌∙◌, inl, inr, option_map}
use Rattle.written_types.specs.Written.{segment_view}
use Rattle.open_types.specs.Open.{open_view, opens_view}
use Rattle.resolving.specs.Known.{known}
use Rattle.resolving.specs.Names.{types_of, arguments_of, meaning}
use Rattle.resolving.specs.Resolved.{meant, wrong_arity, IsRefusedFor}
use Rattle.resolving.proofs.Stands.{stand-segment, wrong}
use Rattle.resolving.proofs.Counted.{view-ident}
use Rattle.resolving.proofs.resolve.resolve_name.Goals as goal

pub returns-in_default : goal.returns-in_default
returns-in_default c =
    let p = known c.args.names.now in
    let s = segment_view c.args.segment.now in
    let ts = opens_view c.args.arguments in
    let m = c.segment_meaning-meaning.result in
    let none : meant p m ts ≡ None = sym c.in_ok-ty.ensures ∙ ap (option_map open_view) c.in-None.is in
    let here : meant p (meaning p s) ts ≡ None = ap (λ x. meant p x ts) (sym c.segment_meaning-meaning.ensures) ∙ none in
    record {
      resolved = tt;
      refused = elim c.arity.ensures [
        | inl memory ↦ inl memory
        | inr refusal ↦
            inr (inr (inl (
              wrong p (meaning p s) (types_of p (arguments_of s)) ts (stand-segment p s ts c.requires) here (λ e. c.in_default.not-Unknown (c.segment_meaning-meaning.ensures ∙ e)),
              subst (λ x. IsRefusedFor (wrong_arity x) c.arity.result) (sym (view-ident c.args.segment.now)) refusal,
            )))
      ];
    }
