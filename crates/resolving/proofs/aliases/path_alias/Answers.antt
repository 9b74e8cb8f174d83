use Rattle.std.proofs.Common.{◌≡◌, Some, None, ap, ◌∙◌}
use Rattle.written_types.specs.Written.{segment_view}
use Rattle.resolving.specs.Known.{known}
use Rattle.resolving.specs.Expanding.{with_span}
use Rattle.resolving.proofs.Counted.{path_alias-at, view-ident}
use Rattle.resolving.proofs.aliases.path_alias.Goals as goal

pub returns-in-Some : goal.returns-in-Some
returns-in-Some c =
    let s = c.segment-item.result in
    let found = c.in-Some.ensures in
    let at = path_alias-at c.args.path.now c.as_slice.result.now s c.as_slice.ensures c.in-len1-up.len_at_least c.segment-item.is (known c.args.names.now) in
    (found.0, found.1, at ∙ ap (with_span (segment_view s)) found.2 ∙ ap (λ x. Some (found.0, x.span)) (view-ident s))

pub returns-in-None : goal.returns-in-None
returns-in-None c =
    let s = c.segment-item.result in
    let at = path_alias-at c.args.path.now c.as_slice.result.now s c.as_slice.ensures c.in-len1-up.len_at_least c.segment-item.is (known c.args.names.now) in
    at ∙ ap (with_span (segment_view s)) c.in-None.ensures
