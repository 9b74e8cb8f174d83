use Rattle.std.proofs.Common.{sym, ◌∙◌}
use Rattle.resolving.specs.Known.{known}
use Rattle.resolving.proofs.Taken.{other_count, free_declared, named_declared}
use Rattle.resolving.proofs.arguments.declared_with.Goals as goal

pub returns-then-len-parameters_at : goal.returns-then-len-parameters_at
returns-then-len-parameters_at c =
    other_count (known c.args.names.now) c.args.place c.args.arguments (λ e. c.if-len-parameters_at.true (c.len.ensures ∙ e ∙ sym c.parameters_at.ensures))

pub returns-then-hold_free : goal.returns-then-hold_free
returns-then-hold_free c =
    free_declared (known c.args.names.now) c.args.place c.args.arguments c.as_slice.result.now c.as_slice.ensures (sym c.len.ensures ∙ c.if-len-parameters_at.false ∙ c.parameters_at.ensures) c.if-hold_free.ensures

pub returns : goal.returns
returns c =
    named_declared (known c.args.names.now) c.args.place c.args.arguments c.as_slice.result.now c.as_slice.ensures (sym c.len.ensures ∙ c.if-len-parameters_at.false ∙ c.parameters_at.ensures) c.if-hold_free.ensures
