use Rattle.std.proofs.lemmas.Result.{IfOk-weaker}
use Rattle.gathering.specs.Stops.{IsKindHelp, IsHelpOfStop}
use Rattle.gathering.proofs.Stopping.{help_for}
use Rattle.gathering.proofs.stop_help.stop_help.Goals as goal

pub returns : goal.returns
returns c =
    let name = c.args.name.now in
    let text = c.args.text.now in
    IfOk-weaker c.kind_help.result (IsKindHelp name text c.kind.result) (IsHelpOfStop name text c.args.refusal.now) (λ help is. help_for name text c.args.refusal.now c.kind.result help c.kind.ensures is) c.kind_help.ensures
