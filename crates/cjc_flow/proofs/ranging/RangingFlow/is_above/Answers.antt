use Rattle.cjc_flow.proofs.Joining.{above_from_same}
use Rattle.cjc_flow.proofs.ranging.RangingFlow.is_above.Goals as goal

pub returns-clause-above : goal.returns-clause-above
returns-clause-above c = λ h. above_from_same c.args.self.now.body.max_locals c.args.row.now c.args.state.now
    c.requires.row c.requires.state (c.is_above.ensures h)
