use Rattle.cjc_types.proofs.Above.{above_from_same}
use Rattle.cjc_types.proofs.method.MethodFlow.is_above.Goals as goal

pub returns-clause-above : goal.returns-clause-above
returns-clause-above c = λ h. above_from_same c.args.self.now.max_locals c.args.row.now c.args.state.now c.requires.row
    c.requires.state (c.is_above.ensures h)
