use Rattle.std.proofs.Common.{sym, ◌∙◌}
use Rattle.cjc_world.proofs.Stepping.{bools-same}
use Rattle.cjc_world.proofs.circular.are_same.Goals as goal

pub returns : goal.returns
returns c = λ e. bools-same c.args.left.now c.args.right.now (sym c.eq.ensures ∙ e)
