use Rattle.cjc_types.proofs.Onwards.{begun}
use Rattle.cjc_types.proofs.walk.TypeWalk.new.Goals as goal

pub invariant_of-result : goal.invariant_of-result
invariant_of-result c = let is = c.requires in begun c.args.method.now c.args.types.now is.0 is.1
