use Rattle.std.proofs.Common.{arith}
use Rattle.cjc_world.proofs.Indexing.{all_counted}
use Rattle.cjc_world.proofs.spot.are_counted.Goals as goal

pub returns : goal.returns
returns c = λ _. all_counted c.args.classes.now (λ k d l. c.loop-class.invariant k d (omega (
  arith,
  c.loop-class-test.false,
)))
