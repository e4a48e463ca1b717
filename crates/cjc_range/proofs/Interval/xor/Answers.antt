use Rattle.cjc_range.proofs.Bits.{xor_holds}
use Rattle.cjc_range.proofs.Interval.xor.Goals as goal

pub returns-clause-holds : goal.returns-clause-holds
returns-clause-holds c x y h k =
    let is = c.of_bits.ensures in
    xor_holds c.args.self c.args.other c.of_bits.result x y is.left is.right is.row h k
