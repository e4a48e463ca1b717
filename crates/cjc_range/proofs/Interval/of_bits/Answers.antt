use Rattle.std.proofs.Common.{arith}
use Rattle.cjc_range.proofs.Bits.{or_row_is, power_small}
use Rattle.cjc_range.proofs.Interval.of_bits.Goals as goal

pub below_power-requires-clause-bound : goal.below_power-requires-clause-bound
below_power-requires-clause-bound c =
    let is = c.next_power_of_two.ensures in
    power_small c.from.result c.next_power_of_two.result is.power is.upper_bound (omega arith)

pub returns-clause-row : goal.returns-clause-row
returns-clause-row c =
    let is = c.next_power_of_two.ensures in
    or_row_is c.args.self c.args.other _ c.from.result c.next_power_of_two.result (omega arith) is.power is.lower_bound
    is.upper_bound c.below_power.ensures
