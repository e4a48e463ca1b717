use Rattle.cjc_range.proofs.Order.{within_trans, add_monotone, sub_monotone, mul_monotone, div_monotone, rem_monotone}
use Rattle.cjc_range.proofs.Order.{neg_monotone, shl_monotone, shr_monotone, to_byte_monotone, to_short_monotone}
use Rattle.cjc_range.proofs.Order.{join_monotone}
use Rattle.cjc_range.proofs.OrderBits.{ushr_monotone, and_monotone, or_monotone}
use Rattle.cjc_range.proofs.Rounding.{round_monotone}
use Rattle.cjc_range.proofs.laws.intervals_are_monotone.Goals as goal

pub returns-clause-add : goal.returns-clause-add
returns-clause-add c = add_monotone

pub returns-clause-sub : goal.returns-clause-sub
returns-clause-sub c = sub_monotone

pub returns-clause-mul : goal.returns-clause-mul
returns-clause-mul c = mul_monotone

pub returns-clause-div : goal.returns-clause-div
returns-clause-div c = div_monotone

pub returns-clause-rem : goal.returns-clause-rem
returns-clause-rem c = rem_monotone

pub returns-clause-neg : goal.returns-clause-neg
returns-clause-neg c = neg_monotone

pub returns-clause-shl : goal.returns-clause-shl
returns-clause-shl c = shl_monotone

pub returns-clause-shr : goal.returns-clause-shr
returns-clause-shr c = shr_monotone

pub returns-clause-ushr : goal.returns-clause-ushr
returns-clause-ushr c = ushr_monotone

pub returns-clause-and : goal.returns-clause-and
returns-clause-and c = and_monotone

pub returns-clause-or_xor : goal.returns-clause-or_xor
returns-clause-or_xor c = or_monotone

pub returns-clause-to_byte : goal.returns-clause-to_byte
returns-clause-to_byte c = to_byte_monotone

pub returns-clause-to_short : goal.returns-clause-to_short
returns-clause-to_short c = to_short_monotone

pub returns-clause-join : goal.returns-clause-join
returns-clause-join c = join_monotone

pub returns-clause-round : goal.returns-clause-round
returns-clause-round c = round_monotone

pub returns-clause-fits : goal.returns-clause-fits
returns-clause-fits c = within_trans
