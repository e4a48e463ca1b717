use Rattle.cjc_range.proofs.Order.{add_word, sub_word, mul_word, div_word, rem_word, neg_word, shl_word, shr_word}
use Rattle.cjc_range.proofs.Order.{to_byte_word, to_short_word, join_word}
use Rattle.cjc_range.proofs.OrderBits.{ushr_word, and_word, or_word}
use Rattle.cjc_range.proofs.Rounding.{round_word}
use Rattle.cjc_range.proofs.laws.rows_stay_words.Goals as goal

pub returns-clause-add : goal.returns-clause-add
returns-clause-add c = add_word

pub returns-clause-sub : goal.returns-clause-sub
returns-clause-sub c = sub_word

pub returns-clause-mul : goal.returns-clause-mul
returns-clause-mul c = mul_word

pub returns-clause-div : goal.returns-clause-div
returns-clause-div c = div_word

pub returns-clause-rem : goal.returns-clause-rem
returns-clause-rem c = rem_word

pub returns-clause-neg : goal.returns-clause-neg
returns-clause-neg c = neg_word

pub returns-clause-shl : goal.returns-clause-shl
returns-clause-shl c = shl_word

pub returns-clause-shr : goal.returns-clause-shr
returns-clause-shr c = shr_word

pub returns-clause-ushr : goal.returns-clause-ushr
returns-clause-ushr c = ushr_word

pub returns-clause-and : goal.returns-clause-and
returns-clause-and c = and_word

pub returns-clause-or_xor : goal.returns-clause-or_xor
returns-clause-or_xor c = or_word

pub returns-clause-to_byte : goal.returns-clause-to_byte
returns-clause-to_byte c = to_byte_word

pub returns-clause-to_short : goal.returns-clause-to_short
returns-clause-to_short c = to_short_word

pub returns-clause-join : goal.returns-clause-join
returns-clause-join c = join_word

pub returns-clause-round : goal.returns-clause-round
returns-clause-round c = round_word
