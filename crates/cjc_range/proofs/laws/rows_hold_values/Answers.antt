use Rattle.cjc_range.proofs.Spans.{add_holds, sub_holds, mul_holds, div_holds, rem_holds, neg_holds, shl_holds}
use Rattle.cjc_range.proofs.Spans.{shr_holds, ushr_holds, to_byte_holds, to_short_holds}
use Rattle.cjc_range.proofs.Bits.{word_fits, or_holds, xor_holds, and_holds, or_row_fits, and_row_fits}
use Rattle.cjc_range.proofs.Order.{held_wider}
use Rattle.cjc_range.proofs.Rounding.{round_within}
use Rattle.cjc_range.specs.Rows.{or_row, and_row}
use Rattle.cjc_range.specs.Landmarks.{round_row}
use Rattle.cjc_range.proofs.laws.rows_hold_values.Goals as goal

pub returns-clause-add : goal.returns-clause-add
returns-clause-add c = λ s t x y ws wt h k. add_holds s t x y h k

pub returns-clause-sub : goal.returns-clause-sub
returns-clause-sub c = λ s t x y ws wt h k. sub_holds s t x y h k

pub returns-clause-mul : goal.returns-clause-mul
returns-clause-mul c = λ s t x y ws wt h k. mul_holds s t x y h k

pub returns-clause-div : goal.returns-clause-div
returns-clause-div c = λ s t x y ws wt h k some. div_holds s t x y h k

pub returns-clause-rem : goal.returns-clause-rem
returns-clause-rem c = λ s t x y ws wt h k some. rem_holds s t x y h k some

pub returns-clause-neg : goal.returns-clause-neg
returns-clause-neg c = λ s x ws h. neg_holds s x h

pub returns-clause-shl : goal.returns-clause-shl
returns-clause-shl c = λ s t x y ws wt h k. shl_holds s t x y h k

pub returns-clause-shr : goal.returns-clause-shr
returns-clause-shr c = λ s t x y ws wt h k. shr_holds s t x y h k

pub returns-clause-ushr : goal.returns-clause-ushr
returns-clause-ushr c = λ s t x y ws wt h k. ushr_holds s t x y (word_fits s x ws h) h k

pub returns-clause-and : goal.returns-clause-and
returns-clause-and c = λ s t x y ws wt h k. and_holds s t (and_row s t) x y ws wt (and_row_fits s t ws wt) h k

pub returns-clause-or : goal.returns-clause-or
returns-clause-or c = λ s t x y ws wt h k. or_holds s t (or_row s t) x y ws wt (or_row_fits s t ws wt) h k

pub returns-clause-xor : goal.returns-clause-xor
returns-clause-xor c = λ s t x y ws wt h k. xor_holds s t (or_row s t) x y ws wt (or_row_fits s t ws wt) h k

pub returns-clause-to_byte : goal.returns-clause-to_byte
returns-clause-to_byte c = λ s x ws h. to_byte_holds s x h

pub returns-clause-to_short : goal.returns-clause-to_short
returns-clause-to_short c = λ s x ws h. to_short_holds s x h

pub returns-clause-round : goal.returns-clause-round
returns-clause-round c = λ s x ws h. held_wider s (round_row s) x (round_within s ws) h
