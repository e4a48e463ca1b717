use Rattle.std.specs.Prelude.{FitsSigned}
use Rattle.std.specs.Int.{w32}
use Rattle.std.proofs.lemmas.Int.{to_z-of_z}
use Rattle.cjc_card_step.proofs.effects.operands.put_number.Goals as goal

pub returns-in_ok-put_int-in-Int : goal.returns-in_ok-put_int-in-Int
returns-in_ok-put_int-in-Int c =
    let fits : FitsSigned w32 c.args.number = c.ranges.number in
    rw c.in-Int.is (simp to_z-of_z at c.in_ok-put_int-in-Int.ensures)

pub returns-in_ok-put_if_word-in-Byte : goal.returns-in_ok-put_if_word-in-Byte
returns-in_ok-put_if_word-in-Byte c =
    let fits : FitsSigned w32 c.args.number = c.ranges.number in
    rw c.in-Byte.is (simp to_z-of_z at c.in_ok-put_if_word-in-Byte.ensures)

pub returns-in_ok-put_if_word-in-Short : goal.returns-in_ok-put_if_word-in-Short
returns-in_ok-put_if_word-in-Short c =
    let fits : FitsSigned w32 c.args.number = c.ranges.number in
    rw c.in-Short.is (simp to_z-of_z at c.in_ok-put_if_word-in-Short.ensures)
