use Rattle.std.proofs.Common.{rules}
use Rattle.std.specs.Prelude.{FitsSigned}
use Rattle.std.specs.Int.{w32}
use Rattle.std.proofs.lemmas.Int.{to_z-of_z}
use Rattle.cjc_card_step.proofs.effects.operands.put_value.Goals as goal

pub returns-in_ok-put_number-in-Num : goal.returns-in_ok-put_number-in-Num
returns-in_ok-put_number-in-Num c =
    let fits : FitsSigned w32 c.in-Num.number = search rules in
    rw c.in-Num.is (simp to_z-of_z at c.in_ok-put_number-in-Num.ensures)

pub returns-in_ok-put_reference-in-Null : goal.returns-in_ok-put_reference-in-Null
returns-in_ok-put_reference-in-Null c = rw c.in-Null.is c.in_ok-put_reference-in-Null.ensures

pub returns-in_ok-put_reference-in-Obj : goal.returns-in_ok-put_reference-in-Obj
returns-in_ok-put_reference-in-Obj c = rw c.in-Obj.is c.in_ok-put_reference-in-Obj.ensures
