use Rattle.std.specs.Prelude.{FitsSigned}
use Rattle.std.proofs.Common.{rules}
use Rattle.std.specs.Int.{w32}
use Rattle.std.proofs.lemmas.Int.{to_z-of_z}
use Rattle.cjc_card_frame.proofs.frame.cells.Cells.increase_by.Goals as goal

pub returns-in-Some : goal.returns-in-Some
returns-in-Some c = λ room.
    let by = c.in-Some.by in
    let fits : FitsSigned w32 by = search rules in
    rw c.in-Some.ensures.some (simp to_z-of_z at (c.increase.ensures room))
