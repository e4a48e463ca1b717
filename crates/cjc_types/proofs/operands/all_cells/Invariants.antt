use Rattle.std.proofs.Common.{◌≡◌, take}
use Rattle.cjc_types.specs.Working.Parts.{bottom_up}
use Rattle.cjc_types.proofs.operands.all_cells.Given as goal

abbrev pub invariant-loop-part : goal.invariant-loop-part
invariant-loop-part l = l.all.items ≡ bottom_up (take l.part-index l.parts)
