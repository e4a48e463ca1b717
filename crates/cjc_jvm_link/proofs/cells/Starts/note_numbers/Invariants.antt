use Rattle.std.proofs.Common.{take}
use Rattle.cjc_jvm_link.specs.Starts.{AreStarts}
use Rattle.cjc_jvm_link.proofs.cells.Starts.note_numbers.Given as goal

abbrev pub invariant-loop-number : goal.invariant-loop-number
invariant-loop-number l = AreStarts l.arrays (take l.number-index l.others) l.self
