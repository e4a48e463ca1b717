use Rattle.std.proofs.Common.{[], take}
use Rattle.cjc_jvm_link.specs.Starts.{AreStarts}
use Rattle.cjc_jvm_link.proofs.cells.Starts.note_arrays.Given as goal

abbrev pub invariant-loop-place : goal.invariant-loop-place
invariant-loop-place l = AreStarts (take l.place l.arrays) [] l.self
