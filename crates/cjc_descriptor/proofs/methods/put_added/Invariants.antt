use Rattle.std.proofs.Common.{◌≡◌, ◌+◌, ◌++◌, drop}
use Rattle.cjc_descriptor.specs.Working.Described.{added_at, inputs_of}
use Rattle.cjc_descriptor.proofs.methods.put_added.Given as goal

abbrev pub invariant-loop-place : goal.invariant-loop-place
invariant-loop-place l = l.row ++ added_at (inputs_of l.parts) l.number (l.first + l.place) (drop l.place l.added) ≡ l.fn.row ++ added_at (inputs_of l.parts) l.number l.first l.added
