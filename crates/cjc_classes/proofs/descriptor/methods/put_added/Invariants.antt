use Rattle.std.proofs.Common.{◌≡◌, ◌+◌, ◌++◌, drop}
use Rattle.cjc_classes.specs.Descriptor.Working.Described.{added_at, inputs_of}
use Rattle.cjc_classes.proofs.descriptor.methods.put_added.Given as goal

abbrev pub invariant-loop-place : goal.invariant-loop-place
invariant-loop-place l = l.row ++ added_at (inputs_of l.parts) l.number (l.first + l.place) (drop l.place l.added)
    ≡ l.fn.row ++ added_at (inputs_of l.parts) l.number l.first l.added
