use Rattle.std.proofs.Common.{◌≡◌, ◌+◌, ◌++◌, drop}
use Rattle.cjc_classes.specs.Descriptor.Working.Described.{inputs_of, own_methods_at}
use Rattle.cjc_classes.proofs.descriptor.methods.put_own.Given as goal

abbrev pub invariant-loop-place : goal.invariant-loop-place
invariant-loop-place l = l.row ++ own_methods_at (inputs_of l.parts) l.number (l.first + l.place)
    (drop l.place l.methods) ≡ l.fn.row ++ own_methods_at (inputs_of l.parts) l.number l.first l.methods
