use Rattle.std.proofs.Common.{◌≡◌, take}
use Rattle.std.specs.List.{flat_map}
use Rattle.cjc_classes.specs.Descriptor.Working.Described.{classes_at, inputs_of}
use Rattle.cjc_classes.proofs.descriptor.classes.classes_of.Given as goal

abbrev pub invariant-loop-number : goal.invariant-loop-number
invariant-loop-number l = l.row ≡ flat_map (classes_at (inputs_of l.parts)) (take l.number-index l.order)
