use Rattle.std.proofs.Common.{◌≡◌, map, take}
use Rattle.cjc_classes.specs.Descriptor.Working.Described.{inputs_of, key_type}
use Rattle.cjc_classes.proofs.descriptor.classes.key_types.Given as goal

abbrev pub invariant-loop-key : goal.invariant-loop-key
invariant-loop-key l = l.row ≡ map (key_type (inputs_of l.parts)) (take l.key-index l.keys)
