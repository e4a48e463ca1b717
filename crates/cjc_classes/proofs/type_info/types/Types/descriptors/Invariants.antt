use Rattle.std.proofs.Common.{◌≡◌, map, take}
use Rattle.cjc_components.specs.Types.{type_descriptor}
use Rattle.cjc_classes.proofs.type_info.types.Types.descriptors.Given as goal

abbrev pub invariant-loop-place : goal.invariant-loop-place
invariant-loop-place l = let t = l.self in l.row ≡ map type_descriptor (take l.place t.types)
