use Rattle.std.proofs.Common.{◌≡◌, take, map}
use Rattle.cjc_components.specs.Class.{implemented}
use Rattle.cjc_classes.specs.ClassInfo.Refs.{ref_of}
use Rattle.cjc_classes.proofs.class_info.entries.implemented_interfaces.Given as goal

abbrev pub invariant-loop-map : goal.invariant-loop-map
invariant-loop-map l = l.row ≡ map (implemented (ref_of l.refs)) (take l.map-index l.maps)
