use Rattle.std.proofs.Common.{◌≡◌, take}
use Rattle.std.specs.Prelude.{sum_by}
use Rattle.cjc_classes.specs.ClassInfo.Infos.{map_bytes}
use Rattle.cjc_classes.proofs.class_info.sizes.map_bytes.Given as goal

abbrev pub invariant-loop-map : goal.invariant-loop-map
invariant-loop-map l = l.bytes ≡ sum_by map_bytes (take l.map-index l.maps)
