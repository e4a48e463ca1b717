use Rattle.std.proofs.Common.{◌≡◌, ℕ, List, drop}
use Rattle.std.specs.Str.{bytes_eq}
use Rattle.indexmap.specs.IndexMap.{get}
use Rattle.cjc_world.specs.Classes.{all_classes}
use Rattle.cjc_type_info.specs.Working.Refs.{listed_ref, or_else}
use Rattle.cjc_type_info.proofs.class_refs.put_listed.Given as goal

abbrev pub invariant-loop-place : goal.invariant-loop-place
invariant-loop-place l = (x : List ℕ) → or_else (get bytes_eq l.refs x) (listed_ref (drop l.place (all_classes l.world)) (drop l.place l.classes) x) ≡ or_else (get bytes_eq l.fn.refs x) (listed_ref (all_classes l.world) l.classes x)
