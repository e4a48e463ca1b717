use Rattle.std.proofs.Common.{◌≡◌, ℕ, List, drop}
use Rattle.std.specs.Str.{bytes_eq}
use Rattle.indexmap.specs.IndexMap.{get}
use Rattle.cjc_type_info.specs.Working.Refs.{exported_ref, or_else}
use Rattle.cjc_type_info.proofs.class_refs.put_exported.Given as goal

abbrev pub invariant-loop-class : goal.invariant-loop-class
invariant-loop-class l = (x : List ℕ) → or_else (get bytes_eq l.refs x) (exported_ref l.file (drop l.class-index l.classes) x) ≡ or_else (get bytes_eq l.fn.refs x) (exported_ref l.file l.classes x)
