use Rattle.std.proofs.Common.{◌≡◌, ℕ, List, drop}
use Rattle.std.specs.Prelude.{option_map}
use Rattle.std.specs.Str.{bytes_eq}
use Rattle.indexmap.specs.IndexMap.{get}
use Rattle.cjc_card.specs.Classes.{foreign_from}
use Rattle.cjc_components.specs.Names.{ref_to}
use Rattle.cjc_type_info.specs.Working.Refs.{or_else}
use Rattle.cjc_type_info.proofs.class_refs.put_exports.Given as goal

abbrev pub invariant-loop-file : goal.invariant-loop-file
invariant-loop-file l = (x : List ℕ) → or_else (get bytes_eq l.refs x) (option_map ref_to (foreign_from l.file (drop l.file l.exports) x)) ≡ or_else (get bytes_eq l.fn.refs x) (option_map ref_to (foreign_from 0 l.exports x))
