use Rattle.std.proofs.Common.{◌≡◌, ℕ, List, drop}
use Rattle.std.specs.Prelude.{option_map}
use Rattle.cjc_components.specs.LowerCapRead.declared.tree.ClassRef.TheVariants.{Inside}
use Rattle.cjc_components.specs.LowerCardSemantics.Machine.Classes.{or_else}
use Rattle.cjc_classes.specs.ClassInfo.Refs.{ref_in}
use Rattle.cjc_classes.specs.ClassInfo.Infos.{spot_in, table_bytes, table_named}
use Rattle.cjc_classes.proofs.class_info.starts.note_classes.Given as goal

abbrev pub invariant-loop-table : goal.invariant-loop-table
invariant-loop-table l =
    (x : List ℕ) → or_else (ref_in l.refs x) (option_map Inside (spot_in (table_named l.classes) table_bytes l.at
    (drop l.table-index l.tables) x))
    ≡ or_else (ref_in l.fn.refs x) (option_map Inside (spot_in (table_named l.classes) table_bytes l.first l.tables x))
