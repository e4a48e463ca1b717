use Rattle.std.proofs.Common.{◌≡◌, ℕ, List, drop}
use Rattle.std.specs.Prelude.{option_map}
use Rattle.cjc_components.specs.LowerCardSemantics.Machine.Classes.{external_from, or_else}
use Rattle.cjc_components.specs.Names.{ref_to}
use Rattle.cjc_classes.specs.ClassInfo.Refs.{ref_in}
use Rattle.cjc_classes.proofs.class_info.outside.note_files.Given as goal

abbrev pub invariant-loop-file : goal.invariant-loop-file
invariant-loop-file l =
    (x : List ℕ) → or_else (ref_in l.refs x) (option_map ref_to (external_from l.file (drop l.file l.exports) x))
    ≡ or_else (ref_in l.fn.refs x) (option_map ref_to (external_from 0 l.exports x))
