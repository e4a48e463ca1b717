use Rattle.std.proofs.Common.{◌≡◌, ℕ, List, drop}
use Rattle.std.specs.Prelude.{option_map}
use Rattle.cjc_components.specs.LowerCapRead.declared.tree.ClassRef.TheVariants.{Outside}
use Rattle.cjc_components.specs.LowerCardSemantics.Machine.Classes.{or_else, token_named}
use Rattle.cjc_classes.specs.ClassInfo.Refs.{ref_in}
use Rattle.cjc_classes.proofs.class_info.outside.note_file.Given as goal

abbrev pub invariant-loop-class : goal.invariant-loop-class
invariant-loop-class l =
    (x : List ℕ) → or_else (ref_in l.refs x) (option_map (Outside l.file) (token_named (drop l.class-index l.classes)
    x)) ≡ or_else (ref_in l.fn.refs x) (option_map (Outside l.file) (token_named l.classes x))
