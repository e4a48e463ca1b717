use Rattle.std.proofs.Common.{◌≡◌, ℕ, List, drop}
use Rattle.std.specs.Prelude.{option_map}
use Rattle.cjc_components.specs.LowerCapRead.declared.tree.ClassRef.TheVariants.{Inside}
use Rattle.cjc_components.specs.LowerCardSemantics.Machine.Classes.{or_else}
use Rattle.cjc_world.specs.Classes.{all_classes}
use Rattle.cjc_classes.specs.ClassInfo.Refs.{ref_in}
use Rattle.cjc_classes.specs.ClassInfo.Infos.{bytes_at, end_of, number_named, spot_in}
use Rattle.cjc_classes.proofs.class_info.starts.note_interfaces.Given as goal

abbrev pub invariant-loop-number : goal.invariant-loop-number
invariant-loop-number l = record {
  end : end_of (bytes_at (all_classes l.world) l.world.classes) l.at (drop l.number-index l.order)
      ≡ end_of (bytes_at (all_classes l.world) l.world.classes) l.first l.order;
  noted : (x : List ℕ)
      → or_else (ref_in l.refs x) (option_map Inside (spot_in (number_named l.world.classes)
      (bytes_at (all_classes l.world) l.world.classes) l.at (drop l.number-index l.order) x))
      ≡ or_else (ref_in l.fn.refs x) (option_map Inside (spot_in (number_named l.world.classes)
      (bytes_at (all_classes l.world) l.world.classes) l.first l.order x));
}
