use Rattle.std.proofs.Common.{◌≡◌, drop}
use Rattle.std.specs.Prelude.{◌||◌, flat_map}
use Rattle.indexmap.specs.IndexSet.{contains}
use Rattle.cjc_capread.specs.declared.tree.ClassDescriptor.{ClassDescriptor}
use Rattle.cjc_capread.specs.declared.tree.FieldPlace.{FieldPlace}
use Rattle.cjc_check_tables.specs.Members.Working.Fields.{has_place, same_place}
use Rattle.cjc_check_tables.proofs.members.fields.fields_of_classes.Given as goal

abbrev pub invariant-loop-class : goal.invariant-loop-class
invariant-loop-class l = (place : FieldPlace) → (contains same_place l.set place
    || has_place (flat_map (λ (d : ClassDescriptor). d.fields) (drop l.class-index l.classes)) place)
    ≡ has_place (flat_map (λ (d : ClassDescriptor). d.fields) l.classes) place
