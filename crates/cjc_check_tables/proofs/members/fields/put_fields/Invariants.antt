use Rattle.std.proofs.Common.{◌≡◌, drop}
use Rattle.std.specs.Prelude.{◌||◌}
use Rattle.indexmap.specs.IndexSet.{contains}
use Rattle.cjc_capread.specs.declared.tree.FieldPlace.{FieldPlace}
use Rattle.cjc_check_tables.specs.Members.Working.Fields.{has_place, same_place}
use Rattle.cjc_check_tables.proofs.members.fields.put_fields.Given as goal

abbrev pub invariant-loop-field : goal.invariant-loop-field
invariant-loop-field l = (place : FieldPlace) → (contains same_place l.set place
    || has_place (drop l.field-index l.fields) place) ≡ (contains same_place l.fn.set place || has_place l.fields place)
