use Rattle.cjc_check_tables.proofs.MembersLaws.FieldPlaces.{classes_more, classes_all}
use Rattle.std.proofs.Common.{ap, ◌∙◌, List}
use Rattle.std.specs.Prelude.{◌||◌}
use Rattle.cjc_capread.specs.declared.tree.FieldDescriptor.{FieldDescriptor}
use Rattle.indexmap.specs.IndexSet.{contains}
use Rattle.cjc_check_tables.specs.Members.Working.Fields.{has_place, same_place}
use Rattle.cjc_check_tables.proofs.members.fields.fields_of_classes.Goals as goal

pub loop-class-preserved : goal.loop-class-preserved
loop-class-preserved c = λ place. classes_more c.loop-class.class-index c.class-item.result c.args.classes.now place _ _
    _ c.loop-class-test.true c.class-item.is
    (c.in_ok-put_fields.ensures place ∙ ap (λ (fs : List FieldDescriptor). contains same_place c.loop-class.set place
    || has_place fs place) c.items.ensures) (c.loop-class.invariant place)

pub returns : goal.returns
returns c = λ place. classes_all c.loop-class.class-index c.args.classes.now place _ _ c.loop-class-test.false
    (c.loop-class.invariant place)
