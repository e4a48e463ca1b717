use Rattle.cjc_check_tables.proofs.MembersLaws.FieldPlaces.{fields_more, fields_all}
use Rattle.cjc_check_tables.proofs.members.fields.put_fields.Goals as goal

pub loop-field-preserved : goal.loop-field-preserved
loop-field-preserved c = λ place. fields_more c.loop-field.field-index _ c.args.fields.now place _ _ _
    c.loop-field-test.true (c.in_ok-insert_full.ensures.updates.0 place) (c.loop-field.invariant place)

pub returns : goal.returns
returns c = λ place. fields_all c.loop-field.field-index c.args.fields.now place _ _ c.loop-field-test.false
    (c.loop-field.invariant place)
