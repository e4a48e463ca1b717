use Rattle.cjc_int_accepted.proofs.NamedStandLaws.{constant_stands, field_stands, static_stands}
use Rattle.cjc_int_accepted.proofs.named_stand.fields_stand.Goals as goal

pub returns-clause-constants : goal.returns-clause-constants
returns-clause-constants c = constant_stands

pub returns-clause-statics : goal.returns-clause-statics
returns-clause-statics c = static_stands

pub returns-clause-fields : goal.returns-clause-fields
returns-clause-fields c = field_stands
