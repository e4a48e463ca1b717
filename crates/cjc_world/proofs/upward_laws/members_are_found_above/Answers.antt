use Rattle.cjc_world.proofs.UpwardLaws.Lines.{field_found_above, method_found_above}
use Rattle.cjc_world.proofs.upward_laws.members_are_found_above.Goals as goal

pub returns-clause-methods : goal.returns-clause-methods
returns-clause-methods c = method_found_above

pub returns-clause-fields : goal.returns-clause-fields
returns-clause-fields c = field_found_above
