use Rattle.cjc_narrow_proof.proofs.SelectionLaws.Pushes.{constant_field}
use Rattle.cjc_narrow_proof.proofs.SelectionLaws.Puts.{getstatic, putstatic}
use Rattle.cjc_narrow_proof.proofs.selection.static_fields_are_met_alike.Goals as goal

pub returns-clause-getstatic : goal.returns-clause-getstatic
returns-clause-getstatic c = getstatic

pub returns-clause-putstatic : goal.returns-clause-putstatic
returns-clause-putstatic c = putstatic

pub returns-clause-constant : goal.returns-clause-constant
returns-clause-constant c by l r m z s inside named is = constant_field by l r m z s inside named is
