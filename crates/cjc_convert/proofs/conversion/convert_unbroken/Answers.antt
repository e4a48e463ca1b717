use Rattle.cjc_convert.proofs.Converting.{form_with, converted_from, not_built_is}
use Rattle.cjc_convert.proofs.conversion.convert_unbroken.Goals as goal

pub made_for-requires-clause-form : goal.made_for-requires-clause-form
made_for-requires-clause-form c = form_with _ _ _ (c.in-Some.ensures.found c.args.files.now (rw c.items.ensures c.requires.judged.read))

pub made_for-requires-clause-import : goal.made_for-requires-clause-import
made_for-requires-clause-import c = (c.in-Some.ensures.found c.args.files.now (rw c.items.ensures c.requires.judged.read)).small

pub returns-in-Some-clause-converted : goal.returns-in-Some-clause-converted
returns-in-Some-clause-converted c = converted_from _ _ _ _ c.requires.judged.unbroken (c.in-Some.ensures.found c.args.files.now (rw c.items.ensures c.requires.judged.read)) c.made_for.ensures.made

pub returns-in-None-clause-refused : goal.returns-in-None-clause-refused
returns-in-None-clause-refused c = not_built_is _ _ _ c.requires.judged.unbroken (c.in-None.ensures.none c.args.files.now (rw c.items.ensures c.requires.judged.read)) (rw c.items-in-None.ensures at c.refused.ensures)
