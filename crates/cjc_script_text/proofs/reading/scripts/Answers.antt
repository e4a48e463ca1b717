use Rattle.cjc_script_text.proofs.Decided.{scripted_spelt, spelt_scripted, scripted_broken, broken_scripted, one_script}
use Rattle.cjc_script_text.proofs.Decided.{one_refusal, not_both, always_one}
use Rattle.cjc_script_text.proofs.reading.scripts.Goals as goal

pub returns-clause-spells : goal.returns-clause-spells
returns-clause-spells c = λ name text s. (scripted_spelt name text s, spelt_scripted name text s)

pub returns-clause-breaks : goal.returns-clause-breaks
returns-clause-breaks c = λ name text r. (scripted_broken name text r, broken_scripted name text r)

pub returns-clause-script : goal.returns-clause-script
returns-clause-script c = λ text s t. one_script text s t

pub returns-clause-refusal : goal.returns-clause-refusal
returns-clause-refusal c = λ name text r s. one_refusal name text r s

pub returns-clause-both : goal.returns-clause-both
returns-clause-both c = λ name text s r. not_both name text s r

pub returns-clause-either : goal.returns-clause-either
returns-clause-either c = λ name text. always_one name text
