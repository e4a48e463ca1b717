use Rattle.cjc_narrow_proof.proofs.SelectionLaws.Switches.{tableswitch, lookupswitch, empty_table, empty_pairs}
use Rattle.cjc_narrow_proof.proofs.selection.switches_agree.Goals as goal

pub returns-clause-tableswitch : goal.returns-clause-tableswitch
returns-clause-tableswitch c = λ by l r m s small other. tableswitch by l r m s small other

pub returns-clause-lookupswitch : goal.returns-clause-lookupswitch
returns-clause-lookupswitch c = λ by l r m s small other. lookupswitch by l r m s small other

pub returns-clause-empty_table : goal.returns-clause-empty_table
returns-clause-empty_table c = λ by l r m s small other. empty_table by l r m s small other

pub returns-clause-empty_pairs : goal.returns-clause-empty_pairs
returns-clause-empty_pairs c = λ by l r m s small other. empty_pairs by l r m s small other
