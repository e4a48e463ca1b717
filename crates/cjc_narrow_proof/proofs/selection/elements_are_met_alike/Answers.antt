use Rattle.cjc_narrow_proof.proofs.SelectionLaws.Elements.{baload, saload, bastore, sastore}
use Rattle.cjc_narrow_proof.proofs.SelectionLaws.ReferenceItems.{aaload, aastore}
use Rattle.cjc_narrow_proof.proofs.selection.elements_are_met_alike.Goals as goal

pub returns-clause-baload : goal.returns-clause-baload
returns-clause-baload c = λ by l r m i t within near all lie. baload by l r m i t near within lie all

pub returns-clause-saload : goal.returns-clause-saload
returns-clause-saload c = λ by l r m i t within near all lie. saload by l r m i t near within lie all

pub returns-clause-aaload : goal.returns-clause-aaload
returns-clause-aaload c = λ by l r m i within items near all pass. aaload by l r m i near within items all pass

pub returns-clause-bastore : goal.returns-clause-bastore
returns-clause-bastore c = λ by l r m i s within near all small. bastore by l r m i s near within all small

pub returns-clause-sastore : goal.returns-clause-sastore
returns-clause-sastore c = λ by l r m i s within near all. sastore by l r m i s near within all

pub returns-clause-aastore : goal.returns-clause-aastore
returns-clause-aastore c = λ by l r m i within values near all tells. aastore by l r m i near within values all tells
