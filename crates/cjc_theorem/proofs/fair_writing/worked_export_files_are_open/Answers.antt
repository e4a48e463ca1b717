use Rattle.std.specs.Prelude.{◌≡◌, [], ◌∷◌, true}
use Rattle.std.proofs.Common.{refl}
use Rattle.cjc_theorem.specs.FairExports.Worked.{framework, lang, q}
use Rattle.cjc_theorem.proofs.FairWriting.Test.{are_open, open_class, tested_exports_are_open}
use Rattle.cjc_theorem.proofs.fair_writing.worked_export_files_are_open.Goals as goal

lang_is_open : are_open (lang ∷ []) ≡ true
unfolding are_open open_class
lang_is_open = refl

all_are_open : are_open (lang ∷ q ∷ framework ∷ []) ≡ true
unfolding are_open open_class
all_are_open = refl

pub returns-clause-alone : goal.returns-clause-alone
returns-clause-alone c = tested_exports_are_open (lang ∷ []) lang_is_open

pub returns-clause-together : goal.returns-clause-together
returns-clause-together c = tested_exports_are_open (lang ∷ q ∷ framework ∷ []) all_are_open
