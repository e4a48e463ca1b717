use Rattle.std.specs.Prelude.{◌≡◌, [], ◌∷◌, true}
use Rattle.std.proofs.Common.{refl}
use Rattle.cjc_theorem.proofs.FairExports.Test.{agree, are_fair, fair_class, members_above, one_to_one}
use Rattle.cjc_theorem.proofs.FairExports.Test.{tested_exports_are_fair}
use Rattle.cjc_theorem.proofs.fair_exports.worked_export_files_are_fair.Goals as goal
use Rattle.cjc_theorem.specs.FairExports.Worked.{framework, lang, q}
use Rattle.cjc_world.specs.Classes.{class_named}
use Rattle.cjc_world.specs.Supertypes.{supertypes_within, supertypes}

lang_is_fair : are_fair (lang ∷ []) ≡ true
unfolding are_fair fair_class members_above one_to_one agree supertypes supertypes_within class_named
lang_is_fair = refl

all_are_fair : are_fair (lang ∷ q ∷ framework ∷ []) ≡ true
unfolding are_fair fair_class members_above one_to_one agree supertypes supertypes_within class_named
all_are_fair = refl

pub returns-clause-alone : goal.returns-clause-alone
returns-clause-alone c = tested_exports_are_fair (lang ∷ []) lang_is_fair

pub returns-clause-together : goal.returns-clause-together
returns-clause-together c = tested_exports_are_fair (lang ∷ q ∷ framework ∷ []) all_are_fair
