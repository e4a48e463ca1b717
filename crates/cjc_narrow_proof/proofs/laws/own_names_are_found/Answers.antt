use Rattle.cjc_narrow_proof.proofs.LawsLaws.Own.{class_by_name, flags_by_name}
use Rattle.cjc_narrow_proof.proofs.laws.own_names_are_found.Goals as goal

pub returns-clause-classes : goal.returns-clause-classes
returns-clause-classes c = λ list files codes settings is n class at. class_by_name files list is.listed is.world n
    class at

pub returns-clause-methods : goal.returns-clause-methods
returns-clause-methods c = λ list files codes settings is n k class method at there. flags_by_name files list is.listed
    is.world n class at k method there
