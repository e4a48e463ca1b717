use Rattle.cjc_narrow_proof.proofs.LawsLaws.ClassNames.{each_name, own_name}
use Rattle.cjc_narrow_proof.proofs.laws.class_names_are_spelt.Goals as goal

pub returns-clause-own : goal.returns-clause-own
returns-clause-own c = λ list files codes settings is spelt n class at. own_name files list is.listed is.world spelt n
    class at

pub returns-clause-found : goal.returns-clause-found
returns-clause-found c = λ list files codes settings is spelt name d e. each_name files list is.listed is.world spelt
    name d e
