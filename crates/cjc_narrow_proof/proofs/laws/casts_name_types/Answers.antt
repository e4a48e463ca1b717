use Rattle.cjc_narrow_proof.proofs.LawsLaws.Casts.{cast_there, test_there}
use Rattle.cjc_narrow_proof.proofs.laws.casts_name_types.Goals as goal

pub returns-clause-casts : goal.returns-clause-casts
returns-clause-casts c = λ list files codes settings is spelt class name at. cast_there list files codes settings is
    spelt class name at

pub returns-clause-tests : goal.returns-clause-tests
returns-clause-tests c = λ list files codes settings is spelt class name at. test_there list files codes settings is
    spelt class name at
