use Rattle.cjc_narrow_proof.proofs.LawsLaws.OwnTypes.{called_word_desc, own_word_desc}
use Rattle.cjc_narrow_proof.proofs.laws.methods_have_word_types.Goals as goal

pub returns-clause-own : goal.returns-clause-own
returns-clause-own c = λ list files codes settings is code class method tree of listed d short e m. own_word_desc list
    files codes settings is code class method tree of listed d short e m

pub returns-clause-called : goal.returns-clause-called
returns-clause-called c = λ list files codes settings is class op id at d short e m. called_word_desc list files codes
    settings is class op id at d short e m
