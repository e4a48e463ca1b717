use Rattle.cjc_theorem.proofs.AlikeLaws.MetLaws.KeySources.{key_met}
use Rattle.cjc_theorem.proofs.AlikeLaws.MetLaws.There.{key_desc}
use Rattle.cjc_theorem.proofs.AlikeLaws.MetLaws.Types.{all_known}
use Rattle.cjc_theorem.proofs.alike.met_laws.types_are_known.Goals as goal

pub returns : goal.returns
returns c = λ list files judged p laid is k desc e. all_known list judged.codes p is files judged laid
    (λ j key at d h. key_desc list judged.codes p is key (key_met list judged.codes p is
    (c.calls_of_files_have_opcodes.ensures list judged.codes p is.checked) j key at) d h) k desc e
