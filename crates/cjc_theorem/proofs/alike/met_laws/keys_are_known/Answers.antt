use Rattle.cjc_theorem.proofs.AlikeLaws.MetLaws.KeySources.{key_met}
use Rattle.cjc_theorem.proofs.AlikeLaws.MetLaws.There.{key_known}
use Rattle.cjc_theorem.proofs.alike.met_laws.keys_are_known.Goals as goal

pub returns : goal.returns
returns c = λ list codes p is k key e. key_known list codes p is key (key_met list codes p is
    (c.calls_of_files_have_opcodes.ensures list codes p is.checked) k key e)
