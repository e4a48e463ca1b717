use Rattle.cjc_accepted_theorem.proofs.CardTypes.{card_types}
use Rattle.cjc_accepted_theorem.proofs.carded.converted_packages_have_card_types.Goals as goal

pub returns : goal.returns
returns c = λ list files judged p is. card_types list files judged p is.of_files is.laid (c.calls_have_opcodes.ensures
    list files judged is.laid.sound)
