use Rattle.cjc_card_acts.proofs.Nibbles.{class_in, class_shorter}
use Rattle.cjc_card_acts.proofs.types.class_type.Goals as goal

pub returns : goal.returns
returns c = λ n rest e is. (
  class_in c.args.nibbles.now n rest c.if-nibbles-lt5.false e is,
  class_shorter
      c.args.nibbles.now c.if-nibbles-lt5.false,
)
