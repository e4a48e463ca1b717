use Rattle.std.proofs.Common.{map}
use Rattle.cjc_card_acts.specs.CardTypes.{types_in}
use Rattle.cjc_card_acts.specs.Told.{type_told}
use Rattle.cjc_card_acts.proofs.Nibbles.{all_said}
use Rattle.cjc_card_acts.proofs.types.types_in.Goals as goal

pub returns : goal.returns
returns c = all_said (map type_told c.loop-left.types) c.loop-left.left.now (types_in c.args.nibbles.now)
    c.in_default.len_below c.loop-left.invariant
