use Rattle.cjc_shape.proofs.PreparedLaws.Sound.{are_ready}
use Rattle.cjc_shape.proofs.prepared.preparing.codes_of.Goals as goal

pub narrow_codes-requires-clause-ready : goal.narrow_codes-requires-clause-ready
narrow_codes-requires-clause-ready c = rw (c.items.ensures, c.items-2.ensures) (are_ready c.args.list.now
    c.requires.sound.0 c.args.judged.now c.requires.sound.1)

pub returns : goal.returns
returns c = λ rows are. c.narrow_codes.ensures rows (rw (c.items.ensures, c.items-2.ensures) are)
