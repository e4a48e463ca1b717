use Rattle.std.proofs.Common.{refl}
use Rattle.cjc_card_semantics.specs.Bytecode.Calculations.{swap_x}
use Rattle.cjc_card_semantics.specs.CapRead.Decoder.Decoded.{values}
use Rattle.cjc_card_frame.proofs.FrameLaws.Nibbles.{no_nibbles}
use Rattle.cjc_card_frame.proofs.frame.cells.Cells.swap_by.Goals as goal

pub returns-in_ok-swap_x-in-Some : goal.returns-in_ok-swap_x-in-Some
returns-in_ok-swap_x-in-Some c = λ room. rw c.in-Some.ensures.some (c.in_ok-swap_x-in-Some.ensures room)

pub returns-in-None : goal.returns-in-None
returns-in-None c = λ room.
    let s = c.args.self.now in
    record {
      result = no_nibbles swap_x (values c.args.operands) room s.locals s.stack c.in-None.ensures.none;
      keeps = refl;
    }
