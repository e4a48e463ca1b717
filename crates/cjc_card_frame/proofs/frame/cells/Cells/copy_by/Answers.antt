use Rattle.std.proofs.Common.{refl}
use Rattle.cjc_card_semantics.specs.Bytecode.Calculations.{dup_x}
use Rattle.cjc_card_semantics.specs.CapRead.Decoder.Decoded.{values}
use Rattle.cjc_card_frame.proofs.FrameLaws.Nibbles.{no_nibbles}
use Rattle.cjc_card_frame.proofs.frame.cells.Cells.copy_by.Goals as goal

pub returns-in-None : goal.returns-in-None
returns-in-None c =
    let s = c.args.self.now in
    record {
      result = no_nibbles dup_x (values c.args.operands) c.args.room s.locals s.stack c.in-None.ensures.none;
      keeps = refl;
    }
