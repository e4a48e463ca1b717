use Rattle.std.proofs.Common.{refl}
use Rattle.cjc_bytecode.specs.Calculations.{dup_x}
use Rattle.cjc_decode.specs.Decoded.{values}
use Rattle.cjc_card_frame.proofs.Nibbles.{no_nibbles}
use Rattle.cjc_card_frame.proofs.cells.Cells.copy_by.Goals as goal

pub returns-in-None : goal.returns-in-None
returns-in-None c =
    let s = c.args.self.now in
    record { result = no_nibbles dup_x (values c.args.operands) c.args.room s.locals s.stack c.in-None.ensures.none; keeps = refl }
