use Rattle.std.proofs.Common.{◌<◌, ◌∙◌, ap, arith}
use Rattle.cjc_capread.specs.Opcodes.{form}
use Rattle.cjc_capread.proofs.DecoderLaws.Shapes.{shape_at}
use Rattle.cjc_capread.proofs.decoder.shape.shape_of.Goals as goal

pub returns : goal.returns
returns c =
    let lt : c.from.result < 256 = omega arith in
    shape_at c.from.result _ lt ∙ ap form c.from.ensures
