use Rattle.std.proofs.Common.{◌∙◌, ◌<◌, ap, arith}
use Rattle.cjc_capread.specs.Opcodes.{op_info}
use Rattle.cjc_capread.proofs.Opcodes.{shape_at}
use Rattle.cjc_capread.proofs.opcode.op.Goals as goal

pub returns : goal.returns
returns c =
    let lt : c.from.result < 256 = omega arith in
    c.info_of.ensures ∙ shape_at c.from.result _ lt ∙ ap op_info c.from.ensures
