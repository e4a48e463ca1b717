use Rattle.std.proofs.Common.{◌∙◌, sym, arith}
use Rattle.cjc_layout.proofs.Opcodes.{size_zero, size_some}
use Rattle.cjc_layout.proofs.sizes.size_of.Goals as goal

pub switch_size-requires : goal.switch_size-requires
switch_size-requires c =
    let z = size_zero c.args.opcode c.args.cases c.length_of-length.result c.length_of-length.ensures
    c.if-length-eq0.true in
    omega (arith, z, c.requires)

pub returns-then-length-eq0 : goal.returns-then-length-eq0
returns-then-length-eq0 c = c.switch_size.ensures ∙ sym (size_zero c.args.opcode c.args.cases c.length_of-length.result
    c.length_of-length.ensures c.if-length-eq0.true)

pub returns-else-length-eq0 : goal.returns-else-length-eq0
returns-else-length-eq0 c = c.from.ensures ∙ sym (size_some c.args.opcode c.args.cases c.length_of-length.result
    c.length_of-length.ensures c.if-length-eq0.false)
