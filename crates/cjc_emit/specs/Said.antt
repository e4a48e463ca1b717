-- Instructions that bytes can say, distances to their labels aside.
use Rattle.std.specs.Prelude.{false}
use Rattle.cjc_ncode.specs.declared.narrow.NInsn.{NInsn}
use Rattle.cjc_ncode.specs.Lowering.Naming.{Naming}
use Rattle.cjc_ncode.specs.Lowering.Laid.{laid}
use Rattle.cjc_ncode.specs.Lowering.Placed.{IsSpellable}

-- With all labels at its own place bytes can say an instruction: its numbers fit their operands, and its matches are in
-- order.
abbrev pub CanBeSaid : Naming → NInsn → Type 0
CanBeSaid n insn = IsSpellable (laid n (λ label. 0) 0 false insn)
