-- When the keys of a narrow instruction fit the opcodes that use them.
use Rattle.std.specs.Prelude.{◌≡◌, Some}
use Rattle.cjc_card_semantics.specs.Bytecode.Meanings.{Use, Uses, meaning}
use Rattle.cjc_ncode.specs.Lowering.Naming.{Fit, Holds, IsClass, Naming}
use Rattle.cjc_ncode.specs.declared.narrow.NInsn.{NInsn}
use Rattle.cjc_ncode.specs.declared.narrow.NInsn.TheVariants as insns
use Rattle.cjc_ncode.specs.declared.narrow.PoolKey.TheVariants as keys

-- What the instruction names stands in the pool, and means what its opcode uses.
abbrev pub NamesFit : Naming → NInsn → Type 0
NamesFit n (insns.Named op key) = Holds n key × ((how : Use) → meaning op ≡ Uses how → Fit n how key)
NamesFit n (insns.Interface nargs m) = Holds n (keys.Class m.class) × IsClass n m.class
NamesFit n (insns.TypeTest op kind (Some class)) = Holds n (keys.Class class) × IsClass n class
NamesFit n _ = Unit {0}
