-- A method made by hand with each kind of index, and its bytes.
use Rattle.std.specs.Prelude.{ℕ, List, [], ◌∷◌, Some, None, Bool, false, codes}
use Rattle.cjc_layout.specs.Bytes.declared.fault.MemberId.{MemberId}
use Rattle.cjc_layout.specs.CardSemantics.Machine.Worked.{id}
use Rattle.cjc_ncode.specs.declared.narrow.NInsn.{NInsn}
use Rattle.cjc_ncode.specs.declared.narrow.NInsn.TheVariants as insns
use Rattle.cjc_ncode.specs.declared.narrow.NMethod.{NMethod}
use Rattle.cjc_ncode.specs.declared.narrow.PoolKey.TheVariants as keys

-- a field of A, with entry 0
abbrev pub field : MemberId
field = id (codes "p/A") (codes "s") (codes "S")

-- aload_0; getfield_s; checkcast of short[]; checkcast of B; new B; invokeinterface; goto the first
abbrev pub code : List NInsn
code =
    insns.Op 0x18 ∷ insns.Named 0x85 (keys.Field field) ∷ insns.TypeTest 0x94 12 None
    ∷ insns.TypeTest 0x94 0 (Some (codes "p/B"))
    ∷ insns.Named 0x8F (keys.Class (codes "p/B")) ∷ insns.Interface 1 field ∷ insns.Jump 0x70 0 ∷ []

-- no jump is wide
abbrev pub narrow : List Bool
narrow = false ∷ false ∷ false ∷ false ∷ false ∷ false ∷ false ∷ []

-- with so many further cells of locals
abbrev pub method : (max_locals : ℕ) → NMethod
method max_locals = record {
  insns = code;
  from = [];
  catches = [];
  max_stack = 2;
  nargs = 1;
  max_locals = max_locals;
  widest = 0;
}
