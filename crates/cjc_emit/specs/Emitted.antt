-- The bytes of a method with its header, and where the indices into the constant pool stand in them (Java Card Virtual
-- Machine Specification 2.2.2, sections 6.9.2 and 6.12).
use Rattle.std.specs.Prelude.{◌≡◌, ℕ, ◌+◌, List, [], ◌∷◌, ◌++◌, length, position, slice_get, Option, Some, None, Bool}
use Rattle.std.specs.Prelude.{nat_lt, ◌&&◌, ◌==◌, if◌then◌else◌}
use Rattle.cjc_layout.specs.Bytes.declared.fault.MemberId.{MemberId}
use Rattle.cjc_layout.specs.CapRead.declared.opcode.OpInfo.{OpInfo}
use Rattle.cjc_layout.specs.CapRead.Opcodes.{op_info}
use Rattle.cjc_ncode.specs.declared.narrow.NInsn.{NInsn}
use Rattle.cjc_ncode.specs.declared.narrow.NInsn.TheVariants as insns
use Rattle.cjc_ncode.specs.declared.narrow.NMethod.{NMethod}
use Rattle.cjc_ncode.specs.declared.narrow.PoolKey.{PoolKey}
use Rattle.cjc_ncode.specs.declared.narrow.PoolKey.TheVariants as keys
use Rattle.cjc_ncode.specs.PoolOrder.{same_key}
use Rattle.cjc_ncode.specs.Lowering.Naming.{Naming}
use Rattle.cjc_layout.specs.CapRead.Card.{invokeinterface}
use Rattle.cjc_ncode.specs.Lowering.Laid.{laid}
use Rattle.cjc_ncode.specs.Lowering.Placed.{IsSpellable, Placed, extended_header, insn_size, method_bytes, offset_of}
use Rattle.cjc_ncode.specs.Lowering.Placed.{short_header}
use Rattle.cjc_layout.specs.Forms.{HasForm}
use Rattle.cjc_emit.specs.declared.emitted.MethodBytes.{MethodBytes}

-- ---- bytes

-- each of its numbers is a nibble
abbrev pub is_short : NMethod → Bool
is_short m = nat_lt m.max_stack 16 && (nat_lt m.nargs 16 && nat_lt m.max_locals 16)

-- the short header where it can say the method's numbers, else the extended one
abbrev pub header_bytes : NMethod → List ℕ
header_bytes m = if is_short m then short_header m else extended_header m

-- a method at an offset of Method's info, with the forms of its jumps
abbrev pub placed_at : (offset : ℕ) → NMethod → (wide : List Bool) → Placed
placed_at offset m wide = record { method = m; wide = wide; offset = offset; header = header_bytes m }

-- The bytes of a method, its header included. They are the same at every offset.
abbrev pub emitted_bytes : Naming → NMethod → (wide : List Bool) → List ℕ
emitted_bytes n m wide = method_bytes n (placed_at 0 m wide)

-- indices and tokens are those of a pool with these keys and these tokens of interface methods
pub record IsNamedBy (ks : List PoolKey) (token_of : MemberId → Option ℕ) (n : Naming) : Type 0 where
  pub index : (key : PoolKey) (i : ℕ) → position (same_key key) ks ≡ Some i → n.index key ≡ i
  pub token : (id : MemberId) (t : ℕ) → token_of id ≡ Some t → n.interface_token id ≡ t

-- Instructions of a method that have their forms, and that bytes can say where they are laid. What their names mean is
-- not asked.
pub record CanBeWritten (n : Naming) (p : Placed) : Type 0 where
  pub count : length p.wide ≡ (let m = p.method in length m.insns)
  pub forms : (k : ℕ) (insn : NInsn) → (let m = p.method in slice_get m.insns k ≡ Some insn) → HasForm insn
  pub spellable : (k : ℕ) (insn : NInsn) (wide : Bool) → (let m = p.method in slice_get m.insns k ≡ Some insn)
      → slice_get p.wide k ≡ Some wide → IsSpellable (laid n (offset_of n p) (offset_of n p k) wide insn)

-- ---- places of indices

-- where an index of so many bytes stands behind its opcode
abbrev pub index_place : (bytes at : ℕ) → Option OpInfo → List ℕ
index_place bytes at None = []
index_place bytes at (Some info) = if info.index_bytes == bytes then (at + info.index_at) ∷ [] else []

-- of an instruction; a type test without class has no index
abbrev pub insn_places : (bytes at : ℕ) → NInsn → List ℕ
insn_places bytes at (insns.Named op key) = index_place bytes at (op_info op)
insn_places bytes at (insns.Interface nargs method) = index_place bytes at (op_info invokeinterface)
insn_places bytes at (insns.TypeTest op kind (Some class)) = index_place bytes at (op_info op)
insn_places bytes at _ = []

-- of instructions one behind the other
abbrev pub code_places : Naming → (bytes at : ℕ) → List NInsn → (wide : List Bool) → List ℕ
code_places n bytes at [] wide = []
code_places n bytes at (i ∷ insns) [] = []
code_places n bytes at (i ∷ insns) (w ∷ wide) = insn_places bytes at i ++ code_places n bytes (at + insn_size n w i)
    insns wide

-- The places of the indices of so many bytes, from the start of the method's header.
abbrev pub index_places : Naming → (bytes : ℕ) → NMethod → (wide : List Bool) → List ℕ
index_places n bytes m wide = code_places n bytes (length (header_bytes m)) m.insns wide

-- ---- what is emitted

module _ (ks : List PoolKey) (token_of : MemberId → Option ℕ) where
  -- a pool has an index for a key
  abbrev pub HasIndex : PoolKey → Type 0
  HasIndex key = (i : ℕ) × (position (same_key key) ks ≡ Some i)

  -- there is a token for an interface's method
  abbrev pub HasToken : MemberId → Type 0
  HasToken method = (t : ℕ) × (token_of method ≡ Some t)

  -- a pool has what an instruction names
  abbrev pub HasNames : NInsn → Type 0
  HasNames (insns.Named op key) = HasIndex key
  HasNames (insns.Interface nargs method) = HasIndex (keys.Class method.class) × HasToken method
  HasNames (insns.TypeTest op kind (Some class)) = HasIndex (keys.Class class)
  HasNames _ = Unit {0}

  -- Components name what a pool has, the method's instructions can be written where they are laid, and the pool has
  -- what these name.
  pub record IsEmittable (n : Naming) (m : NMethod) (wide : List Bool) : Type 0 where
    pub named : IsNamedBy ks token_of n
    pub written : CanBeWritten n (placed_at 0 m wide)
    pub names : (k : ℕ) (insn : NInsn) → slice_get m.insns k ≡ Some insn → HasNames insn

-- The bytes of a method, and the places of its indices of one byte and of two.
pub record IsEmitted (n : Naming) (m : NMethod) (wide : List Bool) (emitted : MethodBytes) : Type 0 where
  pub bytes : emitted.bytes ≡ emitted_bytes n m wide
  pub ones : emitted.ones ≡ index_places n 1 m wide
  pub twos : emitted.twos ≡ index_places n 2 m wide
