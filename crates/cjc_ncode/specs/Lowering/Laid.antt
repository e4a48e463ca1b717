-- A narrow instruction as it is laid out at an offset: jumps as distances, names as indices and tokens (Java Card
-- Virtual Machine Specification 2.2.2, chapter 7).
use Rattle.std.specs.Prelude.{◌≡◌, ℕ, suc, ◌+◌, ◌-◌, ◌*◌, List, [], ◌∷◌, length, Option, Some, None, Bool, nat_le}
use Rattle.std.specs.Prelude.{if◌then◌else◌, ℤ, pos, negsuc, ◌+ℤ◌, ◌-ℤ◌}
use Rattle.cjc_code.specs.Bytes.declared.fault.MemberId.{MemberId}
use Rattle.cjc_card_semantics.specs.CapRead.Decode.{Instruction}
use Rattle.cjc_card_semantics.specs.CapRead.Card as card
use Rattle.cjc_card_semantics.specs.Script.Sorts.{Element, Booleans, Bytes, Shorts, Ints}
use Rattle.cjc_card_semantics.specs.Bytecode.Calculations.{Calculation, Test}
use Rattle.cjc_card_semantics.specs.Bytecode.Meanings.{Meaning, Plain, Branches, Ranged, Paired, Uses, Casts, Asks, Use}
use Rattle.cjc_card_semantics.specs.Bytecode.Meanings.{meaning}
use Rattle.cjc_ncode.specs.declared.narrow.NCase.{NCase}
use Rattle.cjc_ncode.specs.declared.narrow.NInsn.{NInsn}
use Rattle.cjc_ncode.specs.declared.narrow.NInsn.TheVariants as insns
use Rattle.cjc_ncode.specs.declared.narrow.PoolKey.{PoolKey}
use Rattle.cjc_ncode.specs.declared.narrow.PoolKey.TheVariants as keys
use Rattle.cjc_ncode.specs.Lowering.Naming.{Naming, Holds, IsClass, Fit}

-- the offset from one place to another
abbrev pub distance : (from to : ℕ) → ℤ
distance from to = if nat_le from to then pos (to - from) else negsuc (from - suc to)

-- an instruction without a table
abbrev pub untabled : ℕ → List ℤ → Instruction
untabled opcode operands = record { opcode = opcode; operands = operands; table = [] }

-- the wide form of a jump stands so many opcodes behind the narrow one
abbrev pub wide_jump : ℕ → ℕ
wide_jump op = op + 56

-- boolean 10, byte 11, short 12, int 13
abbrev pub element_number : Element → ℕ
element_number Booleans = 10
element_number Bytes = 11
element_number Shorts = 12
element_number Ints = 13

-- the index of the class of a type test, 0 without one
abbrev pub class_index : Naming → Option (List ℕ) → ℕ
class_index n None = 0
class_index n (Some c) = n.index (keys.Class c)

module _ (n : Naming) (to : ℕ → ℕ) where
  -- matches with the offsets of their targets
  abbrev pub matches : (at : ℕ) → List NCase → List ℤ
  matches at [] = []
  matches at (c ∷ cases) = c.value ∷ distance at (to c.target) ∷ matches at cases

  -- the offsets of targets alone
  abbrev pub offsets : (at : ℕ) → List NCase → List ℤ
  offsets at [] = []
  offsets at (c ∷ cases) = distance at (to c.target) ∷ offsets at cases

  -- a switch over a range, or over matches
  abbrev pub switch_as : Meaning → (at op other : ℕ) → (low : ℤ) → List NCase → Instruction
  switch_as (Ranged is_int) at op other low cases =
      record {
        opcode = op;
        operands = distance at (to other) ∷ low ∷ ((low +ℤ pos (length cases)) -ℤ pos 1) ∷ [];
        table = offsets at cases;
      }
  switch_as m at op other low cases =
      record { opcode = op; operands = distance at (to other) ∷ pos (length cases) ∷ []; table = matches at cases }

  -- The instruction that is laid at an offset, of a jump its narrow or its wide form, where labels stand at `to`.
  abbrev pub laid : (at : ℕ) → (wide : Bool) → NInsn → Instruction
  laid at wide (insns.Op op) = untabled op []
  laid at wide (insns.Push op value) = untabled op (value ∷ [])
  laid at wide (insns.Local op index) = untabled op (pos index ∷ [])
  laid at wide (insns.Inc op index by) = untabled op (pos index ∷ by ∷ [])
  laid at wide (insns.Words op high low) = untabled op (pos (16 * high + low) ∷ [])
  laid at wide (insns.Jump op target) = untabled (if wide then wide_jump op else op) (distance at (to target) ∷ [])
  laid at wide (insns.Switch op other low cases) = switch_as (meaning op) at op other low cases
  laid at wide (insns.Named op key) = untabled op (pos (n.index key) ∷ [])
  laid at wide (insns.Interface nargs m) = untabled card.invokeinterface (pos nargs ∷ pos (n.index (keys.Class m.class))
      ∷ pos (n.interface_token m) ∷ [])
  laid at wide (insns.NewArray kind) = untabled card.newarray (pos kind ∷ [])
  laid at wide (insns.TypeTest op kind class) = untabled op (pos kind ∷ pos (class_index n class) ∷ [])

-- ---- instructions that can be laid out

module _ (n : Naming) where
  -- a type and the class that it needs
  pub data Tests : (kind : ℕ) → Option (List ℕ) → Type 0 where
    a_class : {c : List ℕ} → Holds n (keys.Class c) → IsClass n c → Tests 0 (Some c)
    numbers : (element : Element) → Tests (element_number element) None
    references : {c : List ℕ} → Holds n (keys.Class c) → IsClass n c → Tests 14 (Some c)

  -- An instruction whose opcode means what its form says, and whose key stands in the pool for what it names.
  pub data IsFormed : NInsn → Type 0 where
    bare : {op : ℕ} → IsFormed (insns.Op op)
    push : {op : ℕ} {value : ℤ} {calculation : List ℤ → Calculation} → meaning op ≡ Plain calculation
        → IsFormed (insns.Push op value)
    local : {op index : ℕ} {calculation : List ℤ → Calculation} → meaning op ≡ Plain calculation
        → IsFormed (insns.Local op index)
    increase : {op index : ℕ} {by : ℤ} {calculation : List ℤ → Calculation} → meaning op ≡ Plain calculation
        → IsFormed (insns.Inc op index by)
    words : {op high low : ℕ} {calculation : List ℤ → Calculation} → meaning op ≡ Plain calculation
        → IsFormed (insns.Words op high low)
    jump : {op target : ℕ} {test : Test} → meaning op ≡ Branches test → meaning (wide_jump op) ≡ Branches test
        → IsFormed (insns.Jump op target)
    range : {op other : ℕ} {low : ℤ} {cases : List NCase} {is_int : Bool} → meaning op ≡ Ranged is_int
        → IsFormed (insns.Switch op other low cases)
    lookup : {op other : ℕ} {low : ℤ} {cases : List NCase} {is_int : Bool} → meaning op ≡ Paired is_int
        → IsFormed (insns.Switch op other low cases)
    named : {op : ℕ} {key : PoolKey} {how : Use} → meaning op ≡ Uses how → Holds n key → Fit n how key
        → IsFormed (insns.Named op key)
    by_interface : {nargs : ℕ} {m : MemberId} → Holds n (keys.Class m.class) → IsClass n m.class
        → IsFormed (insns.Interface nargs m)
    new_array : {kind : ℕ} → IsFormed (insns.NewArray kind)
    casts : {op kind : ℕ} {class : Option (List ℕ)} → meaning op ≡ Casts → Tests kind class
        → IsFormed (insns.TypeTest op kind class)
    asks : {op kind : ℕ} {class : Option (List ℕ)} → meaning op ≡ Asks → Tests kind class
        → IsFormed (insns.TypeTest op kind class)
