-- Rules 103 and 303, case by case, over what a code is cut into.
use Rattle.std.specs.Prelude.{◌⊎◌, ◌≡◌, ◌≢◌, ◌<◌, ◌≤◌, ℕ, ◌-◌, Bool, true, false, not, List, ◌∷◌, ◌++◌, length, map}
use Rattle.std.specs.Prelude.{Some, slice_get, pos}
use Rattle.std.specs.List.{Contains, AllPass}
use Rattle.cjc_classfile.specs.declared.tree.Catch.{Catch}
use Rattle.cjc_classfile.specs.declared.tree.ClassTree.{ClassTree}
use Rattle.cjc_classfile.specs.declared.tree.MethodTree.{MethodTree}
use Rattle.cjc_classfile.specs.PoolItem.{PoolItem}
use Rattle.cjc_classfile.specs.Code.{CodeTree}
use Rattle.cjc_code.specs.declared.insn.JInsn.{JInsn}
use Rattle.cjc_code.specs.declared.raw.Raw.{Raw}
use Rattle.cjc_code.specs.Cut.{cut}
use Rattle.cjc_code.specs.Unfit.{starts, is_start, has_wrong_item, has_wrong_jump, has_wrong_local, has_wrong_values}
use Rattle.cjc_code.specs.Unfit.{has_wrong_type, may_go_on, arguments}
use Rattle.cjc_code.specs.Named.{is_unsupported, op_of}

-- whether an instruction of a code starts at a place; the place where the cut stops inside the code counts as one
abbrev pub starts_at : CodeTree → ℕ → Bool
starts_at code place = is_start (starts (cut code.bytes) (length code.bytes)) (pos place)

-- A place inside the code where an instruction starts, or the cut stops.
pub record IsStart (code : CodeTree) (place : ℕ) : Type 0 where
  pub inside : place < length code.bytes
  pub starts : ((i : Raw) × Contains (cut code.bytes).insns i × (i.at ≡ place)) ⊎ (place ≡ (cut code.bytes).stop)

-- Rule 103 is broken at this place.
pub data IsUnfit (class : ClassTree) (method : MethodTree) (code : CodeTree) : ℕ → Type 0 where
  -- an unknown opcode, or an operand is cut
  stopped : (cut code.bytes).stop < length code.bytes → IsUnfit class method code (cut code.bytes).stop
  -- an index of the pool names nothing of the kind that is needed
  wrong_item : (i : Raw) → Contains (cut code.bytes).insns i → has_wrong_item class.major class.pool i ≡ true
      → IsUnfit class method code i.at
  -- a jump leads off an instruction's start
  wrong_jump : (i : Raw) → Contains (cut code.bytes).insns i
      → has_wrong_jump (starts (cut code.bytes) (length code.bytes)) i ≡ true → IsUnfit class method code i.at
  -- a local is at max_locals or above
  wrong_local : (i : Raw) → Contains (cut code.bytes).insns i → has_wrong_local code.max_locals i ≡ true
      → IsUnfit class method code i.at
  -- the low value of a tableswitch is above the high one, or a lookupswitch has a negative count or values that do not
  -- ascend
  wrong_values : (i : Raw) → Contains (cut code.bytes).insns i → has_wrong_values i.family i.numbers ≡ true
      → IsUnfit class method code i.at
  -- the type of a newarray is outside 4 to 11
  wrong_type : (i : Raw) → Contains (cut code.bytes).insns i → has_wrong_type i.family i.numbers ≡ true
      → IsUnfit class method code i.at
  -- the last instruction may fall off the end
  falls : (i : Raw) → (cut code.bytes).stop ≡ length code.bytes
      → slice_get (cut code.bytes).insns (length (cut code.bytes).insns - 1) ≡ Some i → may_go_on i.family ≡ true
      → IsUnfit class method code i.at
  -- the arguments, which the first instruction counts as using, take more locals than there are
  too_many : code.max_locals < arguments method → IsUnfit class method code 0
  -- a bound or the target of a handler is off an instruction's start. An end may be the code's length
  wrong_start : (c : Catch) → Contains code.catches c → starts_at code c.start ≡ false
      → IsUnfit class method code c.start
  wrong_end : (c : Catch) → Contains code.catches c → starts_at code c.end ≡ false → c.end ≢ length code.bytes
      → IsUnfit class method code c.end
  wrong_target : (c : Catch) → Contains code.catches c → starts_at code c.target ≡ false
      → IsUnfit class method code c.target

-- The rule is broken there and nowhere before.
pub record IsFirstUnfit (class : ClassTree) (method : MethodTree) (code : CodeTree) (k : ℕ) : Type 0 where
  pub broken : IsUnfit class method code k
  pub least : (j : ℕ) → IsUnfit class method code j → k ≤ j

-- Rule 303 is broken there and at no instruction before.
pub record IsFirstUnsupported (pool : List PoolItem) (insns : List Raw) (k : ℕ) : Type 0 where
  pub before : List Raw
  pub first : Raw
  pub behind : List Raw
  pub parts : insns ≡ before ++ first ∷ behind
  pub fine : AllPass (λ i. not (is_unsupported pool i.family i.numbers)) before
  pub broken : is_unsupported pool first.family first.numbers ≡ true
  pub place : k ≡ first.at

-- an instruction with its names
abbrev pub with_names : List PoolItem → Raw → JInsn
with_names pool i = record { at = i.at; op = op_of pool i.at i.opcode i.family i.numbers }

-- Rule 103 is broken nowhere, and rule 303 there first.
pub record IsFirstUnsupportedCode (class : ClassTree) (method : MethodTree) (code : CodeTree) (k : ℕ) : Type 0 where
  pub fit : (j : ℕ) → IsUnfit class method code j → ⊥
  pub first : IsFirstUnsupported class.pool (cut code.bytes).insns k

-- Neither rule is broken, and these are the instructions of the cut with their names.
pub record IsDecoded (class : ClassTree) (method : MethodTree) (code : CodeTree) (insns : List JInsn) : Type 0 where
  pub fit : (j : ℕ) → IsUnfit class method code j → ⊥
  pub fine : AllPass (λ i. not (is_unsupported class.pool i.family i.numbers)) (cut code.bytes).insns
  pub insns_are : insns ≡ map (with_names class.pool) (cut code.bytes).insns
