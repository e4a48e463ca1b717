-- Pairs of an aload_0 and a field instruction that are written as one, in code that runs: what the narrow stack leaves
-- out before an instruction.
use Rattle.std.specs.Prelude.{◌≡◌, ℕ, ◌+◌, suc, List, [], ◌∷◌, slice_get, Option, Some, Bool, true, false, ◌==◌, ℤ}
use Rattle.std.specs.List.{Contains}
use Rattle.cjc_bytes.specs.declared.fault.MemberId.{MemberId}
use Rattle.cjc_code.specs.ClassFile.declared.tree.Catch.{Catch}
use Rattle.cjc_code.specs.Jvm as jvm
use Rattle.cjc_code.specs.declared.insn.JInsn.{JInsn}
use Rattle.cjc_code.specs.declared.insn.JOp.{JOp}
use Rattle.cjc_code.specs.declared.insn.JOp.TheVariants as jop
use Rattle.cjc_types.specs.Fixpoint.Tables.{HasRow}
use Rattle.cjc_types.specs.Steps.{targets}
use Rattle.cjc_types.specs.Flow.{Body}
use Rattle.cjc_types.specs.TypeLaws.Places.{IsPlaceOf}
use Rattle.cjc_types.specs.declared.state.State.{State}
use Rattle.cjc_ncode.specs.declared.narrow.PairRole.{PairRole}
use Rattle.cjc_ncode.specs.declared.narrow.PairRole.TheVariants.{Alone, Opens, Closes}
use Rattle.cjc_ncode.specs.Written.{Resolution}
use Rattle.cjc_narrow.specs.Pairs.Open.{Open, begun, closed, is_opened, pushed}
use Rattle.cjc_narrow_proof.specs.Selection.Relation.{Kind, Away}
use Rattle.cjc_narrow_proof.specs.Selection.Tables.{Point}

-- the reference of an open pair is on top, or below one cell
abbrev pub left_away : Open → List Kind → List Kind
left_away closed ks = ks
left_away begun [] = []
left_away begun (k ∷ ks) = Away k ∷ ks
left_away pushed [] = []
left_away pushed (j ∷ []) = j ∷ []
left_away pushed (j ∷ k ∷ ks) = j ∷ Away k ∷ ks

-- what is known before an instruction, where this is open
abbrev pub with_open : Open → Point → Point
with_open o p = record { stack = left_away o p.stack; locals = p.locals }

-- nothing is written for it: nop and i2s
pub data IsSilent : JOp → Type 0 where
  a_nop : IsSilent jop.Nop
  a_narrow : {op : ℕ} → (op == jvm.i2b) ≡ false → IsSilent (jop.Narrow op)

-- a constant or a local is pushed
pub data IsPushed (r : Resolution) : JOp → Type 0 where
  a_null : IsPushed r jop.Null
  a_number : {z : ℤ} → IsPushed r (jop.Number z)
  a_local : {refs : Bool} {k : ℕ} → IsPushed r (jop.Load refs k)
  a_constant : {named : MemberId} {z : ℤ} → r.constant named ≡ Some z → IsPushed r (jop.Static false named)

-- What an instruction is to the pair that is open before it, by its role, and which is open behind it.
pub data IsInPair (r : Resolution) : (before : Open) → JOp → PairRole → (after : Open) → Type 0 where
  stands_alone : {op : JOp} → IsInPair r closed op Alone closed
  opens : IsInPair r closed (jop.Load true 0) Opens begun
  goes_on : {o : Open} {op : JOp} → is_opened o ≡ true → IsSilent op → IsInPair r o op Alone o
  pushes : {op : JOp} → IsPushed r op → IsInPair r begun op Alone pushed
  gets : {f : MemberId} → IsInPair r begun (jop.Field false f) Closes closed
  puts : {f : MemberId} → IsInPair r pushed (jop.Field true f) Closes closed

-- In a method's code each reached instruction is in its place in a pair, and no pair is open where a method begins, or
-- where a jump, a switch or a handler leads.
pub record AreInPairs (r : Resolution) (b : Body) (types : List (Option State)) (opened : ℕ → Open) : Type 0 where
  pub each : (at : ℕ) (i : JInsn) (t : State) → slice_get b.insns at ≡ Some i → HasRow types at t
      → IsInPair r (opened at) i.op (r.role i.at) (opened (suc at))
  pub first : opened 0 ≡ closed
  pub targets : (at : ℕ) (i : JInsn) (offset to : ℕ) → slice_get b.insns at ≡ Some i → Contains (targets i.op) offset
      → IsPlaceOf b.insns offset to → opened to ≡ closed
  pub handlers : (c : Catch) (to : ℕ) → Contains b.catches c → IsPlaceOf b.insns c.target to → opened to ≡ closed

-- An instruction stands alone: no pair is open before it or behind it.
pub record StandsAlone (r : Resolution) (insns : List JInsn) (opened : ℕ → Open) (at : ℕ) : Type 0 where
  pub before : opened at ≡ closed
  pub alone : (i : JInsn) → slice_get insns at ≡ Some i → r.role i.at ≡ Alone
  pub behind : opened (at + 1) ≡ closed
