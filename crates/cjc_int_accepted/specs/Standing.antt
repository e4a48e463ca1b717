-- What is written in int mode for an instruction of a class file stands between its frames, where the frame before it
-- breaks no rule.
use Rattle.std.specs.Prelude.{◌≡◌, ℕ, Bool, List, Option}
use Rattle.cjc_types.specs.Bytecode.declared.insn.JOp.{JOp}
use Rattle.cjc_types.specs.Flow.{Body}
use Rattle.cjc_types.specs.World.Classes.{Class}
use Rattle.cjc_types.specs.declared.state.State.{State}
use Rattle.cjc_check_proof.specs.NCode.Lowering.Naming.{Naming}
use Rattle.cjc_check_proof.specs.NCode.Written.{Resolution}
use Rattle.cjc_ncode.specs.IntCode.IntCode.{Before, Frame, written}
use Rattle.cjc_frames.specs.Acts.{Subtype}
use Rattle.cjc_verify.specs.CardActs.CardTypes.{ValueType}
use Rattle.cjc_verify.specs.Pairs.{Pair}
use Rattle.cjc_accepted_proof.specs.Coded.{step_laid}
use Rattle.cjc_accepted_proof.specs.Methods.{steps_from}
use Rattle.cjc_int_accepted.specs.Frames.{Room}
use Rattle.cjc_int_accepted.specs.Methods.{Selection, StretchStands}
use Rattle.cjc_int_accepted.specs.Reached.{IsRight}

-- An instruction at an offset of a method, which is reached with this frame, and what is known before it.
module _ (card_type : List ℕ → Option (List ℕ)) (is_of : Subtype) (m : Room) (new : Selection) (b : Body)
    (rows : List (Option State)) (label to : ℕ → ℕ) (p : Pair) (result : ValueType) (n : Naming) (wide : ℕ → Bool)
    (f : Frame) (r : Resolution) (known : Before) (w : List Class) (count place here o : ℕ) (x : State) where
  -- what is written for it is what is laid from a label on
  abbrev pub IsSelected : JOp → Type 0
  IsSelected op = new place here (record { at = o; op = op }) x ≡ steps_from (step_laid p result n to wide) here
      (written f r label known here op)

  -- it stands
  abbrev pub Stands : JOp → Type 0
  Stands op = StretchStands card_type is_of m new b rows label to count place here (record { at = o; op = op }) x

  -- so it does where its frame breaks no rule
  abbrev pub IsStanding : JOp → Type 0
  IsStanding op = IsRight w b op x → IsSelected op → Stands op
