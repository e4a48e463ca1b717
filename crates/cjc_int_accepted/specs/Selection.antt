-- What is written for the reached instructions of a method in int mode by its tables, as a selection of steps.
use Rattle.std.specs.Prelude.{◌≡◌, ℕ, ◌+◌, ◌*◌, ◌<◌, ◌≤◌, List, get_or, length, slice_get, true, Option, None, Some}
use Rattle.std.specs.List.{Contains}
use Rattle.cjc_types.specs.Bytecode.declared.insn.JInsn.{JInsn}
use Rattle.cjc_types.specs.ClassFile.Code.{CodeTree}
use Rattle.cjc_types.specs.Fixpoint.Tables.{HasRow}
use Rattle.cjc_types.specs.Flow.{Body}
use Rattle.cjc_types.specs.declared.state.State.{State}
use Rattle.cjc_intervals.specs.Frames.{RangeState}
use Rattle.cjc_ncode.specs.Written.{Resolution}
use Rattle.cjc_ncode.specs.declared.narrow.NInsn.{NInsn}
use Rattle.cjc_ncode.specs.IntCode.IntCode.{Reached, nargs, place_in, prologue, scratch_pairs, written}
use Rattle.cjc_int_mode.specs.Written.{before, int_frame, reached_from, written_in_int_mode}
use Rattle.cjc_frames.specs.Acts.{Subtype}
use Rattle.cjc_frames.specs.Flow.{Body as CardBody, covers}
use Rattle.cjc_frames.specs.declared.acts.Catch.{Catch}
use Rattle.cjc_frames.specs.declared.acts.Step.{Step}
use Rattle.cjc_accepted_proof.specs.Methods.{steps_from}
use Rattle.cjc_int_accepted.specs.Frames.{Room}
use Rattle.cjc_int_accepted.specs.Methods.{Begins, IsHandlerFor, Selection, StretchStands}

-- A method of a class file with its tables, and what its names stand for.
module _ (r : Resolution) (b : Body) (types : List (Option State)) (ranges : List (Option RangeState)) where
  -- its reached instructions
  abbrev pub reached_in : List Reached
  reached_in = reached_from ranges 0 b.insns types

  -- the label of what is written for an offset
  abbrev pub label_in : (offset : ℕ) → ℕ
  label_in offset = place_in (int_frame b) r reached_in offset

  -- where the card's instructions stand
  module _ (step : (label : ℕ) → NInsn → Step) where
    -- what stands before the first
    abbrev pub front_of : List Step
    front_of = steps_from step 0 (prologue (int_frame b))

    -- what is written for a reached instruction
    abbrev pub selected : Selection
    selected place here i x = steps_from step here (written (int_frame b) r label_in (before i.op x (get_or ranges place
        None)) here i.op)

-- where its locals stand: behind its arguments, and before the scratch pairs of its calls
abbrev pub room_of : Body → List (Option State) → List (Option RangeState) → Room
room_of b types ranges = record {
  arguments = nargs (int_frame b);
  scratch = 2 * scratch_pairs (reached_from ranges 0 b.insns types);
}

-- A method of the card that reads the narrow code of a method of a class file.
module _ (r : Resolution) (b : Body) (types : List (Option State)) (ranges : List (Option RangeState))
    (step : (label : ℕ) → NInsn → Step) (to : ℕ → ℕ) (c : CardBody) where
  -- its steps stand at offsets that ascend, and its words are those of the narrow code
  pub record IsLaid (code : CodeTree) : Type 0 where
    pub steps : c.steps ≡ steps_from step 0 (let w = written_in_int_mode r code b types ranges in w.insns)
    pub at : (k : ℕ) (i : NInsn) → (let s = step k i in s.at) ≡ to k
    pub ascends : (j k : ℕ) → j < k → k ≤ length c.steps → to j < to k
    pub locals : c.local_count ≡ (let w = written_in_int_mode r code b types ranges in w.nargs + w.max_locals)
    pub max_stack : c.max_stack ≡ (let w = written_in_int_mode r code b types ranges in w.max_stack)

  -- what is written before the first instruction and for each reached one stands, and handlers are those of the class
  -- file
  pub record RowsStand (card_type : List ℕ → Option (List ℕ)) (is_of : Subtype) : Type 0 where
    pub begins : Begins card_type is_of (room_of b types ranges) (selected r b types ranges step) b types (label_in r b
        types ranges) to c (front_of r b types ranges step)
    pub stand : (at : ℕ) (i : JInsn) (x : State) → slice_get b.insns at ≡ Some i → HasRow types at x → StretchStands
        card_type is_of (room_of b types ranges) (selected r b types ranges step) b types (label_in r b types ranges) to
        c.local_count at (label_in r b types ranges i.at) i x
    pub handlers : (at : ℕ) (i : JInsn) (x : State) → slice_get b.insns at ≡ Some i → HasRow types at x → (s : Step)
        → Contains (selected r b types ranges step at (label_in r b types ranges i.at) i x) s → (h : Catch)
        → Contains c.catches h → covers h s.at ≡ true → IsHandlerFor card_type is_of (room_of b types ranges) (selected
        r b types ranges step) b types (label_in r b types ranges) to h i
