-- A method of the card in int mode beside the method of the class file that it is written for: its stretches are what
-- is
-- written for each reached instruction, behind what brings the arguments to the locals, and its frames are those of the
-- class file's table.
use Rattle.std.specs.Prelude.{◌≡◌, ℕ, suc, ◌+◌, ◌*◌, ◌<◌, ◌≤◌, true, List, [], ◌∷◌, ◌++◌, length, map, slice_get}
use Rattle.std.specs.Prelude.{Option}
use Rattle.std.specs.Prelude.{Some, None}
use Rattle.std.specs.List.{Contains}
use Rattle.cjc_types.specs.Bytecode.declared.insn.JInsn.{JInsn}
use Rattle.cjc_types.specs.ClassFile.declared.tree.Catch.{Catch as CatchByName}
use Rattle.cjc_types.specs.Fixpoint.Tables.{HasRow}
use Rattle.cjc_types.specs.Flow.{Body as BodyByName, caught_type, covers as covers_by_name, entry as entry_by_name}
use Rattle.cjc_types.specs.States.{most_cells, states}
use Rattle.cjc_types.specs.Steps.{goes_on as goes_on_by_name, targets}
use Rattle.cjc_types.specs.declared.cell.Cell.{Cell}
use Rattle.cjc_types.specs.declared.cell.Cell.TheVariants.{Unusable}
use Rattle.cjc_types.specs.declared.state.Stack.TheVariants.{Cells}
use Rattle.cjc_types.specs.declared.state.State.{State}
use Rattle.cjc_frames.specs.Acts.{Breaks, Subtype, after}
use Rattle.cjc_frames.specs.Flow.{Body, covers, entry}
use Rattle.cjc_frames.specs.declared.acts.Act.{Act}
use Rattle.cjc_frames.specs.declared.acts.Catch.{Catch}
use Rattle.cjc_frames.specs.declared.acts.Step.{Step}
use Rattle.cjc_accepted_proof.specs.Blocks.{goes_on}
use Rattle.cjc_accepted_proof.specs.Frames.{AreFew, IsCaughtAs}
use Rattle.cjc_int_accepted.specs.Frames.{Room, int_state}
use Rattle.cjc_int_accepted.specs.Runs.{Runs, most_words}
use Rattle.cjc_int_accepted.specs.Stretches.{IsAlong, Stretch, frame_through, steps_in}

-- what several instructions take and give
abbrev pub acts_of : List Step → List Act
acts_of steps = map (λ (s : Step). s.act) steps

-- What is written for a reached instruction at its place, from a label on.
abbrev pub Selection : Type 0
Selection = (place here : ℕ) → JInsn → State → List Step

module _ (card_type : List ℕ → Option (List ℕ)) (m : Room) (new : Selection) where
  -- the stretch of a reached instruction
  abbrev pub stretch_of : (place here : ℕ) → JInsn → State → Stretch
  stretch_of place here i x = record { steps = new place here i x; before = int_state card_type m x }

  -- those of all, from a place and a label on
  abbrev pub stretches_from : (place here : ℕ) → List JInsn → List (Option State) → List Stretch
  stretches_from place here [] rows = []
  stretches_from place here (i ∷ insns) [] = []
  stretches_from place here (i ∷ insns) (None ∷ rows) = stretches_from (suc place) here insns rows
  stretches_from place here (i ∷ insns) (Some x ∷ rows) = stretch_of place here i x ∷ stretches_from (suc place) (here
      + length (new place here i x)) insns rows

  -- those of a method, with what stands before the first
  abbrev pub stretches_in : BodyByName → List (Option State) → Body → (front : List Step) → List Stretch
  stretches_in b rows c front = record { steps = front; before = entry c } ∷ stretches_from 0 (length front) b.insns
      rows

  -- each stands at the label of its offset
  abbrev pub AreLabelled : (label : ℕ → ℕ) → (place here : ℕ) → List JInsn → List (Option State) → Type 0
  AreLabelled label place here [] rows = Unit {0}
  AreLabelled label place here (i ∷ insns) [] = Unit {0}
  AreLabelled label place here (i ∷ insns) (None ∷ rows) = AreLabelled label (suc place) here insns rows
  AreLabelled label place here (i ∷ insns) (Some x ∷ rows) = (here ≡ label i.at) × AreLabelled label (suc place) (here
      + length (new place here i x)) insns rows

-- A jump of a stretch is its last instruction and leads to what is written for a target, or it leads to an instruction
-- of
-- its own, before which the card knows no more.
pub data Leads (label to : ℕ → ℕ) (count here : ℕ) (t : Stretch) (i : JInsn) (index : ℕ) (s : Step) (x : State)
    (offset : ℕ) : Type 0 where
  out : suc index ≡ length t.steps → (target : ℕ) → Contains (targets i.op) target → offset ≡ to (label target)
      → Leads label to count here t i index s x offset
  within : (other : ℕ) (u : Step) (y : State) → IsAlong t other u y → offset ≡ to (here + other)
      → (let l = states count in l.Below (after s.act x) y) → Leads label to count here t i index s x offset

module _ (card_type : List ℕ → Option (List ℕ)) (is_of : Subtype) (m : Room) (new : Selection) (b : BodyByName)
    (rows : List (Option State)) (label to : ℕ → ℕ) where
  -- What is written for a reached instruction goes from its frame to the frame behind it, goes on where the instruction
  -- does, and jumps to what is written for its targets.
  pub record StretchStands (count place here : ℕ) (i : JInsn) (x : State) : Type 0 where
    pub stack : List Cell
    pub is : x.stack ≡ Cells stack
    pub runs : Runs card_type is_of m b.max_stack i.op (acts_of (new place here i x)) x.locals stack
    pub falls : goes_on (new place here i x) ≡ true → goes_on_by_name i.op ≡ true
    pub jumps : (index : ℕ) (s : Step) (y : State) → IsAlong (stretch_of card_type m new place here i x) index s y
        → (offset : ℕ) → Contains (let a = s.act in a.targets) offset → Leads label to count here (stretch_of card_type
        m
        new place here i x) i index s y offset

  -- A handler of the card that covers an instruction is that of a handler of the class file which covers what it is
  -- written for: it catches the card's type of the same class, at what is written for the same target.
  pub record IsHandlerFor (c : Catch) (i : JInsn) : Type 0 where
    pub catch : CatchByName
    pub listed : Contains b.catches catch
    pub covers : covers_by_name catch i.at ≡ true
    pub caught : IsCaughtAs card_type c.caught (caught_type catch.class)
    pub target : c.target ≡ to (label catch.target)

  -- What stands before the first goes from the entry to the frame of the class file's, jumps nowhere, and no handler
  -- covers it.
  pub record Begins (c : Body) (front : List Step) : Type 0 where
    pub unbroken : (index : ℕ) (s : Step) (x : State) → IsAlong (record { steps = front; before = entry c }) index s x
        → (rule : ℕ) → Breaks is_of c.max_stack s.act x rule → ⊥
    pub arrives : (let l = states c.local_count in l.Below (frame_through front (entry c)) (int_state card_type m
        (entry_by_name b)))
    pub stays : (s : Step) → Contains front s → (offset : ℕ) → Contains (let a = s.act in a.targets) offset → ⊥
    pub uncovered : (s : Step) → Contains front s → (h : Catch) → Contains c.catches h → covers h s.at ≡ true → ⊥

  -- The method of the card is written for that of the class file.
  pub record IsWrittenInIntMode (c : Body) (front : List Step) : Type 0 where
    pub few : AreFew card_type
    pub low : most_words b.max_stack ≤ most_cells
    pub some : 0 < length b.insns
    pub steps : c.steps ≡ front ++ steps_in (stretches_from card_type m new 0 (length front) b.insns rows)
    pub labels : AreLabelled card_type m new label 0 (length front) b.insns rows
    pub at : (k : ℕ) (s : Step) → slice_get c.steps k ≡ Some s → s.at ≡ to k
    pub ascends : (j k : ℕ) → j < k → k ≤ length c.steps → to j < to k
    pub locals : c.local_count ≡ m.arguments + 2 * b.max_locals + m.scratch
    pub max_stack : c.max_stack ≡ most_words b.max_stack
    pub begins : Begins c front
    pub usable : (at : ℕ) (x : State) → HasRow rows at x → (s : List Cell) → x.stack ≡ Cells s → (k : ℕ) → slice_get s k
        ≡ Some Unusable → ⊥
    pub stand : (at : ℕ) (i : JInsn) (x : State) → slice_get b.insns at ≡ Some i → HasRow rows at x
        → StretchStands c.local_count at (label i.at) i x
    pub short : (at : ℕ) (x : State) → HasRow rows at x → (s : List Cell) → x.stack ≡ Cells s → length s ≤ b.max_stack
    pub handlers : (at : ℕ) (i : JInsn) (x : State) → slice_get b.insns at ≡ Some i → HasRow rows at x → (s : Step)
        → Contains (new at (label i.at) i x) s → (h : Catch) → Contains c.catches h → covers h s.at ≡ true
        → IsHandlerFor h i
