-- A method of the card beside the method of the class file that it is written for: its blocks are what is written for
-- each reached instruction, and its frames are those of the class file's table.
use Rattle.cjc_types.specs.ClassFile.declared.tree.Catch.{Catch as CatchByName}
use Rattle.std.specs.Prelude.{◌≡◌, ℕ, suc, ◌+◌, ◌<◌, ◌≤◌, true, List, [], ◌∷◌, length, slice_get, Option, Some}
use Rattle.std.specs.Prelude.{None}
use Rattle.std.specs.List.{Contains}
use Rattle.cjc_types.specs.Bytecode.declared.insn.JInsn.{JInsn}
use Rattle.cjc_types.specs.Fixpoint.Tables.{HasRow}
use Rattle.cjc_types.specs.Flow.{Body as BodyByName, caught_type, covers as covers_by_name, entry as entry_by_name}
use Rattle.cjc_types.specs.States.{states}
use Rattle.cjc_types.specs.Steps.{after as after_by_name, goes_on as goes_on_by_name, targets}
use Rattle.cjc_types.specs.declared.state.Stack.{Stack}
use Rattle.cjc_types.specs.declared.state.Stack.TheVariants.{Cells, Clash}
use Rattle.cjc_types.specs.declared.state.State.{State}
use Rattle.cjc_check_proof.specs.NCode.Written.{Resolution, narrow_code, place_in, reached, written_for}
use Rattle.cjc_check_proof.specs.NCode.declared.narrow.NInsn.{NInsn}
use Rattle.cjc_verify.specs.Narrow.Pairs.Open.{Open, closed}
use Rattle.cjc_frames.specs.Acts.{Subtype}
use Rattle.cjc_frames.specs.Flow.{Body, covers, entry}
use Rattle.cjc_frames.specs.declared.acts.Catch.{Catch}
use Rattle.cjc_frames.specs.declared.acts.Step.{Step}
use Rattle.cjc_accepted_proof.specs.Blocks.{AllStand, Block, goes_on}
use Rattle.cjc_accepted_proof.specs.Frames.{AreFew, IsCaughtAs, card_cells, card_stack, card_state}

-- instructions as steps, from a label on
abbrev pub steps_from : (step : (label : ℕ) → NInsn → Step) → (label : ℕ) → List NInsn → List Step
steps_from step label [] = []
steps_from step label (i ∷ insns) = step label i ∷ steps_from step (label + 1) insns

-- a stack without its top
abbrev pub without_top : Stack → Stack
without_top (Cells []) = Cells []
without_top (Cells (x ∷ s)) = Cells s
without_top Clash = Clash

-- A method of a class file with its type table, what is open before each instruction, what names stand for, and how the
-- card's instructions stand.
module _ (card_type : List ℕ → Option (List ℕ)) (is_of : Subtype) (r : Resolution) (b : BodyByName)
    (rows : List (Option State)) (opened : ℕ → Open) (step : (label : ℕ) → NInsn → Step) where
  -- the label of an offset
  abbrev pub label : (offset : ℕ) → ℕ
  label offset = place_in r (reached b.insns rows) offset

  -- the frame between two instructions that are written for one: its operand is taken
  abbrev pub between : State → State
  between x = record {
    stack = card_stack card_type closed (without_top x.stack);
    locals = card_cells card_type
        x.locals;
  }

  -- what is written for an instruction, from this label on
  abbrev pub steps_for : (from : ℕ) → JInsn → List Step
  steps_for from i = steps_from step from (written_for r label i)

  -- the block of an instruction at a place
  abbrev pub block_of : (at from : ℕ) → JInsn → State → Block
  block_of at from i x = record {
    steps = steps_for from i;
    before = card_state card_type (opened at) x;
    middle = between x;
    behind = card_state card_type (opened (suc at)) (after_by_name i.op x);
  }

  -- those of reached instructions
  abbrev pub blocks_from : (at from : ℕ) → List JInsn → List (Option State) → List Block
  blocks_from at from [] rows = []
  blocks_from at from (i ∷ insns) [] = []
  blocks_from at from (i ∷ insns) (None ∷ rows) = blocks_from (suc at) from insns rows
  blocks_from at from (i ∷ insns) (Some x ∷ rows) = block_of at from i x ∷ blocks_from (suc at) (from
      + length (written_for r label i)) insns rows

  -- What is written for a reached instruction stands between its frames, goes on where the instruction does, and jumps
  -- to what is written for its targets.
  pub record RowStands (count max_stack : ℕ) (to : ℕ → ℕ) (at from : ℕ) (i : JInsn) (x : State) : Type 0 where
    pub stands : AllStand is_of count max_stack (card_state card_type (opened at) x) (between x) (card_state card_type
        (opened (suc at)) (after_by_name i.op x)) (steps_for from i)
    pub falls : goes_on (steps_for from i) ≡ true → goes_on_by_name i.op ≡ true
    pub jumps : (s : Step) → Contains (steps_for from i) s → (offset : ℕ) → Contains (let a = s.act in a.targets) offset
        → (target : ℕ) × Contains (targets i.op) target × (offset ≡ to (label target))

  -- A handler of the card that covers an instruction is that of a handler of the class file which covers what it is
  -- written for: it catches the card's type of the same class, at what is written for the same target.
  pub record IsHandlerFor (to : ℕ → ℕ) (c : Catch) (i : JInsn) : Type 0 where
    pub catch : CatchByName
    pub listed : Contains b.catches catch
    pub covers : covers_by_name catch i.at ≡ true
    pub caught : IsCaughtAs card_type c.caught (caught_type catch.class)
    pub target : c.target ≡ to (label catch.target)

  -- The method of the card is written for that of the class file.
  pub record IsWrittenFor (m : Body) (to : ℕ → ℕ) : Type 0 where
    pub few : AreFew card_type
    pub steps : m.steps ≡ steps_from step 0 (narrow_code r (reached b.insns rows))
    pub at : (k : ℕ) (insn : NInsn) → (let s = step k insn in s.at) ≡ to k
    pub ascends : (j k : ℕ) → j < k → k ≤ length m.steps → to j < to k
    pub locals : m.local_count ≡ b.max_locals
    pub begins : (let s = states m.local_count in s.Below (entry m) (card_state card_type closed (entry_by_name b)))
    pub stand : (at : ℕ) (i : JInsn) (x : State) → slice_get b.insns at ≡ Some i → HasRow rows at x
        → RowStands m.local_count m.max_stack to at (label i.at) i x
    pub handlers : (at : ℕ) (i : JInsn) (x : State) → slice_get b.insns at ≡ Some i → HasRow rows at x → (s : Step)
        → Contains (steps_for (label i.at) i) s → (c : Catch) → Contains m.catches c → covers c s.at ≡ true
        → IsHandlerFor to c i
