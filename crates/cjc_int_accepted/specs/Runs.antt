-- Instructions of the card that follow each other from the words of a frame: each finds what it needs, and none has
-- more
-- words than there is room for.
use Rattle.std.specs.Prelude.{◌≡◌, ℕ, ◌*◌, ◌+◌, ◌≤◌, true, false, List, [], ◌∷◌, length, slice_get, Option, Some}
use Rattle.std.specs.List.{AllZip}
use Rattle.cjc_types.specs.Bytecode.declared.insn.JOp.{JOp}
use Rattle.cjc_types.specs.Cells.{IsCellBelow}
use Rattle.cjc_types.specs.Steps.{goes_on, locals_after, stack_behind as behind_by_name, takes}
use Rattle.cjc_types.specs.declared.cell.Cell.{Cell}
use Rattle.cjc_types.specs.declared.cell.Cell.TheVariants.{Unusable}
use Rattle.cjc_types.specs.declared.state.Stack.TheVariants.{Cells}
use Rattle.cjc_frames.specs.declared.acts.Act.{Act}
use Rattle.cjc_frames.specs.Acts.{Subtype, has_wrong, has_wrong_local, lacks_local, stack_behind, with_writes}
use Rattle.cjc_int_accepted.specs.Frames.{Room, frame_words, stack_words}

-- the locals behind an instruction
abbrev pub locals_behind : Act → (locals stack : List Cell) → List Cell
locals_behind a ls s = with_writes a ls (Cells s) a.writes ls

-- An instruction finds what it needs, and no stack has more words than this.
pub record IsSound (is_of : Subtype) (most : ℕ) (a : Act) (locals stack : List Cell) : Type 0 where
  pub enough : length a.takes ≤ length stack
  pub before : length stack ≤ most
  pub behind : length (stack_behind a locals stack) ≤ most
  pub operands : has_wrong is_of a.takes stack ≡ false
  pub locals_right : has_wrong_local is_of a.reads locals ≡ false
  pub there : lacks_local a locals ≡ false
  pub fits : a.misfits ≡ false
  pub known : a.is_unknown ≡ false
  pub named : a.misnames ≡ false

-- So does each of several in turn, before each of which the card knows of the locals no less than this.
abbrev pub AreSound : Subtype → (most : ℕ) → (base : List Cell) → List Act → (locals stack : List Cell) → Type 0
AreSound is_of most base [] ls s = Unit {0}
AreSound is_of most base (a ∷ acts) ls s = IsSound is_of most a ls s × AllZip IsCellBelow ls base
    × AreSound is_of most base acts (locals_behind a ls s) (stack_behind a ls s)

-- the stack behind all
abbrev pub stack_through : List Act → (locals stack : List Cell) → List Cell
stack_through [] ls s = s
stack_through (a ∷ acts) ls s = stack_through acts (locals_behind a ls s) (stack_behind a ls s)

-- the locals behind all
abbrev pub locals_through : List Act → (locals stack : List Cell) → List Cell
locals_through [] ls s = ls
locals_through (a ∷ acts) ls s = locals_through acts (locals_behind a ls s) (stack_behind a ls s)

-- Instructions go from words to words.
pub record Walks (is_of : Subtype) (most : ℕ) (base : List Cell) (acts : List Act) (ls s ls_behind s_behind
    : List Cell) : Type 0 where
  pub sound : AreSound is_of most base acts ls s
  pub stack : stack_through acts ls s ≡ s_behind
  pub locals : locals_through acts ls s ≡ ls_behind

-- the most words of the stack of a method in int mode
abbrev pub most_words : (max_stack : ℕ) → ℕ
most_words max_stack = 2 * max_stack + 4

-- An instruction of a class file has the operands that it takes, no stack has more than this, and where another may
-- follow, each cell that is left is a number or a reference.
pub record IsOn (max_stack : ℕ) (op : JOp) (locals stack : List Cell) : Type 0 where
  pub enough : takes op ≤ length stack
  pub before : length stack ≤ max_stack
  pub behind : length (behind_by_name op locals stack) ≤ max_stack
  pub usable : goes_on op ≡ true → (k : ℕ) → slice_get (behind_by_name op locals stack) k ≡ Some Unusable → ⊥

-- What is written for an instruction of a class file in int mode goes from the words of the frame before it to no more
-- than those of the frame behind it.
pub record Runs (card_type : List ℕ → Option (List ℕ)) (is_of : Subtype) (m : Room) (max_stack : ℕ) (op : JOp)
    (acts : List Act) (locals stack : List Cell) : Type 0 where
  pub sound : AreSound is_of (most_words max_stack) (frame_words card_type m locals) acts (frame_words card_type m
      locals) (stack_words card_type stack)
  pub stack_below : AllZip IsCellBelow (stack_through acts (frame_words card_type m locals) (stack_words card_type
      stack)) (stack_words card_type (behind_by_name op locals stack))
  pub locals_below : AllZip IsCellBelow (locals_through acts (frame_words card_type m locals) (stack_words card_type
      stack)) (frame_words card_type m (locals_after op locals (Cells stack)))
