-- What is written for an instruction of the stack stands between its frames, whichever of its cells are references.
use Rattle.std.proofs.Common.{◌≡◌, ℕ, ◌+◌, refl, ap, ◌∙◌, arith, Bool, List, [], ◌∷◌, map, Option}
use Rattle.cjc_types.specs.Bytecode.Jvm as jvm
use Rattle.cjc_types.specs.Bytecode.declared.insn.JOp.TheVariants as jop
use Rattle.cjc_types.specs.Flow.{Body as BodyByName}
use Rattle.cjc_types.specs.Rules.{is_reference}
use Rattle.cjc_types.specs.Search.{cells_of}
use Rattle.cjc_types.specs.World.Classes.{Class}
use Rattle.cjc_types.specs.declared.cell.Cell.{Cell}
use Rattle.cjc_types.specs.declared.state.Stack.{Stack}
use Rattle.cjc_types.specs.declared.state.Stack.TheVariants.{Cells}
use Rattle.cjc_types.specs.declared.state.State.{State}
use Rattle.cjc_check_proof.specs.NCode.Lowering.Naming.{Naming}
use Rattle.cjc_check_proof.specs.NCode.Written.{Resolution}
use Rattle.cjc_ncode.specs.IntCode.IntCode.{Before, Frame, written}
use Rattle.cjc_frames.specs.Acts.{Subtype}
use Rattle.cjc_frames.specs.declared.acts.Act.{Act}
use Rattle.cjc_verify.specs.CardActs.CardTypes.{ValueType}
use Rattle.cjc_verify.specs.CardActs.Rows.{copying, swapping}
use Rattle.cjc_verify.specs.Pairs.{Pair}
use Rattle.cjc_accepted_proof.specs.Plain.{IsStackOpcode}
use Rattle.cjc_accepted_proof.specs.Plain as opcodes
use Rattle.cjc_int_accepted.specs.Acts.{dropping}
use Rattle.cjc_int_accepted.specs.Ends.{LeadAtEnd}
use Rattle.cjc_int_accepted.specs.Frames.{Room, count_of}
use Rattle.cjc_int_accepted.specs.Laid.{acts_laid, references_in}
use Rattle.cjc_int_accepted.specs.Methods.{Selection, acts_of}
use Rattle.cjc_int_accepted.specs.Runs.{IsOn, Runs}
use Rattle.cjc_int_accepted.specs.Standing.{IsSelected, IsStanding, Stands}
use Rattle.cjc_int_accepted.proofs.RowsLaws.Stack.{dup2_runs, dup2_x1_runs, dup2_x2_runs, dup_runs, dup_x1_runs}
use Rattle.cjc_int_accepted.proofs.RowsLaws.Stack.{dup_x2_runs, pop2_runs, pop_runs, swap_both}
use Rattle.cjc_int_accepted.proofs.StandLaws.{none_in, nowhere, stands_by_acts}
use Rattle.cjc_int_accepted.proofs.WrittenLaws as laid

module _ (card_type : List ℕ → Option (List ℕ)) (is_of : Subtype) (m : Room) (new : Selection) (b : BodyByName)
    (rows : List (Option State)) (label to : ℕ → ℕ) (p : Pair) (result : ValueType) (n : Naming) (wide : ℕ → Bool)
    (f : Frame) (r : Resolution) (known : Before) (w : List Class) (count place here o : ℕ) (x : State)
    (known_is : known.references ≡ map is_reference (cells_of x.stack)) where
  abbrev Selected : (op : ℕ) → Type 0
  Selected op = IsSelected card_type is_of m new b rows label to p result n wide f r known w count place here o x
      (jop.Stack op)

  abbrev Standing : (op : ℕ) → Type 0
  Standing op = IsStanding card_type is_of m new b rows label to p result n wide f r known w count place here o x
      (jop.Stack op)

  -- on a stack of cells
  abbrev StandsOn : (op : ℕ) → List Cell → Type 0
  StandsOn op s = x.stack ≡ Cells s → IsOn b.max_stack (jop.Stack op) x.locals s → Selected op → Stands card_type is_of
      m new b rows label to p result n wide f r known w count place here o x (jop.Stack op)

  referenced : (s : List Cell) → x.stack ≡ Cells s → known.references ≡ references_in s
  referenced s is = known_is ∙ ap (λ (t : Stack). map is_reference (cells_of t)) is

  by_acts : (op : ℕ) (s : List Cell) (acts : List Act) → (known.references ≡ references_in s → acts_laid p result n to
      wide here (written f r label known here (jop.Stack op)) ≡ acts) → (IsOn b.max_stack (jop.Stack op) x.locals s
      → Runs card_type is_of m b.max_stack (jop.Stack op) acts x.locals s) → LeadAtEnd label to (jop.Stack op) acts
      → StandsOn op s
  by_acts op s acts e runs ends is on selected = stands_by_acts card_type is_of m new b rows label to count place here
      (record { at = o; op = jop.Stack op }) x s acts is (ap acts_of selected ∙ e (referenced s is)) (runs on) ends
      (λ h. refl)

  -- so many words above so many are copied
  abbrev copied : (above below : List Cell) → List Act
  copied above below = copying (count_of card_type above) (count_of card_type above + count_of card_type below) ∷ []

  pop_on : (s : List Cell) → StandsOn jvm.pop s
  pop_on [] is on selected = let enough = on.enough in absurd (omega (arith, enough))
  pop_on (y ∷ s) is on selected = by_acts jvm.pop (y ∷ s) (dropping card_type y ∷ []) (laid.pop_acts p result n to wide
      f r label known here card_type y s) (pop_runs card_type is_of m b.max_stack x.locals y s) (nowhere label to
      (jop.Stack jvm.pop)) is on selected

  pop2_on : (s : List Cell) → StandsOn jvm.pop2 s
  pop2_on [] is on selected = let enough = on.enough in absurd (omega (arith, enough))
  pop2_on (y ∷ []) is on selected = let enough = on.enough in absurd (omega (arith, enough))
  pop2_on (y ∷ z ∷ s) is on selected = by_acts jvm.pop2 (y ∷ z ∷ s) (dropping card_type y ∷ dropping card_type z ∷ [])
      (laid.pop2_acts p result n to wide f r label known here card_type y z s) (pop2_runs card_type is_of m b.max_stack
      x.locals y z s)
      (none_in, nowhere label to (jop.Stack jvm.pop2)) is on selected

  dup_on : (s : List Cell) → StandsOn jvm.dup s
  dup_on [] is on selected = let enough = on.enough in absurd (omega (arith, enough))
  dup_on (y ∷ s) is on selected = by_acts jvm.dup (y ∷ s) (copied (y ∷ []) []) (laid.dup_acts p result n to wide f r
      label known here card_type y s) (dup_runs card_type is_of m b.max_stack x.locals y s) (nowhere label to
      (jop.Stack jvm.dup)) is on selected

  dup2_on : (s : List Cell) → StandsOn jvm.dup2 s
  dup2_on [] is on selected = let enough = on.enough in absurd (omega (arith, enough))
  dup2_on (y ∷ []) is on selected = let enough = on.enough in absurd (omega (arith, enough))
  dup2_on (y ∷ z ∷ s) is on selected = by_acts jvm.dup2 (y ∷ z ∷ s) (copied (y ∷ z ∷ []) []) (laid.dup2_acts p result n
      to wide f r label known here card_type y z s) (dup2_runs card_type is_of m b.max_stack x.locals y z s) (nowhere
      label to (jop.Stack
      jvm.dup2)) is on selected

  dup_x1_on : (s : List Cell) → StandsOn jvm.dup_x1 s
  dup_x1_on [] is on selected = let enough = on.enough in absurd (omega (arith, enough))
  dup_x1_on (y ∷ []) is on selected = let enough = on.enough in absurd (omega (arith, enough))
  dup_x1_on (y ∷ z ∷ s) is on selected = by_acts jvm.dup_x1 (y ∷ z ∷ s) (copied (y ∷ []) (z ∷ [])) (laid.dup_x1_acts p
      result n to wide f r label known here card_type y z s) (dup_x1_runs card_type is_of m b.max_stack x.locals y z s)
      (nowhere label to
      (jop.Stack jvm.dup_x1)) is on selected

  dup_x2_on : (s : List Cell) → StandsOn jvm.dup_x2 s
  dup_x2_on [] is on selected = let enough = on.enough in absurd (omega (arith, enough))
  dup_x2_on (y ∷ []) is on selected = let enough = on.enough in absurd (omega (arith, enough))
  dup_x2_on (y ∷ z ∷ []) is on selected = let enough = on.enough in absurd (omega (arith, enough))
  dup_x2_on (y ∷ z ∷ u ∷ s) is on selected = by_acts jvm.dup_x2 (y ∷ z ∷ u ∷ s) (copied (y ∷ []) (z ∷ u ∷ []))
      (laid.dup_x2_acts p result n to wide f r label known here card_type y z u s) (dup_x2_runs card_type is_of m
      b.max_stack x.locals y z u s)
      (nowhere label to (jop.Stack jvm.dup_x2)) is on selected

  dup2_x1_on : (s : List Cell) → StandsOn jvm.dup2_x1 s
  dup2_x1_on [] is on selected = let enough = on.enough in absurd (omega (arith, enough))
  dup2_x1_on (y ∷ []) is on selected = let enough = on.enough in absurd (omega (arith, enough))
  dup2_x1_on (y ∷ z ∷ []) is on selected = let enough = on.enough in absurd (omega (arith, enough))
  dup2_x1_on (y ∷ z ∷ u ∷ s) is on selected = by_acts jvm.dup2_x1 (y ∷ z ∷ u ∷ s) (copied (y ∷ z ∷ []) (u ∷ []))
      (laid.dup2_x1_acts p result n to wide f r label known here card_type y z u s) (dup2_x1_runs card_type is_of m
      b.max_stack x.locals y z u
      s) (nowhere label to (jop.Stack jvm.dup2_x1)) is on selected

  dup2_x2_on : (s : List Cell) → StandsOn jvm.dup2_x2 s
  dup2_x2_on [] is on selected = let enough = on.enough in absurd (omega (arith, enough))
  dup2_x2_on (y ∷ []) is on selected = let enough = on.enough in absurd (omega (arith, enough))
  dup2_x2_on (y ∷ z ∷ []) is on selected = let enough = on.enough in absurd (omega (arith, enough))
  dup2_x2_on (y ∷ z ∷ u ∷ []) is on selected = let enough = on.enough in absurd (omega (arith, enough))
  dup2_x2_on (y ∷ z ∷ u ∷ v ∷ s) is on selected = by_acts jvm.dup2_x2 (y ∷ z ∷ u ∷ v ∷ s) (copied (y ∷ z ∷ []) (u ∷ v ∷
      [])) (laid.dup2_x2_acts p result n to wide f r label known here card_type y z u v s) (dup2_x2_runs card_type
      is_of m
      b.max_stack x.locals y z u v s) (nowhere label to (jop.Stack jvm.dup2_x2)) is on selected

  swap_on : (s : List Cell) → StandsOn jvm.swap s
  swap_on [] is on selected = let enough = on.enough in absurd (omega (arith, enough))
  swap_on (y ∷ []) is on selected = let enough = on.enough in absurd (omega (arith, enough))
  swap_on (y ∷ z ∷ s) is on selected = by_acts jvm.swap (y ∷ z ∷ s) (swapping (count_of card_type (y ∷ [])) (count_of
      card_type (z ∷ [])) ∷ []) (laid.swap_acts p result n to wide f r label known here card_type y z s) (swap_both
      card_type is_of m
      b.max_stack x.locals y z s) (nowhere label to (jop.Stack jvm.swap)) is on selected

  pub stack_stands : (op : ℕ) → IsStackOpcode op → Standing op
  stack_stands _ opcodes.pop q = pop_on q.stack q.is q.on
  stack_stands _ opcodes.pop2 q = pop2_on q.stack q.is q.on
  stack_stands _ opcodes.dup q = dup_on q.stack q.is q.on
  stack_stands _ opcodes.dup_x1 q = dup_x1_on q.stack q.is q.on
  stack_stands _ opcodes.dup_x2 q = dup_x2_on q.stack q.is q.on
  stack_stands _ opcodes.dup2 q = dup2_on q.stack q.is q.on
  stack_stands _ opcodes.dup2_x1 q = dup2_x1_on q.stack q.is q.on
  stack_stands _ opcodes.dup2_x2 q = dup2_x2_on q.stack q.is q.on
  stack_stands _ opcodes.swap q = swap_on q.stack q.is q.on
