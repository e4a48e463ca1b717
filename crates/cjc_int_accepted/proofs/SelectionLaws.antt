-- What is written for a method in int mode is, step by step, the selection by its tables.
use Rattle.std.proofs.Common.{◌≡◌, ℕ, zero, suc, ◌+◌, ◌*◌, ◌<◌, ◌≤◌, refl, sym, ap, ◌∙◌, arith}
use Rattle.std.proofs.Common.{List, [], ◌∷◌, ◌++◌, length, slice_get, get_or, Option, Some, None}
use Rattle.std.proofs.Common.{⊎_elim, subst, Bool, true, false, Contains}
use Rattle.std.proofs.lemmas.Bool.{cases_lt, ltb-false, ltb-true}
use Rattle.std.proofs.lemmas.Bool.Decides.{nat_tests}
use Rattle.std.proofs.lemmas.Option.{slice_get-get_or}
use Rattle.std.specs.Prelude.{◌&&◌, ◌-◌, nat_le, nat_lt, if◌then◌else◌}
use Rattle.cjc_types.proofs.BytesGets.{get_below}
use Rattle.cjc_types.specs.Bytecode.declared.insn.JInsn.{JInsn}
use Rattle.cjc_types.specs.Bytecode.declared.method_code.MethodCode.{MethodCode}
use Rattle.cjc_types.specs.Bytes.declared.fault.MemberId.{MemberId}
use Rattle.cjc_types.specs.ClassFile.declared.tree.ClassTree.{ClassTree}
use Rattle.cjc_types.specs.ClassFile.declared.tree.MethodTree.{MethodTree}
use Rattle.cjc_types.specs.Tables.{IsMethodOf}
use Rattle.cjc_types.specs.World.Files.{Files}
use Rattle.cjc_check_proof.specs.JvmSemantics.Linked.{Method}
use Rattle.cjc_check_proof.specs.JvmSemantics.OnePackage.{method_at, method_by}
use Rattle.cjc_check_proof.specs.NarrowProof.Selected.Keeps.{FindsItself}
use Rattle.cjc_verify.specs.Components.Package.{LaidMethod}
use Rattle.cjc_verify.specs.Narrow.Rows.Resolved.{resolution}
use Rattle.cjc_int_components.specs.Modes.{Tables}
use Rattle.cjc_int_components.specs.Written.{IsWrittenByMode, code_by_mode, code_in}
use Rattle.cjc_int_components.proofs.ByTables.{int_code_same}
use Rattle.cjc_int_mode.specs.Room.{IsRoom, an_unusable_cell, high_stack}
use Rattle.cjc_int_mode.specs.declared.modes.Mode.{Mode}
use Rattle.cjc_int_mode.specs.declared.modes.Mode.TheVariants as modes
use Rattle.cjc_ncode.specs.declared.narrow.NMethod.{NMethod}
use Rattle.cjc_types.specs.ClassFile.Code.{CodeTree}
use Rattle.cjc_types.specs.ClassFile.declared.tree.Catch.{Catch as CatchByName}
use Rattle.cjc_types.specs.Fixpoint.Tables.{HasRow}
use Rattle.cjc_types.specs.Flow.{Body, body_of, covers as covers_by_name}
use Rattle.cjc_types.specs.Search.{cells_of}
use Rattle.cjc_types.specs.States.{most_cells}
use Rattle.cjc_types.specs.declared.cell.Cell.{Cell}
use Rattle.cjc_types.specs.declared.cell.Cell.TheVariants.{Unusable}
use Rattle.cjc_types.specs.declared.state.Stack.{Stack}
use Rattle.cjc_types.specs.declared.state.Stack.TheVariants.{Cells}
use Rattle.cjc_types.specs.declared.state.State.{State}
use Rattle.cjc_check_proof.specs.NarrowProof.Tables.Analysis.{Ascend}
use Rattle.cjc_check_proof.proofs.NarrowProofPlaced.{ascend_tail}
use Rattle.cjc_intervals.specs.Frames.{RangeState}
use Rattle.cjc_ncode.specs.Written.{Resolution, catches_at}
use Rattle.cjc_ncode.specs.declared.narrow.NInsn.{NInsn}
use Rattle.cjc_ncode.specs.IntCode.IntCode.{Before, Frame, Reached, place_from, prologue, size, written, written_from}
use Rattle.cjc_ncode.specs.IntCode.IntCode.{scratch_pairs_of}
use Rattle.cjc_int_mode.specs.Written.{before, int_frame, places_from, reached_from, written_in_int_mode}
use Rattle.cjc_int_proof.proofs.Counts.{behind, below, order, same_length, within}
use Rattle.cjc_int_runs.specs.Placed.{offset_in}
use Rattle.cjc_int_runs.proofs.PlacedCode.{none_before}
use Rattle.cjc_int_alike.proofs.Written.{pairs_there, reached_of, reached_there}
use Rattle.cjc_frames.specs.declared.acts.Step.{Step}
use Rattle.cjc_accepted_proof.specs.Methods.{steps_from}
use Rattle.cjc_accepted_proof.proofs.MethodsLaws.{step_there, steps_both, steps_long}
use Rattle.cjc_int_accepted.specs.Frames.{Room}
use Rattle.cjc_int_accepted.specs.Methods.{AreLabelled, Selection, stretches_from}
use Rattle.cjc_int_accepted.specs.Runs.{most_words}
use Rattle.cjc_int_accepted.specs.Selection.{front_of, label_in, room_of, selected}
use Rattle.cjc_int_accepted.specs.Stretches.{Stretch, steps_in}

-- ---- instructions as steps

-- a step of instructions, and its label
step_of : (step : (label : ℕ) → NInsn → Step) (k : ℕ) (xs : List NInsn) (j : ℕ) (s : Step) → slice_get (steps_from step
    k xs) j ≡ Some s → (j < length xs) × (x : NInsn) × (s ≡ step (k + j) x)
step_of step k xs j s e =
    let r = step_there step k xs j s e in
    let lt = get_below (steps_from step k xs) j s e in
    let long = steps_long step k xs in
    (omega (arith, lt, long), r.0, r.1)

-- a step that is listed is there
listed : (xs : List Step) (s : Step) (on : Contains xs s) → slice_get xs on.0 ≡ Some s
listed xs s on = slice_get-get_or xs on.0 s on.1 ∙ ap (λ z. Some z) on.2

-- ---- offsets

-- the first of ascending instructions stands before no other
first_of : (i : JInsn) (insns : List JInsn) → Ascend (i ∷ insns) → (k : ℕ) (j : JInsn) → slice_get (i ∷ insns) k
    ≡ Some j → i.at ≤ j.at
first_of i insns up zero j e =
    let same : i ≡ j = cc in
    let at = ap (λ (v : JInsn). v.at) same in
    omega (arith, at)
first_of i insns up (suc k) j e = let lt = up 0 (suc k) i j refl e (omega arith) in omega (arith, lt)

-- a step stands where its label does
pub placed_at : (step : (label : ℕ) → NInsn → Step) (to : ℕ → ℕ) (insns : List NInsn) → ((k : ℕ) (i : NInsn) → (let
    s = step k i in s.at) ≡ to k) → (k : ℕ) (s : Step) → slice_get (steps_from step 0 insns) k ≡ Some s → s.at ≡ to k
placed_at step to insns at k s e =
    let there = step_of step 0 insns k s e in
    let none : 0 + k ≡ k = omega arith in
    ap (λ (q : Step). q.at) there.2 ∙ at (0 + k) there.1 ∙ ap to none

-- ---- places

module _ (f : Frame) (r : Resolution) where
  part_up : (n at o later : ℕ) → o ≤ later → (if nat_lt at o then n else 0) ≤ (if nat_lt at later then n else 0)
  part_up n at o later le = go (nat_lt at o) refl (nat_lt at later) refl
    where
      go : (p : Bool) → nat_lt at o ≡ p → (q : Bool) → nat_lt at later ≡ q → (if p then n else 0) ≤ (if q then n else 0)
      go false e q g = omega arith
      go true e true g = omega arith
      go true e false g = absurd (let less = ltb-true at o e in let more = ltb-false at later g in omega (
        arith,
        less,
        more,
        le,
      ))

  -- what is written for an instruction stands before the place of an offset behind it
  place_over : (reached : List Reached) (k : ℕ) (i : Reached) (o : ℕ) → slice_get reached k ≡ Some i → offset_in i < o
      → place_from f r reached (offset_in i) + size f r i ≤ place_from f r reached o
  place_over [] k i o e lt = absurd cc
  place_over (x ∷ reached) zero i o e lt =
      let same : x ≡ i = cc in
      let at_same : offset_in x ≡ offset_in i = ap offset_in same in
      let sized : size f r x ≡ size f r i = ap (size f r) same in
      let rest = order f r reached (offset_in i) o (omega (arith, lt)) in
      let here : nat_lt (offset_in x) (offset_in i) ≡ false = grind (arith, nat_tests, at_same) in
      let there : nat_lt (offset_in x) o ≡ true = grind (arith, nat_tests, at_same, lt) in
      let first : (if nat_lt (offset_in x) (offset_in i) then size f r x else 0) ≡ 0 = ap (λ (b : Bool). if b then size
      f r x else 0) here in
      let second : (if nat_lt (offset_in x) o then size f r x else 0) ≡ size f r x = ap (λ (b : Bool). if b then size f
      r x else 0) there in
      omega (arith, first, second, sized, rest)
  place_over (x ∷ reached) (suc k) i o e lt =
      let first = part_up (size f r x) (offset_in x) (offset_in i) o (omega (arith, lt)) in
      let rest = place_over reached k i o e lt in
      omega (arith, first, rest)

module _ (card_type : List ℕ → Option (List ℕ)) (m : Room) (r : Resolution) (b : Body)
    (types : List (Option State)) (ranges : List (Option RangeState)) (step : (label : ℕ) → NInsn → Step) where
  abbrev f : Frame
  f = int_frame b

  abbrev label : ℕ → ℕ
  label = label_in r b types ranges

  abbrev new : Selection
  new = selected r b types ranges step

  abbrev made : (place here : ℕ) → List JInsn → List (Option State) → List Stretch
  made place here insns rows = stretches_from card_type m new place here insns rows

  abbrev known : (place : ℕ) → JInsn → State → Before
  known place i x = before i.op x (get_or ranges place None)

  abbrev one_reached : (place : ℕ) → JInsn → State → Reached
  one_reached place i x = record { insn = i; before = known place i x }

  abbrev text : (place here : ℕ) → JInsn → State → List NInsn
  text place here i x = written f r label (known place i x) here i.op

  -- ---- steps

  made_steps : (place here : ℕ) (insns : List JInsn) (rows : List (Option State)) → steps_in (made place here insns
      rows) ≡ steps_from step here (written_from f r label here (reached_from ranges place insns rows))
  made_steps place here [] rows = refl
  made_steps place here (i ∷ insns) [] = refl
  made_steps place here (i ∷ insns) (None ∷ rows) =
      let up : suc place ≡ place + 1 = omega arith in
      made_steps (suc place) here insns rows ∙ ap (λ n. steps_from step here (written_from f r label here (reached_from
      ranges n insns rows))) up
  made_steps place here (i ∷ insns) (Some x ∷ rows) =
      let up : suc place ≡ place + 1 = omega arith in
      let one = text place here i x in
      ap (λ n. steps_from step here one ++ steps_in (made (suc place) (here + n) insns rows)) (steps_long step here one)
      ∙ ap (λ ss. steps_from step here one ++ ss) (made_steps (suc place) (here + length one) insns rows
      ∙ ap (λ n. steps_from step (here + length one) (written_from f r label (here + length one) (reached_from ranges n
      insns rows))) up)
      ∙ sym (steps_both step here one (written_from f r label (here + length one) (reached_from ranges (place + 1) insns
      rows)))

  -- ---- labels

  -- instructions whose labels are counted from here on stand at them
  labelled : (place here : ℕ) (insns : List JInsn) (rows : List (Option State)) → Ascend insns → ((k : ℕ) (i : JInsn)
      → slice_get insns k ≡ Some i → label i.at ≡ here + place_from f r (reached_from ranges place insns rows) i.at)
      → AreLabelled card_type m new label place here insns rows
  labelled place here [] rows up h = tt
  labelled place here (i ∷ insns) [] up h = tt
  labelled place here (i ∷ insns) (None ∷ rows) up h =
      let next : place + 1 ≡ suc place = omega arith in
      labelled (suc place) here insns rows (ascend_tail i insns up) (λ k j e. h (suc k) j e ∙ ap (λ n. here + place_from
      f r (reached_from ranges n insns rows) j.at) next)
  labelled place here (i ∷ insns) (Some x ∷ rows) up h = (
    first,
    labelled (suc place) (here + length (new place here i x)) insns rows (ascend_tail i insns up) rest,
  )
    where
      not_before : (k : ℕ) (y : Reached) → slice_get (reached_from ranges place (i ∷ insns) (Some x ∷ rows)) k ≡ Some y
          → i.at ≤ offset_in y
      not_before k y e =
          let from = reached_of ranges place (i ∷ insns) (Some x ∷ rows) k y e in
          first_of i insns up from.0 y.insn from.1

      first : here ≡ label i.at
      first =
          let none = none_before f r (reached_from ranges place (i ∷ insns) (Some x ∷ rows)) i.at not_before in
          let own = h 0 i refl in
          omega (arith, none, own)

      rest : (k : ℕ) (j : JInsn) → slice_get insns k ≡ Some j → label j.at ≡ here + length (new place here i x)
          + place_from f r (reached_from ranges (suc place) insns rows) j.at
      rest k j e =
          let next : place + 1 ≡ suc place = omega arith in
          let lt = up 0 (suc k) i j refl e (omega arith) in
          let behind : nat_lt i.at j.at ≡ true = grind (arith, nat_tests, lt) in
          let one = one_reached place i x in
          let counted : (if nat_lt i.at j.at then size f r one else 0) ≡ size f r one = ap (λ (t : Bool). if t then size
          f r one else 0) behind in
          let long = steps_long step here (text place here i x) in
          let same : length (text place here i x) ≡ size f r one = same_length f r label (λ o. 0) (known place i x) here
          0 i.op in
          let own = h (suc k) j e in
          let moved = ap (λ n. place_from f r (reached_from ranges n insns rows) j.at) next in
          omega (arith, counted, long, same, own, moved)

  -- ---- a method

  abbrev front : List Step
  front = front_of r b types ranges step

  front_long : length front ≡ length (prologue f)
  front_long = steps_long step 0 (prologue f)

  -- the steps of its narrow code
  pub code_is : (code : CodeTree) → (let written = written_in_int_mode r code b types ranges in steps_from step 0
      written.insns) ≡ front ++ steps_in (made 0 (length front) b.insns types)
  code_is code =
      let at = length (prologue f) in
      let none : 0 + at ≡ at = omega arith in
      steps_both step 0 (prologue f) (written_from f r label at (reached_from ranges 0 b.insns types))
      ∙ ap (λ n. front ++ steps_from step n (written_from f r label at (reached_from ranges 0 b.insns types))) none
      ∙ ap (λ ss. front ++ ss) (sym (made_steps 0 at b.insns types))
      ∙ ap (λ n. front ++ steps_in (made 0 n b.insns types)) (sym front_long)

  -- each stretch stands at the label of its offset
  pub are_labelled : Ascend b.insns → AreLabelled card_type m new label 0 (length front) b.insns types
  are_labelled up = labelled 0 (length front) b.insns types up (λ k i e. ap (λ n. n + place_from f r (reached_from
      ranges 0 b.insns types) i.at) (sym front_long))

  -- ---- handlers

  -- where steps stand at offsets that ascend
  module _ (code : CodeTree) (to : ℕ → ℕ) (stands : (k : ℕ) (i : NInsn) → (let s = step k i in s.at) ≡ to k)
      (ascends : (j k : ℕ) → j < k → k ≤ (let written = written_in_int_mode r code b types ranges in length
      written.insns) → to j < to k) where
    abbrev reached : List Reached
    reached = reached_from ranges 0 b.insns types

    abbrev count : ℕ
    count = let written = written_in_int_mode r code b types ranges in length written.insns

    label_few : (o : ℕ) → label o ≤ count
    label_few o = within f r code reached (places_from 0 b.insns types) o

    grows : (j k : ℕ) → j ≤ k → k ≤ count → to j ≤ to k
    grows j k le few = ⊎_elim
        (λ less. (let up = ascends j k less few in omega (arith, up)))
        (λ over. (let same : j ≡ k = omega (arith, le, over) in subst (λ n. to j ≤ to n) same (omega arith)))
        (cases_lt j k)

    -- what stands before the first stands before every label of an offset
    pub in_front : (s : Step) → Contains front s → (offset : ℕ) → s.at < to (label offset)
    in_front s on offset =
        let here = step_of step 0 (prologue f) on.0 s (listed front s on) in
        let lt = here.0 in
        let le = behind f r reached offset in
        let none : 0 + on.0 ≡ on.0 = omega arith in
        let at_same : s.at ≡ to on.0 = ap (λ (q : Step). q.at) here.2 ∙ stands (0 + on.0) here.1 ∙ ap to none in
        let up = ascends on.0 (label offset) (omega (arith, lt, le)) (label_few offset) in
        omega (arith, up, at_same)

    -- the range of a handler by labels is its range by offsets
    pub covered : (at : ℕ) (i : JInsn) (x : State) → slice_get b.insns at ≡ Some i → HasRow types at x → (s : Step)
        → Contains (new at (label i.at) i x) s → (d : CatchByName) → to (label d.start) ≤ s.at → s.at < to (label
        d.start) + (to (label d.end) - to (label d.start)) → covers_by_name d i.at ≡ true
    covered at i x there row s on d low high =
        let kept = reached_there ranges 0 b.insns types at i x there row in
        let one = one_reached at i x in
        let none : 0 + at ≡ at = omega arith in
        let is_kept : slice_get reached kept.0 ≡ Some one = kept.1 ∙ ap (λ n. Some (one_reached n i x)) none in
        let here = step_of step (label i.at) (text at (label i.at) i x) on.0 s (listed (new at (label i.at) i x) s on)
        in
        let lt = here.0 in
        let k = label i.at + on.0 in
        let at_same : s.at ≡ to k = ap (λ (q : Step). q.at) here.2 ∙ stands k here.1 in
        let long : length (text at (label i.at) i x) ≡ size f r one = same_length f r label (λ o. 0) (known at i x)
        (label i.at) 0 i.op in
        let under = below f r code reached (places_from 0 b.insns types) i.at kept.0 one is_kept (omega arith) in
        let inside : k < count = omega (arith, lt, long, under) in
        let start_low : label d.start ≤ k = ⊎_elim
        (λ less. (let up = ascends k (label d.start) less (label_few d.start) in absurd (omega (
          arith,
          up,
          low,
          at_same,
        ))))
        (λ le. le)
        (cases_lt k (label d.start)) in
        let end_high : k < label d.end = ⊎_elim
        (λ less. less)
        (λ le. (let up = grows (label d.end) k le (omega (arith, inside)) in let down = grows (label d.start) k
        start_low (omega (arith, inside)) in absurd (omega (arith, up, down, low, high, at_same))))
        (cases_lt k (label d.end)) in
        let from : d.start ≤ i.at = ⊎_elim
        (λ less. (let over = place_over f r reached kept.0 one d.start is_kept less in absurd (omega (
          arith,
          over,
          start_low,
          lt,
          long,
        ))))
        (λ le. le)
        (cases_lt i.at d.start) in
        let until : i.at < d.end = ⊎_elim
        (λ less. less)
        (λ le. (let up = order f r reached d.end i.at le in absurd (omega (arith, up, end_high))))
        (cases_lt i.at d.end) in
        let first_test : nat_le d.start i.at ≡ true = grind (arith, nat_tests, from) in
        let second_test : nat_lt i.at d.end ≡ true = grind (arith, nat_tests, until) in
        ap (λ (t : Bool). t && nat_lt i.at d.end) first_test ∙ second_test

-- ---- words

-- there are as many scratch pairs as a call needs
pub pairs_fit : (b : Body) (types : List (Option State)) (ranges : List (Option RangeState)) → (at : ℕ) (i : JInsn)
    (x : State) → slice_get b.insns at ≡ Some i → HasRow types at x → (let room = room_of b types ranges in 2
    * scratch_pairs_of i.op ≤ room.scratch)
pairs_fit b types ranges at i x there row =
    let kept = reached_there ranges 0 b.insns types at i x there row in
    let few = pairs_there (reached_from ranges 0 b.insns types) kept.0 (record {
      insn = i;
      before = before i.op x (get_or ranges (0 + at) None);
    }) kept.1 in
    omega (arith, few)

-- ---- packages by modes

module _ (files : Files) (code : MethodCode) (class : ClassTree) (method : MethodTree) (tree : CodeTree)
    (is : IsMethodOf files code class method tree) (near : List MemberId) (t : Tables) (m : LaidMethod)
    (w : IsWrittenByMode files near t m) (at : method_at files m.member ≡ Some (method_by class method (Some tree)))
    (mode : t.mode (method_by class method (Some tree)) ≡ modes.Int) (found : FindsItself files class method) where
  abbrev x : Method
  x = method_by class method (Some tree)

  abbrev names : Resolution
  names = resolution files near class.name

  abbrev body : Body
  body = body_of class method tree code.insns

  laid_code : m.code ≡ written_in_int_mode names tree body (t.types x) (t.ranges x)
  laid_code = w.code ∙ ap (code_by_mode files near t m.member) at ∙ ap (λ (q : Mode). code_in files near t q x) mode
      ∙ int_code_same files code class method tree is near t found

  -- the steps of its code in Method
  pub laid_steps : (card_type : List ℕ → Option (List ℕ)) (room : Room) (step : (label : ℕ) → NInsn → Step) → (let laid
      = m.code in let front = front_of names body (t.types x) (t.ranges x) step in steps_from step 0 laid.insns ≡ front
      ++ steps_in (stretches_from card_type room (selected names body (t.types x) (t.ranges x) step) 0 (length front)
      body.insns (t.types x)))
  laid_steps card_type room step = ap (λ (c : NMethod). steps_from step 0 c.insns) laid_code
      ∙ code_is card_type room names body (t.types x) (t.ranges x) step tree

  -- and its handlers
  pub laid_catches : (let laid = m.code in laid.catches) ≡ catches_at (label_in names body (t.types x) (t.ranges x))
      tree.catches
  laid_catches = ap (λ (c : NMethod). c.catches) laid_code

  -- the words of its stack
  pub laid_stack : (let laid = m.code in laid.max_stack) ≡ most_words tree.max_stack
  laid_stack = ap (λ (c : NMethod). c.max_stack) laid_code

  -- and those of its frame
  pub laid_frame : (let room = room_of body (t.types x) (t.ranges x) in let laid = m.code in laid.nargs
      + laid.max_locals ≡ room.arguments + 2 * body.max_locals + room.scratch)
  laid_frame =
      let same = ap (λ (c : NMethod). c.nargs + c.max_locals) laid_code in
      omega (arith, same)

-- ---- room

-- the stack of the card is low enough
pub room_low : (b : Body) (types : List (Option State)) → IsRoom b types modes.Int true → most_words b.max_stack
    ≤ most_cells
unfolding most_cells
room_low b types room = ⊎_elim
    (λ less. absurd (room (high_stack less)))
    (λ le. omega (arith, le))
    (cases_lt 255 (most_words b.max_stack))

-- and no cell is unusable
pub room_usable : (b : Body) (types : List (Option State)) → IsRoom b types modes.Int true → (at : ℕ) (x : State)
    → HasRow types at x → (s : List Cell) → x.stack ≡ Cells s → (k : ℕ) → slice_get s k ≡ Some Unusable → ⊥
room_usable b types room at x row s stack k e = room (an_unusable_cell at k x row (ap (λ (t : Stack). slice_get
    (cells_of t) k) stack ∙ e))
