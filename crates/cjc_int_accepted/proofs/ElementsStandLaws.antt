-- What is written for a load or a store of an element stands between its frames, where they break no rule: the jump of
-- the guard of its index leads to an instruction of its own.
use Rattle.std.proofs.Common.{◌≡◌, ℕ, zero, suc, ◌+◌, ◌<◌, ◌≤◌, refl, sym, ap, subst, ◌∙◌, arith, Bool, true, false}
use Rattle.std.proofs.Common.{List, [], ◌∷◌, ◌++◌, append_assoc, length, slice_get, Contains, inl, inr, Option, Some}
use Rattle.std.specs.Prelude.{◌==◌, if◌then◌else◌}
use Rattle.std.specs.List.{list_all}
use Rattle.cjc_types.specs.Bytecode.Jvm as jvm
use Rattle.cjc_types.specs.Bytecode.declared.insn.JInsn.{JInsn}
use Rattle.cjc_types.specs.Bytecode.declared.insn.JOp.{JOp}
use Rattle.cjc_types.specs.Bytecode.declared.insn.JOp.TheVariants as jop
use Rattle.cjc_types.specs.Fixpoint.Working.Edges.{contains_cons}
use Rattle.cjc_types.specs.Flow.{Body as BodyByName}
use Rattle.cjc_types.specs.Rules.{all_types, has_wrong as has_wrong_by_name, is_array_for, is_number, is_reference}
use Rattle.cjc_types.specs.States.{most_cells, states}
use Rattle.cjc_types.specs.Steps.{goes_on as goes_on_by_name}
use Rattle.cjc_types.specs.World.Classes.{Class}
use Rattle.cjc_types.specs.declared.cell.Cell.{Cell}
use Rattle.cjc_types.specs.declared.cell.Cell.TheVariants.{Number, Refs, Unusable}
use Rattle.cjc_types.specs.declared.state.Stack.{Stack}
use Rattle.cjc_types.specs.declared.state.Stack.TheVariants.{Cells}
use Rattle.cjc_types.specs.declared.state.State.{State}
use Rattle.cjc_check_proof.specs.NCode.Lowering.Naming.{Naming}
use Rattle.cjc_check_proof.specs.NCode.Written.{Resolution}
use Rattle.cjc_ncode.specs.IntCode.IntCode.{Before, Frame, written}
use Rattle.cjc_frames.specs.Acts.{Subtype, after, stack_behind}
use Rattle.cjc_frames.specs.declared.acts.Act.{Act}
use Rattle.cjc_frames.specs.declared.acts.Given.TheVariants.{ANumber}
use Rattle.cjc_frames.specs.declared.acts.Step.{Step}
use Rattle.cjc_verify.specs.CardActs.CardTypes.{ValueType}
use Rattle.cjc_verify.specs.CardActs.Rows.{any_words, calculating, pushing, storing_item, swapping}
use Rattle.cjc_verify.specs.CardSemantics.Bytecode.Effects.{Letter}
use Rattle.cjc_verify.specs.CardSemantics.Bytecode.Effects as letters
use Rattle.cjc_verify.specs.Pairs.{Pair}
use Rattle.cjc_accepted_proof.specs.Elements.{ArraysAgree}
use Rattle.cjc_accepted_proof.specs.Frames.{types_named}
use Rattle.cjc_accepted_proof.proofs.BlocksLaws.{below_itself}
use Rattle.cjc_accepted_proof.proofs.InstructionsLaws.Objects as objects
use Rattle.cjc_accepted_proof.proofs.KindsLaws.{first_operand}
use Rattle.cjc_int_accepted.specs.Acts.{guarding, indexing, reading_item, taking, writing_item}
use Rattle.cjc_int_accepted.specs.Ends.{falls_behind}
use Rattle.cjc_int_accepted.specs.Frames.{Room, frame_words, int_stack, int_state, stack_words}
use Rattle.cjc_int_accepted.specs.Guards.{IsOnElement, LeadOver, LeadsOver, locals_before, stack_before}
use Rattle.cjc_int_accepted.specs.Guards as guards
use Rattle.cjc_int_accepted.specs.Laid.{acts_laid, letter_loaded}
use Rattle.cjc_int_accepted.specs.Methods.{Leads, Selection, StretchStands, acts_of, stretch_of, within}
use Rattle.cjc_int_accepted.specs.Reached.{IsRight}
use Rattle.cjc_int_accepted.specs.Runs.{AreSound, IsOn, Runs, locals_behind, most_words}
use Rattle.cjc_int_accepted.specs.Standing.{IsSelected, IsStanding, Stands}
use Rattle.cjc_int_accepted.specs.Stretches.{frames_along}
use Rattle.cjc_int_accepted.proofs.RowsLaws.Elements as rows_of
use Rattle.cjc_int_accepted.proofs.RunsLaws.{after_is, frame_of}
use Rattle.cjc_int_accepted.proofs.StandLaws.{goes_same, none_in}
use Rattle.cjc_int_accepted.proofs.WrittenLaws as laid

-- ---- jumps over what lies between

module _ (is_of : Subtype) (most : ℕ) (few : most ≤ most_cells) (base : List Cell) (to : ℕ → ℕ) where
  -- the instruction at a place, and the frame before it
  record IsThere (steps : List Step) (ls s : List Cell) (k : ℕ) : Type 0 where
    step : Step
    is_step : slice_get steps k ≡ Some step
    is_frame : slice_get (frames_along steps (frame_of ls s)) k ≡ Some (frame_of (locals_before k (acts_of steps) ls s)
        (stack_before k (acts_of steps) ls s))

  there : (steps : List Step) (ls s : List Cell) → AreSound is_of most base (acts_of steps) ls s → (k : ℕ) → k < length
      (acts_of steps) → IsThere steps ls s k
  there [] ls s is k lt = absurd (omega (arith, lt))
  there (u ∷ steps) ls s is zero lt = record { step = u; is_step = refl; is_frame = refl }
  there (u ∷ steps) ls s is (suc k) lt =
      let r = there steps (locals_behind u.act ls s) (stack_behind u.act ls s) is.2 k (omega (arith, lt)) in
      record {
        step = r.step;
        is_step = r.is_step;
        is_frame = subst (λ (z : State). slice_get (frames_along steps z) k ≡ Some (frame_of (locals_before k (acts_of
            steps) (locals_behind u.act ls s) (stack_behind u.act ls s)) (stack_before k (acts_of steps) (locals_behind
            u.act ls s) (stack_behind u.act ls s)))) (sym (after_is is_of most few u.act ls s is.0)) r.is_frame;
      }

  -- the instruction of its own to which a jump leads
  record IsLed (steps : List Step) (first : State) (here offset : ℕ) (z : State) : Type 0 where
    other : ℕ
    step : Step
    frame : State
    is_step : slice_get steps other ≡ Some step
    is_frame : slice_get (frames_along steps first) other ≡ Some frame
    stands : offset ≡ to (here + other)
    same : z ≡ frame

  is_led : (steps : List Step) (ls s : List Cell) → AreSound is_of most base (acts_of steps) ls s → (here : ℕ)
      → LeadOver to here (acts_of steps) ls s → (index : ℕ) (t : Step) (y : State) → slice_get steps index ≡ Some t
      → slice_get (frames_along steps (frame_of ls s)) index ≡ Some y → (offset : ℕ) → Contains (let a = t.act in
      a.targets) offset → IsLed steps (frame_of ls s) here offset (after t.act y)
  is_led [] ls s is here leads index t y e f offset on = absurd cc
  is_led (u ∷ steps) ls s is here leads zero t y e f offset on =
      let step : u ≡ t = cc in
      let frame : frame_of ls s ≡ y = cc in
      let l = leads.0 offset (subst (λ (v : Step). Contains (let a = v.act in a.targets) offset) (sym step) on) in
      let r = there steps (locals_behind u.act ls s) (stack_behind u.act ls s) is.2 l.count l.inside in
      let moved : after u.act (frame_of ls s) ≡ frame_of (locals_behind u.act ls s) (stack_behind u.act ls s) = after_is
      is_of most few u.act ls s is.0 in
      let up : here + 1 + l.count ≡ here + suc l.count = omega arith in
      let there_locals = locals_before l.count (acts_of steps) (locals_behind u.act ls s) (stack_behind u.act ls s) in
      let there_stack = stack_before l.count (acts_of steps) (locals_behind u.act ls s) (stack_behind u.act ls s) in
      record {
        other = suc l.count;
        step = r.step;
        frame = frame_of there_locals there_stack;
        is_step = r.is_step;
        is_frame = subst (λ (z : State). slice_get (frames_along steps z) l.count ≡ Some (frame_of there_locals
            there_stack)) (sym moved) r.is_frame;
        stands = l.stands ∙ ap to up;
        same = ap (λ (v : Step). after v.act y) (sym step) ∙ ap (after u.act) (sym frame) ∙ moved ∙ ap (λ (xs : List
            Cell). frame_of
            xs (stack_behind u.act ls s)) (sym l.locals) ∙ ap (frame_of there_locals) (sym l.stack);
      }
  is_led (u ∷ steps) ls s is here leads (suc index) t y e f offset on =
      let moved : after u.act (frame_of ls s) ≡ frame_of (locals_behind u.act ls s) (stack_behind u.act ls s) = after_is
      is_of most few u.act ls s is.0 in
      let r = is_led steps (locals_behind u.act ls s) (stack_behind u.act ls s) is.2 (here + 1) leads.1 index t y e
      (subst (λ (z : State). slice_get (frames_along steps z) index ≡ Some y) moved f) offset on in
      let up : here + 1 + r.other ≡ here + suc r.other = omega arith in
      record {
        other = suc r.other;
        step = r.step;
        frame = r.frame;
        is_step = r.is_step;
        is_frame = subst (λ (z : State). slice_get (frames_along steps z) r.other ≡ Some r.frame) (sym moved)
            r.is_frame;
        stands = r.stands ∙ ap to up;
        same = r.same;
      }

module _ (card_type : List ℕ → Option (List ℕ)) (is_of : Subtype) (m : Room) (new : Selection) (b : BodyByName)
    (rows : List (Option State)) (label to : ℕ → ℕ) where
  pub stands_by_guard : (count place here : ℕ) (i : JInsn) (x : State) (s : List Cell) (acts : List Act)
      → x.stack ≡ Cells s → acts_of (new place here i x) ≡ acts → most_words b.max_stack ≤ most_cells
      → Runs card_type is_of m b.max_stack i.op acts x.locals s → LeadOver to here acts (frame_words card_type m
      x.locals) (stack_words card_type s) → (falls_behind acts ≡ true → goes_on_by_name i.op ≡ true)
      → StretchStands card_type is_of m new b rows label to count place here i x
  stands_by_guard count place here i x s acts is e low runs leads falls = record {
    stack = s;
    is = is;
    runs = own;
    falls = λ h. falls (sym (goes_same (new place here i x) ∙ ap falls_behind e) ∙ h);
    jumps = λ index u y along offset on. by index u y offset (is_led is_of (most_words b.max_stack) low (frame_words
        card_type m x.locals) to (new place here i x) (frame_words card_type m x.locals) (stack_words card_type s)
        own.sound here over
        index u y along.step (subst (λ (z : State). slice_get (frames_along (new place here i x) z) index ≡ Some y)
        mode_is
        along.frame) offset on);
  }
    where
      own : Runs card_type is_of m b.max_stack i.op (acts_of (new place here i x)) x.locals s
      own = subst (λ (ys : List Act). Runs card_type is_of m b.max_stack i.op ys x.locals s) (sym e) runs

      over : LeadOver to here (acts_of (new place here i x)) (frame_words card_type m x.locals) (stack_words card_type
          s)
      over = subst (λ (ys : List Act). LeadOver to here ys (frame_words card_type m x.locals) (stack_words card_type s))
          (sym e) leads

      mode_is : int_state card_type m x ≡ frame_of (frame_words card_type m x.locals) (stack_words card_type s)
      mode_is = ap (λ (t : Stack). record {
        stack = int_stack card_type t;
        locals = frame_words card_type m x.locals;
      }) is

      by : (index : ℕ) (u : Step) (y : State) (offset : ℕ) → IsLed is_of (most_words b.max_stack) low (frame_words
          card_type m x.locals) to (new place here i x) (frame_of (frame_words card_type m x.locals) (stack_words
          card_type s)) here offset (after u.act y) → Leads label to count here (stretch_of card_type m new place here i
          x) i index u y offset
      by index u y offset r = within r.other r.step r.frame (record {
        step = r.is_step;
        frame = subst (λ (z : State). slice_get (frames_along (new place here i x) z) r.other ≡ Some r.frame) (sym
            mode_is) r.is_frame;
      }) r.stands (subst (λ (z : State). let l = states count in l.Below (after u.act y) z) r.same (below_itself count
          (after u.act y)))

-- ---- the guard of an index

module _ (to : ℕ → ℕ) (ls : List Cell) where
  abbrev Over : (here : ℕ) → List Act → List Cell → Type 0
  Over here acts s = LeadOver to here acts ls s

  -- the jump leads over what puts -1 in the place of the index
  guard_over : (inside : Bool) (here : ℕ) (acts : List Act) (s : List Cell) → ((k : ℕ) → Over k acts (Number ∷ s))
      → Over here (guarding inside (to (here + 8) ∷ []) ++ acts) (Number ∷ Number ∷ s)
  guard_over true here acts s rest = (λ offset on. absurd (none_in offset on), rest (here + 1))
  guard_over false here acts s rest = (
    λ offset on. absurd (none_in offset on),
    (
      λ offset on. absurd (none_in offset on),
      (
        λ offset on. absurd (none_in offset on),
        (
          λ offset on. absurd (none_in offset on),
          (
            λ offset on. absurd (none_in offset on),
            (
              jump,
              (
                λ offset on. absurd (none_in offset on),
                (
                  λ offset on. absurd (none_in offset on),
                  (λ offset on. absurd (none_in offset on), rest (here + 1 + 1 + 1 + 1 + 1 + 1 + 1 + 1 + 1)),
                ),
              ),
            ),
          ),
        ),
      ),
    ),
  )
    where
      jump : (offset : ℕ) → Contains (to (here + 8) ∷ []) offset → LeadsOver to (here + 1 + 1 + 1 + 1 + 1 + 1) (taking
          (any_words 2) [] true [] ∷ pushing (ANumber ∷ ANumber ∷ []) ∷ calculating 2 1 ∷ acts) ls (Number ∷ Number ∷ s)
          offset
      jump offset on = elim (contains_cons (to (here + 8)) [] offset on) [
        | inl same ↦ (
            let up : here + 8 ≡ here + 1 + 1 + 1 + 1 + 1 + 1 + 2 = omega arith in
            record { count = 2; inside = omega arith; stands = sym same ∙ ap to up; locals = refl; stack = refl }
            )
        | inr later ↦ absurd (none_in offset later)
      ]

  -- what reads an element jumps nowhere
  read_over : (letter : Letter) (k : ℕ) (s : List Cell) → Over k (reading_item letter) s
  read_over letters.Reference k s = (λ offset on. absurd (none_in offset on), tt)
  read_over letters.Byte k s = (
    λ offset on. absurd (none_in offset on),
    (λ offset on. absurd (none_in offset on), tt),
  )
  read_over letters.Short k s = (
    λ offset on. absurd (none_in offset on),
    (λ offset on. absurd (none_in offset on), tt),
  )
  read_over letters.Int k s = (λ offset on. absurd (none_in offset on), tt)

  -- an index below a value of one word, and below one of two
  one_over : (inside : Bool) (here : ℕ) (letter : Letter) (v : Cell) (s : List Cell) → Over here (indexing 1 inside (to
      (here + 1 + 8) ∷ []) ++ storing_item letter ∷ []) (v ∷ Number ∷ Number ∷ s)
  one_over inside here letter v s = (
    λ offset on. absurd (none_in offset on),
    subst (λ (xs : List Act). Over (here + 1) xs (Number ∷ Number ∷ v ∷ s)) (sym (append_assoc (guarding inside (to
        (here + 1 + 8) ∷ [])) (swapping 1 1 ∷ []) (storing_item letter ∷ []))) (guard_over inside (here + 1) (swapping 1
        1 ∷ storing_item letter ∷ []) (v ∷ s) (λ k. (
          λ offset on. absurd (none_in offset on),
          (λ offset on. absurd (none_in offset on), tt),
        ))),
  )

  two_over : (inside : Bool) (here : ℕ) (letter : Letter) (s : List Cell) → Over here (indexing 2 inside (to (here + 1
      + 8) ∷ []) ++ storing_item letter ∷ []) (Number ∷ Number ∷ Number ∷ Number ∷ s)
  two_over inside here letter s = (
    λ offset on. absurd (none_in offset on),
    subst (λ (xs : List Act). Over (here + 1) xs (Number ∷ Number ∷ Number ∷ Number ∷ s)) (sym (append_assoc (guarding
        inside (to (here + 1 + 8) ∷ [])) (swapping 1 2 ∷ []) (storing_item letter ∷ []))) (guard_over inside (here + 1)
        (swapping 1 2 ∷ storing_item letter ∷ []) (Number ∷ Number ∷ s) (λ k. (
          λ offset on. absurd (none_in offset on),
          (λ offset on. absurd (none_in offset on), tt),
        ))),
  )

  cut_over : (inside : Bool) (here : ℕ) (letter : Letter) (s : List Cell) → Over here (calculating 2 1 ∷ (indexing 1
      inside (to (here + 1 + 1 + 8) ∷ []) ++ storing_item letter ∷ [])) (Number ∷ Number ∷ Number ∷ Number ∷ s)
  cut_over inside here letter s = (
    λ offset on. absurd (none_in offset on),
    one_over inside (here + 1) letter Number s,
  )

-- ---- operands

module _ (w : List Class) (b : BodyByName) where
  -- those of a load: the index, the array
  record AreLoaded (op : ℕ) (s : List Cell) : Type 0 where
    names : List (List ℕ)
    rest : List Cell
    is : s ≡ Number ∷ Refs names ∷ rest
    fit : list_all (is_array_for op) names ≡ true

  are_loaded : (op : ℕ) (s : List Cell) → 2 ≤ length s → has_wrong_by_name w b (jop.ArrayLoad op) 2 0 s ≡ false
      → AreLoaded op s
  are_loaded op [] le e = absurd (omega (arith, le))
  are_loaded op (y ∷ []) le e = absurd (omega (arith, le))
  are_loaded op (y ∷ z ∷ s) le e = by y z (first_operand w b (jop.ArrayLoad op) 2 (y ∷ z ∷ s) e 0 y refl (omega arith))
      (first_operand w b (jop.ArrayLoad op) 2 (y ∷ z ∷ s) e 1 z refl (omega arith))
    where
      by : (y z : Cell) → is_number y ≡ true → all_types (is_array_for op) z ≡ true → AreLoaded op (y ∷ z ∷ s)
      by Number (Refs names) g h = record { names = names; rest = s; is = refl; fit = h }
      by Number Number g h = absurd cc
      by Number Unusable g h = absurd cc
      by (Refs others) z g h = absurd cc
      by Unusable z g h = absurd cc

  -- those of a store: the value, the index, the array
  record AreStored (op : ℕ) (s : List Cell) : Type 0 where
    value : Cell
    names : List (List ℕ)
    rest : List Cell
    is : s ≡ value ∷ Number ∷ Refs names ∷ rest
    fit : list_all (is_array_for op) names ≡ true
    good : (if op == jvm.aastore then is_reference value else is_number value) ≡ true

  are_stored : (op : ℕ) (s : List Cell) → 3 ≤ length s → has_wrong_by_name w b (jop.ArrayStore op) 3 0 s ≡ false
      → AreStored op s
  are_stored op [] le e = absurd (omega (arith, le))
  are_stored op (v ∷ []) le e = absurd (omega (arith, le))
  are_stored op (v ∷ y ∷ []) le e = absurd (omega (arith, le))
  are_stored op (v ∷ y ∷ z ∷ s) le e = by y z (first_operand w b (jop.ArrayStore op) 3 (v ∷ y ∷ z ∷ s) e 0 v refl (omega
      arith)) (first_operand w b (jop.ArrayStore op) 3 (v ∷ y ∷ z ∷ s) e 1 y refl (omega arith)) (first_operand w b
      (jop.ArrayStore op) 3 (v ∷ y ∷ z ∷ s) e 2 z refl (omega arith))
    where
      by : (y z : Cell) → (if op == jvm.aastore then is_reference v else is_number v) ≡ true → is_number y ≡ true
          → all_types (is_array_for op) z ≡ true → AreStored op (v ∷ y ∷ z ∷ s)
      by Number (Refs names) f g h = record { value = v; names = names; rest = s; is = refl; fit = h; good = f }
      by Number Number f g h = absurd cc
      by Number Unusable f g h = absurd cc
      by (Refs others) z f g h = absurd cc
      by Unusable z f g h = absurd cc

-- ---- loads and stores

module _ (card_type : List ℕ → Option (List ℕ)) (is_of : Subtype) (m : Room) (new : Selection) (b : BodyByName)
    (rows : List (Option State)) (label to : ℕ → ℕ) (p : Pair) (result : ValueType) (n : Naming) (wide : ℕ → Bool)
    (f : Frame) (r : Resolution) (known : Before) (w : List Class) (count place here o : ℕ) (x : State) (low
    : most_words b.max_stack ≤ most_cells) (arrays : ArraysAgree card_type) where
  abbrev Standing : JOp → Type 0
  Standing op = IsStanding card_type is_of m new b rows label to p result n wide f r known w count place here o x op

  -- what is written has these acts, from these operands on
  make : (op : JOp) (acts : List Act) (s : List Cell) → acts_laid p result n to wide here (written f r label known here
      op) ≡ acts → (q : IsRight w b op x) → q.stack ≡ s → Runs card_type is_of m b.max_stack op acts x.locals s
      → LeadOver to here acts (frame_words card_type m x.locals) (stack_words card_type s) → goes_on_by_name op ≡ true
      → IsSelected card_type is_of m new b rows label to p result n wide f r known w count place here o x op
      → Stands card_type is_of m new b rows label to p result n wide f r known w count place here o x op
  make op acts s e q is runs over goes selected = stands_by_guard card_type is_of m new b rows label to count place here
      (record { at = o; op = op }) x s acts (q.is ∙ ap Cells is) (ap acts_of selected ∙ e) low runs over (λ h. goes)

  load : (op : ℕ) → ((names : List (List ℕ)) (s : List Cell) → IsOn b.max_stack (jop.ArrayLoad op) x.locals (Number
      ∷ Refs names ∷ s) → list_all (is_array_for op) names ≡ true → Runs card_type is_of m b.max_stack (jop.ArrayLoad
      op) (guarding
      known.is_index_inside (to (here + 8) ∷ []) ++ reading_item (letter_loaded op)) x.locals (Number ∷ Refs names ∷ s))
      → Standing (jop.ArrayLoad op)
  load op runs q selected =
      let on = q.on in
      let a = are_loaded w b op q.stack on.enough q.operands in
      make (jop.ArrayLoad op) (guarding known.is_index_inside (to (here + 8) ∷ []) ++ reading_item (letter_loaded op))
      (Number ∷ Refs a.names ∷ a.rest) (laid.item_acts p result n to wide f r label known here op) q a.is (runs a.names
      a.rest (subst (λ (s : List Cell). IsOn b.max_stack (jop.ArrayLoad op) x.locals s) a.is q.on) a.fit) (guard_over to
      (frame_words card_type m x.locals) known.is_index_inside here (reading_item (letter_loaded op)) (Refs (types_named
      card_type a.names) ∷ stack_words card_type a.rest) (λ k. read_over to (frame_words card_type m x.locals)
      (letter_loaded op) k (Number ∷ Refs (types_named card_type a.names) ∷ stack_words card_type a.rest))) refl
      selected

  byte_load_stands : Standing (jop.ArrayLoad jvm.baload)
  byte_load_stands = load jvm.baload (λ names s on fit. rows_of.bytes_load card_type is_of m b.max_stack jvm.baload
      known.is_index_inside (to (here + 8) ∷ []) x.locals names s on (objects.array_meets card_type is_of w b arrays
      jvm.baload refl (Refs names) fit) refl)

  short_load_stands : Standing (jop.ArrayLoad jvm.saload)
  short_load_stands = load jvm.saload (λ names s on fit. rows_of.shorts_load card_type is_of m b.max_stack jvm.saload
      known.is_index_inside (to (here + 8) ∷ []) x.locals names s on (objects.array_meets card_type is_of w b arrays
      jvm.saload refl (Refs names) fit) refl)

  int_load_stands : Standing (jop.ArrayLoad jvm.iaload)
  int_load_stands = load jvm.iaload (λ names s on fit. rows_of.ints_load card_type is_of m b.max_stack jvm.iaload
      known.is_index_inside (to (here + 8) ∷ []) x.locals names s on (objects.ints_meet card_type is_of w b arrays
      jvm.iaload refl (Refs names) fit) refl)

  reference_load_stands : Standing (jop.ArrayLoad jvm.aaload)
  reference_load_stands = load jvm.aaload (λ names s on fit. rows_of.references_load card_type is_of m b.max_stack
      known.is_index_inside (to (here + 8) ∷ []) x.locals names s on (objects.array_meets card_type is_of w b arrays
      jvm.aaload refl (Refs names) fit) (objects.references_below card_type is_of arrays (Refs names)))

  -- numbers that are cut to one word
  cut_store : (op : ℕ) (letter : Letter) → (op == jvm.aastore) ≡ false → ((names : List (List ℕ)) (s : List Cell)
      → IsOn b.max_stack (jop.ArrayStore op) x.locals (Number ∷ Number ∷ Refs names ∷ s) → list_all (is_array_for op)
      names ≡ true → Runs card_type is_of m b.max_stack (jop.ArrayStore op) (calculating 2 1 ∷ (indexing 1
      known.is_index_inside (to (here + 1 + 1 + 8) ∷ []) ++ storing_item letter ∷ [])) x.locals (Number ∷ Number ∷ Refs
      names ∷ s)) → acts_laid p result n to wide here (written f r label known here (jop.ArrayStore op)) ≡ calculating 2
      1 ∷ (indexing 1 known.is_index_inside (to (here + 1 + 1 + 8) ∷ []) ++ storing_item letter ∷ []) → Standing
      (jop.ArrayStore op)
  cut_store op letter other runs e q selected =
      let on = q.on in
      let a = are_stored w b op q.stack on.enough q.operands in
      by a.value a.names a.rest a.is (a_number a.value (op == jvm.aastore) other a.good) a.fit
    where
      a_number : (v : Cell) (c : Bool) → c ≡ false → (if c then is_reference v else is_number v) ≡ true → is_number v
          ≡ true
      a_number v true g h = absurd cc
      a_number v false g h = h

      by : (v : Cell) (names : List (List ℕ)) (s : List Cell) → q.stack ≡ v ∷ Number ∷ Refs names ∷ s → is_number v
          ≡ true → list_all (is_array_for op) names ≡ true → Stands card_type is_of m new b rows label to p result n
          wide
          f r known w count place here o x (jop.ArrayStore op)
      by (Refs others) names s is good fit = absurd cc
      by Unusable names s is good fit = absurd cc
      by Number names s is good fit = make (jop.ArrayStore op) (calculating 2 1 ∷ (indexing 1 known.is_index_inside (to
          (here + 1 + 1 + 8) ∷ []) ++ storing_item letter ∷ [])) (Number ∷ Number ∷ Refs names ∷ s) e q is (runs names s
          (subst (λ (t : List Cell). IsOn b.max_stack (jop.ArrayStore op) x.locals t) is q.on) fit) (cut_over to
          (frame_words card_type m x.locals) known.is_index_inside here letter (Refs (types_named card_type names)
          ∷ stack_words card_type s)) refl selected

  byte_store_stands : Standing (jop.ArrayStore jvm.bastore)
  byte_store_stands = cut_store jvm.bastore letters.Byte refl (λ names s on fit. rows_of.bytes_store card_type is_of m
      b.max_stack jvm.bastore known.is_index_inside (to (here + 1 + 1 + 8) ∷ []) x.locals names s on
      (objects.array_meets card_type is_of w b arrays jvm.bastore refl (Refs names) fit)) (laid.item_store_acts p result
      n to wide f r label known here
      jvm.bastore)

  short_store_stands : Standing (jop.ArrayStore jvm.sastore)
  short_store_stands = cut_store jvm.sastore letters.Short refl (λ names s on fit. rows_of.shorts_store card_type is_of
      m b.max_stack jvm.sastore known.is_index_inside (to (here + 1 + 1 + 8) ∷ []) x.locals names s on
      (objects.array_meets card_type is_of w b arrays jvm.sastore refl (Refs names) fit)) (laid.item_store_acts p result
      n to wide f r label known here
      jvm.sastore)

  int_store_stands : Standing (jop.ArrayStore jvm.iastore)
  int_store_stands q selected =
      let on = q.on in
      let a = are_stored w b jvm.iastore q.stack on.enough q.operands in
      by a.value a.names a.rest a.is a.good a.fit
    where
      by : (v : Cell) (names : List (List ℕ)) (s : List Cell) → q.stack ≡ v ∷ Number ∷ Refs names ∷ s → is_number v
          ≡ true → list_all (is_array_for jvm.iastore) names ≡ true → Stands card_type is_of m new b rows label to p
          result n wide f r known w count place here o x (jop.ArrayStore jvm.iastore)
      by (Refs others) names s is good fit = absurd cc
      by Unusable names s is good fit = absurd cc
      by Number names s is good fit = make (jop.ArrayStore jvm.iastore) (writing_item letters.Int known.is_index_inside
          (to (here + 1 + 8) ∷ [])) (Number ∷ Number ∷ Refs names ∷ s) (laid.item_store_acts p result n to wide f r
          label known here jvm.iastore) q is (rows_of.ints_store card_type is_of m b.max_stack jvm.iastore
          known.is_index_inside (to (here + 1 + 8) ∷ []) x.locals names s (subst (λ (t : List Cell). IsOn b.max_stack
          (jop.ArrayStore jvm.iastore) x.locals t) is q.on) (objects.ints_meet card_type is_of w b arrays jvm.iastore
          refl (Refs names) fit)) (two_over to (frame_words card_type m x.locals)
          known.is_index_inside here letters.Int (Refs (types_named card_type names) ∷ stack_words card_type s)) refl
          selected

  reference_store_stands : Standing (jop.ArrayStore jvm.aastore)
  reference_store_stands q selected =
      let on = q.on in
      let a = are_stored w b jvm.aastore q.stack on.enough q.operands in
      by a.value a.names a.rest a.is a.good a.fit
    where
      by : (v : Cell) (names : List (List ℕ)) (s : List Cell) → q.stack ≡ v ∷ Number ∷ Refs names ∷ s → is_reference v
          ≡ true → list_all (is_array_for jvm.aastore) names ≡ true → Stands card_type is_of m new b rows label to p
          result n wide f r known w count place here o x (jop.ArrayStore jvm.aastore)
      by Number names s is good fit = absurd cc
      by Unusable names s is good fit = absurd cc
      by (Refs others) names s is good fit = make (jop.ArrayStore jvm.aastore) (writing_item letters.Reference
          known.is_index_inside (to (here + 1 + 8) ∷ [])) (Refs others ∷ Number ∷ Refs names ∷ s) (laid.item_store_acts
          p result n to wide f r label known here jvm.aastore) q is (rows_of.references_store card_type is_of m
          b.max_stack jvm.aastore known.is_index_inside (to (here + 1 + 8) ∷ []) x.locals names s others (subst (λ (t
          : List Cell). IsOn b.max_stack (jop.ArrayStore jvm.aastore) x.locals t) is q.on) (objects.array_meets
          card_type is_of w b arrays jvm.aastore refl (Refs names) fit)) (one_over to (frame_words card_type m x.locals)
          known.is_index_inside here
          letters.Reference (Refs (types_named card_type others)) (Refs (types_named card_type names) ∷ stack_words
          card_type s)) refl selected

  pub element_stands : (op : JOp) → IsOnElement op → Standing op
  element_stands _ guards.baload = byte_load_stands
  element_stands _ guards.saload = short_load_stands
  element_stands _ guards.iaload = int_load_stands
  element_stands _ guards.aaload = reference_load_stands
  element_stands _ guards.bastore = byte_store_stands
  element_stands _ guards.sastore = short_store_stands
  element_stands _ guards.iastore = int_store_stands
  element_stands _ guards.aastore = reference_store_stands
