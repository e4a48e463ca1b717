-- The instructions of a pair that is written as one keep their rules: nothing is written for the aload_0, something
-- may be pushed, and the field instruction takes the object of the first local.
use Rattle.std.proofs.Common.{◌≡◌, ℕ, ◌+◌, ◌<◌, ◌≤◌, refl, sym, ap, subst, ◌∙◌, arith, Bool, true, false}
use Rattle.std.proofs.Common.{List, []}
use Rattle.std.proofs.Common.{◌∷◌, ◌++◌, length, drop, slice_get, Option, Some, None}
use Rattle.std.specs.Prelude.{◌≢◌, nat_lt, option_map, ℤ}
use Rattle.std.proofs.lemmas.Bool.Decides.{nat_tests}
use Rattle.cjc_bytes.specs.declared.fault.MemberId.{MemberId}
use Rattle.cjc_bytes.proofs.Bools.{not_false}
use Rattle.cjc_range.specs.Span.{Span, Holds, full}
use Rattle.cjc_range.specs.Rows.{to_short_row}
use Rattle.cjc_range.specs.Words.{low_word}
use Rattle.cjc_code.specs.declared.insn.JInsn.{JInsn}
use Rattle.cjc_code.specs.declared.insn.JOp.{JOp}
use Rattle.cjc_code.specs.declared.insn.JOp.TheVariants as jop
use Rattle.cjc_script.specs.Sorts.{Shape, field_sort, sort_of}
use Rattle.cjc_script.specs.declared.value.Value.{Value}
use Rattle.cjc_script.specs.declared.value.Value.TheVariants.{Num, Null}
use Rattle.cjc_world.specs.Classes.{Class}
use Rattle.cjc_types.specs.Fixpoint.Tables.{HasRow}
use Rattle.cjc_types.specs.declared.cell.Cell.{Cell}
use Rattle.cjc_types.specs.declared.cell.Cell.TheVariants.{Number, Refs, Unusable}
use Rattle.cjc_types.specs.declared.state.Stack.TheVariants as stacks
use Rattle.cjc_types.specs.declared.state.State.{State}
use Rattle.cjc_types.specs.Rules.{is_number, is_reference}
use Rattle.cjc_types.specs.Steps as typed
use Rattle.cjc_types.specs.Steps.{goes_on, takes}
use Rattle.cjc_types.specs.Types.{as_reference, parts, result_of}
use Rattle.cjc_types.specs.TypeLaws.Places.{local_of}
use Rattle.cjc_intervals.specs.Frames.{RangeState, spans_of}
use Rattle.cjc_intervals.specs.Steps.{field_range, gives, locals_after, operand, stack_behind}
use Rattle.cjc_intervals.specs.Bounds.{a_field as a_field_bound}
use Rattle.cjc_intervals.specs.Values.{exactly, result_ranges}
use Rattle.cjc_card_semantics.specs.Bytecode.Calculations.{is_reference as refers}
use Rattle.cjc_ncode.specs.declared.narrow.NInsn.{NInsn}
use Rattle.cjc_ncode.specs.declared.narrow.NInsn.TheVariants as insns
use Rattle.cjc_ncode.specs.declared.narrow.PairRole.{PairRole}
use Rattle.cjc_ncode.specs.declared.narrow.PairRole.TheVariants.{Alone, Opens, Closes}
use Rattle.cjc_ncode.specs.declared.narrow.PoolKey.TheVariants as pool
use Rattle.cjc_ncode.specs.Written.{Resolution, pushed_word, static_by, this_access, written, written_as, written_for}
use Rattle.cjc_ncode.specs.ByLabel.{Named, classes, operation}
use Rattle.cjc_card_semantics.specs.Bytecode.Effects as narrow
use Rattle.cjc_jvm_semantics.specs.Linked.{Method, Linked}
use Rattle.cjc_jvm_semantics.specs.Effects.{Store, effect}
use Rattle.cjc_jvm_semantics.specs.Effects as by_name
use Rattle.cjc_narrow.specs.Pairs.Open.{Open, begun, closed, is_opened, pushed}
use Rattle.cjc_narrow_proof.specs.Selection.Relation.{Kind, Range, Refers, Away, NMemory, Agrees, number, null, object}
use Rattle.cjc_narrow_proof.specs.Selection.Relation.{Stacks}
use Rattle.cjc_narrow_proof.specs.Selection.Relation.{cell, left_out, Locals, OnBoth, no_cell, a_range, a_reference}
use Rattle.cjc_narrow_proof.specs.Selection.Relation.{an_unused}
use Rattle.cjc_narrow_proof.specs.Selection.Relation.{Owns, all_there, on_top, below_top, AllWider, none_wider}
use Rattle.cjc_narrow_proof.specs.Selection.Relation.{one_wider, away}
use Rattle.cjc_narrow_proof.specs.Selection.Relation.{Heap, Stores}
use Rattle.cjc_narrow_proof.specs.Selection.Rows.{HasRoom, Same, RowAgrees, RowOnLocals, GoesOn, kind_of, is_word_sort}
use Rattle.cjc_narrow_proof.specs.Selection.Rows.{FieldIsThere}
use Rattle.cjc_narrow_proof.specs.Selection.Cells.{MayBePut, IsConstant}
use Rattle.cjc_narrow_proof.specs.Selection.Tables.{Comes, Table, code_of, spot, written_place}
use Rattle.cjc_narrow_proof.specs.Selection.Runs.{RuleWithin, does}
use Rattle.cjc_narrow_proof.specs.Selection.Runs as rules
use Rattle.cjc_narrow_proof.specs.Tables.Kinds.{is_one_of, kind_of_cell, kinds, kinds_from, point_at, point_of}
use Rattle.cjc_narrow_proof.specs.Tables.Analysis.{Analysis, IsDecoded, IsSound, IsRead, CatchesAreTold, TypesAreTold}
use Rattle.cjc_narrow_proof.specs.Tables.Analysis.{table_of}
use Rattle.cjc_narrow_proof.specs.Tables.Names.{IsDesc}
use Rattle.cjc_narrow_proof.specs.Tables.Names as named_here
use Rattle.cjc_narrow_proof.specs.Tables.Pairs.{IsPushed, a_constant, a_local, a_narrow, a_nop, a_null}
use Rattle.cjc_narrow_proof.specs.Tables.Pairs.{a_number}
use Rattle.cjc_narrow_proof.specs.Tables.Pairs.{IsInPair, StandsAlone, gets, left_away, opens, puts, stands_alone}
use Rattle.cjc_narrow_proof.specs.Tables.Pairs.{with_open}
use Rattle.cjc_narrow_proof.specs.Tables.Pairs as rules_of
use Rattle.cjc_narrow_proof.specs.Tables.Package.{IsSupported}
use Rattle.cjc_narrow_proof.specs.Tables.Package as supported_by
use Rattle.cjc_narrow_proof.specs.Tables.Supported as plain
use Rattle.cjc_narrow_proof.proofs.SelectionLaws.Drops.{i2s}
use Rattle.cjc_narrow_proof.proofs.SelectionLaws.Gets.{getfield, heights}
use Rattle.cjc_narrow_proof.proofs.SelectionLaws.Own.{IsPush, get_closes, one_over, put_closes}
use Rattle.cjc_narrow_proof.proofs.SelectionLaws.Own.{pushes_constant}
use Rattle.cjc_narrow_proof.proofs.SelectionLaws.Own.{pushes_local, pushes_null, pushes_number, same_reference}
use Rattle.cjc_narrow_proof.proofs.SelectionLaws.Own.{words_stay}
use Rattle.cjc_narrow_proof.proofs.SelectionLaws.Pushes.{aconst_null, aload, constant, constant_field, iload, local_at}
use Rattle.cjc_narrow_proof.proofs.SelectionLaws.Puts.{putfield}
use Rattle.cjc_narrow_proof.proofs.SelectionLaws.Stores.{holds_itself}
use Rattle.cjc_narrow_proof.proofs.SelectionLaws.Whole.{comes}
use Rattle.cjc_narrow_proof.proofs.SelectionLaws.Widens.{owns_wider}
use Rattle.cjc_narrow_proof.proofs.TablesLaws.Arrivals.{is_typed, leads_on}
use Rattle.cjc_narrow_proof.proofs.TablesLaws.Bounded.{lies}
use Rattle.cjc_narrow_proof.proofs.TablesLaws.Calm.{never_tosses}
use Rattle.cjc_narrow_proof.proofs.TablesLaws.Methods.{GoesTo, arrives, catches, follows, next_spot, tb, wider_length}
use Rattle.cjc_narrow_proof.proofs.TablesLaws.Methods.{written_at}
use Rattle.cjc_narrow_proof.proofs.TablesLaws.Placed.{size_fixed}
use Rattle.cjc_narrow_proof.proofs.TablesLaws.Plain.{exactly_is, local_kind, number_is, one_taken, reference_is}
use Rattle.cjc_narrow_proof.proofs.TablesLaws.Plain.{two_taken}
use Rattle.cjc_narrow_proof.proofs.TablesLaws.Resolved.{of_reference, same_long, sort_is}
use Rattle.cjc_narrow_proof.proofs.TablesLaws.Rows.{all_wider_itself, all_wider_through, wider_append}
use Rattle.cjc_narrow_proof.proofs.TablesLaws.Told.{before_is, behind_is, on_both}
use Rattle.cjc_narrow_proof.proofs.TablesLaws.Typed.{IsTypedRow}
use Rattle.cjc_narrow_proof.proofs.TablesLaws.Values.{given_wider, may_put}

-- ---- what is left out

away_wider : (o : Open) {ks js : List Kind} → AllWider ks js → AllWider (left_away o ks) (left_away o js)
away_wider closed w = w
away_wider begun none_wider = none_wider
away_wider begun (one_wider k more) = one_wider (away k) more
away_wider pushed none_wider = none_wider
away_wider pushed (one_wider j none_wider) = one_wider j none_wider
away_wider pushed (one_wider j (one_wider k more)) = one_wider j (one_wider (away k) more)

away_long : (o : Open) (ks : List Kind) → length (left_away o ks) ≡ length ks
away_long closed ks = refl
away_long begun [] = refl
away_long begun (k ∷ ks) = refl
away_long pushed [] = refl
away_long pushed (j ∷ []) = refl
away_long pushed (j ∷ k ∷ ks) = refl

cell_on_both : (l : Named) (c : Cell) (s : Span) {ks : List Kind} → OnBoth ks → OnBoth (kind_of_cell l c s ∷ ks)
cell_on_both l Number s b = a_range b
cell_on_both l (Refs names) s b = a_reference b
cell_on_both l Unusable s b = an_unused b

-- a cell over it
over_away : (k : Kind) (ks : List Kind) → k ∷ left_away begun ks ≡ left_away pushed (k ∷ ks)
over_away k [] = refl
over_away k (c ∷ ks) = refl

without : {k c : Kind} {ks : List Kind} → OnBoth (k ∷ c ∷ ks) → OnBoth ks → OnBoth (k ∷ ks)
without (a_range b) rest = a_range rest
without (a_reference b) rest = a_reference rest
without (an_unused b) rest = an_unused rest

owns_over : {words : List (Option Value)} (k : Kind) (ks : List Kind) {v : Value} {vs : List Value} → OnBoth (k ∷ ks)
    → Owns words (left_away begun ks) vs → Owns words (left_away pushed (k ∷ ks)) (v ∷ vs)
owns_over k [] b owns = all_there b
owns_over k (c ∷ ks) b (on_top is held rest) = below_top is held (without b rest)
owns_over k (c ∷ ks) b (all_there rest) = elim rest [ ]
owns_over k (c ∷ ks) b (below_top is held rest) = elim rest [ ]

-- a reference is no number
owned_number : {words : List (Option Value)} {s : Span} {ks : List Kind} {v w : Value} {vs : List Value}
    {heap : Heap} → Owns words (Away (Range s) ∷ ks) (v ∷ vs) → Agrees heap (Range s) v w → ⊥
owned_number (on_top is held b) (number e h) = absurd cc
owned_number (all_there b) a = elim b [ ]
owned_number (below_top is held b) a = elim b [ ]

-- the number on top is another
owned_below : {words : List (Option Value)} (s t : Span) (ks : List Kind) {x y : Value} {vs : List Value}
    → Owns words (left_away pushed (Range s ∷ ks)) (x ∷ vs) → Owns words (left_away pushed (Range t ∷ ks)) (y ∷ vs)
owned_below s t [] owns = all_there (a_range no_cell)
owned_below s t (c ∷ ks) (below_top is held (a_range b)) = below_top is held (a_range b)
owned_below s t (c ∷ ks) (all_there (a_range b)) = elim b [ ]

-- ---- an instruction of a pair

module _ (by : Linked) (l : Named) (w : List Class) (a : Analysis) (m : Method) (read : IsRead a m)
    (decoded : IsDecoded (let f = a.found m in f.body)) (sound : IsSound w (let r = a.resolution m
    in r.constant) (a.found m)) (told : CatchesAreTold by l a m) (at offset : ℕ) (op : JOp)
    (cells local_cells : List Cell) (x : RangeState) (there : slice_get (let f = a.found m in let b = f.body
    in b.insns) at ≡ Some (record { at = offset; op = op })) (row : HasRow (let f = a.found m in f.types) at (record {
      stack = stacks.Cells cells;
      locals = local_cells;
    })) (ranged : HasRow (let f = a.found m in f.ranges) at x) where
  abbrev t : State
  t = record { stack = stacks.Cells cells; locals = local_cells }

  abbrev here : JInsn
  here = record { at = offset; op = op }

  abbrev r : Resolution
  r = a.resolution m

  abbrev table : Table
  table = tb by l w a m read decoded sound

  abbrev numbers : List Span
  numbers = spans_of x.stack

  abbrev locals : List Kind
  locals = kinds l local_cells x.locals

  abbrev known : List Kind
  known = kinds l cells numbers

  abbrev Keeps : Open → Type 0
  Keeps o = RuleWithin by l table m at (with_open o (point_of l t x)) here

  abbrev place : ℕ → ℕ
  place = written_place table m

  abbrev Goes : (to : ℕ) → List Kind → Type 0
  Goes to ks = GoesTo by l w a m read decoded sound to ks locals

  -- ---- what is written

  in_role : (role : PairRole) → r.role offset ≡ role → (xs : List NInsn) → written_as role r place op ≡ xs
      → written_for r place here ≡ xs
  in_role role e xs is = ap (λ role. written_as role r place op) e ∙ is

  one_there : (insn : NInsn) → written_for r place here ≡ insn ∷ []
      → slice_get (let code = code_of table m in code.insns) (spot table m at) ≡ Some insn
  one_there insn is =
      let same : spot table m at + 0 ≡ spot table m at = omega arith in
      subst (λ k. slice_get (let code = code_of table m in code.insns) k ≡ Some insn) same
      (written_at by l w a m read decoded sound at here t there row 0 insn (ap (λ xs. slice_get xs 0) is))

  behind_place : (n : ℕ) → goes_on op ≡ true → length (written_for r place here) ≡ n → spot table m at + n
      ≡ spot table m (at + 1)
  behind_place n goes long = ap (λ k. spot table m at + k) (sym long)
      ∙ next_spot by l w a m read decoded sound at here t there row (decoded.next at here there goes)

  some_there : (insn : NInsn) → written_for r place here ≡ insn ∷ [] → 0 < length (written_for r (λ o. 0) here)
  some_there insn is =
      let long = ap length is in
      let same = size_fixed r place (λ o. 0) here in omega (arith, long, same)

  -- ---- where it leads

  abbrev given : List Cell
  given = typed.gives op local_cells cells

  abbrev new : List Span
  new = gives r.constant op cells x.locals numbers

  abbrev behind : List Span
  behind = stack_behind r.constant op cells x.locals numbers

  abbrev after : List Kind
  after = kinds l given behind

  abbrev rest : List Kind
  rest = kinds_from l (takes op) (drop (takes op) cells) numbers

  on : length given ≡ length new → kinds l (typed.locals_after op local_cells t.stack)
      (locals_after op x.locals x.stack)
      ≡ locals → goes_on op ≡ true → Goes (at + 1) (after ++ rest)
  on same kept goes =
      subst (λ ls. GoesTo by l w a m read decoded sound (at + 1) (after ++ rest) ls) kept
      (subst (λ ks. GoesTo by l w a m read decoded sound (at + 1) ks (kinds l
      (typed.locals_after op local_cells t.stack)
      (locals_after op x.locals x.stack))) (behind_is l (takes op) given cells new numbers same)
      (leads_on l w r.constant (a.found m) sound at here t x there row ranged (at + 1)
      (follows by l w a m read decoded sound at here there goes)))

  comes_open : (o : Open) → a.opened m (at + 1) ≡ o → (next : ℕ) (ks : List Kind) → Goes (at + 1) ks
      → next ≡ spot table m (at + 1) → (vs : List Value) (words : List (Option Value)) → Owns words (left_away o ks) vs
      → Comes table m (at + 1) next (left_away o ks) locals vs words
  comes_open o is next ks goes same vs words owns = record {
    point = with_open o goes.point;
    is_reached = ap (λ o. option_map (with_open o) (let f = a.found m in point_at l f.types f.ranges (at + 1))) is
        ∙ ap (option_map (with_open o)) goes.is;
    place = same;
    stack = away_wider o goes.stack;
    locals = goes.locals;
    owns = owns_wider (away_wider o goes.stack) owns;
  }

  -- as much room as what is known behind it
  roomy : (o : Open) (ks : List Kind) → Goes (at + 1) ks
      → HasRoom (left_away o ks) m.max_stack (let code = code_of table m
      in code.max_stack)
  roomy o ks goes =
      let high = goes.low in
      let long = wider_length goes.stack in
      let same = away_long o ks in
      let max = read.max_stack in
      let narrow_max = read.narrow_max_stack in
      record {
        by_name = omega (arith, high, long, same, max);
        narrow = omega
            (arith, high, long, same, max, narrow_max);
      }

  low : goes_on op ≡ true → at < 65534
  low goes = let few = decoded.few in let next = decoded.next at here there goes in omega (arith, few, next)

  typed_here : IsTypedRow w (let f = a.found m in f.body) op t
  typed_here = is_typed l w r.constant (a.found m) sound at here t there row

  local_is : (k : ℕ) → local_of op ≡ Some k → (c : Cell) → typed.operand local_cells k ≡ c
      → slice_get locals k ≡ Some (kind_of_cell l c (operand x.locals k))
  local_is k is c e =
      let low = decoded.locals at here k there is in
      let state = sound.types.states at t row in
      let sized = state.locals.sized in
      let same : 0 + k ≡ k = omega arith in
      local_kind l 0 local_cells x.locals k (omega (arith, low, sized))
      ∙ ap (λ n. Some (kind_of_cell l (typed.operand local_cells k) (operand x.locals n))) same
      ∙ ap (λ d. Some (kind_of_cell l d (operand x.locals k))) e

  -- ---- a cell is pushed over the reference

  pub push_rule : a.opened m (at + 1) ≡ pushed → r.role offset ≡ Alone → IsPush by r m op → op ≢ jop.Throw
      → goes_on op ≡ true → (insn : NInsn) → written r place op ≡ insn ∷ [] → (c : Cell) (s : Span)
      → Goes (at + 1) (kind_of_cell l c s ∷ known)
      → RowOnLocals by l r m op [] (kind_of_cell l c s ∷ []) locals locals → Keeps begun
  push_rule open_behind alone push calm on_it insn is c s goes agrees =
      let written_here = in_role Alone alone (insn ∷ []) is in
      let k = kind_of_cell l c s in
      let room = subst (λ ks. HasRoom ks m.max_stack (let code = code_of table m in code.max_stack))
      (sym (over_away k known)) (roomy pushed (k ∷ known) goes) in
      record {
        rule = does insn (k ∷ left_away begun known) locals (one_there insn written_here)
            (λ ls words store memory vs ws stores held stack owns. agrees place insn is (let code = code_of table m
            in code.max_stack) at (spot table m at + 1) (left_away begun known) vs ws ls words store memory room stores
            held
            stack)
            (λ ls store vs object. never_tosses by m at ls store op calm vs object)
            (λ ls new_locals words wafter store new_store memory grown vs stack ws wstack owns e f.
            (let one = one_over by m at ls new_locals store new_store vs stack r op push e in
            let stay = words_stay l (let code = code_of table m in code.max_stack) (spot table m at + 1) words wafter
            memory
            grown ws wstack by r m place op insn push is f in
            subst (λ ks. Comes table m (at + 1) (spot table m at + 1) ks locals stack wafter) (sym (over_away k known))
            (subst (λ (words : List (Option Value)). Comes table m (at + 1) (spot table m at + 1) (left_away pushed
            (k ∷ known))
            locals stack words) (sym stay)
            (subst (λ (stack : List Value). Comes table m (at + 1) (spot table m at + 1) (left_away pushed (k ∷ known))
            locals
            stack words) (sym one.1)
            (comes_open pushed open_behind (spot table m at + 1) (k ∷ known) goes (behind_place 1 on_it (ap length
            written_here)) (one.0 ∷ vs) words (owns_over k known (cell_on_both l c s (on_both l 0 cells numbers))
            owns))))))
            (catches by l w a m read decoded sound told at here t x there row ranged (some_there insn written_here));
        is_within = tt;
      }

  -- ---- nothing is written

  -- what nothing is written for may go on in a pair
  pub wait_rule : (o p : Open) → a.opened m (at + 1) ≡ p → goes_on op ≡ true → written_for r place here ≡ []
      → (ks : List Kind) → Goes (at + 1) ks
      → ((ls words : List (Option Value)) (store : Store) (memory : NMemory) (vs ws : List Value)
      → Locals memory.heap locals ls words → Stacks memory.heap (left_away o known) vs ws
      → Owns words (left_away o known) vs → (on : GoesOn by m op at ls store memory (left_away p ks) vs ws)
      × Owns words (left_away p ks) on.stack) → Keeps o
  wait_rule o p open_behind on_it none ks goes holds =
      let here_still : spot table m at + 0 ≡ spot table m at = omega arith in
      record {
        rule = rules.goes_on (left_away p ks) (λ ls words store memory vs ws held stack owns. (let h =
            holds ls words store memory vs ws held stack owns in record {
              on = h.0;
              comes = comes_open p open_behind (spot table m at) ks goes (sym here_still ∙ behind_place 0 on_it
                  (ap length none)) h.0.stack words h.1;
            })) (low on_it);
        is_within = tt;
      }

  -- ---- the field instruction takes it

  pub close_rule : (o : Open) → a.opened m (at + 1) ≡ closed → goes_on op ≡ true → op ≢ jop.Throw → (insn : NInsn)
      → written_for r place here ≡ insn ∷ [] → (ks js : List Kind) → Goes (at + 1) js → AllWider ks js
      → ((ls words : List (Option Value)) (store : Store) (memory : NMemory) (vs ws : List Value)
      → HasRoom ks m.max_stack (let code = code_of table m in code.max_stack) → Stores l store memory
      → Locals memory.heap locals ls words → Stacks memory.heap (left_away o known) vs ws
      → Owns words (left_away o known) vs → Same l ks locals (at + 1) (spot table m at + 1)
      (by_name.effect by m at ls store op vs) (narrow.effect (classes l) (operation insn) (let code = code_of table m
      in code.max_stack) (spot table m at + 1) words memory ws)) → Keeps o
  close_rule o open_behind on_it calm insn is ks js goes wider holds =
      let sizes = wider_length wider in
      let room : HasRoom ks m.max_stack (let code = code_of table m in code.max_stack) =
      (let high = roomy closed js goes
      in let by_name = high.by_name in let narrow = high.narrow in record {
        by_name = omega (arith, by_name, sizes);
        narrow = omega (arith, narrow, sizes);
      }) in
      record {
        rule = does insn ks locals (one_there insn is)
            (λ ls words store memory vs ws stores held stack owns. holds ls words store memory vs ws room stores held
            stack
            owns)
            (λ ls store vs object. never_tosses by m at ls store op calm vs object)
            (λ ls new_locals words wafter store new_store memory grown vs stack ws wstack owns e f. comes by l table
            stack
            wafter
            (arrives by l w a m read decoded sound (at + 1) (spot table m at + 1) ks locals open_behind
            (record {
              point = goes.point;
              is = goes.is;
              stack = all_wider_through wider goes.stack;
              locals = goes.locals;
              low = goes.low;
            }) (behind_place 1 on_it (ap length is))))
            (catches by l w a m read decoded sound told at here t x there row ranged (some_there insn is));
        is_within = tt;
      }

-- ---- each instruction of a pair

refers_there : {heap : Heap} {within : Shape (List ℕ) → Bool} {v x : Value} → Agrees heap (Refers within) v x
    → (by_name.is_kind true v ≡ true) × (refers v ≡ true)
refers_there null = (refl, refl)
refers_there (object thing is e) = (refl, refl)

module _ (by : Linked) (l : Named) (w : List Class) (a : Analysis) (m : Method) (read : IsRead a m)
    (decoded : IsDecoded (let f = a.found m in f.body)) (sound : IsSound w (let r = a.resolution m
    in r.constant) (a.found m)) (told : CatchesAreTold by l a m) (at offset : ℕ) (cells local_cells : List Cell)
    (x : RangeState) (row : HasRow (let f = a.found m in f.types) at (record {
      stack = stacks.Cells cells;
      locals = local_cells;
    })) (ranged : HasRow (let f = a.found m in f.ranges) at x) where
  abbrev There : JOp → Type 0
  There op = slice_get (let f = a.found m in let b = f.body in b.insns) at ≡ Some (record { at = offset; op = op })

  abbrev KeepsIn : Open → JOp → Type 0
  KeepsIn o op = RuleWithin by l (table_of l a) m at (with_open o (point_of l (record {
    stack = stacks.Cells cells;
    locals = local_cells;
  }) x)) (record { at = offset; op = op })

  abbrev Role : PairRole → Type 0
  Role role = (let r = a.resolution m in r.role offset) ≡ role

  local_reference : (k : ℕ) → There (jop.Load true k) → (names : List (List ℕ))
      × (typed.operand local_cells k ≡ Refs names)
  local_reference k there = reference_is (typed.operand local_cells k) (not_false (is_reference
      (typed.operand local_cells k)) (let h = typed_here by l w a m read decoded sound told at offset (jop.Load true k)
      cells local_cells x there row ranged in h.local))

  -- the aload_0
  pub opens_rule : There (jop.Load true 0) → Role Opens → a.opened m (at + 1) ≡ begun → KeepsIn closed (jop.Load true 0)
  unfolding effect
  opens_rule there role open_behind =
      let is = local_reference 0 there in
      let c = typed.operand local_cells 0 in
      let goes = on by l w a m read decoded sound told at offset (jop.Load true 0) cells local_cells x there row ranged
      refl refl refl in
      let ks = kinds l cells (spans_of x.stack) in
      wait_rule by l w a m read decoded sound told at offset
      (jop.Load true 0) cells local_cells x there row ranged closed
      begun open_behind refl (in_role by l w a m read decoded sound told at offset (jop.Load true 0) cells local_cells x
      there row ranged Opens role [] refl) (kind_of_cell l (as_reference c) full ∷ ks) goes
      (λ ls words store memory vs ws held stack owns.
      (let h = local_at (Refers (is_one_of l is.0)) 0 held (local_is by l w a m read decoded sound told at offset
      (jop.Load true 0) cells local_cells x there row ranged 0 refl (Refs is.0) is.1) refl in
      let there_on = refers_there h.agree in
      let high = goes.low in
      let long = wider_length goes.stack in
      let max = read.max_stack in
      let tall = (heights stack).by_name in
      let fits : nat_lt (length vs) m.max_stack ≡ true = grind (arith, nat_tests, high, long, max, tall) in (
        record {
          stack = h.v ∷ vs;
          goes_on = ap (λ o. by_name.local_value o (λ v. by_name.only_if (by_name.is_kind true v)
              (by_name.push by m at ls
              store v vs))) h.by_name
              ∙ ap (λ b. by_name.only_if b (by_name.push by m at ls store h.v vs)) there_on.0
              ∙ ap (λ b. by_name.only_if b (by_name.onward by m at ls store (h.v ∷ vs))) fits;
          agree = subst (λ d. Stacks memory.heap (Away (kind_of_cell l (as_reference d) full) ∷ ks) (h.v ∷ vs) ws)
              (sym is.1) (left_out h.agree stack);
        },
        on_top there_on.1 (h.narrow ∙ ap (λ v. Some (Some v)) (sym (same_reference h.agree)))
            (on_both l 0 cells (spans_of x.stack)),
      )))

  -- nop
  nop_rule : (o : Open) → There jop.Nop → Role Alone → a.opened m (at + 1) ≡ o → KeepsIn o jop.Nop
  unfolding effect
  nop_rule o there role open_behind =
      wait_rule by l w a m read decoded sound told at offset jop.Nop cells local_cells x there row ranged o o
      open_behind
      refl (in_role by l w a m read decoded sound told at offset jop.Nop cells local_cells x there row ranged Alone role
      [] refl) (kinds l cells (spans_of x.stack)) (on by l w a m read decoded sound told at offset jop.Nop cells
      local_cells x there row ranged refl refl refl)
      (λ ls words store memory vs ws held stack owns. (record { stack = vs; goes_on = refl; agree = stack }, owns))

  -- i2s
  number_on_top : There (jop.Narrow 0x93) → (cs : List Cell) × (cells ≡ Number ∷ cs)
  number_on_top there =
      let h = typed_here by l w a m read decoded sound told at offset (jop.Narrow 0x93) cells local_cells x there row
      ranged in go cells h.there (h.operands 0 (omega arith))
    where
      go : (cs : List Cell) → 1 ≤ length cs → is_number (typed.operand cs 0) ≡ true → (ds : List Cell)
          × (cs ≡ Number ∷ ds)
      go [] le e = absurd (omega (arith, le))
      go (c ∷ cs) le e = (cs, ap (λ d. d ∷ cs) (number_is c e))

  -- of the number on top
  narrows : (o : Open) (memory : NMemory) (ls words : List (Option Value)) (store : Store) (s u : Span) (ks : List Kind)
      (vs ws : List Value) → is_opened o ≡ true
      → ((ks : List Kind) (vs ws : List Value) → Stacks memory.heap (Range s ∷ ks) vs ws
      → GoesOn by m (jop.Narrow 0x93) at ls store memory (Range u ∷ ks) vs ws)
      → Stacks memory.heap (left_away o (Range s ∷ ks)) vs ws → Owns words (left_away o (Range s ∷ ks)) vs
      → (on : GoesOn by m (jop.Narrow 0x93) at ls store memory (left_away o (Range u ∷ ks)) vs ws)
      × Owns words (left_away o (Range u ∷ ks)) on.stack
  unfolding effect
  narrows closed memory ls words store s u ks vs ws e row stack owns = absurd cc
  narrows begun memory ls words store s u ks _ _ e row (cell a more) owns = elim a [ ]
  narrows begun memory ls words store s u ks _ _ e row (left_out a more) owns = absurd (owned_number owns a)
  narrows pushed memory ls words store s u ks vs ws e row stack owns =
      go vs ws (subst (λ ks. Stacks memory.heap ks vs ws) (sym (over_away (Range s) ks)) stack) owns
    where
      go : (vs ws : List Value) → Stacks memory.heap (Range s ∷ left_away begun ks) vs ws
          → Owns words (left_away pushed (Range s ∷ ks)) vs
          → (on : GoesOn by m (jop.Narrow 0x93) at ls store memory (left_away pushed (Range u ∷ ks)) vs ws)
          × Owns words (left_away pushed (Range u ∷ ks)) on.stack
      go _ _ (cell {vs = vs} {ws = ws} (number {x = z} {y = y} f h) below) owns =
          let on = row (left_away begun ks) (Num z ∷ vs) (Num y ∷ ws) (cell (number f h) below) in
          let same : on.stack ≡ Num (low_word z) ∷ vs = (let g = on.goes_on in cc) in (
            record {
              stack = on.stack;
              goes_on = on.goes_on;
              agree = subst (λ ks. Stacks memory.heap ks on.stack (Num y ∷ ws)) (over_away (Range u) ks) on.agree;
            },
            subst (Owns words (left_away pushed (Range u ∷ ks))) (sym same) (owned_below s u ks owns),
          )

  narrow_rule : (o : Open) → is_opened o ≡ true → There (jop.Narrow 0x93) → Role Alone → a.opened m (at + 1) ≡ o
      → KeepsIn o (jop.Narrow 0x93)
  narrow_rule o opened there role open_behind =
      let top = number_on_top there in
      let numbers = spans_of x.stack in
      let s = operand numbers 0 in
      let u = to_short_row s in
      let ks = kinds_from l 1 top.0 numbers in
      let is_known : kinds l cells numbers ≡ Range s ∷ ks = ap (λ cs. kinds l cs numbers) top.1 in
      let goes = subst (λ cs. GoesTo by l w a m read decoded sound (at + 1) (Range u ∷ kinds_from l 1 (drop 1 cs)
      numbers) (kinds l local_cells x.locals)) top.1 (on by l w a m read decoded sound told at offset (jop.Narrow 0x93)
      cells local_cells x there row ranged refl refl refl) in
      wait_rule by l w a m read decoded sound told at offset (jop.Narrow 0x93) cells local_cells x there row ranged o o
      open_behind refl (in_role by l w a m read decoded sound told at offset (jop.Narrow 0x93) cells local_cells x there
      row ranged Alone role [] refl) (Range u ∷ ks) goes
      (λ ls words store memory vs ws held stack owns. narrows o memory ls words store s u ks vs ws opened
      (λ ks vs ws stack. (let i = i2s by (a.resolution m) m s in i.does at ks vs ws ls store memory stack))
      (subst (λ ks. Stacks memory.heap (left_away o ks) vs ws) is_known stack)
      (subst (λ ks. Owns words (left_away o ks) vs) is_known owns))

  -- ---- what is pushed

  abbrev Supported : JOp → Type 0
  Supported op = IsSupported by l w a m cells op

  pushes : (op : JOp) → There op → Role Alone → a.opened m (at + 1) ≡ pushed → IsPush by (a.resolution m) m op
      → op ≢ jop.Throw → goes_on op ≡ true → (insn : NInsn) → ((place : ℕ → ℕ)
      → written (a.resolution m) place op ≡ insn
      ∷ []) → (c : Cell) (s : Span) → GoesTo by l w a m read decoded sound (at + 1) (kind_of_cell l c s ∷ kinds l cells
      (spans_of x.stack)) (kinds l local_cells x.locals)
      → RowOnLocals by l (a.resolution m) m op [] (kind_of_cell l c s ∷ []) (kinds l local_cells x.locals)
      (kinds l local_cells x.locals) → KeepsIn begun op
  pushes op there role open_behind push calm on_it insn is c s goes agrees =
      push_rule by l w a m read decoded sound told at offset op cells local_cells x there row ranged open_behind role
      push
      calm on_it insn (is (written_place (table_of l a) m)) c s goes agrees

  -- whatever the locals are
  anywhere : (op : JOp) (from to : List Kind) → RowAgrees by l (a.resolution m) m op from to
      → RowOnLocals by l (a.resolution m) m op from to (kinds l local_cells x.locals)
      (kinds l local_cells x.locals)
  anywhere op from to row spots insn is room at next ks vs ws ls words store memory high stores held stack =
      row spots insn is room at next ks (kinds l local_cells x.locals) vs ws ls words store memory high stores held
      stack

  abbrev Pushed : JOp → Type 0
  Pushed op = There op → Role Alone → a.opened m (at + 1) ≡ pushed → KeepsIn begun op

  null_rule : Pushed jop.Null
  null_rule there role open_behind = pushes jop.Null there role open_behind pushes_null (λ e. cc) refl (insns.Op 0x01)
      (λ place. refl) (Refs []) full (on by l w a m read decoded sound told at offset jop.Null cells local_cells x there
      row ranged refl refl refl) (anywhere jop.Null [] (Refers (is_one_of l []) ∷ []) (aconst_null by l
      (a.resolution m) m (is_one_of l [])))

  number_rule : (z : ℤ) → Holds full z → Pushed (jop.Number z)
  number_rule z inside there role open_behind = pushes (jop.Number z) there role open_behind pushes_number
      (λ e. cc) refl
      (pushed_word (low_word z)) (λ place. refl) Number (exactly z) (on by l w a m read decoded sound told at offset
      (jop.Number z) cells local_cells x there row ranged refl refl refl) (anywhere (jop.Number z) [] (Range
      (exactly z) ∷ []) (constant by l (a.resolution m) m z
      (exactly z) (subst (λ s. Holds s z) (sym (exactly_is z inside)) (holds_itself z))))

  iload_rule : (k : ℕ) → Pushed (jop.Load false k)
  iload_rule k there role open_behind =
      let op = jop.Load false k in
      let h = typed_here by l w a m read decoded sound told at offset op cells local_cells x there row ranged in
      let is = number_is (typed.operand local_cells k) (not_false (is_number (typed.operand local_cells k)) h.local) in
      pushes op there role open_behind pushes_local (λ e. cc) refl _ (λ place. refl) Number (operand x.locals k)
      (on by l w a m read decoded sound told at offset op cells local_cells x there row ranged refl refl refl)
      (iload by l (a.resolution m) m (kinds l local_cells x.locals) k (operand x.locals k) (local_is by l w a m read
      decoded sound told at offset op cells local_cells x there row ranged k refl Number is))

  aload_rule : (k : ℕ) → Pushed (jop.Load true k)
  aload_rule k there role open_behind =
      let op = jop.Load true k in
      let is = local_reference k there in
      pushes op there role open_behind pushes_local (λ e. cc) refl _ (λ place. refl)
      (as_reference (typed.operand local_cells k)) full
      (on by l w a m read decoded sound told at offset op cells local_cells x there row ranged refl refl refl)
      (subst (λ c. RowOnLocals by l (a.resolution m) m op [] (kind_of_cell l (as_reference c) full ∷ [])
      (kinds l local_cells x.locals) (kinds l local_cells x.locals)) (sym is.1)
      (aload by l (a.resolution m) m (kinds l local_cells x.locals) k (is_one_of l is.0) (local_is by l w a m read
      decoded sound told at offset op cells local_cells x there row ranged k refl (Refs is.0) is.1)))

  constant_rule : (named : MemberId) (z : ℤ) → result_of (parts named.desc).result ≡ Number ∷ [] → Holds full z
      → IsConstant by (a.resolution m) m named z → Pushed (jop.Static false named)
  constant_rule named z one inside is there role open_behind =
      let op = jop.Static false named in
      let p = (parts named.desc).result in
      let constant = is.narrow in
      let numbers = spans_of x.stack in
      let same : length (result_of p) ≡ length (field_range (let r = a.resolution m in r.constant named) p) =
      ap length one ∙ ap (λ o. length (field_range o p)) (sym constant) in
      let goes = on by l w a m read decoded sound told at offset op cells local_cells x there row ranged same refl
      refl in
      pushes op there role open_behind (pushes_constant is) (λ e. cc) refl (pushed_word (low_word z))
      (λ place. ap (static_by (a.resolution m) false named) constant) Number (exactly z)
      (subst (λ cs. GoesTo by l w a m read decoded sound (at + 1) (kinds l cs (exactly z ∷ numbers)
      ++ kinds l cells numbers) (kinds l local_cells x.locals)) one
      (subst (λ o. GoesTo by l w a m read decoded sound (at + 1) (kinds l (result_of p) (field_range o p ++ numbers)
      ++ kinds l cells numbers) (kinds l local_cells x.locals)) constant goes))
      (anywhere op [] (Range (exactly z) ∷ []) (constant_field by l (a.resolution m) m z (exactly z) (subst
      (λ s. Holds s z) (sym
      (exactly_is z inside))
      (holds_itself z)) named is))

  pushed_rule : (op : JOp) → IsPushed (a.resolution m) op → Supported op → Pushed op
  pushed_rule _ a_null is = null_rule
  pushed_rule _ (a_local {refs = false} {k = k}) is = iload_rule k
  pushed_rule _ (a_local {refs = true} {k = k}) is = aload_rule k
  pushed_rule _ a_number (supported_by.names_nothing (plain.number {z = z} inside)) = number_rule z inside
  pushed_rule _ a_number (supported_by.is_resolved is) = elim is [ ]
  pushed_rule _ a_number (supported_by.is_on_array is) = elim is [ ]
  pushed_rule _ a_number (supported_by.calls is) = elim is [ ]
  pushed_rule _ (a_constant some) (supported_by.names_nothing is) = elim is [ ]
  pushed_rule _ (a_constant {named = named} some) (supported_by.is_resolved
      (named_here.a_constant {z = z} one inside is)) =
      constant_rule named z one inside is
  pushed_rule _ (a_constant some) (supported_by.is_resolved (named_here.a_static desc found)) =
      let none = found.is_no_constant in let clash : None ≡ Some _ = sym none ∙ some in absurd cc
  pushed_rule _ (a_constant some) (supported_by.is_on_array is) = elim is [ ]
  pushed_rule _ (a_constant some) (supported_by.calls is) = elim is [ ]

  -- ---- the field instruction

  module _ (types : TypesAreTold w l) (named : MemberId) (desc : IsDesc named.desc) where
    sort : field_sort named.desc ≡ sort_of (parts named.desc).result
    sort = sort_is named.desc desc

    get_rule : There (jop.Field false named) → Role Closes → a.opened m (at + 1) ≡ closed
        → ((names : List (List ℕ)) → typed.operand cells 0 ≡ Refs names → FieldIsThere by l (a.resolution m) m named
        (is_one_of l names)) → KeepsIn begun (jop.Field false named)
    get_rule there role open_behind field =
        let op = jop.Field false named in
        let r = a.resolution m in
        let p = (parts named.desc).result in
        let numbers = spans_of x.stack in
        let h = typed_here by l w a m read decoded sound told at offset op cells local_cells x there row ranged in
        let is = of_reference w named.class (typed.operand cells 0) (h.operands 0 (omega arith)) in
        let f = field is.0 is.1 in
        let rest = kinds_from l 1 (drop 1 cells) numbers in
        let left = kind_of l (field_sort named.desc) ∷ [] in
        let is_known : kinds l cells numbers ≡ Refers (is_one_of l is.0) ∷ rest = before_is l 1 cells numbers h.there
        ∙ ap (λ cs. kinds l cs numbers ++ rest) (one_taken cells h.there ∙ ap (λ c. c ∷ []) is.1) in
        let wider : AllWider left (kinds l (result_of p) (result_ranges p ++ drop 1 numbers)) =
        subst (λ s. AllWider (kind_of l s ∷ []) (kinds l (result_of p) (result_ranges p ++ drop 1 numbers))) (sym sort)
        (given_wider l p (drop 1 numbers) (ap is_word_sort (sym sort) ∙ f.one_word)) in
        close_rule by l w a m read decoded sound told at offset op cells local_cells x there row ranged begun
        open_behind
        refl (λ e. cc) (insns.Named (this_access false (field_sort named.desc)) (pool.Field (r.field named)))
        (in_role by l w a m read decoded sound told at offset op cells local_cells x there row ranged Closes role _
        refl)
        (left ++ rest) (kinds l (result_of p) (result_ranges p ++ drop 1 numbers) ++ rest)
        (on by l w a m read decoded sound told at offset op cells local_cells x there row ranged
        (same_long p) refl refl)
        (wider_append wider (all_wider_itself rest))
        (λ ls words store memory vs ws room stores held stack owns. get_closes by l r m named (is_one_of l is.0) left
        (getfield by l r m named (is_one_of l is.0) f) _ at _ rest (kinds l local_cells x.locals) vs ws ls words store
        memory room stores held (subst (λ ks. Stacks memory.heap (left_away begun ks) vs ws) is_known stack)
        (subst (λ ks. Owns words (left_away begun ks) vs) is_known owns))

    put_rule : There (jop.Field true named) → Role Closes → a.opened m (at + 1) ≡ closed
        → ((names : List (List ℕ)) → typed.operand cells 1 ≡ Refs names → FieldIsThere by l (a.resolution m) m named
        (is_one_of l names)) → KeepsIn pushed (jop.Field true named)
    put_rule there role open_behind field =
        let op = jop.Field true named in
        let r = a.resolution m in
        let p = (parts named.desc).result in
        let numbers = spans_of x.stack in
        let h = typed_here by l w a m read decoded sound told at offset op cells local_cells x there row ranged in
        let is = of_reference w named.class (typed.operand cells 1) (h.operands 1 (omega arith)) in
        let f = field is.0 is.1 in
        let top = kind_of_cell l (typed.operand cells 0) (operand numbers 0) in
        let rest = kinds_from l 2 (drop 2 cells) numbers in
        let is_known : kinds l cells numbers ≡ top ∷ Refers (is_one_of l is.0) ∷ rest = before_is l 2 cells numbers
        h.there ∙ ap (λ cs. kinds l cs numbers ++ rest) (two_taken cells h.there
        ∙ ap (λ c. typed.operand cells 0 ∷ c ∷ []) is.1) in
        let put = may_put w l types p (typed.operand cells 0) (operand numbers 0) (ap is_word_sort (sym sort)
        ∙ f.one_word) (h.operands 0 (omega arith)) (λ rule s bound. lies (a.found m) sound.passes at (record {
          at = offset;
          op = op;
        }) (record { stack = stacks.Cells cells; locals = local_cells }) x there row ranged rule 0 s
        (a_field_bound bound)) in
        close_rule by l w a m read decoded sound told at offset op cells local_cells x there row ranged pushed
        open_behind
        refl (λ e. cc) (insns.Named (this_access true (field_sort named.desc)) (pool.Field (r.field named)))
        (in_role by l w a m read decoded sound told at offset op cells local_cells x there row ranged Closes role _
        refl)
        rest rest
        (on by l w a m read decoded sound told at offset op cells local_cells x there row ranged refl refl refl)
        (all_wider_itself rest)
        (λ ls words store memory vs ws room stores held stack owns. put_closes by l r m named (is_one_of l is.0) top
        f.one_word (putfield by l r m named top (is_one_of l is.0) f (subst (λ s. MayBePut l s top)
        (sym sort) put)) _ at
        _ rest (kinds l local_cells x.locals) vs ws ls words store memory room stores held
        (subst (λ ks. Stacks memory.heap (left_away pushed ks) vs ws) is_known stack)
        (subst (λ ks. Owns words (left_away pushed ks) vs) is_known owns))

  -- ---- in its place

  -- what follows of a rule within the frame, and of standing alone
  pub pair_rule : TypesAreTold w l → (Answer : Open → JOp → Type 0)
      → ((o : Open) (op : JOp) → KeepsIn o op → Answer o op) → (o p : Open) (role : PairRole) (op : JOp) → There op
      → Role role → a.opened m at ≡ o → a.opened m (at + 1) ≡ p → IsInPair (a.resolution m) o op role p → Supported op
      → (StandsAlone (a.resolution m) (let f = a.found m in let b = f.body in b.insns) (a.opened m) at
      → Answer closed op) → Answer o op
  pair_rule types Answer answer _ _ _ op there role before behind stands_alone is alone = alone (record {
    before = before;
    alone = λ i e. (let same : record { at = offset; op = op } ≡ i = (let f : Some (record { at = offset; op = op })
        ≡ Some i = sym there ∙ e in cc) in ap (λ (j : JInsn). (let r = a.resolution m in r.role j.at)) (sym same)
        ∙ role);
    behind = behind;
  })
  pair_rule types Answer answer _ _ _ _ there role before behind opens is alone =
      answer closed (jop.Load true 0) (opens_rule there role behind)
  pair_rule types Answer answer o _ _ _ there role before behind (rules_of.goes_on opened a_nop) is alone =
      answer o jop.Nop (nop_rule o there role behind)
  pair_rule types Answer answer o _ _ _ there role before behind (rules_of.goes_on opened (a_narrow other))
      (supported_by.names_nothing plain.i2s) alone =
      answer o (jop.Narrow 0x93) (narrow_rule o opened there role behind)
  pair_rule types Answer answer o _ _ _ there role before behind (rules_of.goes_on opened (a_narrow other))
      (supported_by.names_nothing plain.i2b) alone = absurd cc
  pair_rule types Answer answer o _ _ _ there role before behind (rules_of.goes_on opened (a_narrow other))
      (supported_by.is_resolved is) alone = elim is [ ]
  pair_rule types Answer answer o _ _ _ there role before behind (rules_of.goes_on opened (a_narrow other))
      (supported_by.is_on_array is) alone = elim is [ ]
  pair_rule types Answer answer o _ _ _ there role before behind (rules_of.goes_on opened (a_narrow other))
      (supported_by.calls is) alone = elim is [ ]
  pair_rule types Answer answer _ _ _ op there role before behind (rules_of.pushes push) is alone =
      answer begun op (pushed_rule op push is there role behind)
  pair_rule types Answer answer _ _ _ _ there role before behind (gets {f = named})
      (supported_by.is_resolved (named_here.a_field desc field)) alone =
      answer begun (jop.Field false named) (get_rule types named desc there role behind field)
  pair_rule types Answer answer _ _ _ _ there role before behind gets (supported_by.names_nothing is) alone =
      elim is [ ]
  pair_rule types Answer answer _ _ _ _ there role before behind gets (supported_by.is_on_array is) alone = elim is [ ]
  pair_rule types Answer answer _ _ _ _ there role before behind gets (supported_by.calls is) alone = elim is [ ]
  pair_rule types Answer answer _ _ _ _ there role before behind (puts {f = named})
      (supported_by.is_resolved (named_here.a_put_field desc field)) alone =
      answer pushed (jop.Field true named) (put_rule types named desc there role behind field)
  pair_rule types Answer answer _ _ _ _ there role before behind puts (supported_by.names_nothing is) alone =
      elim is [ ]
  pair_rule types Answer answer _ _ _ _ there role before behind puts (supported_by.is_on_array is) alone = elim is [ ]
  pair_rule types Answer answer _ _ _ _ there role before behind puts (supported_by.calls is) alone = elim is [ ]
