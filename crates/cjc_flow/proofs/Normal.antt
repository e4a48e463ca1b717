-- Cells that are no numbers are full, and stay so past every instruction.
use Rattle.std.proofs.Common.{◌≡◌, ◌||◌, ◌&&◌, ◌==◌, ℕ, zero, suc, Bool, true, false, cond, leb, List, [], ◌∷◌, ◌++◌}
use Rattle.std.proofs.Common.{map, length, drop, slice_set, Option, Some, None, All, refl, sym, ◌∙◌, ap, subst, arith}
use Rattle.std.proofs.Common.{ℤ, pos, negsuc, int_le}
use Rattle.std.specs.List.{AllZip}
use Rattle.std.proofs.lemmas.List.Elements.{All-head, All-tail}
use Rattle.std.proofs.lemmas.Int.{ints}
use Rattle.std.proofs.lemmas.Bool.{eqb-true, and_from}
use Rattle.cjc_fixpoint.specs.Bytes.Descriptor.{Part}
use Rattle.cjc_fixpoint.specs.Bytes.declared.fault.MemberId.{MemberId}
use Rattle.cjc_fixpoint.specs.Bytes.declared.descriptor.Kind.{Kind}
use Rattle.cjc_fixpoint.specs.Bytes.declared.descriptor.Kind.TheVariants as kinds
use Rattle.cjc_range.specs.Span.{Span, IsWord, Within, full}
use Rattle.cjc_range.proofs.Order.{within_refl, within_both}
use Rattle.cjc_types.specs.Bytecode.declared.insn.JOp.{JOp}
use Rattle.cjc_types.specs.Bytecode.declared.insn.JOp.TheVariants as jop
use Rattle.cjc_types.specs.declared.cell.Cell.{Cell}
use Rattle.cjc_types.specs.declared.cell.Cell.TheVariants.{Number, Refs}
use Rattle.cjc_types.specs.declared.state.Stack.TheVariants as typed_stacks
use Rattle.cjc_types.specs.declared.state.State.{State}
use Rattle.cjc_types.specs.States as typed_states
use Rattle.cjc_types.specs.States.{most_cells}
use Rattle.cjc_types.specs.Types.{parts, is_void, cell_of, value_of, result_of, element_of, as_reference, elements}
use Rattle.cjc_types.specs.Cells.{refs}
use Rattle.cjc_types.specs.Rules.{is_number}
use Rattle.cjc_types.specs.Search.{cells_of}
use Rattle.cjc_types.specs.Steps as typed
use Rattle.cjc_types.specs.Steps.{takes, shuffled}
use Rattle.cjc_intervals.specs.Frames.{StackOf, Cells, Clash, RangeState, stack_of}
use Rattle.cjc_intervals.specs.Values.{range_of, range_of_kind, result_ranges, element_range}
use Rattle.cjc_intervals.specs.Steps.{operand, field_range, loaded, gives, stack_behind, stack_after, stored}
use Rattle.cjc_intervals.specs.Steps.{locals_after}
use Rattle.cjc_intervals.specs.Flow.{number_range, number_ranges}
use Rattle.cjc_flow.specs.Constants.{AreNumbers}
use Rattle.cjc_fixpoint.proofs.BytesBools.{both_front, both_back}

-- ---- full intervals

abbrev pub is_full : Span → Bool
is_full s = int_le s.low (negsuc 2147483647) && int_le (pos 2147483647) s.high

above_full : (s : Span) → is_full s ≡ true → Within full s
above_full s e = go (int_le s.low (negsuc 2147483647)) (int_le (pos 2147483647) s.high) refl refl e
  where
    go : (a b : Bool) → int_le s.low (negsuc 2147483647) ≡ a → int_le (pos 2147483647) s.high ≡ b → (a && b) ≡ true
        → Within full s
    go true true l h k = record { low = grind (arith, ints, l); high = grind (arith, ints, h) }
    go true false l h k = absurd cc
    go false b l h k = absurd cc

full_from : (s : Span) → Within full s → is_full s ≡ true
full_from s h = go (int_le s.low (negsuc 2147483647)) (int_le (pos 2147483647) s.high) refl refl
  where
    go : (a b : Bool) → int_le s.low (negsuc 2147483647) ≡ a → int_le (pos 2147483647) s.high ≡ b → (a && b) ≡ true
    go true true l k = refl
    go true false l k = let up = h.high in absurd (grind (arith, ints, k, up))
    go false b l k = let down = h.low in absurd (grind (arith, ints, l, down))

full_is : (s : Span) → IsWord s → is_full s ≡ true → s ≡ full
full_is s own e = within_both s full own.within (above_full s e)

full_up : (s t : Span) → Within s t → is_full s ≡ true → is_full t ≡ true
full_up s t h e =
    let f = above_full s e in
    let a = f.low in
    let b = f.high in
    let c = h.low in
    let d = h.high in
    full_from t (record { low = omega (arith, ints, a, c); high = omega (arith, ints, b, d) })

full_full : is_full full ≡ true
full_full = full_from full (within_refl full)

-- ---- a cell and its interval

abbrev pub fits_cell : Cell → Span → Bool
fits_cell c s = is_number c || is_full s

or_full : (a : Bool) → (a || is_full full) ≡ true
or_full true = refl
or_full false = full_full

or_same : (a b c : Bool) → (b ≡ true → c ≡ true) → (a || b) ≡ true → (a || c) ≡ true
or_same true b c h e = refl
or_same false b c h e = h e

number_fits : (c : Cell) (s : Span) → fits_cell c (number_range c s) ≡ true
number_fits c s = go (is_number c)
  where
    go : (b : Bool) → (b || is_full (cond b s full)) ≡ true
    go true = refl
    go false = full_full

number_same : (c : Cell) (s : Span) → IsWord s → fits_cell c s ≡ true → number_range c s ≡ s
number_same c s own e = go (is_number c) e
  where
    go : (b : Bool) → (b || is_full s) ≡ true → cond b s full ≡ s
    go true h = refl
    go false h = sym (full_is s own h)

-- ---- lists of cells

abbrev pub fits : List Cell → List Span → Bool
fits cells [] = true
fits [] (s ∷ ss) = is_full s && fits [] ss
fits (c ∷ cs) (s ∷ ss) = fits_cell c s && fits cs ss

pub fits_same : (cells : List Cell) (s : List Span) → All IsWord s → fits cells s ≡ true → number_ranges cells s ≡ s
fits_same cells [] own e = refl
fits_same [] (x ∷ xs) own e =
    ap (λ (y : Span). y ∷ number_ranges [] xs) (sym (full_is x (All-head IsWord x xs own) (both_front (is_full x)
    (fits [] xs) e)))
    ∙ ap (λ (ys : List Span). x ∷ ys) (fits_same [] xs (All-tail IsWord x xs own) (both_back (is_full x)
    (fits [] xs) e))
fits_same (c ∷ cs) (x ∷ xs) own e =
    ap (λ (y : Span). y ∷ number_ranges cs xs) (number_same c x (All-head IsWord x xs own) (both_front (fits_cell c x)
    (fits cs xs) e))
    ∙ ap (λ (ys : List Span). x ∷ ys) (fits_same cs xs (All-tail IsWord x xs own) (both_back (fits_cell c x)
    (fits cs xs) e))

pub fits_up : (cells : List Cell) (s t : List Span) → AllZip Within s t → fits cells s ≡ true → fits cells t ≡ true
fits_up cells [] [] h e = refl
fits_up cells [] (y ∷ ys) h e = absurd h
fits_up cells (x ∷ xs) [] h e = absurd h
fits_up [] (x ∷ xs) (y ∷ ys) h e = and_from (is_full y) (fits [] ys) (full_up x y h.0 (both_front (is_full x)
    (fits [] xs)
    e)) (fits_up [] xs ys h.1 (both_back (is_full x) (fits [] xs) e))
fits_up (c ∷ cs) (x ∷ xs) (y ∷ ys) h e =
    and_from (fits_cell c y) (fits cs ys) (or_same (is_number c) (is_full x) (is_full y) (full_up x y h.0)
    (both_front (fits_cell c x) (fits cs xs) e))
    (fits_up cs xs ys h.1 (both_back (fits_cell c x) (fits cs xs) e))

pub fits_numbers : (cells : List Cell) (s : List Span) → fits cells (number_ranges cells s) ≡ true
fits_numbers cells [] = refl
fits_numbers [] (x ∷ xs) = and_from (is_full full) _ full_full (fits_numbers [] xs)
fits_numbers (c ∷ cs) (x ∷ xs) = and_from _ _ (number_fits c x) (fits_numbers cs xs)

fits_append : (cs ds : List Cell) (xs ys : List Span) → length cs ≡ length xs → fits cs xs ≡ true → fits ds ys ≡ true
    → fits (cs ++ ds) (xs ++ ys) ≡ true
fits_append [] ds [] ys same h k = k
fits_append [] ds (x ∷ xs) ys same h k = absurd (omega (arith, same))
fits_append (c ∷ cs) ds [] ys same h k = absurd (omega (arith, same))
fits_append (c ∷ cs) ds (x ∷ xs) ys same h k =
    and_from (fits_cell c x) (fits (cs ++ ds) (xs ++ ys)) (both_front (fits_cell c x) (fits cs xs) h)
    (fits_append cs ds xs ys (omega (arith, same)) (both_back (fits_cell c x) (fits cs xs) h) k)

fits_drop : (n : ℕ) (cells : List Cell) (s : List Span) → fits cells s ≡ true → fits (drop n cells) (drop n s) ≡ true
fits_drop zero cells s e = e
fits_drop (suc n) [] [] e = refl
fits_drop (suc n) (c ∷ cs) [] e = refl
fits_drop (suc n) [] (x ∷ xs) e = drop_none n xs (both_back (is_full x) (fits [] xs) e)
  where
    drop_none : (n : ℕ) (xs : List Span) → fits [] xs ≡ true → fits [] (drop n xs) ≡ true
    drop_none zero xs e = e
    drop_none (suc n) [] e = refl
    drop_none (suc n) (x ∷ xs) e = drop_none n xs (both_back (is_full x) (fits [] xs) e)
fits_drop (suc n) (c ∷ cs) (x ∷ xs) e = fits_drop n cs xs (both_back (fits_cell c x) (fits cs xs) e)

fits_operand : (cells : List Cell) (s : List Span) (k : ℕ) → fits cells s ≡ true
    → fits_cell (typed.operand cells k) (operand s k) ≡ true
fits_operand cells [] k e = or_full (is_number (typed.operand cells k))
fits_operand [] (x ∷ xs) zero e = both_front (is_full x) (fits [] xs) e
fits_operand [] (x ∷ xs) (suc k) e = fits_operand [] xs k (both_back (is_full x) (fits [] xs) e)
fits_operand (c ∷ cs) (x ∷ xs) zero e = both_front (fits_cell c x) (fits cs xs) e
fits_operand (c ∷ cs) (x ∷ xs) (suc k) e = fits_operand cs xs k (both_back (fits_cell c x) (fits cs xs) e)

fits_set : (cells : List Cell) (s : List Span) (k : ℕ) (c : Cell) (x : Span) → length cells ≡ length s
    → fits cells s ≡ true → fits_cell c x ≡ true → fits (slice_set cells k c) (slice_set s k x) ≡ true
fits_set [] [] k c x same e h = refl
fits_set [] (y ∷ ys) k c x same e h = absurd (omega (arith, same))
fits_set (d ∷ ds) [] k c x same e h = absurd (omega (arith, same))
fits_set (d ∷ ds) (y ∷ ys) zero c x same e h = and_from (fits_cell c x) (fits ds ys) h (both_back (fits_cell d y)
    (fits ds ys) e)
fits_set (d ∷ ds) (y ∷ ys) (suc k) c x same e h = and_from (fits_cell d y) _ (both_front (fits_cell d y) (fits ds ys) e)
    (fits_set ds ys k c x (omega (arith, same)) (both_back (fits_cell d y) (fits ds ys) e) h)

fits_shuffled : (ks : List ℕ) (cells : List Cell) (s : List Span) → fits cells s ≡ true
    → fits (map (typed.operand cells) ks) (map (operand s) ks) ≡ true
fits_shuffled [] cells s e = refl
fits_shuffled (k ∷ ks) cells s e = and_from _ _ (fits_operand cells s k e) (fits_shuffled ks cells s e)

shuffled_sized : (ks : List ℕ) (cells : List Cell) (s : List Span) → length (map (typed.operand cells) ks)
    ≡ length (map (operand s) ks)
shuffled_sized [] cells s = refl
shuffled_sized (k ∷ ks) cells s = ap suc (shuffled_sized ks cells s)

-- ---- what is given

-- as many, and each fits
pub record Fits (cells : List Cell) (s : List Span) : Type 0 where
  pub sized : length cells ≡ length s
  pub fit : fits cells s ≡ true

none_fits : Fits [] []
none_fits = record { sized = refl; fit = refl }

one_fits : (c : Cell) (s : Span) → fits_cell c s ≡ true → Fits (c ∷ []) (s ∷ [])
one_fits c s h = record { sized = refl; fit = and_from (fits_cell c s) true h refl }

full_fits : (c : Cell) → Fits (c ∷ []) (full ∷ [])
full_fits c = one_fits c full (or_full (is_number c))

number_one : (s : Span) → Fits (Number ∷ []) (s ∷ [])
number_one s = one_fits Number s refl

kind_fits : (k : Kind) (class : List ℕ) → fits_cell (cell_of k class) (range_of_kind k) ≡ true
kind_fits kinds.Bool class = refl
kind_fits kinds.Byte class = refl
kind_fits kinds.Short class = refl
kind_fits kinds.Int class = refl
kind_fits kinds.Other class = full_full
kind_fits kinds.Ref class = full_full
kind_fits kinds.Void class = full_full

result_fits : (p : Part) → Fits (result_of p) (result_ranges p)
result_fits p = go (is_void p.kind)
  where
    go : (b : Bool) → Fits (cond b [] (value_of p ∷ [])) (cond b [] (range_of p ∷ []))
    go true = none_fits
    go false = one_fits (value_of p) (range_of p) (kind_fits p.kind p.class)

void_no_number : (k : Kind) (class : List ℕ) → is_number (cell_of k class) ≡ true → is_void k ≡ false
void_no_number kinds.Bool class e = refl
void_no_number kinds.Byte class e = refl
void_no_number kinds.Short class e = refl
void_no_number kinds.Int class e = refl
void_no_number kinds.Other class e = refl
void_no_number kinds.Ref class e = refl
void_no_number kinds.Void class e = absurd cc

constant_fits : (p : Part) (s : Span) → is_number (value_of p) ≡ true → Fits (result_of p) (s ∷ [])
constant_fits p s number =
    subst (λ (b : Bool). Fits (cond b [] (value_of p ∷ [])) (s ∷ [])) (sym (void_no_number p.kind p.class number))
    (one_fits (value_of p) s (ap (λ (b : Bool). b || is_full s) number))

got_fits : (put : Bool) (cells : List Cell) (s : List Span) → Fits cells s → Fits (cond put [] cells) (cond put [] s)
got_fits true cells s h = none_fits
got_fits false cells s h = h

-- an array that an array load takes is a reference
abbrev pub HasArray : JOp → List Cell → Type 0
HasArray (jop.ArrayLoad opcode) cells = (names : List (List ℕ)) × (typed.operand cells 1 ≡ Refs names)
HasArray _ cells = Unit {0}

element_fits : (opcode : ℕ) (names : List (List ℕ))
    → fits_cell (element_of opcode (Refs names)) (element_range opcode (Refs names)) ≡ true
element_fits opcode names = go (opcode == 0x32) refl
  where
    go : (b : Bool) → (opcode == 0x32) ≡ b → (is_number (cond b (refs (elements names [])) Number)
        || is_full (element_range opcode (Refs names))) ≡ true
    go false e = refl
    go true e = subst (λ (s : Span). (is_number (refs (elements names [])) || is_full s) ≡ true) (sym (aaload e))
        (or_full (is_number (refs (elements names []))))
      where
        aaload : (opcode == 0x32) ≡ true → element_range opcode (Refs names) ≡ full
        aaload h = subst (λ (n : ℕ). element_range n (Refs names) ≡ full) (sym (eqb-true opcode 0x32 h)) refl

-- ---- states

abbrev pub fits_stack : List Cell → StackOf Span → Bool
fits_stack cells Clash = true
fits_stack cells (Cells s) = fits cells s

abbrev pub fits_state : State → RangeState → Bool
fits_state t x = fits_stack (cells_of t.stack) x.stack && fits t.locals x.locals

whole_stack : (xs ys : List Cell) → typed_states.stack_of xs ≡ typed_stacks.Cells ys → xs ≡ ys
whole_stack xs ys e = go (leb (length xs) most_cells) e
  where
    go : (b : Bool) → cond b (typed_stacks.Cells xs) typed_stacks.Clash ≡ typed_stacks.Cells ys → xs ≡ ys
    go true h = cc
    go false h = absurd cc

cut_fits : (cells : List Cell) (s : List Span) → fits cells s ≡ true → fits_stack cells (stack_of s) ≡ true
cut_fits cells s e = go (leb (length s) most_cells)
  where
    go : (b : Bool) → fits_stack cells (cond b (Cells s) Clash) ≡ true
    go true = e
    go false = refl

module _ (constant : MemberId → Option ℤ) (numbers : AreNumbers constant) where
  field_fits : (field : MemberId) → Fits (result_of (parts field.desc).result) (field_range (constant field)
      (parts field.desc).result)
  field_fits field = go (constant field) refl
    where
      go : (o : Option ℤ) → constant field ≡ o
          → Fits (result_of (parts field.desc).result) (field_range o (parts field.desc).result)
      go None e = result_fits (parts field.desc).result
      go (Some z) e = constant_fits (parts field.desc).result _ (numbers field z e)

  loaded_fits : (refs_ : Bool) (c : Cell) (s : Span) → Fits (typed.local_value refs_ c ∷ []) (loaded refs_ s ∷ [])
  loaded_fits true c s = full_fits (as_reference c)
  loaded_fits false c s = number_one s

  gives_fit : (op : JOp) (cells locals : List Cell) (s more : List Span) → HasArray op cells → fits cells s ≡ true
      → Fits (typed.gives op locals cells) (gives constant op cells more s)
  gives_fit (jop.ArrayLoad opcode) cells locals s more h e =
      subst (λ (c : Cell). Fits (element_of opcode c ∷ []) (element_range opcode c ∷ [])) (sym h.1)
      (one_fits _ _ (element_fits opcode h.0))
  gives_fit (jop.Stack opcode) cells locals s more h e = record {
    sized = shuffled_sized (shuffled opcode) cells s;
    fit = fits_shuffled (shuffled opcode) cells s e;
  }
  gives_fit (jop.Load r k) cells locals s more h e = loaded_fits r (typed.operand locals k) (operand more k)
  gives_fit jop.Nop cells locals s more h e = none_fits
  gives_fit jop.Null cells locals s more h e = full_fits (Refs [])
  gives_fit (jop.Number z) cells locals s more h e = number_one _
  gives_fit (jop.Store r k) cells locals s more h e = none_fits
  gives_fit (jop.ArrayStore opcode) cells locals s more h e = none_fits
  gives_fit (jop.Arith opcode) cells locals s more h e = number_one _
  gives_fit (jop.Inc k by) cells locals s more h e = none_fits
  gives_fit (jop.Narrow opcode) cells locals s more h e = number_one _
  gives_fit (jop.If opcode target) cells locals s more h e = none_fits
  gives_fit (jop.Goto target) cells locals s more h e = none_fits
  gives_fit (jop.TableSwitch other low targets) cells locals s more h e = none_fits
  gives_fit (jop.LookupSwitch other cases) cells locals s more h e = none_fits
  gives_fit (jop.Return opcode) cells locals s more h e = none_fits
  gives_fit (jop.Static put field) cells locals s more h e = got_fits put _ _ (field_fits field)
  gives_fit (jop.Field put field) cells locals s more h e = got_fits put _ _ (result_fits (parts field.desc).result)
  gives_fit (jop.Call opcode method) cells locals s more h e = result_fits (parts method.desc).result
  gives_fit (jop.New class) cells locals s more h e = full_fits _
  gives_fit (jop.NewArray number) cells locals s more h e = full_fits _
  gives_fit (jop.ANewArray class) cells locals s more h e = full_fits _
  gives_fit jop.ArrayLength cells locals s more h e = number_one _
  gives_fit jop.Throw cells locals s more h e = none_fits
  gives_fit (jop.CheckCast class) cells locals s more h e = full_fits _
  gives_fit (jop.InstanceOf class) cells locals s more h e = number_one _

  behind_fits : (op : JOp) (cells locals : List Cell) (s more : List Span) → HasArray op cells → fits cells s ≡ true
      → fits (typed.stack_behind op locals cells) (stack_behind constant op cells more s) ≡ true
  behind_fits op cells locals s more h e =
      let given = gives_fit op cells locals s more h e in
      fits_append (typed.gives op locals cells) (drop (takes op) cells) (gives constant op cells more s)
      (drop (takes op) s) given.sized given.fit (fits_drop (takes op) cells s e)

  pub stack_fits : (op : JOp) (cells locals later : List Cell) (s : StackOf Span) (more : List Span) → HasArray op cells
      → typed.stack_after op locals (typed_stacks.Cells cells) ≡ typed_stacks.Cells later → fits_stack cells s ≡ true
      → fits_stack later (stack_after constant op cells more s) ≡ true
  stack_fits op cells locals later Clash more h is e = refl
  stack_fits op cells locals later (Cells s) more h is e =
      let same = whole_stack (typed.stack_behind op locals cells) later is in
      subst (λ (cs : List Cell). fits_stack cs (stack_of (stack_behind constant op cells more s)) ≡ true) same
      (cut_fits (typed.stack_behind op locals cells) (stack_behind constant op cells more s)
      (behind_fits op cells locals s more h e))

stored_fits : (r : Bool) (cells : List Cell) (s : StackOf Span) → fits_cell (typed.stored r (typed_stacks.Cells cells))
    (stored r s) ≡ true
stored_fits true cells s = or_full (is_number (as_reference (typed.operand cells 0)))
stored_fits false cells s = refl

pub locals_fit : (op : JOp) (cells locals : List Cell) (s : StackOf Span) (more : List Span)
    → length locals ≡ length more → fits locals more ≡ true
    → fits (typed.locals_after op locals (typed_stacks.Cells cells)) (locals_after op more s) ≡ true
locals_fit (jop.Store r k) cells locals s more same e = fits_set locals more k _ _ same e (stored_fits r cells s)
locals_fit (jop.Inc k by) cells locals s more same e = fits_set locals more k Number _ same e refl
locals_fit _ cells locals s more same e = e
