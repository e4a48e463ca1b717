-- No stack of a least table is as high as the limit: a height is reached from one that is little lower, and there are
-- no
-- more heights than instructions.
use Rattle.std.proofs.Common.{◌≡◌, ◌≢◌, ◌⊎◌, ◌≤◌, ◌<◌, ◌+◌, ◌-◌, ◌*◌, ◌/◌, ◌==◌, ℕ, zero, suc, Bool, true, false, cond}
use Rattle.std.proofs.Common.{nat_lt, nat_le, List, [], ◌∷◌, map, filter_map, length, drop, slice_get, Option, Some}
use Rattle.std.proofs.Common.{None, option_map, All, refl, sym, ◌∙◌, ap, subst, inl, inr, arith}
use Rattle.std.specs.List.{cons_option}
use Rattle.std.proofs.lemmas.Bool.{ltb-true, ltb-false, leb-false, eqb-true, eqb-false}
use Rattle.std.proofs.lemmas.Option.{slice_get-map, slice_get_within}
use Rattle.std.proofs.lemmas.List.{length-append, length-drop, length-map}
use Rattle.std.proofs.lemmas.List.Elements.{All-nil, All-cons, All-append, All-map, All-contains, length_all_zip}
use Rattle.cjc_bytes.specs.Descriptor.{Part}
use Rattle.cjc_classfile.specs.declared.tree.Catch.{Catch}
use Rattle.cjc_code.specs.declared.insn.JInsn.{JInsn}
use Rattle.cjc_code.specs.declared.insn.JOp.{JOp}
use Rattle.cjc_code.specs.declared.insn.JOp.TheVariants as jop
use Rattle.cjc_fixpoint.specs.declared.flow.Edge.{Edge}
use Rattle.cjc_fixpoint.specs.Tables.{HasRow, Covers, IsClosed}
use Rattle.cjc_types.specs.declared.cell.Cell.{Cell}
use Rattle.cjc_types.specs.declared.state.Stack.{Stack}
use Rattle.cjc_types.specs.declared.state.Stack.TheVariants.{Cells, Clash}
use Rattle.cjc_types.specs.declared.state.State.{State}
use Rattle.cjc_types.specs.Cells.{IsCellBelow}
use Rattle.cjc_types.specs.States.{most_cells, IsStackBelow}
use Rattle.cjc_types.specs.Types.{parts, is_void, value_of, result_of}
use Rattle.cjc_types.specs.Steps.{operand, takes, gives, stack_behind, stack_after, after, shuffled}
use Rattle.cjc_types.specs.Flow.{Body, entry, place_at, successors, edge, covers, caught, handler_edge, place_edges}
use Rattle.cjc_types.specs.Flow.{type_flow}
use Rattle.cjc_types.specs.Tables.{IsLeastTable}

-- ---- so many values need so many places

strictly : (n k j : ℕ) (f : ℕ → ℕ) → k < suc n → f k ≡ j → f n ≢ j → k < n
strictly n k j f lt is other = go (nat_lt k n) refl
  where
    go : (b : Bool) → nat_lt k n ≡ b → k < n
    go true e = ltb-true k n e
    go false e = let le = ltb-false k n e in let same : k ≡ n = omega (arith, le, lt)
        in absurd (other (sym (ap f same) ∙ is))

abbrev pub HasValues : ℕ → ℕ → (ℕ → ℕ) → Type 0
HasValues places values f = (j : ℕ) → j < values → (k : ℕ) × (k < places) × (f k ≡ j)

-- values above v moved down by one
abbrev closed_up : ℕ → (ℕ → ℕ) → ℕ → ℕ
closed_up v f k = cond (nat_lt v (f k)) (f k - 1) (f k)

closed_low : (v j k : ℕ) (f : ℕ → ℕ) → f k ≡ j → j < v → closed_up v f k ≡ j
closed_low v j k f is less = go (nat_lt v (f k)) refl
  where
    go : (b : Bool) → nat_lt v (f k) ≡ b → cond b (f k - 1) (f k) ≡ j
    go true e = let more = ltb-true v (f k) e in absurd (omega (arith, more, is, less))
    go false e = is

closed_high : (v j k : ℕ) (f : ℕ → ℕ) → f k ≡ suc j → v ≤ j → closed_up v f k ≡ j
closed_high v j k f is le = go (nat_lt v (f k)) refl
  where
    go : (b : Bool) → nat_lt v (f k) ≡ b → cond b (f k - 1) (f k) ≡ j
    go true e = omega (arith, is)
    go false e = let less = ltb-false v (f k) e in absurd (omega (arith, less, is, le))

-- without the last place and its value
without_last : (n m : ℕ) (f : ℕ → ℕ) → HasValues (suc n) m f → HasValues n (m - 1) (closed_up (f n) f)
without_last n m f h j lt = go (nat_lt j (f n)) refl
  where
    go : (b : Bool) → nat_lt j (f n) ≡ b → (k : ℕ) × (k < n) × (closed_up (f n) f k ≡ j)
    go true e =
        let less = ltb-true j (f n) e in
        let w = h j (omega (arith, lt)) in
        let is = w.2 in
        (w.0, strictly n w.0 j f w.1 is (λ same. omega (arith, less, same)), closed_low (f n) j w.0 f is less)
    go false e =
        let le = ltb-false j (f n) e in
        let w = h (suc j) (omega (arith, lt)) in
        let is = w.2 in
        (w.0, strictly n w.0 (suc j) f w.1 is (λ same. omega (arith, le, same)), closed_high (f n) j w.0 f is le)

pub many_places : (places values : ℕ) (f : ℕ → ℕ) → HasValues places values f → values ≤ places
many_places zero zero f h = omega arith
many_places zero (suc m) f h = let k = h 0 (omega arith) in let lt = k.1 in absurd (omega (arith, lt))
many_places (suc n) m f h = go (nat_lt (f n) m) refl (many_places n)
  where
    go : (b : Bool) → nat_lt (f n) m ≡ b → ((values : ℕ) (g : ℕ → ℕ) → HasValues n values g → values ≤ n) → m ≤ suc n
    go false e rest =
        let le = ltb-false (f n) m e in
        let most = rest m f (λ j lt. let w = h j lt in let is = w.2
        in (w.0, strictly n w.0 j f w.1 is (λ same. omega (arith, le, lt, same)), is)) in
        omega (arith, most)
    go true e rest =
        let small = ltb-true (f n) m e in
        let most = rest (m - 1) (closed_up (f n) f) (without_last n m f h) in
        omega (arith, most, small)

-- a value that some place has, or none
pub sought : (n j : ℕ) (f : ℕ → ℕ) → ((k : ℕ) × (k < n) × (f k ≡ j)) ⊎ ((k : ℕ) → k < n → f k ≢ j)
sought zero j f = inr (λ k lt is. omega (arith, lt))
sought (suc n) j f = go (f n == j) refl (sought n j f)
  where
    none : f n ≢ j → ((k : ℕ) → k < n → f k ≢ j) → (k : ℕ) → k < suc n → f k ≢ j
    none last h k lt is = h k (strictly n k j f lt is last) is

    go : (b : Bool) → (f n == j) ≡ b → ((k : ℕ) × (k < n) × (f k ≡ j)) ⊎ ((k : ℕ) → k < n → f k ≢ j)
        → ((k : ℕ) × (k < suc n) × (f k ≡ j)) ⊎ ((k : ℕ) → k < suc n → f k ≢ j)
    go true e rest = inl (n, omega arith, eqb-true (f n) j e)
    go false e (inl found) = let lt = found.1 in inl (found.0, omega (arith, lt), found.2)
    go false e (inr none_below) = inr (none (eqb-false (f n) j e) none_below)

-- ---- how much an instruction adds

IsShort : List ℕ → Type 0
IsShort xs = length xs ≤ 6

short : (b : Bool) (xs ys : List ℕ) → IsShort xs → IsShort ys → IsShort (cond b xs ys)
short true xs ys h k = h
short false xs ys h k = k

shuffled_few : (opcode : ℕ) → IsShort (shuffled opcode)
unfolding IsShort
shuffled_few opcode =
    short (opcode == 0x59) (0 ∷ 0 ∷ []) _ (omega arith)
    (short (opcode == 0x5A) (0 ∷ 1 ∷ 0 ∷ []) _ (omega arith)
    (short (opcode == 0x5B) (0 ∷ 1 ∷ 2 ∷ 0 ∷ []) _ (omega arith)
    (short (opcode == 0x5C) (0 ∷ 1 ∷ 0 ∷ 1 ∷ []) _ (omega arith)
    (short (opcode == 0x5D) (0 ∷ 1 ∷ 2 ∷ 0 ∷ 1 ∷ []) _ (omega arith)
    (short (opcode == 0x5E) (0 ∷ 1 ∷ 2 ∷ 3 ∷ 0 ∷ 1 ∷ []) _ (omega arith)
    (short (opcode == 0x5F) (1 ∷ 0 ∷ []) [] (omega arith) (omega arith)))))))

result_few : (p : Part) → length (result_of p) ≤ 6
result_few p = go (is_void p.kind)
  where
    go : (b : Bool) → length (cond b [] (value_of p ∷ [])) ≤ 6
    go true = omega arith
    go false = omega arith

got_few : (put : Bool) (p : Part) → length (cond put [] (result_of p)) ≤ 6
got_few true p = omega arith
got_few false p = result_few p

gives_few : (op : JOp) (locals s : List Cell) → length (gives op locals s) ≤ 6
unfolding IsShort
gives_few (jop.Stack opcode) locals s = let few : length (shuffled opcode) ≤ 6 = shuffled_few opcode in let same =
    length-map (shuffled opcode) (operand s) in omega (arith, few, same)
gives_few (jop.Static put field) locals s = got_few put (parts field.desc).result
gives_few (jop.Field put field) locals s = got_few put (parts field.desc).result
gives_few (jop.Call opcode method) locals s = result_few (parts method.desc).result
gives_few _ locals s = omega arith

pub behind_few : (op : JOp) (locals s : List Cell) → length (stack_behind op locals s) ≤ length s + 6
behind_few op locals s =
    let few = gives_few op locals s in
    let both = length-append (gives op locals s) (drop (takes op) s) in
    let rest = length-drop (takes op) s in
    omega (arith, few, both, rest)

-- ---- states below a height

abbrev pub IsUnder : ℕ → Stack → Type 0
IsUnder n (Cells s) = length s < n
IsUnder n Clash = Unit {0}

after_under : (op : JOp) (locals : List Cell) (n : ℕ) (s : Stack) → IsUnder n s
    → IsUnder (n + 6) (stack_after op locals s)
after_under op locals n Clash h = tt
after_under op locals n (Cells s) h = go (nat_le (length (stack_behind op locals s)) most_cells)
  where
    go : (b : Bool) → IsUnder (n + 6) (cond b (Cells (stack_behind op locals s)) Clash)
    go true = let few = behind_few op locals s in omega (arith, few, h)
    go false = tt

handlers_under : (insns : List JInsn) (offset n : ℕ) (x : State) (catches : List Catch)
    → All (λ (e : Edge State). IsUnder (n + 6) e.state.stack) (filter_map (handler_edge insns offset x) catches)
handlers_under insns offset n x [] = All-nil (λ (e : Edge State). IsUnder (n + 6) e.state.stack)
handlers_under insns offset n x (c ∷ cs) = go (covers c offset) (place_at insns c.target) (handlers_under insns offset n
    x cs)
  where
    go : (is : Bool) (to : Option ℕ) → All (λ (e : Edge State). IsUnder (n + 6) e.state.stack)
        (filter_map (handler_edge insns offset x) cs)
        → All (λ (e : Edge State). IsUnder (n + 6) e.state.stack)
        (cons_option (cond is (option_map (edge (caught c x)) to) None) (filter_map (handler_edge insns offset x)
        cs))
    go false to rest = rest
    go true None rest = rest
    go true (Some to) rest = All-cons (λ (e : Edge State). IsUnder (n + 6) e.state.stack) _ _ (omega arith) rest

edges_under : (b : Body) (at n : ℕ) (insn : Option JInsn) (x : State) → IsUnder n x.stack
    → All (λ (e : Edge State). IsUnder (n + 6) e.state.stack) (place_edges b at insn x)
edges_under b at n None x h = All-nil (λ (e : Edge State). IsUnder (n + 6) e.state.stack)
edges_under b at n (Some insn) x h =
    All-append (λ (e : Edge State). IsUnder (n + 6) e.state.stack) _ _
    (All-map (λ (e : Edge State). IsUnder (n + 6) e.state.stack) (edge (after insn.op x)) (successors b.insns at
    insn.op) (λ k d lt. after_under insn.op x.locals n x.stack h))
    (handlers_under b.insns insn.at n x b.catches)

under_above : (n : ℕ) (s t : Stack) → IsStackBelow s t → IsUnder n s → IsUnder n t
under_above n s Clash h k = tt
under_above n Clash (Cells t) h k = absurd h
under_above n (Cells s) (Cells t) h k = let same = length_all_zip IsCellBelow s t h in omega (arith, same, k)

-- ---- the rows below a height alone

abbrev pub kept : ℕ → State → Stack → Option State
kept n x (Cells s) = cond (nat_lt (length s) n) (Some x) None
kept n x Clash = Some x

abbrev pub lower : ℕ → Option State → Option State
lower n None = None
lower n (Some x) = kept n x x.stack

kept_under : (n : ℕ) (x y : State) (s : Stack) → kept n x s ≡ Some y → (x ≡ y) × IsUnder n s
kept_under n x y Clash e = (let same : x ≡ y = cc in same, tt)
kept_under n x y (Cells s) e = go (nat_lt (length s) n) refl e
  where
    go : (b : Bool) → nat_lt (length s) n ≡ b → cond b (Some x) None ≡ Some y → (x ≡ y) × (length s < n)
    go true f e = (let same : x ≡ y = cc in same, ltb-true (length s) n f)
    go false f e = absurd cc

under_kept : (n : ℕ) (x : State) (s : Stack) → IsUnder n s → kept n x s ≡ Some x
under_kept n x Clash h = refl
under_kept n x (Cells s) h = go (nat_lt (length s) n) refl
  where
    go : (b : Bool) → nat_lt (length s) n ≡ b → cond b (Some x) None ≡ Some x
    go true f = refl
    go false f = let le = ltb-false (length s) n f in absurd (omega (arith, le, h))

pub lower_row : (n : ℕ) (rows : List (Option State)) (k : ℕ) (y : State) → HasRow (map (lower n) rows) k y
    → HasRow rows k y × IsUnder n y.stack
lower_row n rows k y h = go (slice_get rows k) refl (sym (slice_get-map (lower n) rows k) ∙ h)
  where
    go : (o : Option (Option State)) → slice_get rows k ≡ o → option_map (lower n) o ≡ Some (Some y) → HasRow rows k y
        × IsUnder n y.stack
    go None e f = absurd cc
    go (Some None) e f = absurd cc
    go (Some (Some x)) e f =
        let is : kept n x x.stack ≡ Some y = cc in
        let m = kept_under n x y x.stack is in
        (e ∙ ap (λ (z : State). Some (Some z)) m.0, subst (λ (z : State). IsUnder n z.stack) m.0 m.1)

row_lower : (n : ℕ) (rows : List (Option State)) (k : ℕ) (y : State) → HasRow rows k y → IsUnder n y.stack
    → HasRow (map (lower n) rows) k y
row_lower n rows k y e h = slice_get-map (lower n) rows k ∙ ap (option_map (lower n)) e
    ∙ ap Some (under_kept n y y.stack h)

-- no row has a height in the block of six below n + 6
abbrev pub HasGap : ℕ → List (Option State) → Type 0
HasGap n rows = (k : ℕ) (x : State) → HasRow rows k x → IsUnder (n + 6) x.stack → IsUnder n x.stack

pub covers_lower : (b : Body) (n : ℕ) (rows : List (Option State)) (k : ℕ) (x : State) → IsUnder n x.stack
    → Covers (type_flow b) rows k x → Covers (type_flow b) (map (lower n) rows) k x
covers_lower b n rows k x h c = record {
  row = c.row;
  is_row = row_lower n rows k c.row c.is_row (under_above n x.stack
      c.row.stack c.above.0 h);
  above = c.above;
}

lower_closed : (b : Body) (n : ℕ) (rows : List (Option State)) → HasGap n rows
    → IsClosed (type_flow b) (length b.insns) rows → IsClosed (type_flow b) (length b.insns) (map (lower (n + 6)) rows)
lower_closed b n rows gap closed = record {
  sized = length-map rows (lower (n + 6)) ∙ closed.sized;
  own = λ k x h. closed.own k x (lower_row (n + 6) rows k x h).0;
  entry = λ some. covers_lower b (n + 6) rows 0 (entry b) (omega arith) (closed.entry some);
  steps = λ k x h e is.
      let m = lower_row (n + 6) rows k x h in
      covers_lower b (n + 6) rows e.to e.state (All-contains (λ (e : Edge State). IsUnder (n + 6) e.state.stack) _ e
      (edges_under b k n (slice_get b.insns k) x (gap k x m.0 m.1)) is) (closed.steps k x m.0 e is);
}

-- above a gap there is no row
none_above : (b : Body) (n : ℕ) (rows : List (Option State)) → IsLeastTable b rows → HasGap n rows → (k : ℕ) (x : State)
    → HasRow rows k x → IsUnder (n + 6) x.stack
none_above b n rows is gap k x h =
    let up = is.least (map (lower (n + 6)) rows) (lower_closed b n rows gap is.closed) k x h in
    let m = lower_row (n + 6) rows k up.row up.is_row in
    let same : x ≡ up.row = let f = m.0 in cc in
    subst (λ (z : State). IsUnder (n + 6) z.stack) (sym same) m.1

-- ---- heights

abbrev pub height : Stack → ℕ
height (Cells s) = length s
height Clash = 0

abbrev pub height_of : Option (Option State) → ℕ
height_of None = 0
height_of (Some None) = 0
height_of (Some (Some x)) = height x.stack

abbrev pub block : List (Option State) → ℕ → ℕ
block rows k = height_of (slice_get rows k) / 6

pub under_of : (n : ℕ) (s : Stack) → height s < n → IsUnder n s
under_of n (Cells s) h = h
under_of n Clash h = tt

pub height_under : (n : ℕ) (s : Stack) → 0 < n → IsUnder n s → height s < n
height_under n (Cells s) some h = h
height_under n Clash some h = some

-- each block of heights up to that of a row has a row
each_block : (b : Body) (rows : List (Option State)) → IsLeastTable b rows → (k : ℕ) (x : State) → HasRow rows k x
    → HasValues (length rows) (height x.stack / 6 + 1) (block rows)
each_block b rows is k x h j lt = go (sought (length rows) j (block rows))
  where
    own_block : block rows k ≡ height x.stack / 6
    own_block = ap (λ o. height_of o / 6) h

    gap : ((i : ℕ) → i < length rows → block rows i ≢ j) → HasGap (6 * j) rows
    gap none i y f under =
        let other = none i (slice_get_within rows i (Some y) f) in
        let at : block rows i ≡ height y.stack / 6 = ap (λ o. height_of o / 6) f in
        let low = height_under (6 * j + 6) y.stack (omega arith) under in
        let apart : height y.stack / 6 ≢ j = λ e. other (at ∙ e) in
        under_of (6 * j) y.stack (omega (arith, low, apart))

    go : ((i : ℕ) × (i < length rows) × (block rows i ≡ j)) ⊎ ((i : ℕ) → i < length rows → block rows i ≢ j) → (i : ℕ)
        × (i < length rows) × (block rows i ≡ j)
    go (inl found) = found
    go (inr none) =
        let low = height_under (6 * j + 6) x.stack (omega arith) (none_above b (6 * j) rows is (gap none) k x h) in
        let same : height x.stack / 6 ≡ j = omega (arith, low, lt) in
        absurd (none k (slice_get_within rows k (Some x) h) (own_block ∙ same))

height_few : (b : Body) (rows : List (Option State)) → IsLeastTable b rows → (k : ℕ) (x : State) → HasRow rows k x
    → height x.stack < 6 * length b.insns
height_few b rows is k x h =
    let most = many_places (length rows) (height x.stack / 6 + 1) (block rows) (each_block b rows is k x h) in
    let sized = is.closed.sized in
    omega (arith, most, sized)

-- the limit of stacks is never met
pub not_cut : (b : Body) (rows : List (Option State)) → IsLeastTable b rows → length b.insns ≤ 65535
    → (k : ℕ) (x : State) (s : List Cell) (op : JOp) → HasRow rows k x → x.stack ≡ Cells s
    → stack_after op x.locals x.stack ≡ Cells (stack_behind op x.locals s)
unfolding most_cells
not_cut b rows is few k x s op h e = ap (stack_after op x.locals) e
    ∙ go (nat_le (length (stack_behind op x.locals s)) most_cells) refl
  where
    go : (b' : Bool) → nat_le (length (stack_behind op x.locals s)) most_cells ≡ b'
        → cond b' (Cells (stack_behind op x.locals s)) Clash ≡ Cells (stack_behind op x.locals s)
    go true f = refl
    go false f =
        let low = height_few b rows is k x h in
        let same : height x.stack ≡ length s = ap height e in
        let more = behind_few op x.locals s in
        let cut = leb-false (length (stack_behind op x.locals s)) most_cells f in
        absurd (omega (arith, low, same, more, cut, few))
