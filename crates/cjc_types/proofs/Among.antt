-- The cells of a least table have names of the method alone.
use Rattle.std.proofs.Common.{◌≡◌, ◌⊎◌, ◌≤◌, ◌==◌, ◌||◌, ℕ, zero, suc, Bool, true, false, cond, nat_le, List, [], ◌∷◌}
use Rattle.std.proofs.Common.{◌++◌, map, filter, filter_map, length, drop, take, replicate, slice_get, slice_set}
use Rattle.std.proofs.Common.{Option, Some, None, option_map, All, Contains, refl, sym, ◌∙◌, ap, subst, inl, inr, arith}
use Rattle.std.specs.List.{cons_option}
use Rattle.std.specs.Str.{bytes_eq}
use Rattle.std.proofs.lemmas.Bool.{leb-false}
use Rattle.std.proofs.lemmas.Option.{slice_get-map}
use Rattle.std.proofs.lemmas.Slice.Eq.{bytes_eq-Decides}
use Rattle.std.proofs.lemmas.List.{length-map}
use Rattle.std.proofs.lemmas.List.Elements.{All-nil, All-cons, All-head, All-tail, All-append, All-map, All-contains}
use Rattle.cjc_classfile.specs.declared.tree.Catch.{Catch}
use Rattle.cjc_code.specs.declared.insn.JInsn.{JInsn}
use Rattle.cjc_code.specs.declared.insn.JOp.{JOp}
use Rattle.cjc_code.specs.declared.insn.JOp.TheVariants as jop
use Rattle.cjc_fixpoint.specs.declared.flow.Edge.{Edge}
use Rattle.cjc_fixpoint.specs.Working.Edges.{contains_head, contains_tail}
use Rattle.cjc_fixpoint.specs.Tables.{HasRow, Covers, IsClosed}
use Rattle.cjc_types.specs.declared.cell.Cell.{Cell}
use Rattle.cjc_types.specs.declared.cell.Cell.TheVariants.{Number, Refs, Unusable}
use Rattle.cjc_types.specs.declared.state.Stack.{Stack}
use Rattle.cjc_types.specs.declared.state.Stack.TheVariants.{Cells, Clash}
use Rattle.cjc_types.specs.declared.state.State.{State}
use Rattle.cjc_types.specs.Names.{In, IsBefore, IsSet, IsWithin}
use Rattle.cjc_types.specs.Working.NameLaws.{insert_cases, length_within}
use Rattle.cjc_types.specs.Cells.{most_names, refs, IsNameSet, IsCell, IsCellBelow}
use Rattle.cjc_types.specs.States.{most_cells, IsStack, IsStackBelow, states}
use Rattle.cjc_types.specs.Types.{held, with_held, elements, element_of, as_reference}
use Rattle.cjc_types.specs.Steps.{operand, takes, gives, local_value, stack_behind, stack_after, stored, locals_after}
use Rattle.cjc_types.specs.Steps.{after, shuffled}
use Rattle.cjc_types.specs.Working.StepLaws.{AreBelow}
use Rattle.cjc_types.specs.Flow.{Body, arguments, entry, place_at, successors, edge, covers, caught_type, caught}
use Rattle.cjc_types.specs.Flow.{handler_edge, place_edges, type_flow}
use Rattle.cjc_types.specs.Working.FlowLaws.{type_laws}
use Rattle.cjc_types.specs.Tables.{IsLeastTable}
use Rattle.cjc_types.specs.Among.{IsAmong, AreAmong, IsStackAmong, IsStateAmong, HasNames}
use Rattle.cjc_bytes.proofs.Bools.{or_true}

-- ---- what an instruction gives

module _ (names : List (List ℕ)) where
  among_append : (xs ys : List Cell) → AreAmong names xs → AreAmong names ys → AreAmong names (xs ++ ys)
  among_append [] ys h k = k
  among_append (x ∷ xs) ys h k = (h.0, among_append xs ys h.1 k)

  among_drop : (n : ℕ) (xs : List Cell) → AreAmong names xs → AreAmong names (drop n xs)
  among_drop zero xs h = h
  among_drop (suc n) [] h = tt
  among_drop (suc n) (x ∷ xs) h = among_drop n xs h.1

  among_take : (n : ℕ) (xs : List Cell) → AreAmong names xs → AreAmong names (take n xs)
  among_take zero xs h = tt
  among_take (suc n) [] h = tt
  among_take (suc n) (x ∷ xs) h = (h.0, among_take n xs h.1)

  among_unusable : (n : ℕ) → AreAmong names (replicate n Unusable)
  among_unusable zero = tt
  among_unusable (suc n) = (tt, among_unusable n)

  among_set : (xs : List Cell) (k : ℕ) (x : Cell) → AreAmong names xs → IsAmong names x
      → AreAmong names (slice_set xs k x)
  among_set [] k x h own = tt
  among_set (y ∷ ys) zero x h own = (own, h.1)
  among_set (y ∷ ys) (suc k) x h own = (h.0, among_set ys k x h.1 own)

  among_operand : (xs : List Cell) (k : ℕ) → AreAmong names xs → IsAmong names (operand xs k)
  among_operand [] k h = tt
  among_operand (x ∷ xs) zero h = h.0
  among_operand (x ∷ xs) (suc k) h = among_operand xs k h.1

  among_shuffled : (ks : List ℕ) (s : List Cell) → AreAmong names s → AreAmong names (map (operand s) ks)
  among_shuffled [] s h = tt
  among_shuffled (k ∷ ks) s h = (among_operand s k h, among_shuffled ks s h)

  among_reference : (x : Cell) → IsAmong names x → IsAmong names (as_reference x)
  among_reference Number h = tt
  among_reference (Refs types) h = h
  among_reference Unusable h = tt

  among_local : (refs : Bool) (x : Cell) → IsAmong names x → IsAmong names (local_value refs x)
  among_local true x h = among_reference x h
  among_local false x h = tt

  among_refs : (types : List (List ℕ)) → IsWithin types names → IsAmong names (refs types)
  among_refs types h = go (nat_le (length types) most_names)
    where
      go : (b : Bool) → IsAmong names (cond b (Refs types) Unusable)
      go true = h
      go false = tt

  among_elements : ((n m : List ℕ) → In n names → held n ≡ Some m → In m names) → (xs more : List (List ℕ))
      → IsWithin xs names → IsWithin more names → IsWithin (elements xs more) names
  among_elements closed [] more h k = k
  among_elements closed (x ∷ xs) more h k = among_elements closed xs (with_held (held x) more) (λ n is. h n (inr is))
      (go (held x) refl)
    where
      go : (found : Option (List ℕ)) → held x ≡ found → IsWithin (with_held found more) names
      go None e n is = k n is
      go (Some name) e n is = elim (insert_cases name n more is) [
        | inl same ↦ subst (λ (m : List ℕ). In m names) same (closed x name (h x (inl refl)) e)
        | inr old ↦ k n old
      ]

  among_element : ((n m : List ℕ) → In n names → held n ≡ Some m → In m names) → (opcode : ℕ) (x : Cell)
      → IsAmong names x → IsAmong names (element_of opcode x)
  among_element closed opcode Number h = tt
  among_element closed opcode (Refs types) h = go (opcode == 0x32)
    where
      go : (b : Bool) → IsAmong names (cond b (refs (elements types [])) Number)
      go true = among_refs (elements types []) (among_elements closed types [] h (λ n is. absurd is))
      go false = tt
  among_element closed opcode Unusable h = tt

  among_gives : ((n m : List ℕ) → In n names → held n ≡ Some m → In m names) → (op : JOp) (locals s : List Cell)
      → AreAmong names (gives op [] []) → AreAmong names locals → AreAmong names s → AreAmong names (gives op locals s)
  among_gives closed (jop.Load refs k) locals s root l h =
      (among_local refs (operand locals k) (among_operand locals k l), tt)
  among_gives closed (jop.ArrayLoad opcode) locals s root l h =
      (among_element closed opcode (operand s 1) (among_operand s 1 h), tt)
  among_gives closed (jop.Stack opcode) locals s root l h = among_shuffled (shuffled opcode) s h
  among_gives closed _ locals s root l h = root

  among_stack : ((n m : List ℕ) → In n names → held n ≡ Some m → In m names)
      → (op : JOp) (locals : List Cell) (s : Stack) → AreAmong names (gives op [] []) → AreAmong names locals
      → IsStackAmong names s → IsStackAmong names (stack_after op locals s)
  among_stack closed op locals Clash root l h = tt
  among_stack closed op locals (Cells s) root l h = go (nat_le (length (stack_behind op locals s)) most_cells)
    where
      go : (b : Bool) → IsStackAmong names (cond b (Cells (stack_behind op locals s)) Clash)
      go true = among_append (gives op locals s) (drop (takes op) s) (among_gives closed op locals s root l h)
          (among_drop (takes op) s h)
      go false = tt

  among_stored : (refs : Bool) (s : Stack) → IsStackAmong names s → IsAmong names (stored refs s)
  among_stored refs Clash h = tt
  among_stored true (Cells s) h = among_reference (operand s 0) (among_operand s 0 h)
  among_stored false (Cells s) h = tt

  among_locals : (op : JOp) (locals : List Cell) (s : Stack) → AreAmong names locals → IsStackAmong names s
      → AreAmong names (locals_after op locals s)
  among_locals (jop.Store refs k) locals s l h = among_set locals k (stored refs s) l (among_stored refs s h)
  among_locals (jop.Inc k by) locals s l h = among_set locals k Number l tt
  among_locals _ locals s l h = l

-- ---- the names that are kept

has : List (List ℕ) → List ℕ → Bool
has [] n = false
has (x ∷ xs) n = bytes_eq x n || has xs n

has_in : (names : List (List ℕ)) (n : List ℕ) → has names n ≡ true → In n names
unfolding has
has_in [] n e = absurd cc
has_in (x ∷ xs) n e = go (bytes_eq x n) refl e (has_in xs n)
  where
    go : (b : Bool) → bytes_eq x n ≡ b → (b || has xs n) ≡ true → (has xs n ≡ true → In n xs) → (x ≡ n) ⊎ In n xs
    go true f e rest = inl ((bytes_eq-Decides x n).0 f)
    go false f e rest = inr (rest e)

in_has : (names : List (List ℕ)) (n : List ℕ) → In n names → has names n ≡ true
unfolding has
in_has [] n h = absurd h
in_has (x ∷ xs) n (inl same) = ap (λ b. b || has xs n) ((bytes_eq-Decides x n).1 same)
in_has (x ∷ xs) n (inr later) = ap (λ b. bytes_eq x n || b) (in_has xs n later) ∙ or_true (bytes_eq x n)

abbrev kept : List (List ℕ) → List (List ℕ) → List (List ℕ)
kept names types = filter (has names) types

kept_in : (names types : List (List ℕ)) (n : List ℕ) → In n (kept names types) → In n types × In n names
kept_in names [] n h = absurd h
kept_in names (x ∷ xs) n h = go (has names x) refl h (kept_in names xs n)
  where
    go : (b : Bool) → has names x ≡ b → In n (cond b (x ∷ kept names xs) (kept names xs)) → (In n (kept names xs)
        → In n xs × In n names) → ((x ≡ n) ⊎ In n xs) × In n names
    go true e (inl same) rest = (inl same, subst (λ (m : List ℕ). In m names) same (has_in names x e))
    go true e (inr later) rest = let m = rest later in (inr m.0, m.1)
    go false e later rest = let m = rest later in (inr m.0, m.1)

in_kept : (names types : List (List ℕ)) (n : List ℕ) → In n types → In n names → In n (kept names types)
in_kept names [] n h k = absurd h
in_kept names (x ∷ xs) n h k = go (has names x) refl h (λ later. in_kept names xs n later k)
  where
    go : (b : Bool) → has names x ≡ b → (x ≡ n) ⊎ In n xs → (In n xs → In n (kept names xs))
        → In n (cond b (x ∷ kept names xs) (kept names xs))
    go true e (inl same) rest = inl same
    go true e (inr later) rest = inr (rest later)
    go false e (inl same) rest = let found = in_has names x (subst (λ (m : List ℕ). In m names) (sym same) k)
        in absurd cc
    go false e (inr later) rest = rest later

before_kept : (names : List (List ℕ)) (n : List ℕ) (types : List (List ℕ)) → IsBefore n types
    → IsBefore n (kept names types)
before_kept names n [] h = tt
before_kept names n (x ∷ xs) h = go (has names x) (before_kept names n xs h.1)
  where
    go : (b : Bool) → IsBefore n (kept names xs) → IsBefore n (cond b (x ∷ kept names xs) (kept names xs))
    go true rest = (h.0, rest)
    go false rest = rest

set_kept : (names types : List (List ℕ)) → IsSet types → IsSet (kept names types)
set_kept names [] h = tt
set_kept names (x ∷ xs) h = go (has names x) (set_kept names xs h.1)
  where
    go : (b : Bool) → IsSet (kept names xs) → IsSet (cond b (x ∷ kept names xs) (kept names xs))
    go true rest = (before_kept names x xs h.0, rest)
    go false rest = rest

few_kept : (names types : List (List ℕ)) → length (kept names types) ≤ length types
few_kept names [] = omega arith
few_kept names (x ∷ xs) = go (has names x) (few_kept names xs)
  where
    go : (b : Bool) → length (kept names xs) ≤ length xs → length (cond b (x ∷ kept names xs) (kept names xs)) ≤ suc
        (length xs)
    go true rest = omega (arith, rest)
    go false rest = omega (arith, rest)

-- ---- states with these names alone

abbrev only : List (List ℕ) → Cell → Cell
only names Number = Number
only names (Refs types) = Refs (kept names types)
only names Unusable = Unusable

abbrev only_stack : List (List ℕ) → Stack → Stack
only_stack names (Cells s) = Cells (map (only names) s)
only_stack names Clash = Clash

abbrev only_state : List (List ℕ) → State → State
only_state names x = record { stack = only_stack names x.stack; locals = map (only names) x.locals }

own_only : (names : List (List ℕ)) (x : Cell) → IsCell x → IsCell (only names x)
own_only names Number h = tt
own_only names (Refs types) h = record {
  set = set_kept names types h.set;
  few = let a = few_kept names types
      in let b = h.few in omega (arith, a, b);
}
own_only names Unusable h = tt

own_onlys : (names : List (List ℕ)) (xs : List Cell) → All IsCell xs → All IsCell (map (only names) xs)
own_onlys names [] h = All-nil IsCell
own_onlys names (x ∷ xs) h = All-cons IsCell (only names x) (map (only names) xs)
    (own_only names x (All-head IsCell x xs h)) (own_onlys names xs (All-tail IsCell x xs h))

own_only_stack : (names : List (List ℕ)) (s : Stack) → IsStack s → IsStack (only_stack names s)
own_only_stack names (Cells s) h = record {
  few = let same = length-map s (only names) in let few = h.few
      in omega (arith, same, few);
  own = own_onlys names s h.own;
}
own_only_stack names Clash h = tt

own_only_state : (names : List (List ℕ)) (n : ℕ) (x : State) → (states n).Own x → (states n).Own (only_state names x)
own_only_state names n x h = (
  own_only_stack names x.stack h.0,
  record {
    sized = length-map x.locals (only names)
        ∙ h.1.sized;
    own = own_onlys names x.locals h.1.own;
  },
)

only_below : (names : List (List ℕ)) (x : Cell) → IsCellBelow (only names x) x
only_below names Number = tt
only_below names (Refs types) = λ n is. (kept_in names types n is).0
only_below names Unusable = tt

onlys_below : (names : List (List ℕ)) (xs : List Cell) → AreBelow (map (only names) xs) xs
onlys_below names [] = tt
onlys_below names (x ∷ xs) = (only_below names x, onlys_below names xs)

only_stack_below : (names : List (List ℕ)) (s : Stack) → IsStackBelow (only_stack names s) s
only_stack_below names (Cells s) = onlys_below names s
only_stack_below names Clash = tt

only_among : (names : List (List ℕ)) (x : Cell) → IsAmong names (only names x)
only_among names Number = tt
only_among names (Refs types) = λ n is. (kept_in names types n is).1
only_among names Unusable = tt

onlys_among : (names : List (List ℕ)) (xs : List Cell) → AreAmong names (map (only names) xs)
onlys_among names [] = tt
onlys_among names (x ∷ xs) = (only_among names x, onlys_among names xs)

only_stack_among : (names : List (List ℕ)) (s : Stack) → IsStackAmong names (only_stack names s)
only_stack_among names (Cells s) = onlys_among names s
only_stack_among names Clash = tt

-- what is below a state and has these names is below what is kept of it
below_only : (names : List (List ℕ)) (x y : Cell) → IsAmong names x → IsCellBelow x y → IsCellBelow x (only names y)
below_only names x Number h k = k
below_only names Number (Refs ys) h k = absurd k
below_only names (Refs xs) (Refs ys) h k = λ n is. in_kept names ys n (k n is) (h n is)
below_only names Unusable (Refs ys) h k = absurd k
below_only names x Unusable h k = tt

below_onlys : (names : List (List ℕ)) (xs ys : List Cell) → AreAmong names xs → AreBelow xs ys
    → AreBelow xs (map (only names) ys)
below_onlys names [] [] h k = tt
below_onlys names [] (y ∷ ys) h k = absurd k
below_onlys names (x ∷ xs) [] h k = absurd k
below_onlys names (x ∷ xs) (y ∷ ys) h k = (below_only names x y h.0 k.0, below_onlys names xs ys h.1 k.1)

below_only_stack : (names : List (List ℕ)) (s t : Stack) → IsStackAmong names s → IsStackBelow s t
    → IsStackBelow s (only_stack names t)
below_only_stack names s Clash h k = tt
below_only_stack names Clash (Cells t) h k = absurd k
below_only_stack names (Cells s) (Cells t) h k = below_onlys names s t h k

-- what is below what is kept of it has these names
among_own : (names : List (List ℕ)) (x : Cell) → IsCellBelow x (only names x) → IsAmong names x
among_own names Number h = tt
among_own names (Refs xs) h = λ n is. (kept_in names xs n (h n is)).1
among_own names Unusable h = tt

among_owns : (names : List (List ℕ)) (xs : List Cell) → AreBelow xs (map (only names) xs) → AreAmong names xs
among_owns names [] h = tt
among_owns names (x ∷ xs) h = (among_own names x h.0, among_owns names xs h.1)

among_own_stack : (names : List (List ℕ)) (s : Stack) → IsStackBelow s (only_stack names s) → IsStackAmong names s
among_own_stack names (Cells s) h = among_owns names s h
among_own_stack names Clash h = tt

-- ---- edges

abbrev EdgeAmong : List (List ℕ) → Edge State → Type 0
EdgeAmong names e = IsStateAmong names e.state

handlers_among : (names : List (List ℕ)) (insns : List JInsn) (offset : ℕ) (x : State) (catches : List Catch)
    → ((c : Catch) → Contains catches c → In (caught_type c.class) names) → IsStateAmong names x
    → All (EdgeAmong names) (filter_map (handler_edge insns offset x) catches)
handlers_among names insns offset x [] h own = All-nil (EdgeAmong names)
handlers_among names insns offset x (c ∷ cs) h own = go (covers c offset) (place_at insns c.target)
    (handlers_among names insns offset x cs (λ d is. h d (contains_tail c cs d is)) own)
  where
    one : IsWithin (caught_type c.class ∷ []) names
    one n (inl same) = subst (λ (m : List ℕ). In m names) same (h c (contains_head c cs))
    one n (inr later) = absurd later

    go : (is : Bool) (to : Option ℕ) → All (EdgeAmong names) (filter_map (handler_edge insns offset x) cs)
        → All (EdgeAmong names) (cons_option (cond is (option_map (edge (caught c x)) to) None)
        (filter_map (handler_edge insns offset x) cs))
    go false to rest = rest
    go true None rest = rest
    go true (Some to) rest = All-cons (EdgeAmong names) _ _ ((one, tt), own.1) rest

edges_among : (names : List (List ℕ)) (b : Body) → HasNames names b → (at : ℕ) (o : Option JInsn) → slice_get b.insns at
    ≡ o → (x : State) → IsStateAmong names x → All (EdgeAmong names) (place_edges b at o x)
edges_among names b h at None is x own = All-nil (EdgeAmong names)
edges_among names b h at (Some insn) is x own =
    All-append (EdgeAmong names) _ _
    (All-map (EdgeAmong names) (edge (after insn.op x)) (successors b.insns at insn.op) (λ k d lt. (
      among_stack names h.held insn.op x.locals x.stack (h.given at insn is) own.1 own.0,
      among_locals names insn.op x.locals x.stack own.1 own.0,
    )))
    (handlers_among names b.insns insn.at x b.catches h.caught own)

entry_among : (names : List (List ℕ)) (b : Body) → HasNames names b → IsStateAmong names (entry b)
entry_among names b h = (
  tt,
  among_take names b.max_locals _ (among_append names (arguments b) (replicate b.max_locals Unusable) h.arguments
      (among_unusable names b.max_locals)),
)

-- ---- the table with these names alone

abbrev only_row : List (List ℕ) → Option State → Option State
only_row names o = option_map (only_state names) o

row_only : (names : List (List ℕ)) (rows : List (Option State)) (k : ℕ) (x : State) → HasRow rows k x
    → HasRow (map (only_row names) rows) k (only_state names x)
row_only names rows k x h = slice_get-map (only_row names) rows k ∙ ap (option_map (only_row names)) h

only_of_row : (names : List (List ℕ)) (rows : List (Option State)) (k : ℕ) (y : State)
    → HasRow (map (only_row names) rows) k y → (x : State) × HasRow rows k x × (only_state names x ≡ y)
only_of_row names rows k y h = go (slice_get rows k) refl (sym (slice_get-map (only_row names) rows k) ∙ h)
  where
    go : (o : Option (Option State)) → slice_get rows k ≡ o → option_map (only_row names) o ≡ Some (Some y)
        → (x : State) × HasRow rows k x × (only_state names x ≡ y)
    go None e f = absurd cc
    go (Some None) e f = absurd cc
    go (Some (Some x)) e f = (x, e, let same : only_state names x ≡ y = cc in same)

covers_only : (names : List (List ℕ)) (b : Body) (rows : List (Option State)) (k : ℕ) (z : State) → IsStateAmong names z
    → Covers (type_flow b) rows k z → Covers (type_flow b) (map (only_row names) rows) k z
covers_only names b rows k z own c = record {
  row = only_state names c.row;
  is_row = row_only names rows k c.row c.is_row;
  above = (
    below_only_stack names z.stack c.row.stack own.0 c.above.0,
    below_onlys names z.locals c.row.locals own.1
        c.above.1,
  );
}

only_closed : (names : List (List ℕ)) (b : Body) (rows : List (Option State)) → HasNames names b
    → IsClosed (type_flow b) (length b.insns) rows → IsClosed (type_flow b) (length b.insns) (map (only_row names) rows)
only_closed names b rows h closed = record {
  sized = length-map rows (only_row names) ∙ closed.sized;
  own = own;
  entry = λ some. covers_only names b rows 0 (entry b) (entry_among names b h) (closed.entry some);
  steps = steps;
}
  where
    own : (k : ℕ) (y : State) → HasRow (map (only_row names) rows) k y → (type_flow b).Own y
    own k y is =
        let m = only_of_row names rows k y is in
        subst (type_flow b).Own m.2 (own_only_state names b.max_locals m.0 (closed.own k m.0 m.1))

    from : (k : ℕ) (x : State) → HasRow rows k x → (e : Edge State)
        → Contains ((type_flow b).edges k (only_state names x)) e → Covers (type_flow b) (map (only_row names) rows)
        e.to e.state
    from k x row e is =
        let laws = type_laws b in
        let own_x = closed.own k x row in
        let own_only_x = own_only_state names b.max_locals x own_x in
        let up = laws.monotone k (only_state names x) x own_only_x own_x (
          only_stack_below names x.stack,
          onlys_below names x.locals,
        ) e is in
        let c = closed.steps k x row up.0 up.1 in
        let own_e = laws.own_edges k (only_state names x) own_only_x e is in
        let own_f = laws.own_edges k x own_x up.0 up.1 in
        let above : (type_flow b).Below e.state c.row = laws.transitive e.state up.0.state c.row own_e own_f
        (closed.own up.0.to c.row c.is_row) up.3 c.above in
        let among = All-contains (EdgeAmong names) _ e (edges_among names b h k (slice_get b.insns k) refl
        (only_state names x) (only_stack_among names x.stack, onlys_among names x.locals)) is in
        covers_only names b rows e.to e.state among (subst (λ (n : ℕ). Covers (type_flow b) rows n e.state) up.2
        (record { row = c.row; is_row = c.is_row; above = above }))

    steps : (k : ℕ) (y : State) → HasRow (map (only_row names) rows) k y → (e : Edge State)
        → Contains ((type_flow b).edges k y) e → Covers (type_flow b) (map (only_row names) rows) e.to e.state
    steps k y is =
        let m = only_of_row names rows k y is in
        subst (λ (z : State). (e : Edge State) → Contains ((type_flow b).edges k z) e
        → Covers (type_flow b) (map (only_row names) rows) e.to e.state) m.2 (from k m.0 m.1)

pub least_among : (names : List (List ℕ)) (b : Body) (rows : List (Option State)) → HasNames names b
    → IsLeastTable b rows → (k : ℕ) (x : State) → HasRow rows k x → IsStateAmong names x
least_among names b rows h is k x row =
    let up = is.least (map (only_row names) rows) (only_closed names b rows h is.closed) k x row in
    let same : up.row ≡ only_state names x = let e = up.is_row in let f = row_only names rows k x row in cc in
    let below = subst (λ (z : State). (type_flow b).Below x z) same up.above in
    (among_own_stack names x.stack below.0, among_owns names x.locals below.1)

-- a set of these names is not cut off, where they are few
pub refs_whole : (names types : List (List ℕ)) → IsNameSet names → IsSet types → IsWithin types names
    → refs types ≡ Refs types
refs_whole names types own set h = go (nat_le (length types) most_names) refl
  where
    go : (b : Bool) → nat_le (length types) most_names ≡ b → cond b (Refs types) Unusable ≡ Refs types
    go true e = refl
    go false e =
        let le = length_within types names set own.set h in
        let few = own.few in
        let many = leb-false (length types) most_names e in
        absurd (omega (arith, le, few, many))
