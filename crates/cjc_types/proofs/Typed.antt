-- A table without a broken rule has what each instruction takes.
use Rattle.std.proofs.Common.{◌≡◌, ◌||◌, ◌&&◌, not, ◌≤◌, ◌<◌, ◌+◌, ℕ, zero, suc, Bool, true, false, cond, nat_lt, List}
use Rattle.std.proofs.Common.{[], ◌∷◌, map, filter_map, length, Option, Some, None, option_map, Contains, refl, sym}
use Rattle.std.proofs.Common.{◌∙◌, ap, subst, inl, inr, add-zero, arith}
use Rattle.std.proofs.lemmas.Bool.{ltb-false, or_parts, false_from_ne_true}
use Rattle.std.proofs.lemmas.List.Elements.{Contains-append_left, Contains-append_right}
use Rattle.std.specs.List.{cons_option}
use Rattle.cjc_classfile.specs.declared.tree.Catch.{Catch}
use Rattle.cjc_code.specs.declared.insn.JInsn.{JInsn}
use Rattle.cjc_code.specs.declared.insn.JOp.{JOp}
use Rattle.cjc_fixpoint.specs.declared.flow.Edge.{Edge}
use Rattle.cjc_fixpoint.specs.Working.Edges.{contains_head, contains_tail, contains_cons}
use Rattle.cjc_world.specs.Classes.{Class}
use Rattle.cjc_types.specs.declared.cell.Cell.{Cell}
use Rattle.cjc_types.specs.declared.state.State.{State}
use Rattle.cjc_types.specs.declared.table.TypeTable.{TypeTable}
use Rattle.cjc_types.specs.Steps.{operand, takes, stack_behind, after}
use Rattle.cjc_types.specs.Flow.{Body, place_at, successors, edge, covers, caught, handler_edge, insn_edges}
use Rattle.cjc_types.specs.Flow.{place_edges, type_flow}
use Rattle.cjc_types.specs.Rules.{accepts, has_wrong, has_wrong_local, is_wrong_return, is_wrong, is_off, wrong, off}
use Rattle.cjc_types.specs.Tables.{state_of, rows_of, IsTypeTable}
use Rattle.cjc_types.specs.Search.{frame_of}
use Rattle.cjc_types.specs.Typed.{AreFrames, AreTyped, Leads}
use Rattle.cjc_types.proofs.Answering.{framed_rows}

-- ---- tests

-- the operands from the k-th on that are counted are accepted
accepted_from : (w : List Class) (b : Body) (op : JOp) (count k : ℕ) (s : List Cell) → has_wrong w b op count k s
    ≡ false → (i : ℕ) → k + i < count → i < length s → accepts w b op (k + i) (operand s i) ≡ true
accepted_from w b op count k [] e i lt inside = absurd (omega arith)
accepted_from w b op count k (x ∷ xs) e zero lt inside = go (nat_lt k count) (accepts w b op k x) refl refl
    (or_parts _ _ e).0
  where
    go : (counted fits : Bool) → nat_lt k count ≡ counted → accepts w b op k x ≡ fits → (counted && not fits) ≡ false
        → accepts w b op (k + 0) x ≡ true
    go false fits c f h = let le = ltb-false k count c in absurd (omega (arith, le, lt))
    go true false c f h = absurd cc
    go true true c f h = subst (λ (n : ℕ). accepts w b op n x ≡ true) (sym (add-zero k)) f
accepted_from w b op count k (x ∷ xs) e (suc i) lt inside =
    subst (λ (n : ℕ). accepts w b op n (operand xs i) ≡ true) (omega arith) (accepted_from w b op count (k + 1) xs
    (or_parts _ _ e).1 i (omega arith) (omega arith))

accepted : (w : List Class) (b : Body) (op : JOp) (count : ℕ) (s : List Cell) → has_wrong w b op count 0 s ≡ false
    → count ≤ length s → (k : ℕ) → k < count → accepts w b op k (operand s k) ≡ true
accepted w b op count s e le k lt = subst (λ (n : ℕ). accepts w b op n (operand s k) ≡ true) (omega arith)
    (accepted_from w b op count 0 s e k (omega arith) (omega arith))

-- ---- lists

pub contains_mapped : {A B : Type 0} (f : A → B) (xs : List A) (x : A) → Contains xs x → Contains (map f xs) (f x)
contains_mapped f [] x (k, lt, e) = absurd (omega arith)
contains_mapped {A} {B} f (y ∷ ys) x is = elim (contains_cons y ys x is) [
  | inl same ↦ subst (λ (z : A). Contains (f y ∷ map f ys) (f z)) same (contains_head (f y) (map f ys))
  | inr later ↦ contains_tail (f y) (map f ys) (f x) (contains_mapped f ys x later)
]

pub contains_kept : {A B : Type 0} (h : A → Option B) (xs : List A) (x : A) (y : B) → Contains xs x → h x ≡ Some y
    → Contains (filter_map h xs) y
contains_kept h [] x y (k, lt, e) is = absurd (omega arith)
contains_kept {A} {B} h (z ∷ zs) x y has is = elim (contains_cons z zs x has) [
  | inl same ↦ subst (λ (o : Option B). Contains (cons_option o (filter_map h zs)) y) (sym (ap h same ∙ is))
      (contains_head y (filter_map h zs))
  | inr later ↦ kept (h z) (contains_kept h zs x y later is)
]
  where
    kept : (o : Option B) → Contains (filter_map h zs) y → Contains (cons_option o (filter_map h zs)) y
    kept None rest = rest
    kept (Some w) rest = contains_tail w (filter_map h zs) y rest

-- ---- each instruction

pub are_typed : (w : List Class) (b : Body) (table : TypeTable) → IsTypeTable w b table → AreTyped w b table
are_typed w b table h place insn frame is_insn row = record {
  locals = own.1;
  there = there;
  operands = accepted w b insn.op (takes insn.op) frame.stack right.0 there;
  local = wrongs.0;
  result = wrongs.1;
  room = ltb-false b.max_stack (length frame.stack) offs.0;
  room_behind = ltb-false b.max_stack (length (stack_behind insn.op frame.locals frame.stack)) offs.1;
  next = λ to is. steps (edge (after insn.op (state_of frame)) to) (Contains-append_left _ _ _
      (contains_mapped (edge (after insn.op (state_of frame))) (successors b.insns place insn.op) to is));
  handled = λ c is covered to found. steps (edge (caught c (state_of frame)) to) (Contains-append_right _ _ _
      (contains_kept (handler_edge b.insns insn.at (state_of frame)) b.catches c (edge (caught c (state_of frame)) to)
      is (handler c to covered found)));
}
  where
    own : (type_flow b).Own (state_of frame)
    own = h.stands.least.closed.own place (state_of frame) row

    not_wrong : is_wrong w b insn.op frame.locals frame.stack ≡ false
    not_wrong = false_from_ne_true (is_wrong w b insn.op frame.locals frame.stack) (λ e. h.unbroken place 502 (record {
      insn = insn;
      is_insn = is_insn;
      state = state_of frame;
      reached = row;
      breaks = wrong frame.stack frame.locals e;
    }))

    not_off : is_off b insn.op frame.locals frame.stack ≡ false
    not_off = false_from_ne_true (is_off b insn.op frame.locals frame.stack) (λ e. h.unbroken place 503 (record {
      insn = insn;
      is_insn = is_insn;
      state = state_of frame;
      reached = row;
      breaks = off frame.stack frame.locals e;
    }))

    pair : (a b c : Bool) → (a || b || c) ≡ false → (a ≡ false) × ((b ≡ false) × (c ≡ false))
    pair true b c e = absurd cc
    pair false true c e = absurd cc
    pair false false c e = (refl, (refl, e))

    right : (has_wrong w b insn.op (takes insn.op) 0 frame.stack ≡ false)
        × ((has_wrong_local insn.op frame.locals ≡ false) × (is_wrong_return b insn.op ≡ false))
    right = pair _ _ _ not_wrong

    wrongs : (has_wrong_local insn.op frame.locals ≡ false) × (is_wrong_return b insn.op ≡ false)
    wrongs = right.1

    heights : (nat_lt (length frame.stack) (takes insn.op) ≡ false) × ((nat_lt b.max_stack (length frame.stack) ≡ false)
        × (nat_lt b.max_stack (length (stack_behind insn.op frame.locals frame.stack)) ≡ false))
    heights = pair _ _ _ not_off

    offs : (nat_lt b.max_stack (length frame.stack) ≡ false)
        × (nat_lt b.max_stack (length (stack_behind insn.op frame.locals frame.stack)) ≡ false)
    offs = heights.1

    there : takes insn.op ≤ length frame.stack
    there = ltb-false (length frame.stack) (takes insn.op) heights.0

    steps : (e : Edge State) → Contains (insn_edges b place insn (state_of frame)) e
        → Leads b (rows_of b table) e.to e.state
    steps e is = h.stands.least.closed.steps place (state_of frame) row e
        (subst (λ (o : Option JInsn). Contains (place_edges b place o (state_of frame)) e) (sym is_insn) is)

    handler : (c : Catch) (to : ℕ) → covers c insn.at ≡ true → place_at b.insns c.target ≡ Some to
        → handler_edge b.insns insn.at (state_of frame) c ≡ Some (edge (caught c (state_of frame)) to)
    handler c to covered found =
        ap (λ is. cond is (option_map (edge (caught c (state_of frame))) (place_at b.insns c.target)) None) covered
        ∙ ap (option_map (edge (caught c (state_of frame)))) found

pub are_frames : (w : List Class) (b : Body) (table : TypeTable) → IsTypeTable w b table → AreFrames (rows_of b table)
are_frames w b table h place x row = (
  frame_of x,
  sym (framed_rows w b (rows_of b table) h.stands.least.closed.sized
      h.unbroken place x row),
)
