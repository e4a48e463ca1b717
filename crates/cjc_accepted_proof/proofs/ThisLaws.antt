-- Methods with pairs that are written as one: local 0 holds their receiver before each instruction, and the reference
-- that a pair leaves out is one that may be of its class.
use Rattle.std.proofs.Common.{◌≡◌, ◌⊎◌, ℕ, zero, suc, ◌+◌, ◌<◌, refl, sym, ap, subst, ◌∙◌, arith, Bool, true, false}
use Rattle.std.proofs.Common.{inl, inr}
use Rattle.std.proofs.Common.{List, [], ◌∷◌, ◌++◌, length, map, filter_map, slice_get, slice_set, Option, Some, None}
use Rattle.std.proofs.Common.{All}
use Rattle.std.proofs.Common.{Contains, take, replicate}
use Rattle.std.specs.Prelude.{◌&&◌, ◌||◌, ◌==◌, not, cond, nat_le, nat_lt, if◌then◌else◌, option_map, ℤ}
use Rattle.std.specs.List.{AllZip, cons_option}
use Rattle.std.specs.Str.{bytes_eq}
use Rattle.std.proofs.lemmas.Bool.{eqb-true}
use Rattle.std.proofs.lemmas.List.Elements.{All-append, All-cons, All-contains, All-map, All-nil}
use Rattle.std.proofs.lemmas.List.Elements.{All-tail}
use Rattle.std.proofs.lemmas.Slice.Eq.{bytes_eq-Decides}
use Rattle.cjc_types.proofs.BytesBools.{and_true, clash, not_false, or_cases, or_left, or_right}
use Rattle.cjc_types.proofs.BytesGets.{position_there}
use Rattle.cjc_types.specs.Bytes.AccessFlags.{is_static}
use Rattle.cjc_types.specs.Bytecode.declared.insn.JInsn.{JInsn}
use Rattle.cjc_types.specs.Bytecode.declared.insn.JOp.{JOp}
use Rattle.cjc_types.specs.Bytecode.declared.insn.JOp.TheVariants as jop
use Rattle.cjc_types.specs.Cells.{IsCell, IsCellBelow, cells}
use Rattle.cjc_types.specs.ClassFile.declared.tree.Catch.{Catch}
use Rattle.cjc_types.specs.Fixpoint.Dataflow.{IsLawful}
use Rattle.cjc_types.specs.Fixpoint.Lattice.{IsListOf}
use Rattle.cjc_types.specs.Fixpoint.Tables.{HasRow}
use Rattle.cjc_types.specs.Fixpoint.Working.Edges.{contains_head, contains_tail}
use Rattle.cjc_types.specs.Fixpoint.declared.flow.Edge.{Edge}
use Rattle.cjc_types.specs.Flow.{Body, arguments, caught, covers, edge, entry, handler_edge, insn_edges, next_place}
use Rattle.cjc_types.specs.Flow.{place_at, place_edges, successors, type_flow}
use Rattle.cjc_types.specs.Names.{In}
use Rattle.cjc_types.specs.Rules.{all_types, has_wrong, has_wrong_local, is_number, is_wrong, is_wrong_return}
use Rattle.cjc_types.specs.Rules as broken
use Rattle.cjc_types.specs.States.{IsStackBelow, most_cells, stack_of, states}
use Rattle.cjc_types.specs.Steps.{after, goes_on, locals_after, stack_after, stack_behind, stored, takes, targets}
use Rattle.cjc_types.specs.Tables.{Breach, IsLeastTable}
use Rattle.cjc_types.specs.TypeLaws.Places.{IsPlaceOf}
use Rattle.cjc_types.specs.Types.{as_reference, parts, result_of, value_of}
use Rattle.cjc_types.specs.Working.TypeLaws.{own_one}
use Rattle.cjc_types.specs.World.Classes.{Class}
use Rattle.cjc_types.specs.declared.cell.Cell.{Cell}
use Rattle.cjc_types.specs.declared.cell.Cell.TheVariants.{Number, Refs, Unusable}
use Rattle.cjc_types.specs.declared.state.Stack.{Stack}
use Rattle.cjc_types.specs.declared.state.Stack.TheVariants.{Cells, Clash}
use Rattle.cjc_types.specs.declared.state.State.{State}
use Rattle.cjc_check_proof.specs.NCode.Written.{Resolution}
use Rattle.cjc_check_proof.specs.NCode.declared.narrow.PairRole.{PairRole}
use Rattle.cjc_check_proof.specs.NarrowProof.Tables.Pairs.{AreInPairs, IsInPair, IsPushed, IsSilent, a_constant}
use Rattle.cjc_check_proof.specs.NarrowProof.Tables.Pairs.{a_local, a_narrow, a_nop, a_null, a_number, gets, opens}
use Rattle.cjc_check_proof.specs.NarrowProof.Tables.Pairs.{pushes, puts, stands_alone}
use Rattle.cjc_check_proof.specs.NarrowProof.Tables.Pairs as in_pair
use Rattle.cjc_verify.specs.Narrow.Pairs.Open.{Open, begun, closed, pushed}
use Rattle.cjc_verify.specs.Narrow.Pairs.Roles.{stores_this}
use Rattle.cjc_accepted_proof.specs.Beside.{ConstantsAreNumbers}
use Rattle.cjc_accepted_proof.proofs.LeastLaws.{all_hold, all_under}

-- ---- cells that may be of a class

abbrev has_name : (class : List ℕ) → List (List ℕ) → Bool
has_name class [] = false
has_name class (x ∷ xs) = bytes_eq x class || has_name class xs

pub name_in : (class : List ℕ) (names : List (List ℕ)) → has_name class names ≡ true → In class names
name_in class [] e = absurd cc
name_in class (x ∷ xs) e = by (or_cases (bytes_eq x class) (has_name class xs) e) (name_in class xs)
  where
    by : ((bytes_eq x class ≡ true) ⊎ (has_name class xs ≡ true)) → (has_name class xs ≡ true → In class xs)
        → In class (x ∷ xs)
    by (inl f) later = inl ((bytes_eq-Decides x class).0 f)
    by (inr f) later = inr (later f)

name_had : (class : List ℕ) (names : List (List ℕ)) → In class names → has_name class names ≡ true
name_had class [] i = absurd i
name_had class (x ∷ xs) (inl same) = ap (λ b. b || has_name class xs) ((bytes_eq-Decides x class).1 same)
name_had class (x ∷ xs) (inr i) = ap (λ b. bytes_eq x class || b) (name_had class xs i) ∙ any_true (bytes_eq x class)
  where
    any_true : (b : Bool) → (b || true) ≡ true
    any_true true = refl
    any_true false = refl

-- the class is one of the cell's types, or the cell may hold anything
abbrev pub may_hold : (class : List ℕ) → Cell → Bool
may_hold class Number = false
may_hold class (Refs names) = has_name class names
may_hold class Unusable = true

hold_up : (class : List ℕ) (x y : Cell) → IsCellBelow x y → may_hold class x ≡ true → may_hold class y ≡ true
hold_up class x Unusable below e = refl
hold_up class Number Number below e = e
hold_up class (Refs less) Number below e = absurd below
hold_up class Unusable Number below e = absurd below
hold_up class Number (Refs names) below e = absurd below
hold_up class (Refs less) (Refs names) below e = name_had class names (below class (name_in class less e))
hold_up class Unusable (Refs names) below e = absurd below

no_number : (class : List ℕ) (x : Cell) → may_hold class x ≡ true → is_number x ≡ false
no_number class Number e = absurd cc
no_number class (Refs names) e = refl
no_number class Unusable e = refl

as_held : (class : List ℕ) (x : Cell) → may_hold class x ≡ true → may_hold class (as_reference x) ≡ true
as_held class Number e = absurd cc
as_held class (Refs names) e = e
as_held class Unusable e = refl

held_above : (class : List ℕ) (x : Cell) → may_hold class x ≡ true → IsCellBelow (Refs (class ∷ [])) x
held_above class Number e = absurd cc
held_above class (Refs names) e = within
  where
    within : (n : List ℕ) → In n (class ∷ []) → In n names
    within n (inl same) = subst (λ c. In c names) same (name_in class names e)
    within n (inr none) = absurd none
held_above class Unusable e = tt

-- ---- frames

-- the first local may hold it
abbrev first_holds : (class : List ℕ) → List Cell → Bool
first_holds class [] = true
first_holds class (c ∷ locals) = may_hold class c

-- so may the reference that is left out
abbrev pub top_holds : (class : List ℕ) → List Cell → Bool
top_holds class [] = false
top_holds class (c ∷ s) = may_hold class c

abbrev pub second_holds : (class : List ℕ) → List Cell → Bool
second_holds class [] = false
second_holds class (c ∷ s) = top_holds class s

abbrev pub out_holds : (class : List ℕ) → Open → Stack → Bool
out_holds class o Clash = true
out_holds class closed (Cells s) = true
out_holds class begun (Cells s) = top_holds class s
out_holds class pushed (Cells s) = second_holds class s

first_up : (class : List ℕ) (xs ys : List Cell) → AllZip IsCellBelow xs ys → first_holds class xs ≡ true
    → first_holds class ys ≡ true
first_up class xs [] below e = refl
first_up class [] (y ∷ ys) below e = absurd below
first_up class (x ∷ xs) (y ∷ ys) below e = hold_up class x y below.0 e

top_up : (class : List ℕ) (xs ys : List Cell) → AllZip IsCellBelow xs ys → top_holds class xs ≡ true
    → top_holds class ys ≡ true
top_up class [] ys below e = absurd cc
top_up class (x ∷ xs) [] below e = absurd below
top_up class (x ∷ xs) (y ∷ ys) below e = hold_up class x y below.0 e

second_up : (class : List ℕ) (xs ys : List Cell) → AllZip IsCellBelow xs ys → second_holds class xs ≡ true
    → second_holds class ys ≡ true
second_up class [] ys below e = absurd cc
second_up class (x ∷ xs) [] below e = absurd below
second_up class (x ∷ xs) (y ∷ ys) below e = top_up class xs ys below.1 e

out_up : (class : List ℕ) (o : Open) (x y : Stack) → IsStackBelow x y → out_holds class o x ≡ true
    → out_holds class o y ≡ true
out_up class o x Clash below e = refl
out_up class o Clash (Cells ys) below e = absurd below
out_up class closed (Cells xs) (Cells ys) below e = refl
out_up class begun (Cells xs) (Cells ys) below e = top_up class xs ys below e
out_up class pushed (Cells xs) (Cells ys) below e = second_up class xs ys below e

-- a stack that is cut is a clash
stack_holds : (class : List ℕ) (o : Open) (s : List Cell) → out_holds class o (Cells s) ≡ true
    → out_holds class o (stack_of s) ≡ true
stack_holds class o s e = by (nat_le (length s) most_cells)
  where
    by : (b : Bool) → out_holds class o (if b then Cells s else Clash) ≡ true
    by true = e
    by false = refl

closed_holds : (class : List ℕ) (x : Stack) → out_holds class closed x ≡ true
closed_holds class (Cells s) = refl
closed_holds class Clash = refl

-- ---- a method

module _ (w : List Class) (r : Resolution) (b : Body) (rows : List (Option State)) (opened : ℕ → Open)
    (unbroken : (place rule : ℕ) → Breach w b rows place rule → ⊥) (pairs : AreInPairs r b rows opened)
    (keeps : (at : ℕ) (i : JInsn) (x : State) → slice_get b.insns at ≡ Some i → HasRow rows at x
    → stores_this i.op ≡ false)
    (numbers : ConstantsAreNumbers r b rows) where
  abbrev class : List ℕ
  class = b.class

  -- what is known before an instruction
  abbrev Holds : ℕ → State → Bool
  Holds at x = first_holds class x.locals && out_holds class (opened at) x.stack

  both : {p q : Bool} → p ≡ true → q ≡ true → (p && q) ≡ true
  both {p} {q} e f = ap (λ v. v && q) e ∙ f

  up : (at : ℕ) (x y : State) → (let s = states b.max_locals in s.Below x y) → Holds at x ≡ true → Holds at y ≡ true
  up at x y below e =
      let two = and_true (first_holds class x.locals) (out_holds class (opened at) x.stack) e in
      both (first_up class x.locals y.locals below.1 two.0) (out_up class (opened at) x.stack y.stack below.0 two.1)

  -- no reached instruction is wrong
  not_wrong : (at : ℕ) (i : JInsn) (ls s : List Cell) → slice_get b.insns at ≡ Some i
      → HasRow rows at (record { stack = Cells s; locals = ls }) → is_wrong w b i.op ls s ≡ true → ⊥
  not_wrong at i ls s there row e = unbroken at 502 (record {
    insn = i;
    is_insn = there;
    state = record { stack = Cells s; locals = ls };
    reached = row;
    breaks = broken.wrong s ls e;
  })

  wrong_local : (at : ℕ) (i : JInsn) (ls s : List Cell) → slice_get b.insns at ≡ Some i
      → HasRow rows at (record { stack = Cells s; locals = ls }) → has_wrong_local i.op ls ≡ true → ⊥
  wrong_local at i ls s there row e = not_wrong at i ls s there row
      (ap (λ v. (has_wrong w b i.op (takes i.op) 0 s || v) || is_wrong_return b i.op) e
      ∙ ap (λ v. v || is_wrong_return b i.op) (any_true (has_wrong w b i.op (takes i.op) 0 s)))
    where
      any_true : (v : Bool) → (v || true) ≡ true
      any_true true = refl
      any_true false = refl

  wrong_operand : (at : ℕ) (i : JInsn) (ls s : List Cell) → slice_get b.insns at ≡ Some i
      → HasRow rows at (record { stack = Cells s; locals = ls }) → has_wrong w b i.op (takes i.op) 0 s ≡ true → ⊥
  wrong_operand at i ls s there row e = not_wrong at i ls s there row
      (ap (λ v. (v || has_wrong_local i.op ls) || is_wrong_return b i.op) e)

  -- ---- behind an instruction

  set_first : (ls : List Cell) (k : ℕ) (v : Cell) → first_holds class ls ≡ true → first_holds class (slice_set ls (suc
      k) v) ≡ true
  set_first [] k v e = refl
  set_first (c ∷ ls) k v e = e

  -- local 0 is no number
  no_increase : (at : ℕ) (i : JInsn) (c : Cell) (ls : List Cell) (s : Stack) → slice_get b.insns at ≡ Some i
      → HasRow rows at (record { stack = s; locals = c ∷ ls }) → (by : ℤ) → i.op ≡ jop.Inc 0 by → may_hold class c ≡
      true
      → ⊥
  no_increase at i c ls Clash there row by is e = unbroken at 501 (record {
    insn = i;
    is_insn = there;
    state = record { stack = Clash; locals = c ∷ ls };
    reached = row;
    breaks = broken.clash (c ∷ ls);
  })
  no_increase at i c ls (Cells s) there row by is e = wrong_local at i (c ∷ ls) s there row
      (ap (λ o. has_wrong_local o (c ∷ ls)) is ∙ ap not (no_number class c e))

  -- nothing is stored into it
  no_store : {A : Type 0} (at : ℕ) (i : JInsn) (x : State) → slice_get b.insns at ≡ Some i → HasRow rows at x
      → (refs : Bool) → i.op ≡ jop.Store refs 0 → A
  no_store at i x there row refs is = clash true refl (sym (ap stores_this is) ∙ keeps at i x there row)

  -- local 0 stays
  first_stays : (at : ℕ) (i : JInsn) (ls : List Cell) (s : Stack) → slice_get b.insns at ≡ Some i
      → HasRow rows at (record { stack = s; locals = ls }) → (op : JOp) → i.op ≡ op → first_holds class ls ≡ true
      → first_holds class (locals_after op ls s) ≡ true
  first_stays at i ls s there row (jop.Store refs zero) is e = no_store at i (record { stack = s; locals = ls }) there
      row refs is
  first_stays at i ls s there row (jop.Store refs (suc k)) is e = set_first ls k (stored refs s) e
  first_stays at i [] s there row (jop.Inc zero by) is e = refl
  first_stays at i (c ∷ ls) s there row (jop.Inc zero by) is e = absurd (no_increase at i c ls s there row by is e)
  first_stays at i ls s there row (jop.Inc (suc k) by) is e = set_first ls k Number e
  first_stays at i ls s there row _ is e = e

  -- the reference that is left out stays there
  out_stays : (at : ℕ) (i : JInsn) (ls : List Cell) (s : Stack) → slice_get b.insns at ≡ Some i
      → HasRow rows at (record { stack = s; locals = ls }) → {o q : Open} {role : PairRole} (op : JOp) → i.op ≡ op
      → IsInPair r o op role q → first_holds class ls ≡ true → out_holds class o s ≡ true
      → out_holds class q (stack_after op ls s) ≡ true
  out_stays at i ls Clash there row op is p e f = refl
  out_stays at i ls (Cells s) there row op is stands_alone e f = closed_holds class (stack_after op ls (Cells s))
  out_stays at i ls (Cells s) there row op is gets e f = closed_holds class (stack_after op ls (Cells s))
  out_stays at i ls (Cells s) there row op is puts e f = closed_holds class (stack_after op ls (Cells s))
  out_stays at i [] (Cells s) there row op is opens e f = stack_holds class begun (Unusable ∷ s) refl
  out_stays at i (c ∷ ls) (Cells s) there row op is opens e f = stack_holds class begun (as_reference c ∷ s)
      (as_held class c e)
  out_stays at i ls (Cells s) there row {o = o} op is (in_pair.goes_on is_open a_nop) e f = stack_holds class o s f
  out_stays at i ls (Cells s) there row {o = closed} op is (in_pair.goes_on is_open (a_narrow {op = n} other)) e f =
      closed_holds class (stack_after (jop.Narrow n) ls (Cells s))
  out_stays at i ls (Cells []) there row {o = begun} op is (in_pair.goes_on is_open (a_narrow other)) e f = absurd cc
  out_stays at i ls (Cells (c ∷ s)) there row {o = begun} op is (in_pair.goes_on is_open (a_narrow {op = n} other)) e
      f = absurd (wrong_operand at i ls (c ∷ s) there row (ap (λ z. has_wrong w b z (takes z) 0 (c ∷ s)) is
      ∙ ap (λ v. not v || has_wrong w b (jop.Narrow n) 1 1 s) (no_number class c f)))
  out_stays at i ls (Cells []) there row {o = pushed} op is (in_pair.goes_on is_open (a_narrow other)) e f = absurd cc
  out_stays at i ls (Cells (c ∷ s)) there row {o = pushed} op is (in_pair.goes_on is_open (a_narrow other)) e f =
      stack_holds class pushed (Number ∷ s) f
  out_stays at i ls (Cells s) there row op is (pushes a_null) e f = stack_holds class pushed (Refs [] ∷ s) f
  out_stays at i ls (Cells s) there row op is (pushes a_number) e f = stack_holds class pushed (Number ∷ s) f
  out_stays at i ls (Cells s) there row op is (pushes (a_local {refs = refs} {k = k})) e f = stack_holds class pushed
      (stack_behind (jop.Load refs k) ls s) f
  out_stays at i ls (Cells s) there row op is (pushes (a_constant {named = named} {z = z} known)) e f =
      let one = numbers at i (record { stack = Cells s; locals = ls }) named z there row is known in
      stack_holds class pushed (stack_behind (jop.Static false named) ls s)
      (subst (λ (cs : List Cell). second_holds class (cs ++ s) ≡ true) (sym one) f)

  -- ---- edges

  abbrev HoldsAt : Edge State → Type 0
  HoldsAt e = Holds e.to e.state ≡ true

  next_hold : (z : State) (goes : Bool) (at : ℕ) → (goes ≡ true → Holds (at + 1) z ≡ true)
      → All (λ to. Holds to z ≡ true) (next_place goes (length b.insns) at)
  next_hold z false at h = All-nil (λ to. Holds to z ≡ true)
  next_hold z true at h = by (nat_lt (at + 1) (length b.insns))
    where
      by : (t : Bool) → All (λ to. Holds to z ≡ true) (if t then (at + 1) ∷ [] else [])
      by true = All-cons (λ to. Holds to z ≡ true) (at + 1) [] (h refl) (All-nil (λ to. Holds to z ≡ true))
      by false = All-nil (λ to. Holds to z ≡ true)

  targets_hold : (z : State) (ts : List ℕ) → ((t to : ℕ) → Contains ts t → place_at b.insns t ≡ Some to
      → Holds to z ≡ true) → All (λ to. Holds to z ≡ true) (filter_map (place_at b.insns) ts)
  targets_hold z [] h = All-nil (λ to. Holds to z ≡ true)
  targets_hold z (t ∷ ts) h = by (place_at b.insns t) refl (targets_hold z ts (λ u to on e. h u to (contains_tail t ts u
      on) e))
    where
      by : (o : Option ℕ) → place_at b.insns t ≡ o → All (λ to. Holds to z ≡ true) (filter_map (place_at b.insns) ts)
          → All (λ to. Holds to z ≡ true) (cons_option o (filter_map (place_at b.insns) ts))
      by None e rest = rest
      by (Some to) e rest = All-cons (λ to. Holds to z ≡ true) to (filter_map (place_at b.insns) ts) (h t to
          (contains_head t ts) e) rest

  handlers_hold : (offset : ℕ) (x : State) (cs : List Catch) → ((c : Catch) (to : ℕ) → Contains cs c
      → place_at b.insns c.target ≡ Some to → Holds to (caught c x) ≡ true)
      → All HoldsAt (filter_map (handler_edge b.insns offset x) cs)
  handlers_hold offset x [] h = All-nil HoldsAt
  handlers_hold offset x (c ∷ cs) h = by (covers c offset) (place_at b.insns c.target) refl
      (handlers_hold offset x cs (λ d to on e. h d to (contains_tail c cs d on) e))
    where
      by : (is : Bool) (o : Option ℕ) → place_at b.insns c.target ≡ o
          → All HoldsAt (filter_map (handler_edge b.insns offset x) cs)
          → All HoldsAt (cons_option (cond is (option_map (edge (caught c x)) o) None) (filter_map (handler_edge b.insns
          offset x) cs))
      by false o e rest = rest
      by true None e rest = rest
      by true (Some to) e rest = All-cons HoldsAt (edge (caught c x) to) (filter_map (handler_edge b.insns offset x) cs)
          (h c to (contains_head c cs) e) rest

  -- an instruction stands where a place was found
  stands_at : (offset to : ℕ) → place_at b.insns offset ≡ Some to → IsPlaceOf b.insns offset to
  stands_at offset to e =
      let p = position_there (λ (i : JInsn). i.at == offset) b.insns to e in
      let n = p.0 in
      record { insn = n; is_insn = p.1; stands = eqb-true n.at offset p.2; found = e }

  edges_hold : (at : ℕ) (x : State) → HasRow rows at x → Holds at x ≡ true → (e : Edge State)
      → Contains (place_edges b at (slice_get b.insns at) x) e → Holds e.to e.state ≡ true
  edges_hold at x row h e on = by (slice_get b.insns at) refl on
    where
      by : (o : Option JInsn) → slice_get b.insns at ≡ o → Contains (place_edges b at o x) e → Holds e.to e.state ≡ true
      by None there (k, lt, is) = absurd (omega (arith, lt))
      by (Some i) there on =
          let two = and_true (first_holds class x.locals) (out_holds class (opened at) x.stack) h in
          let z = after i.op x in
          let first : first_holds class (locals_after i.op x.locals x.stack) ≡ true = first_stays at i x.locals x.stack
          there row i.op refl two.0 in
          let next : Holds (at + 1) z ≡ true = both first (subst (λ n. out_holds class (opened n) (stack_after i.op
          x.locals x.stack) ≡ true) one_more (out_stays at i x.locals x.stack there row i.op refl
          (pairs.each at i x there row) two.0 two.1)) in
          let jumps = targets_hold z (targets i.op) (λ t to among found. both first (subst (λ (o : Open). out_holds
          class o (stack_after i.op x.locals x.stack) ≡ true) (sym (pairs.targets at i t to there among (stands_at t to
          found))) (closed_holds class (stack_after i.op x.locals x.stack)))) in
          let handled = handlers_hold i.at x b.catches (λ c to among found. both two.0 (subst (λ (o : Open). out_holds
          class o (let y = caught c x in y.stack) ≡ true) (sym (pairs.handlers c to among (stands_at c.target to
          found))) refl)) in
          All-contains HoldsAt (insn_edges b at i x) e (All-append HoldsAt (map (edge z) (successors b.insns at i.op))
          (filter_map (handler_edge b.insns i.at x) b.catches) (All-map HoldsAt (edge z) (successors b.insns at i.op)
          (All-append (λ to. Holds to z ≡ true) (next_place (goes_on i.op) (length b.insns) at) (filter_map (place_at
          b.insns) (targets i.op)) (next_hold z (goes_on i.op) at (λ g. next)) jumps)) handled) on
        where
          one_more : suc at ≡ at + 1
          one_more = omega arith

  -- ---- the least table

  module _ (least : IsLeastTable b rows) (object : is_static b.flags ≡ false) where
    begins : Holds 0 (entry b) ≡ true
    begins = both first (subst (λ (o : Open). out_holds class o (Cells []) ≡ true) (sym pairs.first) refl)
      where
        itself : may_hold class (Refs (class ∷ [])) ≡ true
        itself = ap (λ v. v || false) ((bytes_eq-Decides class class).1 refl)

        taken : (n : ℕ) (cs : List Cell) → first_holds class (take n (Refs (class ∷ []) ∷ cs)) ≡ true
        taken zero cs = refl
        taken (suc n) cs = itself

        first : first_holds class (take b.max_locals (arguments b ++ replicate b.max_locals Unusable)) ≡ true
        first = subst (λ v. first_holds class (take b.max_locals (((if v then [] else Refs (class ∷ []) ∷ [])
            ++ map value_of (let d = parts b.desc in d.params)) ++ replicate b.max_locals Unusable)) ≡ true)
            (sym object) (taken b.max_locals (map value_of (let d = parts b.desc in d.params) ++ replicate b.max_locals
            Unusable))

    -- the receiver may be in local 0, and be what a pair leaves out
    pub each_holds : (at : ℕ) (x : State) → HasRow rows at x → (first_holds class x.locals ≡ true)
        × (out_holds class (opened at) x.stack ≡ true)
    each_holds at x row = and_true (first_holds class x.locals) (out_holds class (opened at) x.stack)
        (all_hold (type_flow b) (length b.insns) rows least Holds up begins edges_hold at x row)

    -- ---- nothing else is in local 0

    abbrev with_this : List Cell → List Cell
    with_this [] = []
    with_this (c ∷ ls) = Refs (class ∷ []) ∷ ls

    abbrev cut : State → State
    cut x = record { stack = x.stack; locals = with_this x.locals }

    abbrev under_this : List Cell → Type 0
    under_this [] = Unit {0}
    under_this (c ∷ ls) = IsCellBelow c (Refs (class ∷ []))

    zip_same : (xs : List Cell) → AllZip IsCellBelow xs xs
    zip_same [] = tt
    zip_same (x ∷ xs) = (cell_same x, zip_same xs)
      where
        cell_same : (x : Cell) → IsCellBelow x x
        cell_same Number = tt
        cell_same (Refs names) = λ n i. i
        cell_same Unusable = tt

    stack_same : (s : Stack) → IsStackBelow s s
    stack_same (Cells s) = zip_same s
    stack_same Clash = tt

    lower : (at : ℕ) (x : State) → HasRow rows at x → (let s = states b.max_locals in s.Below (cut x) x)
    lower at x row = (stack_same x.stack, by x.locals (each_holds at x row).0)
      where
        by : (ls : List Cell) → first_holds class ls ≡ true → AllZip IsCellBelow (with_this ls) ls
        by [] e = tt
        by (c ∷ ls) e = (held_above class c e, zip_same ls)

    own_with : (n : ℕ) (ls : List Cell) → IsListOf cells n ls → IsListOf cells n (with_this ls)
    own_with n [] own = own
    own_with n (c ∷ ls) own = record {
      sized = own.sized;
      own = All-cons IsCell (Refs (class ∷ [])) ls (own_one class) (All-tail IsCell c ls own.own);
    }

    own : (at : ℕ) (x : State) → HasRow rows at x → (let s = states b.max_locals in s.Own (cut x))
    own at x row = let is = least.closed.own at x row in (is.0, own_with b.max_locals x.locals is.1)

    under : (z y : State) → (let s = states b.max_locals in s.Below z y) → under_this z.locals
        → (let s = states b.max_locals in s.Below z (cut y))
    under z y below u = (below.0, by z.locals y.locals below.1 u)
      where
        by : (ls ms : List Cell) → AllZip IsCellBelow ls ms → under_this ls → AllZip IsCellBelow ls (with_this ms)
        by [] [] below u = tt
        by [] (m ∷ ms) below u = absurd below
        by (l ∷ ls) [] below u = absurd below
        by (l ∷ ls) (m ∷ ms) below u = (u, below.1)

    begins_under : under_this (let x = entry b in x.locals)
    begins_under = subst (λ v. under_this (take b.max_locals (((if v then [] else Refs (class ∷ []) ∷ [])
        ++ map value_of (let d = parts b.desc in d.params)) ++ replicate b.max_locals Unusable))) (sym object)
        (taken b.max_locals (map value_of (let d = parts b.desc in d.params) ++ replicate b.max_locals Unusable))
      where
        taken : (n : ℕ) (cs : List Cell) → under_this (take n (Refs (class ∷ []) ∷ cs))
        taken zero cs = tt
        taken (suc n) cs = λ m i. i

    this_under : (ls : List Cell) → under_this (with_this ls)
    this_under [] = tt
    this_under (c ∷ ls) = λ m i. i

    set_under : (ls : List Cell) (k : ℕ) (v : Cell) → under_this (slice_set (with_this ls) (suc k) v)
    set_under [] k v = tt
    set_under (c ∷ ls) k v = λ m i. i

    behind_under : (at : ℕ) (i : JInsn) (ls : List Cell) (s : Stack) → slice_get b.insns at ≡ Some i
        → HasRow rows at (record { stack = s; locals = ls }) → first_holds class ls ≡ true → (op : JOp) → i.op ≡ op
        → under_this (locals_after op (with_this ls) s)
    behind_under at i ls s there row e (jop.Store refs zero) is = no_store at i (record { stack = s; locals = ls })
        there row refs is
    behind_under at i ls s there row e (jop.Store refs (suc k)) is = set_under ls k (stored refs s)
    behind_under at i [] s there row e (jop.Inc zero by) is = tt
    behind_under at i (c ∷ ls) s there row e (jop.Inc zero by) is = absurd (no_increase at i c ls s there row by is e)
    behind_under at i ls s there row e (jop.Inc (suc k) by) is = set_under ls k Number
    behind_under at i ls s there row e _ is = this_under ls

    abbrev UnderAt : Edge State → Type 0
    UnderAt e = let x = e.state in under_this x.locals

    handlers_under : (offset : ℕ) (x : State) (cs : List Catch) → under_this x.locals → All UnderAt (filter_map
        (handler_edge b.insns offset x) cs)
    handlers_under offset x [] u = All-nil UnderAt
    handlers_under offset x (c ∷ cs) u = by (covers c offset) (place_at b.insns c.target) (handlers_under offset x cs u)
      where
        by : (is : Bool) (o : Option ℕ) → All UnderAt (filter_map (handler_edge b.insns offset x) cs)
            → All UnderAt (cons_option (cond is (option_map (edge (caught c x)) o) None) (filter_map (handler_edge
            b.insns offset x) cs))
        by false o rest = rest
        by true None rest = rest
        by true (Some to) rest = All-cons UnderAt (edge (caught c x) to) (filter_map (handler_edge b.insns offset x) cs)
            u rest

    edges_under : (at : ℕ) (x : State) → HasRow rows at x → (e : Edge State) → Contains (place_edges b at (slice_get
        b.insns at) (cut x)) e → under_this (let z = e.state in z.locals)
    edges_under at x row e on = by (slice_get b.insns at) refl on
      where
        by : (o : Option JInsn) → slice_get b.insns at ≡ o → Contains (place_edges b at o (cut x)) e
            → under_this (let z = e.state in z.locals)
        by None there (k, lt, is) = absurd (omega (arith, lt))
        by (Some i) there on =
            let z = after i.op (cut x) in
            let u = behind_under at i x.locals x.stack there row (each_holds at x row).0 i.op refl in
            All-contains UnderAt (insn_edges b at i (cut x)) e (All-append UnderAt (map (edge z) (successors b.insns at
            i.op)) (filter_map (handler_edge b.insns i.at (cut x)) b.catches) (All-map UnderAt (edge z)
            (successors b.insns at i.op) (λ k d lt. u)) (handlers_under i.at (cut x) b.catches (this_under x.locals)))
            on

    -- local 0 holds an object of the class that holds the method
    pub this_below : IsLawful (type_flow b) → (at : ℕ) (x : State) (c : Cell) → HasRow rows at x
        → slice_get x.locals 0 ≡ Some c → IsCellBelow c (Refs (class ∷ []))
    this_below lawful at x c row e =
        let below = all_under (type_flow b) (length b.insns) rows least lawful cut (λ z. under_this z.locals) lower own
        under begins_under edges_under at x row in
        by x.locals below.1 e
      where
        by : (ls : List Cell) → AllZip IsCellBelow ls (with_this ls) → slice_get ls 0 ≡ Some c
            → IsCellBelow c (Refs (class ∷ []))
        by [] below e = absurd cc
        by (d ∷ ls) below e = subst (λ z. IsCellBelow z (Refs (class ∷ []))) (some_same e) below.0
          where
            some_same : {x y : Cell} → Some x ≡ Some y → x ≡ y
            some_same e = cc
