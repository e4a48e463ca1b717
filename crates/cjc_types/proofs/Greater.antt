-- A greater state never passes a test that a lesser one fails.
use Rattle.std.proofs.Common.{◌≡◌, ◌||◌, ◌&&◌, ◌==◌, not, ◌+◌, ◌-◌, ℕ, Bool, true, false, cond, nat_lt, List, [], ◌∷◌}
use Rattle.std.proofs.Common.{length, get_or, Option, refl, sym, ◌∙◌, ap, subst, inl, inr}
use Rattle.std.specs.List.{list_all}
use Rattle.std.proofs.lemmas.List.Elements.{length_all_zip}
use Rattle.cjc_bytes.specs.Descriptor.{Part}
use Rattle.cjc_bytes.specs.declared.fault.MemberId.{MemberId}
use Rattle.cjc_bytes.specs.declared.descriptor.Kind.{Kind}
use Rattle.cjc_bytes.proofs.Bools.{and_true}
use Rattle.cjc_bytes.specs.declared.descriptor.Kind.TheVariants as kinds
use Rattle.cjc_code.specs.declared.insn.JOp.{JOp}
use Rattle.cjc_code.specs.declared.insn.JOp.TheVariants as jop
use Rattle.cjc_fixpoint.specs.Tables.{IsClosed}
use Rattle.cjc_world.specs.Classes.{Class}
use Rattle.cjc_world.specs.Subtype.{is_subtype, starts}
use Rattle.cjc_types.specs.declared.cell.Cell.{Cell}
use Rattle.cjc_types.specs.declared.cell.Cell.TheVariants.{Number, Refs, Unusable}
use Rattle.cjc_types.specs.declared.state.Stack.{Stack}
use Rattle.cjc_types.specs.declared.state.Stack.TheVariants.{Cells, Clash}
use Rattle.cjc_types.specs.declared.state.State.{State}
use Rattle.cjc_types.specs.Names.{In}
use Rattle.cjc_types.specs.Cells.{IsCellBelow}
use Rattle.cjc_types.specs.States.{states, IsStackBelow}
use Rattle.cjc_types.specs.Types.{parts}
use Rattle.cjc_types.specs.Steps.{operand, takes, stack_behind}
use Rattle.cjc_types.specs.Working.StepLaws.{AreBelow, operand_up, behind_up}
use Rattle.cjc_types.specs.Flow.{Body, type_flow}
use Rattle.cjc_types.specs.Rules.{is_number, is_reference, all_types, is_of, is_value, is_array_for, tests_references}
use Rattle.cjc_types.specs.Rules.{is_load_operand, is_store_operand, is_field_operand, is_argument, receiver_class}
use Rattle.cjc_types.specs.Rules.{throwable, accepts, has_wrong, has_wrong_local, is_wrong_return, is_wrong, is_off}
use Rattle.cjc_types.specs.Rules.{Breaks, clash, wrong, off}
use Rattle.cjc_types.specs.Tables.{IsLeastTable, Breach}

-- ---- what a greater cell passes a lesser one passes

number_down : (x y : Cell) → IsCellBelow x y → is_number y ≡ true → is_number x ≡ true
number_down Number Number h e = refl
number_down (Refs xs) Number h e = absurd h
number_down Unusable Number h e = absurd h
number_down x (Refs ys) h e = absurd cc
number_down x Unusable h e = absurd cc

reference_down : (x y : Cell) → IsCellBelow x y → is_reference y ≡ true → is_reference x ≡ true
reference_down x Number h e = absurd cc
reference_down Number (Refs ys) h e = absurd h
reference_down (Refs xs) (Refs ys) h e = refl
reference_down Unusable (Refs ys) h e = absurd h
reference_down x Unusable h e = absurd cc

pub member_passes : (p : List ℕ → Bool) (names : List (List ℕ)) (n : List ℕ) → list_all p names ≡ true → In n names
    → p n ≡ true
member_passes p [] n e is = absurd is
member_passes p (x ∷ xs) n e (inl same) = subst (λ (m : List ℕ). p m ≡ true) same (and_true (p x) (list_all p xs) e).0
member_passes p (x ∷ xs) n e (inr later) = member_passes p xs n (and_true (p x) (list_all p xs) e).1 later

all_pass : (p : List ℕ → Bool) (names : List (List ℕ)) → ((n : List ℕ) → In n names → p n ≡ true)
    → list_all p names ≡ true
all_pass p [] h = refl
all_pass p (x ∷ xs) h = ap (λ b. b && list_all p xs) (h x (inl refl)) ∙ all_pass p xs (λ n is. h n (inr is))

types_down : (p : List ℕ → Bool) (x y : Cell) → IsCellBelow x y → all_types p y ≡ true → all_types p x ≡ true
types_down p x Number h e = absurd cc
types_down p Number (Refs ys) h e = absurd h
types_down p (Refs xs) (Refs ys) h e = all_pass p xs (λ n is. member_passes p ys n e (h n is))
types_down p Unusable (Refs ys) h e = absurd h
types_down p x Unusable h e = absurd cc

of_down : (w : List Class) (class : List ℕ) (x y : Cell) → IsCellBelow x y → is_of w class y ≡ true
    → is_of w class x ≡ true
of_down w class x y h e = types_down (λ name. is_subtype w name class) x y h e

value_down : (w : List Class) (kind : Kind) (class : List ℕ) (x y : Cell) → IsCellBelow x y → is_value w kind class y
    ≡ true → is_value w kind class x ≡ true
value_down w kinds.Bool class x y h e = number_down x y h e
value_down w kinds.Byte class x y h e = number_down x y h e
value_down w kinds.Short class x y h e = number_down x y h e
value_down w kinds.Int class x y h e = number_down x y h e
value_down w kinds.Other class x y h e = absurd cc
value_down w kinds.Ref class x y h e = of_down w class x y h e
value_down w kinds.Void class x y h e = absurd cc

-- the same for a choice of two tests
either_down : (b : Bool) (p q p' q' : Bool) → (p ≡ true → p' ≡ true) → (q ≡ true → q' ≡ true) → cond b p q ≡ true
    → cond b p' q' ≡ true
either_down true p q p' q' h k e = h e
either_down false p q p' q' h k e = k e

kind_down : (refs : Bool) (x y : Cell) → IsCellBelow x y → cond refs (is_reference y) (is_number y) ≡ true
    → cond refs (is_reference x) (is_number x) ≡ true
kind_down refs x y h e = either_down refs _ _ _ _ (reference_down x y h) (number_down x y h) e

load_down : (opcode k : ℕ) (x y : Cell) → IsCellBelow x y → is_load_operand opcode k y ≡ true
    → is_load_operand opcode k x ≡ true
load_down opcode k x y h e = either_down (k == 0) _ _ _ _ (number_down x y h) (types_down (is_array_for opcode) x y h) e

store_down : (opcode k : ℕ) (x y : Cell) → IsCellBelow x y → is_store_operand opcode k y ≡ true
    → is_store_operand opcode k x ≡ true
store_down opcode k x y h e =
    either_down (k == 0) _ _ _ _ (kind_down (opcode == 0x53) x y h)
    (λ f. either_down (k == 1) _ _ _ _ (number_down x y h) (types_down (is_array_for opcode) x y h) f) e

field_down : (w : List Class) (put : Bool) (field : MemberId) (k : ℕ) (x y : Cell) → IsCellBelow x y
    → is_field_operand w put field k y ≡ true → is_field_operand w put field k x ≡ true
field_down w put field k x y h e = either_down (put && (k == 0)) _ _ _ _ (value_down w (parts field.desc).result.kind
    (parts field.desc).result.class x y h) (of_down w field.class x y h) e

argument_down : (w : List Class) (b : Body) (opcode : ℕ) (id : MemberId) (k : ℕ) (x y : Cell) → IsCellBelow x y
    → is_argument w b opcode id k y ≡ true → is_argument w b opcode id k x ≡ true
argument_down w b opcode id k x y h e =
    let d = parts id.desc in
    let p : Part = get_or d.params (length d.params - 1 - k) d.result in
    either_down (nat_lt k (length d.params)) _ _ _ _ (value_down w p.kind p.class x y h)
    (of_down w (receiver_class w b opcode id) x y h) e

accepts_down : (w : List Class) (b : Body) (op : JOp) (k : ℕ) (x y : Cell) → IsCellBelow x y → accepts w b op k y ≡ true
    → accepts w b op k x ≡ true
accepts_down w b jop.Nop k x y h e = refl
accepts_down w b jop.Null k x y h e = refl
accepts_down w b (jop.Number z) k x y h e = refl
accepts_down w b (jop.Load refs i) k x y h e = refl
accepts_down w b (jop.Store refs i) k x y h e = kind_down refs x y h e
accepts_down w b (jop.ArrayLoad opcode) k x y h e = load_down opcode k x y h e
accepts_down w b (jop.ArrayStore opcode) k x y h e = store_down opcode k x y h e
accepts_down w b (jop.Stack opcode) k x y h e = refl
accepts_down w b (jop.Arith opcode) k x y h e = number_down x y h e
accepts_down w b (jop.Inc i by) k x y h e = refl
accepts_down w b (jop.Narrow opcode) k x y h e = number_down x y h e
accepts_down w b (jop.If opcode target) k x y h e = kind_down (tests_references opcode) x y h e
accepts_down w b (jop.Goto target) k x y h e = refl
accepts_down w b (jop.TableSwitch other low targets) k x y h e = number_down x y h e
accepts_down w b (jop.LookupSwitch other cases) k x y h e = number_down x y h e
accepts_down w b (jop.Return opcode) k x y h e = value_down w (parts b.desc).result.kind (parts b.desc).result.class x y
    h e
accepts_down w b (jop.Static put field) k x y h e = value_down w (parts field.desc).result.kind
    (parts field.desc).result.class x y h e
accepts_down w b (jop.Field put field) k x y h e = field_down w put field k x y h e
accepts_down w b (jop.Call opcode method) k x y h e = argument_down w b opcode method k x y h e
accepts_down w b (jop.New class) k x y h e = refl
accepts_down w b (jop.NewArray number) k x y h e = number_down x y h e
accepts_down w b (jop.ANewArray class) k x y h e = number_down x y h e
accepts_down w b jop.ArrayLength k x y h e = types_down (starts 91) x y h e
accepts_down w b jop.Throw k x y h e = of_down w throwable x y h e
accepts_down w b (jop.CheckCast class) k x y h e = reference_down x y h e
accepts_down w b (jop.InstanceOf class) k x y h e = reference_down x y h e

-- ---- what a lesser state breaks a greater one breaks

-- a test that the greater passes only where the lesser does
turned : (p q : Bool) → (q ≡ true → p ≡ true) → not p ≡ true → not q ≡ true
turned true q h e = absurd cc
turned false true h e = let f = h refl in absurd cc
turned false false h e = refl

or_up : (a c a' c' : Bool) → (a ≡ true → a' ≡ true) → (c ≡ true → c' ≡ true) → (a || c) ≡ true → (a' || c') ≡ true
or_up true c true c' h k e = refl
or_up true c false c' h k e = let f = h refl in absurd cc
or_up false c true c' h k e = refl
or_up false c false c' h k e = k e

and_up : (a c c' : Bool) → (c ≡ true → c' ≡ true) → (a && c) ≡ true → (a && c') ≡ true
and_up true c c' h e = h e
and_up false c c' h e = e

wrong_up : (w : List Class) (b : Body) (op : JOp) (count k : ℕ) (s t : List Cell) → AreBelow s t
    → has_wrong w b op count k s ≡ true → has_wrong w b op count k t ≡ true
wrong_up w b op count k [] [] h e = e
wrong_up w b op count k [] (y ∷ ys) h e = absurd h
wrong_up w b op count k (x ∷ xs) [] h e = absurd h
wrong_up w b op count k (x ∷ xs) (y ∷ ys) h e =
    or_up _ _ _ _ (and_up (nat_lt k count) (not (accepts w b op k x)) (not (accepts w b op k y))
    (turned (accepts w b op k x) (accepts w b op k y) (accepts_down w b op k x y h.0)))
    (wrong_up w b op count (k + 1) xs ys h.1) e

local_up : (op : JOp) (locals more : List Cell) → AreBelow locals more → has_wrong_local op locals ≡ true
    → has_wrong_local op more ≡ true
local_up (jop.Load refs i) locals more h e = turned _ _ (kind_down refs (operand locals i) (operand more i)
    (operand_up locals more i h)) e
local_up (jop.Inc i by) locals more h e = turned _ _ (number_down (operand locals i) (operand more i)
    (operand_up locals more i h)) e
local_up _ locals more h e = absurd cc

all_wrong_up : (w : List Class) (b : Body) (op : JOp) (locals more s t : List Cell) → AreBelow locals more
    → AreBelow s t → is_wrong w b op locals s ≡ true → is_wrong w b op more t ≡ true
all_wrong_up w b op locals more s t h k e =
    or_up (has_wrong w b op (takes op) 0 s || has_wrong_local op locals) (is_wrong_return b op) _ _
    (or_up (has_wrong w b op (takes op) 0 s) (has_wrong_local op locals) _ _ (wrong_up w b op (takes op) 0 s t k)
    (local_up op locals more h)) (λ f. f) e

off_same : (b : Body) (op : JOp) (locals more s t : List Cell) → AreBelow locals more → AreBelow s t
    → is_off b op locals s ≡ is_off b op more t
off_same b op locals more s t h k =
    let before = length_all_zip IsCellBelow s t k in
    let behind = length_all_zip IsCellBelow (stack_behind op locals s) (stack_behind op more t)
    (behind_up op locals more s t h k) in
    ap (λ n. nat_lt n (takes op) || nat_lt b.max_stack n || nat_lt b.max_stack (length (stack_behind op locals s)))
    before
    ∙ ap (λ n. nat_lt (length t) (takes op) || nat_lt b.max_stack (length t) || nat_lt b.max_stack n) behind

-- a greater state breaks a rule too
pub breaks_up : (w : List Class) (b : Body) (op : JOp) (x y : State) (r : ℕ) → (states b.max_locals).Below x y
    → Breaks w b op x r → (q : ℕ) × Breaks w b op y q
breaks_up w b op x y r h k = go y.stack x r h.1 h.0 k
  where
    go : (t : Stack) (z : State) (q : ℕ) → AreBelow z.locals y.locals → IsStackBelow z.stack t → Breaks w b op z q
        → (p : ℕ) × Breaks w b op (record { stack = t; locals = y.locals }) p
    go Clash z q l s k = (501, clash y.locals)
    go (Cells t) _ _ l s (clash locals) = absurd s
    go (Cells t) _ _ l s (wrong cells locals e) =
        (502, wrong t y.locals (all_wrong_up w b op locals y.locals cells t l s e))
    go (Cells t) _ _ l s (off cells locals e) = (
      503,
      off t y.locals (sym (off_same b op locals y.locals cells t l s)
          ∙ e),
    )

-- where the least table has a breach, every closed table has one
pub breach_up : (w : List Class) (b : Body) (least rows : List (Option State)) → IsLeastTable b least
    → IsClosed (type_flow b) (length b.insns) rows → (place rule : ℕ) → Breach w b least place rule → (q : ℕ)
    × Breach w b rows place q
breach_up w b least rows is closed place rule h =
    let up = is.least rows closed place h.state h.reached in
    let more = breaks_up w b h.insn.op h.state up.row rule up.above h.breaks in
    (more.0, record { insn = h.insn; is_insn = h.is_insn; state = up.row; reached = up.is_row; breaks = more.1 })
