-- What breaks none of 501 to 503 among the classes of one world breaks none where more types are subtypes.
use Rattle.std.proofs.Common.{◌≡◌, ℕ, ◌+◌, ◌-◌, Bool, true, false, ◌&&◌, ◌||◌, not, List, [], ◌∷◌, length, refl}
use Rattle.std.proofs.Common.{sym, ap, subst, ◌∙◌}
use Rattle.std.specs.Prelude.{◌==◌, nat_lt, get_or, Option, if◌then◌else◌}
use Rattle.std.specs.List.{list_all}
use Rattle.cjc_bytes.specs.Descriptor.{Part}
use Rattle.cjc_bytes.specs.declared.descriptor.Kind.{Kind}
use Rattle.cjc_bytes.specs.declared.descriptor.Kind.TheVariants as kinds
use Rattle.cjc_bytes.specs.declared.fault.MemberId.{MemberId}
use Rattle.cjc_code.specs.declared.insn.JOp.{JOp}
use Rattle.cjc_code.specs.declared.insn.JOp.TheVariants as jop
use Rattle.cjc_world.specs.Classes.{Class}
use Rattle.cjc_world.specs.Subtype.{is_subtype}
use Rattle.cjc_world.proofs.Subtypes.{reflexive, transitive}
use Rattle.cjc_bytes.proofs.Numbers.{number_same}
use Rattle.cjc_code.specs.Jvm as jvm
use Rattle.cjc_jvm_semantics.specs.OnePackage.{is_constructor}
use Rattle.cjc_types.specs.declared.cell.Cell.{Cell}
use Rattle.cjc_types.specs.declared.cell.Cell.TheVariants.{Number, Refs, Unusable}
use Rattle.cjc_types.specs.declared.state.State.{State}
use Rattle.cjc_types.specs.Types.{parts}
use Rattle.cjc_types.specs.Steps.{takes}
use Rattle.cjc_types.specs.Flow.{Body}
use Rattle.cjc_types.specs.Rules.{names_private, is_of, is_value, is_value_of, is_argument, receiver_class}
use Rattle.cjc_types.specs.Rules.{is_field_operand, throwable}
use Rattle.cjc_types.specs.Rules.{accepts, has_wrong, has_wrong_local, is_wrong_return, Breaks}
use Rattle.cjc_types.specs.Rules.{clash, wrong, off}
use Rattle.cjc_types.specs.Tables.{Breach}
use Rattle.cjc_joint_theorem.specs.Rules.{SupersStay, CallsStay, SpecialFits, SpecialsFit, SpecialsStay}

never : false ≡ true → ⊥
never e = cc

all_pass : (P Q : List ℕ → Bool) → ((x : List ℕ) → P x ≡ true → Q x ≡ true) → (xs : List (List ℕ)) → list_all P xs
    ≡ true → list_all Q xs ≡ true
all_pass P Q under [] e = refl
all_pass P Q under (x ∷ xs) e = by (P x) (Q x) (under x) e (all_pass P Q under xs)
  where
    by : (a b : Bool) → (a ≡ true → b ≡ true) → (a && list_all P xs) ≡ true → (list_all P xs ≡ true
        → list_all Q xs ≡ true) → (b && list_all Q xs) ≡ true
    by true true f e rest = rest e
    by true false f e rest = absurd (never (f refl))
    by false b f e rest = absurd cc

-- a test that holds more often is wrong less often
wrong_less : (a x y r s : Bool) → (x ≡ true → y ≡ true) → (r ≡ true → s ≡ true) → ((a && not y) || r) ≡ true
    → ((a && not x) || s) ≡ true
wrong_less true true true r s f g e = g e
wrong_less true true false r s f g e = absurd (never (f refl))
wrong_less true false y r s f g e = refl
wrong_less false x y r s f g e = g e

either_less : (a b c : Bool) → (a ≡ true → b ≡ true) → (a || c) ≡ true → (b || c) ≡ true
either_less true true c f e = refl
either_less true false c f e = absurd (never (f refl))
either_less false true c f e = refl
either_less false false c f e = e

module _ (v w : List Class) (stays : SupersStay v w) where
  of_stays : (class : List ℕ) (cell : Cell) → is_of v class cell ≡ true → is_of w class cell ≡ true
  of_stays class Number e = e
  of_stays class Unusable e = e
  of_stays class (Refs names) e = all_pass (λ name. is_subtype v name class) (λ name. is_subtype w name class)
      (λ name. stays name class) names e

  value_stays : (kind : Kind) (class : List ℕ) (cell : Cell) → is_value v kind class cell ≡ true
      → is_value w kind class cell ≡ true
  value_stays kinds.Bool class cell e = e
  value_stays kinds.Byte class cell e = e
  value_stays kinds.Short class cell e = e
  value_stays kinds.Int class cell e = e
  value_stays kinds.Other class cell e = e
  value_stays kinds.Ref class cell e = of_stays class cell e
  value_stays kinds.Void class cell e = e

  value_of_stays : (p : Part) (cell : Cell) → is_value_of v p cell ≡ true → is_value_of w p cell ≡ true
  value_of_stays p cell e = value_stays p.kind p.class cell e

  -- what is of a class is of each that stands above it
  of_above : (class other : List ℕ) → is_subtype w class other ≡ true → (cell : Cell) → is_of w class cell ≡ true
      → is_of w other cell ≡ true
  of_above class other below Number e = e
  of_above class other below Unusable e = e
  of_above class other below (Refs names) e = all_pass (λ name. is_subtype w name class)
      (λ name. is_subtype w name other) (λ name f. transitive w name class other f below) names e

  argument_stays : (b : Body) (opcode : ℕ) (id : MemberId) → is_subtype w (receiver_class v b opcode id)
      (receiver_class w b opcode id) ≡ true
      → (k : ℕ) (cell : Cell) → is_argument v b opcode id k cell ≡ true → is_argument w b opcode id k cell ≡ true
  argument_stays b opcode id below k cell e =
      by (nat_lt k (let d = parts id.desc in length d.params)) e
    where
      by : (c : Bool) → (if c then is_value_of v (let d = parts id.desc in get_or d.params (length d.params - 1 - k)
          d.result) cell else is_of v (receiver_class v b opcode id) cell) ≡ true
          → (if c then is_value_of w (let d = parts id.desc in get_or d.params (length d.params - 1 - k) d.result) cell
          else is_of w (receiver_class w b opcode id) cell) ≡ true
      by true e = value_of_stays (let d = parts id.desc in get_or d.params (length d.params - 1 - k) d.result) cell e
      by false e = of_above (receiver_class v b opcode id) (receiver_class w b opcode id) below cell
          (of_stays (receiver_class v b opcode id) cell e)

  field_stays : (put : Bool) (field : MemberId) (k : ℕ) (cell : Cell) → is_field_operand v put field k cell ≡ true
      → is_field_operand w put field k cell ≡ true
  field_stays put field k cell e = by (put && (k == 0)) e
    where
      by : (c : Bool) → (if c then is_value_of v (let d = parts field.desc in d.result) cell
          else is_of v field.class cell) ≡ true → (if c then is_value_of w (let d = parts field.desc in d.result) cell
          else is_of w field.class cell) ≡ true
      by true e = value_of_stays (let d = parts field.desc in d.result) cell e
      by false e = of_stays field.class cell e

  accepts_stays : (b : Body) (op : JOp) → ((opcode : ℕ) (id : MemberId) → op ≡ jop.Call opcode id
      → is_subtype w (receiver_class v b opcode id) (receiver_class w b opcode id) ≡ true) → (k : ℕ) (cell : Cell) →
      accepts v b op k cell ≡ true
      → accepts w b op k cell ≡ true
  accepts_stays b jop.Nop calls k cell e = e
  accepts_stays b jop.Null calls k cell e = e
  accepts_stays b (jop.Number z) calls k cell e = e
  accepts_stays b (jop.Load refs i) calls k cell e = e
  accepts_stays b (jop.Store refs i) calls k cell e = e
  accepts_stays b (jop.ArrayLoad opcode) calls k cell e = e
  accepts_stays b (jop.ArrayStore opcode) calls k cell e = e
  accepts_stays b (jop.Stack opcode) calls k cell e = e
  accepts_stays b (jop.Arith opcode) calls k cell e = e
  accepts_stays b (jop.Inc i by) calls k cell e = e
  accepts_stays b (jop.Narrow opcode) calls k cell e = e
  accepts_stays b (jop.If opcode target) calls k cell e = e
  accepts_stays b (jop.Goto target) calls k cell e = e
  accepts_stays b (jop.TableSwitch other low targets) calls k cell e = e
  accepts_stays b (jop.LookupSwitch other cases) calls k cell e = e
  accepts_stays b (jop.Return opcode) calls k cell e = value_of_stays (let d = parts b.desc in d.result) cell e
  accepts_stays b (jop.Static put field) calls k cell e = value_of_stays (let d = parts field.desc in d.result) cell e
  accepts_stays b (jop.Field put field) calls k cell e = field_stays put field k cell e
  accepts_stays b (jop.Call opcode id) calls k cell e = argument_stays b opcode id (calls opcode id refl) k cell e
  accepts_stays b (jop.New class) calls k cell e = e
  accepts_stays b (jop.NewArray number) calls k cell e = e
  accepts_stays b (jop.ANewArray class) calls k cell e = e
  accepts_stays b jop.ArrayLength calls k cell e = e
  accepts_stays b jop.Throw calls k cell e = of_stays throwable cell e
  accepts_stays b (jop.CheckCast class) calls k cell e = e
  accepts_stays b (jop.InstanceOf class) calls k cell e = e

  wrong_stays : (b : Body) (op : JOp) → ((opcode : ℕ) (id : MemberId) → op ≡ jop.Call opcode id
      → is_subtype w (receiver_class v b opcode id) (receiver_class w b opcode id) ≡ true) → (count k : ℕ) (cells :
      List Cell)
      → has_wrong w b op count k cells ≡ true → has_wrong v b op count k cells ≡ true
  wrong_stays b op calls count k [] e = e
  wrong_stays b op calls count k (x ∷ xs) e = wrong_less (nat_lt k count) (accepts v b op k x) (accepts w b op k x)
      (has_wrong w b op count (k + 1) xs) (has_wrong v b op count (k + 1) xs) (accepts_stays b op calls k x)
      (wrong_stays b op calls count (k + 1) xs) e

  breaks_stay : (b : Body) (op : JOp) → ((opcode : ℕ) (id : MemberId) → op ≡ jop.Call opcode id
      → is_subtype w (receiver_class v b opcode id) (receiver_class w b opcode id) ≡ true) → (x : State) (rule : ℕ) →
      Breaks w b op x rule
      → Breaks v b op x rule
  breaks_stay b op calls _ _ (clash locals) = clash locals
  breaks_stay b op calls _ _ (wrong s locals e) = wrong s locals (either_less (has_wrong w b op (takes op) 0 s
      || has_wrong_local op locals) (has_wrong v b op (takes op) 0 s || has_wrong_local op locals) (is_wrong_return b
      op) (either_less (has_wrong w b op (takes op) 0 s) (has_wrong v b op (takes op) 0 s) (has_wrong_local op locals)
      (wrong_stays b op calls (takes op) 0 s)) e)
  breaks_stay b op calls _ _ (off s locals e) = off s locals e

  pub breach_stays : (b : Body) (rows : List (Option State)) → CallsStay v w b rows → (place rule : ℕ)
      → Breach w b rows place rule → Breach v b rows place rule
  breach_stays b rows calls place rule breach = record {
    insn = breach.insn;
    is_insn = breach.is_insn;
    state = breach.state;
    reached = breach.reached;
    breaks = breaks_stay b (let i = breach.insn in i.op) (λ opcode id is. calls place breach.insn opcode id breach.state
        breach.is_insn breach.reached is) breach.state rule breach.breaks;
  }

-- ---- only invokespecial of what is no constructor may take another receiver

module _ (v w : List Class) (b : Body) (rows : List (Option State)) (specials : SpecialsStay v w b rows) where
  pub specials_do : CallsStay v w b rows
  specials_do place i opcode id x at row is = by (opcode == jvm.invokespecial) refl (is_constructor id.name) refl
    where
      -- any other call takes the class that it names
      no_special : (u : List Class) → (opcode == jvm.invokespecial) ≡ false → receiver_class u b opcode id ≡ id.class
      no_special u e = ap (λ t. if t && not (is_constructor id.name) && not (names_private u id) then b.class
          else id.class) e

      constructs : (u : List Class) → (opcode == jvm.invokespecial) ≡ true → is_constructor id.name ≡ true
          → receiver_class u b opcode id ≡ id.class
      constructs u e f = ap (λ t. if t && not (is_constructor id.name) && not (names_private u id) then b.class
          else id.class) e
          ∙ ap (λ t. if true && not t && not (names_private u id) then b.class else id.class) f

      named : receiver_class v b opcode id ≡ id.class → receiver_class w b opcode id ≡ id.class
          → is_subtype w (receiver_class v b opcode id) (receiver_class w b opcode id) ≡ true
      named e f = ap (λ y. is_subtype w y (receiver_class w b opcode id)) e ∙ ap (is_subtype w id.class) f
          ∙ reflexive w id.class

      by : (s : Bool) → (opcode == jvm.invokespecial) ≡ s → (c : Bool) → is_constructor id.name ≡ c
          → is_subtype w (receiver_class v b opcode id) (receiver_class w b opcode id) ≡ true
      by false e c f = named (no_special v e) (no_special w e)
      by true e true f = named (constructs v e f) (constructs w e f)
      by true e false f =
          let same = number_same opcode jvm.invokespecial e in
          subst (λ n. is_subtype w (receiver_class v b n id) (receiver_class w b n id) ≡ true) (sym same)
          (specials place i id x at row (is ∙ ap (λ n. jop.Call n id) same) f)

-- ---- and what that takes in a package's own world it takes among more classes

special_class : (u : List Class) (b : Body) (id : MemberId) → is_constructor id.name ≡ false → (p : Bool)
    → names_private u id ≡ p → receiver_class u b jvm.invokespecial id ≡ (if p then id.class else b.class)
special_class u b id plain p e = ap (λ t. if true && not t && not (names_private u id) then b.class else id.class) plain
    ∙ ap (λ t. if true && not t then b.class else id.class) e ∙ by p
  where
    by : (p : Bool) → (if true && not p then b.class else id.class) ≡ (if p then id.class else b.class)
    by true = refl
    by false = refl

module _ (v w : List Class) (stays : SupersStay v w) (b : Body) (rows : List (Option State)) where
  pub specials_are : SpecialsFit v b rows → SpecialsStay v w b rows
  specials_are fit place i id x at row is plain = by (names_private v id) refl (names_private w id) refl
      (fit place i id x at row is plain)
    where
      by : (p : Bool) → names_private v id ≡ p → (r : Bool) → names_private w id ≡ r → SpecialFits v b id
          → is_subtype w (receiver_class v b jvm.invokespecial id) (receiver_class w b jvm.invokespecial id) ≡ true
      by p e r f one =
          ap (λ y. is_subtype w y (receiver_class w b jvm.invokespecial id)) (special_class v b id plain p e)
          ∙ ap (is_subtype w (if p then id.class else b.class)) (special_class w b id plain r f)
          ∙ below p e r
        where
          below : (p : Bool) → names_private v id ≡ p → (r : Bool)
              → is_subtype w (if p then id.class else b.class) (if r then id.class else b.class) ≡ true
          below true e true = reflexive w id.class
          below true e false = stays id.class b.class (one.private_one e)
          below false e true = stays b.class id.class (one.above_holder e)
          below false e false = reflexive w b.class
