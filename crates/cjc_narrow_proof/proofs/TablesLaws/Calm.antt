-- No instruction of a class file but athrow throws what is on the stack.
use Rattle.std.proofs.Common.{◌≡◌, ℕ, ◌+◌, ◌==◌, ◌&&◌, refl, Bool, true, false, subst, List, [], ◌∷◌, ◌++◌, length}
use Rattle.std.proofs.Common.{take, drop, ℤ, pos, negsuc}
use Rattle.std.specs.Prelude.{◌≢◌, Option, Some, None, nat_le, nat_lt, if◌then◌else◌, slice_get}
use Rattle.cjc_bytes.specs.declared.fault.MemberId.{MemberId}
use Rattle.cjc_code.specs.declared.insn.JOp.{JOp}
use Rattle.cjc_code.specs.declared.insn.JOp.TheVariants as jop
use Rattle.cjc_script.specs.declared.value.Value.{Value}
use Rattle.cjc_script.specs.declared.value.Value.TheVariants.{Num, Null, Obj}
use Rattle.cjc_script.specs.declared.report.FieldValue.{FieldValue}
use Rattle.cjc_script.specs.declared.report.Thing.{Thing}
use Rattle.cjc_script.specs.declared.report.Thing.TheVariants.{Array, Object}
use Rattle.cjc_script.specs.Sorts.{Shape, OfClass, OfNumbers, OfReferences, Element, shape_named}
use Rattle.cjc_jvm_semantics.specs.Arithmetic.{Operation, Gives, Divides, Neither, Condition, is_zero, operation}
use Rattle.cjc_jvm_semantics.specs.Arithmetic.{condition}
use Rattle.cjc_jvm_semantics.specs.Arithmetic as conditions
use Rattle.cjc_jvm_semantics.specs.Linked.{Method, ResolvedField, Constant, Static, Instance, Linked}
use Rattle.cjc_jvm_semantics.specs.Effects.{Store, Fault, Effect, Go, Raise, Toss, Invoke, Leave, Stick, effect, Moves}
use Rattle.cjc_jvm_semantics.specs.Effects as by_name

-- nothing is thrown
data IsCalm : Effect → Type 0 where
  goes_on : {at : ℕ} {s : List Value} {locals : List (Option Value)} {store : Store} → IsCalm (Go at s locals store)
  raises : {fault : Fault} → IsCalm (Raise fault)
  invokes : {op : ℕ} {method : MemberId} → IsCalm (Invoke op method)
  leaves : {value : Option Value} → IsCalm (Leave value)
  sticks : IsCalm Stick

calm_only : (object : ℕ) → IsCalm (Toss object) → ⊥
calm_only object h = elim h [ ]

with_some : {A : Type 0} (o : Option A) (go : A → Effect) → ((x : A) → IsCalm (go x)) → IsCalm (by_name.with_some o go)
with_some None go h = sticks
with_some (Some x) go h = h x

only_if : (b : Bool) (e : Effect) → IsCalm e → IsCalm (by_name.only_if b e)
only_if true e h = h
only_if false e h = sticks

either : (b : Bool) (e f : Effect) → IsCalm e → IsCalm f → IsCalm (if b then e else f)
either true e f h k = h
either false e f h k = k

one_value : (s : List Value) (go : Value → List Value → Effect) → ((v : Value) (rest : List Value) → IsCalm (go v rest))
    → IsCalm (by_name.one_value s go)
one_value [] go h = sticks
one_value (v ∷ rest) go h = h v rest

one_number : (s : List Value) (go : ℤ → List Value → Effect) → ((x : ℤ) (rest : List Value) → IsCalm (go x rest))
    → IsCalm (by_name.one_number s go)
one_number [] go h = sticks
one_number (Num x ∷ rest) go h = h x rest
one_number (Null ∷ rest) go h = sticks
one_number (Obj k ∷ rest) go h = sticks

two_numbers : (s : List Value) (go : ℤ → ℤ → List Value → Effect) → ((x y : ℤ) (rest : List Value)
    → IsCalm (go x y rest)) → IsCalm (by_name.two_numbers s go)
two_numbers [] go h = sticks
two_numbers (Num y ∷ []) go h = sticks
two_numbers (Num y ∷ Num x ∷ rest) go h = h x y rest
two_numbers (Num y ∷ Null ∷ rest) go h = sticks
two_numbers (Num y ∷ Obj k ∷ rest) go h = sticks
two_numbers (Null ∷ rest) go h = sticks
two_numbers (Obj k ∷ rest) go h = sticks

local_value : (o : Option (Option Value)) (go : Value → Effect) → ((v : Value) → IsCalm (go v))
    → IsCalm (by_name.local_value o go)
local_value None go h = sticks
local_value (Some None) go h = sticks
local_value (Some (Some v)) go h = h v

thing_at : (heap : List Thing) (v : Value) (go : ℕ → Thing → Effect) → ((k : ℕ) (t : Thing) → IsCalm (go k t))
    → IsCalm (by_name.thing_at heap v go)
thing_at heap (Num x) go h = sticks
thing_at heap Null go h = raises
thing_at heap (Obj k) go h = with_some (slice_get heap k) (go k) (h k)

array_in : (t : Thing) (go : List ℕ → List Value → Effect) → ((desc : List ℕ) (items : List Value)
    → IsCalm (go desc items)) → IsCalm (by_name.array_in t go)
array_in (Array desc items) go h = h desc items
array_in (Object class fields) go h = sticks

object_in : (t : Thing) (go : List ℕ → List FieldValue → Effect) → ((class : List ℕ) (fields : List FieldValue)
    → IsCalm (go class fields)) → IsCalm (by_name.object_in t go)
object_in (Array desc items) go h = sticks
object_in (Object class fields) go h = h class fields

item_if : (o : Option Value) (go : Value → Effect) → ((v : Value) → IsCalm (go v)) → IsCalm (by_name.item_if o go)
item_if None go h = raises
item_if (Some v) go h = h v

item_at : (items : List Value) (i : ℤ) (go : ℕ → Value → Effect) → ((k : ℕ) (v : Value) → IsCalm (go k v))
    → IsCalm (by_name.item_at items i go)
item_at items (pos i) go h = item_if (slice_get items i) (go i) (h i)
item_at items (negsuc i) go h = raises

with_size : (z : ℤ) (go : ℕ → Effect) → ((n : ℕ) → IsCalm (go n)) → IsCalm (by_name.with_size z go)
with_size (pos n) go h = h n
with_size (negsuc n) go h = raises

module _ (l : Linked) (m : Method) (at : ℕ) (locals : List (Option Value)) (store : Store) where
  on_if : (b : Bool) (s : List Value) → IsCalm (by_name.only_if b (by_name.onward l m at locals store s))
  on_if b s = only_if b _ goes_on

  push : (v : Value) (s : List Value) → IsCalm (by_name.push l m at locals store v s)
  push v s = on_if (nat_lt (length s) m.max_stack) (v ∷ s)

  jump_if : (b : Bool) (target : ℕ) (s : List Value) → IsCalm (by_name.jump_if l m at locals store b target s)
  jump_if true target s = goes_on
  jump_if false target s = goes_on

  after_pop : (n : ℕ) (s : List Value) → IsCalm (by_name.after_pop l m at locals store n s)
  after_pop n s = on_if (nat_le n (length s)) (drop n s)

  after_copy : (n below : ℕ) (s : List Value) → IsCalm (by_name.after_copy l m at locals store n below s)
  after_copy n below s = on_if (nat_le below (length s) && nat_le (n + length s) m.max_stack) (take below s
      ++ (take n s ++ drop below s))

  after_swap : (s : List Value) → IsCalm (by_name.after_swap l m at locals store s)
  after_swap [] = sticks
  after_swap (a ∷ []) = sticks
  after_swap (a ∷ b ∷ rest) = goes_on

  after_stack : (op : ℕ) (s : List Value) → IsCalm (by_name.after_stack l m at locals store op s)
  after_stack op s =
      either (op == 0x57) _ _ (after_pop 1 s) (either (op == 0x58) _ _ (after_pop 2 s) (either (op == 0x59) _ _
      (after_copy 1 1 s) (either (op == 0x5A) _ _ (after_copy 1 2 s) (either (op == 0x5B) _ _ (after_copy 1 3 s)
      (either (op == 0x5C) _ _ (after_copy 2 2 s) (either (op == 0x5D) _ _ (after_copy 2 3 s) (either (op == 0x5E) _ _
      (after_copy 2 4 s) (either (op == 0x5F) _ _ (after_swap s) sticks))))))))

  after_increase : (k : ℕ) (z : ℤ) (v : Value) (s : List Value)
      → IsCalm (by_name.after_increase l m at locals store k z v s)
  after_increase k z (Num x) s = goes_on
  after_increase k z Null s = sticks
  after_increase k z (Obj j) s = sticks

  after_operation : (o : Operation) (s : List Value) → IsCalm (by_name.after_operation l m at locals store o s)
  after_operation (Gives exact) s = two_numbers s _ (λ x y rest. goes_on)
  after_operation (Divides exact) s = two_numbers s _ (λ x y rest. either (is_zero y) _ _ raises goes_on)
  after_operation Neither s = sticks

  after_branch : (c : Condition) (target : ℕ) (s : List Value)
      → IsCalm (by_name.after_branch l m at locals store c target s)
  after_branch (conditions.OfNumber holds) target s = one_number s _ (λ x rest. jump_if (holds x) target rest)
  after_branch (conditions.OfNumbers holds) target s = two_numbers s _ (λ x y rest. jump_if (holds x y) target rest)
  after_branch (conditions.AreSame wanted) target s =
      one_value s _ (λ b below. one_value below _ (λ a rest. only_if (by_name.is_kind true a && by_name.is_kind true b)
      _ (jump_if (by_name.agree wanted (by_name.is_same_reference a b)) target rest)))
  after_branch (conditions.IsNull wanted) target s = one_value s _ (λ v rest. only_if (by_name.is_kind true v) _
      (jump_if (by_name.agree wanted (by_name.is_null v)) target rest))
  after_branch conditions.Nothing target s = sticks

  array_load : (o : Option Moves) (s : List Value) → IsCalm (by_name.after_array_load l m at locals store o s)
  array_load None s = sticks
  array_load (Some moves) s =
      one_number s _ (λ i below. one_value below _ (λ r rest. thing_at store.heap r _ (λ k thing. array_in thing _
      (λ desc items. only_if (by_name.serves moves (shape_named desc)) _ (item_at items i _ (λ n v. goes_on))))))

  if_taken : (shape : Option (Shape (List ℕ))) (v : Value) (go : Value → Effect) → ((w : Value) → IsCalm (go w))
      → IsCalm (by_name.if_taken l m at locals store shape v go)
  if_taken None v go h = h v
  if_taken (Some (OfClass class)) v go h = h v
  if_taken (Some (OfNumbers element)) v go h = h v
  if_taken (Some (OfReferences class)) (Num z) go h = h (Num z)
  if_taken (Some (OfReferences class)) Null go h = h Null
  if_taken (Some (OfReferences class)) (Obj j) go h = with_some (slice_get store.heap j) _
      (λ thing. either (l.subtype (Some (by_name.holder l m at locals store)) (by_name.type_of thing) class) _ _
      (h (Obj j)) raises)

  with_kept : (moves : Moves) (shape : Option (Shape (List ℕ))) (v : Value) (go : Value → Effect)
      → ((w : Value) → IsCalm (go w)) → IsCalm (by_name.with_kept l m at locals store moves shape v go)
  with_kept moves shape (Num z) go h = h (Num (by_name.cut moves z))
  with_kept moves shape Null go h = h Null
  with_kept moves shape (Obj j) go h = if_taken shape (Obj j) go h

  array_store : (o : Option Moves) (s : List Value) → IsCalm (by_name.after_array_store l m at locals store o s)
  array_store None s = sticks
  array_store (Some moves) s =
      one_value s _ (λ v under. one_number under _ (λ i below. one_value below _
      (λ r rest. only_if (by_name.is_kind (by_name.of_references moves) v) _ (thing_at store.heap r _
      (λ k thing. array_in thing _ (λ desc items.
      only_if (by_name.serves moves (shape_named desc)) _ (item_at items i _ (λ n old. with_kept moves
      (shape_named desc) v _ (λ w. goes_on)))))))))

  with_new : (thing : Thing) (rest : List Value) → IsCalm (by_name.with_new l m at locals store thing rest)
  with_new thing rest = only_if (nat_lt (length rest) m.max_stack) _ goes_on

  new_numbers : (o : Option Element) (s : List Value) → IsCalm (by_name.with_new_numbers l m at locals store o s)
  new_numbers None s = sticks
  new_numbers (Some element) s = one_number s _ (λ count rest. with_size count _ (λ n. with_new _ rest))

  new_references : (o : Option (List ℕ)) (s : List Value) → IsCalm (by_name.with_new_references l m at locals store o s)
  new_references None s = sticks
  new_references (Some class) s = only_if (l.is_there (Some (by_name.holder l m at locals store)) class) _
      (one_number s _ (λ count rest. with_size count _ (λ n. with_new _ rest)))

  static_get : (o : Option ResolvedField) (s : List Value) → IsCalm (by_name.static_get l m at locals store o s)
  static_get None s = sticks
  static_get (Some (Constant z)) s = push (Num z) s
  static_get (Some (Static f)) s = with_some (by_name.value_in store.statics f) _ (λ v. push v s)
  static_get (Some (Instance f)) s = sticks

  static_put : (o : Option ResolvedField) (s : List Value) → IsCalm (by_name.static_put l m at locals store o s)
  static_put None s = sticks
  static_put (Some (Constant z)) s = sticks
  static_put (Some (Static f)) s = one_value s _ (λ v rest. with_some (by_name.value_in store.statics f) _
      (λ old. only_if (by_name.is_same_kind old v) _ goes_on))
  static_put (Some (Instance f)) s = sticks

  field_get : (o : Option ResolvedField) (s : List Value) → IsCalm (by_name.field_get l m at locals store o s)
  field_get None s = sticks
  field_get (Some (Constant z)) s = sticks
  field_get (Some (Static f)) s = sticks
  field_get (Some (Instance f)) s = one_value s _ (λ r rest. thing_at store.heap r _ (λ k thing. object_in thing _
      (λ class fields. with_some (by_name.value_in fields f) _ (λ v. goes_on))))

  field_put : (o : Option ResolvedField) (s : List Value) → IsCalm (by_name.field_put l m at locals store o s)
  field_put None s = sticks
  field_put (Some (Constant z)) s = sticks
  field_put (Some (Static f)) s = sticks
  field_put (Some (Instance f)) s = one_value s _ (λ v below. one_value below _ (λ r rest. thing_at store.heap r _
      (λ k thing. object_in thing _ (λ class fields. with_some (by_name.value_in fields f) _
      (λ old. only_if (by_name.is_same_kind old v) _ goes_on)))))

  type_test : (type : List ℕ) (v : Value) (null : Effect) (go : Bool → Effect) → IsCalm null
      → ((b : Bool) → IsCalm (go b)) → IsCalm (by_name.type_test l m at locals store type v null go)
  type_test type (Num x) null go h k = sticks
  type_test type Null null go h k = h
  type_test type (Obj j) null go h k = with_some (slice_get store.heap j) _
      (λ thing. k (l.subtype (Some (by_name.holder l m at locals store)) (by_name.type_of thing) type))

  after_cast : (type : List ℕ) (s : List Value) → IsCalm (by_name.after_cast l m at locals store type s)
  after_cast type s = only_if (by_name.is_type l m at locals store (shape_named type)) _
      (one_value s _ (λ v rest. type_test type v _ _ goes_on (λ is_of. either is_of _ _ goes_on raises)))

  after_instanceof : (type : List ℕ) (s : List Value) → IsCalm (by_name.after_instanceof l m at locals store type s)
  after_instanceof type s = only_if (by_name.is_type l m at locals store (shape_named type)) _
      (one_value s _ (λ v rest. type_test type v _ _ goes_on (λ is_of. goes_on)))

  at_return : (op : ℕ) (s : List Value) → IsCalm (by_name.at_return l m at locals store op s)
  at_return op s =
      either (op == 0xAC) _ _ (one_number s _ (λ x rest. leaves)) (either (op == 0xB0) _ _
      (one_value s _ (λ v rest. only_if (by_name.is_kind true v) _ leaves)) (either (op == 0xB1) _ _ leaves sticks))

  -- each instruction but athrow
  calm : (op : JOp) → op ≢ jop.Throw → (s : List Value) → IsCalm (effect l m at locals store op s)
  unfolding effect
  calm jop.Nop other s = goes_on
  calm jop.Null other s = push Null s
  calm (jop.Number z) other s = push (Num z) s
  calm (jop.Load refs k) other s = local_value (slice_get locals k) _ (λ v. only_if (by_name.is_kind refs v) _
      (push v s))
  calm (jop.Store refs k) other s = one_value s _ (λ v rest. only_if (by_name.is_kind refs v
      && nat_lt k (length locals)) _ goes_on)
  calm (jop.ArrayLoad op) other s = array_load (by_name.loads op) s
  calm (jop.ArrayStore op) other s = array_store (by_name.stores op) s
  calm (jop.Stack op) other s = after_stack op s
  calm (jop.Arith op) other s = either (op == 0x74) _ _ (one_number s _ (λ x rest. goes_on))
      (after_operation (operation op) s)
  calm (jop.Inc k z) other s = local_value (slice_get locals k) _ (λ v. after_increase k z v s)
  calm (jop.Narrow op) other s = either (op == 0x91) _ _ (one_number s _ (λ x rest. goes_on)) (either (op == 0x93) _ _
      (one_number s _ (λ x rest. goes_on)) sticks)
  calm (jop.If op target) other s = after_branch (condition op) target s
  calm (jop.Goto target) other s = goes_on
  calm (jop.TableSwitch o low targets) other s = one_number s _ (λ x rest. goes_on)
  calm (jop.LookupSwitch o cases) other s = one_number s _ (λ x rest. goes_on)
  calm (jop.Return op) other s = at_return op s
  calm (jop.Static put field) other s = either put _ _ (static_put (l.field (by_name.holder l m at locals store) field)
      s) (static_get (l.field (by_name.holder l m at locals store) field) s)
  calm (jop.Field put field) other s = either put _ _ (field_put (l.field (by_name.holder l m at locals store) field) s)
      (field_get (l.field (by_name.holder l m at locals store) field) s)
  calm (jop.Call op method) other s = invokes
  calm (jop.New class) other s = with_some (l.made (by_name.holder l m at locals store) class) _
      (λ fields. with_new _ s)
  calm (jop.NewArray kind) other s = new_numbers (by_name.element_of kind) s
  calm (jop.ANewArray class) other s = new_references (by_name.class_in (shape_named class)) s
  calm jop.ArrayLength other s =
      one_value s _ (λ r rest. thing_at store.heap r _ (λ k thing. array_in thing _ (λ desc items. goes_on)))
  calm jop.Throw other s = absurd (other refl)
  calm (jop.CheckCast class) other s = after_cast class s
  calm (jop.InstanceOf class) other s = after_instanceof class s

  pub never_tosses : (op : JOp) → op ≢ jop.Throw → (s : List Value) (object : ℕ) → effect l m at locals store op s
      ≡ Toss object → ⊥
  never_tosses op other s object e = calm_only object (subst IsCalm e (calm op other s))
