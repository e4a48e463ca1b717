-- Each instruction that is written has an opcode of its form.
use Rattle.std.proofs.Common.{◌≡◌, ℕ, zero, suc, ◌+◌, ◌-◌, ◌≤◌, refl, sym, subst, arith, Bool, true, false, List, []}
use Rattle.std.proofs.Common.{◌∷◌, ◌++◌}
use Rattle.std.specs.Prelude.{Option, Some, None, flat_map, nat_le, slice_get, ◌==◌, if◌then◌else◌, ℤ, pos, negsuc}
use Rattle.std.proofs.lemmas.Bool.{leb-false, leb-true}
use Rattle.cjc_bytes.specs.declared.fault.MemberId.{MemberId}
use Rattle.cjc_script.specs.Sorts.{Sort, Boolean, Byte, Short, Int, Reference, NoValue, Shape, OfClass, OfNumbers}
use Rattle.cjc_script.specs.Sorts.{OfReferences, Booleans, Bytes, Shorts, Ints, field_sort, shape_named}
use Rattle.cjc_card_semantics.specs.Bytecode.Meanings.{Use, Uses, meaning}
use Rattle.cjc_range.specs.Words.{low_word}
use Rattle.cjc_code.specs.declared.insn.JInsn.{JInsn}
use Rattle.cjc_code.specs.declared.insn.JOp.{JOp}
use Rattle.cjc_code.specs.declared.insn.JOp.TheVariants as jop
use Rattle.cjc_emit.specs.LowerLayout.Forms.{HasForm, IsTest, a_class, numbers, references, bare, push, local, increase}
use Rattle.cjc_emit.specs.LowerLayout.Forms.{words}
use Rattle.cjc_emit.specs.LowerLayout.Forms.{jump, range, lookup, named, by_interface, new_array, casts, asks}
use Rattle.cjc_ncode.specs.Lowering.Laid as Laid
use Rattle.cjc_ncode.specs.Lowering.Laid.{IsFormed, Tests}
use Rattle.cjc_ncode.specs.Lowering.Naming.{Holds, IsClass, Naming}
use Rattle.cjc_ncode.specs.declared.narrow.NCase.{NCase}
use Rattle.cjc_ncode.specs.declared.narrow.NInsn.{NInsn}
use Rattle.cjc_ncode.specs.declared.narrow.NInsn.TheVariants.{Op, Push, Local, Inc, Words, Jump, Switch, Named}
use Rattle.cjc_ncode.specs.declared.narrow.NInsn.TheVariants.{Interface, NewArray, TypeTest}
use Rattle.cjc_ncode.specs.declared.narrow.PoolKey.{PoolKey}
use Rattle.cjc_ncode.specs.declared.narrow.PoolKey.TheVariants as keys
use Rattle.cjc_ncode.specs.Written.{Resolution, call_by, condition, field_access, is_byte, local as local_form, low_of}
use Rattle.cjc_ncode.specs.Written.{this_access, written_for}
use Rattle.cjc_ncode.proofs.WrittenCases.{written_cases}
use Rattle.cjc_ncode.specs.Written.{nargs_of, on_stack, pair_cases, pushed_word, static_access, static_by, switched}
use Rattle.cjc_ncode.specs.Written.{table_cases, type_test, written}
use Rattle.cjc_narrow_proof.specs.Selected.Names.{NamesFit}

AllForm : List NInsn → Type 0
AllForm [] = Unit {0}
AllForm (i ∷ insns) = HasForm i × AllForm insns

one : (i : NInsn) → HasForm i → AllForm (i ∷ [])
unfolding AllForm
one i h = (h, tt)

append : (xs ys : List NInsn) → AllForm xs → AllForm ys → AllForm (xs ++ ys)
unfolding AllForm
append [] ys h g = g
append (x ∷ xs) ys h g = (h.0, append xs ys h.1 g)

at : (xs : List NInsn) (k : ℕ) (i : NInsn) → AllForm xs → slice_get xs k ≡ Some i → HasForm i
unfolding AllForm
at [] k i h e = cc
at (x ∷ xs) zero i h e = let same : x ≡ i = cc in subst HasForm same h.0
at (x ∷ xs) (suc k) i h e = at xs k i h.1 e

bare_forms : (op : ℕ) → HasForm (Op op)
bare_forms op = bare

if_forms : (b : Bool) (x y : NInsn) → HasForm x → HasForm y → HasForm (if b then x else y)
if_forms true x y h g = h
if_forms false x y h g = g

-- ---- numbers and locals

push_forms : (b : Bool) (z : ℤ) → HasForm (if b then Push 0x10 z else Push 0x11 z)
unfolding meaning
push_forms true z = push refl
push_forms false z = push refl

word_forms : (z : ℤ) → HasForm (pushed_word z)
word_forms (pos n) = if_forms (nat_le n 5) (Op (0x03 + n)) (if nat_le n 127 then Push 0x10 (pos n)
    else Push 0x11 (pos n)) (bare_forms (0x03 + n)) (push_forms (nat_le n 127) (pos n))
word_forms (negsuc n) = if_forms (n == 0) (Op 0x02) (if nat_le n 127 then Push 0x10 (negsuc n)
    else Push 0x11 (negsuc n)) (bare_forms 0x02) (push_forms (nat_le n 127) (negsuc n))

local_forms : (short long l : ℕ) → HasForm (Local long l) → AllForm (local_form short long l)
local_forms short long l h = one (if nat_le l 3 then Op (short + l) else Local long l) (if_forms (nat_le l 3)
    (Op (short + l)) (Local long l) (bare_forms (short + l)) h)

loads : (l : ℕ) → HasForm (Local 0x16 l)
unfolding meaning
loads l = local refl

loads_reference : (l : ℕ) → HasForm (Local 0x15 l)
unfolding meaning
loads_reference l = local refl

stores : (l : ℕ) → HasForm (Local 0x29 l)
unfolding meaning
stores l = local refl

stores_reference : (l : ℕ) → HasForm (Local 0x28 l)
unfolding meaning
stores_reference l = local refl

increases : (b : Bool) (l : ℕ) (by : ℤ) → HasForm (Inc (if b then 0x59 else 0x96) l by)
unfolding meaning
increases true l by = increase refl
increases false l by = increase refl

-- ---- the stack

copies : (k m : ℕ) → HasForm (Words 0x3F k m)
unfolding meaning
copies k m = words refl

swaps : HasForm (Words 0x40 1 1)
unfolding meaning
swaps = words refl

stack_forms : (op : ℕ) → HasForm (on_stack op)
stack_forms op = go (op == 0x57) (op == 0x58) (op == 0x59) (op == 0x5C) (op == 0x5A) (op == 0x5B) (op == 0x5D) (op ==
    0x5E)
  where
    go : (a b c d e f g h : Bool) → HasForm (if a then Op 0x3B else (if b then Op 0x3C else (if c then Op 0x3D
        else (if d then Op 0x3E
        else (if e then Words 0x3F 1 2 else (if f then Words 0x3F 1 3 else (if g then Words 0x3F 2 3
        else (if h then Words 0x3F 2 4 else Words 0x40 1 1))))))))
    go true b c d e f g h = bare_forms 0x3B
    go false true c d e f g h = bare_forms 0x3C
    go false false true d e f g h = bare_forms 0x3D
    go false false false true e f g h = bare_forms 0x3E
    go false false false false true f g h = copies 1 2
    go false false false false false true g h = copies 1 3
    go false false false false false false true h = copies 2 3
    go false false false false false false false true = copies 2 4
    go false false false false false false false false = swaps

narrow_forms : (b : Bool) → AllForm (if b then Op 0x5B ∷ [] else [])
unfolding AllForm
narrow_forms true = (bare_forms 0x5B, tt)
narrow_forms false = tt

-- ---- jumps and switches

-- ifeq to goto
jumps : (k target : ℕ) → k ≤ 16 → HasForm (Jump (0x60 + k) target)
unfolding meaning
jumps zero target h = jump refl refl
jumps (suc zero) target h = jump refl refl
jumps (suc (suc zero)) target h = jump refl refl
jumps (suc (suc (suc zero))) target h = jump refl refl
jumps (suc (suc (suc (suc zero)))) target h = jump refl refl
jumps (suc (suc (suc (suc (suc zero))))) target h = jump refl refl
jumps (suc (suc (suc (suc (suc (suc zero)))))) target h = jump refl refl
jumps (suc (suc (suc (suc (suc (suc (suc zero))))))) target h = jump refl refl
jumps (suc (suc (suc (suc (suc (suc (suc (suc zero)))))))) target h = jump refl refl
jumps (suc (suc (suc (suc (suc (suc (suc (suc (suc zero))))))))) target h = jump refl refl
jumps (suc (suc (suc (suc (suc (suc (suc (suc (suc (suc zero)))))))))) target h = jump refl refl
jumps (suc (suc (suc (suc (suc (suc (suc (suc (suc (suc (suc zero))))))))))) target h = jump refl refl
jumps (suc (suc (suc (suc (suc (suc (suc (suc (suc (suc (suc (suc zero)))))))))))) target h = jump refl refl
jumps (suc (suc (suc (suc (suc (suc (suc (suc (suc (suc (suc (suc (suc zero))))))))))))) target h = jump refl refl
jumps (suc (suc (suc (suc (suc (suc (suc (suc (suc (suc (suc (suc (suc (suc zero)))))))))))))) target h = jump refl refl
jumps (suc (suc (suc (suc (suc (suc (suc (suc (suc (suc (suc (suc (suc (suc (suc zero))))))))))))))) target h =
    jump refl refl
jumps (suc (suc (suc (suc (suc (suc (suc (suc (suc (suc (suc (suc (suc (suc (suc (suc zero)))))))))))))))) target h =
    jump refl refl
jumps (suc (suc (suc (suc (suc (suc (suc (suc (suc (suc (suc (suc (suc (suc (suc (suc (suc k))))))))))))))))) target h =
    absurd (omega (arith, h))

jumps_at : (op k target : ℕ) → op ≡ 0x60 + k → k ≤ 16 → HasForm (Jump op target)
jumps_at op k target e h = subst (λ m. HasForm (Jump m target)) (sym e) (jumps k target h)

conditions : (op target : ℕ) → HasForm (Jump (condition op) target)
conditions op target = first (nat_le op 0x9E) refl
  where
    rest : (b c d : Bool) → HasForm (Jump (if b then 0x68 else (if c then 0x69 else (if d then 0x66 else 0x67))) target)
    rest true c d = jumps 8 target (leb-true 8 16 refl)
    rest false true d = jumps 9 target (leb-true 9 16 refl)
    rest false false true = jumps 6 target (leb-true 6 16 refl)
    rest false false false = jumps 7 target (leb-true 7 16 refl)

    second : (b : Bool) → nat_le op 0xA4 ≡ b → nat_le op 0x9E ≡ false
        → HasForm (Jump (if b then op - 0x9F + 0x6A else (if op == 0xA5 then 0x68 else (if op == 0xA6 then 0x69
        else (if op == 0xC6 then 0x66 else 0x67)))) target)
    second true e f =
        let high = leb-true op 0xA4 e in
        let low = leb-false op 0x9E f in
        jumps_at (op - 0x9F + 0x6A) (op - 0x9F + 10) target (omega (arith, high, low)) (omega (arith, high, low))
    second false e f = rest (op == 0xA5) (op == 0xA6) (op == 0xC6)

    first : (b : Bool) → nat_le op 0x9E ≡ b
        → HasForm (Jump (if b then op - 0x99 + 0x60 else (if nat_le op 0xA4 then op - 0x9F + 0x6A
        else (if op == 0xA5 then 0x68 else (if op == 0xA6 then 0x69 else (if op == 0xC6 then 0x66 else 0x67)))))
        target)
    first true e = let high = leb-true op 0x9E e in jumps_at (op - 0x99 + 0x60) (op - 0x99) target (omega (arith, high))
        (omega (arith, high))
    first false e = second (nat_le op 0xA4) refl e

tables : (other : ℕ) (low : ℤ) (cases : List NCase) → HasForm (Switch 0x73 other low cases)
unfolding meaning
tables other low cases = range refl

lookups : (other : ℕ) (low : ℤ) (cases : List NCase) → HasForm (Switch 0x75 other low cases)
unfolding meaning
lookups other low cases = lookup refl

switched_forms : (op other : ℕ) (low : ℤ) (cases : List NCase) → HasForm (Switch op other low cases)
    → AllForm (switched op other low cases)
unfolding AllForm
switched_forms op other low [] h = (bare_forms 0x3B, (jumps 16 other (leb-true 16 16 refl), tt))
switched_forms op other low (c ∷ cases) h = (h, tt)

-- ---- names

-- an opcode that uses a key
uses : (op : ℕ) (key : PoolKey) (how : Use) → meaning op ≡ Uses how → HasForm (Named op key)
uses op key how e = named e

static_forms : (put : Bool) (sort : Sort) (key : PoolKey) → HasForm (Named (static_access put sort) key)
unfolding meaning
static_forms true Boolean key = uses 0x80 key _ refl
static_forms true Byte key = uses 0x80 key _ refl
static_forms true Short key = uses 0x81 key _ refl
static_forms true Int key = uses 0x82 key _ refl
static_forms true (Reference shape) key = uses 0x7F key _ refl
static_forms true NoValue key = uses 0x7F key _ refl
static_forms false Boolean key = uses 0x7C key _ refl
static_forms false Byte key = uses 0x7C key _ refl
static_forms false Short key = uses 0x7D key _ refl
static_forms false Int key = uses 0x7E key _ refl
static_forms false (Reference shape) key = uses 0x7B key _ refl
static_forms false NoValue key = uses 0x7B key _ refl

field_forms : (put near : Bool) (sort : Sort) (key : PoolKey) → HasForm (Named (field_access put near sort) key)
unfolding meaning
field_forms true true Boolean key = uses 0x88 key _ refl
field_forms true true Byte key = uses 0x88 key _ refl
field_forms true true Short key = uses 0x89 key _ refl
field_forms true true Int key = uses 0x8A key _ refl
field_forms true true (Reference shape) key = uses 0x87 key _ refl
field_forms true true NoValue key = uses 0x87 key _ refl
field_forms true false Boolean key = uses 0xB2 key _ refl
field_forms true false Byte key = uses 0xB2 key _ refl
field_forms true false Short key = uses 0xB3 key _ refl
field_forms true false Int key = uses 0xB4 key _ refl
field_forms true false (Reference shape) key = uses 0xB1 key _ refl
field_forms true false NoValue key = uses 0xB1 key _ refl
field_forms false true Boolean key = uses 0x84 key _ refl
field_forms false true Byte key = uses 0x84 key _ refl
field_forms false true Short key = uses 0x85 key _ refl
field_forms false true Int key = uses 0x86 key _ refl
field_forms false true (Reference shape) key = uses 0x83 key _ refl
field_forms false true NoValue key = uses 0x83 key _ refl
field_forms false false Boolean key = uses 0xAA key _ refl
field_forms false false Byte key = uses 0xAA key _ refl
field_forms false false Short key = uses 0xAB key _ refl
field_forms false false Int key = uses 0xAC key _ refl
field_forms false false (Reference shape) key = uses 0xA9 key _ refl
field_forms false false NoValue key = uses 0xA9 key _ refl

this_forms : (put : Bool) (sort : Sort) (key : PoolKey) → HasForm (Named (this_access put sort) key)
unfolding meaning
this_forms true Boolean key = uses 0xB6 key _ refl
this_forms true Byte key = uses 0xB6 key _ refl
this_forms true Short key = uses 0xB7 key _ refl
this_forms true Int key = uses 0xB8 key _ refl
this_forms true (Reference shape) key = uses 0xB5 key _ refl
this_forms true NoValue key = uses 0xB5 key _ refl
this_forms false Boolean key = uses 0xAE key _ refl
this_forms false Byte key = uses 0xAE key _ refl
this_forms false Short key = uses 0xAF key _ refl
this_forms false Int key = uses 0xB0 key _ refl
this_forms false (Reference shape) key = uses 0xAD key _ refl
this_forms false NoValue key = uses 0xAD key _ refl

interface_forms : (nargs : ℕ) (m : MemberId) → HasForm (Interface nargs m)
interface_forms nargs m = by_interface

makes_forms : (key : PoolKey) → HasForm (Named 0x8F key)
unfolding meaning
makes_forms key = uses 0x8F key _ refl

makes_references : (key : PoolKey) → HasForm (Named 0x91 key)
unfolding meaning
makes_references key = uses 0x91 key _ refl

array_forms : (kind : ℕ) → HasForm (NewArray kind)
array_forms kind = new_array

-- a type test of either kind
tests : (op : ℕ) → ((kind : ℕ) (class : Option (List ℕ)) → IsTest kind class → HasForm (TypeTest op kind class))
    → (type : Option (Shape (List ℕ))) → AllForm (type_test op type)
unfolding AllForm
tests op make None = tt
tests op make (Some (OfClass class)) = (make 0 (Some class) a_class, tt)
tests op make (Some (OfReferences class)) = (make 14 (Some class) references, tt)
tests op make (Some (OfNumbers Booleans)) = (make 10 None (numbers Booleans), tt)
tests op make (Some (OfNumbers Bytes)) = (make 11 None (numbers Bytes), tt)
tests op make (Some (OfNumbers Shorts)) = (make 12 None (numbers Shorts), tt)
tests op make (Some (OfNumbers Ints)) = (make 13 None (numbers Ints), tt)

cast_forms : (type : Option (Shape (List ℕ))) → AllForm (type_test 0x94 type)
unfolding meaning
cast_forms type = tests 0x94 (λ kind class t. casts refl t) type

ask_forms : (type : Option (Shape (List ℕ))) → AllForm (type_test 0x95 type)
unfolding meaning
ask_forms type = tests 0x95 (λ kind class t. asks refl t) type

module _ (r : Resolution) (place : ℕ → ℕ) where
  constant_forms : (put : Bool) (f : MemberId) (constant : Option ℤ) → AllForm (static_by r put f constant)
  constant_forms put f (Some z) = one (pushed_word (low_word z)) (word_forms (low_word z))
  constant_forms put f None = one (Named (static_access put (field_sort f.desc)) (keys.StaticField (r.field f)))
      (static_forms put (field_sort f.desc) (keys.StaticField (r.field f)))

  call_forms : (op : ℕ) (m : MemberId) → AllForm (call_by r op m)
  unfolding meaning
  call_forms op m = go (op == 0xB9) (op == 0xB6) (op == 0xB7)
    where
      go : (a b c : Bool) → AllForm ((if a then Interface (nargs_of m) (r.interface m)
          else (if b then Named 0x8B (r.virtual m) else (if c then Named 0x8C (r.special m)
          else Named 0x8D (r.static m)))) ∷ [])
      go true b c = one (Interface (nargs_of m) (r.interface m)) (interface_forms (nargs_of m) (r.interface m))
      go false true c = one (Named 0x8B (r.virtual m)) (uses 0x8B (r.virtual m) _ refl)
      go false false true = one (Named 0x8C (r.special m)) (uses 0x8C (r.special m) _ refl)
      go false false false = one (Named 0x8D (r.static m)) (uses 0x8D (r.static m) _ refl)

  op_forms : (op : JOp) → AllForm (written r place op)
  unfolding AllForm
  op_forms jop.Nop = tt
  op_forms jop.Null = (bare_forms 0x01, tt)
  op_forms (jop.Number z) = (word_forms (low_word z), tt)
  op_forms (jop.Load false l) = local_forms 0x1C 0x16 l (loads l)
  op_forms (jop.Load true l) = local_forms 0x18 0x15 l (loads_reference l)
  op_forms (jop.Store false l) = local_forms 0x2F 0x29 l (stores l)
  op_forms (jop.Store true l) = local_forms 0x2B 0x28 l (stores_reference l)
  op_forms (jop.ArrayLoad op) = (bare_forms _, tt)
  op_forms (jop.ArrayStore op) = (bare_forms _, tt)
  op_forms (jop.Stack op) = (stack_forms op, tt)
  op_forms (jop.Arith op) = (bare_forms _, tt)
  op_forms (jop.Inc l by) = (increases (is_byte by) l by, tt)
  op_forms (jop.Narrow op) = narrow_forms (op == 0x91)
  op_forms (jop.If op target) = (conditions op (place target), tt)
  op_forms (jop.Goto target) = (jumps 16 (place target) (leb-true 16 16 refl), tt)
  op_forms (jop.TableSwitch other low ts) = switched_forms 0x73 (place other) (low_of (table_cases place low ts))
      (table_cases place low ts) (tables _ _ _)
  op_forms (jop.LookupSwitch other cases) = switched_forms 0x75 (place other) (pos 0) (pair_cases place cases)
      (lookups _ _ _)
  op_forms (jop.Return op) = (bare_forms _, tt)
  op_forms (jop.Static put f) = constant_forms put f (r.constant f)
  op_forms (jop.Field put f) = (field_forms put (r.is_near f) (field_sort f.desc) (keys.Field (r.field f)), tt)
  op_forms (jop.Call op m) = call_forms op m
  op_forms (jop.New class) = (makes_forms (keys.Class class), tt)
  op_forms (jop.NewArray kind) = (array_forms _, tt)
  op_forms (jop.ANewArray class) = (makes_references (keys.Class class), tt)
  op_forms jop.ArrayLength = (bare_forms 0x92, tt)
  op_forms jop.Throw = (bare_forms 0x93, tt)
  op_forms (jop.CheckCast class) = cast_forms (shape_named class)
  op_forms (jop.InstanceOf class) = ask_forms (shape_named class)

  role_forms : (i : JInsn) → AllForm (written_for r place i)
  unfolding AllForm
  role_forms i = written_cases AllForm (r.role i.at) r place i.op (λ e. tt) (op_forms i.op)
      (λ a e. (let f = a.field in this_forms a.put (field_sort f.desc) (keys.Field (r.field f)), tt))

  code_forms : (kept : List JInsn) → AllForm (flat_map (written_for r place) kept)
  unfolding AllForm
  code_forms [] = tt
  code_forms (i ∷ kept) = append (written_for r place i) (flat_map (written_for r place) kept) (role_forms i)
      (code_forms kept)

  pub all_have_forms : (kept : List JInsn) (k : ℕ) (i : NInsn) → slice_get (flat_map (written_for r place) kept) k
      ≡ Some i → HasForm i
  all_have_forms kept k i e = at (flat_map (written_for r place) kept) k i (code_forms kept) e

-- ---- with names

module _ (n : Naming) where
  test_fits : (kind : ℕ) (class : Option (List ℕ)) → IsTest kind class → ((c : List ℕ) → class ≡ Some c
      → Holds n (keys.Class c) × IsClass n c) → Tests n kind class
  test_fits kind (Some c) a_class fit = let f = fit c refl in Laid.a_class f.0 f.1
  test_fits kind None (numbers element) fit = Laid.numbers element
  test_fits kind (Some c) references fit = let f = fit c refl in Laid.references f.0 f.1

  class_fits : (op kind : ℕ) (class : Option (List ℕ)) → NamesFit n (TypeTest op kind class) → (c : List ℕ)
      → class ≡ Some c → Holds n (keys.Class c) × IsClass n c
  class_fits op kind None fit c e = cc
  class_fits op kind (Some d) fit c e = let same : d ≡ c = cc in subst (λ x. Holds n (keys.Class x) × IsClass n x) same
      fit

  -- an instruction that has its form is formed where its names fit
  pub formed_by : (i : NInsn) → HasForm i → NamesFit n i → IsFormed n i
  formed_by (Op op) bare fit = Laid.bare
  formed_by (Push op value) (push e) fit = Laid.push e
  formed_by (Local op index) (local e) fit = Laid.local e
  formed_by (Inc op index by) (increase e) fit = Laid.increase e
  formed_by (Words op high low) (words e) fit = Laid.words e
  formed_by (Jump op target) (jump e f) fit = Laid.jump e f
  formed_by (Switch op other low cases) (range e) fit = Laid.range e
  formed_by (Switch op other low cases) (lookup e) fit = Laid.lookup e
  formed_by (Named op key) (named {how = how} e) fit = Laid.named e fit.0 (fit.1 how e)
  formed_by (Interface nargs m) by_interface fit = Laid.by_interface fit.0 fit.1
  formed_by (NewArray kind) new_array fit = Laid.new_array
  formed_by (TypeTest op kind class) (casts e t) fit =
      Laid.casts e (test_fits kind class t (class_fits op kind class fit))
  formed_by (TypeTest op kind class) (asks e t) fit =
      Laid.asks e (test_fits kind class t (class_fits op kind class fit))
