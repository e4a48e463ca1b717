-- Each key that is selected is of the kind that its opcode uses.
use Rattle.std.proofs.Common.{◌≡◌, ℕ, zero, suc, ◌+◌, refl, sym, ap, subst, ◌∙◌, Bool, true, false, List, [], ◌∷◌, ◌++◌}
use Rattle.std.specs.Prelude.{Option, Some, None, flat_map, nat_le, slice_get, ◌==◌, ◌||◌, if◌then◌else◌, ℤ, pos}
use Rattle.std.specs.Prelude.{negsuc}
use Rattle.cjc_bytes.specs.declared.fault.MemberId.{MemberId}
use Rattle.cjc_bytes.specs.AccessFlags.{is_private}
use Rattle.cjc_token_proof.specs.Script.Sorts.{Sort, Boolean, Byte, Short, Int, Reference, NoValue, Shape, OfClass}
use Rattle.cjc_token_proof.specs.Script.Sorts.{OfNumbers}
use Rattle.cjc_token_proof.specs.Script.Sorts.{OfReferences, Booleans, Bytes, Shorts, Ints, field_sort, shape_named}
use Rattle.cjc_token_proof.specs.CardSemantics.Bytecode.Meanings.{Meaning, Uses, meaning}
use Rattle.cjc_components.specs.Range.Words.{low_word}
use Rattle.cjc_components.specs.Bytecode.declared.insn.JInsn.{JInsn}
use Rattle.cjc_components.specs.Bytecode.declared.insn.JOp.{JOp}
use Rattle.cjc_components.specs.Bytecode.declared.insn.JOp.TheVariants as jop
use Rattle.cjc_world.specs.ClassFile.Code.{CodeTree}
use Rattle.cjc_world.specs.ClassFile.declared.tree.ClassTree.{ClassTree}
use Rattle.cjc_world.specs.ClassFile.declared.tree.MethodTree.{MethodTree}
use Rattle.cjc_world.specs.Files.{Files}
use Rattle.cjc_pool.specs.JvmSemantics.OnePackage.{ResolvedMember, is_constructor, of_class}
use Rattle.cjc_ncode.specs.declared.narrow.NCase.{NCase}
use Rattle.cjc_ncode.specs.declared.narrow.NInsn.{NInsn}
use Rattle.cjc_ncode.specs.declared.narrow.NInsn.TheVariants.{Op, Push, Local, Words, Named, Interface}
use Rattle.cjc_ncode.specs.declared.narrow.PoolKey.{PoolKey}
use Rattle.cjc_ncode.specs.declared.narrow.PoolKey.TheVariants as keys
use Rattle.cjc_ncode.specs.Written.{call_by, field_access, local, low_of, nargs_of, on_stack, pair_cases, pushed}
use Rattle.cjc_ncode.specs.Written.{pushed_word, Resolution, static_access, static_by, switched, table_cases, type_test}
use Rattle.cjc_ncode.specs.Written.{place_in, reached, this_access, written, written_as, written_for}
use Rattle.cjc_ncode.specs.declared.narrow.PairRole.{PairRole}
use Rattle.cjc_ncode.proofs.WrittenCases.{written_cases}
use Rattle.cjc_components.proofs.NarrowRoles.{written_as_same}
use Rattle.cjc_pool.specs.Narrow.Pairs.Roles.{role_in, roles_of, with_pairs}
use Rattle.cjc_pool.specs.Narrow.Rows.Resolved.{by_owner, resolution, special_by}
use Rattle.cjc_pool.specs.Narrow.Rows.Selected.{paired, selected_code}
use Rattle.cjc_pool.specs.Narrow.Written.Rows.{has_rows}
use Rattle.cjc_pool.specs.Types.Flow.{body_of}
use Rattle.cjc_check_proof.specs.Code.Kinds.{HasKind, is_for}

AllKind : List NInsn → Type 0
AllKind [] = Unit {0}
AllKind (i ∷ insns) = HasKind i × AllKind insns

none_kind : AllKind []
unfolding AllKind
none_kind = tt

one : (i : NInsn) → HasKind i → AllKind (i ∷ [])
unfolding AllKind
one i h = (h, tt)

two : (i j : NInsn) → HasKind i → HasKind j → AllKind (i ∷ j ∷ [])
unfolding AllKind
two i j h g = (h, (g, tt))

append : (xs ys : List NInsn) → AllKind xs → AllKind ys → AllKind (xs ++ ys)
unfolding AllKind
append [] ys h g = g
append (x ∷ xs) ys h g = (h.0, append xs ys h.1 g)

at : (xs : List NInsn) (k : ℕ) (i : NInsn) → AllKind xs → slice_get xs k ≡ Some i → HasKind i
unfolding AllKind
at [] zero i h e = absurd cc
at [] (suc k) i h e = absurd cc
at (x ∷ xs) zero i h e = let same : x ≡ i = cc in subst HasKind same h.0
at (x ∷ xs) (suc k) i h e = at xs k i h.1 e

if_kind : (b : Bool) (x y : NInsn) → HasKind x → HasKind y → HasKind (if b then x else y)
if_kind true x y h g = h
if_kind false x y h g = g

-- ---- keys

-- the key is for what an opcode of this meaning uses
abbrev pub suits : Meaning → PoolKey → Bool
suits (Uses how) key = is_for how key
suits m key = true

named_kind : (op : ℕ) (key : PoolKey) → suits (meaning op) key ≡ true → HasKind (Named op key)
named_kind op key e how is = ap (λ m. suits m key) (sym is) ∙ e

pub static_suits : (put : Bool) (sort : Sort) (f : MemberId) → suits (meaning (static_access put sort))
    (keys.StaticField f)
    ≡ true
unfolding meaning
static_suits true Boolean f = refl
static_suits true Byte f = refl
static_suits true Short f = refl
static_suits true Int f = refl
static_suits true (Reference shape) f = refl
static_suits true NoValue f = refl
static_suits false Boolean f = refl
static_suits false Byte f = refl
static_suits false Short f = refl
static_suits false Int f = refl
static_suits false (Reference shape) f = refl
static_suits false NoValue f = refl

field_suits : (put near : Bool) (sort : Sort) (f : MemberId) → suits (meaning (field_access put near sort))
    (keys.Field f) ≡ true
unfolding meaning
field_suits true true Boolean f = refl
field_suits true true Byte f = refl
field_suits true true Short f = refl
field_suits true true Int f = refl
field_suits true true (Reference shape) f = refl
field_suits true true NoValue f = refl
field_suits true false Boolean f = refl
field_suits true false Byte f = refl
field_suits true false Short f = refl
field_suits true false Int f = refl
field_suits true false (Reference shape) f = refl
field_suits true false NoValue f = refl
field_suits false true Boolean f = refl
field_suits false true Byte f = refl
field_suits false true Short f = refl
field_suits false true Int f = refl
field_suits false true (Reference shape) f = refl
field_suits false true NoValue f = refl
field_suits false false Boolean f = refl
field_suits false false Byte f = refl
field_suits false false Short f = refl
field_suits false false Int f = refl
field_suits false false (Reference shape) f = refl
field_suits false false NoValue f = refl

this_suits : (put : Bool) (sort : Sort) (f : MemberId) → suits (meaning (this_access put sort)) (keys.Field f) ≡ true
unfolding meaning
this_suits true Boolean f = refl
this_suits true Byte f = refl
this_suits true Short f = refl
this_suits true Int f = refl
this_suits true (Reference shape) f = refl
this_suits true NoValue f = refl
this_suits false Boolean f = refl
this_suits false Byte f = refl
this_suits false Short f = refl
this_suits false Int f = refl
this_suits false (Reference shape) f = refl
this_suits false NoValue f = refl

virtual_suits : (m : MemberId) → suits (meaning 0x8B) (keys.Virtual m) ≡ true
unfolding meaning
virtual_suits m = refl

super_suits : (m : MemberId) → suits (meaning 0x8C) (keys.Super m) ≡ true
unfolding meaning
super_suits m = refl

special_suits : (m : MemberId) → suits (meaning 0x8C) (keys.StaticMethod m) ≡ true
unfolding meaning
special_suits m = refl

static_method_suits : (m : MemberId) → suits (meaning 0x8D) (keys.StaticMethod m) ≡ true
unfolding meaning
static_method_suits m = refl

new_suits : (c : List ℕ) → suits (meaning 0x8F) (keys.Class c) ≡ true
unfolding meaning
new_suits c = refl

array_suits : (c : List ℕ) → suits (meaning 0x91) (keys.Class c) ≡ true
unfolding meaning
array_suits c = refl

-- ---- what is written

module _ (files : Files) (near : List MemberId) (holder : List ℕ) where
  abbrev r : Resolution
  r = resolution files near holder

  special_kind : (id : MemberId) (o : Option ResolvedMember) → suits (meaning 0x8C) (special_by holder id o) ≡ true
  special_kind id None = special_suits id
  special_kind id (Some hit) = by (is_constructor id.name || is_private hit.flags)
    where
      by : (b : Bool) → suits (meaning 0x8C) (if b then keys.StaticMethod (by_owner id (Some hit))
          else keys.Super (of_class holder id)) ≡ true
      by true = special_suits (by_owner id (Some hit))
      by false = super_suits (of_class holder id)

  virtual_named : (m : MemberId) → HasKind (Named 0x8B (r.virtual m))
  unfolding resolution
  virtual_named m = named_kind 0x8B (r.virtual m) (virtual_suits _)

  special_named : (m : MemberId) → HasKind (Named 0x8C (r.special m))
  unfolding resolution
  special_named m = named_kind 0x8C (r.special m) (special_kind m _)

  static_named : (m : MemberId) → HasKind (Named 0x8D (r.static m))
  unfolding resolution
  static_named m = named_kind 0x8D (r.static m) (static_method_suits _)

  word_kind : (z : ℤ) → HasKind (pushed_word z)
  word_kind (pos n) = if_kind (nat_le n 5) (Op (0x03 + n)) (if nat_le n 127 then Push 0x10 (pos n)
      else Push 0x11 (pos n)) tt (if_kind (nat_le n 127) (Push 0x10 (pos n)) (Push 0x11 (pos n)) tt tt)
  word_kind (negsuc n) = if_kind (n == 0) (Op 0x02) (if nat_le n 127 then Push 0x10 (negsuc n)
      else Push 0x11 (negsuc n)) tt (if_kind (nat_le n 127) (Push 0x10 (negsuc n)) (Push 0x11 (negsuc n)) tt tt)

  pushed_kind : (z : ℤ) → AllKind (pushed z)
  pushed_kind z = one (pushed_word (low_word z)) (word_kind (low_word z))

  local_kind : (short long l : ℕ) → AllKind (local short long l)
  local_kind short long l = one (if nat_le l 3 then Op (short + l) else Local long l)
      (if_kind (nat_le l 3) (Op (short + l)) (Local long l) tt tt)

  stack_kind : (op : ℕ) → HasKind (on_stack op)
  stack_kind op = go (op == 0x57) (op == 0x58) (op == 0x59) (op == 0x5C) (op == 0x5A) (op == 0x5B) (op == 0x5D) (op ==
      0x5E)
    where
      go : (a b c d e f g h : Bool) → HasKind (if a then Op 0x3B else (if b then Op 0x3C else (if c then Op 0x3D
          else (if d then Op 0x3E
          else (if e then Words 0x3F 1 2 else (if f then Words 0x3F 1 3 else (if g then Words 0x3F 2 3
          else (if h then Words 0x3F 2 4 else Words 0x40 1 1))))))))
      go true b c d e f g h = tt
      go false true c d e f g h = tt
      go false false true d e f g h = tt
      go false false false true e f g h = tt
      go false false false false true f g h = tt
      go false false false false false true g h = tt
      go false false false false false false true h = tt
      go false false false false false false false true = tt
      go false false false false false false false false = tt

  narrow_kind : (b : Bool) → AllKind (if b then Op 0x5B ∷ [] else [])
  narrow_kind true = one (Op 0x5B) tt
  narrow_kind false = none_kind

  switched_kind : (op other : ℕ) (low : ℤ) (cases : List NCase) → AllKind (switched op other low cases)
  switched_kind op other low [] = two _ _ tt tt
  switched_kind op other low (c ∷ cases) = one _ tt

  static_kind : (put : Bool) (f : MemberId) (constant : Option ℤ) → AllKind (static_by r put f constant)
  static_kind put f (Some z) = pushed_kind z
  static_kind put f None = one (Named (static_access put (field_sort f.desc)) (keys.StaticField (r.field f)))
      (named_kind (static_access put (field_sort f.desc)) (keys.StaticField (r.field f))
      (static_suits put (field_sort f.desc) (r.field f)))

  call_kind : (op : ℕ) (m : MemberId) → AllKind (call_by r op m)
  call_kind op m = go (op == 0xB9) (op == 0xB6) (op == 0xB7)
    where
      go : (a b c : Bool) → AllKind ((if a then Interface (nargs_of m) (r.interface m)
          else (if b then Named 0x8B (r.virtual m) else (if c then Named 0x8C (r.special m)
          else Named 0x8D (r.static m)))) ∷ [])
      go true b c = one (Interface (nargs_of m) (r.interface m)) tt
      go false true c = one (Named 0x8B (r.virtual m)) (virtual_named m)
      go false false true = one (Named 0x8C (r.special m)) (special_named m)
      go false false false = one (Named 0x8D (r.static m)) (static_named m)

  test_kind : (op : ℕ) (type : Option (Shape (List ℕ))) → AllKind (type_test op type)
  test_kind op None = none_kind
  test_kind op (Some (OfClass class)) = one _ tt
  test_kind op (Some (OfReferences class)) = one _ tt
  test_kind op (Some (OfNumbers Booleans)) = one _ tt
  test_kind op (Some (OfNumbers Bytes)) = one _ tt
  test_kind op (Some (OfNumbers Shorts)) = one _ tt
  test_kind op (Some (OfNumbers Ints)) = one _ tt

  op_kind : (place : ℕ → ℕ) (op : JOp) → AllKind (written r place op)
  op_kind place jop.Nop = none_kind
  op_kind place jop.Null = one _ tt
  op_kind place (jop.Number z) = pushed_kind z
  op_kind place (jop.Load false l) = local_kind 0x1C 0x16 l
  op_kind place (jop.Load true l) = local_kind 0x18 0x15 l
  op_kind place (jop.Store false l) = local_kind 0x2F 0x29 l
  op_kind place (jop.Store true l) = local_kind 0x2B 0x28 l
  op_kind place (jop.ArrayLoad op) = one _ tt
  op_kind place (jop.ArrayStore op) = one _ tt
  op_kind place (jop.Stack op) = one (on_stack op) (stack_kind op)
  op_kind place (jop.Arith op) = one _ tt
  op_kind place (jop.Inc l by) = one _ tt
  op_kind place (jop.Narrow op) = narrow_kind (op == 0x91)
  op_kind place (jop.If op target) = one _ tt
  op_kind place (jop.Goto target) = one _ tt
  op_kind place (jop.TableSwitch other low ts) = switched_kind 0x73 (place other) (low_of (table_cases place low ts))
      (table_cases place low ts)
  op_kind place (jop.LookupSwitch other cases) = switched_kind 0x75 (place other) (pos 0) (pair_cases place cases)
  op_kind place (jop.Return op) = one _ tt
  op_kind place (jop.Static put f) = static_kind put f (r.constant f)
  op_kind place (jop.Field put f) = one (Named (field_access put (r.is_near f) (field_sort f.desc))
      (keys.Field (r.field f))) (named_kind (field_access put (r.is_near f) (field_sort f.desc))
      (keys.Field (r.field f)) (field_suits put (r.is_near f) (field_sort f.desc) (r.field f)))
  op_kind place (jop.Call op m) = call_kind op m
  op_kind place (jop.New class) = one (Named 0x8F (keys.Class class)) (named_kind 0x8F (keys.Class class)
      (new_suits class))
  op_kind place (jop.NewArray kind) = one _ tt
  op_kind place (jop.ANewArray class) = one (Named 0x91 (keys.Class class)) (named_kind 0x91 (keys.Class class)
      (array_suits class))
  op_kind place jop.ArrayLength = one _ tt
  op_kind place jop.Throw = one _ tt
  op_kind place (jop.CheckCast class) = test_kind 0x94 (shape_named class)
  op_kind place (jop.InstanceOf class) = test_kind 0x95 (shape_named class)

  module _ (role_at : ℕ → PairRole) where
    role_kind : (place : ℕ → ℕ) (i : JInsn) → AllKind (written_as (role_at i.at) r place i.op)
    role_kind place i = written_cases AllKind (role_at i.at) r place i.op (λ e. none_kind) (op_kind place i.op)
        (λ a e. (let f = a.field in one (Named (this_access a.put (field_sort f.desc)) (keys.Field (r.field f)))
        (named_kind (this_access a.put (field_sort f.desc)) (keys.Field (r.field f)) (this_suits a.put
        (field_sort f.desc) (r.field f)))))

    code_kind : (place : ℕ → ℕ) (kept : List JInsn)
        → AllKind (flat_map (λ i. written_as (role_at i.at) r place i.op) kept)
    code_kind place [] = none_kind
    code_kind place (i ∷ kept) = append (written_as (role_at i.at) r place i.op)
        (flat_map (λ j. written_as (role_at j.at) r place j.op) kept) (role_kind place i) (code_kind place kept)

    pub code_has_kinds : (place : ℕ → ℕ) (kept : List JInsn) (k : ℕ) (i : NInsn)
        → slice_get (flat_map (written_for (record r { role = role_at }) place) kept) k ≡ Some i → HasKind i
    code_has_kinds place kept k i e = at (flat_map (λ j. written_as (role_at j.at) r place j.op) kept) k i
        (code_kind place kept) (ap (λ (f : JInsn → List NInsn). slice_get (flat_map f kept) k)
        (λ t j. sym (written_as_same r role_at (role_at j.at) place j.op) t) ∙ e)

-- those of a method that is selected
pub selected_has_kinds : {A : Type 0} (files : Files) (near : List MemberId) (class : ClassTree) (method : MethodTree)
    (tree : CodeTree) (insns : List JInsn) (rows : List (Option A)) (k : ℕ) (i : NInsn)
    → slice_get (let m = selected_code files near class method tree insns rows in m.insns) k ≡ Some i → HasKind i
unfolding with_pairs
selected_has_kinds files near class method tree insns rows k i e =
    let kept = reached insns rows in
    let flags = has_rows rows in
    code_has_kinds files near class.name (role_in insns (roles_of (resolution files near class.name)
    (body_of class method tree insns) flags)) (place_in (paired files near class method tree insns flags) kept) kept k i
    e
