-- Each instruction of narrow code is written for one of the class file.
use Rattle.std.proofs.Common.{◌≡◌, ℕ, zero, suc, ◌+◌, refl, sym, ap, subst, ◌∙◌, Bool, true, false, List, []}
use Rattle.std.proofs.Common.{◌∷◌, ◌++◌}
use Rattle.std.specs.Prelude.{Option, Some, None, flat_map, nat_le, slice_get, ◌==◌, if◌then◌else◌, ℤ, pos, negsuc}
use Rattle.std.proofs.lemmas.Bool.{eqb-true}
use Rattle.cjc_bytes.specs.declared.fault.MemberId.{MemberId}
use Rattle.cjc_script.specs.Sorts.{Shape, OfClass, OfNumbers, OfReferences, Booleans, Bytes, Shorts, Ints, shape_named}
use Rattle.cjc_range.specs.Words.{low_word}
use Rattle.cjc_code.specs.declared.insn.JInsn.{JInsn}
use Rattle.cjc_code.specs.declared.insn.JOp.{JOp}
use Rattle.cjc_code.specs.declared.insn.JOp.TheVariants as jop
use Rattle.cjc_ncode.specs.declared.narrow.NCase.{NCase}
use Rattle.cjc_ncode.specs.declared.narrow.NInsn.{NInsn}
use Rattle.cjc_ncode.specs.declared.narrow.NInsn.TheVariants.{Op, Push, Local, Words, Named, Interface}
use Rattle.cjc_ncode.specs.Written.{Resolution, call_by, local, low_of, nargs_of, on_stack, pair_cases, pushed_word}
use Rattle.cjc_ncode.specs.Written.{static_by, switched, table_cases, type_test, written}
use Rattle.cjc_ncode.specs.Written.{Access, accessed, on_this, written_as, written_for}
use Rattle.cjc_ncode.specs.declared.narrow.PairRole.{PairRole}
use Rattle.cjc_narrow.proofs.PairsLaws.Roles.{written_as_same}
use Rattle.cjc_ncode.proofs.WrittenCases.{written_cases}
use Rattle.cjc_narrow_proof.specs.Sources.{IsWrittenFor, NamesClass, array, interface_call, itself, names_nothing}
use Rattle.cjc_narrow_proof.specs.Sources.{of_array, of_cast, of_class, of_field, of_own_field, of_static, of_test}
use Rattle.cjc_narrow_proof.specs.Sources.{plain}
use Rattle.cjc_narrow_proof.specs.Sources.{special_call, static_call, virtual_call}

module _ (r : Resolution) (op : JOp) where
  AllFor : List NInsn → Type 0
  AllFor [] = Unit {0}
  AllFor (i ∷ insns) = IsWrittenFor r op i × AllFor insns

  none : AllFor []
  unfolding AllFor
  none = tt

  one : (i : NInsn) → IsWrittenFor r op i → AllFor (i ∷ [])
  unfolding AllFor
  one i h = (h, tt)

  two : (i j : NInsn) → IsWrittenFor r op i → IsWrittenFor r op j → AllFor (i ∷ j ∷ [])
  unfolding AllFor
  two i j h g = (h, (g, tt))

  nothing : (i : NInsn) → names_nothing i ≡ true → AllFor (i ∷ [])
  nothing i e = one i (plain e)

either : (b : Bool) (x y : NInsn) → names_nothing x ≡ true → names_nothing y ≡ true → names_nothing (if b then x else y)
    ≡ true
either true x y h g = h
either false x y h g = g

word_plain : (z : ℤ) → names_nothing (pushed_word z) ≡ true
word_plain (pos n) = either (nat_le n 5) (Op (0x03 + n)) (if nat_le n 127 then Push 0x10 (pos n) else Push 0x11 (pos n))
    refl (either (nat_le n 127) (Push 0x10 (pos n)) (Push 0x11 (pos n)) refl refl)
word_plain (negsuc n) = either (n == 0) (Op 0x02) (if nat_le n 127 then Push 0x10 (negsuc n) else Push 0x11 (negsuc n))
    refl (either (nat_le n 127) (Push 0x10 (negsuc n)) (Push 0x11 (negsuc n)) refl refl)

stack_plain : (op : ℕ) → names_nothing (on_stack op) ≡ true
stack_plain op = go (op == 0x57) (op == 0x58) (op == 0x59) (op == 0x5C) (op == 0x5A) (op == 0x5B) (op == 0x5D) (op ==
    0x5E)
  where
    go : (a b c d e f g h : Bool) → names_nothing (if a then Op 0x3B else (if b then Op 0x3C else (if c then Op 0x3D
        else (if d then Op 0x3E
        else (if e then Words 0x3F 1 2 else (if f then Words 0x3F 1 3 else (if g then Words 0x3F 2 3
        else (if h then Words 0x3F 2 4 else Words 0x40 1 1)))))))) ≡ true
    go true b c d e f g h = refl
    go false true c d e f g h = refl
    go false false true d e f g h = refl
    go false false false true e f g h = refl
    go false false false false true f g h = refl
    go false false false false false true g h = refl
    go false false false false false false true h = refl
    go false false false false false false false true = refl
    go false false false false false false false false = refl

module _ (r : Resolution) where
  narrow_for : (op : JOp) (b : Bool) → AllFor r op (if b then Op 0x5B ∷ [] else [])
  narrow_for op true = nothing r op (Op 0x5B) refl
  narrow_for op false = none r op

  local_for : (op : JOp) (short long l : ℕ) → AllFor r op (local short long l)
  local_for op short long l = nothing r op (if nat_le l 3 then Op (short + l) else Local long l)
      (either (nat_le l 3) (Op (short + l)) (Local long l) refl refl)

  switched_for : (op : JOp) (o other : ℕ) (low : ℤ) (cases : List NCase) → AllFor r op (switched o other low cases)
  switched_for op o other low [] = two r op _ _ (plain refl) (plain refl)
  switched_for op o other low (c ∷ cases) = nothing r op _ refl

  static_for : (put : Bool) (f : MemberId) (constant : Option ℤ) → r.constant f ≡ constant
      → AllFor r (jop.Static put f) (static_by r put f constant)
  static_for put f (Some z) e = nothing r (jop.Static put f) (pushed_word (low_word z)) (word_plain (low_word z))
  static_for put f None e = one r (jop.Static put f) _ (of_static e)

  call_for : (op : ℕ) (m : MemberId) → AllFor r (jop.Call op m) (call_by r op m)
  call_for op m = go (op == 0xB9) refl (op == 0xB6) refl (op == 0xB7) refl
    where
      go : (a : Bool) → (op == 0xB9) ≡ a → (b : Bool) → (op == 0xB6) ≡ b → (c : Bool) → (op == 0xB7) ≡ c
          → AllFor r (jop.Call op m) ((if a then Interface (nargs_of m) (r.interface m)
          else (if b then Named 0x8B (r.virtual m) else (if c then Named 0x8C (r.special m)
          else Named 0x8D (r.static m)))) ∷ [])
      go true e b f c g = one r (jop.Call op m) _ (interface_call (eqb-true op 0xB9 e))
      go false e true f c g = one r (jop.Call op m) _ (virtual_call (eqb-true op 0xB6 f))
      go false e false f true g = one r (jop.Call op m) _ (special_call (eqb-true op 0xB7 g))
      go false e false f false g = one r (jop.Call op m) _ (static_call f g e)

  tests_for : (op : JOp) (o : ℕ) (type : Option (Shape (List ℕ))) → ((class : List ℕ) (kind : ℕ) → NamesClass class type
      → IsWrittenFor r op (Rattle.cjc_ncode.specs.declared.narrow.NInsn.TheVariants.TypeTest o kind (Some class)))
      → AllFor r op (type_test o type)
  tests_for op o None h = none r op
  tests_for op o (Some (OfClass class)) h = one r op _ (h class 0 itself)
  tests_for op o (Some (OfReferences class)) h = one r op _ (h class 14 array)
  tests_for op o (Some (OfNumbers Booleans)) h = nothing r op _ refl
  tests_for op o (Some (OfNumbers Bytes)) h = nothing r op _ refl
  tests_for op o (Some (OfNumbers Shorts)) h = nothing r op _ refl
  tests_for op o (Some (OfNumbers Ints)) h = nothing r op _ refl

  module _ (place : ℕ → ℕ) where
    op_for : (op : JOp) → AllFor r op (written r place op)
    op_for jop.Nop = none r jop.Nop
    op_for jop.Null = nothing r jop.Null _ refl
    op_for (jop.Number z) = nothing r (jop.Number z) (pushed_word (low_word z)) (word_plain (low_word z))
    op_for (jop.Load false l) = local_for (jop.Load false l) 0x1C 0x16 l
    op_for (jop.Load true l) = local_for (jop.Load true l) 0x18 0x15 l
    op_for (jop.Store false l) = local_for (jop.Store false l) 0x2F 0x29 l
    op_for (jop.Store true l) = local_for (jop.Store true l) 0x2B 0x28 l
    op_for (jop.ArrayLoad op) = nothing r (jop.ArrayLoad op) _ refl
    op_for (jop.ArrayStore op) = nothing r (jop.ArrayStore op) _ refl
    op_for (jop.Stack op) = nothing r (jop.Stack op) (on_stack op) (stack_plain op)
    op_for (jop.Arith op) = nothing r (jop.Arith op) _ refl
    op_for (jop.Inc l by) = nothing r (jop.Inc l by) _ refl
    op_for (jop.Narrow op) = narrow_for (jop.Narrow op) (op == 0x91)
    op_for (jop.If op target) = nothing r (jop.If op target) _ refl
    op_for (jop.Goto target) = nothing r (jop.Goto target) _ refl
    op_for (jop.TableSwitch other low ts) = switched_for (jop.TableSwitch other low ts) 0x73 (place other)
        (low_of (table_cases place low ts)) (table_cases place low ts)
    op_for (jop.LookupSwitch other cases) = switched_for (jop.LookupSwitch other cases) 0x75 (place other) (pos 0)
        (pair_cases place cases)
    op_for (jop.Return op) = nothing r (jop.Return op) _ refl
    op_for (jop.Static put f) = static_for put f (r.constant f) refl
    op_for (jop.Field put f) = one r (jop.Field put f) _ of_field
    op_for (jop.Call op m) = call_for op m
    op_for (jop.New class) = one r (jop.New class) _ of_class
    op_for (jop.NewArray kind) = nothing r (jop.NewArray kind) _ refl
    op_for (jop.ANewArray class) = one r (jop.ANewArray class) _ of_array
    op_for jop.ArrayLength = nothing r jop.ArrayLength _ refl
    op_for jop.Throw = nothing r jop.Throw _ refl
    op_for (jop.CheckCast name) = tests_for (jop.CheckCast name) 0x94 (shape_named name) (λ class kind h. of_cast h)
    op_for (jop.InstanceOf name) = tests_for (jop.InstanceOf name) 0x95 (shape_named name) (λ class kind h. of_test h)

    -- in any roles
    module _ (role_at : ℕ → PairRole) where
      role_for : (i : JInsn) → AllFor r i.op (written_as (role_at i.at) r place i.op)
      role_for i = written_cases (AllFor r i.op) (role_at i.at) r place i.op (λ e. none r i.op) (op_for i.op)
          (λ a e. access i.op a e)
        where
          access : (op : JOp) (a : Access) → accessed op ≡ Some a → AllFor r op (on_this r place op (Some a))
          access (jop.Field put f) a e =
              subst (λ a. AllFor r (jop.Field put f) (on_this r place (jop.Field put f) (Some a)))
              (let same : record { put = put; field = f } ≡ a = cc in same) (one r (jop.Field put f) _ of_own_field)
          access op a e = cc

      from_role : (kept : List JInsn) (k : ℕ) (insn : NInsn)
          → slice_get (flat_map (λ i. written_as (role_at i.at) r place i.op) kept) k ≡ Some insn
          → (j : ℕ) × (i : JInsn)
          × (slice_get kept j ≡ Some i) × IsWrittenFor r i.op insn
      unfolding AllFor
      from_role [] k insn e = cc
      from_role (i ∷ kept) k insn e = by (λ j f. from_role kept j insn f) (written_as (role_at i.at) r place i.op)
          (role_for i) k e
        where
          by : ((k : ℕ) → slice_get (flat_map (λ i. written_as (role_at i.at) r place i.op) kept) k ≡ Some insn
              → (j : ℕ) × (y : JInsn) × (slice_get kept j ≡ Some y) × IsWrittenFor r y.op insn)
              → (is : List NInsn) → AllFor r i.op is → (k : ℕ)
              → slice_get (is ++ flat_map (λ i. written_as (role_at i.at) r place i.op) kept) k ≡ Some insn → (j : ℕ)
              × (y : JInsn) × (slice_get (i ∷ kept) j ≡ Some y) × IsWrittenFor r y.op insn
          by rest [] h k e = let found = rest k e in (suc found.0, found.1, found.2, found.3)
          by rest (x ∷ is) h zero e = let same : x ≡ insn = cc in (0, i, refl, subst (IsWrittenFor r i.op) same h.0)
          by rest (x ∷ is) h (suc k) e = by rest is h.1 k e

      -- the instruction for which one of the code is written
      pub source_at : (kept : List JInsn) (k : ℕ) (insn : NInsn)
          → slice_get (flat_map (written_for (record r { role = role_at }) place) kept) k ≡ Some insn → (j : ℕ)
          × (i : JInsn) × (slice_get kept j ≡ Some i) × IsWrittenFor r i.op insn
      source_at kept k insn e = from_role kept k insn (ap (λ (f : JInsn → List NInsn). slice_get (flat_map f kept) k)
          (λ t j. sym (written_as_same r role_at (role_at j.at) place j.op) t) ∙ e)
