-- A call of an interface's method is written for an invokeinterface alone.
use Rattle.std.proofs.Common.{◌≡◌, ℕ, zero, suc, ◌+◌, refl, ap, subst, Bool, true, false, List, [], ◌∷◌, ◌++◌}
use Rattle.std.specs.Prelude.{Option, Some, None, flat_map, nat_le, slice_get, ◌==◌, if◌then◌else◌, ℤ, pos, negsuc}
use Rattle.std.proofs.lemmas.Bool.{eqb-true}
use Rattle.cjc_bytes.specs.declared.fault.MemberId.{MemberId}
use Rattle.cjc_script.specs.Sorts.{Shape, OfClass, OfNumbers, OfReferences, Booleans, Bytes, Shorts, Ints, field_sort}
use Rattle.cjc_script.specs.Sorts.{shape_named}
use Rattle.cjc_range.specs.Words.{low_word}
use Rattle.cjc_code.specs.declared.insn.JInsn.{JInsn}
use Rattle.cjc_code.specs.declared.insn.JOp.{JOp}
use Rattle.cjc_code.specs.declared.insn.JOp.TheVariants as jop
use Rattle.cjc_ncode.specs.declared.narrow.NCase.{NCase}
use Rattle.cjc_ncode.specs.declared.narrow.NInsn.{NInsn}
use Rattle.cjc_ncode.specs.declared.narrow.NInsn.TheVariants as insns
use Rattle.cjc_ncode.specs.declared.narrow.PoolKey.TheVariants as keys
use Rattle.cjc_ncode.specs.Written.{Resolution, call_by, field_access, is_byte, local, low_of, nargs_of, on_stack}
use Rattle.cjc_ncode.specs.Written.{written_for}
use Rattle.cjc_ncode.proofs.WrittenCases.{written_cases}
use Rattle.cjc_ncode.specs.Written.{pair_cases, pushed_word, static_access, static_by, switched, table_cases, type_test}
use Rattle.cjc_ncode.specs.Written.{written}

-- ---- instructions that call no interface's method

IsPlain : NInsn → Type 0
IsPlain (insns.Interface nargs m) = ⊥
IsPlain _ = Unit {0}

module _ (r : Resolution) (op : JOp) where
  -- it is written for an invokeinterface of the method that it means
  pub IsFrom : NInsn → Type 0
  IsFrom (insns.Interface nargs id) = (m : MemberId) × (op ≡ jop.Call 0xB9 m) × (id ≡ r.interface m)
  IsFrom _ = Unit {0}

  AllFrom : List NInsn → Type 0
  AllFrom [] = Unit {0}
  AllFrom (i ∷ is) = IsFrom i × AllFrom is

  plain : (i : NInsn) → IsPlain i → IsFrom i
  unfolding IsPlain IsFrom
  plain (insns.Op o) h = tt
  plain (insns.Push o value) h = tt
  plain (insns.Local o index) h = tt
  plain (insns.Inc o index by) h = tt
  plain (insns.Words o m n) h = tt
  plain (insns.Jump o target) h = tt
  plain (insns.Switch o other low cases) h = tt
  plain (insns.Named o key) h = tt
  plain (insns.Interface nargs m) h = absurd h
  plain (insns.NewArray kind) h = tt
  plain (insns.TypeTest o kind class) h = tt

  one : (i : NInsn) → IsPlain i → AllFrom (i ∷ [])
  unfolding AllFrom
  one i h = (plain i h, tt)

either : (b : Bool) (x y : NInsn) → IsPlain x → IsPlain y → IsPlain (if b then x else y)
either true x y h g = h
either false x y h g = g

word_plain : (z : ℤ) → IsPlain (pushed_word z)
unfolding IsPlain
word_plain (pos n) = either (nat_le n 5) (insns.Op (0x03 + n)) (if nat_le n 127 then insns.Push 0x10 (pos n)
    else insns.Push 0x11 (pos n)) tt (either (nat_le n 127) (insns.Push 0x10 (pos n)) (insns.Push 0x11 (pos n)) tt tt)
word_plain (negsuc n) = either (n == 0) (insns.Op 0x02) (if nat_le n 127 then insns.Push 0x10 (negsuc n)
    else insns.Push 0x11 (negsuc n)) tt (either (nat_le n 127) (insns.Push 0x10 (negsuc n)) (insns.Push 0x11 (negsuc n))
    tt tt)

local_plain : (short long l : ℕ) → IsPlain (if nat_le l 3 then insns.Op (short + l) else insns.Local long l)
unfolding IsPlain
local_plain short long l = either (nat_le l 3) (insns.Op (short + l)) (insns.Local long l) tt tt

stack_plain : (op : ℕ) → IsPlain (on_stack op)
unfolding IsPlain
stack_plain op = go (op == 0x57) (op == 0x58) (op == 0x59) (op == 0x5C) (op == 0x5A) (op == 0x5B) (op == 0x5D) (op ==
    0x5E)
  where
    go : (a b c d e f g h : Bool) → IsPlain (if a then insns.Op 0x3B else (if b then insns.Op 0x3C
        else (if c then insns.Op 0x3D else (if d then insns.Op 0x3E
        else (if e then insns.Words 0x3F 1 2 else (if f then insns.Words 0x3F 1 3 else (if g then insns.Words 0x3F 2 3
        else (if h then insns.Words 0x3F 2 4 else insns.Words 0x40 1 1))))))))
    go true b c d e f g h = tt
    go false true c d e f g h = tt
    go false false true d e f g h = tt
    go false false false true e f g h = tt
    go false false false false true f g h = tt
    go false false false false false true g h = tt
    go false false false false false false true h = tt
    go false false false false false false false true = tt
    go false false false false false false false false = tt

-- ---- what is written for an instruction

module _ (r : Resolution) where
  narrow_from : (op : JOp) (b : Bool) → AllFrom r op (if b then insns.Op 0x5B ∷ [] else [])
  unfolding AllFrom IsFrom
  narrow_from op true = (tt, tt)
  narrow_from op false = tt

  switched_from : (op : JOp) (o other : ℕ) (low : ℤ) (cases : List NCase) → AllFrom r op (switched o other low cases)
  unfolding AllFrom IsFrom
  switched_from op o other low [] = (tt, (tt, tt))
  switched_from op o other low (c ∷ cases) = (tt, tt)

  static_from : (op : JOp) (put : Bool) (f : MemberId) (constant : Option ℤ) → AllFrom r op (static_by r put f constant)
  unfolding AllFrom IsFrom
  static_from op put f (Some z) = one r op (pushed_word (low_word z)) (word_plain (low_word z))
  static_from op put f None = (tt, tt)

  tests_from : (op : JOp) (o : ℕ) (type : Option (Shape (List ℕ))) → AllFrom r op (type_test o type)
  unfolding AllFrom IsFrom
  tests_from op o None = tt
  tests_from op o (Some (OfClass class)) = (tt, tt)
  tests_from op o (Some (OfReferences class)) = (tt, tt)
  tests_from op o (Some (OfNumbers Booleans)) = (tt, tt)
  tests_from op o (Some (OfNumbers Bytes)) = (tt, tt)
  tests_from op o (Some (OfNumbers Shorts)) = (tt, tt)
  tests_from op o (Some (OfNumbers Ints)) = (tt, tt)

  call_from : (op : ℕ) (m : MemberId) → AllFrom r (jop.Call op m) (call_by r op m)
  unfolding AllFrom IsFrom
  call_from op m = go (op == 0xB9) refl (op == 0xB6) (op == 0xB7)
    where
      go : (a : Bool) → (op == 0xB9) ≡ a → (b c : Bool)
          → AllFrom r (jop.Call op m) ((if a then insns.Interface (nargs_of m) (r.interface m)
          else (if b then insns.Named 0x8B (r.virtual m) else (if c then insns.Named 0x8C (r.special m)
          else insns.Named 0x8D (r.static m)))) ∷ [])
      go true e b c = ((m, ap (λ o. jop.Call o m) (eqb-true op 0xB9 e), refl), tt)
      go false e true c = (tt, tt)
      go false e false true = (tt, tt)
      go false e false false = (tt, tt)

  module _ (place : ℕ → ℕ) where
    op_from : (op : JOp) → AllFrom r op (written r place op)
    unfolding AllFrom IsFrom
    op_from jop.Nop = tt
    op_from jop.Null = (tt, tt)
    op_from (jop.Number z) = one r (jop.Number z) (pushed_word (low_word z)) (word_plain (low_word z))
    op_from (jop.Load false l) = one r (jop.Load false l) (if nat_le l 3 then insns.Op (0x1C + l)
        else insns.Local 0x16 l) (local_plain 0x1C 0x16 l)
    op_from (jop.Load true l) = one r (jop.Load true l) (if nat_le l 3 then insns.Op (0x18 + l) else insns.Local 0x15 l)
        (local_plain 0x18 0x15 l)
    op_from (jop.Store false l) = one r (jop.Store false l) (if nat_le l 3 then insns.Op (0x2F + l)
        else insns.Local 0x29 l) (local_plain 0x2F 0x29 l)
    op_from (jop.Store true l) = one r (jop.Store true l) (if nat_le l 3 then insns.Op (0x2B + l)
        else insns.Local 0x28 l) (local_plain 0x2B 0x28 l)
    op_from (jop.ArrayLoad op) = (tt, tt)
    op_from (jop.ArrayStore op) = (tt, tt)
    op_from (jop.Stack op) = one r (jop.Stack op) (on_stack op) (stack_plain op)
    op_from (jop.Arith op) = (tt, tt)
    op_from (jop.Inc l by) = (tt, tt)
    op_from (jop.Narrow op) = narrow_from (jop.Narrow op) (op == 0x91)
    op_from (jop.If op target) = (tt, tt)
    op_from (jop.Goto target) = (tt, tt)
    op_from (jop.TableSwitch other low ts) = switched_from (jop.TableSwitch other low ts) 0x73 (place other)
        (low_of (table_cases place low ts)) (table_cases place low ts)
    op_from (jop.LookupSwitch other cases) = switched_from (jop.LookupSwitch other cases) 0x75 (place other) (pos 0)
        (pair_cases place cases)
    op_from (jop.Return op) = (tt, tt)
    op_from (jop.Static put f) = static_from (jop.Static put f) put f (r.constant f)
    op_from (jop.Field put f) = (tt, tt)
    op_from (jop.Call op m) = call_from op m
    op_from (jop.New class) = (tt, tt)
    op_from (jop.NewArray kind) = (tt, tt)
    op_from (jop.ANewArray class) = (tt, tt)
    op_from jop.ArrayLength = (tt, tt)
    op_from jop.Throw = (tt, tt)
    op_from (jop.CheckCast class) = tests_from (jop.CheckCast class) 0x94 (shape_named class)
    op_from (jop.InstanceOf class) = tests_from (jop.InstanceOf class) 0x95 (shape_named class)

    role_from : (i : JInsn) → AllFrom r i.op (written_for r place i)
    unfolding AllFrom IsFrom
    role_from i = written_cases (AllFrom r i.op) (r.role i.at) r place i.op (λ e. tt) (op_from i.op) (λ a e. (tt, tt))

    -- ---- the code of a method

    -- the reached instruction for which a call is written
    abbrev pub IsCalled : (kept : List JInsn) → MemberId → Type 0
    IsCalled kept id = (k : ℕ) × (i : JInsn) × (m : MemberId) × (slice_get kept k ≡ Some i) × (i.op ≡ jop.Call 0xB9 m)
        × (id ≡ r.interface m)

    pub called_from : (kept : List JInsn) (k nargs : ℕ) (id : MemberId)
        → slice_get (flat_map (written_for r place) kept) k ≡ Some (insns.Interface nargs id) → IsCalled kept id
    unfolding AllFrom IsFrom
    called_from [] k nargs id e = cc
    called_from (i ∷ kept) k nargs id e = by (λ j f. called_from kept j nargs id f) (written_for r place i)
        (role_from i) k e
      where
        by : ((k : ℕ) → slice_get (flat_map (written_for r place) kept) k ≡ Some (insns.Interface nargs id)
            → IsCalled kept id)
            → (is : List NInsn) → AllFrom r i.op is → (k : ℕ)
            → slice_get (is ++ flat_map (written_for r place) kept) k ≡ Some (insns.Interface nargs id)
            → IsCalled (i ∷ kept) id
        by rest [] h k e = let found = rest k e in (suc found.0, found.1, found.2, found.3, found.4, found.5)
        by rest (x ∷ is) h zero e = let same : x ≡ insns.Interface nargs id = cc in let found =
            subst (IsFrom r i.op) same h.0 in (0, i, found.0, refl, found.1, found.2)
        by rest (x ∷ is) h (suc k) e = by rest is h.1 k e
