-- What is written for an instruction has no more bytes than its widest size, with every jump wide.
use Rattle.std.proofs.Common.{◌≡◌, ℕ, zero, suc, ◌+◌, ◌*◌, ◌≤◌, refl, sym, ap, subst, ◌∙◌, arith, Bool, true, false}
use Rattle.std.proofs.Common.{List, [], ◌∷◌, ◌++◌, length}
use Rattle.std.specs.Prelude.{Option, Some, None, map, filter, flat_map, nat_le, slice_get, ◌==◌, if◌then◌else◌, ℤ, pos}
use Rattle.std.specs.Prelude.{negsuc, ◌+ℤ◌}
use Rattle.std.proofs.lemmas.Bool.{eqb-true, leb-true}
use Rattle.cjc_bytes.specs.declared.fault.MemberId.{MemberId}
use Rattle.cjc_script.specs.Sorts.{Sort, Boolean, Byte, Short, Int, Reference, NoValue, Shape, OfClass, OfNumbers}
use Rattle.cjc_script.specs.Sorts.{OfReferences, Booleans, Bytes, Shorts, Ints, field_sort, shape_named}
use Rattle.cjc_card_semantics.specs.Bytecode.Numbers.{is_word}
use Rattle.cjc_range.specs.Words.{low_word}
use Rattle.cjc_card_semantics.specs.CapRead.Opcodes.{form, forms}
use Rattle.cjc_code.specs.declared.insn.JCase.{JCase}
use Rattle.cjc_code.specs.declared.insn.JInsn.{JInsn}
use Rattle.cjc_code.specs.declared.insn.JOp.{JOp}
use Rattle.cjc_code.specs.declared.insn.JOp.TheVariants as jop
use Rattle.cjc_ncode.specs.declared.narrow.NCase.{NCase}
use Rattle.cjc_ncode.specs.declared.narrow.NInsn.{NInsn}
use Rattle.cjc_ncode.specs.declared.narrow.NInsn.TheVariants.{Op, Push, Local, Inc, Words, Named, Interface}
use Rattle.cjc_ncode.specs.Written.{Resolution, arithmetic, array_load, array_store, call_by, field_access, is_byte}
use Rattle.cjc_ncode.specs.Written.{Access, accessed, on_this, this_access, written_for}
use Rattle.cjc_ncode.proofs.WrittenCases.{written_cases}
use Rattle.cjc_ncode.specs.Written.{leaving, local, low_of, nargs_of, on_stack, pair_case, pair_cases, pushed}
use Rattle.cjc_ncode.specs.Written.{pushed_word, static_access, static_by, switched, table_cases, type_test, widest}
use Rattle.cjc_ncode.specs.Written.{widest_sum, written}
use Rattle.cjc_emit.specs.LowerLayout.Sizes.{insn_size, size_by, widest_size}

-- the bytes of instructions, with every jump wide
abbrev pub wide_sum : List NInsn → ℕ
wide_sum [] = 0
wide_sum (i ∷ insns) = insn_size true i + wide_sum insns

pub widest_is : (insns : List NInsn) → widest_size insns ≡ wide_sum insns
widest_is [] = refl
widest_is (i ∷ insns) = ap (λ n. insn_size true i + n) (widest_is insns)

wide_append : (xs ys : List NInsn) → wide_sum (xs ++ ys) ≡ wide_sum xs + wide_sum ys
wide_append [] ys = omega arith
wide_append (x ∷ xs) ys = let rest = wide_append xs ys in omega (arith, rest)

-- a choice of two keeps a bound
if_low : {A : Type 0} (f : A → ℕ) (most : ℕ) (b : Bool) (x y : A) → f x ≤ most → f y ≤ most
    → f (if b then x else y) ≤ most
if_low f most true x y h g = h
if_low f most false x y h g = g

-- the bytes of an opcode with its operands
abbrev bytes : ℕ → ℕ
bytes op = size_by (form op) 0

low : (a b : ℕ) → nat_le a b ≡ true → a ≤ b
low a b e = leb-true a b e

-- ---- by opcode

-- the forms of four locals
short_low : (first l : ℕ) → l ≤ 3 → bytes first ≤ 1 → bytes (first + 1) ≤ 1 → bytes (first + 2) ≤ 1
    → bytes (first + 3) ≤ 1 → bytes (first + l) ≤ 1
short_low first l le a b c d = go l le
  where
    go : (m : ℕ) → m ≤ 3 → bytes (first + m) ≤ 1
    go zero h = let e : first ≡ first + 0 = omega arith in subst (λ n. bytes n ≤ 1) e a
    go (suc zero) h = b
    go (suc (suc zero)) h = c
    go (suc (suc (suc zero))) h = d
    go (suc (suc (suc (suc m)))) h = absurd (omega (arith, h))

local_low : (first long l : ℕ) → bytes first ≤ 1 → bytes (first + 1) ≤ 1 → bytes (first + 2) ≤ 1 → bytes (first + 3) ≤ 1
    → bytes long ≤ 2 → wide_sum (local first long l) ≤ 2
local_low first long l a b c d e = go (nat_le l 3) refl
  where
    go : (p : Bool) → nat_le l 3 ≡ p → insn_size true (if p then Op (first + l) else Local long l) + 0 ≤ 2
    go true f = let le = short_low first l (leb-true l 3 f) a b c d in omega (arith, le)
    go false f = omega (arith, e)

word_low : (z : ℤ) → insn_size true (pushed_word z) ≤ 3
unfolding form forms
word_low (pos n) = go (nat_le n 5) refl
  where
    small : (m : ℕ) → m ≤ 5 → bytes (0x03 + m) ≤ 3
    small zero h = low _ 3 refl
    small (suc zero) h = low _ 3 refl
    small (suc (suc zero)) h = low _ 3 refl
    small (suc (suc (suc zero))) h = low _ 3 refl
    small (suc (suc (suc (suc zero)))) h = low _ 3 refl
    small (suc (suc (suc (suc (suc zero))))) h = low _ 3 refl
    small (suc (suc (suc (suc (suc (suc m)))))) h = absurd (omega (arith, h))

    go : (p : Bool) → nat_le n 5 ≡ p → insn_size true (if p then Op (0x03 + n)
        else (if nat_le n 127 then Push 0x10 (pos n) else Push 0x11 (pos n))) ≤ 3
    go true e = small n (leb-true n 5 e)
    go false e = if_low (insn_size true) 3 (nat_le n 127) (Push 0x10 (pos n)) (Push 0x11 (pos n)) (low _ 3 refl)
        (low _ 3 refl)
word_low (negsuc n) = if_low (insn_size true) 3 (n == 0) (Op 0x02) (if nat_le n 127 then Push 0x10 (negsuc n)
    else Push 0x11 (negsuc n)) (low _ 3 refl)
    (if_low (insn_size true) 3 (nat_le n 127) (Push 0x10 (negsuc n)) (Push 0x11 (negsuc n)) (low _ 3 refl)
    (low _ 3 refl))

pushed_low : (z : ℤ) → wide_sum (pushed z) ≤ 3
pushed_low z = let le = word_low (low_word z) in omega (arith, le)

load_low : (op : ℕ) → bytes (array_load op) ≤ 1
unfolding form forms
load_low op = if_low bytes 1 (op == 0x32) 0x24 (if op == 0x33 then 0x25 else 0x26) (low _ 1 refl)
    (if_low bytes 1 (op == 0x33) 0x25 0x26 (low _ 1 refl) (low _ 1 refl))

store_low : (op : ℕ) → bytes (array_store op) ≤ 1
unfolding form forms
store_low op = if_low bytes 1 (op == 0x53) 0x37 (if op == 0x54 then 0x38 else 0x39) (low _ 1 refl)
    (if_low bytes 1 (op == 0x54) 0x38 0x39 (low _ 1 refl) (low _ 1 refl))

leaving_low : (op : ℕ) → bytes (leaving op) ≤ 1
unfolding form forms
leaving_low op = if_low bytes 1 (op == 0xAC) 0x78 (if op == 0xB0 then 0x77 else 0x7A) (low _ 1 refl)
    (if_low bytes 1 (op == 0xB0) 0x77 0x7A (low _ 1 refl) (low _ 1 refl))

arithmetic_low : (op : ℕ) → bytes (arithmetic op) ≤ 1
unfolding form forms
arithmetic_low op = go (op == 0x60) (op == 0x64) (op == 0x68) (op == 0x6C) (op == 0x70) (op == 0x74) (op == 0x78) (op ==
    0x7A) (op == 0x7C) (op == 0x7E) (op == 0x80)
  where
    go : (a b c d e f g h i j k : Bool)
        → bytes (if a then 0x41
        else (if b then 0x43
        else (if c then 0x45
        else (if d then 0x47 else (if e then 0x49 else (if f then 0x4B else (if g then 0x4D else (if h then 0x4F
        else (if i then 0x51 else (if j then 0x53 else (if k then 0x55 else 0x57))))))))))) ≤ 1
    go true b c d e f g h i j k = low _ 1 refl
    go false true c d e f g h i j k = low _ 1 refl
    go false false true d e f g h i j k = low _ 1 refl
    go false false false true e f g h i j k = low _ 1 refl
    go false false false false true f g h i j k = low _ 1 refl
    go false false false false false true g h i j k = low _ 1 refl
    go false false false false false false true h i j k = low _ 1 refl
    go false false false false false false false true i j k = low _ 1 refl
    go false false false false false false false false true j k = low _ 1 refl
    go false false false false false false false false false true k = low _ 1 refl
    go false false false false false false false false false false true = low _ 1 refl
    go false false false false false false false false false false false = low _ 1 refl

access_low : (put : Bool) (sort : Sort) → bytes (static_access put sort) ≤ 3
unfolding form forms
access_low true Boolean = low _ 3 refl
access_low true Byte = low _ 3 refl
access_low true Short = low _ 3 refl
access_low true Int = low _ 3 refl
access_low true (Reference shape) = low _ 3 refl
access_low true NoValue = low _ 3 refl
access_low false Boolean = low _ 3 refl
access_low false Byte = low _ 3 refl
access_low false Short = low _ 3 refl
access_low false Int = low _ 3 refl
access_low false (Reference shape) = low _ 3 refl
access_low false NoValue = low _ 3 refl

field_low : (put near : Bool) (sort : Sort) → bytes (field_access put near sort) ≤ 3
unfolding form forms
field_low true true Boolean = low _ 3 refl
field_low true true Byte = low _ 3 refl
field_low true true Short = low _ 3 refl
field_low true true Int = low _ 3 refl
field_low true true (Reference shape) = low _ 3 refl
field_low true true NoValue = low _ 3 refl
field_low true false Boolean = low _ 3 refl
field_low true false Byte = low _ 3 refl
field_low true false Short = low _ 3 refl
field_low true false Int = low _ 3 refl
field_low true false (Reference shape) = low _ 3 refl
field_low true false NoValue = low _ 3 refl
field_low false true Boolean = low _ 3 refl
field_low false true Byte = low _ 3 refl
field_low false true Short = low _ 3 refl
field_low false true Int = low _ 3 refl
field_low false true (Reference shape) = low _ 3 refl
field_low false true NoValue = low _ 3 refl
field_low false false Boolean = low _ 3 refl
field_low false false Byte = low _ 3 refl
field_low false false Short = low _ 3 refl
field_low false false Int = low _ 3 refl
field_low false false (Reference shape) = low _ 3 refl
field_low false false NoValue = low _ 3 refl

this_low : (put : Bool) (sort : Sort) → bytes (this_access put sort) ≤ 3
unfolding form forms
this_low true Boolean = low _ 3 refl
this_low true Byte = low _ 3 refl
this_low true Short = low _ 3 refl
this_low true Int = low _ 3 refl
this_low true (Reference shape) = low _ 3 refl
this_low true NoValue = low _ 3 refl
this_low false Boolean = low _ 3 refl
this_low false Byte = low _ 3 refl
this_low false Short = low _ 3 refl
this_low false Int = low _ 3 refl
this_low false (Reference shape) = low _ 3 refl
this_low false NoValue = low _ 3 refl

-- ---- pop to swap

shuffle_high : (n : ℕ) → nat_le n 0x59 ≡ false → (n == 0x5C) ≡ false → widest (jop.Stack n) ≡ 2
shuffle_high n e f = ap (λ b. if b then 1 else (if n == 0x5C then 1 else 2)) e ∙ ap (λ b. if b then 1 else 2) f

stack_low : (n : ℕ) → 0x57 ≤ n → insn_size true (on_stack n) ≤ widest (jop.Stack n)
unfolding form forms
stack_low n le = at57 (n == 0x57) refl
  where
    at_opcode : (m size : ℕ) → (n == m) ≡ true → size ≤ widest (jop.Stack m) → size ≤ widest (jop.Stack n)
    at_opcode m size e h = subst (λ k. size ≤ widest (jop.Stack k)) (sym (eqb-true n m e)) h

    high : (n == 0x57) ≡ false → (n == 0x58) ≡ false → (n == 0x59) ≡ false → (n == 0x5C) ≡ false → widest (jop.Stack n)
        ≡ 2
    high a b c d = past (nat_le n 0x59) refl
      where
        past : (p : Bool) → nat_le n 0x59 ≡ p → widest (jop.Stack n) ≡ 2
        past false e = shuffle_high n e d
        past true e = absurd (none n le (leb-true n 0x59 e) a b c)
          where
            none : (m : ℕ) → 0x57 ≤ m → m ≤ 0x59 → (m == 0x57) ≡ false → (m == 0x58) ≡ false → (m == 0x59) ≡ false → ⊥
            none m h g a b c = grind (arith, h, g, a, b, c)

    two : (e f g h : Bool) → insn_size true (if e then Words 0x3F 1 2 else (if f then Words 0x3F 1 3
        else (if g then Words 0x3F 2 3 else (if h then Words 0x3F 2 4 else Words 0x40 1 1)))) ≤ 2
    two true f g h = low _ 2 refl
    two false true g h = low _ 2 refl
    two false false true h = low _ 2 refl
    two false false false true = low _ 2 refl
    two false false false false = low _ 2 refl

    at5C : (n == 0x57) ≡ false → (n == 0x58) ≡ false → (n == 0x59) ≡ false → (p : Bool) → (n == 0x5C) ≡ p
        → insn_size true (if p then Op 0x3E else (if n == 0x5A then Words 0x3F 1 2
        else (if n == 0x5B then Words 0x3F 1 3 else (if n == 0x5D then Words 0x3F 2 3
        else (if n == 0x5E then Words 0x3F 2 4 else Words 0x40 1 1))))) ≤ widest (jop.Stack n)
    at5C a b c true e = at_opcode 0x5C 1 e (low _ _ refl)
    at5C a b c false e = let is = high a b c e in let le = two (n == 0x5A) (n == 0x5B) (n == 0x5D) (n == 0x5E)
        in omega (arith, is, le)

    at59 : (n == 0x57) ≡ false → (n == 0x58) ≡ false → (p : Bool) → (n == 0x59) ≡ p
        → insn_size true (if p then Op 0x3D else (if n == 0x5C then Op 0x3E else (if n == 0x5A then Words 0x3F 1 2
        else (if n == 0x5B then Words 0x3F 1 3 else (if n == 0x5D then Words 0x3F 2 3
        else (if n == 0x5E then Words 0x3F 2 4 else Words 0x40 1 1)))))) ≤ widest (jop.Stack n)
    at59 a b true e = at_opcode 0x59 1 e (low _ _ refl)
    at59 a b false e = at5C a b e (n == 0x5C) refl

    at58 : (n == 0x57) ≡ false → (p : Bool) → (n == 0x58) ≡ p
        → insn_size true (if p then Op 0x3C else (if n == 0x59 then Op 0x3D else (if n == 0x5C then Op 0x3E
        else (if n == 0x5A then Words 0x3F 1 2 else (if n == 0x5B then Words 0x3F 1 3
        else (if n == 0x5D then Words 0x3F 2 3 else (if n == 0x5E then Words 0x3F 2 4 else Words 0x40 1 1))))))) ≤
        widest (jop.Stack n)
    at58 a true e = at_opcode 0x58 1 e (low _ _ refl)
    at58 a false e = at59 a e (n == 0x59) refl

    at57 : (p : Bool) → (n == 0x57) ≡ p
        → insn_size true (if p then Op 0x3B else (if n == 0x58 then Op 0x3C else (if n == 0x59 then Op 0x3D
        else (if n == 0x5C then Op 0x3E else (if n == 0x5A then Words 0x3F 1 2
        else (if n == 0x5B then Words 0x3F 1 3 else (if n == 0x5D then Words 0x3F 2 3
        else (if n == 0x5E then Words 0x3F 2 4 else Words 0x40 1 1)))))))) ≤ widest (jop.Stack n)
    at57 true e = at_opcode 0x57 1 e (low _ _ refl)
    at57 false e = at58 e (n == 0x58) refl

-- ---- switches

table_few : (place : ℕ → ℕ) (first : ℤ) (ts : List ℕ) → length (table_cases place first ts) ≤ length ts
table_few place first [] = omega arith
table_few place first (t ∷ ts) = go (is_word first) (table_few place (first +ℤ pos 1) ts)
  where
    go : (b : Bool) → length (table_cases place (first +ℤ pos 1) ts) ≤ length ts
        → length (if b then record { value = first; target = place t } ∷ table_cases place (first +ℤ pos 1) ts
        else table_cases place (first +ℤ pos 1) ts) ≤ suc (length ts)
    go true h = omega (arith, h)
    go false h = omega (arith, h)

pub pair_few : (place : ℕ → ℕ) (cases : List JCase) → length (pair_cases place cases) ≤ length cases
pair_few place [] = omega arith
pair_few place (c ∷ cases) = go (is_word c.value) (pair_few place cases)
  where
    go : (b : Bool) → length (map (pair_case place) (filter (λ d. is_word d.value) cases)) ≤ length cases
        → length (map (pair_case place) (if b then c ∷ filter (λ d. is_word d.value) cases
        else filter (λ d. is_word d.value) cases)) ≤ suc (length cases)
    go true h = omega (arith, h)
    go false h = omega (arith, h)

table_low : (other : ℕ) (first : ℤ) (cases : List NCase) (n : ℕ) → length cases ≤ n
    → wide_sum (switched 0x73 other first cases) ≤ 7 + 2 * n
unfolding form forms
table_low other first [] n h = omega arith
table_low other first (c ∷ cases) n h = omega (arith, h)

lookup_low : (other : ℕ) (first : ℤ) (cases : List NCase) (n : ℕ) → length cases ≤ n
    → wide_sum (switched 0x75 other first cases) ≤ 5 + 4 * n
unfolding form forms
lookup_low other first [] n h = omega arith
lookup_low other first (c ∷ cases) n h = omega (arith, h)

-- ---- an instruction

module _ (r : Resolution) (place : ℕ → ℕ) where
  static_low : (put : Bool) (f : MemberId) (constant : Option ℤ) → wide_sum (static_by r put f constant) ≤ 3
  static_low put f (Some z) = pushed_low z
  static_low put f None = let le = access_low put (field_sort f.desc) in omega (arith, le)

  call_low : (op : ℕ) (m : MemberId) → wide_sum (call_by r op m) ≤ (if op == 0xB9 then 5 else 3)
  unfolding form forms
  call_low op m = go (op == 0xB9) (op == 0xB6) (op == 0xB7)
    where
      go : (a b c : Bool) → wide_sum ((if a then Interface (nargs_of m) (r.interface m)
          else (if b then Named 0x8B (r.virtual m) else (if c then Named 0x8C (r.special m)
          else Named 0x8D (r.static m)))) ∷ []) ≤ (if a then 5 else 3)
      go true b c = low _ 5 refl
      go false true c = low _ 3 refl
      go false false true = low _ 3 refl
      go false false false = low _ 3 refl

  test_low : (op : ℕ) → bytes op ≤ 4 → (type : Option (Shape (List ℕ))) → wide_sum (type_test op type) ≤ 4
  test_low op h None = omega arith
  test_low op h (Some (OfClass class)) = omega (arith, h)
  test_low op h (Some (OfReferences class)) = omega (arith, h)
  test_low op h (Some (OfNumbers Booleans)) = omega (arith, h)
  test_low op h (Some (OfNumbers Bytes)) = omega (arith, h)
  test_low op h (Some (OfNumbers Shorts)) = omega (arith, h)
  test_low op h (Some (OfNumbers Ints)) = omega (arith, h)

  narrow_low : (b : Bool) → wide_sum (if b then Op 0x5B ∷ [] else []) ≤ (if b then 1 else 0)
  unfolding form forms
  narrow_low true = low _ 1 refl
  narrow_low false = omega arith

  inc_low : (b : Bool) (l : ℕ) (by : ℤ) → wide_sum (Inc (if b then 0x59 else 0x96) l by ∷ []) ≤ 4
  unfolding form forms
  inc_low true l by = low _ 4 refl
  inc_low false l by = low _ 4 refl

  op_low : (op : JOp) → ((n : ℕ) → op ≡ jop.Stack n → 0x57 ≤ n) → wide_sum (written r place op) ≤ widest op
  unfolding form forms
  op_low jop.Nop h = omega arith
  op_low jop.Null h = low _ 1 refl
  op_low (jop.Number z) h = pushed_low z
  op_low (jop.Load false l) h = local_low 0x1C 0x16 l (low _ 1 refl) (low _ 1 refl) (low _ 1 refl) (low _ 1 refl)
      (low _ 2 refl)
  op_low (jop.Load true l) h = local_low 0x18 0x15 l (low _ 1 refl) (low _ 1 refl) (low _ 1 refl) (low _ 1 refl)
      (low _ 2 refl)
  op_low (jop.Store false l) h = local_low 0x2F 0x29 l (low _ 1 refl) (low _ 1 refl) (low _ 1 refl) (low _ 1 refl)
      (low _ 2 refl)
  op_low (jop.Store true l) h = local_low 0x2B 0x28 l (low _ 1 refl) (low _ 1 refl) (low _ 1 refl) (low _ 1 refl)
      (low _ 2 refl)
  op_low (jop.ArrayLoad op) h = let le = load_low op in omega (arith, le)
  op_low (jop.ArrayStore op) h = let le = store_low op in omega (arith, le)
  op_low (jop.Stack op) h = let le = stack_low op (h op refl) in omega (arith, le)
  op_low (jop.Arith op) h = let le = arithmetic_low op in omega (arith, le)
  op_low (jop.Inc l by) h = inc_low (is_byte by) l by
  op_low (jop.Narrow op) h = narrow_low (op == 0x91)
  op_low (jop.If op target) h = omega arith
  op_low (jop.Goto target) h = omega arith
  op_low (jop.TableSwitch other first ts) h = table_low (place other) (low_of (table_cases place first ts))
      (table_cases place first ts) (length ts) (table_few place first ts)
  op_low (jop.LookupSwitch other cases) h = lookup_low (place other) (pos 0) (pair_cases place cases) (length cases)
      (pair_few place cases)
  op_low (jop.Return op) h = let le = leaving_low op in omega (arith, le)
  op_low (jop.Static put f) h = static_low put f (r.constant f)
  op_low (jop.Field put f) h = let le = field_low put (r.is_near f) (field_sort f.desc) in omega (arith, le)
  op_low (jop.Call op m) h = call_low op m
  op_low (jop.New class) h = low _ 3 refl
  op_low (jop.NewArray kind) h = low _ 3 refl
  op_low (jop.ANewArray class) h = low _ 3 refl
  op_low jop.ArrayLength h = low _ 1 refl
  op_low jop.Throw h = low _ 1 refl
  op_low (jop.CheckCast class) h = test_low 0x94 (low _ 4 refl) (shape_named class)
  op_low (jop.InstanceOf class) h = test_low 0x95 (low _ 4 refl) (shape_named class)

  role_low : (i : JInsn) → ((n : ℕ) → i.op ≡ jop.Stack n → 0x57 ≤ n) → wide_sum (written_for r place i) ≤ widest i.op
  unfolding form forms
  role_low i h = written_cases (λ xs. wide_sum xs ≤ widest i.op) (r.role i.at) r place i.op (λ e. omega arith)
      (op_low i.op h) (λ a e. access i.op a e)
    where
      access : (op : JOp) (a : Access) → accessed op ≡ Some a → wide_sum (on_this r place op (Some a)) ≤ widest op
      access (jop.Field put f) a e =
          let field = a.field in
          let le = this_low a.put (field_sort field.desc) in omega (arith, le)
      access op a e = cc

  -- of instructions whose stack instructions are pop to swap
  pub code_low : (kept : List JInsn) → ((k n : ℕ) (i : JInsn) → slice_get kept k ≡ Some i → i.op ≡ jop.Stack n
      → 0x57 ≤ n) → wide_sum (flat_map (written_for r place) kept) ≤ widest_sum kept
  code_low [] h = omega arith
  code_low (i ∷ kept) h =
      let both = wide_append (written_for r place i) (flat_map (written_for r place) kept) in
      let first = role_low i (λ n e. h 0 n i refl e) in
      let rest = code_low kept (λ k n j e f. h (suc k) n j e f) in
      omega (arith, both, first, rest)
