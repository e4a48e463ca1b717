-- What is written for an instruction in int mode has no more bytes than its widest size, with every jump wide.
use Rattle.std.proofs.Common.{◌≡◌, ℕ, zero, suc, ◌+◌, ◌-◌, ◌*◌, ◌≤◌, refl, ap, subst, arith, Bool, true, false}
use Rattle.std.proofs.Common.{List, [], ◌∷◌, ◌++◌, length}
use Rattle.std.specs.Prelude.{Option, Some, None, map, take, nat_le, ◌==◌, if◌then◌else◌, ℤ, pos, negsuc, ◌+ℤ◌, sum_by}
use Rattle.std.specs.List.{list_any}
use Rattle.std.proofs.lemmas.Bool.{leb-true}
use Rattle.std.proofs.lemmas.List.Sums.{sum_by-cons}
use Rattle.cjc_types.proofs.BytesLists.{length_mapped}
use Rattle.cjc_types.specs.Bytes.declared.fault.MemberId.{MemberId}
use Rattle.cjc_layout.specs.Script.Sorts.{Sort, Boolean, Byte, Short, Int, Reference, NoValue, Shape, OfClass}
use Rattle.cjc_layout.specs.Script.Sorts.{OfNumbers}
use Rattle.cjc_layout.specs.Script.Sorts.{OfReferences, Booleans, Bytes, Shorts, Ints, Signature, field_sort}
use Rattle.cjc_layout.specs.Script.Sorts.{shape_named, signature_of}
use Rattle.cjc_layout.specs.CardSemantics.Bytecode.Arguments.{widths}
use Rattle.cjc_layout.specs.CapRead.Card as card
use Rattle.cjc_layout.specs.CapRead.Opcodes.{form, forms}
use Rattle.cjc_types.specs.ClassFile.Code.{CodeTree}
use Rattle.cjc_types.specs.Bytecode.Jvm as jvm
use Rattle.cjc_types.specs.Bytecode.declared.insn.JOp.{JOp}
use Rattle.cjc_types.specs.Bytecode.declared.insn.JOp.TheVariants as jop
use Rattle.cjc_ncode.specs.declared.narrow.NCase.{NCase}
use Rattle.cjc_ncode.specs.declared.narrow.NInsn.{NInsn}
use Rattle.cjc_ncode.specs.declared.narrow.NInsn.TheVariants.{Op, Push, Local, Inc, Words, Jump, Switch, Named}
use Rattle.cjc_ncode.specs.declared.narrow.NInsn.TheVariants.{Interface}
use Rattle.cjc_ncode.specs.declared.narrow.PoolKey.TheVariants as keys
use Rattle.cjc_ncode.specs.Written.{Resolution, arithmetic, call_by, condition, field_access, is_byte, leaving, local}
use Rattle.cjc_ncode.specs.Written.{nargs_of, pair_case, static_access, type_test}
use Rattle.cjc_ncode.specs.IntCode.IntCode.{Before, Frame, Reached, called_with, copied, dropped, element_read}
use Rattle.cjc_ncode.specs.IntCode.IntCode.{element_written, field_get, field_put, first_word, guard, handed_over}
use Rattle.cjc_ncode.specs.IntCode.IntCode.{index_of_one, index_of_two, int_method, is_by_scratch, is_reference}
use Rattle.cjc_ncode.specs.IntCode.IntCode.{is_short, jumped, loads, moved, moved_from, narrowed, on_stack, params_by}
use Rattle.cjc_ncode.specs.IntCode.IntCode.{place_in, prologue, pushed, put_aside, returned, scratch, static_get}
use Rattle.cjc_ncode.specs.IntCode.IntCode.{static_put, stores, table_cases, taken_back, widened, widened_result}
use Rattle.cjc_ncode.specs.IntCode.IntCode.{widest, widest_get, words, written, written_from}
use Rattle.cjc_layout.specs.Sizes.{insn_size, size_by, widest_size}

-- the bytes of instructions, with every jump wide
abbrev wide_sum : List NInsn → ℕ
wide_sum [] = 0
wide_sum (i ∷ insns) = insn_size true i + wide_sum insns

widest_is : (insns : List NInsn) → widest_size insns ≡ wide_sum insns
widest_is [] = refl
widest_is (i ∷ insns) = ap (λ n. insn_size true i + n) (widest_is insns)

wide_append : (xs ys : List NInsn) → wide_sum (xs ++ ys) ≡ wide_sum xs + wide_sum ys
wide_append [] ys = omega arith
wide_append (x ∷ xs) ys = let rest = wide_append xs ys in omega (arith, rest)

-- a choice of two keeps a bound
if_low : {A : Type 0} (f : A → ℕ) (most : ℕ) (b : Bool) (x y : A) → f x ≤ most → f y ≤ most
    → f (if b then x else y) ≤ most
if_low f most true x y h g = h
if_low f most false x y h g = g

-- the bytes of an opcode with its operands
abbrev bytes : ℕ → ℕ
bytes op = size_by (form op) 0

low : (a b : ℕ) → nat_le a b ≡ true → a ≤ b
low a b e = leb-true a b e

-- ---- by opcode

-- the forms of four locals
short_low : (first l : ℕ) → l ≤ 3 → bytes first ≤ 1 → bytes (first + 1) ≤ 1 → bytes (first + 2) ≤ 1
    → bytes (first + 3) ≤ 1 → bytes (first + l) ≤ 1
short_low first l le a b c d = go l le
  where
    go : (m : ℕ) → m ≤ 3 → bytes (first + m) ≤ 1
    go zero h = let e : first ≡ first + 0 = omega arith in subst (λ n. bytes n ≤ 1) e a
    go (suc zero) h = b
    go (suc (suc zero)) h = c
    go (suc (suc (suc zero))) h = d
    go (suc (suc (suc (suc m)))) h = absurd (omega (arith, h))

local_low : (first long l : ℕ) → bytes first ≤ 1 → bytes (first + 1) ≤ 1 → bytes (first + 2) ≤ 1 → bytes (first + 3) ≤ 1
    → bytes long ≤ 2 → wide_sum (local first long l) ≤ 2
local_low first long l a b c d e = go (nat_le l 3) refl
  where
    go : (p : Bool) → nat_le l 3 ≡ p → insn_size true (if p then Op (first + l) else Local long l) + 0 ≤ 2
    go true f = let le = short_low first l (leb-true l 3 f) a b c d in omega (arith, le)
    go false f = omega (arith, e)

-- the widest sizes that the definition chooses from
abbrev widest_read : ℕ → ℕ
widest_read op = if op == jvm.iaload then 12 else (if op == jvm.aaload then 12 else 13)

abbrev widest_store : ℕ → ℕ
widest_store op = if op == jvm.iastore then 16 else (if op == jvm.aastore then 16 else 17)

abbrev widest_jump : ℕ → ℕ
widest_jump op = if nat_le op jvm.ifle then 5 else (if nat_le op jvm.if_icmple then 4 else 3)

pushed_low : (z : ℤ) → insn_size true (pushed z) ≤ 5
unfolding form forms
pushed_low (pos n) = go (nat_le n 5) refl
  where
    small : (m : ℕ) → m ≤ 5 → bytes (0x0A + m) ≤ 5
    small zero h = low _ 5 refl
    small (suc zero) h = low _ 5 refl
    small (suc (suc zero)) h = low _ 5 refl
    small (suc (suc (suc zero))) h = low _ 5 refl
    small (suc (suc (suc (suc zero)))) h = low _ 5 refl
    small (suc (suc (suc (suc (suc zero))))) h = low _ 5 refl
    small (suc (suc (suc (suc (suc (suc m)))))) h = absurd (omega (arith, h))

    go : (p : Bool) → nat_le n 5 ≡ p → insn_size true (if p then Op (0x0A + n) else (if nat_le n 127
        then Push 0x12 (pos n) else (if nat_le n 32767 then Push 0x13 (pos n) else Push 0x14 (pos n)))) ≤ 5
    go true e = small n (leb-true n 5 e)
    go false e = if_low (insn_size true) 5 (nat_le n 127) (Push 0x12 (pos n)) (if nat_le n 32767 then Push 0x13 (pos n)
        else Push 0x14 (pos n)) (low _ 5 refl) (if_low (insn_size true) 5 (nat_le n 32767) (Push 0x13 (pos n))
        (Push 0x14 (pos n)) (low _ 5 refl) (low _ 5 refl))
pushed_low (negsuc n) = if_low (insn_size true) 5 (n == 0) (Op 0x09) (if nat_le n 127 then Push 0x12 (negsuc n)
    else (if nat_le n 32767 then Push 0x13 (negsuc n) else Push 0x14 (negsuc n))) (low _ 5 refl)
    (if_low (insn_size true) 5 (nat_le n 127) (Push 0x12 (negsuc n)) (if nat_le n 32767 then Push 0x13 (negsuc n)
    else Push 0x14 (negsuc n)) (low _ 5 refl) (if_low (insn_size true) 5 (nat_le n 32767) (Push 0x13 (negsuc n))
    (Push 0x14 (negsuc n)) (low _ 5 refl) (low _ 5 refl)))

-- ---- locals

loads_low : (refs : Bool) (n : ℕ) → wide_sum (loads refs n) ≤ 2
unfolding form forms
loads_low false n = local_low 0x20 0x17 n (low _ 1 refl) (low _ 1 refl) (low _ 1 refl) (low _ 1 refl) (low _ 2 refl)
loads_low true n = local_low 0x18 0x15 n (low _ 1 refl) (low _ 1 refl) (low _ 1 refl) (low _ 1 refl) (low _ 2 refl)

stores_low : (refs : Bool) (n : ℕ) → wide_sum (stores refs n) ≤ 2
unfolding form forms
stores_low false n = local_low 0x33 0x2A n (low _ 1 refl) (low _ 1 refl) (low _ 1 refl) (low _ 1 refl) (low _ 2 refl)
stores_low true n = local_low 0x2B 0x28 n (low _ 1 refl) (low _ 1 refl) (low _ 1 refl) (low _ 1 refl) (low _ 2 refl)

shorts_low : (n : ℕ) → wide_sum (local 0x1C 0x16 n) ≤ 2
unfolding form forms
shorts_low n = local_low 0x1C 0x16 n (low _ 1 refl) (low _ 1 refl) (low _ 1 refl) (low _ 1 refl) (low _ 2 refl)

if_one : (b : Bool) (op : ℕ) → bytes op ≤ 1 → wide_sum (if b then Op op ∷ [] else []) ≤ 1
if_one true op h = omega (arith, h)
if_one false op h = omega arith

widened_low : (s : Sort) → wide_sum (widened s) ≤ 1
unfolding form forms
widened_low s = if_one (is_short s) 0x5C (low _ 1 refl)

narrowed_low : (s : Sort) → wide_sum (narrowed s) ≤ 1
unfolding form forms
narrowed_low s = if_one (is_short s) 0x5E (low _ 1 refl)

-- ---- the prologue

moved_low : (f : Frame) (s : Sort) (word l : ℕ) → wide_sum (moved f s word l) ≤ 5
moved_low f s word l =
    let first : List NInsn = if is_short s then local card.sload_0 card.sload word else loads (is_reference s) word in
    let last : List NInsn = stores (is_reference s) (first_word f l) in
    let a = if_low wide_sum 2 (is_short s) (local card.sload_0 card.sload word) (loads (is_reference s) word)
    (shorts_low word) (loads_low (is_reference s) word) in
    let b = widened_low s in
    let c = stores_low (is_reference s) (first_word f l) in
    let both = wide_append (first ++ widened s) last in
    let behind = wide_append first (widened s) in
    omega (arith, a, b, c, both, behind)

moves_low : (f : Frame) (word l : ℕ) (sorts : List Sort) → wide_sum (moved_from f word l sorts) ≤ 5 * length sorts
moves_low f word l [] = omega arith
moves_low f word l (s ∷ sorts) =
    let first = moved_low f s word l in
    let rest = moves_low f (word + widths (s ∷ [])) (l + 1) sorts in
    let both = wide_append (moved f s word l) (moved_from f (word + widths (s ∷ [])) (l + 1) sorts) in
    omega (arith, first, rest, both)

-- ---- elements

guard_low : (inside : Bool) (here : ℕ) → wide_sum (guard inside here) ≤ 11
unfolding form forms
guard_low true here = low _ 11 refl
guard_low false here = low _ 11 refl

one_low : (inside : Bool) (here : ℕ) → wide_sum (index_of_one inside here) ≤ 15
unfolding form forms
one_low true here = low _ 15 refl
one_low false here = low _ 15 refl

two_low : (inside : Bool) (here : ℕ) → wide_sum (index_of_two inside here) ≤ 15
unfolding form forms
two_low true here = low _ 15 refl
two_low false here = low _ 15 refl

read_low : (inside : Bool) (here op : ℕ) → wide_sum (guard inside here ++ element_read op) ≤ widest_read op
unfolding form forms
read_low inside here op = go (op == jvm.iaload) (op == jvm.aaload) (op == jvm.baload)
  where
    before : (back : List NInsn) (n : ℕ) → wide_sum back ≤ n → wide_sum (guard inside here ++ back) ≤ 11 + n
    before back n h =
        let front = guard_low inside here in
        let both = wide_append (guard inside here) back in omega (arith, h, front, both)

    go : (a b c : Bool) → wide_sum (guard inside here ++ (if a then Op card.iaload ∷ [] else (if b
        then Op card.aaload ∷ [] else (if c then Op card.baload ∷ Op card.s2i ∷ [] else Op card.saload ∷ Op card.s2i
        ∷ [])))) ≤ (if a then 12 else (if b then 12 else 13))
    go true b c = before (Op card.iaload ∷ []) 1 (low _ 1 refl)
    go false true c = before (Op card.aaload ∷ []) 1 (low _ 1 refl)
    go false false true = before (Op card.baload ∷ Op card.s2i ∷ []) 2 (low _ 2 refl)
    go false false false = before (Op card.saload ∷ Op card.s2i ∷ []) 2 (low _ 2 refl)

store_low : (inside : Bool) (here op : ℕ) → wide_sum (element_written op inside here) ≤ widest_store op
unfolding form forms
store_low inside here op = go (op == jvm.iastore) (op == jvm.aastore) (op == jvm.bastore)
  where
    one : (at o : ℕ) → bytes o ≤ 1 → wide_sum (index_of_one inside at ++ Op o ∷ []) ≤ 16
    one at o h =
        let front = one_low inside at in
        let both = wide_append (index_of_one inside at) (Op o ∷ []) in omega (arith, h, front, both)

    two : (at o : ℕ) → bytes o ≤ 1 → wide_sum (index_of_two inside at ++ Op o ∷ []) ≤ 16
    two at o h =
        let front = two_low inside at in
        let both = wide_append (index_of_two inside at) (Op o ∷ []) in omega (arith, h, front, both)

    cut : (o : ℕ) → bytes o ≤ 1 → wide_sum (Op card.i2s ∷ (index_of_one inside (here + 1) ++ Op o ∷ [])) ≤ 17
    cut o h =
        let rest = one (here + 1) o h in
        let first : bytes card.i2s ≤ 1 = low _ 1 refl in omega (arith, rest, first)

    go : (a b c : Bool) → wide_sum (if a then index_of_two inside here ++ Op card.iastore ∷ [] else (if b
        then index_of_one inside here ++ Op card.aastore ∷ [] else Op card.i2s ∷ (index_of_one inside (here + 1)
        ++ Op (if c then card.bastore else card.sastore) ∷ []))) ≤ (if a then 16 else (if b then 16 else 17))
    go true b c = two here card.iastore (low _ 1 refl)
    go false true c = one here card.aastore (low _ 1 refl)
    go false false true = cut card.bastore (low _ 1 refl)
    go false false false = cut card.sastore (low _ 1 refl)

-- ---- the stack

dropped_low : (r : Bool) → insn_size true (dropped r) ≤ 1
unfolding form forms
dropped_low true = low _ 1 refl
dropped_low false = low _ 1 refl

drops_low : (n : ℕ) (references : List Bool) → wide_sum (map dropped (take n references)) ≤ n
drops_low zero references = omega arith
drops_low (suc n) [] = omega arith
drops_low (suc n) (r ∷ references) =
    let first = dropped_low r in let rest = drops_low n references in omega (arith, first, rest)

copied_low : (w : ℕ) → insn_size true (copied w) ≤ 2
unfolding form forms
copied_low w = if_low (insn_size true) 2 (w == 1) (Op 0x3D) (if w == 2 then Op 0x3E else Words 0x3F w 0) (low _ 2 refl)
    (if_low (insn_size true) 2 (w == 2) (Op 0x3E) (Words 0x3F w 0) (low _ 2 refl) (low _ 2 refl))

stack_low : (op : ℕ) (references : List Bool) → wide_sum (on_stack op references) ≤ 2
unfolding form forms
stack_low op references = go (op == jvm.pop) (op == jvm.pop2) (op == jvm.dup) (op == jvm.dup2) (op == jvm.dup_x1)
    (op == jvm.dup_x2) (op == jvm.dup2_x1) (op == jvm.dup2_x2)
  where
    one : (i : NInsn) → insn_size true i ≤ 2 → wide_sum (i ∷ []) ≤ 2
    one i h = omega (arith, h)

    go : (a b c d e f g h : Bool) → wide_sum (if a then map dropped (take 1 references) else (if b
        then map dropped (take 2 references) else (if c then copied (words 1 references) ∷ [] else (if d
        then copied (words 2 references) ∷ []
        else (if e then Words card.dup_x (words 1 references) (words 2 references) ∷ []
        else (if f then Words card.dup_x (words 1 references) (words 3 references) ∷ []
        else (if g then Words card.dup_x (words 2 references) (words 3 references) ∷ []
        else (if h then Words card.dup_x (words 2 references) (words 4 references) ∷ []
        else Words card.swap_x (words 1 references) (words 2 references - words 1 references) ∷ [])))))))) ≤ 2
    go true b c d e f g h = let le = drops_low 1 references in omega (arith, le)
    go false true c d e f g h = drops_low 2 references
    go false false true d e f g h = one (copied (words 1 references)) (copied_low (words 1 references))
    go false false false true e f g h = one (copied (words 2 references)) (copied_low (words 2 references))
    go false false false false true f g h = low _ 2 refl
    go false false false false false true g h = low _ 2 refl
    go false false false false false false true h = low _ 2 refl
    go false false false false false false false true = low _ 2 refl
    go false false false false false false false false = low _ 2 refl

-- ---- arithmetic, jumps and returns

arithmetic_low : (op : ℕ) → bytes (arithmetic op + 1) ≤ 1
unfolding form forms
arithmetic_low op = go (op == 0x60) (op == 0x64) (op == 0x68) (op == 0x6C) (op == 0x70) (op == 0x74) (op == 0x78) (op ==
    0x7A) (op == 0x7C) (op == 0x7E) (op == 0x80)
  where
    go : (a b c d e f g h i j k : Bool)
        → bytes ((if a then 0x41
        else (if b then 0x43
        else (if c then 0x45
        else (if d then 0x47 else (if e then 0x49 else (if f then 0x4B else (if g then 0x4D else (if h then 0x4F
        else (if i then 0x51 else (if j then 0x53 else (if k then 0x55 else 0x57))))))))))) + 1) ≤ 1
    go true b c d e f g h i j k = low _ 1 refl
    go false true c d e f g h i j k = low _ 1 refl
    go false false true d e f g h i j k = low _ 1 refl
    go false false false true e f g h i j k = low _ 1 refl
    go false false false false true f g h i j k = low _ 1 refl
    go false false false false false true g h i j k = low _ 1 refl
    go false false false false false false true h i j k = low _ 1 refl
    go false false false false false false false true i j k = low _ 1 refl
    go false false false false false false false false true j k = low _ 1 refl
    go false false false false false false false false false true k = low _ 1 refl
    go false false false false false false false false false false true = low _ 1 refl
    go false false false false false false false false false false false = low _ 1 refl

narrow_low : (b : Bool) → wide_sum (Op (if b then 0x5D else 0x5E) ∷ Op 0x5C ∷ []) ≤ 2
unfolding form forms
narrow_low true = low _ 2 refl
narrow_low false = low _ 2 refl

inc_low : (b : Bool) (l : ℕ) (by : ℤ) → wide_sum (Inc (if b then 0x5A else 0x97) l by ∷ []) ≤ 4
unfolding form forms
inc_low true l by = low _ 4 refl
inc_low false l by = low _ 4 refl

jump_low : (op target : ℕ) → wide_sum (jumped op target) ≤ widest_jump op
unfolding form forms
jump_low op target = go (nat_le op jvm.ifle) (nat_le op jvm.if_icmple)
  where
    go : (a b : Bool) → wide_sum (if a then Op card.iconst_0 ∷ Op card.icmp ∷ Jump (card.ifeq + (op - jvm.ifeq)) target
        ∷ [] else (if b then Op card.icmp ∷ Jump (card.ifeq + (op - jvm.if_icmpeq)) target ∷ []
        else Jump (condition op) target ∷ [])) ≤ (if a then 5 else (if b then 4 else 3))
    go true b = low _ 5 refl
    go false true = low _ 4 refl
    go false false = low _ 3 refl

leaving_low : (op : ℕ) → bytes (leaving op) ≤ 1
unfolding form forms
leaving_low op = if_low bytes 1 (op == 0xAC) 0x78 (if op == 0xB0 then 0x77 else 0x7A) (low _ 1 refl)
    (if_low bytes 1 (op == 0xB0) 0x77 0x7A (low _ 1 refl) (low _ 1 refl))

returned_low : (result : Option Sort) → wide_sum (returned result) ≤ 2
unfolding form forms
returned_low None = low _ 2 refl
returned_low (Some Boolean) = low _ 2 refl
returned_low (Some Byte) = low _ 2 refl
returned_low (Some Short) = low _ 2 refl
returned_low (Some Int) = low _ 2 refl
returned_low (Some (Reference shape)) = low _ 2 refl
returned_low (Some NoValue) = low _ 2 refl

return_low : (b : Bool) (op : ℕ) (result : Option Sort) → wide_sum (if b then returned result else Op (leaving op) ∷ [])
    ≤ (if b then 2 else 1)
return_low true op result = returned_low result
return_low false op result = let le = leaving_low op in omega (arith, le)

-- ---- switches

table_long : (place : ℕ → ℕ) (first : ℤ) (ts : List ℕ) → length (table_cases place first ts) ≡ length ts
table_long place first [] = refl
table_long place first (t ∷ ts) = ap suc (table_long place (first +ℤ pos 1) ts)

table_low : (other : ℕ) (first : ℤ) (cases : List NCase) → wide_sum (Switch 0x74 other first cases ∷ []) ≤ 11 + 2 *
    length cases
unfolding form forms
table_low other first cases = omega arith

lookup_low : (other : ℕ) (first : ℤ) (cases : List NCase) → wide_sum (Switch 0x76 other first cases ∷ []) ≤ 5 + 6 *
    length cases
unfolding form forms
lookup_low other first cases = omega arith

-- ---- fields

access_low : (put : Bool) (sort : Sort) → bytes (static_access put sort) ≤ 3
unfolding form forms
access_low true Boolean = low _ 3 refl
access_low true Byte = low _ 3 refl
access_low true Short = low _ 3 refl
access_low true Int = low _ 3 refl
access_low true (Reference shape) = low _ 3 refl
access_low true NoValue = low _ 3 refl
access_low false Boolean = low _ 3 refl
access_low false Byte = low _ 3 refl
access_low false Short = low _ 3 refl
access_low false Int = low _ 3 refl
access_low false (Reference shape) = low _ 3 refl
access_low false NoValue = low _ 3 refl

field_low : (put near : Bool) (sort : Sort) → bytes (field_access put near sort) ≤ 3
unfolding form forms
field_low true true Boolean = low _ 3 refl
field_low true true Byte = low _ 3 refl
field_low true true Short = low _ 3 refl
field_low true true Int = low _ 3 refl
field_low true true (Reference shape) = low _ 3 refl
field_low true true NoValue = low _ 3 refl
field_low true false Boolean = low _ 3 refl
field_low true false Byte = low _ 3 refl
field_low true false Short = low _ 3 refl
field_low true false Int = low _ 3 refl
field_low true false (Reference shape) = low _ 3 refl
field_low true false NoValue = low _ 3 refl
field_low false true Boolean = low _ 3 refl
field_low false true Byte = low _ 3 refl
field_low false true Short = low _ 3 refl
field_low false true Int = low _ 3 refl
field_low false true (Reference shape) = low _ 3 refl
field_low false true NoValue = low _ 3 refl
field_low false false Boolean = low _ 3 refl
field_low false false Byte = low _ 3 refl
field_low false false Short = low _ 3 refl
field_low false false Int = low _ 3 refl
field_low false false (Reference shape) = low _ 3 refl
field_low false false NoValue = low _ 3 refl

module _ (r : Resolution) where
  got_low : (f : MemberId) (constant : Option ℤ) → wide_sum (static_get r f constant) ≤ widest_get constant
  got_low f (Some z) = let le = pushed_low z in omega (arith, le)
  got_low f None =
      let s = field_sort f.desc in
      let a = access_low false s in
      let b = widened_low s in omega (arith, a, b)

  static_low : (put : Bool) (f : MemberId) → wide_sum (if put then static_put r f else static_get r f (r.constant f)) ≤
      (if put then 4 else widest_get (r.constant f))
  static_low true f =
      let s = field_sort f.desc in
      let i : NInsn = Named (static_access true s) (keys.StaticField (r.field f)) in
      let a = access_low true s in
      let b = narrowed_low s in
      let both = wide_append (narrowed s) (i ∷ []) in omega (arith, a, b, both)
  static_low false f = got_low f (r.constant f)

  instance_low : (put : Bool) (f : MemberId) → wide_sum (if put then field_put r f else field_get r f) ≤ 4
  instance_low true f =
      let s = field_sort f.desc in
      let i : NInsn = Named (field_access true (r.is_near f) s) (keys.Field (r.field f)) in
      let a = field_low true (r.is_near f) s in
      let b = narrowed_low s in
      let both = wide_append (narrowed s) (i ∷ []) in omega (arith, a, b, both)
  instance_low false f =
      let s = field_sort f.desc in
      let a = field_low false (r.is_near f) s in
      let b = widened_low s in omega (arith, a, b)

-- ---- calls

asides_low : (f : Frame) (j : ℕ) (sorts : List Sort) → wide_sum (put_aside f j sorts) ≤ 2 * length sorts
asides_low f j [] = omega arith
asides_low f j (s ∷ sorts) =
    let rest = asides_low f (j + 1) sorts in
    let last = stores_low (is_reference s) (scratch f j) in
    let both = wide_append (put_aside f (j + 1) sorts) (stores (is_reference s) (scratch f j)) in
    omega (arith, rest, last, both)

backs_low : (f : Frame) (j : ℕ) (sorts : List Sort) → wide_sum (taken_back f j sorts) ≤ 3 * length sorts
backs_low f j [] = omega arith
backs_low f j (s ∷ sorts) =
    let first : List NInsn = loads (is_reference s) (scratch f j) in
    let a = loads_low (is_reference s) (scratch f j) in
    let b = narrowed_low s in
    let rest = backs_low f (j + 1) sorts in
    let both = wide_append (first ++ narrowed s) (taken_back f (j + 1) sorts) in
    let behind = wide_append first (narrowed s) in
    omega (arith, a, b, rest, both, behind)

any_one : (sorts : List Sort) → list_any is_short sorts ≡ true → 1 ≤ length sorts
any_one [] e = absurd cc
any_one (s ∷ sorts) e = omega arith

handed_low : (f : Frame) (params : List Sort) → wide_sum (handed_over f params) ≤ 5 * length params
unfolding form forms
handed_low f params = go (is_by_scratch params) (list_any is_short params) refl
  where
    go : (a b : Bool) → list_any is_short params ≡ b → wide_sum (if a then put_aside f 0 params ++ taken_back f 0 params
        else (if b then Op card.i2s ∷ [] else [])) ≤ 5 * length params
    go true b e =
        let front = asides_low f 0 params in
        let back = backs_low f 0 params in
        let both = wide_append (put_aside f 0 params) (taken_back f 0 params) in omega (arith, front, back, both)
    go false true e =
        let some = any_one params e in
        let first : bytes card.i2s ≤ 1 = low _ 1 refl in omega (arith, some, first)
    go false false e = omega arith

result_low : (result : Option Sort) → wide_sum (widened_result result) ≤ 1
result_low None = omega arith
result_low (Some s) = widened_low s

module _ (f : Frame) (r : Resolution) where
  sent_low : (op : ℕ) (m : MemberId) → wide_sum (call_by r op m) ≤ (if op == 0xB9 then 5 else 3)
  unfolding form forms
  sent_low op m = go (op == 0xB9) (op == 0xB6) (op == 0xB7)
    where
      go : (a b c : Bool) → wide_sum ((if a then Interface (nargs_of m) (r.interface m)
          else (if b then Named 0x8B (r.virtual m) else (if c then Named 0x8C (r.special m)
          else Named 0x8D (r.static m)))) ∷ []) ≤ (if a then 5 else 3)
      go true b c = low _ 5 refl
      go false true c = low _ 3 refl
      go false false true = low _ 3 refl
      go false false false = low _ 3 refl

  head : (b : Bool) → (if b then 5 else 3) + 1 ≡ (if b then 6 else 4)
  head true = refl
  head false = refl

  call_low : (op : ℕ) (m : MemberId) (types : Option Signature) → wide_sum (called_with f r op m types) ≤
      (if op == jvm.invokeinterface then 6 else 4) + 5 * params_by types
  call_low op m None =
      let le = sent_low op m in
      let one = head (op == 0xB9) in omega (arith, le, one)
  call_low op m (Some types) =
      let le = sent_low op m in
      let one = head (op == 0xB9) in
      let before = handed_low f types.params in
      let behind = result_low types.result in
      let both = wide_append (handed_over f types.params ++ call_by r op m) (widened_result types.result) in
      let rest = wide_append (handed_over f types.params) (call_by r op m) in
      omega (arith, le, one, before, behind, both, rest)

test_low : (op : ℕ) → bytes op ≤ 4 → (type : Option (Shape (List ℕ))) → wide_sum (type_test op type) ≤ 4
test_low op h None = omega arith
test_low op h (Some (OfClass class)) = omega (arith, h)
test_low op h (Some (OfReferences class)) = omega (arith, h)
test_low op h (Some (OfNumbers Booleans)) = omega (arith, h)
test_low op h (Some (OfNumbers Bytes)) = omega (arith, h)
test_low op h (Some (OfNumbers Shorts)) = omega (arith, h)
test_low op h (Some (OfNumbers Ints)) = omega (arith, h)

-- ---- an instruction

module _ (f : Frame) (r : Resolution) (place : ℕ → ℕ) where
  op_low : (b : Before) (here : ℕ) (op : JOp) → wide_sum (written f r place b here op) ≤ widest r op
  unfolding form forms
  op_low b here jop.Nop = omega arith
  op_low b here jop.Null = low _ 1 refl
  op_low b here (jop.Number z) = let le = pushed_low z in omega (arith, le)
  op_low b here (jop.Load refs l) = loads_low refs (first_word f l)
  op_low b here (jop.Store refs l) = stores_low refs (first_word f l)
  op_low b here (jop.ArrayLoad op) = read_low b.is_index_inside here op
  op_low b here (jop.ArrayStore op) = store_low b.is_index_inside here op
  op_low b here (jop.Stack op) = stack_low op b.references
  op_low b here (jop.Arith op) = let le = arithmetic_low op in omega (arith, le)
  op_low b here (jop.Inc l by) = inc_low (is_byte by) (first_word f l) by
  op_low b here (jop.Narrow op) = narrow_low (op == 0x91)
  op_low b here (jop.If op target) = jump_low op (place target)
  op_low b here (jop.Goto target) = low _ 3 refl
  op_low b here (jop.TableSwitch other first ts) =
      let le = table_low (place other) first (table_cases place first ts) in
      let long = table_long place first ts in omega (arith, le, long)
  op_low b here (jop.LookupSwitch other cases) =
      let le = lookup_low (place other) (pos 0) (map (pair_case place) cases) in
      let long = length_mapped (pair_case place) cases in omega (arith, le, long)
  op_low b here (jop.Return op) = return_low (op == jvm.ireturn) op f.result
  op_low b here (jop.Static put field) = static_low r put field
  op_low b here (jop.Field put field) = instance_low r put field
  op_low b here (jop.Call op m) = call_low f r op m (signature_of m.desc)
  op_low b here (jop.New class) = low _ 3 refl
  op_low b here (jop.NewArray kind) = low _ 4 refl
  op_low b here (jop.ANewArray class) = low _ 4 refl
  op_low b here jop.ArrayLength = low _ 2 refl
  op_low b here jop.Throw = low _ 1 refl
  op_low b here (jop.CheckCast class) = test_low 0x94 (low _ 4 refl) (shape_named class)
  op_low b here (jop.InstanceOf class) =
      let le = test_low 0x95 (low _ 4 refl) (shape_named class) in
      let one : bytes card.s2i ≤ 1 = low _ 1 refl in
      let both = wide_append (type_test card.instanceof (shape_named class)) (Op card.s2i ∷ []) in
      omega (arith, le, one, both)

  all_low : (here : ℕ) (reached : List Reached) → wide_sum (written_from f r place here reached) ≤ sum_by
      (λ (i : Reached). let j = i.insn in widest r j.op) reached
  all_low here [] = omega arith
  all_low here (i ∷ reached) =
      let j = i.insn in
      let new : List NInsn = written f r place i.before here j.op in
      let first = op_low i.before here j.op in
      let rest = all_low (here + length new) reached in
      let both = wide_append new (written_from f r place (here + length new) reached) in
      let sum = sum_by-cons (λ (i : Reached). let j = i.insn in widest r j.op) i reached in
      omega (arith, first, rest, both, sum)

pub no_wider : (f : Frame) (r : Resolution) (code : CodeTree) (reached : List Reached) (places : List ℕ)
    → (let m = int_method f r code reached places in widest_size m.insns ≤ m.widest)
no_wider f r code reached places =
    let p = place_in f r reached in
    let all : List NInsn = prologue f ++ written_from f r p (length (prologue f)) reached in
    let is = widest_is all in
    let both = wide_append (prologue f) (written_from f r p (length (prologue f)) reached) in
    let front = moves_low f 0 0 f.params in
    let rest = all_low f r p (length (prologue f)) reached in
    omega (arith, is, both, front, rest)
