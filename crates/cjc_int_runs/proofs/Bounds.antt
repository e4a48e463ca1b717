-- At most 767 instructions are written for one of the class file.
use Rattle.std.proofs.Common.{◌≡◌, ℕ, zero, suc, ◌+◌, ◌*◌, ◌≤◌, refl, arith, Bool, true}
use Rattle.std.proofs.Common.{false, List, [], ◌∷◌, ◌++◌, length}
use Rattle.std.specs.Prelude.{Option, Some, None, map, take, nat_le, ◌==◌, if◌then◌else◌, ℤ}
use Rattle.std.specs.List.{list_any}
use Rattle.std.proofs.lemmas.List.{length-append}
use Rattle.cjc_script.specs.Bytes.declared.fault.MemberId.{MemberId}
use Rattle.cjc_int_proof.specs.Bytecode.Jvm as jvm
use Rattle.cjc_int_proof.specs.Bytecode.declared.insn.JOp.{JOp}
use Rattle.cjc_int_proof.specs.Bytecode.declared.insn.JOp.TheVariants as jop
use Rattle.cjc_script.specs.Sorts.{Shape, OfClass, OfNumbers, OfReferences, Booleans, Bytes}
use Rattle.cjc_script.specs.Sorts.{Shorts, Ints, Sort, Boolean}
use Rattle.cjc_script.specs.Sorts.{Byte, Short, Int, Reference, NoValue, Signature}
use Rattle.cjc_script.specs.Sorts.{field_sort, shape_named, signature_of}
use Rattle.cjc_ncode.specs.declared.narrow.NInsn.{NInsn}
use Rattle.cjc_ncode.specs.declared.narrow.NInsn.TheVariants.{Op, Words, Named}
use Rattle.cjc_ncode.specs.declared.narrow.PoolKey.TheVariants as keys
use Rattle.cjc_ncode.specs.Written.{Resolution, static_access, field_access, type_test, call_by}
use Rattle.cjc_ncode.specs.IntCode.IntCode.{Before, Frame, guard, element_read}
use Rattle.cjc_ncode.specs.IntCode.IntCode.{element_written, index_of_one, index_of_two}
use Rattle.cjc_ncode.specs.IntCode.IntCode.{on_stack, dropped, copied, jumped, returned, widened, narrowed, is_short}
use Rattle.cjc_ncode.specs.IntCode.IntCode.{is_by_scratch, put_aside, taken_back, handed_over, widened_result, loads}
use Rattle.cjc_ncode.specs.IntCode.IntCode.{stores, static_get, static_put, field_get, field_put, called_with, written}
use Rattle.cjc_ncode.specs.IntCode.IntCode.{scratch}
use Rattle.cjc_ncode.specs.IntCode.IntCode as code

if_few : (n : ℕ) (b : Bool) (xs ys : List NInsn) → length xs ≤ n → length ys ≤ n → length (if b then xs else ys) ≤ n
if_few n true xs ys h k = h
if_few n false xs ys h k = k

loads_few : (refs : Bool) (word : ℕ) → length (loads refs word) ≡ 1
loads_few true word = refl
loads_few false word = refl

stores_few : (refs : Bool) (word : ℕ) → length (stores refs word) ≡ 1
stores_few true word = refl
stores_few false word = refl

guard_few : (inside : Bool) (here : ℕ) → length (guard inside here) ≤ 9
guard_few true here = omega arith
guard_few false here = omega arith

widened_few : (sort : Sort) → length (widened sort) ≤ 1
widened_few sort = if_few 1 (is_short sort) _ _ (omega arith) (omega arith)

narrowed_few : (sort : Sort) → length (narrowed sort) ≤ 1
narrowed_few sort = if_few 1 (is_short sort) _ _ (omega arith) (omega arith)

-- ---- elements

read_few : (op : ℕ) → length (element_read op) ≤ 2
read_few op = if_few 2 (op == jvm.iaload) _ _ (omega arith) (if_few 2 (op == jvm.aaload) _ _ (omega arith)
    (if_few 2 (op == jvm.baload) _ _ (omega arith) (omega arith)))

one_few : (inside : Bool) (here : ℕ) (last : NInsn) → length (index_of_one inside here ++ last ∷ []) ≤ 12
one_few inside here last =
    let g = guard_few inside (here + 1) in
    let a = length-append (index_of_one inside here) (last ∷ []) in
    let c = length-append (guard inside (here + 1)) (Words 0x40 1 1 ∷ []) in
    omega (arith, g, a, c)

two_few : (inside : Bool) (here : ℕ) (last : NInsn) → length (index_of_two inside here ++ last ∷ []) ≤ 12
two_few inside here last =
    let g = guard_few inside (here + 1) in
    let a = length-append (index_of_two inside here) (last ∷ []) in
    let c = length-append (guard inside (here + 1)) (Words 0x40 1 2 ∷ []) in
    omega (arith, g, a, c)

written_few : (op : ℕ) (inside : Bool) (here : ℕ) → length (element_written op inside here) ≤ 13
written_few op inside here =
    let two = two_few inside here (Op 0x3A) in
    let one = one_few inside here (Op 0x37) in
    let last = one_few inside (here + 1) (Op (if op == jvm.bastore then 0x38 else 0x39)) in
    if_few 13 (op == jvm.iastore) _ _ (omega (arith, two)) (if_few 13 (op == jvm.aastore) _ _ (omega (arith, one))
    (omega (arith, last)))

-- ---- the stack, jumps and returns

dropped_few : (n : ℕ) (cells : List Bool) → length (map dropped (take n cells)) ≤ n
dropped_few n [] = by_count n
  where
    by_count : (n : ℕ) → length (map dropped (take n [])) ≤ n
    by_count zero = omega arith
    by_count (suc n) = omega arith
dropped_few zero (c ∷ cells) = omega arith
dropped_few (suc n) (c ∷ cells) = let h = dropped_few n cells in omega (arith, h)

stack_few : (op : ℕ) (cells : List Bool) → length (on_stack op cells) ≤ 2
stack_few op cells =
    let one = dropped_few 1 cells in
    if_few 2 (op == jvm.pop) _ _ (omega (arith, one)) (if_few 2 (op == jvm.pop2) _ _ (dropped_few 2 cells)
    (if_few 2 (op == jvm.dup) _ _ (omega arith) (if_few 2 (op == jvm.dup2) _ _ (omega arith)
    (if_few 2 (op == jvm.dup_x1) _ _ (omega arith) (if_few 2 (op == jvm.dup_x2) _ _ (omega arith)
    (if_few 2 (op == jvm.dup2_x1) _ _ (omega arith) (if_few 2 (op == jvm.dup2_x2) _ _ (omega arith) (omega arith))))))))

jumped_few : (op target : ℕ) → length (jumped op target) ≤ 3
jumped_few op target = if_few 3 (nat_le op jvm.ifle) _ _ (omega arith) (if_few 3 (nat_le op jvm.if_icmple) _ _ (omega
    arith) (omega arith))

returned_few : (result : Option Sort) → length (returned result) ≤ 2
returned_few None = omega arith
returned_few (Some Boolean) = omega arith
returned_few (Some Byte) = omega arith
returned_few (Some Short) = omega arith
returned_few (Some Int) = omega arith
returned_few (Some (Reference shape)) = omega arith
returned_few (Some NoValue) = omega arith

-- ---- what names something

tested_few : (op : ℕ) (shape : Option (Shape (List ℕ))) → length (type_test op shape) ≤ 1
tested_few op None = omega arith
tested_few op (Some (OfClass class)) = omega arith
tested_few op (Some (OfReferences class)) = omega arith
tested_few op (Some (OfNumbers Booleans)) = omega arith
tested_few op (Some (OfNumbers Bytes)) = omega arith
tested_few op (Some (OfNumbers Shorts)) = omega arith
tested_few op (Some (OfNumbers Ints)) = omega arith

got_few : (r : Resolution) (f : MemberId) (o : Option ℤ) → length (static_get r f o) ≤ 2
got_few r f (Some z) = omega arith
got_few r f None = let w = widened_few (field_sort f.desc) in omega (arith, w)

put_few : (sort : Sort) (last : NInsn) → length (narrowed sort ++ last ∷ []) ≤ 2
put_few sort last = let n = narrowed_few sort in let a = length-append (narrowed sort) (last ∷ [])
    in omega (arith, n, a)

-- ---- calls

aside_few : (f : Frame) (j : ℕ) (sorts : List Sort) → length (put_aside f j sorts) ≡ length sorts
aside_few f j [] = refl
aside_few f j (sort ∷ sorts) =
    let h = aside_few f (j + 1) sorts in
    let last = stores (code.is_reference sort) (scratch f j) in
    let one = stores_few (code.is_reference sort) (scratch f j) in
    let a = length-append (put_aside f (j + 1) sorts) last in
    omega (arith, h, one, a)

back_few : (f : Frame) (j : ℕ) (sorts : List Sort) → length (taken_back f j sorts) ≤ 2 * length sorts
back_few f j [] = omega arith
back_few f j (sort ∷ sorts) =
    let h = back_few f (j + 1) sorts in
    let first = loads (code.is_reference sort) (scratch f j) in
    let one = loads_few (code.is_reference sort) (scratch f j) in
    let n = narrowed_few sort in
    let a = length-append (first ++ narrowed sort) (taken_back f (j + 1) sorts) in
    let c = length-append first (narrowed sort) in
    omega (arith, h, one, n, a, c)

handed_few : (f : Frame) (sorts : List Sort) → length sorts ≤ 255 → length (handed_over f sorts) ≤ 765
handed_few f sorts few =
    let p = aside_few f 0 sorts in let q = back_few f 0 sorts in
    let a = length-append (put_aside f 0 sorts) (taken_back f 0 sorts) in
    if_few 765 (is_by_scratch sorts) _ _ (omega (arith, p, q, a, few))
    (if_few 765 (list_any is_short sorts) _ _ (omega arith) (omega arith))

result_few : (result : Option Sort) → length (widened_result result) ≤ 1
result_few None = omega arith
result_few (Some sort) = widened_few sort

called_few : (f : Frame) (r : Resolution) (op : ℕ) (m : MemberId) (o : Option Signature)
    → ((types : Signature) → o ≡ Some types → length types.params ≤ 255) → length (called_with f r op m o) ≤ 767
called_few f r op m None few = omega arith
called_few f r op m (Some types) few =
    let h = handed_few f types.params (few types refl) in
    let last = widened_result types.result in
    let w = result_few types.result in
    let a = length-append (handed_over f types.params ++ call_by r op m) last in
    let c = length-append (handed_over f types.params) (call_by r op m) in
    omega (arith, h, w, a, c)

pub at_most_767 : (f : Frame) (r : Resolution) (place : ℕ → ℕ) (b : Before) (here : ℕ) (op : JOp)
    → ((opcode : ℕ) (m : MemberId) (types : Signature) → op ≡ jop.Call opcode m → signature_of m.desc ≡ Some types
    → length types.params ≤ 255) → length (written f r place b here op) ≤ 767
at_most_767 f r place b here jop.Nop few = omega arith
at_most_767 f r place b here jop.Null few = omega arith
at_most_767 f r place b here (jop.Number z) few = omega arith
at_most_767 f r place b here (jop.Load refs l) few = let e = loads_few refs (code.first_word f l) in omega (arith, e)
at_most_767 f r place b here (jop.Store refs l) few = let e = stores_few refs (code.first_word f l) in omega (arith, e)
at_most_767 f r place b here (jop.ArrayLoad op) few =
    let g = guard_few b.is_index_inside here in let e = read_few op in
    let a = length-append (guard b.is_index_inside here) (element_read op) in omega (arith, g, e, a)
at_most_767 f r place b here (jop.ArrayStore op) few = let e = written_few op b.is_index_inside here in omega (arith, e)
at_most_767 f r place b here (jop.Stack op) few = let e = stack_few op b.references in omega (arith, e)
at_most_767 f r place b here (jop.Arith op) few = omega arith
at_most_767 f r place b here (jop.Inc l by) few = omega arith
at_most_767 f r place b here (jop.Narrow op) few = omega arith
at_most_767 f r place b here (jop.If op target) few = let e = jumped_few op (place target) in omega (arith, e)
at_most_767 f r place b here (jop.Goto target) few = omega arith
at_most_767 f r place b here (jop.TableSwitch other low targets) few = omega arith
at_most_767 f r place b here (jop.LookupSwitch other cases) few = omega arith
at_most_767 f r place b here (jop.Return op) few =
    let e = returned_few f.result in
    if_few 767 (op == jvm.ireturn) _ _ (omega (arith, e)) (omega arith)
at_most_767 f r place b here (jop.Static true field) few =
    let e = put_few (field_sort field.desc) (Named (static_access true (field_sort field.desc))
    (keys.StaticField (r.field field))) in omega (arith, e)
at_most_767 f r place b here (jop.Static false field) few = let e = got_few r field (r.constant field)
    in omega (arith, e)
at_most_767 f r place b here (jop.Field true field) few =
    let e = put_few (field_sort field.desc) (Named (field_access true (r.is_near field) (field_sort field.desc))
    (keys.Field (r.field field))) in omega (arith, e)
at_most_767 f r place b here (jop.Field false field) few = let w = widened_few (field_sort field.desc)
    in omega (arith, w)
at_most_767 f r place b here (jop.Call op m) few = called_few f r op m (signature_of m.desc) (λ types e. few op m types
    refl e)
at_most_767 f r place b here (jop.New class) few = omega arith
at_most_767 f r place b here (jop.NewArray kind) few = omega arith
at_most_767 f r place b here (jop.ANewArray class) few = omega arith
at_most_767 f r place b here jop.ArrayLength few = omega arith
at_most_767 f r place b here jop.Throw few = omega arith
at_most_767 f r place b here (jop.CheckCast class) few = let e = tested_few 0x94 (shape_named class) in omega (arith, e)
at_most_767 f r place b here (jop.InstanceOf class) few =
    let e = tested_few 0x95 (shape_named class) in
    let a = length-append (type_test 0x95 (shape_named class)) (Op 0x5C ∷ []) in omega (arith, e, a)
