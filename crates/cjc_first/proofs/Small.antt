-- What is written for a package of the form is small.
use Rattle.std.proofs.Common.{◌≡◌, ℕ, ◌+◌, ◌*◌, ◌≤◌, ◌<◌, Bool, true, false, cond, List, [], ◌∷◌, Option, Some, None, length, refl, arith, ℤ, pos, negsuc}
use Rattle.std.specs.Prelude.{sum_by, flat_map, nat_lt, ◌==◌, ◌&&◌}
use Rattle.std.specs.List.{list_all}
use Rattle.std.proofs.lemmas.List.Sums.{sum_by-cons}
use Rattle.std.proofs.lemmas.List.{length-append}
use Rattle.std.proofs.lemmas.Bool.{lt-ltb, ltb-true}
use Rattle.std.specs.Int.{w8, w16, cast_unsigned, to_be_bytes}
use Rattle.cjc_code.specs.declared.insn.JOp.{JOp}
use Rattle.cjc_code.specs.declared.insn.JOp.TheVariants.{Nop, Null, Number, Load, Store, ArrayLoad, ArrayStore, Stack, Arith, Inc, Narrow, If, Goto, TableSwitch, LookupSwitch, Return, Static, Field, Call, New, NewArray, ANewArray, ArrayLength, Throw, CheckCast, InstanceOf}
use Rattle.cjc_capwrite.specs.Descriptor.{packed}
use Rattle.cjc_first.specs.FirstForm.{is_push, is_iadd, is_i2s, is_ireturn, is_rest, is_sum}
use Rattle.cjc_first.specs.Selected.{constant, load, lies_in, sconst, low_word, selected, selected_code, widest, header}
use Rattle.cjc_first.specs.Tests.{has_byte_local}

both : (a b : Bool) → (a && b) ≡ true → (a ≡ true) × (b ≡ true)
both true b e = (refl, e)
both false b e = absurd cc

-- ---- the locals of a sum have numbers of one byte

push_local : (params : ℕ) (op : JOp) → params ≤ 15 → is_push params op ≡ true → has_byte_local op ≡ true
push_local params (Number z) few e = refl
push_local params (Load false l) few e = let lt : l < params = ltb-true l params e in lt-ltb l 256 (omega arith)
push_local params (Load true l) few e = absurd cc
push_local params Nop few e = absurd cc
push_local params Null few e = absurd cc
push_local params (Store refs l) few e = absurd cc
push_local params (ArrayLoad op) few e = absurd cc
push_local params (ArrayStore op) few e = absurd cc
push_local params (Stack op) few e = absurd cc
push_local params (Arith op) few e = absurd cc
push_local params (Inc l by) few e = absurd cc
push_local params (Narrow op) few e = absurd cc
push_local params (If op target) few e = absurd cc
push_local params (Goto target) few e = absurd cc
push_local params (TableSwitch other low targets) few e = absurd cc
push_local params (LookupSwitch other cases) few e = absurd cc
push_local params (Return op) few e = absurd cc
push_local params (Static put field) few e = absurd cc
push_local params (Field put field) few e = absurd cc
push_local params (Call op method) few e = absurd cc
push_local params (New class) few e = absurd cc
push_local params (NewArray kind) few e = absurd cc
push_local params (ANewArray class) few e = absurd cc
push_local params ArrayLength few e = absurd cc
push_local params Throw few e = absurd cc
push_local params (CheckCast class) few e = absurd cc
push_local params (InstanceOf class) few e = absurd cc

iadd_local : (op : JOp) → is_iadd op ≡ true → has_byte_local op ≡ true
iadd_local (Load refs l) e = absurd cc
iadd_local (Number z) e = refl
iadd_local Nop e = refl
iadd_local Null e = refl
iadd_local (Store refs l) e = refl
iadd_local (ArrayLoad op) e = refl
iadd_local (ArrayStore op) e = refl
iadd_local (Stack op) e = refl
iadd_local (Arith op) e = refl
iadd_local (Inc l by) e = refl
iadd_local (Narrow op) e = refl
iadd_local (If op target) e = refl
iadd_local (Goto target) e = refl
iadd_local (TableSwitch other low targets) e = refl
iadd_local (LookupSwitch other cases) e = refl
iadd_local (Return op) e = refl
iadd_local (Static put field) e = refl
iadd_local (Field put field) e = refl
iadd_local (Call op method) e = refl
iadd_local (New class) e = refl
iadd_local (NewArray kind) e = refl
iadd_local (ANewArray class) e = refl
iadd_local ArrayLength e = refl
iadd_local Throw e = refl
iadd_local (CheckCast class) e = refl
iadd_local (InstanceOf class) e = refl

i2s_local : (op : JOp) → is_i2s op ≡ true → has_byte_local op ≡ true
i2s_local (Narrow op) e = refl
i2s_local (Load refs l) e = absurd cc
i2s_local (Number z) e = refl
i2s_local Nop e = refl
i2s_local Null e = refl
i2s_local (Store refs l) e = refl
i2s_local (ArrayLoad op) e = refl
i2s_local (ArrayStore op) e = refl
i2s_local (Stack op) e = refl
i2s_local (Arith op) e = refl
i2s_local (Inc l by) e = refl
i2s_local (If op target) e = refl
i2s_local (Goto target) e = refl
i2s_local (TableSwitch other low targets) e = refl
i2s_local (LookupSwitch other cases) e = refl
i2s_local (Return op) e = refl
i2s_local (Static put field) e = refl
i2s_local (Field put field) e = refl
i2s_local (Call op method) e = refl
i2s_local (New class) e = refl
i2s_local (NewArray kind) e = refl
i2s_local (ANewArray class) e = refl
i2s_local ArrayLength e = refl
i2s_local Throw e = refl
i2s_local (CheckCast class) e = refl
i2s_local (InstanceOf class) e = refl

ireturn_local : (op : JOp) → is_ireturn op ≡ true → has_byte_local op ≡ true
ireturn_local (Return op) e = refl
ireturn_local (Load refs l) e = absurd cc
ireturn_local (Number z) e = refl
ireturn_local Nop e = refl
ireturn_local Null e = refl
ireturn_local (Store refs l) e = refl
ireturn_local (ArrayLoad op) e = refl
ireturn_local (ArrayStore op) e = refl
ireturn_local (Stack op) e = refl
ireturn_local (Arith op) e = refl
ireturn_local (Inc l by) e = refl
ireturn_local (Narrow op) e = refl
ireturn_local (If op target) e = refl
ireturn_local (Goto target) e = refl
ireturn_local (TableSwitch other low targets) e = refl
ireturn_local (LookupSwitch other cases) e = refl
ireturn_local (Static put field) e = refl
ireturn_local (Field put field) e = refl
ireturn_local (Call op method) e = refl
ireturn_local (New class) e = refl
ireturn_local (NewArray kind) e = refl
ireturn_local (ANewArray class) e = refl
ireturn_local ArrayLength e = refl
ireturn_local Throw e = refl
ireturn_local (CheckCast class) e = refl
ireturn_local (InstanceOf class) e = refl

all_more : (op : JOp) (ops : List JOp) → has_byte_local op ≡ true → list_all has_byte_local ops ≡ true → list_all has_byte_local (op ∷ ops) ≡ true
all_more op ops one rest = rw one rest

rest_local : (params : ℕ) (ops : List JOp) → params ≤ 15 → is_rest params ops ≡ true → list_all has_byte_local ops ≡ true
rest_local params [] few e = refl
rest_local params (a ∷ []) few e = absurd cc
rest_local params (a ∷ b ∷ []) few e =
    let p = both (is_i2s a) (is_ireturn b) e in
    all_more a (b ∷ []) (i2s_local a p.0) (all_more b [] (ireturn_local b p.1) refl)
rest_local params (a ∷ b ∷ c ∷ ops) few e =
    let p = both (is_push params a && is_iadd b) (is_rest params (c ∷ ops)) e in
    let q = both (is_push params a) (is_iadd b) p.0 in
    all_more a (b ∷ c ∷ ops) (push_local params a few q.0) (all_more b (c ∷ ops) (iadd_local b q.1) (rest_local params (c ∷ ops) few p.1))

pub sum_local : (params : ℕ) (ops : List JOp) → params ≤ 15 → is_sum params ops ≡ true → list_all has_byte_local ops ≡ true
sum_local params [] few e = refl
sum_local params (a ∷ ops) few e =
    let p = both (is_push params a) (is_rest params ops) e in
    all_more a ops (push_local params a few p.0) (rest_local params ops few p.1)

-- ---- the code is no longer than its widest sizes

two_length : (n : ℕ) → length (to_be_bytes w16 n) ≡ 2
two_length n = refl

constant_length : (z : ℤ) → length (constant z) ≤ 3
constant_length z = by (lies_in (negsuc 0) (pos 5) z) (lies_in (negsuc 127) (pos 127) z)
  where
    by : (a b : Bool) → length (cond a (sconst z ∷ []) (cond b (0x10 ∷ cast_unsigned w8 z ∷ []) (0x11 ∷ to_be_bytes w16 (cast_unsigned w16 z)))) ≤ 3
    by true b = omega arith
    by false true = omega arith
    by false false = omega arith

load_length : (l : ℕ) → length (load l) ≤ 2
load_length l = by (nat_lt l 4)
  where
    by : (a : Bool) → length (cond a ((0x1C + l) ∷ []) (0x16 ∷ l ∷ [])) ≤ 2
    by true = omega arith
    by false = omega arith

one_length : (a : Bool) (x : ℕ) → length (cond a (x ∷ []) []) ≤ 1
one_length true x = omega arith
one_length false x = omega arith

selected_length : (op : JOp) → length (selected op) ≤ widest op
unfolding selected
selected_length (Number z) = constant_length (low_word z)
selected_length (Load false l) = load_length l
selected_length (Load true l) = omega arith
selected_length (Arith op) = one_length (op == 0x60) 0x41
selected_length (Return op) = one_length (op == 0xAC) 0x78
selected_length Nop = omega arith
selected_length Null = omega arith
selected_length (Store refs l) = omega arith
selected_length (ArrayLoad op) = omega arith
selected_length (ArrayStore op) = omega arith
selected_length (Stack op) = omega arith
selected_length (Inc l by) = omega arith
selected_length (Narrow op) = omega arith
selected_length (If op target) = omega arith
selected_length (Goto target) = omega arith
selected_length (TableSwitch other low targets) = omega arith
selected_length (LookupSwitch other cases) = omega arith
selected_length (Static put field) = omega arith
selected_length (Field put field) = omega arith
selected_length (Call op method) = omega arith
selected_length (New class) = omega arith
selected_length (NewArray kind) = omega arith
selected_length (ANewArray class) = omega arith
selected_length ArrayLength = omega arith
selected_length Throw = omega arith
selected_length (CheckCast class) = omega arith
selected_length (InstanceOf class) = omega arith

flat_length : (ops : List JOp) → length (flat_map selected ops) ≤ sum_by widest ops
flat_length [] = omega arith
flat_length (op ∷ ops) =
    let whole : length (flat_map selected (op ∷ ops)) ≡ length (selected op) + length (flat_map selected ops) = length-append (selected op) (flat_map selected ops) in
    let sum : sum_by widest (op ∷ ops) ≡ widest op + sum_by widest ops = sum_by-cons widest op ops in
    omega (arith, selected_length op, flat_length ops)

pub code_length : (ops : List JOp) → length (selected_code ops) ≤ sum_by widest ops
unfolding selected_code
code_length ops = flat_length ops

pub header_length : (max_stack nargs max_locals : ℕ) → length (header max_stack nargs max_locals) ≤ 4
unfolding header
header_length max_stack nargs max_locals = by (nat_lt max_stack 16 && nat_lt nargs 16 && nat_lt max_locals 16)
  where
    by : (a : Bool) → length (cond a (max_stack ∷ (16 * nargs + max_locals) ∷ []) (0x80 ∷ max_stack ∷ nargs ∷ max_locals ∷ [])) ≤ 4
    by true = omega arith
    by false = omega arith

-- ---- a type is no longer than its nibbles

pub packed_length : (waiting : Option ℕ) (ns : List ℕ) → length (packed waiting ns) ≤ length ns + 1
packed_length None [] = omega arith
packed_length (Some high) [] = omega arith
packed_length None (n ∷ ns) = omega (arith, packed_length (Some n) ns)
packed_length (Some high) (n ∷ ns) = omega (arith, packed_length None ns)
