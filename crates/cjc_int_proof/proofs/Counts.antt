-- How many instructions are written, and where.
use Rattle.std.proofs.Common.{◌≡◌, ℕ, suc, ◌+◌, ◌-◌, ◌≤◌, arith, refl, ap, Bool, true, false}
use Rattle.std.proofs.Common.{List, [], ◌∷◌, ◌++◌, ◌<◌, length, slice_get, zero}
use Rattle.std.specs.Prelude.{if◌then◌else◌, nat_lt, nat_le, ◌==◌, Option, Some, None}
use Rattle.std.proofs.lemmas.Bool.{ltb-true, ltb-false}
use Rattle.std.proofs.lemmas.List.{length-append}
use Rattle.cjc_types.specs.Steps.{goes_on}
use Rattle.cjc_layout.specs.Script.Sorts.{Sort, Boolean, Byte, Short, Int, Reference, NoValue}
use Rattle.cjc_types.specs.ClassFile.Code.{CodeTree}
use Rattle.cjc_types.specs.Bytecode.declared.insn.JOp.{JOp}
use Rattle.cjc_types.specs.Bytecode.declared.insn.JOp.TheVariants as jop
use Rattle.cjc_types.specs.Bytecode.Jvm as jvm
use Rattle.cjc_layout.specs.CapRead.Card as card
use Rattle.cjc_ncode.specs.declared.narrow.NInsn.{NInsn}
use Rattle.cjc_ncode.specs.declared.narrow.NInsn.TheVariants.{Jump, Op}
use Rattle.cjc_ncode.specs.Written.{Resolution, condition, leaving}
use Rattle.cjc_ncode.specs.IntCode.IntCode.{Before, Frame, Reached, element_read, element_written, guard, index_of_one}
use Rattle.cjc_ncode.specs.IntCode.IntCode.{index_of_two, int_method, jumped, place_from, place_in, prologue, size}
use Rattle.cjc_ncode.specs.IntCode.IntCode.{returned, written, written_from}

-- ---- labels change no length

if_long : (b : Bool) (x y u v : List NInsn) → length x ≡ length u → length y ≡ length v → length (if b then x else y)
    ≡ length (if b then u else v)
if_long true x y u v h k = h
if_long false x y u v h k = k

guard_long : (inside : Bool) (here there : ℕ) (back : List NInsn) → length (guard inside here ++ back)
    ≡ length (guard inside there ++ back)
guard_long true here there back = refl
guard_long false here there back = refl

one_long : (inside : Bool) (here there : ℕ) (back : List NInsn) → length (index_of_one inside here ++ back)
    ≡ length (index_of_one inside there ++ back)
one_long true here there back = refl
one_long false here there back = refl

two_long : (inside : Bool) (here there : ℕ) (back : List NInsn) → length (index_of_two inside here ++ back)
    ≡ length (index_of_two inside there ++ back)
two_long true here there back = refl
two_long false here there back = refl

written_long : (inside : Bool) (here there op : ℕ) → length (element_written op inside here)
    ≡ length (element_written op inside there)
written_long inside here there op =
    let narrow : List NInsn = Op (if op == jvm.bastore then card.bastore else card.sastore) ∷ [] in
    let wide : List NInsn = Op card.iastore ∷ [] in
    let whole : List NInsn = Op card.aastore ∷ [] in
    if_long (op == jvm.iastore) (index_of_two inside here ++ wide) (if op == jvm.aastore
    then index_of_one inside here ++ whole else Op card.i2s ∷ (index_of_one inside (here + 1) ++ narrow))
    (index_of_two inside there ++ wide) (if op == jvm.aastore then index_of_one inside there ++ whole
    else Op card.i2s ∷ (index_of_one inside (there + 1) ++ narrow))
    (two_long inside here there wide)
    (if_long (op == jvm.aastore) (index_of_one inside here ++ whole) (Op card.i2s ∷ (index_of_one inside (here + 1)
    ++ narrow)) (index_of_one inside there ++ whole) (Op card.i2s ∷ (index_of_one inside (there + 1) ++ narrow))
    (one_long inside here there whole) (ap suc (one_long inside (here + 1) (there + 1) narrow)))

jumped_long : (op here there : ℕ) → length (jumped op here) ≡ length (jumped op there)
jumped_long op here there =
    let zero_test : ℕ → List NInsn = λ t. Op card.iconst_0 ∷ Op card.icmp ∷ Jump (card.ifeq + (op - jvm.ifeq)) t ∷ [] in
    let both : ℕ → List NInsn = λ t. Op card.icmp ∷ Jump (card.ifeq + (op - jvm.if_icmpeq)) t ∷ [] in
    let other : ℕ → List NInsn = λ t. Jump (condition op) t ∷ [] in
    if_long (nat_le op jvm.ifle) (zero_test here) (if nat_le op jvm.if_icmple then both here else other here)
    (zero_test there) (if nat_le op jvm.if_icmple then both there else other there) refl
    (if_long (nat_le op jvm.if_icmple) (both here) (other here) (both there) (other there) refl refl)

pub same_length : (f : Frame) (r : Resolution) (p q : ℕ → ℕ) (b : Before) (here there : ℕ) (op : JOp)
    → length (written f r p b here op) ≡ length (written f r q b there op)
same_length f r p q b here there jop.Nop = refl
same_length f r p q b here there jop.Null = refl
same_length f r p q b here there (jop.Number z) = refl
same_length f r p q b here there (jop.Load refs l) = refl
same_length f r p q b here there (jop.Store refs l) = refl
same_length f r p q b here there (jop.ArrayLoad op) = guard_long b.is_index_inside here there (element_read op)
same_length f r p q b here there (jop.ArrayStore op) = written_long b.is_index_inside here there op
same_length f r p q b here there (jop.Stack op) = refl
same_length f r p q b here there (jop.Arith op) = refl
same_length f r p q b here there (jop.Inc l by) = refl
same_length f r p q b here there (jop.Narrow op) = refl
same_length f r p q b here there (jop.If op target) = jumped_long op (p target) (q target)
same_length f r p q b here there (jop.Goto target) = refl
same_length f r p q b here there (jop.TableSwitch other low targets) = refl
same_length f r p q b here there (jop.LookupSwitch other cases) = refl
same_length f r p q b here there (jop.Return op) = refl
same_length f r p q b here there (jop.Static put field) = refl
same_length f r p q b here there (jop.Field put field) = refl
same_length f r p q b here there (jop.Call op m) = refl
same_length f r p q b here there (jop.New class) = refl
same_length f r p q b here there (jop.NewArray kind) = refl
same_length f r p q b here there (jop.ANewArray class) = refl
same_length f r p q b here there jop.ArrayLength = refl
same_length f r p q b here there jop.Throw = refl
same_length f r p q b here there (jop.CheckCast class) = refl
same_length f r p q b here there (jop.InstanceOf class) = refl

-- ---- places

module _ (f : Frame) (r : Resolution) where
  -- how many are written for all
  abbrev all : List Reached → ℕ
  all [] = 0
  all (i ∷ reached) = size f r i + all reached

  all_long : (p : ℕ → ℕ) (here : ℕ) (reached : List Reached) → length (written_from f r p here reached) ≡ all reached
  all_long p here [] = refl
  all_long p here (i ∷ reached) =
      let j = i.insn in
      let new : List NInsn = written f r p i.before here j.op in
      let rest = all_long p (here + length new) reached in
      let both = length-append new (written_from f r p (here + length new) reached) in
      let same = same_length f r p (λ o. 0) i.before here 0 j.op in
      omega (arith, both, rest, same)

  some : (b : Bool) (n : ℕ) → (if b then n else 0) ≤ n
  some true n = omega arith
  some false n = omega arith

  from_within : (reached : List Reached) (offset : ℕ) → place_from f r reached offset ≤ all reached
  from_within [] offset = omega arith
  from_within (i ∷ reached) offset =
      let j = i.insn in
      let first = some (nat_lt j.at offset) (size f r i) in
      let rest = from_within reached offset in
      omega (arith, first, rest)

  more : (at offset later n : ℕ) → offset ≤ later → (if nat_lt at offset then n else 0) ≤ (if nat_lt at later then n
      else 0)
  more at offset later n le = go (nat_lt at offset) (nat_lt at later) refl refl
    where
      go : (b c : Bool) → nat_lt at offset ≡ b → nat_lt at later ≡ c → (if b then n else 0) ≤ (if c then n else 0)
      go false c e g = omega arith
      go true true e g = omega arith
      go true false e g =
          let before = ltb-true at offset e in
          let behind = ltb-false at later g in
          absurd (omega (arith, before, behind, le))

  from_order : (reached : List Reached) (offset later : ℕ) → offset ≤ later → place_from f r reached offset ≤
      place_from f r reached later
  from_order [] offset later le = omega arith
  from_order (i ∷ reached) offset later le =
      let j = i.insn in
      let first = more j.at offset later (size f r i) le in
      let rest = from_order reached offset later le in
      omega (arith, first, rest)

  none_there : (at offset n : ℕ) → offset ≤ at → (if nat_lt at offset then n else 0) ≡ 0
  none_there at offset n le = go (nat_lt at offset) refl
    where
      go : (b : Bool) → nat_lt at offset ≡ b → (if b then n else 0) ≡ 0
      go false e = refl
      go true e = let lt = ltb-true at offset e in absurd (omega (arith, lt, le))

  from_below : (reached : List Reached) (offset k : ℕ) (i : Reached) → slice_get reached k ≡ Some i
      → offset ≤ (let n = i.insn in n.at) → place_from f r reached offset + size f r i ≤ all reached
  from_below [] offset k i e le = absurd cc
  from_below (x ∷ reached) offset zero i e le =
      let same : x ≡ i = cc in
      let at : (let n = x.insn in n.at) ≡ (let n = i.insn in n.at) =
      ap (λ (y : Reached). (let n = y.insn in n.at)) same in
      let sized : size f r x ≡ size f r i = ap (size f r) same in
      let j = x.insn in
      let first = none_there j.at offset (size f r x) (omega (arith, at, le)) in
      let rest = from_within reached offset in
      omega (arith, first, rest, sized)
  from_below (x ∷ reached) offset (suc k) i e le =
      let j = x.insn in
      let first = some (nat_lt j.at offset) (size f r x) in
      let rest = from_below reached offset k i e le in
      omega (arith, first, rest)

  from_between : (reached : List Reached) (a b : ℕ) → place_from f r reached a < place_from f r reached b → (k : ℕ)
      × (i : Reached) × (slice_get reached k ≡ Some i) × (a ≤ (let n = i.insn in n.at)) × ((let n = i.insn in n.at) < b)
  from_between [] a b lt = absurd (omega (arith, lt))
  from_between (x ∷ reached) a b lt =
      go (λ h. (let found = from_between reached a b h in (suc found.0, found.1, found.2, found.3, found.4)))
      (nat_lt at a) refl (nat_lt at b) refl lt
    where
      at : ℕ
      at = let j = x.insn in j.at

      go : (place_from f r reached a < place_from f r reached b → (k : ℕ) × (i : Reached)
          × (slice_get (x ∷ reached) k ≡ Some i) × (a ≤ (let n = i.insn in n.at)) × ((let n = i.insn in n.at) < b))
          → (p : Bool) → nat_lt at a ≡ p → (q : Bool) → nat_lt at b ≡ q
          → (if p then size f r x else 0) + place_from f r reached a < (if q then size f r x else 0) + place_from f r
          reached b → (k : ℕ) × (i : Reached) × (slice_get (x ∷ reached) k ≡ Some i)
          × (a ≤ (let n = i.insn in n.at)) × ((let n = i.insn in n.at) < b)
      go later false e true g h = (0, x, refl, ltb-false at a e, ltb-true at b g)
      go later true e true g h = later (omega (arith, h))
      go later true e false g h = later (omega (arith, h))
      go later false e false g h = later (omega (arith, h))

pub behind : (f : Frame) (r : Resolution) (reached : List Reached) (offset : ℕ) → length (prologue f) ≤
    place_in f r reached offset
behind f r reached offset = omega arith

pub order : (f : Frame) (r : Resolution) (reached : List Reached) (offset later : ℕ) → offset ≤ later
    → place_in f r reached offset ≤ place_in f r reached later
order f r reached offset later le = let from = from_order f r reached offset later le in omega (arith, from)

pub within : (f : Frame) (r : Resolution) (code : CodeTree) (reached : List Reached) (places : List ℕ) (offset : ℕ)
    → (let m = int_method f r code reached places in place_in f r reached offset ≤ length m.insns)
within f r code reached places offset =
    let p = place_in f r reached in
    let both = length-append (prologue f) (written_from f r p (length (prologue f)) reached) in
    let long = all_long f r p (length (prologue f)) reached in
    let le = from_within f r reached offset in
    omega (arith, both, long, le)

-- Two places differ only where a reached instruction stands between their offsets.
pub between : (f : Frame) (r : Resolution) (reached : List Reached) (a b : ℕ) → place_in f r reached a
    < place_in f r reached b → (k : ℕ) × (i : Reached) × (slice_get reached k ≡ Some i) × (a ≤ (let n = i.insn in n.at))
    × ((let n = i.insn in n.at) < b)
between f r reached a b lt = from_between f r reached a b (omega (arith, lt))

-- What is written for an instruction at an offset or behind it stands behind its place.
pub below : (f : Frame) (r : Resolution) (code : CodeTree) (reached : List Reached) (places : List ℕ) (offset k : ℕ)
    (i : Reached) → slice_get reached k ≡ Some i → offset ≤ (let n = i.insn in n.at)
    → (let m = int_method f r code reached places in place_in f r reached offset + size f r i ≤ length m.insns)
below f r code reached places offset k i e le =
    let p = place_in f r reached in
    let both = length-append (prologue f) (written_from f r p (length (prologue f)) reached) in
    let long = all_long f r p (length (prologue f)) reached in
    let there = from_below f r reached offset k i e le in
    omega (arith, both, long, there)

-- ---- what is not written

returned_some : (result : Option Sort) → length (returned result) ≡ 0 → ⊥
returned_some None e = cc
returned_some (Some Boolean) e = cc
returned_some (Some Byte) e = cc
returned_some (Some Short) e = cc
returned_some (Some Int) e = cc
returned_some (Some (Reference shape)) e = cc
returned_some (Some NoValue) e = cc

left_some : (b : Bool) (result : Option Sort) (i : NInsn) → length (if b then returned result else i ∷ []) ≡ 0 → ⊥
left_some true result i e = returned_some result e
left_some false result i e = cc

-- An instruction for which nothing is written goes on to the next.
pub goes_on_unwritten : (f : Frame) (r : Resolution) (b : Before) (op : JOp) → length (written f r (λ o. 0) b 0 op) ≡ 0
    → goes_on op ≡ true
goes_on_unwritten f r b (jop.Goto target) e = absurd cc
goes_on_unwritten f r b (jop.TableSwitch other low targets) e = absurd cc
goes_on_unwritten f r b (jop.LookupSwitch other cases) e = absurd cc
goes_on_unwritten f r b (jop.Return op) e = absurd (left_some (op == jvm.ireturn) f.result (Op (leaving op)) e)
goes_on_unwritten f r b jop.Throw e = absurd cc
goes_on_unwritten f r b jop.Nop e = refl
goes_on_unwritten f r b jop.Null e = refl
goes_on_unwritten f r b (jop.Number z) e = refl
goes_on_unwritten f r b (jop.Load refs l) e = refl
goes_on_unwritten f r b (jop.Store refs l) e = refl
goes_on_unwritten f r b (jop.ArrayLoad op) e = refl
goes_on_unwritten f r b (jop.ArrayStore op) e = refl
goes_on_unwritten f r b (jop.Stack op) e = refl
goes_on_unwritten f r b (jop.Arith op) e = refl
goes_on_unwritten f r b (jop.Inc l by) e = refl
goes_on_unwritten f r b (jop.Narrow op) e = refl
goes_on_unwritten f r b (jop.If op target) e = refl
goes_on_unwritten f r b (jop.Static put field) e = refl
goes_on_unwritten f r b (jop.Field put field) e = refl
goes_on_unwritten f r b (jop.Call op m) e = refl
goes_on_unwritten f r b (jop.New class) e = refl
goes_on_unwritten f r b (jop.NewArray kind) e = refl
goes_on_unwritten f r b (jop.ANewArray class) e = refl
goes_on_unwritten f r b jop.ArrayLength e = refl
goes_on_unwritten f r b (jop.CheckCast class) e = refl
goes_on_unwritten f r b (jop.InstanceOf class) e = refl
