-- What is written for an instruction leads to the places of its targets alone, and what is not written goes on.
use Rattle.std.proofs.Common.{◌≡◌, ℕ, suc, ◌+◌, ◌<◌, refl, Bool, true, false, List, [], ◌∷◌, ◌++◌, length}
use Rattle.std.specs.Prelude.{Option, Some, None, map, filter, flat_map, nat_le, slice_get, ◌==◌, if◌then◌else◌, ℤ, pos}
use Rattle.std.specs.Prelude.{negsuc, ◌+ℤ◌}
use Rattle.std.specs.List.{Contains}
use Rattle.cjc_types.specs.Fixpoint.Working.Edges.{contains_head, contains_tail}
use Rattle.cjc_bytes.specs.declared.fault.MemberId.{MemberId}
use Rattle.cjc_script.specs.Sorts.{Shape, OfClass, OfNumbers, OfReferences, Booleans, Bytes, Shorts, Ints, shape_named}
use Rattle.cjc_card_semantics.specs.Bytecode.Numbers.{is_word}
use Rattle.cjc_range.specs.Words.{low_word}
use Rattle.cjc_code.specs.declared.insn.JCase.{JCase}
use Rattle.cjc_code.specs.declared.insn.JInsn.{JInsn}
use Rattle.cjc_code.specs.declared.insn.JOp.{JOp}
use Rattle.cjc_code.specs.declared.insn.JOp.TheVariants as jop
use Rattle.cjc_ncode.specs.declared.narrow.NCase.{NCase}
use Rattle.cjc_ncode.specs.declared.narrow.NInsn.{NInsn}
use Rattle.cjc_ncode.specs.declared.narrow.NInsn.TheVariants.{Op, Push, Local, Words, Named, Interface}
use Rattle.cjc_ncode.specs.Written.{Resolution, call_by, local, low_of, nargs_of, on_stack, pair_case, pair_cases}
use Rattle.cjc_ncode.specs.Written.{is_load, written_for}
use Rattle.cjc_ncode.proofs.WrittenCases.{written_cases}
use Rattle.cjc_ncode.specs.Written.{pushed, pushed_word, static_by, switched, table_cases, type_test, written}
use Rattle.cjc_types.specs.Steps.{case_target, goes_on, targets}
use Rattle.cjc_emit.specs.LowerLayout.Sizes.{AllLead, CasesLead, Leads}

-- ---- what is not written goes on

switched_some : (op other : ℕ) (low : ℤ) (cases : List NCase) → length (switched op other low cases) ≡ 0 → ⊥
switched_some op other low [] e = cc
switched_some op other low (c ∷ cases) e = cc

pub goes_on_unwritten : (r : Resolution) (op : JOp) → length (written r (λ o. 0) op) ≡ 0 → goes_on op ≡ true
goes_on_unwritten r (jop.Goto target) e = absurd cc
goes_on_unwritten r (jop.TableSwitch other low targets) e =
    absurd (switched_some 0x73 0 (low_of (table_cases (λ o. 0) low targets)) (table_cases (λ o. 0) low targets) e)
goes_on_unwritten r (jop.LookupSwitch other cases) e = absurd (switched_some 0x75 0 (pos 0) (pair_cases (λ o. 0) cases)
    e)
goes_on_unwritten r (jop.Return op) e = absurd cc
goes_on_unwritten r jop.Throw e = absurd cc
goes_on_unwritten r jop.Nop e = refl
goes_on_unwritten r jop.Null e = refl
goes_on_unwritten r (jop.Number z) e = refl
goes_on_unwritten r (jop.Load refs l) e = refl
goes_on_unwritten r (jop.Store refs l) e = refl
goes_on_unwritten r (jop.ArrayLoad op) e = refl
goes_on_unwritten r (jop.ArrayStore op) e = refl
goes_on_unwritten r (jop.Stack op) e = refl
goes_on_unwritten r (jop.Arith op) e = refl
goes_on_unwritten r (jop.Inc l by) e = refl
goes_on_unwritten r (jop.Narrow op) e = refl
goes_on_unwritten r (jop.If op target) e = refl
goes_on_unwritten r (jop.Static put f) e = refl
goes_on_unwritten r (jop.Field put f) e = refl
goes_on_unwritten r (jop.Call op m) e = refl
goes_on_unwritten r (jop.New class) e = refl
goes_on_unwritten r (jop.NewArray kind) e = refl
goes_on_unwritten r (jop.ANewArray class) e = refl
goes_on_unwritten r jop.ArrayLength e = refl
goes_on_unwritten r (jop.CheckCast class) e = refl
goes_on_unwritten r (jop.InstanceOf class) e = refl

pub role_goes_on : (r : Resolution) (i : JInsn) → length (written_for r (λ o. 0) i) ≡ 0 → goes_on i.op ≡ true
role_goes_on r i = written_cases (λ xs. length xs ≡ 0 → goes_on i.op ≡ true) (r.role i.at) r (λ o. 0) i.op
    (λ e none. load i.op e) (goes_on_unwritten r i.op) (λ a e none. absurd cc)
  where
    load : (op : JOp) → is_load op ≡ true → goes_on op ≡ true
    load (jop.Load refs l) e = refl
    load op e = cc

-- ---- what is written leads to the places of targets

module _ (r : Resolution) (place : ℕ → ℕ) (count : ℕ) where
  -- the places of offsets are below the count
  abbrev AllBelow : List ℕ → Type 0
  AllBelow [] = Unit {0}
  AllBelow (t ∷ ts) = (place t < count) × AllBelow ts

  all_below : (ts : List ℕ) → ((t : ℕ) → Contains ts t → place t < count) → AllBelow ts
  all_below [] h = tt
  all_below (t ∷ ts) h = (h t (contains_head t ts), all_below ts (λ u there. h u (contains_tail t ts u there)))

  if_leads : (b : Bool) (x y : NInsn) → Leads count x → Leads count y → Leads count (if b then x else y)
  if_leads true x y h g = h
  if_leads false x y h g = g

  word_leads : (z : ℤ) → Leads count (pushed_word z)
  word_leads (pos n) = if_leads (nat_le n 5) (Op (0x03 + n)) (if nat_le n 127 then Push 0x10 (pos n)
      else Push 0x11 (pos n)) tt (if_leads (nat_le n 127) (Push 0x10 (pos n)) (Push 0x11 (pos n)) tt tt)
  word_leads (negsuc n) = if_leads (n == 0) (Op 0x02) (if nat_le n 127 then Push 0x10 (negsuc n)
      else Push 0x11 (negsuc n)) tt (if_leads (nat_le n 127) (Push 0x10 (negsuc n)) (Push 0x11 (negsuc n)) tt tt)

  pushed_leads : (z : ℤ) → AllLead count (pushed z)
  pushed_leads z = (word_leads (low_word z), tt)

  local_leads : (short long l : ℕ) → AllLead count (local short long l)
  local_leads short long l = (if_leads (nat_le l 3) (Op (short + l)) (Local long l) tt tt, tt)

  stack_leads : (op : ℕ) → Leads count (on_stack op)
  stack_leads op = go (op == 0x57) (op == 0x58) (op == 0x59) (op == 0x5C) (op == 0x5A) (op == 0x5B) (op == 0x5D) (op ==
      0x5E)
    where
      go : (a b c d e f g h : Bool) → Leads count (if a then Op 0x3B else (if b then Op 0x3C else (if c then Op 0x3D
          else (if d then Op 0x3E
          else (if e then Words 0x3F 1 2 else (if f then Words 0x3F 1 3 else (if g then Words 0x3F 2 3
          else (if h then Words 0x3F 2 4 else Words 0x40 1 1))))))))
      go true b c d e f g h = tt
      go false true c d e f g h = tt
      go false false true d e f g h = tt
      go false false false true e f g h = tt
      go false false false false true f g h = tt
      go false false false false false true g h = tt
      go false false false false false false true h = tt
      go false false false false false false false true = tt
      go false false false false false false false false = tt

  narrow_leads : (b : Bool) → AllLead count (if b then Op 0x5B ∷ [] else [])
  narrow_leads true = (tt, tt)
  narrow_leads false = tt

  switched_leads : (op other : ℕ) (low : ℤ) (cases : List NCase) → other < count → CasesLead count cases
      → AllLead count (switched op other low cases)
  switched_leads op other low [] lt h = (tt, (lt, tt))
  switched_leads op other low (c ∷ cases) lt h = ((lt, h), tt)

  table_leads : (low : ℤ) (ts : List ℕ) → AllBelow ts → CasesLead count (table_cases place low ts)
  table_leads low [] h = tt
  table_leads low (t ∷ ts) h = go (is_word low) (table_leads (low +ℤ pos 1) ts h.1)
    where
      go : (b : Bool) → CasesLead count (table_cases place (low +ℤ pos 1) ts)
          → CasesLead count (if b then record { value = low; target = place t } ∷ table_cases place (low +ℤ pos 1) ts
          else table_cases place (low +ℤ pos 1) ts)
      go true rest = (h.0, rest)
      go false rest = rest

  pair_leads : (cases : List JCase) → AllBelow (map case_target cases) → CasesLead count (pair_cases place cases)
  pair_leads [] h = tt
  pair_leads (c ∷ cases) h = go (is_word c.value) (pair_leads cases h.1)
    where
      go : (b : Bool) → CasesLead count (map (pair_case place) (filter (λ d. is_word d.value) cases))
          → CasesLead count (map (pair_case place) (if b then c ∷ filter (λ d. is_word d.value) cases
          else filter (λ d. is_word d.value) cases))
      go true rest = (h.0, rest)
      go false rest = rest

  static_leads : (put : Bool) (f : MemberId) (constant : Option ℤ) → AllLead count (static_by r put f constant)
  static_leads put f (Some z) = pushed_leads z
  static_leads put f None = (tt, tt)

  call_leads : (op : ℕ) (m : MemberId) → AllLead count (call_by r op m)
  call_leads op m = go (op == 0xB9) (op == 0xB6) (op == 0xB7)
    where
      go : (a b c : Bool) → AllLead count ((if a then Interface (nargs_of m) (r.interface m)
          else (if b then Named 0x8B (r.virtual m) else (if c then Named 0x8C (r.special m)
          else Named 0x8D (r.static m)))) ∷ [])
      go true b c = (tt, tt)
      go false true c = (tt, tt)
      go false false true = (tt, tt)
      go false false false = (tt, tt)

  test_leads : (op : ℕ) (type : Option (Shape (List ℕ))) → AllLead count (type_test op type)
  test_leads op None = tt
  test_leads op (Some (OfClass class)) = (tt, tt)
  test_leads op (Some (OfReferences class)) = (tt, tt)
  test_leads op (Some (OfNumbers Booleans)) = (tt, tt)
  test_leads op (Some (OfNumbers Bytes)) = (tt, tt)
  test_leads op (Some (OfNumbers Shorts)) = (tt, tt)
  test_leads op (Some (OfNumbers Ints)) = (tt, tt)

  op_leads : (op : JOp) → AllBelow (targets op) → AllLead count (written r place op)
  op_leads jop.Nop h = tt
  op_leads jop.Null h = (tt, tt)
  op_leads (jop.Number z) h = pushed_leads z
  op_leads (jop.Load false l) h = local_leads 0x1C 0x16 l
  op_leads (jop.Load true l) h = local_leads 0x18 0x15 l
  op_leads (jop.Store false l) h = local_leads 0x2F 0x29 l
  op_leads (jop.Store true l) h = local_leads 0x2B 0x28 l
  op_leads (jop.ArrayLoad op) h = (tt, tt)
  op_leads (jop.ArrayStore op) h = (tt, tt)
  op_leads (jop.Stack op) h = (stack_leads op, tt)
  op_leads (jop.Arith op) h = (tt, tt)
  op_leads (jop.Inc l by) h = (tt, tt)
  op_leads (jop.Narrow op) h = narrow_leads (op == 0x91)
  op_leads (jop.If op target) h = (h.0, tt)
  op_leads (jop.Goto target) h = (h.0, tt)
  op_leads (jop.TableSwitch other low ts) h = switched_leads 0x73 (place other) (low_of (table_cases place low ts))
      (table_cases place low ts) h.0 (table_leads low ts h.1)
  op_leads (jop.LookupSwitch other cases) h = switched_leads 0x75 (place other) (pos 0) (pair_cases place cases) h.0
      (pair_leads cases h.1)
  op_leads (jop.Return op) h = (tt, tt)
  op_leads (jop.Static put f) h = static_leads put f (r.constant f)
  op_leads (jop.Field put f) h = (tt, tt)
  op_leads (jop.Call op m) h = call_leads op m
  op_leads (jop.New class) h = (tt, tt)
  op_leads (jop.NewArray kind) h = (tt, tt)
  op_leads (jop.ANewArray class) h = (tt, tt)
  op_leads jop.ArrayLength h = (tt, tt)
  op_leads jop.Throw h = (tt, tt)
  op_leads (jop.CheckCast class) h = test_leads 0x94 (shape_named class)
  op_leads (jop.InstanceOf class) h = test_leads 0x95 (shape_named class)

  append_leads : (xs ys : List NInsn) → AllLead count xs → AllLead count ys → AllLead count (xs ++ ys)
  append_leads [] ys h g = g
  append_leads (x ∷ xs) ys h g = (h.0, append_leads xs ys h.1 g)

  role_leads : (i : JInsn) → AllBelow (targets i.op) → AllLead count (written_for r place i)
  role_leads i h = written_cases (AllLead count) (r.role i.at) r place i.op (λ e. tt) (op_leads i.op h)
      (λ a e. (tt, tt))

  -- of instructions whose targets have places below the count
  pub code_leads : (kept : List JInsn) → ((k : ℕ) (i : JInsn) (t : ℕ) → slice_get kept k ≡ Some i
      → Contains (targets i.op) t → place t < count) → AllLead count (flat_map (written_for r place) kept)
  code_leads [] h = tt
  code_leads (i ∷ kept) h =
      append_leads (written_for r place i) (flat_map (written_for r place) kept)
      (role_leads i (all_below (targets i.op) (λ t there. h 0 i t refl there)))
      (code_leads kept (λ k j t e there. h (suc k) j t e there))
