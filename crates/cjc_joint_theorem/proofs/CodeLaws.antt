-- What is written for a method whose calls tell who asks is what is written for it, with who asks in its calls.
use Rattle.std.proofs.Common.{◌≡◌, ℕ, ◌+◌, ◌-◌, refl, ap, sym, ◌∙◌, Bool, true, false, List, [], ◌∷◌, ◌++◌, map}
use Rattle.std.proofs.Common.{flat_map, length, Option, Some, None, replicate}
use Rattle.std.specs.Prelude.{nat_le, nat_lt, ◌==◌, if◌then◌else◌, ℤ, pos, negsuc}
use Rattle.cjc_bytes.specs.declared.fault.MemberId.{MemberId}
use Rattle.cjc_bytes.proofs.Lists.{map_append, length_mapped}
use Rattle.cjc_range.specs.Words.{low_word}
use Rattle.cjc_script.specs.Sorts.{Shape, OfClass, OfNumbers, OfReferences, Booleans, Bytes, Shorts, Ints, shape_named}
use Rattle.cjc_code.specs.ClassFile.Code.{CodeTree}
use Rattle.cjc_code.specs.declared.insn.JInsn.{JInsn}
use Rattle.cjc_code.specs.declared.insn.JOp.{JOp}
use Rattle.cjc_code.specs.declared.insn.JOp.TheVariants as jop
use Rattle.cjc_code.specs.Jvm as jvm
use Rattle.cjc_ncode.specs.declared.narrow.NCase.{NCase}
use Rattle.cjc_ncode.specs.declared.narrow.NCatch.{NCatch}
use Rattle.cjc_ncode.specs.declared.narrow.NInsn.{NInsn}
use Rattle.cjc_ncode.specs.declared.narrow.NInsn.TheVariants.{Op}
use Rattle.cjc_ncode.specs.declared.narrow.NMethod.{NMethod}
use Rattle.cjc_ncode.specs.declared.narrow.PairRole.{PairRole}
use Rattle.cjc_ncode.specs.declared.narrow.PairRole.TheVariants.{Alone, Opens, Closes}
use Rattle.cjc_ncode.specs.Written.{Resolution, pushed_word, pushed, local, on_stack, switched, static_by}
use Rattle.cjc_ncode.specs.Written.{call_by}
use Rattle.cjc_ncode.specs.Written.{type_test, written, Access, accessed, is_load, on_this, written_as}
use Rattle.cjc_ncode.specs.Written.{written_for, place_in, reached, catches_at, narrow_code, sources, widest_sum}
use Rattle.cjc_ncode.specs.Written.{low_of, pair_cases, table_cases, narrow_method}
use Rattle.cjc_card_semantics.specs.CapRead.Card as card
use Rattle.cjc_joint_theorem.specs.Asked.{resolved_by, insn_by, code_by}

-- a method by its parts
abbrev with_all : CodeTree → (nargs widest : ℕ) → List NInsn → List ℕ → List NCatch → NMethod
with_all tree nargs widest code from catches = record {
  insns = code;
  from = from;
  catches = catches;
  max_stack = tree.max_stack;
  nargs = nargs;
  max_locals = tree.max_locals - nargs;
  widest = widest;
}

module _ (q : ℕ) where
  -- either of two instructions
  pub chosen : (b : Bool) (x y x' y' : NInsn) → x' ≡ insn_by q x → y' ≡ insn_by q y → (if b then x' else y')
      ≡ insn_by q (if b then x else y)
  chosen true x y x' y' e f = e
  chosen false x y x' y' e f = f

  one : (x y : NInsn) → x ≡ insn_by q y → x ∷ [] ≡ map (insn_by q) (y ∷ [])
  one x y e = ap (λ i. i ∷ []) e

  word_by : (z : ℤ) → pushed_word z ≡ insn_by q (pushed_word z)
  word_by (pos n) = chosen (nat_le n 5) _ _ _ _ refl (chosen (nat_le n 127) _ _ _ _ refl refl)
  word_by (negsuc n) = chosen (n == 0) _ _ _ _ refl (chosen (nat_le n 127) _ _ _ _ refl refl)

  pushed_by : (z : ℤ) → pushed z ≡ map (insn_by q) (pushed z)
  pushed_by z = one _ _ (word_by (low_word z))

  pub local_by : (short long l : ℕ) → local short long l ≡ map (insn_by q) (local short long l)
  local_by short long l = one _ _ (chosen (nat_le l 3) _ _ _ _ refl refl)

  stack_by : (op : ℕ) → on_stack op ≡ insn_by q (on_stack op)
  stack_by op =
      chosen (op == jvm.pop) _ _ _ _ refl (chosen (op == jvm.pop2) _ _ _ _ refl (chosen (op == jvm.dup) _ _ _ _ refl
      (chosen (op == jvm.dup2) _ _ _ _ refl (chosen (op == jvm.dup_x1) _ _ _ _ refl (chosen (op == jvm.dup_x2) _ _ _ _
      refl (chosen (op == jvm.dup2_x1) _ _ _ _ refl (chosen (op == jvm.dup2_x2) _ _ _ _ refl refl)))))))

  narrow_by : (b : Bool) (x : ℕ) → (if b then Op x ∷ [] else []) ≡ map (insn_by q) (if b then Op x ∷ [] else [])
  narrow_by true x = refl
  narrow_by false x = refl

  switch_by : (op other : ℕ) (low : ℤ) (cases : List NCase) → switched op other low cases
      ≡ map (insn_by q) (switched op other low cases)
  switch_by op other low [] = refl
  switch_by op other low (c ∷ cases) = refl

  pub test_by : (op : ℕ) (o : Option (Shape (List ℕ))) → type_test op o ≡ map (insn_by q) (type_test op o)
  test_by op None = refl
  test_by op (Some (OfClass class)) = refl
  test_by op (Some (OfReferences class)) = refl
  test_by op (Some (OfNumbers Booleans)) = refl
  test_by op (Some (OfNumbers Bytes)) = refl
  test_by op (Some (OfNumbers Shorts)) = refl
  test_by op (Some (OfNumbers Ints)) = refl

  module _ (r : Resolution) where
    static_told : (put : Bool) (f : MemberId) (o : Option ℤ) → static_by (resolved_by q r) put f o
        ≡ map (insn_by q) (static_by r put f o)
    static_told put f (Some z) = pushed_by z
    static_told put f None = refl

    pub call_told : (op : ℕ) (m : MemberId) → call_by (resolved_by q r) op m ≡ map (insn_by q) (call_by r op m)
    call_told op m = one _ _ (chosen (op == jvm.invokeinterface) _ _ _ _ refl (chosen (op == jvm.invokevirtual) _ _ _
        _ refl
        (chosen (op == jvm.invokespecial) _ _ _ _ refl refl)))

    module _ (place : ℕ → ℕ) where
      written_by : (op : JOp) → written (resolved_by q r) place op ≡ map (insn_by q) (written r place op)
      written_by jop.Nop = refl
      written_by jop.Null = refl
      written_by (jop.Number z) = pushed_by z
      written_by (jop.Load false l) = local_by card.sload_0 card.sload l
      written_by (jop.Load true l) = local_by card.aload_0 card.aload l
      written_by (jop.Store false l) = local_by card.sstore_0 card.sstore l
      written_by (jop.Store true l) = local_by card.astore_0 card.astore l
      written_by (jop.ArrayLoad op) = refl
      written_by (jop.ArrayStore op) = refl
      written_by (jop.Stack op) = one _ _ (stack_by op)
      written_by (jop.Arith op) = refl
      written_by (jop.Inc l by) = refl
      written_by (jop.Narrow op) = narrow_by (op == jvm.i2b) card.s2b
      written_by (jop.If op target) = refl
      written_by (jop.Goto target) = refl
      written_by (jop.TableSwitch other low targets) = switch_by card.stableswitch (place other)
          (low_of (table_cases place low targets)) (table_cases place low targets)
      written_by (jop.LookupSwitch other cases) = switch_by card.slookupswitch (place other) (pos 0)
          (pair_cases place cases)
      written_by (jop.Return op) = refl
      written_by (jop.Static put f) = static_told put f (r.constant f)
      written_by (jop.Field put f) = refl
      written_by (jop.Call op m) = call_told op m
      written_by (jop.New class) = refl
      written_by (jop.NewArray kind) = refl
      written_by (jop.ANewArray class) = refl
      written_by jop.ArrayLength = refl
      written_by jop.Throw = refl
      written_by (jop.CheckCast class) = test_by card.checkcast (shape_named class)
      written_by (jop.InstanceOf class) = test_by card.instanceof (shape_named class)

      open_by : (op : JOp) (b : Bool) → (if b then [] else written (resolved_by q r) place op)
          ≡ map (insn_by q) (if b then [] else written r place op)
      open_by op true = refl
      open_by op false = written_by op

      this_by : (op : JOp) (o : Option Access) → on_this (resolved_by q r) place op o
          ≡ map (insn_by q) (on_this r place op o)
      this_by op None = written_by op
      this_by op (Some a) = refl

      role_by : (role : PairRole) (op : JOp) → written_as role (resolved_by q r) place op
          ≡ map (insn_by q) (written_as role r place op)
      role_by Alone op = written_by op
      role_by Opens op = open_by op (is_load op)
      role_by Closes op = this_by op (accessed op)

      for_by : (i : JInsn) → written_for (resolved_by q r) place i ≡ map (insn_by q) (written_for r place i)
      for_by i = role_by (r.role i.at) i.op

      all_by : (insns : List JInsn) → flat_map (written_for (resolved_by q r) place) insns
          ≡ map (insn_by q) (flat_map (written_for r place) insns)
      all_by [] = refl
      all_by (i ∷ insns) = ap (λ xs. xs ++ flat_map (written_for (resolved_by q r) place) insns) (for_by i)
          ∙ ap (λ xs. map (insn_by q) (written_for r place i) ++ xs) (all_by insns)
          ∙ sym (map_append (insn_by q) (written_for r place i) (flat_map (written_for r place) insns))

    as_long : (i : JInsn) → length (written_for (resolved_by q r) (λ o. 0) i) ≡ length (written_for r (λ o. 0) i)
    as_long i = ap length (for_by (λ o. 0) i) ∙ length_mapped (insn_by q) (written_for r (λ o. 0) i)

    place_by : (insns : List JInsn) (offset : ℕ) → place_in (resolved_by q r) insns offset ≡ place_in r insns offset
    place_by [] offset = refl
    place_by (i ∷ insns) offset =
        ap (λ n. (if nat_lt i.at offset then n else 0) + place_in (resolved_by q r) insns offset) (as_long i)
        ∙ ap (λ n. (if nat_lt i.at offset then length (written_for r (λ o. 0) i) else 0) + n) (place_by insns offset)

    places : (insns : List JInsn) → place_in (resolved_by q r) insns ≡ place_in r insns
    places insns = λ i offset. place_by insns offset i

    sources_by : {A : Type 0} → (k : ℕ) (insns : List JInsn) (rows : List (Option A))
        → sources (resolved_by q r) k insns rows ≡ sources r k insns rows
    sources_by k [] rows = refl
    sources_by k (i ∷ insns) [] = refl
    sources_by k (i ∷ insns) (Some row ∷ rows) =
        ap (λ n. replicate n k ++ sources (resolved_by q r) (k + 1) insns rows) (as_long i)
        ∙ ap (λ xs. replicate (length (written_for r (λ o. 0) i)) k ++ xs) (sources_by (k + 1) insns rows)
    sources_by k (i ∷ insns) (None ∷ rows) = sources_by (k + 1) insns rows

    pub method_by : {A : Type 0} → (tree : CodeTree) (nargs : ℕ) (insns : List JInsn) (rows : List (Option A))
        → narrow_method (resolved_by q r) tree nargs insns rows ≡ code_by q (narrow_method r tree nargs insns rows)
    method_by tree nargs insns rows =
        ap (λ place. with_all tree nargs (widest_sum (reached insns rows)) (flat_map (written_for (resolved_by q r)
        place) (reached insns rows)) (sources (resolved_by q r) 0 insns rows) (catches_at place tree.catches))
        (places (reached insns rows))
        ∙ ap (λ code. with_all tree nargs (widest_sum (reached insns rows)) code (sources (resolved_by q r) 0 insns
        rows) (catches_at (place_in r (reached insns rows)) tree.catches)) (all_by (place_in r (reached insns rows))
        (reached insns rows))
        ∙ ap (λ from. with_all tree nargs (widest_sum (reached insns rows)) (map (insn_by q) (narrow_code r (reached
        insns rows))) from (catches_at (place_in r (reached insns rows)) tree.catches)) (sources_by 0 insns rows)
