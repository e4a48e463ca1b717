-- What is written for a method in int mode whose calls tell who asks is what is written for it, with who asks in its
-- calls.
use Rattle.std.proofs.Common.{◌≡◌, ℕ, ◌+◌, ◌*◌, refl, ap, sym, ◌∙◌, Bool, true, false, List, [], ◌∷◌, ◌++◌, map}
use Rattle.std.proofs.Common.{take, length, Option, Some, None, replicate}
use Rattle.std.specs.Prelude.{nat_le, nat_lt, ◌==◌, if◌then◌else◌, sum_by, ℤ, pos, negsuc}
use Rattle.std.specs.List.{list_any}
use Rattle.cjc_bytes.specs.declared.fault.MemberId.{MemberId}
use Rattle.cjc_bytes.proofs.Lists.{map_append, length_mapped}
use Rattle.cjc_script.specs.Sorts.{shape_named}
use Rattle.cjc_script.specs.Sorts.{Sort, Boolean, Byte, Short, Int, Reference, NoValue, Signature, signature_of}
use Rattle.cjc_script.specs.Sorts.{field_sort}
use Rattle.cjc_code.specs.ClassFile.Code.{CodeTree}
use Rattle.cjc_code.specs.declared.insn.JOp.{JOp}
use Rattle.cjc_code.specs.declared.insn.JOp.TheVariants as jop
use Rattle.cjc_code.specs.Jvm as jvm
use Rattle.cjc_types.specs.Flow.{Body}
use Rattle.cjc_types.specs.declared.state.State.{State}
use Rattle.cjc_intervals.specs.Frames.{RangeState}
use Rattle.cjc_card_semantics.specs.Bytecode.Arguments.{widths}
use Rattle.cjc_card_semantics.specs.CapRead.Card as card
use Rattle.cjc_ncode.specs.declared.narrow.NCatch.{NCatch}
use Rattle.cjc_ncode.specs.declared.narrow.NInsn.{NInsn}
use Rattle.cjc_ncode.specs.declared.narrow.NInsn.TheVariants.{Named}
use Rattle.cjc_ncode.specs.declared.narrow.NMethod.{NMethod}
use Rattle.cjc_ncode.specs.declared.narrow.PoolKey.TheVariants as keys
use Rattle.cjc_ncode.specs.Written.{Resolution, catches_at, field_access, static_access}
use Rattle.cjc_ncode.specs.IntCode.IntCode.{Before, Reached, Frame, copied, dropped, element_read, element_written}
use Rattle.cjc_ncode.specs.IntCode.IntCode.{called_with, field_get, field_put, guard, handed_over, is_short, jumped}
use Rattle.cjc_ncode.specs.IntCode.IntCode.{loads, moved, moved_from, narrowed, nargs, on_stack, place_from, place_in}
use Rattle.cjc_ncode.specs.IntCode.IntCode.{prologue, pushed, put_aside, returned, scratch_pairs, size, sources}
use Rattle.cjc_ncode.specs.IntCode.IntCode.{static_get, static_put, stores, taken_back, widened, widened_result}
use Rattle.cjc_ncode.specs.IntCode.IntCode.{widest, widest_sum, words, written, written_from, is_by_scratch}
use Rattle.cjc_ncode.specs.IntCode.IntCode.{is_reference, scratch, first_word}
use Rattle.cjc_int_mode.specs.Written.{int_frame, places_from, reached_from, written_in_int_mode}
use Rattle.cjc_joint_theorem.specs.Asked.{resolved_by, insn_by, code_by}
use Rattle.cjc_joint_theorem.proofs.CodeLaws.{call_told, chosen, local_by, test_by}

-- a method by its parts
abbrev with_all : CodeTree → Frame → List Reached → (sum : ℕ) → List NInsn → List ℕ → List NCatch → NMethod
with_all tree f reached sum code from catches = record {
  insns = code;
  from = from;
  catches = catches;
  max_stack = 2 * tree.max_stack + 4;
  nargs = nargs f;
  max_locals = 2 * f.max_locals + 2 * scratch_pairs reached;
  widest = sum;
}

module _ (q : ℕ) where
  -- a list of instructions is another with who asks
  abbrev Told : List NInsn → List NInsn → Type 0
  Told xs ys = xs ≡ map (insn_by q) ys

  both : (xs xs' ys ys' : List NInsn) → Told xs xs' → Told ys ys' → Told (xs ++ ys) (xs' ++ ys')
  both xs xs' ys ys' e f = ap (λ zs. zs ++ ys) e ∙ ap (λ zs. map (insn_by q) xs' ++ zs) f
      ∙ sym (map_append (insn_by q) xs' ys')

  either : (b : Bool) (xs xs' ys ys' : List NInsn) → Told xs xs' → Told ys ys' → Told (if b then xs else ys)
      (if b then xs' else ys')
  either true xs xs' ys ys' e f = e
  either false xs xs' ys ys' e f = f

  -- a list that asks for nothing
  abbrev Stays : List NInsn → Type 0
  Stays xs = Told xs xs

  join : (xs ys : List NInsn) → Stays xs → Stays ys → Stays (xs ++ ys)
  join xs ys e f = both xs xs ys ys e f

  one_of : (b : Bool) (xs ys : List NInsn) → Stays xs → Stays ys → Stays (if b then xs else ys)
  one_of b xs ys e f = either b xs xs ys ys e f

  single : (x y : NInsn) → x ≡ insn_by q y → Told (x ∷ []) (y ∷ [])
  single x y e = ap (λ i. i ∷ []) e

  pushed_by : (z : ℤ) → pushed z ≡ insn_by q (pushed z)
  pushed_by (pos n) = chosen q (nat_le n 5) _ _ _ _ refl (chosen q (nat_le n 127) _ _ _ _ refl (chosen q (nat_le n 32767) _ _
      _ _ refl refl))
  pushed_by (negsuc n) = chosen q (n == 0) _ _ _ _ refl (chosen q (nat_le n 127) _ _ _ _ refl (chosen q (nat_le n 32767) _ _
      _ _ refl refl))

  loads_by : (refs : Bool) (n : ℕ) → Stays (loads refs n)
  loads_by false n = local_by q card.iload_0 card.iload n
  loads_by true n = local_by q card.aload_0 card.aload n

  stores_by : (refs : Bool) (n : ℕ) → Stays (stores refs n)
  stores_by false n = local_by q card.istore_0 card.istore n
  stores_by true n = local_by q card.astore_0 card.astore n

  widened_by : (sort : Sort) → Stays (widened sort)
  widened_by sort = one_of (is_short sort) _ _ refl refl

  narrowed_by : (sort : Sort) → Stays (narrowed sort)
  narrowed_by sort = one_of (is_short sort) _ _ refl refl

  result_by : (o : Option Sort) → Stays (widened_result o)
  result_by None = refl
  result_by (Some sort) = widened_by sort

  -- ---- elements

  guard_by : (inside : Bool) (here : ℕ) → Stays (guard inside here)
  guard_by true here = refl
  guard_by false here = refl

  read_by : (op : ℕ) → Stays (element_read op)
  read_by op = one_of (op == jvm.iaload) _ _ refl (one_of (op == jvm.aaload) _ _ refl (one_of (op == jvm.baload) _ _
      refl refl))

  put_by : (op : ℕ) (inside : Bool) (here : ℕ) → Stays (element_written op inside here)
  put_by op true here = one_of (op == jvm.iastore) _ _ refl (one_of (op == jvm.aastore) _ _ refl refl)
  put_by op false here = one_of (op == jvm.iastore) _ _ refl (one_of (op == jvm.aastore) _ _ refl refl)

  -- ---- the stack

  dropped_by : (rs : List Bool) → Stays (map dropped rs)
  dropped_by [] = refl
  dropped_by (r ∷ rs) = ap (λ xs. dropped r ∷ xs) (dropped_by rs)

  copied_by : (n : ℕ) → copied n ≡ insn_by q (copied n)
  copied_by n = chosen q (n == 1) _ _ _ _ refl (chosen q (n == 2) _ _ _ _ refl refl)

  stack_by : (op : ℕ) (rs : List Bool) → Stays (on_stack op rs)
  stack_by op rs =
      one_of (op == jvm.pop) _ _ (dropped_by (take 1 rs)) (one_of (op == jvm.pop2) _ _ (dropped_by (take 2 rs))
      (one_of (op == jvm.dup) _ _ (single _ _ (copied_by (words 1 rs)))
      (one_of (op == jvm.dup2) _ _ (single _ _ (copied_by (words 2 rs)))
      (one_of (op == jvm.dup_x1) _ _ refl (one_of (op == jvm.dup_x2) _ _ refl (one_of (op == jvm.dup2_x1) _ _ refl
      (one_of (op == jvm.dup2_x2) _ _ refl refl)))))))

  jumped_by : (op target : ℕ) → Stays (jumped op target)
  jumped_by op target = one_of (nat_le op jvm.ifle) _ _ refl (one_of (nat_le op jvm.if_icmple) _ _ refl refl)

  returned_by : (o : Option Sort) → Stays (returned o)
  returned_by None = refl
  returned_by (Some Int) = refl
  returned_by (Some Boolean) = refl
  returned_by (Some Byte) = refl
  returned_by (Some Short) = refl
  returned_by (Some (Reference shape)) = refl
  returned_by (Some NoValue) = refl

  -- ---- arguments

  module _ (f : Frame) where
    aside_by : (j : ℕ) (sorts : List Sort) → Stays (put_aside f j sorts)
    aside_by j [] = refl
    aside_by j (sort ∷ sorts) = join _ _ (aside_by (j + 1) sorts) (stores_by (is_reference sort) (scratch f j))

    back_by : (j : ℕ) (sorts : List Sort) → Stays (taken_back f j sorts)
    back_by j [] = refl
    back_by j (sort ∷ sorts) = join _ _ (join _ _ (loads_by (is_reference sort) (scratch f j)) (narrowed_by sort))
        (back_by (j + 1) sorts)

    over_by : (params : List Sort) → Stays (handed_over f params)
    over_by params = one_of (is_by_scratch params) _ _ (join _ _ (aside_by 0 params) (back_by 0 params))
        (one_of (list_any is_short params) _ _ refl refl)

    moved_by : (word l : ℕ) (sorts : List Sort) → Stays (moved_from f word l sorts)
    moved_by word l [] = refl
    moved_by word l (sort ∷ sorts) = join _ _ (one_by sort) (moved_by (word + widths (sort ∷ [])) (l + 1) sorts)
      where
        one_by : (sort : Sort) → Stays (moved f sort word l)
        one_by sort = join _ _ (join _ _ (one_of (is_short sort) _ _ (local_by q card.sload_0 card.sload word)
            (loads_by (is_reference sort) word)) (widened_by sort)) (stores_by (is_reference sort) (first_word f l))

    prologue_by : Stays (prologue f)
    prologue_by = moved_by 0 0 f.params

    module _ (r : Resolution) where
      called_told : (op : ℕ) (m : MemberId) (o : Option Signature) → Told (called_with f (resolved_by q r) op m o)
          (called_with f r op m o)
      called_told op m None = call_told q r op m
      called_told op m (Some types) = both _ _ _ _ (both _ _ _ _ (over_by types.params) (call_told q r op m))
          (result_by types.result)

      get_told : (id : MemberId) (o : Option ℤ) → Told (static_get (resolved_by q r) id o) (static_get r id o)
      get_told id (Some z) = single _ _ (pushed_by z)
      get_told id None = ap (λ xs. Named (static_access false (field_sort id.desc)) (keys.StaticField (r.field id))
          ∷ xs) (widened_by (field_sort id.desc))

      put_told : (id : MemberId) → Told (static_put (resolved_by q r) id) (static_put r id)
      put_told id = both _ _ _ _ (narrowed_by (field_sort id.desc)) refl

      field_told : (id : MemberId) → Told (field_get (resolved_by q r) id) (field_get r id)
      field_told id = ap (λ xs. Named (field_access false (r.is_near id) (field_sort id.desc)) (keys.Field (r.field id))
          ∷ xs) (widened_by (field_sort id.desc))

      field_put_told : (id : MemberId) → Told (field_put (resolved_by q r) id) (field_put r id)
      field_put_told id = both _ _ _ _ (narrowed_by (field_sort id.desc)) refl

      -- ---- an instruction

      written_by : (place : ℕ → ℕ) (b : Before) (here : ℕ) (op : JOp) → Told (written f (resolved_by q r) place b here
          op) (written f r place b here op)
      written_by place b here jop.Nop = refl
      written_by place b here jop.Null = refl
      written_by place b here (jop.Number z) = single _ _ (pushed_by z)
      written_by place b here (jop.Load refs l) = loads_by refs (first_word f l)
      written_by place b here (jop.Store refs l) = stores_by refs (first_word f l)
      written_by place b here (jop.ArrayLoad op) = join _ _ (guard_by b.is_index_inside here) (read_by op)
      written_by place b here (jop.ArrayStore op) = put_by op b.is_index_inside here
      written_by place b here (jop.Stack op) = stack_by op b.references
      written_by place b here (jop.Arith op) = refl
      written_by place b here (jop.Inc l by) = refl
      written_by place b here (jop.Narrow op) = refl
      written_by place b here (jop.If op target) = jumped_by op (place target)
      written_by place b here (jop.Goto target) = refl
      written_by place b here (jop.TableSwitch other low targets) = refl
      written_by place b here (jop.LookupSwitch other cases) = refl
      written_by place b here (jop.Return op) = one_of (op == jvm.ireturn) _ _ (returned_by f.result) refl
      written_by place b here (jop.Static put id) = either put _ _ _ _ (put_told id) (get_told id (r.constant id))
      written_by place b here (jop.Field put id) = either put _ _ _ _ (field_put_told id) (field_told id)
      written_by place b here (jop.Call op m) = called_told op m (signature_of m.desc)
      written_by place b here (jop.New class) = refl
      written_by place b here (jop.NewArray kind) = refl
      written_by place b here (jop.ANewArray class) = refl
      written_by place b here jop.ArrayLength = refl
      written_by place b here jop.Throw = refl
      written_by place b here (jop.CheckCast class) = test_by q card.checkcast (shape_named class)
      written_by place b here (jop.InstanceOf class) = join _ _ (test_by q card.instanceof (shape_named class)) refl

      -- ---- a method

      as_long : (place : ℕ → ℕ) (b : Before) (here : ℕ) (op : JOp) → length (written f (resolved_by q r) place b here
          op) ≡ length (written f r place b here op)
      as_long place b here op = ap length (written_by place b here op)
          ∙ length_mapped (insn_by q) (written f r place b here op)

      size_by : (i : Reached) → size f (resolved_by q r) i ≡ size f r i
      size_by i = as_long (λ o. 0) i.before 0 (let j = i.insn in j.op)

      from_by : (reached : List Reached) (offset : ℕ) → place_from f (resolved_by q r) reached offset
          ≡ place_from f r reached offset
      from_by [] offset = refl
      from_by (i ∷ reached) offset =
          ap (λ n. (if nat_lt (let j = i.insn in j.at) offset then n else 0) + place_from f (resolved_by q r) reached
          offset) (size_by i)
          ∙ ap (λ n. (if nat_lt (let j = i.insn in j.at) offset then size f r i else 0) + n) (from_by reached offset)

      places : (reached : List Reached) → place_in f (resolved_by q r) reached ≡ place_in f r reached
      places reached = λ i offset. length (prologue f) + from_by reached offset i

      all_by : (place : ℕ → ℕ) (here : ℕ) (reached : List Reached) → Told (written_from f (resolved_by q r) place here
          reached) (written_from f r place here reached)
      all_by place here [] = refl
      all_by place here (i ∷ reached) =
          let op = (let j = i.insn in j.op) in
          both _ _ _ _ (written_by place i.before here op)
          (ap (λ n. written_from f (resolved_by q r) place (here + n) reached) (as_long place i.before here op)
          ∙ all_by place (here + length (written f r place i.before here op)) reached)

      sources_by : (reached : List Reached) (ks : List ℕ) → sources f (resolved_by q r) reached ks
          ≡ sources f r reached ks
      sources_by [] ks = refl
      sources_by (i ∷ reached) [] = refl
      sources_by (i ∷ reached) (k ∷ ks) =
          ap (λ n. replicate n k ++ sources f (resolved_by q r) reached ks) (size_by i)
          ∙ ap (λ xs. replicate (size f r i) k ++ xs) (sources_by reached ks)

      widest_by : (op : JOp) → widest (resolved_by q r) op ≡ widest r op
      widest_by jop.Nop = refl
      widest_by jop.Null = refl
      widest_by (jop.Number z) = refl
      widest_by (jop.Load refs l) = refl
      widest_by (jop.Store refs l) = refl
      widest_by (jop.ArrayLoad op) = refl
      widest_by (jop.ArrayStore op) = refl
      widest_by (jop.Stack op) = refl
      widest_by (jop.Arith op) = refl
      widest_by (jop.Inc l by) = refl
      widest_by (jop.Narrow op) = refl
      widest_by (jop.If op target) = refl
      widest_by (jop.Goto target) = refl
      widest_by (jop.TableSwitch other low targets) = refl
      widest_by (jop.LookupSwitch other cases) = refl
      widest_by (jop.Return op) = refl
      widest_by (jop.Static put id) = refl
      widest_by (jop.Field put id) = refl
      widest_by (jop.Call op m) = refl
      widest_by (jop.New class) = refl
      widest_by (jop.NewArray kind) = refl
      widest_by (jop.ANewArray class) = refl
      widest_by jop.ArrayLength = refl
      widest_by jop.Throw = refl
      widest_by (jop.CheckCast class) = refl
      widest_by (jop.InstanceOf class) = refl

      sums : (reached : List Reached) → widest_sum f (resolved_by q r) reached ≡ widest_sum f r reached
      sums reached = λ k. 5 * length f.params + sum_by (λ (i : Reached). widest_by (let j = i.insn in j.op) k) reached

  pub int_method_by : (r : Resolution) (tree : CodeTree) (b : Body) (types : List (Option State))
      (ranges : List (Option RangeState)) → written_in_int_mode (resolved_by q r) tree b types ranges
      ≡ code_by q (written_in_int_mode r tree b types ranges)
  int_method_by r tree b types ranges =
      let f = int_frame b in
      let reached = reached_from ranges 0 b.insns types in
      let ks = places_from 0 b.insns types in
      let start = length (prologue f) in
      ap (λ place. with_all tree f reached (widest_sum f (resolved_by q r) reached) (prologue f
      ++ written_from f (resolved_by q r) place start reached) (replicate start 0 ++ sources f (resolved_by q r) reached
      ks) (catches_at place tree.catches)) (places f r reached)
      ∙ ap (λ code. with_all tree f reached (widest_sum f (resolved_by q r) reached) code (replicate start 0
      ++ sources f (resolved_by q r) reached ks) (catches_at (place_in f r reached) tree.catches))
      (both _ _ _ _ (prologue_by f) (all_by f r (place_in f r reached) start reached))
      ∙ ap (λ from. with_all tree f reached (widest_sum f (resolved_by q r) reached) (map (insn_by q) (prologue f
      ++ written_from f r (place_in f r reached) start reached)) (replicate start 0 ++ from)
      (catches_at (place_in f r reached) tree.catches)) (sources_by f r reached ks)
      ∙ ap (λ sum. with_all tree f reached sum (map (insn_by q) (prologue f ++ written_from f r (place_in f r reached)
      start reached)) (replicate start 0 ++ sources f r reached ks) (catches_at (place_in f r reached) tree.catches))
      (sums f r reached)
