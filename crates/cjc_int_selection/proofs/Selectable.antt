-- A method in int mode that keeps the rules of types, and for which there is room, can be selected.
use Rattle.std.proofs.Common.{◌≡◌, ℕ, ◌+◌, ◌*◌, ◌<◌, ◌≤◌, arith, refl, ap, Bool, true, false, List, []}
use Rattle.std.proofs.Common.{◌∷◌, length, map}
use Rattle.std.specs.Prelude.{Option, Some, None, option_and_then, slice_get, nat_lt, if◌then◌else◌, ◌||◌}
use Rattle.std.proofs.lemmas.Bool.{ltb-false, ltb-true, false_from_ne_true}
use Rattle.std.proofs.lemmas.List.{length-append, length-map}
use Rattle.cjc_int_narrow.specs.Bytes.AccessFlags.{is_static}
use Rattle.cjc_int_narrow.specs.Bytes.Descriptor.{Parts}
use Rattle.cjc_int_narrow.specs.Bytes.Spots.{desc_of}
use Rattle.cjc_int_narrow.specs.Bytes.declared.fault.MemberId.{MemberId}
use Rattle.cjc_types.proofs.BytesBools.{or_left, or_right}
use Rattle.cjc_int_narrow.specs.CardSemantics.Bytecode.Arguments.{width, widths}
use Rattle.cjc_int_narrow.specs.Bytecode.Jvm as jvm
use Rattle.cjc_int_narrow.specs.Bytecode.Rules.{too_many}
use Rattle.cjc_int_narrow.specs.Bytecode.Unfit.{arguments, params_of}
use Rattle.cjc_int_narrow.specs.Bytecode.declared.insn.JInsn.{JInsn}
use Rattle.cjc_int_narrow.specs.Bytecode.declared.insn.JOp.{JOp}
use Rattle.cjc_int_narrow.specs.Bytecode.declared.insn.JOp.TheVariants as jop
use Rattle.cjc_int_narrow.specs.Bytecode.declared.method_code.MethodCode.{MethodCode}
use Rattle.cjc_types.specs.Fixpoint.Tables.{HasRow}
use Rattle.cjc_int_narrow.specs.Script.Sorts.{OfClass, Sort, Boolean, Byte, Short, Int, Reference, NoValue, Signature}
use Rattle.cjc_int_narrow.specs.Script.Sorts.{result_by}
use Rattle.cjc_int_narrow.specs.Script.Sorts.{signature_by, signature_of, sort_of}
use Rattle.cjc_int_narrow.specs.World.Classes.{Class, all_classes}
use Rattle.cjc_int_narrow.specs.ClassFile.Code.{CodeTree}
use Rattle.cjc_int_narrow.specs.ClassFile.declared.tree.ClassTree.{ClassTree}
use Rattle.cjc_int_narrow.specs.ClassFile.declared.tree.MethodTree.{MethodTree}
use Rattle.cjc_int_narrow.specs.World.Files.{Files}
use Rattle.cjc_types.specs.Flow.{Body, body_of}
use Rattle.cjc_types.specs.Rules.{Breaks, clash, is_off, off}
use Rattle.cjc_types.specs.Tables.{Breach, IsLeastTable, IsMethodOf}
use Rattle.cjc_types.specs.TypeLaws.Places.{local_of}
use Rattle.cjc_types.specs.Steps.{stack_behind, takes}
use Rattle.cjc_types.specs.Types.{parts}
use Rattle.cjc_types.specs.declared.cell.Cell.{Cell}
use Rattle.cjc_types.specs.declared.state.Stack.{Stack}
use Rattle.cjc_types.specs.declared.state.Stack.TheVariants.{Cells, Clash}
use Rattle.cjc_types.specs.declared.state.State.{State}
use Rattle.cjc_int_narrow.proofs.TypesAscending.{insns_ascend}
use Rattle.cjc_int_narrow.proofs.TypesStanding.{local_there}
use Rattle.cjc_ncode.specs.Written.{nargs_of, words_by}
use Rattle.cjc_int_narrow.specs.LowerNarrow.Written.Operands.{IsByte}
use Rattle.cjc_narrow_proof.proofs.SelectedLaws.Cuts.{decoded}
use Rattle.cjc_narrow_proof.proofs.SelectedLaws.Words.{call_short, params_counted}
use Rattle.cjc_narrow_proof.specs.Selected.Keeps.{IsSpelt}
use Rattle.cjc_int_narrow.specs.LowerIntMode.Room.{IsRoom, high_stack}
use Rattle.cjc_int_narrow.specs.LowerIntMode.Written.{int_frame, params_by, stack_words}
use Rattle.cjc_int_narrow.specs.LowerIntMode.declared.modes.Mode.TheVariants as modes
use Rattle.cjc_int_narrow.proofs.Whole.{few_enough}
use Rattle.cjc_int_narrow.specs.Select.{IsSelectable, OperandsStand}

-- ---- parameters

width_low : (s : Sort) → width s ≤ 2
width_low Boolean = omega arith
width_low Byte = omega arith
width_low Short = omega arith
width_low Int = omega arith
width_low (Reference shape) = omega arith
width_low NoValue = omega arith

widths_low : (sorts : List Sort) → widths sorts ≤ 2 * length sorts
widths_low [] = omega arith
widths_low (s ∷ sorts) = let one = width_low s in let rest = widths_low sorts in omega (arith, one, rest)

-- no more parameters than the descriptor has
signed_count : (d : Parts) → length (params_by (signature_by d)) ≤ length d.params
signed_count d = go d.is_method
  where
    go : (b : Bool) → length (params_by (if b then Some (record {
      params = map sort_of d.params;
      result = (let r = d.result in result_by r.kind r);
    }) else None)) ≤ length d.params
    go true = let same : length (map sort_of d.params) ≡ length d.params = length-map d.params sort_of
        in omega (arith, same)
    go false = omega arith

params_count : (desc : List ℕ) → length (params_by (signature_of desc)) ≤ params_of (desc_of desc)
params_count desc = go (desc_of desc)
  where
    go : (found : Option Parts) → length (params_by (option_and_then signature_by found)) ≤ params_of found
    go None = omega arith
    go (Some d) = signed_count d

-- a call takes two words at most for each parameter, and its receiver
call_words : (types : Option Signature) → words_by types ≤ 1 + 2 * length (params_by types)
call_words None = omega arith
call_words (Some types) = let le = widths_low types.params in omega (arith, le)

-- ---- operands are on the stack

module _ (w : List Class) (b : Body) (op : JOp) (locals : List Cell) where
  takes_low : (s : Stack) → (Breaks w b op (record { stack = s; locals = locals }) 501 → ⊥)
      → (Breaks w b op (record { stack = s; locals = locals }) 503 → ⊥) → takes op ≤ b.max_stack
  takes_low Clash apart h = absurd (apart (clash locals))
  takes_low (Cells s) apart h =
      let fine = false_from_ne_true (is_off b op locals s) (λ e. h (off s locals e)) in
      let front = or_left (nat_lt (length s) (takes op) || nat_lt b.max_stack (length s))
      (nat_lt b.max_stack (length (stack_behind op locals s))) fine in
      let there = ltb-false (length s) (takes op) (or_left (nat_lt (length s) (takes op))
      (nat_lt b.max_stack (length s)) front) in
      let low = ltb-false b.max_stack (length s) (or_right (nat_lt (length s) (takes op))
      (nat_lt b.max_stack (length s)) front) in
      omega (arith, there, low)

-- ---- by instruction

stand_by : (max_locals : ℕ) (op : JOp) → ((k : ℕ) → local_of op ≡ Some k → k < max_locals)
    → ((m : MemberId) → op ≡ jop.Call jvm.invokeinterface m → IsByte (nargs_of m)) → OperandsStand max_locals op
stand_by max_locals (jop.Load refs l) h g = h l refl
stand_by max_locals (jop.Store refs l) h g = h l refl
stand_by max_locals (jop.Inc l by) h g = h l refl
stand_by max_locals (jop.Call op m) h g = λ e. g m (ap (λ n. jop.Call n m) e)
stand_by max_locals jop.Nop h g = tt
stand_by max_locals jop.Null h g = tt
stand_by max_locals (jop.Number z) h g = tt
stand_by max_locals (jop.ArrayLoad op) h g = tt
stand_by max_locals (jop.ArrayStore op) h g = tt
stand_by max_locals (jop.Stack op) h g = tt
stand_by max_locals (jop.Arith op) h g = tt
stand_by max_locals (jop.Narrow op) h g = tt
stand_by max_locals (jop.If op target) h g = tt
stand_by max_locals (jop.Goto target) h g = tt
stand_by max_locals (jop.TableSwitch other low targets) h g = tt
stand_by max_locals (jop.LookupSwitch other cases) h g = tt
stand_by max_locals (jop.Return op) h g = tt
stand_by max_locals (jop.Static put f) h g = tt
stand_by max_locals (jop.Field put f) h g = tt
stand_by max_locals (jop.New class) h g = tt
stand_by max_locals (jop.NewArray kind) h g = tt
stand_by max_locals (jop.ANewArray class) h g = tt
stand_by max_locals jop.ArrayLength h g = tt
stand_by max_locals jop.Throw h g = tt
stand_by max_locals (jop.CheckCast class) h g = tt
stand_by max_locals (jop.InstanceOf class) h g = tt

-- ---- a method

module _ (files : Files) (code : MethodCode) (class : ClassTree) (method : MethodTree) (tree : CodeTree)
    (is : IsMethodOf files code class method tree) (bytes : List ℕ) (spelt : IsSpelt class bytes)
    (rows : List (Option State)) (least : IsLeastTable (body_of class method tree code.insns) rows)
    (typed : (place rule : ℕ) → Breach (all_classes files) (body_of class method tree code.insns) rows place rule → ⊥)
    (room : IsRoom (body_of class method tree code.insns) rows modes.Int true) where
  abbrev b : Body
  b = body_of class method tree code.insns

  received : (s : Bool) → length (if s then [] else Reference (OfClass class.name) ∷ []) ≡ (if s then 0 else 1)
  received true = refl
  received false = refl

  arguments_few : length (let f = int_frame b in f.params) ≤ tree.max_locals
  arguments_few =
      let fit = (decoded files code class method tree is).fit in
      let no_more : (nat_lt tree.max_locals (arguments method) ≡ true → ⊥) =
      λ e. fit 0 (too_many (ltb-true tree.max_locals (arguments method) e)) in
      let low = ltb-false tree.max_locals (arguments method) (false_from_ne_true (nat_lt tree.max_locals
      (arguments method)) no_more) in
      let own = received (is_static method.flags) in
      let count = params_count method.desc in
      let split = length-append (if is_static method.flags then [] else Reference (OfClass class.name) ∷ [])
      (params_by (signature_of method.desc)) in
      omega (arith, low, own, count, split)

  interface_words : (k : ℕ) (i : JInsn) (x : State) → slice_get code.insns k ≡ Some i → HasRow rows k x → (m : MemberId)
      → i.op ≡ jop.Call jvm.invokeinterface m → IsByte (nargs_of m)
  interface_words k i x e row m kind =
      let breach : (rule : ℕ) → Breaks (all_classes files) b i.op x rule → ⊥ =
      λ rule breaks. typed k rule (record { insn = i; is_insn = e; state = x; reached = row; breaks = breaks }) in
      let low = takes_low (all_classes files) b i.op x.locals x.stack (breach 501) (breach 503) in
      let taken : takes i.op ≡ length (parts m.desc).params + 1 = ap takes kind in
      let stack = few_enough (stack_words b) (λ more. room (high_stack more)) in
      let short = call_short files code class method tree is bytes spelt k jvm.invokeinterface i m e kind in
      let params = params_counted m.desc short in
      let count = params_count m.desc in
      let words = call_words (signature_of m.desc) in
      omega (arith, low, taken, stack, params, count, words)

  pub int_selectable : IsSelectable b rows
  int_selectable = record {
    room = room;
    arguments = arguments_few;
    each = least.closed.sized;
    ascending = insns_ascend files code class method tree is;
    stand = λ k i x e row. stand_by tree.max_locals i.op (λ l names. local_there files code class method tree is k i l e
        names) (λ m kind. interface_words k i x e row m kind);
  }
