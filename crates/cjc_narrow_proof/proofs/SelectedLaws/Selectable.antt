-- A method of a package that keeps the rules can be selected.
use Rattle.std.proofs.Common.{◌≡◌, ℕ, ◌+◌, ◌≤◌, refl, sym, ap, ◌∙◌, arith, true, false, ◌||◌, nat_lt, List}
use Rattle.std.proofs.Common.{length, slice_get, Option, Some, None}
use Rattle.std.specs.Prelude.{is_some, option_map}
use Rattle.std.proofs.lemmas.Bool.{ltb-false, ltb-true, false_from_ne_true}
use Rattle.std.proofs.lemmas.List.{length-map}
use Rattle.std.proofs.lemmas.Option.{slice_get-map}
use Rattle.cjc_bytes.specs.declared.fault.MemberId.{MemberId}
use Rattle.cjc_bytes.specs.declared.settings.Settings.{Settings}
use Rattle.cjc_bytes.proofs.Bools.{or_left, or_right}
use Rattle.cjc_code.specs.ClassFile.Code.{CodeTree}
use Rattle.cjc_code.specs.ClassFile.declared.tree.ClassTree.{ClassTree}
use Rattle.cjc_code.specs.ClassFile.declared.tree.MethodTree.{MethodTree}
use Rattle.cjc_code.specs.declared.insn.JInsn.{JInsn}
use Rattle.cjc_code.specs.declared.insn.JOp.{JOp}
use Rattle.cjc_code.specs.declared.insn.JOp.TheVariants as jop
use Rattle.cjc_code.specs.declared.method_code.MethodCode.{MethodCode}
use Rattle.cjc_code.specs.Rules.{too_many}
use Rattle.cjc_code.specs.Unfit.{arguments}
use Rattle.cjc_types.specs.Fixpoint.Tables.{HasRow}
use Rattle.cjc_world.specs.Classes.{Class, all_classes}
use Rattle.cjc_world.specs.Files.{Files}
use Rattle.cjc_ncode.specs.Written.{nargs_of}
use Rattle.cjc_narrow.specs.Rows.Resolved.{argument_words}
use Rattle.cjc_narrow.specs.Written.Operands.{CanBeSaid, IsByte}
use Rattle.cjc_narrow.specs.Written.Rows.{has_rows}
use Rattle.cjc_narrow.specs.Select.Select.{IsSelectable}
use Rattle.cjc_vtable.specs.LowerSubset.Ints.{works_on_int}
use Rattle.cjc_vtable.specs.LowerSubset.Types.{is_int_desc}
use Rattle.cjc_types.specs.declared.cell.Cell.{Cell}
use Rattle.cjc_types.specs.declared.state.Stack.{Stack}
use Rattle.cjc_types.specs.declared.state.Stack.TheVariants.{Cells, Clash}
use Rattle.cjc_types.specs.declared.state.State.{State}
use Rattle.cjc_types.specs.Flow.{Body, body_of}
use Rattle.cjc_types.specs.Rules.{Breaks, clash, off, is_off}
use Rattle.cjc_types.specs.Steps.{stack_behind, takes}
use Rattle.cjc_types.specs.Tables.{IsLeastTable, IsMethodOf}
use Rattle.cjc_types.specs.Types.{parts}
use Rattle.cjc_types.proofs.Ascending.{insns_ascend}
use Rattle.cjc_types.specs.TypeLaws.Places.{local_of}
use Rattle.cjc_types.proofs.TypeLaws.Standing.{local_there}
use Rattle.cjc_narrow_proof.specs.Selected.Keeps.{IsSpelt, KeepsRules}
use Rattle.cjc_narrow_proof.proofs.SelectedLaws.Cuts.{decoded}
use Rattle.cjc_narrow_proof.proofs.SelectedLaws.IntFree.{insn_free, own_desc}
use Rattle.cjc_narrow_proof.proofs.SelectedLaws.Limits.{few_locals, low_stack}
use Rattle.cjc_narrow_proof.proofs.SelectedLaws.Words.{call_short, desc_short, nargs_are, params_counted, words_few}

-- ---- operands are on the stack

module _ (w : List Class) (b : Body) (op : JOp) (locals : List Cell) where
  takes_low : (s : Stack) → (Breaks w b op (record { stack = s; locals = locals }) 501 → ⊥)
      → (Breaks w b op (record { stack = s; locals = locals }) 503 → ⊥) → takes op ≤ b.max_stack
  takes_low Clash apart h = absurd (apart (clash locals))
  takes_low (Cells s) apart h =
      let fine = false_from_ne_true (is_off b op locals s) (λ e. h (off s locals e)) in
      let front = or_left (nat_lt (length s) (takes op) || nat_lt b.max_stack (length s))
      (nat_lt b.max_stack (length (stack_behind op locals s))) fine in
      let there = ltb-false (length s) (takes op) (or_left (nat_lt (length s) (takes op))
      (nat_lt b.max_stack (length s)) front) in
      let low = ltb-false b.max_stack (length s) (or_right (nat_lt (length s) (takes op))
      (nat_lt b.max_stack (length s)) front) in
      omega (arith, there, low)

-- ---- by instruction

said_by : (op : JOp) → ((k : ℕ) → local_of op ≡ Some k → IsByte k) → ((m : MemberId) → op ≡ jop.Call 0xB9 m
    → IsByte (nargs_of m)) → CanBeSaid op
said_by (jop.Load refs l) h g = h l refl
said_by (jop.Store refs l) h g = h l refl
said_by (jop.Inc l by) h g = h l refl
said_by (jop.Call op m) h g = λ e. g m (ap (λ n. jop.Call n m) e)
said_by jop.Nop h g = tt
said_by jop.Null h g = tt
said_by (jop.Number z) h g = tt
said_by (jop.ArrayLoad op) h g = tt
said_by (jop.ArrayStore op) h g = tt
said_by (jop.Stack op) h g = tt
said_by (jop.Arith op) h g = tt
said_by (jop.Narrow op) h g = tt
said_by (jop.If op target) h g = tt
said_by (jop.Goto target) h g = tt
said_by (jop.TableSwitch other low targets) h g = tt
said_by (jop.LookupSwitch other cases) h g = tt
said_by (jop.Return op) h g = tt
said_by (jop.Static put f) h g = tt
said_by (jop.Field put f) h g = tt
said_by (jop.New class) h g = tt
said_by (jop.NewArray kind) h g = tt
said_by (jop.ANewArray class) h g = tt
said_by jop.ArrayLength h g = tt
said_by jop.Throw h g = tt
said_by (jop.CheckCast class) h g = tt
said_by (jop.InstanceOf class) h g = tt

unnamed : (m : MemberId) → works_on_int (jop.Call 0xB9 m) ≡ false → is_int_desc m.desc ≡ false
unfolding works_on_int
unnamed m e = e

-- ---- a method

module _ (files : Files) (code : MethodCode) (class : ClassTree) (method : MethodTree) (tree : CodeTree)
    (is : IsMethodOf files code class method tree) (bytes : List ℕ) (spelt : IsSpelt class bytes)
    (list : List ℕ) (codes : List MethodCode) (settings : Settings) (rows : List (Option State))
    (least : IsLeastTable (body_of class method tree code.insns) rows)
    (keeps : KeepsRules list files codes settings code (body_of class method tree code.insns) rows) where
  words_said : IsByte (argument_words method.flags method.desc)
  words_said =
      let fit = (decoded files code class method tree is).fit in
      let few = few_locals list files codes settings keeps.unbroken code class method tree is in
      let no_more : (nat_lt tree.max_locals (arguments method) ≡ true → ⊥) =
      λ e. fit 0 (too_many (ltb-true tree.max_locals (arguments method) e)) in
      let room = ltb-false tree.max_locals (arguments method) (false_from_ne_true (nat_lt tree.max_locals
      (arguments method))
      no_more) in
      let words = words_few method.desc (desc_short files code class method tree is bytes spelt)
      (own_desc files code class method tree is keeps.no_int) in
      omega (arith, few, room, words)

  interface_said : (k : ℕ) (i : JInsn) (x : State) → slice_get code.insns k ≡ Some i → HasRow rows k x → (m : MemberId)
      → i.op ≡ jop.Call 0xB9 m → IsByte (nargs_of m)
  interface_said k i x e row m kind =
      let breach : (rule : ℕ) → Breaks (all_classes files) (body_of class method tree code.insns) i.op x rule → ⊥ =
      λ rule breaks. keeps.typed k rule (record { insn = i; is_insn = e; state = x; reached = row; breaks = breaks }) in
      let low = takes_low (all_classes files) (body_of class method tree code.insns) i.op x.locals x.stack (breach 501)
      (breach 503) in
      let taken : takes i.op ≡ length (parts m.desc).params + 1 = ap takes kind in
      let stack = low_stack list files codes settings keeps.unbroken code class method tree is in
      let short = call_short files code class method tree is bytes spelt k 0xB9 i m e kind in
      let fine : works_on_int i.op ≡ false = insn_free files code class method tree is keeps.no_int k i e in
      let no_int = unnamed m (sym (ap works_on_int kind) ∙ fine) in
      let words = words_few m.desc short no_int in
      let params = params_counted m.desc short in
      let nargs = nargs_are m in
      omega (arith, low, taken, stack, words, params, nargs)

  row_there : (k : ℕ) → slice_get (has_rows rows) k ≡ Some true → (x : State) × HasRow rows k x
  row_there k e = go (slice_get rows k) refl (sym (slice_get-map is_some rows k) ∙ e)
    where
      go : (o : Option (Option State)) → slice_get rows k ≡ o → option_map is_some o ≡ Some true → (x : State)
          × HasRow rows k x
      go None f g = absurd cc
      go (Some None) f g = absurd cc
      go (Some (Some x)) f g = (x, f)

  pub selectable : IsSelectable method tree code.insns (has_rows rows)
  selectable = record {
    stack = (let le = low_stack list files codes settings keeps.unbroken code class method tree is
        in omega (arith, le));
    locals = (let le = few_locals list files codes settings keeps.unbroken code class method tree is
        in omega (arith, le));
    words = words_said;
    each = length-map rows is_some ∙ least.closed.sized;
    ascending = insns_ascend files code class method tree is;
    said = λ k i e flag. (let there = row_there k flag in said_by i.op
        (λ l names. (let le = few_locals list files codes settings keeps.unbroken code class method tree is
        in let lt = local_there files code class method tree is k i l e names in omega (arith, le, lt)))
        (λ m kind. interface_said k i there.0 e there.1 m kind));
  }
