-- Each instruction that a method's type table reaches names what its files have, and fits the types of the stack.
use Rattle.std.proofs.Common.{◌≡◌, ℕ, ◌<◌, refl, sym, ap, subst, ◌∙◌, arith, Bool, true, false, List, [], ◌∷◌}
use Rattle.std.specs.Prelude.{Some, nat_lt, slice_get, ◌==◌, if◌then◌else◌}
use Rattle.cjc_bytes.specs.declared.fault.MemberId.{MemberId}
use Rattle.cjc_bytes.specs.declared.settings.Settings.{Settings}
use Rattle.cjc_jvm_semantics.specs.Linked.{Method}
use Rattle.cjc_jvm_semantics.specs.OnePackage.{object_fields}
use Rattle.cjc_world.specs.ClassFile.Code.{CodeTree}
use Rattle.cjc_world.specs.ClassFile.declared.tree.ClassTree.{ClassTree}
use Rattle.cjc_world.specs.ClassFile.declared.tree.MethodTree.{MethodTree}
use Rattle.cjc_components.specs.Bytecode.Decoded.{decoded, insns_of, of_code, of_method}
use Rattle.cjc_components.specs.Bytecode.declared.insn.JOp.{JOp}
use Rattle.cjc_components.specs.Bytecode.declared.insn.JOp.TheVariants as jop
use Rattle.cjc_components.specs.Bytecode.declared.method_code.MethodCode.{MethodCode}
use Rattle.cjc_vtable.specs.Fixpoint.Tables.{HasRow}
use Rattle.cjc_shape_proof.specs.Whole.{Accepts, HoldsFor, IsWhole}
use Rattle.cjc_shape_proof.proofs.FindsLaws.Descs.{read_of}
use Rattle.cjc_shape_proof.proofs.FindsLaws.Whole.{converted_is, fields_are, interface_is, is_solid, special_is}
use Rattle.cjc_shape_proof.proofs.FindsLaws.Whole.{static_is, virtual_is}
use Rattle.cjc_narrow_proof.specs.Laws.Left.{HasLeast}
use Rattle.cjc_narrow_proof.specs.Laws.Unbroken.{AreSpelt, IsInsnOf, IsUnbroken, KeepsNames}
use Rattle.cjc_narrow_proof.proofs.LawsLaws.Casts.{cast_there, test_there}
use Rattle.cjc_narrow_proof.proofs.LawsLaws.Instructions.{array_of_class, kept_names, new_fields, op_fit, op_there}
use Rattle.cjc_narrow_proof.specs.Runs.Calls.{IsReceiverOn}
use Rattle.cjc_narrow_proof.specs.Runs.Converted.{IsConverted, IsFirst}
use Rattle.cjc_narrow_proof.specs.Runs.Names.{AreNamed, IsNamed, a_call_on_receiver, a_cast, a_class, a_field}
use Rattle.cjc_narrow_proof.specs.Runs.Names.{a_put_field, a_static_call, a_test, an_array, booleans, bytes}
use Rattle.cjc_narrow_proof.specs.Runs.Names.{is_on_array, names_nothing, returns, shorts, throws}
use Rattle.cjc_narrow_proof.specs.Runs.Tables.{Tables, look_ups}
use Rattle.cjc_components.specs.Bytecode.ReadLaws.Instructions.{IsInstruction, has_opcode}
use Rattle.cjc_ncode.proofs.BytecodeDecoded.{decoded_instruction}
use Rattle.cjc_narrow_proof.proofs.SelectedLaws.Cuts.{decoded as is_decoded}
use Rattle.cjc_narrow_proof.proofs.SelectedLaws.IntFree.{op_free}
use Rattle.cjc_token_proof.specs.Subset.Ints.{works_on_int}
use Rattle.cjc_token_proof.specs.Subset.Types.{is_unsupported_number, names_unsupported}
use Rattle.cjc_narrow_proof.specs.Tables.Arrays.{arraylength}
use Rattle.cjc_narrow_proof.specs.Tables.Calls.{count_of}
use Rattle.cjc_narrow_proof.specs.Tables.Supported as plain
use Rattle.cjc_narrow_proof.proofs.TypesTyped.{are_frames, are_typed}
use Rattle.cjc_token_proof.specs.Types.declared.cell.Cell.{Cell}
use Rattle.cjc_token_proof.specs.Types.declared.state.State.{State}
use Rattle.cjc_token_proof.specs.Types.Flow.{Body, body_of}
use Rattle.cjc_token_proof.specs.Types.Rules.{accepts, is_of, receiver_class}
use Rattle.cjc_token_proof.specs.Types.Search.{cells_of}
use Rattle.cjc_token_proof.specs.Types.Steps.{operand, receivers, takes}
use Rattle.cjc_token_proof.specs.Types.Tables.{IsMethodOf, rows_of}
use Rattle.cjc_theorem.proofs.WholeRuns.Objects.{objects_have_values}
use Rattle.cjc_theorem.proofs.WholeRuns.Operations.{arith_plain, if_plain, load_is, narrow_plain, one_of, return_is}
use Rattle.cjc_theorem.proofs.WholeRuns.Operations.{stack_plain, store_is}
use Rattle.cjc_theorem.proofs.WholeRuns.Statics.{static_is as static_field_is}
use Rattle.cjc_world.specs.Classes.{Class, all_classes}
use Rattle.cjc_world.specs.Files.{Files}
use Rattle.cjc_world.specs.declared.image.StaticImage.{StaticImage}

otherwise : (c x y : Bool) → c ≡ false → (if c then x else y) ≡ true → y ≡ true
otherwise true x y f e = absurd cc
otherwise false x y f e = e

module _ (list : List ℕ) (files : Files) (codes : List MethodCode) (settings : Settings) (tables : Tables)
    (whole : IsWhole list files codes settings tables) (image : StaticImage) (near : List MemberId) where
  abbrev w : List Class
  w = all_classes files

  spelt : AreSpelt files
  spelt = record { package_name = whole.package_name; exports = (let s = whole.sound in s.names) }

  unbroken : IsUnbroken list files codes settings
  unbroken = whole.unbroken

  kept : KeepsNames list files codes settings
  kept = kept_names unbroken

  -- an instruction of a method of this class, on a stack of these types
  module _ (class : ClassTree) (m : Method) (own : (let id = m.id in id.class) ≡ class.name) (b : Body)
      (holder : b.class ≡ class.name) (stack : List Cell) where
    abbrev Fits : JOp → Type 0
    Fits op = (k : ℕ) → k < takes op → accepts w b op k (operand stack k) ≡ true

    abbrev Named : JOp → Type 0
    Named op = IsNamed files image near tables m stack op

    unsupported_not : (op : JOp) → IsInsnOf files codes class op → names_unsupported op ≡ false
    unsupported_not op at = (op_fit list files codes settings kept class op at).0

    int_not : (op : JOp) → IsInsnOf files codes class op → works_on_int op ≡ false
    int_not op at = op_free files codes (let u = whole.unbroken in u.no_int) class op at

    holds : (name : List ℕ) (cell : Cell) → is_of w name cell ≡ true → HoldsFor files name cell
    holds name cell e = λ names on. ap (is_of w name) (sym on) ∙ e

    receiver_fits : (op : ℕ) (id : MemberId) → receivers op ≡ 1 → Fits (jop.Call op id) → Accepts files b op id stack
    receiver_fits op id one fits =
        let n = count_of id.desc in
        let no : nat_lt n n ≡ false = grind arith in
        holds (receiver_class w b op id) (operand stack n) (otherwise (nat_lt n n) _ (is_of w (receiver_class w b op id)
        (operand stack n)) no (fits n (omega (arith, one))))

    call_named : (op : ℕ) (id : MemberId) → has_opcode (jop.Call op id) ≡ true
        → IsInsnOf files codes class (jop.Call op id) → Fits (jop.Call op id) → Named (jop.Call op id)
    call_named op id e = one_of (λ k. IsInsnOf files codes class (jop.Call k id) → Fits (jop.Call k id)
        → Named (jop.Call k id)) op (0xB6 ∷ 0xB7 ∷ 0xB8 ∷ 0xB9 ∷ []) (
          (λ at fits. on_object 0xB6 (virtual_is list files codes settings tables whole image near b stack class id at
              (receiver_fits 0xB6 id refl fits))),
          (
            (λ at fits. on_object 0xB7 (special_is list files codes settings tables whole image near b stack class id
                holder
                at (receiver_fits 0xB7 id refl fits))),
            (
              (λ at fits. a_static_call (static_is list files codes settings tables whole image near class id at)),
              (
                (λ at fits. on_object 0xB9 (interface_is list files codes settings tables whole image near b stack class
                    id
                    at (receiver_fits 0xB9 id refl fits))),
                tt,
              ),
            ),
          ),
        ) e
      where
        on_object : (k : ℕ) → IsReceiverOn files (look_ups files image near tables) tables class.name stack k id
            → Named (jop.Call k id)
        on_object k h = a_call_on_receiver (subst (λ c. IsReceiverOn files (look_ups files image near tables) tables c
            stack k id) (sym own) h)

    -- 301, and what does not work on int
    array_named : (n : ℕ) → IsInstruction (jop.NewArray n) → is_unsupported_number n ≡ false → (n == 10) ≡ false
        → Named (jop.NewArray n)
    array_named n h = one_of (λ k. is_unsupported_number k ≡ false → (k == 10) ≡ false → Named (jop.NewArray k)) n (4
        ∷ 5 ∷ 6 ∷ 7 ∷ 8 ∷ 9 ∷ 10 ∷ 11 ∷ []) (
          (λ f g. booleans),
          (
            (λ f g. absurd cc),
            (
              (λ f g. absurd cc),
              ((λ f g. absurd cc), ((λ f g. bytes), ((λ f g. shorts), ((λ f g. absurd cc), ((λ f g. absurd cc), tt))))),
            ),
          ),
        )
        h.numbers

    op_named : (op : JOp) → IsInsnOf files codes class op → IsInstruction op → Fits op → Named op
    unfolding names_unsupported works_on_int
    op_named jop.Nop at h fits = names_nothing plain.nop
    op_named jop.Null at h fits = names_nothing plain.aconst_null
    op_named (jop.Number z) at h fits = names_nothing (plain.number h.numbers)
    op_named (jop.Load false k) at h fits = names_nothing plain.iload
    op_named (jop.Load true k) at h fits = names_nothing plain.aload
    op_named (jop.Store false k) at h fits = names_nothing plain.istore
    op_named (jop.Store true k) at h fits = names_nothing plain.astore
    op_named (jop.ArrayLoad n) at h fits = is_on_array (load_is n h.opcode (int_not (jop.ArrayLoad n) at))
    op_named (jop.ArrayStore n) at h fits = is_on_array (store_is n h.opcode (int_not (jop.ArrayStore n) at))
    op_named (jop.Stack n) at h fits = names_nothing (stack_plain n h.opcode)
    op_named (jop.Arith n) at h fits = names_nothing (arith_plain n h.opcode)
    op_named (jop.Inc k z) at h fits = names_nothing (plain.iinc h.numbers)
    op_named (jop.Narrow n) at h fits = names_nothing (narrow_plain n h.opcode)
    op_named (jop.If n target) at h fits = names_nothing (if_plain n target h.opcode)
    op_named (jop.Goto target) at h fits = names_nothing plain.goto
    op_named (jop.TableSwitch other low targets) at h fits = names_nothing plain.tableswitch
    op_named (jop.LookupSwitch other cases) at h fits = names_nothing plain.lookupswitch
    op_named (jop.Return n) at h fits = returns (return_is n h.opcode)
    op_named (jop.Static put id) at h fits = static_field_is list files codes settings unbroken whole.read
        (is_solid list files codes settings tables whole) image near tables m stack class put id at
    op_named (jop.Field false id) at h fits = let f = fields_are list files codes settings tables whole image near class
        false id at (operand stack 0) (holds id.class (operand stack 0) (fits 0 (omega arith))) m in a_field f.0 f.1
    op_named (jop.Field true id) at h fits = let f = fields_are list files codes settings tables whole image near class
        true id at (operand stack 1) (holds id.class (operand stack 1) (fits 1 (omega arith))) m in a_put_field f.0 f.1
    op_named (jop.Call op id) at h fits = call_named op id h.opcode at fits
    op_named (jop.New name) at h fits =
        let ok = op_there list files codes settings kept class (jop.New name) at in
        a_class (object_fields w name) (new_fields files class name ok.0 ok.2) (objects_have_values list files codes
        settings (let u = whole.unbroken in u.checks) whole.read
        (is_solid list files codes settings tables whole) name)
    op_named (jop.NewArray n) at h fits = array_named n h (unsupported_not (jop.NewArray n) at)
        (int_not (jop.NewArray n) at)
    op_named (jop.ANewArray name) at h fits = let c = array_of_class w name (op_there list files codes settings kept
        class (jop.ANewArray name) at).0 (unsupported_not (jop.ANewArray name) at) in an_array c.0 c.1
    op_named jop.ArrayLength at h fits = is_on_array arraylength
    op_named jop.Throw at h fits = throws
    op_named (jop.CheckCast name) at h fits = let c = cast_there list files codes settings kept spelt class name at
        in a_cast c.0 c.1 c.2
    op_named (jop.InstanceOf name) at h fits = let c = test_there list files codes settings kept spelt class name at
        in a_test c.0 c.1 c.2

  insns_are : (code : MethodCode) (class : ClassTree) (method : MethodTree) (tree : CodeTree)
      → IsMethodOf files code class method tree → decoded class method tree ≡ code.insns
  unfolding decoded
  insns_are code class method tree of = ap insns_of (sym (ap (of_code class method) of.is_code)
      ∙ sym (ap (of_method class) of.is_method) ∙ of.insns)

  pub are_named : (m : Method) → AreNamed files image near tables m
  are_named m at i t insn row = by (let tabled = whole.tabled in tabled.only m at t row)
    where
      by : HasLeast files codes tables m → IsNamed files image near tables m (cells_of t.stack) i.op
      by h =
          let code = h.code in
          let class = h.class in
          let method = h.method in
          let tree = h.tree in
          let of = h.of_package in
          let b = body_of class method tree code.insns in
          let here : slice_get code.insns at ≡ Some i =
          ap (λ xs. slice_get xs at) (sym (ap (λ (x : Method). x.insns) h.is ∙ insns_are code class method tree of))
          ∙ insn in
          let reached : HasRow (rows_of b h.table) at t = subst (λ rows. HasRow rows at t) h.types row in
          let frame = are_frames w b h.table h.is_table at t reached in
          let typed = are_typed w b h.table h.is_table at i frame.0 here (subst (λ x. HasRow (rows_of b h.table) at x)
          frame.1 reached) in
          let stack_is : cells_of t.stack ≡ (let f = frame.0 in f.stack) = ap (λ (x : State). cells_of x.stack) frame.1
          in
          let file = read_of files whole.read code.class class of.is_class in
          let fit = decoded_instruction class method tree code.insns (is_decoded files code class method tree of)
          file.integers (file.bytes code.method method tree of.is_method of.is_code) at i here in
          subst (λ s. IsNamed files image near tables m s i.op) (sym stack_is)
          (op_named class m (ap (λ (x : Method). let id = x.id in id.class) h.is) b refl (let f = frame.0
          in f.stack) i.op
          (record {
            code = code;
            method = method;
            tree = tree;
            of_package = of;
            written = h.written;
            listed = h.listed;
            place = at;
            insn = i;
            is_insn = here;
            is_op = refl;
          }) fit typed.operands)

  pub converted : IsFirst (look_ups files image near tables) files image → IsConverted files image near tables
  converted first = converted_is list files codes settings tables whole image near (λ m has. are_named m) first
