-- Each instruction that a method's type table reaches names what its files have, as code in either mode may name it.
use Rattle.std.proofs.Common.{◌≡◌, ℕ, ◌<◌, refl, sym, ap, subst, ◌∙◌, arith, Bool, true, false, List, [], ◌∷◌}
use Rattle.std.specs.Prelude.{Option, Some, nat_lt, slice_get, if◌then◌else◌}
use Rattle.cjc_bytes.specs.declared.fault.MemberId.{MemberId}
use Rattle.cjc_classes.specs.JvmSemantics.Linked.{Method}
use Rattle.cjc_classes.specs.JvmSemantics.OnePackage.{is_initialiser, method_by, object_fields}
use Rattle.cjc_classes.specs.List.Listed.{ListTree}
use Rattle.cjc_classes.specs.Subset.Types.{is_unsupported_number, names_unsupported}
use Rattle.cjc_classes.specs.Types.Flow.{Body, body_of}
use Rattle.cjc_classes.specs.Types.Rules.{Breaks, accepts, clash, is_of, receiver_class}
use Rattle.cjc_token_proof.specs.Types.Search.{cells_of}
use Rattle.cjc_classes.specs.Types.Steps.{operand, receivers, takes}
use Rattle.cjc_classes.specs.Types.Tables.{Breach, IsMethodOf}
use Rattle.cjc_classes.specs.Types.declared.cell.Cell.{Cell}
use Rattle.cjc_classes.specs.Types.declared.state.Stack.{Stack}
use Rattle.cjc_classes.specs.Types.declared.state.Stack.TheVariants as stacks
use Rattle.cjc_classes.specs.Types.declared.state.State.{State}
use Rattle.cjc_components.specs.Bytecode.Decoded.{decoded, insns_of, of_code, of_method}
use Rattle.cjc_components.specs.Bytecode.ReadLaws.Instructions.{IsInstruction, has_opcode}
use Rattle.cjc_components.specs.Bytecode.declared.insn.JInsn.{JInsn}
use Rattle.cjc_components.specs.Bytecode.declared.insn.JOp.{JOp}
use Rattle.cjc_components.specs.Bytecode.declared.insn.JOp.TheVariants as jop
use Rattle.cjc_components.specs.Bytecode.declared.method_code.MethodCode.{MethodCode}
use Rattle.cjc_components.specs.Package.{Package}
use Rattle.cjc_int_alike.specs.ByModes.{analysis_by_mode, bodies_by_mode, look_ups_by_mode, result_in}
use Rattle.cjc_int_alike.specs.Callees.{IsBegunByMode}
use Rattle.cjc_int_alike.specs.Named.{IsIntNamed, a_cast, a_class, a_field, a_put_field, a_test, an_array, booleans}
use Rattle.cjc_int_alike.specs.Named.{bytes, ints, is_on_array, names_nothing, returns, shorts, throws}
use Rattle.cjc_int_alike.specs.Names.{IsOnIntArray, as_outside, iaload, iastore}
use Rattle.cjc_int_theorem.specs.Tabled.{IsOwnMethod}
use Rattle.cjc_int_theorem.proofs.Finds.{cell_named, field_named, interface_named, special_named, static_named}
use Rattle.cjc_int_theorem.proofs.Finds.{virtual_named}
use Rattle.cjc_jvm_semantics.specs.ByName.{linked}
use Rattle.cjc_narrow_proof.specs.Laws.Unbroken.{IsInsnOf}
use Rattle.cjc_narrow_proof.specs.Runs.Tables.{Tables}
use Rattle.cjc_narrow_proof.specs.Tables.Arrays.{aaload, aastore, arraylength, baload, bastore, saload, sastore}
use Rattle.cjc_narrow_proof.specs.Tables.Calls.{count_of}
use Rattle.cjc_narrow_proof.specs.Tables.Supported as plain
use Rattle.cjc_narrow_proof.proofs.LawsLaws.Instructions.{array_of_class, new_fields, op_fit, op_there}
use Rattle.cjc_narrow_proof.proofs.SelectedLaws.Cuts.{decoded as is_decoded}
use Rattle.cjc_narrow_proof.proofs.TablesLaws.Typed.{IsTypedRow, typed_row}
use Rattle.cjc_ncode.proofs.BytecodeDecoded.{decoded_instruction}
use Rattle.cjc_shape.specs.LowerJudge.Rules.{settings_of}
use Rattle.cjc_shape_proof.specs.Whole.{Accepts, HoldsFor}
use Rattle.cjc_shape_proof.specs.Written.Checked.{IsChecked}
use Rattle.cjc_shape_proof.proofs.FindsLaws.Descs.{read_of}
use Rattle.cjc_shape_proof.proofs.WrittenLaws.Checked.{are_spelt, own_names, own_solid, read_files}
use Rattle.cjc_narrow_proof.proofs.LawsLaws.Casts.{cast_there, test_there}
use Rattle.cjc_theorem.proofs.WholeRuns.Objects.{objects_have_values}
use Rattle.cjc_theorem.proofs.WholeRuns.Operations.{arith_plain, if_plain, narrow_plain, one_of, return_is, stack_plain}
use Rattle.cjc_vtable.specs.Fixpoint.Tables.{HasRow}
use Rattle.cjc_world.specs.ClassFile.Code.{CodeTree}
use Rattle.cjc_world.specs.ClassFile.declared.tree.ClassTree.{ClassTree}
use Rattle.cjc_world.specs.ClassFile.declared.tree.MethodTree.{MethodTree}
use Rattle.cjc_world.specs.Classes.{Class, all_classes}
use Rattle.std.specs.List.{Contains}

otherwise : (c x y : Bool) → c ≡ false → (if c then x else y) ≡ true → y ≡ true
otherwise true x y f e = absurd cc
otherwise false x y f e = e

load_is : (n : ℕ) → has_opcode (jop.ArrayLoad n) ≡ true → IsOnIntArray (jop.ArrayLoad n)
load_is n e = one_of (λ k. IsOnIntArray (jop.ArrayLoad k)) n (0x2E ∷ 0x32 ∷ 0x33 ∷ 0x35 ∷ [])
    (iaload, (as_outside aaload, (as_outside baload, (as_outside saload, tt)))) e

store_is : (n : ℕ) → has_opcode (jop.ArrayStore n) ≡ true → IsOnIntArray (jop.ArrayStore n)
store_is n e = one_of (λ k. IsOnIntArray (jop.ArrayStore k)) n (0x4F ∷ 0x53 ∷ 0x54 ∷ 0x56 ∷ [])
    (iastore, (as_outside aastore, (as_outside bastore, (as_outside sastore, tt)))) e

module _ (list : ListTree) (codes : List MethodCode) (p : Package) (is : IsChecked list codes p) (near : List MemberId)
    (tables : Tables) (is_int : Method → Bool)
    (begins : (m : Method) → IsOwnMethod p.files m → IsBegunByMode (linked p.files p.image)
    (look_ups_by_mode p.files p.image near tables is_int) (all_classes p.files)
    (analysis_by_mode p.files p.image near tables is_int) (bodies_by_mode p.files p.image near tables is_int)
    (result_in p.files p.image near tables is_int) m) where
  abbrev w : List Class
  w = all_classes p.files

  -- an instruction of a method of this class, on a stack of these types
  module _ (class : ClassTree) (m : Method) (own : (let id = m.id in id.class) ≡ class.name) (b : Body)
      (holder : b.class ≡ class.name) (stack : List Cell) where
    abbrev Fits : JOp → Type 0
    Fits op = (k : ℕ) → k < takes op → accepts w b op k (operand stack k) ≡ true

    abbrev Names : JOp → Type 0
    Names op = IsIntNamed p.files p.image near tables is_int m stack op

    unsupported_not : (op : JOp) → IsInsnOf p.files codes class op → names_unsupported op ≡ false
    unsupported_not op at = (op_fit list.name p.files codes (settings_of list) (own_names list codes p is) class op
        at).0

    holds : (name : List ℕ) (cell : Cell) → is_of w name cell ≡ true → HoldsFor p.files name cell
    holds name cell e = λ names on. ap (is_of w name) (sym on) ∙ e

    receiver_fits : (op : ℕ) (id : MemberId) → receivers op ≡ 1 → Fits (jop.Call op id) → Accepts p.files b op id stack
    receiver_fits op id one fits =
        let n = count_of id.desc in
        let no : nat_lt n n ≡ false = grind arith in
        holds (receiver_class w b op id) (operand stack n) (otherwise (nat_lt n n) _ (is_of w (receiver_class w b op id)
        (operand stack n)) no (fits n (omega (arith, one))))

    call_named : (op : ℕ) (id : MemberId) → has_opcode (jop.Call op id) ≡ true
        → IsInsnOf p.files codes class (jop.Call op id) → Fits (jop.Call op id) → Names (jop.Call op id)
    call_named op id e = one_of (λ k. IsInsnOf p.files codes class (jop.Call k id) → Fits (jop.Call k id)
        → Names (jop.Call k id)) op (0xB6 ∷ 0xB7 ∷ 0xB8 ∷ 0xB9 ∷ []) (
          (λ at fits. virtual_named list codes p is near tables is_int begins class m own stack b id at
              (receiver_fits 0xB6 id refl fits)),
          (
            (λ at fits. special_named list codes p is near tables is_int begins class m own stack b id holder at
                (receiver_fits 0xB7 id refl fits)),
            (
              (λ at fits. static_named list codes p is near tables is_int begins class m own stack id at),
              (
                (λ at fits. interface_named list codes p is near tables is_int begins class m own stack b id at
                    (receiver_fits 0xB9 id refl fits)),
                tt,
              ),
            ),
          ),
        ) e

    -- 301
    array_named : (n : ℕ) → IsInstruction (jop.NewArray n) → is_unsupported_number n ≡ false → Names (jop.NewArray n)
    array_named n h = one_of (λ k. is_unsupported_number k ≡ false → Names (jop.NewArray k)) n (4
        ∷ 5 ∷ 6 ∷ 7 ∷ 8 ∷ 9 ∷ 10 ∷ 11 ∷ []) (
          (λ f. booleans),
          (
            (λ f. absurd cc),
            (
              (λ f. absurd cc),
              ((λ f. absurd cc), ((λ f. bytes), ((λ f. shorts), ((λ f. ints), ((λ f. absurd cc), tt))))),
            ),
          ),
        )
        h.numbers

    op_named : (op : JOp) → IsInsnOf p.files codes class op → IsInstruction op → Fits op → Names op
    unfolding names_unsupported
    op_named jop.Nop at h fits = names_nothing plain.nop
    op_named jop.Null at h fits = names_nothing plain.aconst_null
    op_named (jop.Number z) at h fits = names_nothing (plain.number h.numbers)
    op_named (jop.Load false k) at h fits = names_nothing plain.iload
    op_named (jop.Load true k) at h fits = names_nothing plain.aload
    op_named (jop.Store false k) at h fits = names_nothing plain.istore
    op_named (jop.Store true k) at h fits = names_nothing plain.astore
    op_named (jop.ArrayLoad n) at h fits = is_on_array (load_is n h.opcode)
    op_named (jop.ArrayStore n) at h fits = is_on_array (store_is n h.opcode)
    op_named (jop.Stack n) at h fits = names_nothing (stack_plain n h.opcode)
    op_named (jop.Arith n) at h fits = names_nothing (arith_plain n h.opcode)
    op_named (jop.Inc k z) at h fits = names_nothing (plain.iinc h.numbers)
    op_named (jop.Narrow n) at h fits = names_nothing (narrow_plain n h.opcode)
    op_named (jop.If n target) at h fits = names_nothing (if_plain n target h.opcode)
    op_named (jop.Goto target) at h fits = names_nothing plain.goto
    op_named (jop.TableSwitch other low targets) at h fits = names_nothing plain.tableswitch
    op_named (jop.LookupSwitch other cases) at h fits = names_nothing plain.lookupswitch
    op_named (jop.Return n) at h fits = returns (return_is n h.opcode)
    op_named (jop.Static put id) at h fits = cell_named list codes p is near tables is_int begins class m own stack put
        id at
    op_named (jop.Field false id) at h fits = let f = field_named list codes p is near tables is_int begins class m own
        stack false id at (operand stack 0) (holds id.class (operand stack 0) (fits 0 (omega arith))) in a_field f.0 f.1
    op_named (jop.Field true id) at h fits = let f = field_named list codes p is near tables is_int begins class m own
        stack true id at (operand stack 1) (holds id.class (operand stack 1) (fits 1 (omega arith))) in a_put_field f.0
        f.1
    op_named (jop.Call op id) at h fits = call_named op id h.opcode at fits
    op_named (jop.New name) at h fits =
        let ok = op_there list.name p.files codes (settings_of list) (own_names list codes p is) class (jop.New name) at
        in
        a_class (object_fields w name) (new_fields p.files class name ok.0 ok.2) (objects_have_values list.name p.files
        codes (settings_of list) is.checks (read_files list codes p is) (own_solid list codes p is) name)
    op_named (jop.NewArray n) at h fits = array_named n h (unsupported_not (jop.NewArray n) at)
    op_named (jop.ANewArray name) at h fits = let c = array_of_class w name (op_there list.name p.files codes
        (settings_of list) (own_names list codes p is) class (jop.ANewArray name) at).0
        (unsupported_not (jop.ANewArray name) at) in an_array c.0 c.1
    op_named jop.ArrayLength at h fits = is_on_array (as_outside arraylength)
    op_named jop.Throw at h fits = throws
    op_named (jop.CheckCast name) at h fits = let c = cast_there list.name p.files codes (settings_of list)
        (own_names list codes p is) (are_spelt list codes p is) class name at in a_cast c.0 c.1 c.2
    op_named (jop.InstanceOf name) at h fits = let c = test_there list.name p.files codes (settings_of list)
        (own_names list codes p is) (are_spelt list codes p is) class name at in a_test c.0 c.1 c.2

  -- ---- a method

  module _ (code : MethodCode) (class : ClassTree) (method : MethodTree) (tree : CodeTree)
      (of : IsMethodOf p.files code class method tree) (listed : Contains codes code)
      (written : is_initialiser method.name ≡ false) where
    abbrev body : Body
    body = body_of class method tree code.insns

    pub insns_are : decoded class method tree ≡ code.insns
    unfolding decoded
    insns_are = ap insns_of (sym (ap (of_code class method) of.is_code)
        ∙ sym (ap (of_method class) of.is_method) ∙ of.insns)

    pub insn_is : (at : ℕ) (i : JInsn) → slice_get code.insns at ≡ Some i → IsInsnOf p.files codes class i.op
    insn_is at i here = record {
      code = code;
      method = method;
      tree = tree;
      of_package = of;
      written = written;
      listed = listed;
      place = at;
      insn = i;
      is_insn = here;
      is_op = refl;
    }

    module _ (rows : List (Option State)) (unbroken : (place rule : ℕ) → Breach w body rows place rule → ⊥) where
      row_typed : (at : ℕ) (i : JInsn) (t : State) → slice_get code.insns at ≡ Some i → HasRow rows at t
          → IsTypedRow w body i.op t
      row_typed at i t here row = typed_row w body i.op t (whole t.stack refl) broken
        where
          broken : (rule : ℕ) → Breaks w body i.op t rule → ⊥
          broken rule breaks = unbroken at rule (record {
            insn = i;
            is_insn = here;
            state = t;
            reached = row;
            breaks = breaks;
          })

          whole : (s : Stack) → t.stack ≡ s → s ≡ stacks.Cells (cells_of s)
          whole (stacks.Cells cells) e = refl
          whole stacks.Clash e = absurd (broken 501 (subst (λ s. Breaks w body i.op (record {
            stack = s;
            locals = t.locals;
          }) 501) (sym e) (clash t.locals)))

      pub row_named : (at : ℕ) (i : JInsn) (t : State) → slice_get code.insns at ≡ Some i → HasRow rows at t
          → IsIntNamed p.files p.image near tables is_int (method_by class method (Some tree)) (cells_of t.stack) i.op
      row_named at i t here row =
          let file = read_of p.files (read_files list codes p is) code.class class of.is_class in
          let fit = decoded_instruction class method tree code.insns (is_decoded p.files code class method tree of)
          file.integers (file.bytes code.method method tree of.is_method of.is_code) at i here in
          let typed = row_typed at i t here row in
          op_named class (method_by class method (Some tree)) refl body refl (cells_of t.stack) i.op (insn_is at i here)
          fit typed.operands
