-- A reached instruction of a method of a package that breaks no rule: it is one of the package's code, and its operands
-- are of the types that it takes.
use Rattle.std.proofs.Common.{◌≡◌, ℕ, ◌<◌, refl, sym, ap, subst, ◌∙◌, false, true, List, Option}
use Rattle.std.specs.List.{Contains}
use Rattle.std.specs.Prelude.{Some, slice_get}
use Rattle.cjc_bytes.specs.declared.settings.Settings.{Settings}
use Rattle.cjc_jvm_semantics.specs.Linked.{Method}
use Rattle.cjc_jvm_semantics.specs.OnePackage.{is_initialiser, method_by}
use Rattle.cjc_world.specs.ClassFile.Code.{CodeTree}
use Rattle.cjc_world.specs.ClassFile.declared.tree.ClassTree.{ClassTree}
use Rattle.cjc_world.specs.ClassFile.declared.tree.MethodTree.{MethodTree}
use Rattle.cjc_world.specs.Classes.{Class, all_classes}
use Rattle.cjc_world.specs.Files.{Files}
use Rattle.cjc_components.specs.Bytecode.Decoded.{decoded, insns_of, of_code, of_method}
use Rattle.cjc_components.specs.Bytecode.declared.insn.JInsn.{JInsn}
use Rattle.cjc_components.specs.Bytecode.declared.insn.JOp.{JOp}
use Rattle.cjc_components.specs.Bytecode.declared.method_code.MethodCode.{MethodCode}
use Rattle.cjc_vtable.specs.Fixpoint.Tables.{HasRow}
use Rattle.cjc_shape_proof.specs.Whole.{IsWhole}
use Rattle.cjc_narrow_proof.specs.Laws.Unbroken.{IsInsnOf}
use Rattle.cjc_narrow_proof.specs.Runs.Tables.{Tables}
use Rattle.cjc_narrow_proof.proofs.TypesTyped.{are_frames, are_typed}
use Rattle.cjc_token_proof.specs.Types.declared.state.State.{State}
use Rattle.cjc_token_proof.specs.Types.Flow.{Body, body_of}
use Rattle.cjc_token_proof.specs.Types.Rules.{accepts}
use Rattle.cjc_token_proof.specs.Types.Search.{cells_of}
use Rattle.cjc_token_proof.specs.Types.Steps.{operand, takes}
use Rattle.cjc_token_proof.specs.Types.Tables.{IsMethodOf, IsTypeTable, rows_of}
use Rattle.cjc_token_proof.specs.Types.declared.table.TypeTable.{TypeTable}

-- The instruction stands in code of a class that holds the method, and takes what is on the stack.
pub record IsReached (files : Files) (codes : List MethodCode) (m : Method) (op : JOp) (t : State) : Type 0 where
  pub class : ClassTree
  pub insn : IsInsnOf files codes class op
  pub holder : (let id = m.id in id.class) ≡ class.name
  pub body : Body
  pub of_holder : body.class ≡ class.name
  pub fits : (k : ℕ) → k < takes op → accepts (all_classes files) body op k (operand (cells_of t.stack) k) ≡ true

-- ---- code of a method

module _ (files : Files) (codes : List MethodCode) (code : MethodCode) (class : ClassTree) (method : MethodTree)
    (tree : CodeTree) (of : IsMethodOf files code class method tree) (written : is_initialiser method.name ≡ false)
    (listed : Contains codes code) (m : Method) (is : m ≡ method_by class method (Some tree)) where
  abbrev w : List Class
  w = all_classes files

  abbrev b : Body
  b = body_of class method tree code.insns

  insns_are : decoded class method tree ≡ code.insns
  unfolding decoded
  insns_are = ap insns_of (sym (ap (of_code class method) of.is_code) ∙ sym (ap (of_method class) of.is_method)
      ∙ of.insns)

  -- an instruction of the method is one of its code
  pub insn_here : (at : ℕ) (i : JInsn) → slice_get m.insns at ≡ Some i → slice_get code.insns at ≡ Some i
  insn_here at i there = ap (λ xs. slice_get xs at) (sym (ap (λ (x : Method). x.insns) is ∙ insns_are)) ∙ there

  -- where its operands are of the types that it takes
  pub reached_so : (at : ℕ) (i : JInsn) (t : State) → slice_get m.insns at ≡ Some i → ((k : ℕ) → k < takes i.op
      → accepts w b i.op k (operand (cells_of t.stack) k) ≡ true) → IsReached files codes m i.op t
  reached_so at i t there fits = record {
    class = class;
    insn = record {
      code = code;
      method = method;
      tree = tree;
      of_package = of;
      written = written;
      listed = listed;
      place = at;
      insn = i;
      is_insn = insn_here at i there;
      is_op = refl;
    };
    holder = ap (λ (x : Method). let id = x.id in id.class) is;
    body = b;
    of_holder = refl;
    fits = fits;
  }

  -- as its type table has it
  pub reached_by : (table : TypeTable) → IsTypeTable w b table → (rows : List (Option State)) → rows ≡ rows_of b table
      → (at : ℕ) (i : JInsn) (t : State) → slice_get m.insns at ≡ Some i → HasRow rows at t
      → IsReached files codes m i.op t
  reached_by table is_table rows types at i t there row =
      let row_here : HasRow (rows_of b table) at t = subst (λ rows. HasRow rows at t) types row in
      let frame = are_frames w b table is_table at t row_here in
      let typed = are_typed w b table is_table at i frame.0 (insn_here at i there) (subst (λ x. HasRow (rows_of b table)
      at x) frame.1 row_here) in
      let stack_is : cells_of t.stack ≡ (let f = frame.0 in f.stack) = ap (λ (x : State). cells_of x.stack) frame.1 in
      reached_so at i t there (λ k less. subst (λ s. accepts w b i.op k (operand s k) ≡ true) (sym stack_is)
      (typed.operands k less))

module _ (list : List ℕ) (files : Files) (codes : List MethodCode) (settings : Settings) (tables : Tables)
    (whole : IsWhole list files codes settings tables) where
  pub reached : (m : Method) (at : ℕ) (i : JInsn) (t : State) → slice_get m.insns at ≡ Some i
      → HasRow (tables.types m) at t → IsReached files codes m i.op t
  reached m at i t there row =
      let tabled = whole.tabled in
      let h = tabled.only m at t row in
      reached_by files codes h.code h.class h.method h.tree h.of_package h.written h.listed m h.is h.table h.is_table
      (tables.types m) h.types at i t there row
