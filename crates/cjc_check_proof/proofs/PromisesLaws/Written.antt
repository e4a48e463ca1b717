-- A method that is written by the rows of its least table is made as a package's methods are.
use Rattle.std.proofs.Common.{◌≡◌, ◌<◌, sym, ap, ◌∙◌, List, length, Option, Some, None, Ok}
use Rattle.cjc_bytes.specs.declared.fault.MemberId.{MemberId}
use Rattle.cjc_world.specs.ClassFile.Code.{CodeTree}
use Rattle.cjc_world.specs.ClassFile.declared.tree.ClassTree.{ClassTree}
use Rattle.cjc_world.specs.ClassFile.declared.tree.MethodTree.{MethodTree}
use Rattle.cjc_components.specs.Bytecode.Decoded.{decoded, decoding, insns_of, of_code, of_method}
use Rattle.cjc_components.specs.Bytecode.declared.method_code.MethodCode.{MethodCode}
use Rattle.cjc_world.specs.Files.{Files}
use Rattle.cjc_pool.specs.JvmSemantics.Linked.{Method}
use Rattle.cjc_pool.specs.JvmSemantics.OnePackage.{method_at, method_by}
use Rattle.cjc_ncode.specs.declared.narrow.NMethod.{NMethod}
use Rattle.cjc_ncode.specs.Lowering.Naming.{Naming}
use Rattle.cjc_pool.specs.Narrow.Rows.Resolved.{argument_words}
use Rattle.cjc_pool.specs.Narrow.Rows.Selected.{paired, selected_code}
use Rattle.cjc_ncode.specs.Written.{narrow_method}
use Rattle.cjc_pool.specs.Narrow.Written.Rows.{by_rows_there, has_rows, has_rows_by, rows_by}
use Rattle.cjc_pool.specs.Types.declared.state.State.{State}
use Rattle.cjc_pool.specs.Types.Flow.{body_of}
use Rattle.cjc_pool.specs.Types.Tables.{IsLeastTable, IsMethodOf}
use Rattle.cjc_pool.specs.Emit.Emitted.{CanBeWritten, placed_at}
use Rattle.cjc_narrow_proof.specs.Selected.Keeps.{FindsItself}
use Rattle.cjc_narrow_proof.proofs.SelectedLaws.Run.{same_code}
use Rattle.cjc_components.specs.Package.{LaidMethod}
use Rattle.cjc_components.specs.Written.{code_by, is_abstract_by, IsWritten}
use Rattle.cjc_check_proof.specs.Made.{by_selection, IsMade, without_code}

insns_are : (files : Files) (code : MethodCode) (class : ClassTree) (method : MethodTree) (tree : CodeTree)
    → IsMethodOf files code class method tree → decoded class method tree ≡ code.insns
unfolding decoded
insns_are files code class method tree of =
    let e : decoding class method tree ≡ Ok code.insns = sym (ap (of_method class) of.is_method
    ∙ ap (of_code class method) of.is_code) ∙ of.insns in
    ap insns_of e

module _ (n : Naming) (files : Files) (near : List MemberId) (rows : Method → List (Option State)) (m : LaidMethod)
    (w : IsWritten files near rows m) where
  -- one that its class got
  pub made_without : method_at files m.member ≡ None → IsMade n files m
  made_without e =
      let is = w.code ∙ ap (code_by files near rows m.member) e in
      without_code (w.is_abstract ∙ ap is_abstract_by e) (ap (λ (x : NMethod). x.insns) is)
      (ap (λ (x : NMethod). x.catches) is) w.wide

  -- one without code in its class file
  pub made_abstract : (class : ClassTree) (method : MethodTree) → method_at files m.member
      ≡ Some (method_by class method None) → IsMade n files m
  made_abstract class method e =
      let is = w.code ∙ ap (code_by files near rows m.member) e in
      without_code (w.is_abstract ∙ ap is_abstract_by e) (ap (λ (x : NMethod). x.insns) is)
      (ap (λ (x : NMethod). x.catches) is) w.wide

  -- one with code
  pub made_selected : (code : MethodCode) (class : ClassTree) (method : MethodTree) (tree : CodeTree)
      → IsMethodOf files code class method tree → method_at files m.member ≡ Some (method_by class method (Some tree))
      → FindsItself files class method → IsLeastTable (body_of class method tree code.insns)
      (rows (method_by class method (Some tree))) → 0 < length tree.bytes
      → CanBeWritten n (placed_at 0 m.code m.wide) → IsMade n files m
  made_selected code class method tree is e itself least some can =
      let x = method_by class method (Some tree) in
      by_selection is least some near
      (w.code ∙ ap (code_by files near rows m.member) e
      ∙ same_code files near rows class method tree itself
      ∙ ap (λ insns. selected_code files near class method tree insns (rows x)) (insns_are files code class method tree
      is)
      ∙ by_rows_there (paired files near class method tree code.insns (has_rows (rows x))) tree
      (argument_words method.flags method.desc) code.insns (rows x)
      ∙ ap (λ hs. narrow_method (paired files near class method tree code.insns hs) tree
      (argument_words method.flags method.desc) code.insns (rows_by (has_rows (rows x))))
      (sym (has_rows_by (has_rows (rows x))))) can
