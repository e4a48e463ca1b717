-- The narrow code by which a package's look-ups run a method is what is selected for it.
use Rattle.std.proofs.Common.{◌≡◌, ap, List}
use Rattle.std.specs.Prelude.{Option, Some}
use Rattle.cjc_bytes.specs.declared.fault.MemberId.{MemberId}
use Rattle.cjc_jvm_semantics.specs.Linked.{Method}
use Rattle.cjc_jvm_semantics.specs.OnePackage.{method_by}
use Rattle.cjc_code.specs.ClassFile.Code.{CodeTree}
use Rattle.cjc_code.specs.ClassFile.declared.tree.ClassTree.{ClassTree}
use Rattle.cjc_code.specs.ClassFile.declared.tree.MethodTree.{MethodTree}
use Rattle.cjc_code.specs.Decoded.{decoded}
use Rattle.cjc_narrow.specs.Rows.Package.{code_of}
use Rattle.cjc_narrow.specs.Rows.Resolved.{argument_words, resolution}
use Rattle.cjc_narrow.specs.Rows.Selected.{selected_code}
use Rattle.cjc_ncode.specs.Written.{narrow_method}
use Rattle.cjc_narrow.specs.Pairs.Roles.{with_pairs}
use Rattle.cjc_narrow.specs.Written.Rows.{has_rows}
use Rattle.cjc_types.specs.Flow.{body_of}
use Rattle.cjc_types.specs.declared.state.State.{State}
use Rattle.cjc_world.specs.Files.{Files}
use Rattle.cjc_narrow_proof.specs.Selected.Keeps.{FindsItself}

pub same_code : (files : Files) (near : List MemberId) (rows : Method → List (Option State)) (class : ClassTree)
    (method : MethodTree) (tree : CodeTree) → FindsItself files class method
    → (let m = method_by class method (Some tree) in code_of files near rows m ≡ selected_code files near class method
    tree (decoded class method tree) (rows m))
same_code files near rows class method tree found =
    let rs = rows (method_by class method (Some tree)) in
    let b = body_of class method tree (decoded class method tree) in
    ap (λ flags. narrow_method (with_pairs (resolution files near class.name) (record b { flags = flags })
    (has_rows rs))
    tree (argument_words flags method.desc) (decoded class method tree) rs) found
