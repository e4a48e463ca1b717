use Rattle.std.specs.Prelude.{List}
use Rattle.cjc_components.specs.Bytecode.declared.method_code.MethodCode.{MethodCode}
use Rattle.cjc_components.specs.Package.{Package, world}
use Rattle.cjc_shape_proof.proofs.WrittenLaws.Checked.{files_sound, is_kept, own_ordered}
use Rattle.cjc_shape_proof.specs.LowerJudge.Rules.{settings_of}
use Rattle.cjc_shape_proof.specs.Written.Checked.{IsChecked}
use Rattle.cjc_joint_whole.proofs.WholeLaws.VirtualEntries.{meant_are_listed, virtual_are_own}
use Rattle.cjc_joint_whole.proofs.exports.checked_packages_list_virtual_methods.Goals as goal
use Rattle.cjc_token_proof.specs.List.Listed.{ListTree}
use Rattle.cjc_vtable.specs.Laws.{KeepsRules}

rules_kept : goal.After-package_laws → (list : ListTree) (codes : List MethodCode) (p : Package) → IsChecked list codes p
    → KeepsRules (world p)
rules_kept c list codes p is =
    let law = c.package_laws.ensures in
    let settings = settings_of list in
    let keeps = law.keeps list.name p.files codes settings (is_kept list codes p is (λ l fs none fine. law.unbroken l fs
    codes settings none fine)) in
    keeps.rules

pub returns-clause-own : goal.returns-clause-own
returns-clause-own c = λ list codes p is. virtual_are_own list.name p codes (settings_of list) (files_sound list codes p
    is) is.checks (own_ordered list codes p is) (rules_kept c list codes p is)

pub returns-clause-all : goal.returns-clause-all
returns-clause-all c = λ list codes p is. meant_are_listed list.name p codes (settings_of list) (files_sound list codes p
    is) is.checks (own_ordered list codes p is) (rules_kept c list codes p is)
