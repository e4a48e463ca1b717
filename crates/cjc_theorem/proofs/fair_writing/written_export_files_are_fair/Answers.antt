use Rattle.std.specs.Prelude.{List}
use Rattle.cjc_components.specs.Bytecode.declared.method_code.MethodCode.{MethodCode}
use Rattle.cjc_components.specs.Package.{Package, world}
use Rattle.cjc_shape_proof.proofs.WrittenLaws.Checked.{is_kept}
use Rattle.cjc_shape_proof.specs.LowerJudge.Rules.{settings_of}
use Rattle.cjc_shape_proof.specs.Written.Checked.{IsChecked}
use Rattle.cjc_theorem.proofs.FairWriting.Built.{built_fair, over_own, some_fair}
use Rattle.cjc_theorem.proofs.fair_writing.written_export_files_are_fair.Goals as goal
use Rattle.cjc_token_proof.specs.List.Listed.{ListTree}
use Rattle.cjc_vtable.specs.Laws.{KeepsRules}

rules_kept : goal.After-package_laws → (list : ListTree) (codes : List MethodCode) (p : Package) → IsChecked list codes p
    → KeepsRules (world p)
rules_kept c list codes p is =
    let law = c.package_laws.ensures in
    let settings = settings_of list in
    let keeps = law.keeps list.name p.files codes settings (is_kept list codes p is (λ l fs none fine. law.unbroken l fs
    codes settings none fine)) in
    keeps.rules

pub returns-clause-lists : goal.returns-clause-lists
returns-clause-lists c = λ all some built distinct among. some_fair some all among distinct
    (built_fair (rules_kept c) all built distinct)

pub returns-clause-own_list : goal.returns-clause-own_list
returns-clause-own_list c = λ list files judged p before following is split fair. over_own (rules_kept c) list files
    judged p is fair before following split
