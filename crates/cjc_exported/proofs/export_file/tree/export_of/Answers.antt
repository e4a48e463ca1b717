use Rattle.std.proofs.Common.{◌≡◌, ◌∙◌, ap, subst}
use Rattle.std.specs.Prelude.{IfOk}
use Rattle.cjc_components.specs.ExportFile.{export_of}
use Rattle.cjc_exported.proofs.ExportFile.Plains.{plain-tree}
use Rattle.cjc_exported.proofs.export_file.tree.export_of.Goals as goal

pub returns : goal.returns
returns c = λ p of_list of_files. subst (λ e. IfOk c.tree.result (λ t. t ≡ e))
    (ap export_of c.in_ok-source.ensures.package ∙ plain-tree c.args.list.now c.args.world.now p of_list of_files)
    c.tree.ensures
