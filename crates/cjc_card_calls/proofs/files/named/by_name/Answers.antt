use Rattle.std.proofs.Common.{refl, ap, ◌∙◌, List}
use Rattle.cjc_card_semantics.specs.ExportFile.declared.tree.ExportClass.{ExportClass}
use Rattle.cjc_card_semantics.specs.ExportFile.Supers.{class_named, classes_of}
use Rattle.cjc_card_semantics.specs.Machine.Classes.{or_else}
use Rattle.cjc_card_calls.specs.Files.Named.{class_under}
use Rattle.cjc_card_link.proofs.OrElse.{note_more, note_all}
use Rattle.cjc_card_calls.proofs.FilesLaws.ByName.{one_file}
use Rattle.cjc_card_calls.proofs.files.named.by_name.Goals as goal

pub loop-tree-preserved : goal.loop-tree-preserved
loop-tree-preserved c = λ x. note_more (λ n ts. class_named (classes_of ts) x) (λ n t. class_named t.classes x)
    (λ n. one_file x)
    c.loop-tree.tree-index c.tree-item.result c.tree-item.result c.args.trees.now _ _ _ c.loop-tree-test.true
    c.tree-item.is
    (c.in_ok-keep_all.ensures x ∙ ap (λ (cs : List ExportClass). or_else (class_under c.loop-tree.names x)
    (class_named cs x)) c.items.ensures) (c.loop-tree.invariant x)

pub returns : goal.returns
returns c = λ x. note_all (λ n ts. class_named (classes_of ts) x) (λ n. refl) c.loop-tree.tree-index c.args.trees.now _
    _ c.loop-tree-test.false (c.loop-tree.invariant x)
