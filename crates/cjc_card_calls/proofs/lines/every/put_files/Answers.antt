use Rattle.std.proofs.Common.{◌++◌, ℕ, List, refl, ap, ◌∙◌, map, arith}
use Rattle.cjc_card_semantics.specs.ExportFile.declared.tree.ExportClass.{ExportClass}
use Rattle.cjc_card_semantics.specs.Machine.Classes.{External}
use Rattle.cjc_card_frame.specs.Objects.{class_of}
use Rattle.cjc_card_calls.specs.Lines.Every.{files_classes}
use Rattle.cjc_card_calls.proofs.LinesLaws.Putting.{put_all, put_more}
use Rattle.cjc_card_calls.proofs.lines.every.put_files.Goals as goal

pub loop-tree-preserved : goal.loop-tree-preserved
loop-tree-preserved c =
    let same = c.loop-tree.invariant.0 in (
      omega (arith, same),
      put_more files_classes (λ n t. map (λ d. External n d.token) t.classes) (λ n t ts. refl)
          c.loop-tree.tree-index c.tree-item.result c.tree-item.result c.args.trees.now
          (map class_of c.loop-tree.classes) _ _ c.loop-tree-test.true c.tree-item.is
          (c.in_ok-put_file.ensures
          ∙ ap (λ (n : ℕ). map class_of c.loop-tree.classes ++ map (λ d. External n d.token) c.items.result.now) same
          ∙ ap (λ (cs : List ExportClass). map class_of c.loop-tree.classes
          ++ map (λ d. External c.loop-tree.tree-index d.token) cs) c.items.ensures)
          c.loop-tree.invariant.1,
    )

pub returns : goal.returns
returns c = put_all files_classes (λ n. refl) c.loop-tree.tree-index c.args.trees.now _ _ c.loop-tree-test.false
    c.loop-tree.invariant.1
