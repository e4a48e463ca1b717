use Rattle.std.proofs.Common.{◌++◌, List, ap, ◌∙◌, map}
use Rattle.cjc_card_semantics.specs.ExportFile.declared.tree.ExportTree.{ExportTree}
use Rattle.cjc_card_semantics.specs.Machine.Classes.{Class, is_in}
use Rattle.cjc_card_frame.specs.declared.heap.class.Class.{Class as ClassData}
use Rattle.cjc_card_frame.specs.Objects.{class_of}
use Rattle.cjc_card_link.specs.Tables.{loaded_of}
use Rattle.cjc_card_calls.specs.Lines.Every.{files_classes, own_classes}
use Rattle.cjc_card_calls.proofs.LinesLaws.Everywhere.{all_there}
use Rattle.cjc_card_calls.proofs.lines.every.every_class.Goals as goal

pub returns : goal.returns
returns c = λ x.
    let l = loaded_of c.args.tables.now in
    ap (λ (cs : List Class). is_in x cs)
    (c.in_ok-put_files.ensures
    ∙ ap (λ (cs : List Class). cs ++ files_classes 0 c.trees-trees.result.now) (c.in_ok-put_own.ensures
    ∙ ap (λ (cs : List ClassData). map class_of cs ++ own_classes l) c.new-classes.ensures)
    ∙ ap (λ (ts : List ExportTree). own_classes l ++ files_classes 0 ts) c.trees-trees.ensures)
    ∙ all_there l.parts l.trees x
