use Rattle.std.proofs.Common.{◌∙◌, ap, sym, map, true, false}
use Rattle.cjc_exported.specs.World.Classes.{all_classes}
use Rattle.cjc_exported.specs.World.Order.{class_order, in_order}
use Rattle.cjc_classes.specs.TypeInfo.TypeTable.{class_at}
use Rattle.cjc_captree.proofs.TreesLaws.Told.{both_told, told_by_file}
use Rattle.cjc_captree.proofs.trees.order.numbers_in_order.Goals as goal

pub returns : goal.returns
unfolding class_order
returns c = λ ordered.
    let files = c.args.world.now in
    let w = all_classes files in
    both_told (class_at files.classes) (in_order w true) (in_order w false) c.in_ok-order.order c.args.classes.now
    c.in_ok-order.ensures.order (told_by_file files (in_order w false) c.args.classes.now ordered)
    ∙ ap (map (class_at files.classes)) (sym c.in_ok-put_all.ensures)
