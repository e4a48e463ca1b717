use Rattle.std.proofs.Common.{◌≡◌, ◌∙◌, ap, List, get_or}
use Rattle.std.proofs.lemmas.Option.{get_or_from_slice_get}
use Rattle.cjc_classes.specs.ClassFile.declared.tree.ClassTree.{ClassTree}
use Rattle.cjc_captree.proofs.ExtentsLaws.Counting.{count_is}
use Rattle.cjc_captree.proofs.extents.rows.member_count.Goals as goal

pub returns-in-Some-checked_add : goal.returns-in-Some-checked_add
returns-in-Some-checked_add c = λ t is.
    let files = c.args.world.now in
    let n = c.args.number in
    let read = c.index-items-number.result in
    let same : read ≡ t = c.index-items-number.is ∙ ap (λ (ts : List ClassTree). get_or ts n read) (c.items.ensures
    ∙ c.classes.ensures) ∙ get_or_from_slice_get files.classes n t read is in
    let all = count_is files n t is in
    let sum = c.in-Some.ensures in
    let total = c.in-Some-checked_add.ensures in
    let fields = c.items-own.ensures in
    let methods = c.items-methods.ensures in
    let row = c.items-added.ensures in
    let got = c.added.ensures in
    cc
