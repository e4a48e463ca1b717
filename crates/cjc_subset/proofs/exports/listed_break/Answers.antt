use Rattle.std.proofs.Common.{◌+◌, ℕ, List, ap, ◌∙◌}
use Rattle.std.specs.Prelude.{option_map}
use Rattle.cjc_world.specs.ExportFile.declared.tree.ExportClass.{ExportClass}
use Rattle.cjc_bytes.specs.Breaks.{class_spot}
use Rattle.cjc_bytes.specs.Order.{FilePlace}
use Rattle.cjc_bytes.specs.Told.{break_of, file_place_of}
use Rattle.cjc_subset.specs.Exports.{listed_class_breaks}
use Rattle.cjc_bytes.proofs.Firsts.{each_none, each_more, each_all}
use Rattle.cjc_subset.proofs.exports.listed_break.Goals as goal

pub loop-place-init : goal.loop-place-init
loop-place-init c = each_none (λ i (x : ExportClass). listed_class_breaks (file_place_of c.args.file) (i + 1) x)
    c.args.classes.now

pub loop-place-preserved : goal.loop-place-preserved
loop-place-preserved c =
    let f : FilePlace = file_place_of c.args.file in
    let n = c.loop-place.place + 1 in
    let here = c.of_class-spot.ensures ∙ ap (λ (name : List ℕ). class_spot f n name) c.items.ensures in
    each_more (λ i (x : ExportClass). listed_class_breaks f (i + 1) x) c.loop-place.place c.args.classes.now
    c.index-classes-place.result (option_map break_of c.first-least.result) c.loop-place-test.true
    c.index-classes-place.is
    (c.first-least.ensures _ _ c.loop-place.invariant (c.listed_class_break.ensures f n here))

pub returns : goal.returns
returns c = each_all (λ i (x : ExportClass). listed_class_breaks (file_place_of c.args.file) (i + 1) x)
    c.loop-place.place c.args.classes.now (option_map break_of c.loop-place.least) c.loop-place-test.false
    c.loop-place.invariant
