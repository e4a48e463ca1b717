use Rattle.std.proofs.Common.{◌+◌, List, subst}
use Rattle.std.specs.Prelude.{option_map}
use Rattle.cjc_world.specs.ExportFile.declared.tree.ExportClass.{ExportClass}
use Rattle.cjc_world.specs.ExportFile.declared.tree.ExportTree.{ExportTree}
use Rattle.cjc_bytes.specs.Breaks.{IsFirstOf, each}
use Rattle.cjc_bytes.specs.Order.{FilePlace}
use Rattle.cjc_bytes.specs.Told.{break_of}
use Rattle.cjc_subset.specs.Exports.{export_file_of, listed_breaks, listed_class_breaks}
use Rattle.cjc_bytes.proofs.Firsts.{each_none, each_more, each_all}
use Rattle.cjc_subset.proofs.exports.exports_break_of.Goals as goal

pub loop-number-init : goal.loop-number-init
loop-number-init c = each_none (λ e (t : ExportTree). listed_breaks (export_file_of c.args.lines.now e) t)
    c.args.exports.now

pub loop-number-preserved : goal.loop-number-preserved
loop-number-preserved c =
    let tree = c.index-exports-number.result in
    let o = option_map break_of c.listed_break.result in
    let by_file = subst (λ (f : FilePlace). IsFirstOf (each (λ i x. listed_class_breaks f (i + 1) x)
    c.items.result.now) o) c.export_file_of-file.ensures c.listed_break.ensures in
    let here = subst (λ (xs : List ExportClass). IsFirstOf (each (λ i x. listed_class_breaks (export_file_of
    c.args.lines.now c.loop-number.number) (i + 1) x) xs) o) c.items.ensures by_file in
    each_more (λ e (t : ExportTree). listed_breaks (export_file_of c.args.lines.now e) t) c.loop-number.number
    c.args.exports.now tree (option_map break_of c.first-least.result) c.loop-number-test.true
    c.index-exports-number.is
    (c.first-least.ensures _ _ c.loop-number.invariant here)

pub returns : goal.returns
returns c = each_all (λ e (t : ExportTree). listed_breaks (export_file_of c.args.lines.now e) t) c.loop-number.number
    c.args.exports.now (option_map break_of c.loop-number.least) c.loop-number-test.false c.loop-number.invariant
