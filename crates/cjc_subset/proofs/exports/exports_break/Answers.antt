use Rattle.std.proofs.Common.{List, subst, ◌∙◌}
use Rattle.std.specs.Prelude.{option_map}
use Rattle.cjc_bytes.specs.declared.settings.FileLine.{FileLine}
use Rattle.cjc_world.specs.ExportFile.declared.tree.ExportTree.{ExportTree}
use Rattle.cjc_bytes.specs.Breaks.{IsFirstOf, each}
use Rattle.cjc_bytes.specs.Told.{break_of}
use Rattle.cjc_subset.specs.Exports.{export_breaks, export_file_of, listed_breaks}
use Rattle.cjc_subset.proofs.exports.exports_break.Goals as goal

pub returns : goal.returns
unfolding export_breaks
returns c =
    let o = option_map break_of c.exports_break_of.result in
    let by_lines = subst (λ (ls : List FileLine). IsFirstOf (each (λ e t. listed_breaks (export_file_of ls e) t)
    c.items-2.result.now) o) (c.items.ensures ∙ c.lines.ensures) c.exports_break_of.ensures in
    subst (λ (ts : List ExportTree). IsFirstOf (each (λ e t. listed_breaks (export_file_of c.args.world.now.lines e) t)
    ts) o) (c.items-2.ensures ∙ c.exports.ensures) by_lines
