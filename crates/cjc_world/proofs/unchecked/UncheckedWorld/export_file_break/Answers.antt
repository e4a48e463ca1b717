use Rattle.std.proofs.Common.{sym, ap, subst, ◌∙◌}
use Rattle.std.specs.Prelude.{slice_get}
use Rattle.cjc_world.specs.Classes.{all_classes, numbered, of_export_file}
use Rattle.cjc_world.specs.Working.Numbers.{AreListed}
use Rattle.cjc_world.proofs.Indexing.{got_some}
use Rattle.cjc_world.proofs.unchecked.UncheckedWorld.export_file_break.Goals as goal

pub classes_break-requires-clause-listed : goal.classes_break-requires-clause-listed
classes_break-requires-clause-listed c =
    let w = all_classes c.args.self.now in
    let es = c.items.result.now in
    let here = ap (λ es. slice_get es c.args.place) (sym (c.items.ensures ∙ c.exports.ensures))
    ∙ sym (got_some es c.args.place c.in-Some.tree.now c.in-Some.ensures.lookup.3.0 c.in-Some.ensures.lookup.1) in
    subst (λ cs. AreListed w (numbered c.args.number cs)) (sym c.items-3.ensures)
    (subst (λ o. AreListed w (of_export_file c.args.number o)) here c.requires)
