use Rattle.std.proofs.Common.{sym, ap, ◌∙◌}
use Rattle.std.specs.Prelude.{slice_get}
use Rattle.cjc_world.specs.Classes.{all_classes}
use Rattle.cjc_world.proofs.Counted.{listed-class}
use Rattle.cjc_world.proofs.Indexing.{got_some}
use Rattle.cjc_world.proofs.unchecked.UncheckedWorld.class_file_break.Goals as goal

pub class_break-requires-clause-listed : goal.class_break-requires-clause-listed
class_break-requires-clause-listed c =
    let cs = c.items.result.now in
    let here = ap (λ cs. slice_get cs c.args.place) (sym (c.items.ensures ∙ c.classes.ensures))
    ∙ sym (got_some cs c.args.place c.in-Some.class.now c.in-Some.ensures.lookup.3.0 c.in-Some.ensures.lookup.1) in
    listed-class (all_classes c.args.self.now) c.args.place (slice_get c.args.self.now.classes c.args.place)
    c.in-Some.class.now here c.requires
