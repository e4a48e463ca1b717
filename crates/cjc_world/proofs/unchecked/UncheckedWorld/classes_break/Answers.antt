use Rattle.std.proofs.Common.{sym, ◌∙◌}
use Rattle.cjc_bytes.specs.Told.{break_of}
use Rattle.cjc_world.specs.Classes.{all_classes}
use Rattle.cjc_world.proofs.Counted.{listed-numbered}
use Rattle.cjc_world.proofs.Heads.{classes_break_here, classes_go_on, classes_end}
use Rattle.cjc_world.proofs.unchecked.UncheckedWorld.classes_break.Goals as goal

pub class_break-requires-clause-listed : goal.class_break-requires-clause-listed
class_break-requires-clause-listed c =
    listed-numbered (all_classes c.args.self.now) c.args.number c.args.classes.now c.loop-place.place
    c.index-classes-place.result c.loop-place-test.true c.index-classes-place.is c.requires.listed

pub returns-in-Some : goal.returns-in-Some
returns-in-Some c =
    sym (classes_break_here c.args.self.now.package_name c.args.file c.args.file_name.now (all_classes c.args.self.now)
    c.args.number c.args.classes.now c.loop-place.place c.index-classes-place.result (break_of c.in-Some.broken)
    c.loop-place-test.true c.index-classes-place.is c.in-Some.ensures)
    ∙ c.loop-place.invariant

pub loop-place-preserved : goal.loop-place-preserved
loop-place-preserved c =
    sym (classes_go_on c.args.self.now.package_name c.args.file c.args.file_name.now (all_classes c.args.self.now)
    c.args.number c.args.classes.now c.loop-place.place c.index-classes-place.result c.loop-place-test.true
    c.index-classes-place.is c.in_default.ensures)
    ∙ c.loop-place.invariant

pub returns : goal.returns
returns c =
    sym (classes_end c.args.self.now.package_name c.args.file c.args.file_name.now (all_classes c.args.self.now)
    c.args.number c.args.classes.now c.loop-place.place c.loop-place-test.false)
    ∙ c.loop-place.invariant
