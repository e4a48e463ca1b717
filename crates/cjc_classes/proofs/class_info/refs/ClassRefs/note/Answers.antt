use Rattle.std.proofs.Common.{sym, ◌∙◌}
use Rattle.cjc_classes.specs.ClassInfo.Refs.{ref_in}
use Rattle.cjc_classes.proofs.ClassInfo.Noting.{noted_none, noted_some}
use Rattle.cjc_classes.proofs.class_info.refs.ClassRefs.note.Goals as goal

pub returns-in-Some : goal.returns-in-Some
returns-in-Some c = noted_some (ref_in c.args.self.now) c.args.name.now _ c.args.class (sym c.get.ensures
    ∙ c.in-Some.is)

pub returns-in_ok-put-in-None : goal.returns-in_ok-put-in-None
returns-in_ok-put-in-None c = noted_none (ref_in c.args.self.now) (ref_in c.put.new.self) c.args.name.now c.args.class
    (sym c.get.ensures ∙ c.in-None.is) c.in_ok-put-in-None.ensures
