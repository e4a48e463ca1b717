use Rattle.std.proofs.Common.{ap, cond, ◌∙◌}
use Rattle.std.specs.Prelude.{Some}
use Rattle.std.specs.Str.{bytes_eq}
use Rattle.cjc_world.proofs.Noted.{noted}
use Rattle.cjc_classes.specs.ClassInfo.Refs.{ref_in}
use Rattle.cjc_classes.proofs.class_info.refs.ClassRefs.put.Goals as goal

pub returns : goal.returns
returns c = λ x.
    noted (λ k. k.items) c.in_ok-name.name.items c.args.self.now.refs c.insert.new.self _ c.in_ok-insert.ensures.updates
    x
    ∙ ap (λ z. cond (bytes_eq z x) (Some c.args.class) (ref_in c.args.self.now x)) c.in_ok-name.ensures.items
