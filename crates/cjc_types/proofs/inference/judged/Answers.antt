use Rattle.std.proofs.Common.{ap, refl, ◌∙◌}
use Rattle.cjc_world.specs.Classes.{all_classes}
use Rattle.cjc_types.specs.Flow.{Body}
use Rattle.cjc_types.specs.Search.{frames_of}
use Rattle.cjc_types.proofs.Least.{judged_broken, judged_fine}
use Rattle.cjc_types.proofs.inference.judged.Goals as goal

pub returns-in-Some : goal.returns-in-Some
returns-in-Some c =
    judged_broken (all_classes c.args.world.now) c.args.marked.now.method.now c.args.table.marks c.args.table.rows
    c.requires.stands c.in_ok-first.first
    c.method.inside.insns.now c.in-Some.first c.index-method-first.result _
    (ap (λ (b : Body). b.insns) c.method.view_is) c.in_ok-first.ensures.first c.in-Some.is refl

pub returns-in_ok-frames-in-None : goal.returns-in_ok-frames-in-None
returns-in_ok-frames-in-None c =
    judged_fine (all_classes c.args.world.now) c.args.marked.now.method.now c.args.table.marks c.args.table.rows
    c.requires.stands c.in_ok-first.first
    c.in_ok-frames-in-None.frames c.requires.marks c.in_ok-first.ensures.first c.in-None.is
    (c.in_ok-frames-in-None.ensures ∙ ap frames_of c.into_vec.ensures)
