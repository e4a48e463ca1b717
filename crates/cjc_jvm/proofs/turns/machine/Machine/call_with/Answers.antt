use Rattle.std.specs.Prelude.{option_map}
use Rattle.std.proofs.lemmas.Result.{IfOk-weaker}
use Rattle.cjc_jvm_semantics.specs.Machine.{State, holder_of}
use Rattle.cjc_jvm.specs.Acts.Meant.{sort_meant}
use Rattle.cjc_jvm.proofs.TurnsLaws.Leading.{leads_as}
use Rattle.cjc_jvm.proofs.TurnsLaws.Receivers.{at_object}
use Rattle.cjc_jvm.proofs.turns.machine.Machine.call_with.Goals as goal

pub returns-in-OnObject-clause-next : goal.returns-in-OnObject-clause-next
returns-in-OnObject-clause-next g c =
    let l = g.L.LookUps.linked c.args.links.now in
    let f = c.args.frame in
    let self = c.args.self.now in
    let call = l.call (holder_of f) c.args.op c.args.id.now in
    rw c.in-OnObject.is (IfOk-weaker c.receive.result _ _ (λ after h. λ before found is there.
    leads_as _ _ after c.receive.new.self
    (at_object l (option_map sort_meant c.args.returned) c.args.args.now f self.frames (record self { frames = before })
    found call is there)
    (h before)) c.receive.ensures.next)
