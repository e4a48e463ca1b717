use Rattle.std.proofs.Common.{◌≡◌, sym, ap, ◌∙◌}
use Rattle.std.specs.Prelude.{Some}
use Rattle.std.proofs.lemmas.Result.{IfOk-weaker}
use Rattle.cjc_jvm_step.specs.Script.Sorts.{signature_of}
use Rattle.cjc_jvm_semantics.specs.Machine.{State, holder_of, after_lookup, with_types}
use Rattle.cjc_jvm.proofs.TurnsLaws.Leading.{leads_as}
use Rattle.cjc_jvm.proofs.TurnsLaws.Receivers.{found_call}
use Rattle.cjc_jvm.proofs.turns.machine.Machine.call.Goals as goal

pub returns-in-Some-2-clause-next : goal.returns-in-Some-2-clause-next
returns-in-Some-2-clause-next g c =
    let l = g.L.LookUps.linked c.args.links.now in
    let f = c.args.frame in
    let id = c.args.id.now in
    let self = c.args.self.now in
    let o = l.call (holder_of f) c.args.op id in
    let is = rw c.holder.ensures at c.in-Some.ensures in
    let p = found_call id c.in-Some.call o is in
    let types : signature_of id.desc ≡ Some c.in-Some-2.types = ap (λ desc. signature_of desc) (sym c.items.ensures)
    ∙ sym c.in_ok-types.ensures ∙ c.in-Some-2.is in
    IfOk-weaker c.call_by.result _ _ (λ after h. λ before.
    let s : State = record self { frames = before } in
    leads_as _ _ after c.call_by.new.self
    (ap (λ x. after_lookup l x id f self.frames s) p.1 ∙ ap (λ t. with_types l p.0 t f self.frames s) types)
    (h before p.0 p.2 p.1)) c.call_by.ensures.next
