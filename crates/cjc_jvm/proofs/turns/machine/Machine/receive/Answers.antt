use Rattle.std.proofs.Common.{◌≡◌, ◌∷◌, sym, ap, ◌∙◌, drop}
use Rattle.std.specs.Prelude.{option_map, slice_get}
use Rattle.std.proofs.lemmas.Result.{IfOk-weaker}
use Rattle.cjc_jvm_step.specs.Script.declared.value.Value.{Value}
use Rattle.cjc_jvm_step.specs.Script.declared.value.Value.TheVariants.{Obj}
use Rattle.cjc_jvm_semantics.specs.Machine.{Frame, State, heap_of, holder_of, stuck_at, at_selected, on_receiver}
use Rattle.cjc_jvm.specs.Acts.Meant.{sort_meant}
use Rattle.cjc_jvm_step.specs.Step.Names.{selection_of}
use Rattle.cjc_jvm.proofs.TurnsLaws.Leading.{leads_as}
use Rattle.cjc_jvm.proofs.TurnsLaws.Receivers.{no_receiver}
use Rattle.cjc_jvm.proofs.turns.machine.Machine.receive.Goals as goal

pub returns-in-Some-Obj-clause-next : goal.returns-in-Some-Obj-clause-next
returns-in-Some-Obj-clause-next g c =
    let l = g.L.LookUps.linked c.args.links.now in
    let f = c.args.frame in
    let self = c.args.self.now in
    let k = c.in-Some-Obj.number in
    let args = c.args.args.now in
    let result = option_map sort_meant c.args.returned in
    let on_top : f.stack ≡ Obj k ∷ drop 1 f.stack = rw c.in-Some-Obj.field-0-is at c.in-Some-Obj.ensures in
    IfOk-weaker c.send.result _ _ (λ after h. λ before.
    let s : State = record self { frames = before } in
    leads_as _ _ after c.send.new.self
    (ap (λ stack. on_receiver l (λ type. selection_of (l.call (holder_of f) c.args.op c.args.id.now) type) stack result
    args f self.frames s) on_top
    ∙ ap (λ (caller : Frame). at_selected l (λ type. selection_of (l.call (holder_of caller) c.args.op c.args.id.now)
    type) (slice_get (heap_of s) k) result (Obj k ∷ args) caller self.frames s) (sym c.forget.ensures))
    (h before)) c.send.ensures.next

pub returns-clause-next : goal.returns-clause-next
returns-clause-next g c =
    let l = g.L.LookUps.linked c.args.links.now in
    let f = c.args.frame in
    let self = c.args.self.now in
    λ before.
    let s : State = record self { frames = before } in
    no_receiver l (option_map sort_meant c.args.returned) c.args.args.now f self.frames s
    (λ type. selection_of (l.call (holder_of f) c.args.op c.args.id.now) type) f.stack c.in-None.ensures
    ∙ ap (λ n. stuck_at n s) (sym c.offset-in-None.ensures)
