use Rattle.std.proofs.Common.{◌≡◌, sym, ap, ◌∙◌, true}
use Rattle.std.specs.Prelude.{None, option_map, if◌then◌else◌}
use Rattle.std.proofs.lemmas.Result.{IfOk-weaker}
use Rattle.cjc_jvm_step.specs.Script.declared.report.Note.TheVariants.{Event}
use Rattle.cjc_jvm_semantics.specs.OnePackage.{of_class}
use Rattle.cjc_jvm_semantics.specs.Machine.{State, is_at_once, offset, with_note, after_answer, after_result}
use Rattle.cjc_jvm.specs.Acts.Meant.{sort_meant}
use Rattle.cjc_jvm.proofs.TurnsLaws.Leading.{leads_as}
use Rattle.cjc_jvm.proofs.turns.machine.Machine.call_abroad.Goals as goal

pub returns-then-is_at_once-clause-next : goal.returns-then-is_at_once-clause-next
returns-then-is_at_once-clause-next g c =
    let l = g.L.LookUps.linked c.args.links.now in
    let id = of_class c.args.class.now c.args.id.now in
    let f = c.args.frame in
    let self = c.args.self.now in
    let result = option_map sort_meant c.args.returned in
    let is : is_at_once id ≡ true = sym c.is_at_once.ensures ∙ c.if-is_at_once.true in
    IfOk-weaker c.with_result.result _ _ (λ after h. λ before.
    let s : State = record self { frames = before } in
    leads_as _ _ after self
    (ap (λ t. if t then after_result (offset f) None f self.frames s else after_answer l s.answers result f self.frames
    (with_note (Event id c.args.args.now) s)) is
    ∙ ap (λ n. after_result n None f self.frames s) (sym c.offset.ensures))
    (h self.frames s)) c.with_result.ensures
