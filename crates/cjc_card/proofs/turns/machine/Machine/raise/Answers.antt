use Rattle.std.proofs.Common.{◌≡◌, ◌∙◌, [], List, ap, map, refl, subst}
use Rattle.std.specs.Prelude.{IfOk, Some}
use Rattle.std.proofs.lemmas.Result.{IfOk-weaker}
use Rattle.cjc_script.specs.Sorts.{OfClass}
use Rattle.cjc_card_semantics.specs.Bytecode.Machine.{turn_after_raise, with_heap}
use Rattle.cjc_card_semantics.specs.Machine.ByToken.{by_token}
use Rattle.cjc_card_semantics.specs.Bytecode.Effects.{Object}
use Rattle.cjc_card_frame.specs.declared.heap.slots.Slot.{Slot}
use Rattle.cjc_card_frame.specs.Objects.{class_of, slot_by}
use Rattle.cjc_card_step.specs.Effects.Deeds.{memory}
use Rattle.cjc_card.specs.Acts.States.{FrameByToken, StateByToken, TurnByToken}
use Rattle.cjc_card.specs.States.{Leads, with_frames}
use Rattle.cjc_card.proofs.TurnsLaws.Tosses.{raised_by, with_thrown}
use Rattle.cjc_card.proofs.turns.machine.Machine.raise.Goals as goal

pub returns-clause-next : goal.returns-clause-next
returns-clause-next g c =
    let l = g.L.LookUps.loaded c.args.links.now in
    let i = c.self.inside in
    let f = c.args.frame in
    let class = class_of c.args.class in
    let v : StateByToken = record {
      frames = i.callers;
      memory = memory i.heap i.statics;
      entries = i.entries.now;
      answers = i.answers.now;
      notes = i.notes;
      spent = i.spent;
    } in
    let bare : c.object.result ≡ Object class [] = c.object.ensures
    ∙ ap (λ (slots : List Slot). Object class (map slot_by slots)) c.new.ensures.items in
    let exit : StateByToken = with_thrown c.throw.new.callers c.throw.new.notes (with_heap (by_token l) c.push.new.self
    v) in
    subst (λ (s : StateByToken). IfOk c.throw.result (λ after. (had : List FrameByToken) (otherwise : TurnByToken)
    → Leads had (turn_after_raise (by_token l) (Some class) f s.frames (with_frames had s) otherwise) after exit))
    c.self.view_is
    (IfOk-weaker c.throw.result _ _ (λ after h. λ had otherwise. raised_by l f v c.len-object.result (OfClass class)
    c.throw.new.callers c.throw.new.notes after h had class otherwise c.push.new.self c.object.result refl
    c.in_ok-push.ensures bare c.len-object.ensures) c.throw.ensures)
