use Rattle.std.proofs.Common.{◌≡◌, sym, ap, ◌∙◌, true}
use Rattle.std.specs.Prelude.{Some, option_map, slice_get}
use Rattle.std.proofs.lemmas.Result.{IfOk-weaker}
use Rattle.cjc_script.specs.declared.value.Value.TheVariants.{Null, Obj}
use Rattle.cjc_card_semantics.specs.Bytecode.Effects.{shape}
use Rattle.cjc_card_semantics.specs.Bytecode.Machine.{Reached, reaches}
use Rattle.cjc_card_semantics.specs.Machine.Methods.{Code}
use Rattle.cjc_card_semantics.specs.Machine.ByToken.{by_token}
use Rattle.cjc_card_frame.specs.Objects.{shape_of}
use Rattle.cjc_card_frame.specs.Kinds.{callee_of}
use Rattle.cjc_card_step.specs.Effects.Deeds.{memory}
use Rattle.cjc_card.specs.Acts.States.{StateByToken}
use Rattle.cjc_card.specs.States.{heap_of, with_frames}
use Rattle.cjc_card.proofs.TurnsLaws.Leading.{leads_as}
use Rattle.cjc_card.proofs.TurnsLaws.Receivers.{on_null_first, on_object_first, reaches_there}
use Rattle.cjc_card.proofs.turns.machine.Machine.receive.Goals as goal

pub returns-in-Some-clause-next : goal.returns-in-Some-clause-next
returns-in-Some-clause-next g c =
    let l = g.L.LookUps.loaded c.args.links.now in
    let m = callee_of c.args.callee in
    let s = c.args.self.now in
    let f = c.args.frame in
    let args = c.args.args.now in
    let i = c.self.inside in
    let v : StateByToken = record {
      frames = i.callers;
      memory = memory i.heap i.statics;
      entries = i.entries.now;
      answers = i.answers.now;
      notes = i.notes;
      spent = i.spent;
    } in
    let k = c.in-Some-Obj.number in
    let kind = shape_of c.in-Some.kind in
    let first : Some (Obj k) ≡ slice_get args 0 = rw c.in-Some-Obj.field-0-is at c.in-Some-Obj.ensures in
    let there : Some kind ≡ option_map shape (slice_get (heap_of s) k) = c.in-Some.ensures
    ∙ ap (λ (t : StateByToken). option_map shape (slice_get (heap_of t) k)) c.self.view_is in
    IfOk-weaker c.reach.result _ _ (λ after h. λ had.
    leads_as had _ _ after c.reach.new.self
    (on_object_first l m f s.frames (with_frames had s) args k first
    ∙ reaches_there l m f s.frames (with_frames had s) args (slice_get (heap_of s) k) kind there
    ∙ ap (λ (r : Reached Code). reaches (by_token l) r true args f s.frames (with_frames had s))
    (sym c.reached-reached.ensures))
    (h had)) c.reach.ensures.next

pub returns-in-Some-Null-clause-next : goal.returns-in-Some-Null-clause-next
returns-in-Some-Null-clause-next g c =
    let l = g.L.LookUps.loaded c.args.links.now in
    let s = c.args.self.now in
    let f = c.args.frame in
    let first : Some Null ≡ slice_get c.args.args.now 0 = rw c.in-Some-Null.field-0-is at c.in-Some-Null.ensures in
    IfOk-weaker c.fail.result _ _ (λ after h. λ had.
    leads_as had _ _ after c.fail.new.self
    (on_null_first l (callee_of c.args.callee) f s.frames (with_frames had s) c.args.args.now first)
    (h had)) c.fail.ensures.next
