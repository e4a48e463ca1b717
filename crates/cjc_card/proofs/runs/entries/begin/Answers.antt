use Rattle.std.proofs.Common.{◌≡◌, ◌∷◌, [], List, sym, ap, ◌∙◌, subst, refl}
use Rattle.std.specs.Prelude.{Some, None}
use Rattle.cjc_script.specs.declared.value.Value.{Value}
use Rattle.cjc_script.specs.declared.report.Outcome.TheVariants.{Unfit}
use Rattle.cjc_card_semantics.specs.Bytecode.Machine.{Ended, Next, begins, frame_for_call, entry_words, with_heap}
use Rattle.cjc_card_semantics.specs.Machine.ByToken.{by_token}
use Rattle.cjc_card_frame.specs.Kinds.{start_of}
use Rattle.cjc_card_step.specs.Effects.Deeds.{memory}
use Rattle.cjc_card.specs.Acts.States.{FrameByToken, StateByToken}
use Rattle.cjc_card.proofs.RunsLaws.Begins.{fits, unfit}
use Rattle.cjc_card.proofs.runs.entries.begin.Goals as goal

pub returns-then-not-branch-clause-next : goal.returns-then-not-branch-clause-next
returns-then-not-branch-clause-next g c =
    let l = g.L.LookUps.loaded c.args.links.now in
    let i = c.machine.inside in
    let e = c.in-Some.entry.now in
    let v : StateByToken = record {
      frames = i.callers;
      memory = memory i.heap i.statics;
      entries = i.entries.now;
      answers = i.answers.now;
      notes = i.notes;
      spent = i.spent;
    } in
    let heap = c.perform.new.heap in
    let acts = rw c.items.ensures at c.in_ok-perform.ensures.acts in
    subst (λ (s : StateByToken). begins (by_token l) [] s.entries s ≡ Ended (Unfit e.number)
    (record (with_heap (by_token l) heap v) { entries = s.entries })) c.machine.view_is
    (unfit l e c.in-Some.rest.now v heap c.in_ok-perform.field-0 acts c.in-Some.ensures.cases.0 c.if-not-branch.true)

pub returns-in_default-entry_start-clause-next : goal.returns-in_default-entry_start-clause-next
returns-in_default-entry_start-clause-next g c =
    let l = g.L.LookUps.loaded c.args.links.now in
    let i = c.machine.inside in
    let e = c.in-Some.entry.now in
    let v : StateByToken = record {
      frames = i.callers;
      memory = memory i.heap i.statics;
      entries = i.entries.now;
      answers = i.answers.now;
      notes = i.notes;
      spent = i.spent;
    } in
    let heap = c.perform.new.heap in
    let acts = rw c.items.ensures at c.in_ok-perform.ensures.acts in
    subst (λ (s : StateByToken). begins (by_token l) [] s.entries s ≡ Ended (Unfit e.number)
    (record (with_heap (by_token l) heap v) { entries = s.entries })) c.machine.view_is
    (fits l e c.in-Some.rest.now v heap c.in_ok-perform.field-0 acts c.in-Some.ensures.cases.0 c.if-not-branch.false
    None (entry_words (by_token l) heap e) c.in_default-entry_start.ensures.is refl)

pub returns-in_default-2-clause-next : goal.returns-in_default-2-clause-next
returns-in_default-2-clause-next g c =
    let l = g.L.LookUps.loaded c.args.links.now in
    let i = c.machine.inside in
    let e = c.in-Some.entry.now in
    let v : StateByToken = record {
      frames = i.callers;
      memory = memory i.heap i.statics;
      entries = i.entries.now;
      answers = i.answers.now;
      notes = i.notes;
      spent = i.spent;
    } in
    let heap = c.perform.new.heap in
    let acts = rw c.items.ensures at c.in_ok-perform.ensures.acts in
    let words = rw c.in_default-2.is at c.in_ok-words.ensures.is in
    subst (λ (s : StateByToken). begins (by_token l) [] s.entries s ≡ Ended (Unfit e.number)
    (record (with_heap (by_token l) heap v) { entries = s.entries })) c.machine.view_is
    (fits l e c.in-Some.rest.now v heap c.in_ok-perform.field-0 acts c.in-Some.ensures.cases.0 c.if-not-branch.false
    (Some (start_of c.in-Some-entry_start.start)) None c.in-Some-entry_start.ensures.is words)

pub returns-clause-next : goal.returns-clause-next
returns-clause-next g c =
    let l = g.L.LookUps.loaded c.args.links.now in
    let i = c.machine.inside in
    let e = c.in-Some.entry.now in
    let m = start_of c.in-Some-entry_start.start in
    let v : StateByToken = record {
      frames = i.callers;
      memory = memory i.heap i.statics;
      entries = i.entries.now;
      answers = i.answers.now;
      notes = i.notes;
      spent = i.spent;
    } in
    let heap = c.perform.new.heap in
    let acts = rw c.items.ensures at c.in_ok-perform.ensures.acts in
    let words = rw c.in-Some-2.is at c.in_ok-words.ensures.is in
    let frame : c.in_ok-frame.frame ≡ frame_for_call m c.in-Some-2.words = c.in_ok-frame.ensures
    ∙ ap (λ (ws : List Value). frame_for_call m ws) c.items-2.ensures in
    subst (λ (s : StateByToken). begins (by_token l) [] s.entries s ≡ Next (record (with_heap (by_token l) heap v)
    { frames = c.in_ok-frame.frame ∷ []; entries = c.in-Some.rest.now })) c.machine.view_is
    (fits l e c.in-Some.rest.now v heap c.in_ok-perform.field-0 acts c.in-Some.ensures.cases.0 c.if-not-branch.false
    (Some m) (Some c.in-Some-2.words) c.in-Some-entry_start.ensures.is words
    ∙ ap (λ (f : FrameByToken). Next (record (with_heap (by_token l) heap v) {
      frames = f ∷ [];
      entries = c.in-Some.rest.now;
    })) (sym frame))
