use Rattle.std.proofs.Common.{◌≡◌, ◌∷◌, ◌+◌, ◌-◌, List, ap, sym, ◌∙◌, subst, arith}
use Rattle.cjc_card_semantics.specs.Bytecode.Machine.{Ended, Next, StuckAt, step}
use Rattle.cjc_card_semantics.specs.Machine.ByToken.{by_token}
use Rattle.cjc_card_step.specs.Effects.Deeds.{memory}
use Rattle.cjc_card.specs.Acts.States.{FrameByToken, StateByToken}
use Rattle.cjc_card.specs.States.{with_frame, with_frames}
use Rattle.cjc_card.proofs.RunsLaws.OneTurn.{spent_end, spent_on, spent_stuck}
use Rattle.cjc_card.proofs.runs.steps.step.Goals as goal

pub returns-in-On-clause-next : goal.returns-in-On-clause-next
returns-in-On-clause-next g c =
    let l = g.L.LookUps.loaded c.args.links.now in
    let i = c.machine.inside in
    let v : StateByToken = record {
      frames = i.callers;
      memory = memory i.heap i.statics;
      entries = i.entries.now;
      answers = i.answers.now;
      notes = i.notes;
      spent = i.spent;
    } in
    let turned = rw c.in-On.is at c.in_ok-at.ensures.next in
    subst (λ (s : StateByToken). (had : List FrameByToken)
    → step (by_token l) (c.args.frame ∷ s.frames) (with_frames had s)
    ≡ Next (with_frame c.in-On.top c.fetch.new.machine)) c.machine.view_is
    (λ had. spent_on l had v.spent _ c.in-On.top c.fetch.new.machine (turned had))

pub returns-in-Ended-clause-next : goal.returns-in-Ended-clause-next
returns-in-Ended-clause-next g c =
    let l = g.L.LookUps.loaded c.args.links.now in
    let i = c.machine.inside in
    let v : StateByToken = record {
      frames = i.callers;
      memory = memory i.heap i.statics;
      entries = i.entries.now;
      answers = i.answers.now;
      notes = i.notes;
      spent = i.spent;
    } in
    let turned = rw c.in-Ended.is at c.in_ok-at.ensures.next in
    subst (λ (s : StateByToken). (had : List FrameByToken)
    → step (by_token l) (c.args.frame ∷ s.frames) (with_frames had s) ≡ Ended c.in-Ended.outcome
    (with_frames had c.fetch.new.machine)) c.machine.view_is
    (λ had. spent_end l had v.spent _ c.in-Ended.outcome c.fetch.new.machine (turned had))

pub returns-in-Stuck-clause-next : goal.returns-in-Stuck-clause-next
returns-in-Stuck-clause-next g c =
    let l = g.L.LookUps.loaded c.args.links.now in
    let i = c.machine.inside in
    let j = c.machine-2.inside in
    let v : StateByToken = record {
      frames = i.callers;
      memory = memory i.heap i.statics;
      entries = i.entries.now;
      answers = i.answers.now;
      notes = i.notes;
      spent = i.spent;
    } in
    let w : StateByToken = record {
      frames = j.callers;
      memory = memory j.heap j.statics;
      entries = j.entries.now;
      answers = j.answers.now;
      notes = j.notes;
      spent = j.spent;
    } in
    let turned = rw c.in-Stuck.is at c.in_ok-at.ensures.next in
    let same : j.spent ≡ i.spent + 1 = ap (λ (s : StateByToken). s.spent) c.machine-2.view_is ∙ c.in_ok-at.ensures.spent
    in
    let back : j.spent - 1 ≡ i.spent = omega (arith, same) in
    subst (λ (s : StateByToken). (had : List FrameByToken)
    → step (by_token l) (c.args.frame ∷ s.frames) (with_frames had s)
    ≡ StuckAt c.in-Stuck.at (with_frames had (record w { spent = j.spent - 1 }))) c.machine.view_is
    (λ had. spent_stuck l had v.spent (j.spent - 1) _ c.in-Stuck.at w back (turned had
    ∙ ap (λ (s : StateByToken). StuckAt c.in-Stuck.at (with_frames had s)) (sym c.machine-2.view_is)))
