use Rattle.std.proofs.Common.{◌≡◌, ◌∷◌, [], List, ap, ◌∙◌, sym, subst}
use Rattle.std.specs.Prelude.{IfOk, Option}
use Rattle.std.proofs.lemmas.Result.{IfOk-weaker}
use Rattle.cjc_script.specs.declared.report.Report.{Report}
use Rattle.cjc_card_semantics.specs.Bytecode.Machine.{report_after_turn, step, turn}
use Rattle.cjc_card_semantics.specs.Machine.ByToken.{by_token}
use Rattle.cjc_card_step.specs.Effects.Deeds.{memory}
use Rattle.cjc_card.specs.Acts.States.{FrameByToken, StateByToken, TurnByToken}
use Rattle.cjc_card.specs.declared.turns.after.After.TheVariants as afters
use Rattle.cjc_card.specs.States.{with_frame, with_frames}
use Rattle.cjc_card.specs.Runs.Starts.{goes_on}
use Rattle.cjc_card.proofs.RunsLaws.OneTurn.{settled_as, turn_by}
use Rattle.cjc_card.proofs.runs.runs.turn.Goals as goal

pub returns-in-Some-clause-next : goal.returns-in-Some-clause-next
returns-in-Some-clause-next g c =
    let l = g.L.LookUps.loaded c.args.links.now in
    let s = c.args.machine.now in
    let fs = c.in-Some.frame ∷ s.frames in
    IfOk-weaker c.step.result _ _ (λ after h. λ go.
    ap (λ (o : Option FrameByToken). report_after_turn (by_token l) (turn (by_token l) (with_frame o s)) go)
    c.in-Some.is
    ∙ settled_as l fs _ after c.step.new.machine go (h fs)) c.step.ensures.next

pub returns-in-Some-pop-clause-next : goal.returns-in-Some-pop-clause-next
returns-in-Some-pop-clause-next g c =
    let l = g.L.LookUps.loaded c.args.links.now in
    let i = c.machine.inside in
    let v : StateByToken = record {
      frames = i.callers;
      memory = memory i.heap i.statics;
      entries = i.entries.now;
      answers = i.answers.now;
      notes = i.notes;
      spent = i.spent;
    } in
    let fs = c.in-Some-pop.frame ∷ c.pop.new.self in
    subst (λ (s : StateByToken). IfOk c.step-in-Some-pop.result (λ after. (go : StateByToken → Report)
    → report_after_turn (by_token l) (turn (by_token l) (with_frame c.args.top s)) go
    ≡ goes_on l after c.step-in-Some-pop.new.machine go)) c.machine.view_is
    (IfOk-weaker c.step-in-Some-pop.result _ _ (λ after h. λ go.
    ap (λ (o : Option FrameByToken). report_after_turn (by_token l) (turn (by_token l) (with_frame o v)) go)
    c.in_default.is
    ∙ ap (λ (gs : List FrameByToken). report_after_turn (by_token l) (turn (by_token l) (with_frames gs v)) go)
    c.in-Some-pop.ensures.some
    ∙ settled_as l fs _ after c.step-in-Some-pop.new.machine go (h fs)) c.step-in-Some-pop.ensures.next)

pub returns-in-Frame-clause-next : goal.returns-in-Frame-clause-next
returns-in-Frame-clause-next g c =
    let l = g.L.LookUps.loaded c.args.links.now in
    let i = c.machine.inside in
    let v : StateByToken = record {
      frames = i.callers;
      memory = memory i.heap i.statics;
      entries = i.entries.now;
      answers = i.answers.now;
      notes = i.notes;
      spent = i.spent;
    } in
    let f = c.in-Frame.frame in
    let new = c.begin.new.machine in
    let begun = rw c.in-Frame.is at c.in_ok-frame.ensures.next in
    let none = c.in_default-pop.ensures.none in
    let same = c.in_default-pop.ensures.same in
    let empty : new.frames ≡ [] = c.in_ok-frame.ensures.frames ∙ same in
    subst (λ (s : StateByToken). IfOk c.step-in-Frame.result (λ after. (go : StateByToken → Report)
    → report_after_turn (by_token l) (turn (by_token l) (with_frame c.args.top s)) go
    ≡ goes_on l after c.step-in-Frame.new.machine go)) c.machine.view_is
    (IfOk-weaker c.step-in-Frame.result _ _ (λ after h. λ go.
    ap (λ (o : Option FrameByToken). report_after_turn (by_token l) (turn (by_token l) (with_frame o v)) go)
    c.in_default.is
    ∙ ap (λ (gs : List FrameByToken). report_after_turn (by_token l) (turn (by_token l) (with_frames gs v)) go) (none
    ∙ sym same)
    ∙ ap (λ (t : TurnByToken). report_after_turn (by_token l) t go) (turn_by l (with_frames c.pop.new.self v) _ same
    begun)
    ∙ ap (λ (gs : List FrameByToken). report_after_turn (by_token l) (step (by_token l) (f
    ∷ gs) (with_frames (f ∷ []) new)) go) (sym empty)
    ∙ settled_as l (f ∷ []) _ after c.step-in-Frame.new.machine go (h (f ∷ []))) c.step-in-Frame.ensures.next)

pub returns-in-Ended-clause-next : goal.returns-in-Ended-clause-next
returns-in-Ended-clause-next g c =
    let l = g.L.LookUps.loaded c.args.links.now in
    let i = c.machine.inside in
    let v : StateByToken = record {
      frames = i.callers;
      memory = memory i.heap i.statics;
      entries = i.entries.now;
      answers = i.answers.now;
      notes = i.notes;
      spent = i.spent;
    } in
    let begun = rw c.in-Ended.is at c.in_ok-frame.ensures.next in
    let none = c.in_default-pop.ensures.none in
    let same = c.in_default-pop.ensures.same in
    subst (λ (s : StateByToken). (go : StateByToken → Report)
    → report_after_turn (by_token l) (turn (by_token l) (with_frame c.args.top s)) go
    ≡ goes_on l (afters.Ended c.in-Ended.outcome) c.begin.new.machine go) c.machine.view_is
    (λ go.
    ap (λ (o : Option FrameByToken). report_after_turn (by_token l) (turn (by_token l) (with_frame o v)) go)
    c.in_default.is
    ∙ ap (λ (gs : List FrameByToken). report_after_turn (by_token l) (turn (by_token l) (with_frames gs v)) go) (none
    ∙ sym same)
    ∙ ap (λ (t : TurnByToken). report_after_turn (by_token l) t go) (turn_by l (with_frames c.pop.new.self v) _ same
    begun))
