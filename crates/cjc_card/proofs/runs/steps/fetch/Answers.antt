use Rattle.std.proofs.Common.{◌≡◌, ℕ, ◌+◌, List, ap, sym, ◌∙◌, subst}
use Rattle.std.proofs.lemmas.Result.{IfOk-weaker}
use Rattle.cjc_card_semantics.specs.CapRead.Decoder.Decoded.{instruction_of}
use Rattle.cjc_card_semantics.specs.Bytecode.Machine.{StuckAt, turn_after_fetch}
use Rattle.cjc_card_semantics.specs.Machine.ByToken.{by_token}
use Rattle.cjc_card_frame.specs.Kinds.{code_of}
use Rattle.cjc_card.specs.Acts.States.{FrameByToken}
use Rattle.cjc_card.specs.States.{with_frames}
use Rattle.cjc_card.proofs.TurnsLaws.Leading.{leads_as}
use Rattle.cjc_card.specs.Runs.Steps.{after_deed, made_by}
use Rattle.cjc_card.proofs.RunsLaws.Followed.{fetched_by, fetched_none}
use Rattle.cjc_card.proofs.runs.steps.fetch.Goals as goal

pub returns-in_default-clause-next : goal.returns-in_default-clause-next
returns-in_default-clause-next g c =
    let l = g.L.LookUps.loaded c.args.links.now in
    let s = c.args.machine.now in
    let j = c.frame.inside in
    let f : FrameByToken = record {
      code = code_of j.code;
      at = j.at;
      next = j.next;
      stack = j.cells.stack;
      locals = j.cells.locals;
    } in
    subst (λ (h : FrameByToken). (had : List FrameByToken)
    → turn_after_fetch (by_token l) ((by_token l).fetch h.code h.at) h s.frames (with_frames had s)
    ≡ StuckAt j.at (with_frames had s)) c.frame.view_is
    (λ had. fetched_none l f s.frames (with_frames had s) c.in_default.ensures.is)

pub returns-clause-next : goal.returns-clause-next
returns-clause-next g c =
    let l = g.L.LookUps.loaded c.args.links.now in
    let s = c.args.machine.now in
    let j = c.frame.inside in
    let i = instruction_of c.in-Some.insn in
    let f : FrameByToken = record {
      code = code_of j.code;
      at = j.at;
      next = j.next;
      stack = j.cells.stack;
      locals = j.cells.locals;
    } in
    let found : (had : List FrameByToken) → turn_after_fetch (by_token l) ((by_token l).fetch c.args.first.code
    c.args.first.at) c.args.first s.frames (with_frames had s) ≡ made_by l i c.args.first s.frames
    (with_frames had s) =
    subst (λ (h : FrameByToken). (had : List FrameByToken)
    → turn_after_fetch (by_token l) ((by_token l).fetch h.code h.at) h s.frames (with_frames had s)
    ≡ made_by l i h s.frames (with_frames had s)) c.frame.view_is
    (λ had. fetched_by l f s.frames (with_frames had s) i c.in-Some.ensures.is) in
    let done = c.act_on.new.machine in
    let place : j.at ≡ c.args.first.at = ap (λ (h : FrameByToken). h.at) c.frame.view_is in
    IfOk-weaker c.follow.result _ _ (λ after h. λ had.
    leads_as had _ _ after c.follow.new.machine
    (found had
    ∙ c.in_ok-step.ensures.next had
    ∙ ap (λ (n : ℕ). after_deed l c.in_ok-step.step.deed c.in_ok-step.step.to (n + c.in-Some.insn.size)
    c.act_on.new.frame done.frames (with_frames had done)) (sym place))
    (h had)) c.follow.ensures.next
