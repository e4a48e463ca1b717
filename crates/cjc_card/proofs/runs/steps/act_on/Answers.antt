use Rattle.std.proofs.Common.{◌≡◌, ◌+◌, ◌≤◌, List, ap, subst}
use Rattle.std.specs.Prelude.{IfOk}
use Rattle.std.proofs.lemmas.Result.{IfOk-weaker}
use Rattle.cjc_card_semantics.specs.CapRead.Decoder.Decoded.{instruction_of}
use Rattle.cjc_card_frame.specs.Kinds.{code_of}
use Rattle.cjc_card_step.specs.Effects.Deeds.{memory}
use Rattle.cjc_card.specs.Acts.States.{FrameByToken, StateByToken}
use Rattle.cjc_card.specs.States.{objects_at_most, with_frames}
use Rattle.cjc_card.specs.Runs.Steps.{after_deed, made_by, most_after}
use Rattle.cjc_card.proofs.RunsLaws.Followed.{acted_on, at_most, with_memory, with_words}
use Rattle.cjc_script.proofs.BytesOptions.{option_both}
use Rattle.cjc_card.proofs.runs.steps.act_on.Goals as goal

pub returns-clause-next : goal.returns-clause-next
returns-clause-next g c =
    let l = g.L.LookUps.loaded c.args.links.now in
    let i = c.machine.inside in
    let j = c.frame.inside in
    let insn = c.args.insn in
    let f : FrameByToken = record {
      code = code_of j.code;
      at = j.at;
      next = j.next;
      stack = j.cells.stack;
      locals = j.cells.locals;
    } in
    let v : StateByToken = record {
      frames = i.callers;
      memory = memory i.heap i.statics;
      entries = i.entries.now;
      answers = i.answers.now;
      notes = i.notes;
      spent = i.spent;
    } in
    let m = memory c.execute.new.heap c.execute.new.statics in
    let w = c.execute.new.cells in
    subst (λ (h : FrameByToken). IfOk c.execute.result (λ step. (had : List FrameByToken)
    → made_by l (instruction_of insn) h c.args.machine.now.frames (with_frames had c.args.machine.now)
    ≡ after_deed l step.deed step.to (h.at + insn.size) (with_words w f) i.callers
    (with_frames had (with_memory m v)))) c.frame.view_is
    (subst (λ (s : StateByToken). IfOk c.execute.result (λ step. (had : List FrameByToken)
    → made_by l (instruction_of insn) f s.frames (with_frames had s) ≡ after_deed l step.deed step.to
    (f.at + insn.size) (with_words w f) i.callers (with_frames had (with_memory m v)))) c.machine.view_is
    (IfOk-weaker c.execute.result _ _ (λ step row. λ had. acted_on l f (instruction_of insn) (f.at + insn.size) w v m
    step.to had step.deed (ap (λ n. f.at + n) c.requires.front.1.size) row) c.execute.ensures.row))

pub returns-clause-most : goal.returns-clause-most
returns-clause-most g c =
    let i = c.machine.inside in
    let v : StateByToken = record {
      frames = i.callers;
      memory = memory i.heap i.statics;
      entries = i.entries.now;
      answers = i.answers.now;
      notes = i.notes;
      spent = i.spent;
    } in
    let m = memory c.execute.new.heap c.execute.new.statics in
    subst (λ (s : StateByToken). IfOk c.execute.result (λ step. objects_at_most (with_memory m v) ≤ most_after step.deed
    (objects_at_most s))) c.machine.view_is
    (IfOk-weaker c.execute.result _ _ (λ step h. at_most _ _ step.deed step.to _ _ _ v.memory m h.0 h.1)
    (option_both c.execute.result _ _ c.execute.ensures.row c.execute.ensures.len))
