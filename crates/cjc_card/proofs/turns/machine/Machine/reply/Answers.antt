use Rattle.std.proofs.Common.{sym, ap, ◌∙◌, List, ℕ}
use Rattle.std.specs.Prelude.{Option, option_map}
use Rattle.std.proofs.lemmas.Result.{IfOk-weaker}
use Rattle.cjc_script.specs.declared.script.Reply.{Reply}
use Rattle.cjc_script.specs.declared.report.Outcome.TheVariants.{Unfit}
use Rattle.cjc_jvm.specs.Acts.Meant.{sort_meant}
use Rattle.cjc_card_semantics.specs.Bytecode.Machine.{Ended, turn_after_raise, turn_after_reply}
use Rattle.cjc_card_semantics.specs.Machine.Classes.{Class}
use Rattle.cjc_card_semantics.specs.Machine.Calls.{throwable}
use Rattle.cjc_card_semantics.specs.Machine.ByToken.{by_token}
use Rattle.cjc_card.specs.States.{with_frames}
use Rattle.cjc_card.proofs.TurnsLaws.Leading.{leads_as}
use Rattle.cjc_card.proofs.turns.machine.Machine.reply.Goals as goal

pub returns-in-Some-clause-next : goal.returns-in-Some-clause-next
unfolding by_token
returns-in-Some-clause-next g c =
    let l = g.L.LookUps.loaded c.args.links.now in
    let s = c.args.self.now in
    let f = c.args.frame in
    let a = c.args.answer.now in
    let result = option_map sort_meant c.args.sort in
    let class = c.in-Some.ensures ∙ ap (λ (name : List ℕ). throwable l name) c.items.ensures in
    IfOk-weaker c.raise.result _ _ (λ after h. λ had.
    leads_as had _ _ after c.raise.new.self
    (ap (λ (r : Reply). turn_after_reply (by_token l) r a.number result f s.frames (with_frames had s)) c.in-Throw.is
    ∙ ap (λ (o : Option Class). turn_after_raise (by_token l) o f s.frames (with_frames had s) (Ended (Unfit a.number)
    (with_frames had s))) (sym class))
    (h had (Ended (Unfit a.number) (with_frames had s)))) c.raise.ensures.next

pub returns-in-None-clause-next : goal.returns-in-None-clause-next
unfolding by_token
returns-in-None-clause-next g c =
    let l = g.L.LookUps.loaded c.args.links.now in
    let s = c.args.self.now in
    let f = c.args.frame in
    let a = c.args.answer.now in
    let result = option_map sort_meant c.args.sort in
    let none = c.in-None.ensures ∙ ap (λ (name : List ℕ). throwable l name) c.items.ensures in
    λ had.
    ap (λ (r : Reply). turn_after_reply (by_token l) r a.number result f s.frames (with_frames had s)) c.in-Throw.is
    ∙ ap (λ (o : Option Class). turn_after_raise (by_token l) o f s.frames (with_frames had s) (Ended (Unfit a.number)
    (with_frames had s))) (sym none)
