use Rattle.std.proofs.Common.{◌≡◌, ◌≤◌, sym, ap, ◌∙◌, length, take, drop, reverse, arith}
use Rattle.std.specs.Prelude.{Some}
use Rattle.std.proofs.lemmas.Result.{IfOk-weaker}
use Rattle.cjc_card_semantics.specs.Machine.Calls.{words}
use Rattle.cjc_card_semantics.specs.Machine.ByToken.{by_token}
use Rattle.cjc_card_frame.specs.Frame.Frames.{Words}
use Rattle.cjc_card_frame.specs.Kinds.{callee_of, code_of}
use Rattle.cjc_card.specs.Acts.States.{FrameByToken}
use Rattle.cjc_card.specs.States.{with_frames}
use Rattle.cjc_card.proofs.TurnsLaws.Leading.{leads_as}
use Rattle.cjc_card.proofs.TurnsLaws.Receivers.{counted_by}
use Rattle.cjc_card.proofs.turns.machine.Machine.call.Goals as goal

pub returns-clause-next : goal.returns-clause-next
unfolding by_token
returns-clause-next g c =
    let l = g.L.LookUps.loaded c.args.links.now in
    let m = callee_of c.args.callee in
    let s = c.args.self.now in
    let f = c.args.frame in
    let n = c.in-Some.count in
    let k = c.caller.inside in
    let caller : FrameByToken = record {
      code = code_of k.code;
      at = k.at;
      next = k.next;
      stack = c.forget.new.self.stack;
      locals = c.forget.new.self.locals;
    } in
    let count : words l m ≡ Some n = sym c.in_ok-count.ensures ∙ c.in-Some.is in
    let height : c.height.result ≡ length f.stack = c.height.ensures ∙ ap (λ (h : FrameByToken). length h.stack)
    c.frame.view_is in
    let enough : n ≤ length f.stack = omega (arith, c.if-count-height.false, height) in
    let are : c.items.result.now ≡ reverse (take n f.stack) = c.items.ensures ∙ c.in_ok-args.ensures.is
    ∙ ap (λ (h : FrameByToken). reverse (take n h.stack)) c.frame.view_is in
    let left : caller ≡ record f { stack = drop n f.stack } =
    ap (λ (w : Words). record { code = code_of k.code; at = k.at; next = k.next; stack = w.stack; locals = w.locals })
    c.forget.ensures
    ∙ ap (λ (h : FrameByToken). record h { stack = drop n h.stack }) c.caller.view_is in
    IfOk-weaker c.call_with.result _ _ (λ after h. λ had.
    leads_as had _ _ after c.call_with.new.self
    (counted_by l m f s.frames (with_frames had s) (words l m) n c.items.result.now caller count enough are left)
    (h had)) c.call_with.ensures.next
