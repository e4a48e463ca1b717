use Rattle.std.proofs.Common.{◌≡◌, ◌<◌, ◌==◌, ◌||◌, not, ℕ, List, length, Some, None, IfOk, refl, sym, ap, ◌∙◌, subst}
use Rattle.cjc_fixpoint.specs.Kept.{mark_of}
use Rattle.cjc_intervals.specs.Flow.{is_target}
use Rattle.cjc_types.specs.Tables.{rows_of}
use Rattle.cjc_flow.specs.Working.Kept.{Ranged, kept_arrival}
use Rattle.cjc_flow.proofs.Marked.{arrived_at, arrived_ok, frame_there, stays_at}
use Rattle.cjc_flow.proofs.ranging.Ranging.arrived.Goals as goal

pub returns-in-Some : goal.returns-in-Some
returns-in-Some c =
    let in_ = c.self.inside in
    let types = in_.types.now in
    let inv = c.self.invariant in
    let here : Ranged = record { body = in_.method; values = in_.values; types = rows_of in_.method types } in
    let mark : Some c.in-Some.mark ≡ mark_of types.marks c.args.to = sym c.in-Some.is ∙ c.mark_of.ensures
    ∙ ap (λ (ms : List ℕ). mark_of ms c.args.to) c.items.ensures in
    let there = frame_there inv.classes in_.method types inv.typed c.args.to c.in-Some.mark c.items-in-Some.result.now
    c.index-items-mark.result mark c.items-in-Some.ensures c.index-items-mark.is in
    let rounds = c.rounds-rounds.ensures ∙ ap (λ (r : Ranged). not (c.args.to == 0) || is_target r.body 0)
    (sym c.self.view_is) in
    subst (λ (r : Ranged). IfOk c.arrived.result (λ y. y ≡ kept_arrival r c.args.to c.args.state)) c.self.view_is
    (arrived_ok here c.args.to c.args.state c.index-items-mark.result c.rounds-rounds.result c.arrived.result
    (λ y is. arrived_at here inv.classes types inv.typed refl (is_target in_.method 0) refl c.args.to c.in-Some.mark
    c.index-items-mark.result c.rounds-rounds.result c.args.state y mark there rounds is)
    c.arrived.ensures)

pub returns-in-None : goal.returns-in-None
returns-in-None c =
    let in_ = c.self.inside in
    let types = in_.types.now in
    let inv = c.self.invariant in
    let here : Ranged = record { body = in_.method; values = in_.values; types = rows_of in_.method types } in
    let none : None ≡ mark_of types.marks c.args.to = sym c.in-None.is ∙ c.mark_of.ensures
    ∙ ap (λ (ms : List ℕ). mark_of ms c.args.to) c.items.ensures in
    subst (λ (r : Ranged). c.args.state ≡ kept_arrival r c.args.to c.args.state) c.self.view_is
    (stays_at here inv.classes types inv.typed (subst (λ (r : Ranged). 0 < length r.body.insns) (sym c.self.view_is)
    c.requires) c.args.to c.args.state none)
