use Rattle.std.proofs.Common.{ℕ, List, length, sym, ap, ◌∙◌, subst}
use Rattle.cjc_fixpoint.specs.Dataflow.{StaysWithin}
use Rattle.cjc_fixpoint.specs.Kept.{AreMarks, MeetsAt}
use Rattle.cjc_types.specs.Marks.{marks_of}
use Rattle.cjc_flow.specs.Working.Kept.{Ranged, kept_flow}
use Rattle.cjc_flow.specs.Working.KeptLaws.{kept_stays, kept_meets}
use Rattle.cjc_flow.proofs.Answering.{ranged_answer}
use Rattle.cjc_flow.proofs.ranging.Ranging.ranges.Goals as goal

pub solve-requires-clause-marks : goal.solve-requires-clause-marks
solve-requires-clause-marks c = subst (λ (n : ℕ). AreMarks n c.self.inside.types.now.marks) (sym c.places.ensures)
    c.self.invariant.typed.stands.marked

pub solve-requires-clause-stays : goal.solve-requires-clause-stays
solve-requires-clause-stays c =
    let body = ap (λ (r : Ranged). length r.body.insns) c.self.view_is in
    subst (λ (n : ℕ). StaysWithin (kept_flow c.args.self.now) n) (sym (c.places.ensures ∙ body))
    (kept_stays c.args.self.now)

pub solve-requires-clause-meets : goal.solve-requires-clause-meets
solve-requires-clause-meets c =
    let body = ap (λ (r : Ranged). length r.body.insns) c.self.view_is in
    let marks = c.self.invariant.typed.marks ∙ ap (λ (r : Ranged). marks_of r.body) c.self.view_is in
    subst (λ (n : ℕ). MeetsAt (kept_flow c.args.self.now) n c.self.inside.types.now.marks) (sym (c.places.ensures
    ∙ body))
    (subst (λ (ms : List ℕ). MeetsAt (kept_flow c.args.self.now) (length c.args.self.now.body.insns) ms) (sym marks)
    (kept_meets c.args.self.now))

pub returns : goal.returns
returns c =
    ranged_answer c.self.invariant.classes c.self.inside.method c.self.inside.types.now c.self.invariant.typed
    c.self.inside.values c.args.self.now c.self.view_is c.places.result c.places.ensures c.solve.result
    c.solve.ensures.marks c.solve.ensures.stands
