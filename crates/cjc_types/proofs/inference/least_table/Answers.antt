use Rattle.std.proofs.Common.{ℕ, List, length, sym, subst}
use Rattle.cjc_fixpoint.specs.Dataflow.{StaysWithin}
use Rattle.cjc_fixpoint.specs.Kept.{AreMarks, MeetsAt}
use Rattle.cjc_types.specs.Flow.{type_flow}
use Rattle.cjc_types.specs.Working.FlowLaws.{type_flow_stays}
use Rattle.cjc_types.specs.Working.MarkLaws.{marks_are, marks_meet}
use Rattle.cjc_types.proofs.inference.least_table.Goals as goal

pub solve-requires-clause-marks : goal.solve-requires-clause-marks
solve-requires-clause-marks c =
    let b = c.args.marked.now.method.now in
    subst (λ (n : ℕ). AreMarks n c.args.marked.now.marks.now) (sym c.places.ensures)
    (subst (λ (ms : List ℕ). AreMarks (length b.insns) ms) (sym c.args.marked.now.marked) (marks_are b))

pub solve-requires-clause-stays : goal.solve-requires-clause-stays
solve-requires-clause-stays c = subst (λ (n : ℕ). StaysWithin (type_flow c.args.marked.now.method.now) n)
    (sym c.places.ensures) (type_flow_stays c.args.marked.now.method.now)

pub solve-requires-clause-meets : goal.solve-requires-clause-meets
solve-requires-clause-meets c =
    let b = c.args.marked.now.method.now in
    subst (λ (n : ℕ). MeetsAt (type_flow b) n c.args.marked.now.marks.now) (sym c.places.ensures)
    (subst (λ (ms : List ℕ). MeetsAt (type_flow b) (length b.insns) ms) (sym c.args.marked.now.marked) (marks_meet b))
