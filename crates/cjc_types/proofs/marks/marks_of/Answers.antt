use Rattle.std.proofs.Common.{◌≡◌, ℕ, List, length, IfOk, ◌∙◌, ap, subst, arith}
use Rattle.cjc_fixpoint.specs.Marked.{marks_in}
use Rattle.cjc_types.specs.Flow.{Body}
use Rattle.cjc_types.specs.Working.MarkLaws.{all_sized, marks_same}
use Rattle.cjc_types.proofs.marks.marks_of.Goals as goal

pub marks_of-requires : goal.marks_of-requires
marks_of-requires c =
    let sized = ap length (c.deref.ensures.value ∙ c.in_ok-mark_all.ensures) ∙ all_sized c.args.method.now in
    let same : length c.method.inside.insns.now ≡ length c.args.method.now.insns =
    ap (λ (b : Body). length b.insns) c.method.view_is in
    let few = c.method.invariant.1 in
    omega (arith, sized, same, few)

pub returns : goal.returns
returns c =
    subst (λ (ms : List ℕ). IfOk c.marks_of.result (λ marks. marks ≡ ms)) (ap marks_in (c.deref.ensures.value
    ∙ c.in_ok-mark_all.ensures) ∙ marks_same c.args.method.now) c.marks_of.ensures
