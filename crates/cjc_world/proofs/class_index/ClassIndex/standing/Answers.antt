use Rattle.std.proofs.Common.{◌≡◌, ◌+◌, ◌-◌, suc, length, arith, sym, subst, ◌∙◌}
use Rattle.cjc_world.specs.Classes.{all_classes}
use Rattle.cjc_world.specs.Working.Steps.{IsStep}
use Rattle.cjc_world.proofs.Stepping.{begun-told, step-told, fixed-told, done-told}
use Rattle.cjc_world.proofs.class_index.ClassIndex.standing.Goals as goal

pub loop-step-init : goal.loop-step-init
loop-step-init c = begun-told (all_classes c.args.self.now) c.args.by_supers c.args.name.now c.in_ok-known.known.items
    c.in_ok-known.ensures

pub loop-step-preserved : goal.loop-step-preserved
loop-step-preserved c =
    step-told (all_classes c.args.self.now) c.args.by_supers c.args.name.now (c.loop-step._step + 1)
    c.loop-step.known.items c.in_ok-next.next.items (omega arith) c.loop-step.invariant
    (subst (λ k. IsStep (all_classes c.args.self.now) c.args.by_supers c.args.name.now k c.in_ok-next.next.items)
    c.deref.ensures.value c.in_ok-next.ensures)

pub returns-then-are_same : goal.returns-then-are_same
returns-then-are_same c =
    let w = all_classes c.args.self.now in
    let known = c.loop-step.known.items in
    let same : c.in_ok-next.next.items ≡ known = sym c.deref-in-loop-step.ensures.value
    ∙ c.are_same.ensures c.if-are_same.true ∙ c.deref-in-loop-step-2.ensures.value in
    let step : IsStep w c.args.by_supers c.args.name.now known known =
    subst (λ v. IsStep w c.args.by_supers c.args.name.now known v) same
    (subst (λ k. IsStep w c.args.by_supers c.args.name.now k c.in_ok-next.next.items) c.deref.ensures.value
    c.in_ok-next.ensures) in
    let more = length w - c.loop-step._step in
    let e : more + (c.loop-step._step + 1) ≡ suc (length w) = let n = c.count-step-end.ensures in let t =
    c.loop-step-test.true in omega arith in
    done-told w c.args.by_supers c.args.name.now (more + (c.loop-step._step + 1)) known e (fixed-told w c.args.by_supers
    c.args.name.now more (c.loop-step._step + 1) known (omega arith) c.loop-step.invariant step)

pub returns : goal.returns
returns c =
    let w = all_classes c.args.self.now in
    let e : c.loop-step._step + 1 ≡ suc (length w) = let n = c.count-step-end.ensures in let t = c.loop-step-test.false
    in let l = c.loop-step.auto in omega arith in
    done-told w c.args.by_supers c.args.name.now (c.loop-step._step + 1) c.loop-step.known.items e c.loop-step.invariant
