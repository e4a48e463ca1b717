use Rattle.std.proofs.Common.{◌≡◌, ◌∙◌, ap, sym, refl, drop, rules}
use Rattle.std.specs.Prelude.{FitsSigned}
use Rattle.std.specs.Int.{w32}
use Rattle.std.proofs.lemmas.Int.{to_z-of_z}
use Rattle.std.proofs.lemmas.Result.{IfOk-weaker}
use Rattle.cjc_card_semantics.specs.Bytecode.Effects.{arm_of}
use Rattle.cjc_card_semantics.specs.Bytecode.Effects
use Rattle.cjc_card_semantics.specs.CapRead.Decoder.Decoded.{numbers}
use Rattle.cjc_card_semantics.specs.CapRead.declared.decoder.table.Matches.TheVariants.{Counted}
use Rattle.cjc_card_semantics.specs.Machine.Operations.{moved, ranged}
use Rattle.cjc_card_frame.specs.Frame.Frames.{Words}
use Rattle.cjc_card_step.proofs.StepsLaws.Led.{both, led, pick_as}
use Rattle.cjc_card_step.proofs.steps.jumps.switch_range.Goals as goal

pub returns-in_default : goal.returns-in_default
returns-in_default c = λ l room m.
    let w = c.args.cells.now in
    let other = moved c.args.at c.args.other in
    let arms = ranged c.args.at c.args.low (numbers Counted c.args.table.now) in
    record {
      same = pick_as l c.args.is_int other arms room c.args.next w m
          ∙ c.in_default.ensures.is (λ y rest. Effects.Go (arm_of other arms y) rest w.locals m);
      keeps = (refl, refl);
    }

pub returns : goal.returns
returns c =
    let w = c.args.cells.now in
    let x = c.in-Some.number in
    let fits_x : FitsSigned w32 x = search rules in
    let fits_other : FitsSigned w32 c.args.other = c.ranges.other in
    let fits_low : FitsSigned w32 c.args.low = c.ranges.low in
    let other = moved c.args.at c.args.other in
    let arms = ranged c.args.at c.args.low (numbers Counted c.args.table.now) in
    let to = c.arm_of_range-to.result in
    let arm : to ≡ arm_of c.moved.result arms x = simp to_z-of_z at c.arm_of_range-to.ensures in
    let first : c.moved.result ≡ other = simp to_z-of_z at c.moved.ensures in
    let leads : to ≡ arm_of other arms x = arm ∙ ap (λ n. arm_of n arms x) first in
    IfOk-weaker c.go_to.result _ _ (λ step is. λ l room m.
    led _ step to w c.forget.new.self m is
    (pick_as l c.args.is_int other arms room c.args.next w m
    ∙ c.in-Some.ensures.is (λ y rest. Effects.Go (arm_of other arms y) rest w.locals m)
    ∙ ap (λ n. Effects.Go n (drop c.in-Some.taken w.stack) w.locals m) (sym leads)
    ∙ ap (λ (v : Words). Effects.Go to v.stack v.locals m) (sym c.forget.ensures))) (both c.go_to.result _ _
    c.go_to.ensures.deed c.go_to.ensures.to)
