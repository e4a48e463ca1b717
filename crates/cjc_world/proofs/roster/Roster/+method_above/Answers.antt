use Rattle.std.proofs.Common.{ℕ, ◌-◌, arith, refl, List, ap, ◌∙◌}
use Rattle.std.specs.Prelude.{Option, Some, None}
use Rattle.cjc_world.specs.declared.found.Found.{Found}
use Rattle.cjc_world.specs.Classes.{all_classes}
use Rattle.cjc_world.specs.Kin.{grown, upwards}
use Rattle.cjc_world.specs.Known.{class_of}
use Rattle.cjc_world.specs.Lookup.{or_else, first, own_method}
use Rattle.cjc_world.proofs.Rising.{walk_on, walk_ends, walk_past, above-row, above-empty, above-zero, above-unknown, above-known}
use Rattle.cjc_world.proofs.roster.Roster.+method_above.Goals as goal

pub returns-then-steps-eq0 : goal.returns-then-steps-eq0
returns-then-steps-eq0 t c = above-zero (all_classes c.args.self.now) (own_method c.args.selecting c.args.name.now c.args.desc.now) c.args.steps c.args.class.now c.if-steps-eq0.true

pub returns-in_err-class : goal.returns-in_err-class
returns-in_err-class t c = c.from_residual.ensures ∙ above-unknown (all_classes c.args.self.now) (own_method c.args.selecting c.args.name.now c.args.desc.now) c.args.steps c.args.class.now c.in_err-class.ensures.named

pub returns-in-Some : goal.returns-in-Some
returns-in-Some t c =
    let w = all_classes c.args.self.now in
    let own = own_method c.args.selecting c.args.name.now c.args.desc.now in
    let k = class_of c.in_ok-class.class in
    ap (λ o. or_else o (first own (upwards (grown w (c.args.steps - 1) k.supers)))) c.in-Some.ensures
    ∙ above-known w own c.args.steps c.args.class.now k (omega (arith, c.if-steps-eq0.false)) c.in_ok-class.ensures.named

pub returns-in-Some-method_above : goal.returns-in-Some-method_above
returns-in-Some-method_above t c =
    let w = all_classes c.args.self.now in
    let own = own_method c.args.selecting c.args.name.now c.args.desc.now in
    let k = class_of c.in_ok-class.class in
    let n = c.args.steps - 1 in
    let A : List (List ℕ) → Option Found = λ xs. first own (upwards (grown w n xs)) in
    walk_ends A or_else None (above-row w own n) (above-empty w own n) c.supers-sup-items.result.now c.loop-sup.sup-index _ c.items.result.now (Some c.in-Some-method_above.found) (λ s. refl) c.loop-sup-test.true (c.items.ensures ∙ c.sup-item.is) c.in-Some-method_above.ensures c.loop-sup.invariant
    ∙ ap A c.supers-sup-items.ensures
    ∙ ap (λ o. or_else o (A k.supers)) c.in_default.ensures
    ∙ above-known w own c.args.steps c.args.class.now k (omega (arith, c.if-steps-eq0.false)) c.in_ok-class.ensures.named

pub loop-sup-preserved : goal.loop-sup-preserved
loop-sup-preserved t c =
    let w = all_classes c.args.self.now in
    let own = own_method c.args.selecting c.args.name.now c.args.desc.now in
    let n = c.args.steps - 1 in
    walk_on (λ xs. first own (upwards (grown w n xs))) or_else None (above-row w own n) (above-empty w own n) c.supers-sup-items.result.now c.loop-sup.sup-index _ c.items.result.now (λ r. refl) c.loop-sup-test.true (c.items.ensures ∙ c.sup-item.is) c.in_default-method_above.ensures c.loop-sup.invariant

pub returns : goal.returns
returns t c =
    let w = all_classes c.args.self.now in
    let own = own_method c.args.selecting c.args.name.now c.args.desc.now in
    let k = class_of c.in_ok-class.class in
    let n = c.args.steps - 1 in
    let A : List (List ℕ) → Option Found = λ xs. first own (upwards (grown w n xs)) in
    walk_past A or_else None (above-row w own n) (above-empty w own n) c.supers-sup-items.result.now c.loop-sup.sup-index c.loop-sup-test.false c.loop-sup.invariant
    ∙ ap A c.supers-sup-items.ensures
    ∙ ap (λ o. or_else o (A k.supers)) c.in_default.ensures
    ∙ above-known w own c.args.steps c.args.class.now k (omega (arith, c.if-steps-eq0.false)) c.in_ok-class.ensures.named
