use Rattle.std.proofs.Common.{ℕ, ◌-◌, arith, refl, List, true, false, sym, ap, ◌∙◌}
use Rattle.std.specs.Prelude.{Option, Some, None, if◌then◌else◌}
use Rattle.cjc_world.specs.declared.found.Found.{Found}
use Rattle.cjc_world.specs.Classes.{all_classes}
use Rattle.cjc_world.specs.Kin.{grown}
use Rattle.cjc_world.specs.Interfaces.{known, gathered}
use Rattle.cjc_world.specs.Known.{class_of}
use Rattle.cjc_world.specs.Lookup.{or_else, first, own_method}
use Rattle.cjc_world.proofs.Rising.{walk_on, walk_ends, walk_past, interfaces-row, interfaces-empty, interfaces-zero, interfaces-unknown, interfaces-known}
use Rattle.cjc_world.proofs.roster.Roster.+interface_method.Goals as goal

pub returns-then-steps-eq0 : goal.returns-then-steps-eq0
returns-then-steps-eq0 t c = interfaces-zero (all_classes c.args.self.now) (own_method false c.args.name.now c.args.desc.now) c.args.listed c.args.steps c.args.class.now c.if-steps-eq0.true

pub returns-in_err-class : goal.returns-in_err-class
returns-in_err-class t c = c.from_residual.ensures ∙ interfaces-unknown (all_classes c.args.self.now) (own_method false c.args.name.now c.args.desc.now) c.args.listed c.args.steps c.args.class.now c.in_err-class.ensures.named

pub returns-in-Some : goal.returns-in-Some
returns-in-Some t c =
    let w = all_classes c.args.self.now in
    let own = own_method false c.args.name.now c.args.desc.now in
    let k = class_of c.in_ok-class.class in
    let n = c.args.steps - 1 in
    let A : List (List ℕ) → Option Found = λ xs. first own (known (gathered false (grown w n xs))) in
    let B : List (List ℕ) → Option Found = λ xs. first own (known (gathered true (grown w n xs))) in
    let found = walk_ends A or_else None (interfaces-row w own false n) (interfaces-empty w own false n) c.supers-sup-items.result.now c.loop-sup.sup-index _ c.items.result.now (Some c.in-Some.found) (λ s. refl) c.loop-sup-test.true (c.items.ensures ∙ c.sup-item.is) c.in-Some.ensures c.loop-sup.invariant
    ∙ ap A c.supers-sup-items.ensures in
    ap (λ o. or_else o (or_else (B k.interfaces) (if c.args.listed then own k else None))) found
    ∙ interfaces-known w own c.args.listed c.args.steps c.args.class.now k (omega (arith, c.if-steps-eq0.false)) c.in_ok-class.ensures.named

pub loop-sup-preserved : goal.loop-sup-preserved
loop-sup-preserved t c =
    let w = all_classes c.args.self.now in
    let own = own_method false c.args.name.now c.args.desc.now in
    let n = c.args.steps - 1 in
    walk_on (λ xs. first own (known (gathered false (grown w n xs)))) or_else None (interfaces-row w own false n) (interfaces-empty w own false n) c.supers-sup-items.result.now c.loop-sup.sup-index _ c.items.result.now (λ r. refl) c.loop-sup-test.true (c.items.ensures ∙ c.sup-item.is) c.in_default.ensures c.loop-sup.invariant

pub returns-in-Some-interface_method : goal.returns-in-Some-interface_method
returns-in-Some-interface_method t c =
    let w = all_classes c.args.self.now in
    let own = own_method false c.args.name.now c.args.desc.now in
    let k = class_of c.in_ok-class.class in
    let n = c.args.steps - 1 in
    let A : List (List ℕ) → Option Found = λ xs. first own (known (gathered false (grown w n xs))) in
    let B : List (List ℕ) → Option Found = λ xs. first own (known (gathered true (grown w n xs))) in
    let none = walk_past A or_else None (interfaces-row w own false n) (interfaces-empty w own false n) c.supers-sup-items.result.now c.loop-sup.sup-index c.loop-sup-test.false c.loop-sup.invariant
    ∙ ap A c.supers-sup-items.ensures in
    let found = walk_ends B or_else None (interfaces-row w own true n) (interfaces-empty w own true n) c.interfaces-interface-items.result.now c.loop-interface.interface-index _ c.items-in-loop-interface.result.now (Some c.in-Some-interface_method.found) (λ s. refl) c.loop-interface-test.true (c.items-in-loop-interface.ensures ∙ c.interface-item.is) c.in-Some-interface_method.ensures c.loop-interface.invariant
    ∙ ap B c.interfaces-interface-items.ensures in
    let last = if c.args.listed then own k else None in
    ap (λ o. or_else o last) found
    ∙ ap (λ o. or_else o (or_else (B k.interfaces) last)) none
    ∙ interfaces-known w own c.args.listed c.args.steps c.args.class.now k (omega (arith, c.if-steps-eq0.false)) c.in_ok-class.ensures.named

pub loop-interface-preserved : goal.loop-interface-preserved
loop-interface-preserved t c =
    let w = all_classes c.args.self.now in
    let own = own_method false c.args.name.now c.args.desc.now in
    let n = c.args.steps - 1 in
    walk_on (λ xs. first own (known (gathered true (grown w n xs)))) or_else None (interfaces-row w own true n) (interfaces-empty w own true n) c.interfaces-interface-items.result.now c.loop-interface.interface-index _ c.items-in-loop-interface.result.now (λ r. refl) c.loop-interface-test.true (c.items-in-loop-interface.ensures ∙ c.interface-item.is) c.in_default-interface_method.ensures c.loop-interface.invariant

pub returns-then-listed : goal.returns-then-listed
returns-then-listed t c =
    let w = all_classes c.args.self.now in
    let own = own_method false c.args.name.now c.args.desc.now in
    let k = class_of c.in_ok-class.class in
    let n = c.args.steps - 1 in
    let A : List (List ℕ) → Option Found = λ xs. first own (known (gathered false (grown w n xs))) in
    let B : List (List ℕ) → Option Found = λ xs. first own (known (gathered true (grown w n xs))) in
    let none = walk_past A or_else None (interfaces-row w own false n) (interfaces-empty w own false n) c.supers-sup-items.result.now c.loop-sup.sup-index c.loop-sup-test.false c.loop-sup.invariant
    ∙ ap A c.supers-sup-items.ensures in
    let neither = walk_past B or_else None (interfaces-row w own true n) (interfaces-empty w own true n) c.interfaces-interface-items.result.now c.loop-interface.interface-index c.loop-interface-test.false c.loop-interface.invariant
    ∙ ap B c.interfaces-interface-items.ensures in
    c.method.ensures
    ∙ ap (λ b. if b then own k else None) (sym c.if-listed.true)
    ∙ ap (λ o. or_else o (if c.args.listed then own k else None)) neither
    ∙ ap (λ o. or_else o (or_else (B k.interfaces) (if c.args.listed then own k else None))) none
    ∙ interfaces-known w own c.args.listed c.args.steps c.args.class.now k (omega (arith, c.if-steps-eq0.false)) c.in_ok-class.ensures.named

pub returns-else-listed : goal.returns-else-listed
returns-else-listed t c =
    let w = all_classes c.args.self.now in
    let own = own_method false c.args.name.now c.args.desc.now in
    let k = class_of c.in_ok-class.class in
    let n = c.args.steps - 1 in
    let A : List (List ℕ) → Option Found = λ xs. first own (known (gathered false (grown w n xs))) in
    let B : List (List ℕ) → Option Found = λ xs. first own (known (gathered true (grown w n xs))) in
    let none = walk_past A or_else None (interfaces-row w own false n) (interfaces-empty w own false n) c.supers-sup-items.result.now c.loop-sup.sup-index c.loop-sup-test.false c.loop-sup.invariant
    ∙ ap A c.supers-sup-items.ensures in
    let neither = walk_past B or_else None (interfaces-row w own true n) (interfaces-empty w own true n) c.interfaces-interface-items.result.now c.loop-interface.interface-index c.loop-interface-test.false c.loop-interface.invariant
    ∙ ap B c.interfaces-interface-items.ensures in
    ap (λ b. if b then own k else None) (sym c.if-listed.false)
    ∙ ap (λ o. or_else o (if c.args.listed then own k else None)) neither
    ∙ ap (λ o. or_else o (or_else (B k.interfaces) (if c.args.listed then own k else None))) none
    ∙ interfaces-known w own c.args.listed c.args.steps c.args.class.now k (omega (arith, c.if-steps-eq0.false)) c.in_ok-class.ensures.named
