use Rattle.std.proofs.Common.{ℕ, ◌-◌, arith, refl, List, ap, ◌∙◌}
use Rattle.std.specs.Prelude.{Option, Some, None}
use Rattle.cjc_world.specs.declared.found.Found.{Found}
use Rattle.cjc_world.specs.Classes.{all_classes}
use Rattle.cjc_world.specs.Kin.{grown}
use Rattle.cjc_world.specs.Known.{class_of}
use Rattle.cjc_world.specs.Lookup.{or_else, field_in, own_field}
use Rattle.cjc_world.proofs.Rising.{walk_on, walk_ends, walk_past, fields-row, fields-empty, fields-zero, fields-unknown, fields-known}
use Rattle.cjc_world.proofs.roster.Roster.+field_above.Goals as goal

pub returns-then-steps-eq0 : goal.returns-then-steps-eq0
returns-then-steps-eq0 t c = fields-zero (all_classes c.args.self.now) (own_field c.args.name.now c.args.desc.now) c.args.steps c.args.class.now c.if-steps-eq0.true

pub returns-in_err-class : goal.returns-in_err-class
returns-in_err-class t c = c.from_residual.ensures ∙ fields-unknown (all_classes c.args.self.now) (own_field c.args.name.now c.args.desc.now) c.args.steps c.args.class.now c.in_err-class.ensures.named

pub returns-in-Some : goal.returns-in-Some
returns-in-Some t c =
    let w = all_classes c.args.self.now in
    let own = own_field c.args.name.now c.args.desc.now in
    let k = class_of c.in_ok-class.class in
    let n = c.args.steps - 1 in
    ap (λ o. or_else o (or_else (field_in own (grown w n k.interfaces)) (field_in own (grown w n k.supers)))) c.in-Some.ensures
    ∙ fields-known w own c.args.steps c.args.class.now k (omega (arith, c.if-steps-eq0.false)) c.in_ok-class.ensures.named

pub returns-in-Some-field_above : goal.returns-in-Some-field_above
returns-in-Some-field_above t c =
    let w = all_classes c.args.self.now in
    let own = own_field c.args.name.now c.args.desc.now in
    let k = class_of c.in_ok-class.class in
    let n = c.args.steps - 1 in
    let A : List (List ℕ) → Option Found = λ xs. field_in own (grown w n xs) in
    let found = walk_ends A or_else None (fields-row w own n) (fields-empty w own n) c.interfaces-interface-items.result.now c.loop-interface.interface-index _ c.items.result.now (Some c.in-Some-field_above.found) (λ s. refl) c.loop-interface-test.true (c.items.ensures ∙ c.interface-item.is) c.in-Some-field_above.ensures c.loop-interface.invariant
    ∙ ap A c.interfaces-interface-items.ensures in
    ap (λ o. or_else o (A k.supers)) found
    ∙ ap (λ o. or_else o (or_else (A k.interfaces) (A k.supers))) c.in_default.ensures
    ∙ fields-known w own c.args.steps c.args.class.now k (omega (arith, c.if-steps-eq0.false)) c.in_ok-class.ensures.named

pub loop-interface-preserved : goal.loop-interface-preserved
loop-interface-preserved t c =
    let w = all_classes c.args.self.now in
    let own = own_field c.args.name.now c.args.desc.now in
    let n = c.args.steps - 1 in
    walk_on (λ xs. field_in own (grown w n xs)) or_else None (fields-row w own n) (fields-empty w own n) c.interfaces-interface-items.result.now c.loop-interface.interface-index _ c.items.result.now (λ r. refl) c.loop-interface-test.true (c.items.ensures ∙ c.interface-item.is) c.in_default-field_above.ensures c.loop-interface.invariant

pub returns-in-Some-field_above-2 : goal.returns-in-Some-field_above-2
returns-in-Some-field_above-2 t c =
    let w = all_classes c.args.self.now in
    let own = own_field c.args.name.now c.args.desc.now in
    let k = class_of c.in_ok-class.class in
    let n = c.args.steps - 1 in
    let A : List (List ℕ) → Option Found = λ xs. field_in own (grown w n xs) in
    let none = walk_past A or_else None (fields-row w own n) (fields-empty w own n) c.interfaces-interface-items.result.now c.loop-interface.interface-index c.loop-interface-test.false c.loop-interface.invariant
    ∙ ap A c.interfaces-interface-items.ensures in
    walk_ends A or_else None (fields-row w own n) (fields-empty w own n) c.supers-sup-items.result.now c.loop-sup.sup-index _ c.items-in-loop-sup.result.now (Some c.in-Some-field_above-2.found) (λ s. refl) c.loop-sup-test.true (c.items-in-loop-sup.ensures ∙ c.sup-item.is) c.in-Some-field_above-2.ensures c.loop-sup.invariant
    ∙ ap A c.supers-sup-items.ensures
    ∙ ap (λ o. or_else o (A k.supers)) none
    ∙ ap (λ o. or_else o (or_else (A k.interfaces) (A k.supers))) c.in_default.ensures
    ∙ fields-known w own c.args.steps c.args.class.now k (omega (arith, c.if-steps-eq0.false)) c.in_ok-class.ensures.named

pub loop-sup-preserved : goal.loop-sup-preserved
loop-sup-preserved t c =
    let w = all_classes c.args.self.now in
    let own = own_field c.args.name.now c.args.desc.now in
    let n = c.args.steps - 1 in
    walk_on (λ xs. field_in own (grown w n xs)) or_else None (fields-row w own n) (fields-empty w own n) c.supers-sup-items.result.now c.loop-sup.sup-index _ c.items-in-loop-sup.result.now (λ r. refl) c.loop-sup-test.true (c.items-in-loop-sup.ensures ∙ c.sup-item.is) c.in_default-field_above-2.ensures c.loop-sup.invariant

pub returns : goal.returns
returns t c =
    let w = all_classes c.args.self.now in
    let own = own_field c.args.name.now c.args.desc.now in
    let k = class_of c.in_ok-class.class in
    let n = c.args.steps - 1 in
    let A : List (List ℕ) → Option Found = λ xs. field_in own (grown w n xs) in
    let none = walk_past A or_else None (fields-row w own n) (fields-empty w own n) c.interfaces-interface-items.result.now c.loop-interface.interface-index c.loop-interface-test.false c.loop-interface.invariant
    ∙ ap A c.interfaces-interface-items.ensures in
    walk_past A or_else None (fields-row w own n) (fields-empty w own n) c.supers-sup-items.result.now c.loop-sup.sup-index c.loop-sup-test.false c.loop-sup.invariant
    ∙ ap A c.supers-sup-items.ensures
    ∙ ap (λ o. or_else o (A k.supers)) none
    ∙ ap (λ o. or_else o (or_else (A k.interfaces) (A k.supers))) c.in_default.ensures
    ∙ fields-known w own c.args.steps c.args.class.now k (omega (arith, c.if-steps-eq0.false)) c.in_ok-class.ensures.named
