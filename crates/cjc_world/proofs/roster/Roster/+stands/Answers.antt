use Rattle.std.proofs.Common.{◌≡◌, ℕ, ◌-◌, arith, refl, List, Bool, true, false, sym, ap, ◌∙◌}
use Rattle.std.specs.Prelude.{◌||◌}
use Rattle.std.specs.Str.{bytes_eq}
use Rattle.cjc_world.specs.Classes.{all_classes}
use Rattle.cjc_world.specs.Kin.{grown, stands}
use Rattle.cjc_world.specs.Known.{class_of}
use Rattle.cjc_world.proofs.Rising.{walk_on, walk_ends, walk_past, stands-row, stands-empty, stands-zero, stands-unknown, stands-known}
use Rattle.cjc_world.proofs.roster.Roster.+stands.Goals as goal

pub returns-then-steps-eq0 : goal.returns-then-steps-eq0
returns-then-steps-eq0 t c = stands-zero (all_classes c.args.self.now) c.args.name.now c.args.steps c.args.class.now c.if-steps-eq0.true

pub returns-in-None : goal.returns-in-None
returns-in-None t c = c.eq.ensures ∙ stands-unknown (all_classes c.args.self.now) c.args.name.now c.args.steps c.args.class.now (omega (arith, c.if-steps-eq0.false)) c.in-None.ensures.named

pub returns-then-eq : goal.returns-then-eq
returns-then-eq t c =
    let w = all_classes c.args.self.now in
    let y = c.args.name.now in
    let k = class_of c.in-Some.known in
    let n = c.args.steps - 1 in
    let same : true ≡ bytes_eq k.name y = cc in
    ap (λ b. b || stands y (grown w n k.supers) || stands y (grown w n k.interfaces)) same
    ∙ stands-known w y c.args.steps c.args.class.now k (omega (arith, c.if-steps-eq0.false)) c.in-Some.ensures.named

pub returns-then-stands : goal.returns-then-stands
returns-then-stands t c =
    let w = all_classes c.args.self.now in
    let y = c.args.name.now in
    let k = class_of c.in-Some.known in
    let n = c.args.steps - 1 in
    let A : List (List ℕ) → Bool = λ xs. stands y (grown w n xs) in
    let other : false ≡ bytes_eq k.name y = cc in
    let found = walk_ends A (λ a b. a || b) false (stands-row w y n) (stands-empty w y n) c.supers-sup-items.result.now c.loop-sup.sup-index _ c.items.result.now true (λ s. refl) c.loop-sup-test.true (c.items.ensures ∙ c.sup-item.is) (sym c.if-stands.true ∙ c.stands.ensures) c.loop-sup.invariant
    ∙ ap A c.supers-sup-items.ensures in
    ap (λ b. b || A k.interfaces) found
    ∙ ap (λ b. b || A k.supers || A k.interfaces) other
    ∙ stands-known w y c.args.steps c.args.class.now k (omega (arith, c.if-steps-eq0.false)) c.in-Some.ensures.named

pub loop-sup-preserved : goal.loop-sup-preserved
loop-sup-preserved t c =
    let w = all_classes c.args.self.now in
    let y = c.args.name.now in
    let n = c.args.steps - 1 in
    walk_on (λ xs. stands y (grown w n xs)) (λ a b. a || b) false (stands-row w y n) (stands-empty w y n) c.supers-sup-items.result.now c.loop-sup.sup-index _ c.items.result.now (λ r. refl) c.loop-sup-test.true (c.items.ensures ∙ c.sup-item.is) (sym c.if-stands.false ∙ c.stands.ensures) c.loop-sup.invariant

pub returns-then-stands-2 : goal.returns-then-stands-2
returns-then-stands-2 t c =
    let w = all_classes c.args.self.now in
    let y = c.args.name.now in
    let k = class_of c.in-Some.known in
    let n = c.args.steps - 1 in
    let A : List (List ℕ) → Bool = λ xs. stands y (grown w n xs) in
    let other : false ≡ bytes_eq k.name y = cc in
    let none = walk_past A (λ a b. a || b) false (stands-row w y n) (stands-empty w y n) c.supers-sup-items.result.now c.loop-sup.sup-index c.loop-sup-test.false c.loop-sup.invariant
    ∙ ap A c.supers-sup-items.ensures in
    walk_ends A (λ a b. a || b) false (stands-row w y n) (stands-empty w y n) c.interfaces-interface-items.result.now c.loop-interface.interface-index _ c.items-in-loop-interface.result.now true (λ s. refl) c.loop-interface-test.true (c.items-in-loop-interface.ensures ∙ c.interface-item.is) (sym c.if-stands-2.true ∙ c.stands-in-loop-interface.ensures) c.loop-interface.invariant
    ∙ ap A c.interfaces-interface-items.ensures
    ∙ ap (λ b. b || A k.interfaces) none
    ∙ ap (λ b. b || A k.supers || A k.interfaces) other
    ∙ stands-known w y c.args.steps c.args.class.now k (omega (arith, c.if-steps-eq0.false)) c.in-Some.ensures.named

pub loop-interface-preserved : goal.loop-interface-preserved
loop-interface-preserved t c =
    let w = all_classes c.args.self.now in
    let y = c.args.name.now in
    let n = c.args.steps - 1 in
    walk_on (λ xs. stands y (grown w n xs)) (λ a b. a || b) false (stands-row w y n) (stands-empty w y n) c.interfaces-interface-items.result.now c.loop-interface.interface-index _ c.items-in-loop-interface.result.now (λ r. refl) c.loop-interface-test.true (c.items-in-loop-interface.ensures ∙ c.interface-item.is) (sym c.if-stands-2.false ∙ c.stands-in-loop-interface.ensures) c.loop-interface.invariant

pub returns : goal.returns
returns t c =
    let w = all_classes c.args.self.now in
    let y = c.args.name.now in
    let k = class_of c.in-Some.known in
    let n = c.args.steps - 1 in
    let A : List (List ℕ) → Bool = λ xs. stands y (grown w n xs) in
    let other : false ≡ bytes_eq k.name y = cc in
    let none = walk_past A (λ a b. a || b) false (stands-row w y n) (stands-empty w y n) c.supers-sup-items.result.now c.loop-sup.sup-index c.loop-sup-test.false c.loop-sup.invariant
    ∙ ap A c.supers-sup-items.ensures in
    walk_past A (λ a b. a || b) false (stands-row w y n) (stands-empty w y n) c.interfaces-interface-items.result.now c.loop-interface.interface-index c.loop-interface-test.false c.loop-interface.invariant
    ∙ ap A c.interfaces-interface-items.ensures
    ∙ ap (λ b. b || A k.interfaces) none
    ∙ ap (λ b. b || A k.supers || A k.interfaces) other
    ∙ stands-known w y c.args.steps c.args.class.now k (omega (arith, c.if-steps-eq0.false)) c.in-Some.ensures.named
