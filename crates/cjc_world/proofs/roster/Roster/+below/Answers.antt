use Rattle.std.proofs.Common.{◌≡◌, ℕ, ◌-◌, arith, refl, List, Bool, true, false, sym, ap, ◌∙◌}
use Rattle.std.specs.Prelude.{◌||◌}
use Rattle.std.specs.List.{list_any}
use Rattle.std.specs.Str.{bytes_eq}
use Rattle.cjc_world.specs.Classes.{all_classes}
use Rattle.cjc_world.specs.Kin.{grown, upwards}
use Rattle.cjc_world.specs.Known.{class_of}
use Rattle.cjc_world.proofs.Rising.{walk_on, walk_ends, walk_past, below-row, below-empty, below-zero, below-unknown, below-known}
use Rattle.cjc_world.proofs.roster.Roster.+below.Goals as goal

pub returns-then-steps-eq0 : goal.returns-then-steps-eq0
returns-then-steps-eq0 t c = below-zero (all_classes c.args.self.now) c.args.sup.now c.args.steps c.args.sub.now c.if-steps-eq0.true

pub returns-in-None : goal.returns-in-None
returns-in-None t c = below-unknown (all_classes c.args.self.now) c.args.sup.now c.args.steps c.args.sub.now c.in-None.ensures.named

pub returns-then-eq : goal.returns-then-eq
returns-then-eq t c =
    let w = all_classes c.args.self.now in
    let y = c.args.sup.now in
    let k = class_of c.in-Some.known in
    let n = c.args.steps - 1 in
    let same : true ≡ bytes_eq k.name y = cc in
    ap (λ b. b || list_any (λ c. bytes_eq c.name y) (upwards (grown w n k.supers))) same
    ∙ below-known w y c.args.steps c.args.sub.now k (omega (arith, c.if-steps-eq0.false)) c.in-Some.ensures.named

pub returns-then-below : goal.returns-then-below
returns-then-below t c =
    let w = all_classes c.args.self.now in
    let y = c.args.sup.now in
    let k = class_of c.in-Some.known in
    let n = c.args.steps - 1 in
    let A : List (List ℕ) → Bool = λ xs. list_any (λ c. bytes_eq c.name y) (upwards (grown w n xs)) in
    let other : false ≡ bytes_eq k.name y = cc in
    walk_ends A (λ a b. a || b) false (below-row w y n) (below-empty w y n) c.supers-above-items.result.now c.loop-above.above-index _ c.items.result.now true (λ s. refl) c.loop-above-test.true (c.items.ensures ∙ c.above-item.is) (sym c.if-below.true ∙ c.below.ensures) c.loop-above.invariant
    ∙ ap A c.supers-above-items.ensures
    ∙ ap (λ b. b || A k.supers) other
    ∙ below-known w y c.args.steps c.args.sub.now k (omega (arith, c.if-steps-eq0.false)) c.in-Some.ensures.named

pub loop-above-preserved : goal.loop-above-preserved
loop-above-preserved t c =
    let w = all_classes c.args.self.now in
    let y = c.args.sup.now in
    let n = c.args.steps - 1 in
    walk_on (λ xs. list_any (λ c. bytes_eq c.name y) (upwards (grown w n xs))) (λ a b. a || b) false (below-row w y n) (below-empty w y n) c.supers-above-items.result.now c.loop-above.above-index _ c.items.result.now (λ r. refl) c.loop-above-test.true (c.items.ensures ∙ c.above-item.is) (sym c.if-below.false ∙ c.below.ensures) c.loop-above.invariant

pub returns : goal.returns
returns t c =
    let w = all_classes c.args.self.now in
    let y = c.args.sup.now in
    let k = class_of c.in-Some.known in
    let n = c.args.steps - 1 in
    let A : List (List ℕ) → Bool = λ xs. list_any (λ c. bytes_eq c.name y) (upwards (grown w n xs)) in
    let other : false ≡ bytes_eq k.name y = cc in
    walk_past A (λ a b. a || b) false (below-row w y n) (below-empty w y n) c.supers-above-items.result.now c.loop-above.above-index c.loop-above-test.false c.loop-above.invariant
    ∙ ap A c.supers-above-items.ensures
    ∙ ap (λ b. b || A k.supers) other
    ∙ below-known w y c.args.steps c.args.sub.now k (omega (arith, c.if-steps-eq0.false)) c.in-Some.ensures.named
