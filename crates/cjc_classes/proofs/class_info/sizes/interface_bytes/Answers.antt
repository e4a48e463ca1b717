use Rattle.std.proofs.Common.{◌≡◌, ◌∙◌, ◌+◌, ◌*◌, ℕ, List, ap, subst, length, arith}
use Rattle.std.specs.Prelude.{IfOk}
use Rattle.cjc_world.specs.Classes.{all_classes}
use Rattle.cjc_world.specs.Working.Known.{class_of}
use Rattle.cjc_world.specs.Working.Places.{at_places}
use Rattle.cjc_components.specs.Class.{interfaces_of}
use Rattle.cjc_components.proofs.VTableMapPlaces.{interfaces-are}
use Rattle.cjc_classes.proofs.class_info.sizes.interface_bytes.Goals as goal

twice : (n m l : ℕ) → n ≡ m + m → m ≡ l → 1 + n ≡ 1 + 2 * l
twice n m l e f = omega arith

pub returns : goal.returns
returns c =
    let w = all_classes c.args.world.now in
    let d = class_of c.args.class in
    subst (λ (q : ℕ). IfOk c.plus-2.result (λ n. n ≡ q))
    (twice c.in_ok-plus.field-0 c.known_count-count.result (length (interfaces_of w d)) c.in_ok-plus.ensures
    (c.known_count-count.ensures ∙ ap (λ (ps : List ℕ). length (at_places w ps)) c.items.ensures
    ∙ ap length (c.in_ok-places.ensures ∙ interfaces-are w d)))
    c.plus-2.ensures
