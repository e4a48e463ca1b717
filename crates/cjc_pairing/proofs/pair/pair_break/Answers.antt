use Rattle.std.proofs.Common.{◌≡◌, ap, ◌∙◌, length, map, subst, ℕ, List}
use Rattle.std.specs.Prelude.{◌==◌}
use Rattle.std.proofs.lemmas.List.{length-map}
use Rattle.cjc_card_link.specs.LowerCheckIndex.Lookup.Parts.{complete_of}
use Rattle.cjc_classes.specs.LowerComponents.Paired.Pairs.{cell_spots, count_spots, info_count, method_spots}
use Rattle.cjc_classes.specs.CheckRules.declared.spot.ComponentPlace.{ComponentPlace}
use Rattle.cjc_classes.specs.CheckRules.Spots.{in_info, unless}
use Rattle.cjc_card_link.specs.World.Classes.{Class, all_classes}
use Rattle.cjc_card_link.specs.World.Order.{class_order, methods_of_class}
use Rattle.cjc_pairing.specs.Working.Heads.{IsHead}
use Rattle.cjc_pairing.proofs.Heads.{by_classes, spots_from}
use Rattle.cjc_pairing.proofs.pair.pair_break.Goals as goal

pub returns : goal.returns
returns c =
    let k = complete_of c.args.parts.now in
    let w = all_classes c.args.world.now in
    let order = class_order w in
    let many : Class → ℕ = λ x. length (methods_of_class w x) in
    let descriptor = k.descriptor in
    let one = subst (λ (n : ℕ). IsHead (unless (info_count k.class == n) (in_info 11 0)) c.count_break-infos.result)
    (ap length (c.items-2.ensures ∙ c.in_ok-counts.ensures) ∙ length-map order many) c.count_break-infos.ensures in
    let two = subst (λ (spots : List ComponentPlace). IsHead spots c.method_break-methods.result)
    (ap (spots_from 1 descriptor.classes) (c.items.ensures ∙ c.in_ok-counts.ensures)
    ∙ by_classes w 1 descriptor.classes order) c.method_break-methods.ensures in
    let described = c.or_else.ensures (count_spots w k.class) (method_spots w k.descriptor) one two in
    c.or_else-2.ensures (cell_spots c.args.image.now k.statics) _ c.in_ok-cells.ensures described
