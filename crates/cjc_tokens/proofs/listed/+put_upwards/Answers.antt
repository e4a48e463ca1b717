use Rattle.std.proofs.Common.{◌≡◌, ◌∙◌, ap, sym, map, ◌++◌, ◌∷◌, [], rules, arith, Some, append_assoc}
use Rattle.cjc_world.specs.Classes.{all_classes, class_named}
use Rattle.cjc_world.specs.Kin.{kin, upwards}
use Rattle.cjc_world.specs.Known.{class_of}
use Rattle.cjc_tokens.proofs.Offers.{map_append}
use Rattle.cjc_tokens.proofs.Walks.{upwards-known, upwards-unknown, upwards-next, upwards-end}
use Rattle.cjc_tokens.proofs.listed.+put_upwards.Goals as goal

pub loop-above-preserved : goal.loop-above-preserved
loop-above-preserved n c =
    upwards-next (all_classes c.args.world.now) (map class_of c.loop-above.classes.items) (map class_of c.put_upwards.new.classes.items) (map class_of c.push.new.self.items ++ upwards (kin (all_classes c.args.world.now) c.supers-above-items.result.now))
    c.supers-above-items.result.now c.loop-above.above-index c.above-item.result c.loop-above-test.true c.above-item.is
    (c.in_ok-put_upwards.ensures ∙ ap (λ q. map class_of c.loop-above.classes.items ++ upwards (kin (all_classes c.args.world.now) (q ∷ []))) c.items.ensures) c.loop-above.invariant

pub returns-after-loop-above : goal.returns-after-loop-above
returns-after-loop-above n c =
    let w = all_classes c.args.world.now in
    let pushed : c.push.new.self.items ≡ c.args.classes.now.items ++ c.in-Some.class ∷ [] = search rules in
    let named : class_named w c.args.name.now ≡ Some (class_of c.in-Some.class) = grind arith in
    upwards-end w (map class_of c.loop-above.classes.items) (map class_of c.push.new.self.items ++ upwards (kin w c.supers-above-items.result.now)) c.supers-above-items.result.now c.loop-above.above-index c.loop-above-test.false c.loop-above.invariant
    ∙ ap (λ q. map class_of q ++ upwards (kin w c.supers-above-items.result.now)) pushed
    ∙ ap (λ q. q ++ upwards (kin w c.supers-above-items.result.now)) (map_append class_of c.args.classes.now.items (c.in-Some.class ∷ []))
    ∙ append_assoc (map class_of c.args.classes.now.items) (class_of c.in-Some.class ∷ []) (upwards (kin w c.supers-above-items.result.now))
    ∙ ap (λ q. map class_of c.args.classes.now.items ++ class_of c.in-Some.class ∷ upwards (kin w q)) c.supers-above-items.ensures
    ∙ ap (λ q. map class_of c.args.classes.now.items ++ q) (sym (upwards-known w (c.lookup_laws.ensures.is_kin w c.requires) (c.lookup_laws.ensures.one_kin w) c.args.name.now (class_of c.in-Some.class) named))
