use Rattle.std.proofs.Common.{◌∙◌, [], ap, sym}
use Rattle.std.specs.List.{flat_map}
use Rattle.std.proofs.lemmas.Result.{IfOk-weaker}
use Rattle.cjc_world.specs.Classes.{all_classes}
use Rattle.cjc_world.specs.Working.Known.{class_of}
use Rattle.cjc_order.specs.Supers.Supers.{each_once}
use Rattle.cjc_order.specs.Supers.Working.Walk.{upwards_from, with_all}
use Rattle.cjc_order.proofs.SupersLaws.Sets.{all_once, none_above}
use Rattle.cjc_order.proofs.SupersLaws.Trees.{upwards_names}
use Rattle.cjc_order.proofs.supers.upwards.superclasses.Goals as goal

pub put_upwards-requires : goal.put_upwards-requires
put_upwards-requires c =
    let w = all_classes c.args.world.now in
    record {
      acyclic = c.acyclic.ensures;
      above = none_above (upwards_from w) w c.new-seen.result c.new-seen.result c.supers.result.now
          c.new-seen.ensures;
    }

pub returns : goal.returns
returns c =
    let w = all_classes c.args.world.now in
    let supers = (class_of c.args.class).supers in
    IfOk-weaker c.copies.result _ _ (λ names is.
    is
    ∙ (c.in_ok-put_upwards.ensures.put
    ∙ (ap (λ ks. with_all ks (flat_map (upwards_from w) c.supers.result.now)) c.new-seen.ensures
    ∙ (ap (λ ns. with_all [] (flat_map (upwards_from w) ns)) c.supers.ensures
    ∙ (all_once [] (flat_map (upwards_from w) supers)
    ∙ ap (each_once []) (sym (upwards_names w c.acyclic.ensures supers))))))) c.copies.ensures
