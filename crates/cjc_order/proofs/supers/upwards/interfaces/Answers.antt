use Rattle.std.proofs.Common.{◌∙◌, ◌++◌, [], map, true, false, ap, sym}
use Rattle.std.specs.List.{flat_map}
use Rattle.std.proofs.lemmas.List.{map-append}
use Rattle.std.proofs.lemmas.Result.{IfOk-weaker}
use Rattle.cjc_world.specs.Classes.{all_classes}
use Rattle.cjc_world.specs.Interfaces.{gathered}
use Rattle.cjc_world.specs.Supertypes.{supertypes}
use Rattle.cjc_world.specs.Working.Known.{class_of}
use Rattle.cjc_order.specs.Supers.Supers.{each_once, name_of}
use Rattle.cjc_order.specs.Supers.Working.Walk.{interfaces_from, with_all}
use Rattle.cjc_order.proofs.SupersLaws.Sets.{all_append, all_once, interfaces_once, none_above, above_then}
use Rattle.cjc_order.proofs.SupersLaws.Trees.{interface_names}
use Rattle.cjc_order.proofs.supers.upwards.interfaces.Goals as goal

pub put_interfaces-requires : goal.put_interfaces-requires
put_interfaces-requires c =
    let w = all_classes c.args.world.now in
    record {
      acyclic = c.acyclic.ensures;
      above = none_above (interfaces_from w false) w c.new-came.result c.new-seen.result c.supers.result.now
          c.new-came.ensures;
    }

pub put_interfaces-requires-2 : goal.put_interfaces-requires-2
put_interfaces-requires-2 c =
    let w = all_classes c.args.world.now in
    let listed = c.interfaces.result.now in
    record {
      acyclic = c.acyclic.ensures;
      above = above_then (interfaces_from w false) w c.new-came.result c.put_interfaces.new.came c.new-seen.result
          c.put_interfaces.new.seen (flat_map (interfaces_from w false) c.supers.result.now) listed
          c.in_ok-put_interfaces.ensures.put
          (none_above (interfaces_from w false) w c.new-came.result c.new-seen.result listed c.new-came.ensures)
          c.in_ok-put_interfaces.ensures.done;
    }

pub returns : goal.returns
returns c =
    let w = all_classes c.args.world.now in
    let class = class_of c.args.class in
    let first = gathered false (supertypes w class.supers) in
    let second = gathered true (supertypes w class.interfaces) in
    IfOk-weaker c.copies.result _ _ (λ names is.
    is
    ∙ (c.in_ok-put_interfaces-2.ensures.put
    ∙ (ap (λ ks. with_all ks (flat_map (interfaces_from w true) c.interfaces.result.now))
    c.in_ok-put_interfaces.ensures.put
    ∙ (ap (λ ks. with_all (with_all ks (flat_map (interfaces_from w false) c.supers.result.now))
    (flat_map (interfaces_from w true) c.interfaces.result.now)) c.new-seen.ensures
    ∙ (ap (λ ns. with_all (with_all [] (flat_map (interfaces_from w false) ns)) (flat_map (interfaces_from w true)
    c.interfaces.result.now)) c.supers.ensures
    ∙ (ap (λ ns. with_all (with_all [] (flat_map (interfaces_from w false) class.supers))
    (flat_map (interfaces_from w true) ns)) c.interfaces.ensures
    ∙ (sym (all_append [] (flat_map (interfaces_from w false) class.supers) (flat_map (interfaces_from w true)
    class.interfaces))
    ∙ (all_once [] (flat_map (interfaces_from w false) class.supers
    ++ flat_map (interfaces_from w true) class.interfaces)
    ∙ (ap (λ ns. each_once [] (ns ++ flat_map (interfaces_from w true) class.interfaces))
    (sym (interface_names w c.acyclic.ensures false class.supers))
    ∙ (ap (λ ns. each_once [] (map name_of first ++ ns)) (sym (interface_names w c.acyclic.ensures true
    class.interfaces))
    ∙ (ap (each_once []) (sym (map-append name_of first second))
    ∙ sym (interfaces_once [] (first ++ second))))))))))))) c.copies.ensures
