use Rattle.std.proofs.Common.{◌≡◌, ◌∙◌, Bool, List, map, refl, sym, ap, subst}
use Rattle.cjc_check_rules.specs.Spots.{first}
use Rattle.cjc_methods.specs.Tokens.Tokens.{assigned}
use Rattle.cjc_world.specs.Classes.{Class}
use Rattle.cjc_world.specs.Order.{class_order}
use Rattle.cjc_verify.specs.Abstracts.{all_abstract_beside}
use Rattle.cjc_verify.specs.Infos.{all_abstract_spots, all_info_spots, all_table_spots}
use Rattle.cjc_verify.specs.Named.{is_unmade}
use Rattle.cjc_verify.specs.Offsets.{offset_among}
use Rattle.cjc_verify.specs.Pairs.{Pair, world}
use Rattle.cjc_verify.specs.Wanted.{all_beside, all_tables_beside}
use Rattle.cjc_verify.specs.Working.Ready.{pair_by}
use Rattle.cjc_verify.specs.declared.infos.offsets.MethodAt.{MethodAt}
use Rattle.cjc_verify.specs.declared.infos.wanted.Wanted.{Wanted}
use Rattle.cjc_verify.proofs.InfosLaws.Abstracts.{unmade_are}
use Rattle.cjc_verify.proofs.infos.info_spots.Goals as goal

pub method_ats-requires : goal.method_ats-requires
method_ats-requires c = c.pair.invariant.in_order

pub wanted_infos-requires : goal.wanted_infos-requires
wanted_infos-requires c = record {
  tokens = subst (λ (q : Pair). (applets : Bool) × (q.tokens ≡ assigned applets q.files)) (sym c.pair.view_is)
      c.requires.tokens;
}

pub all_tables_beside-requires : goal.all_tables_beside-requires
all_tables_beside-requires c = c.pair.invariant.small.class

pub all_abstract_beside-requires : goal.all_abstract_beside-requires
all_abstract_beside-requires c = c.pair.invariant.small.class

pub all_beside-requires : goal.all_beside-requires
all_beside-requires c = c.pair.invariant.small.class

pub returns : goal.returns
returns c =
    let i = c.pair.inside in
    let p = pair_by i.world.now i.tokens.now i.image.now i.parts.now i.tables.now in
    let class = i.parts.now.class.now in
    let methods = c.in_ok-methods.ensures p refl (sym c.items-described.ensures) in
    let wanted = c.in_ok-wanted.ensures p refl c.pair.invariant.refs_kept (λ f. ap (λ (ms : List MethodAt). offset_among
    ms f) c.items.ensures ∙ methods f) in
    let unmade = c.in_ok-unmade.ensures ∙ unmade_are i.world.now i.order.now (class_order (world p))
    c.pair.invariant.in_order in
    let flags : Pair → List Bool = λ q. map (λ (d : Class). is_unmade d.flags) (class_order (world q)) in
    record {
      tables = subst (λ (q : Pair). c.all_tables_beside.result ≡ first (all_table_spots q)) c.pair.view_is
          (c.all_tables_beside.ensures
          ∙ ap (λ (ws : List Wanted). first (all_tables_beside class ws)) (c.items-2.ensures ∙ wanted)
          ∙ ap first (sym (c.infos_beside_wanted.ensures.tables p)));
      abstracts = subst (λ (q : Pair). c.all_abstract_beside.result ≡ first (all_abstract_spots q)) c.pair.view_is
          (c.all_abstract_beside.ensures
          ∙ ap (λ (us : List Bool). first (all_abstract_beside c.args.pair.now class us)) (c.items-3.ensures ∙ unmade)
          ∙ ap (λ (q : Pair). first (all_abstract_beside q class (flags p))) (sym c.pair.view_is)
          ∙ ap first (sym (c.infos_beside_wanted.ensures.abstracts p)));
      infos = subst (λ (q : Pair). c.all_beside.result ≡ first (all_info_spots q)) c.pair.view_is
          (c.all_beside.ensures
          ∙ ap (λ (ws : List Wanted). first (all_beside class ws)) (c.items-4.ensures ∙ wanted)
          ∙ ap first (sym (c.infos_beside_wanted.ensures.infos p)));
    }
