use Rattle.std.proofs.Common.{◌<◌, ◌^◌, ◌∙◌, [], ap, arith, map, subst, sym}
use Rattle.cjc_cmd_card.specs.CardFrame.Kinds.{cell_name_of}
use Rattle.cjc_cmd_card.specs.CardLink.Names.{class_names_of}
use Rattle.cjc_cmd_card.specs.CheckIndex.Lookup.Parts.{complete_of}
use Rattle.cjc_link_semantics.specs.CheckRules.Complete.{class_info_size}
use Rattle.cjc_link_semantics.specs.Components.Paired.Naming.{part_of}
use Rattle.cjc_cmd_link.proofs.Loading.{importing, part_so}
use Rattle.cjc_cmd_link.specs.ByToken.{applets_of, import_for}
use Rattle.cjc_cmd_link.specs.Working.{world_of}
use Rattle.cjc_cmd_link.proofs.tokens.group_part.Goals as goal

pub parts_in-complete-requires : goal.parts_in-complete-requires
parts_in-complete-requires c = let r = c.requires in (r.0, [], r.2.is_ready)

pub returns : goal.returns
returns c = λ image named.
    let t = c.args.member.now in
    let whole = complete_of c.parts_in-complete.result in
    let imports = c.in_ok-imports.ensures ∙ ap (map (import_for c.args.packages.now c.args.outside.now))
    (c.items-3.ensures ∙ c.exports-trees.ensures) in
    let low = c.parts_in-complete.ensures.small.class in
    record {
      whole = whole;
      whole_is = c.parts_in-complete.ensures.whole;
      is = part_so (applets_of t) (world_of t) image whole c.part_of-part.result _ _ _ c.part_of-part.ensures.alone
          (ap (map class_names_of) c.items.ensures ∙ named.classes) (ap (map cell_name_of) c.items-2.ensures
          ∙ named.cells) ∙ ap (λ is. importing is (part_of (applets_of t) (world_of t) image whole)) imports;
      small = subst (λ x. class_info_size x < 2 ^ 32) (sym c.part_of-part.ensures.class) (omega (arith, low));
    }
