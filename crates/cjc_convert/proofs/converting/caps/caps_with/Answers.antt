use Rattle.std.proofs.Common.{◌∙◌, ap, length, map, nat_lt, subst, sym}
use Rattle.std.proofs.lemmas.List.{length-map}
use Rattle.cjc_classes.specs.Descriptor.Fits.{AreFit}
use Rattle.cjc_methods.specs.Ready.{AreOrdered}
use Rattle.cjc_classes.specs.Entries.{key_token}
use Rattle.cjc_convert.proofs.ConvertingLaws.Shapes.{by_list, its_draft, its_tokens}
use Rattle.cjc_convert.proofs.converting.caps.caps_with.Goals as goal

pub extents-requires-clause-laid : goal.extents-requires-clause-laid
extents-requires-clause-laid c = let (files, p, is, shaped, fit) = c.requires.shaped in shaped.laid

pub key_tokens-requires : goal.key_tokens-requires
key_tokens-requires c =
    let list = c.args.list.now in
    let judged = c.args.judged.now in
    let (files, p, is, shaped, fit) = c.requires.shaped in
    let same = c.one_draft.ensures.world list files judged is p (its_draft list files c.args.shaped.now p shaped) in
    (nat_lt 0 (length list.applets), its_tokens list files c.args.shaped.now p shaped judged.world same)

pub components-requires-clause-tokens : goal.components-requires-clause-tokens
components-requires-clause-tokens c =
    let list = c.args.list.now in
    let judged = c.args.judged.now in
    let (files, p, is, shaped, fit) = c.requires.shaped in
    let same = c.one_draft.ensures.world list files judged is p (its_draft list files c.args.shaped.now p shaped) in
    its_tokens list files c.args.shaped.now p shaped judged.world same

pub components-requires-clause-keys : goal.components-requires-clause-keys
components-requires-clause-keys c =
    let list = c.args.list.now in
    let judged = c.args.judged.now in
    let (files, p, is, shaped, fit) = c.requires.shaped in
    let same = c.one_draft.ensures.world list files judged is p (its_draft list files c.args.shaped.now p shaped) in
    ap length (c.items-4.ensures ∙ c.in_ok-tokens.ensures p same)
    ∙ length-map c.items.result.now (key_token p)
    ∙ ap length (c.items.ensures ∙ c.keys.ensures ∙ sym c.keys-2.ensures ∙ sym c.items-3.ensures)

pub components-requires-clause-image : goal.components-requires-clause-image
components-requires-clause-image c =
    let (files, p, is, shaped, fit) = c.requires.shaped in
    subst AreFit (sym shaped.by_image) fit

pub returns : goal.returns
returns c = λ files p is shaped offsets keys method locations.
    let list = c.args.list.now in
    let judged = c.args.judged.now in
    let s = c.args.shaped.now in
    let same = c.one_draft.ensures.world list files judged is p (its_draft list files s p shaped) in
    c.components.ensures p (record {
      by_list = by_list list files s p shaped;
      by_files = same;
      by_image = sym shaped.by_image;
      by_tokens = its_tokens list files s p shaped judged.world same;
      by_keys = c.items-3.ensures ∙ c.keys-2.ensures ∙ keys;
      by_key_tokens = c.items-4.ensures ∙ c.in_ok-tokens.ensures p same ∙ ap (map (key_token p)) (c.items.ensures
          ∙ c.keys.ensures ∙ keys);
      by_extents = c.items-5.ensures ∙ c.in_ok-extents.ensures p same shaped.by_methods offsets;
      by_order = subst (AreOrdered p.files) (sym c.items-2.ensures) (c.converted_classes_are_ordered.ensures.ordered
          list files judged is p shaped.is_package c.in_ok-order.order c.in_ok-order.ensures.order
          c.in_ok-order.ensures.classes);
      in_order = c.converted_classes_are_ordered.ensures.members list files judged is p shaped.is_package;
    }) method locations
