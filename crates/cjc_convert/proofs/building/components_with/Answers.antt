use Rattle.std.proofs.Common.{◌∙◌, ap, length, map, nat_lt, refl, subst, sym}
use Rattle.std.proofs.lemmas.List.{length-map}
use Rattle.cjc_captree.specs.LowerClasses.Entries.{key_token}
use Rattle.cjc_captree.specs.LowerMethods.Ready.{AreOrdered}
use Rattle.cjc_shape_proof.specs.LowerShape.Whole.Working.Shaped.{package_of}
use Rattle.cjc_convert.proofs.building.components_with.Goals as goal

pub extents-requires-clause-laid : goal.extents-requires-clause-laid
extents-requires-clause-laid c = c.requires.shaped.laid

pub key_tokens-requires : goal.key_tokens-requires
key_tokens-requires c = let list = c.args.judged.now.list.now in (
  nat_lt 0 (length list.applets),
  c.requires.shaped.by_tokens,
)

pub components-requires-clause-tokens : goal.components-requires-clause-tokens
components-requires-clause-tokens c = c.requires.shaped.by_tokens

pub components-requires-clause-keys : goal.components-requires-clause-keys
components-requires-clause-keys c =
    let p = package_of c.args.judged.now c.args.shaped.now in
    ap length (c.items-2.ensures ∙ c.in_ok-tokens.ensures p refl) ∙ length-map c.args.keys.now (key_token p)

pub components-requires-clause-image : goal.components-requires-clause-image
components-requires-clause-image c = c.requires.fit

pub returns : goal.returns
returns c =
    let j = c.args.judged.now in
    let p = package_of j c.args.shaped.now in
    let shaped = c.requires.shaped in
    let law = c.converted_classes_are_ordered.ensures in
    c.components.ensures p (record {
      by_list = refl;
      by_files = refl;
      by_image = refl;
      by_tokens = shaped.by_tokens;
      by_keys = c.requires.keys;
      by_key_tokens = c.items-2.ensures ∙ c.in_ok-tokens.ensures p refl ∙ ap (map (key_token p)) c.requires.keys;
      by_extents = c.items-3.ensures ∙ c.in_ok-extents.ensures p refl refl c.requires.offsets;
      by_order = subst (AreOrdered p.files) (sym c.items.ensures) (law.ordered j.list.now j.files.now j c.requires.sound
          p shaped.is_package c.in_ok-order.order c.in_ok-order.ensures.order c.in_ok-order.ensures.classes);
      in_order = law.members j.list.now j.files.now j c.requires.sound p shaped.is_package;
    }) c.requires.method c.requires.locations
