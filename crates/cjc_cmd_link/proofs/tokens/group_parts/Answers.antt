use Rattle.cjc_cmd_link.proofs.Named.{all_parts, images_count, named_at, parts_more, tested_at}
use Rattle.cjc_cmd_link.proofs.tokens.group_parts.Goals as goal

pub group_part-requires : goal.group_part-requires
group_part-requires c =
    let r = c.requires.made in
    let at = tested_at r.0 c.args.members.now c.args.images.now c.loop-place.place c.index-members-place.result r.1
    c.loop-place-test.true c.index-members-place.is in (
      at.input,
      at.image,
      at.made,
      named_at c.args.members.now c.args.images.now c.args.names.now c.loop-place.place c.index-members-place.result
          at.image c.index-names-place.result c.requires.named c.loop-place-test.true c.index-members-place.is at.is
          c.index-names-place.is,
    )

pub loop-place-preserved : goal.loop-place-preserved
loop-place-preserved c =
    let r = c.requires.made in
    let at = tested_at r.0 c.args.members.now c.args.images.now c.loop-place.place c.index-members-place.result r.1
    c.loop-place-test.true c.index-members-place.is in
    let named = named_at c.args.members.now c.args.images.now c.args.names.now c.loop-place.place
    c.index-members-place.result at.image c.index-names-place.result c.requires.named c.loop-place-test.true
    c.index-members-place.is at.is c.index-names-place.is in
    parts_more c.args.packages.now c.args.outside.now c.args.members.now c.args.images.now c.loop-place.place
    c.index-members-place.result at.image c.in_ok-part.part _ _ c.loop-place-test.true c.index-members-place.is
    at.within at.is c.loop-place.invariant (c.in_ok-part.ensures at.image named) c.in_ok-push.ensures.ok

pub returns : goal.returns
returns c =
    let r = c.requires.made in
    all_parts c.args.packages.now c.args.outside.now c.args.members.now c.args.images.now c.loop-place.place _
    c.loop-place-test.false (images_count r.0 c.args.members.now c.args.images.now r.1) c.loop-place.invariant
