use Rattle.std.proofs.Common.{◌≡◌, ◌+◌, ◌<◌, ◌∙◌, ap, length, arith}
use Rattle.std.proofs.lemmas.List.{length-append}
use Rattle.cjc_cmd_link.proofs.Named.{all_named, made_beside, named_more}
use Rattle.cjc_cmd_link.proofs.tokens.all_names.Goals as goal

pub names_of-requires : goal.names_of-requires
names_of-requires c =
    let r = c.requires.made in
    made_beside r.0 c.args.members.now c.args.images.now c.loop-place.place c.index-members-place.result
    c.index-images-place.result r.1 c.loop-place-test.true c.index-members-place.is c.index-images-place.is

pub loop-place-preserved : goal.loop-place-preserved
loop-place-preserved c =
    let lt = c.loop-place-test.true in
    let low : c.loop-place.place < length c.args.images.now = omega (arith, lt, c.requires.count) in
    let ok = c.in_ok-push.ensures.ok in (
      named_more c.args.members.now c.args.images.now c.loop-place.place c.index-members-place.result
          c.index-images-place.result c.in_ok-own.own _ _ lt c.index-members-place.is low c.index-images-place.is
          c.loop-place.invariant.0 c.in_ok-own.ensures ok,
      rw (ok, length-append) (ap (λ n. n + 1) c.loop-place.invariant.1),
    )

pub returns-clause-named : goal.returns-clause-named
returns-clause-named c = all_named c.args.members.now c.args.images.now c.loop-place.place _ c.loop-place-test.false
    c.requires.count c.loop-place.invariant.0
