use Rattle.std.proofs.Common.{refl, sym}
use Rattle.std.proofs.lemmas.Option.{slice_get_past, slice_get_read}
use Rattle.cjc_verify.proofs.InfosLaws.Ats.{at_both, no_descriptor, no_member}
use Rattle.cjc_verify.proofs.infos.offsets.at_place.Goals as goal

pub returns-in-Some-get : goal.returns-in-Some-get
returns-in-Some-get c =
    let fs = c.args.members.now in
    let ms = c.args.methods.now in
    let k = c.args.place in
    let f = c.in-Some.found.now in
    let m = c.in-Some-get.method.now in
    sym (at_both fs ms k f m
    (slice_get_read fs _ k f refl c.in-Some.ensures.lookup.3.0 c.in-Some.ensures.lookup.1)
    (slice_get_read ms _ k m refl c.in-Some-get.ensures.lookup.3.0 c.in-Some-get.ensures.lookup.1))

pub returns-in-None-get : goal.returns-in-None-get
returns-in-None-get c = sym (no_descriptor c.args.members.now c.args.methods.now c.args.place (slice_get_past
    c.args.methods.now c.args.place c.in-None-get.ensures.lookup.3))

pub returns-in-None : goal.returns-in-None
returns-in-None c = sym (no_member c.args.members.now c.args.methods.now c.args.place (slice_get_past
    c.args.members.now c.args.place c.in-None.ensures.lookup.3))
