use Rattle.std.proofs.Common.{◌≤◌, length, arith}
use Rattle.cjc_verify.specs.Offsets.{ats_in}
use Rattle.cjc_verify.proofs.InfosLaws.Ats.{at_most, taken_all, taken_more}
use Rattle.cjc_verify.proofs.infos.offsets.put_ats.Goals as goal

pub loop-place-preserved : goal.loop-place-preserved
loop-place-preserved c = taken_more c.args.row.now c.loop-place.row c.push.new.self (ats_in c.args.members.now
    c.args.methods.now) c.loop-place.place c.in-Some.method c.in-Some.ensures c.loop-place.invariant
    c.in_ok-push-in-Some.ensures.ok

pub returns : goal.returns
returns c =
    let all = ats_in c.args.members.now c.args.methods.now in
    let few = at_most c.args.members.now c.args.methods.now in
    let end : length all ≤ c.loop-place.place = omega (arith, few, c.loop-place-test.false) in
    taken_all c.args.row.now c.loop-place.row all c.loop-place.place end c.loop-place.invariant
