use Rattle.std.proofs.Common.{◌≤◌, length, arith}
use Rattle.cjc_classes.proofs.TypeInfo.Starts.{starts_end}
use Rattle.cjc_classes.proofs.type_info.types.starts_of.Goals as goal

pub returns : goal.returns
returns c =
    let within : length c.args.met.now ≤ c.loop-place.place = let e = c.len-place-end.ensures in let t =
    c.loop-place-test.false in omega (arith, e, t) in
    starts_end c.loop-place.row c.loop-place.at c.args.met.now c.loop-place.place _ within c.loop-place.invariant
