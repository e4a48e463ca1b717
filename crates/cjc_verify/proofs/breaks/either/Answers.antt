use Rattle.std.specs.Prelude.{option_map, option_to_list}
use Rattle.cjc_bytes.specs.Told.{break_of}
use Rattle.cjc_verify.proofs.Firsts.{alone}
use Rattle.cjc_verify.proofs.breaks.either.Goals as goal

pub returns : goal.returns
returns c =
    let left = option_map break_of c.args.left in
    let right = option_map break_of c.args.right in
    c.first.ensures (option_to_list left) (option_to_list right) (alone left) (alone right)
