use Rattle.std.specs.Prelude.{map}
use Rattle.cjc_check_rules.specs.Consistent.{break_at}
use Rattle.cjc_verify.proofs.FirstPlaces.{first_of_spots}
use Rattle.cjc_verify.proofs.breaks.with_rule.Goals as goal

pub returns : goal.returns
returns c = λ spots rest is f.
    c.first.ensures (map (break_at c.args.rule) spots) rest
    (first_of_spots c.args.rule spots c.args.spot _ is c.break_if.ensures) f
