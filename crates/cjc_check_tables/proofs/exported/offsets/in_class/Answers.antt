use Rattle.std.proofs.Common.{Bool, ap, ◌∙◌}
use Rattle.cjc_check_rules.specs.Spots.{first, in_info, unless}
use Rattle.cjc_check_rules.proofs.Firsts.{joined}
use Rattle.cjc_check_tables.proofs.exported.offsets.in_class.Goals as goal

pub returns : goal.returns
returns c =
    let one = rw (c.items-fields.ensures, c.items.ensures) at c.in_ok-one.ensures in
    let two = rw (c.items-fields.ensures, c.items-offsets.ensures, c.items-2.ensures) at c.in_ok-two.ensures in
    c.earlier-2.ensures ∙ joined c.earlier.result c.in_ok-two.two _ _
    (c.earlier.ensures ∙ joined c.unless-own.result c.in_ok-one.one _ _
    (c.unless-own.ensures ∙ ap (λ (b : Bool). first (unless b (in_info 10 c.args.at))) c.is_start.ensures) one) two
