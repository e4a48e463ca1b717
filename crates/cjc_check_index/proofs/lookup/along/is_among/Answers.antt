use Rattle.std.proofs.Common.{◌∙◌}
use Rattle.cjc_check_rules.proofs.Starts.{found_among}
use Rattle.cjc_check_index.proofs.lookup.along.is_among.Goals as goal

pub returns : goal.returns
returns c = c.is_ok.ensures.value ∙ found_among c.args.numbers.now c.args.number _ c.binary_search.ensures.position
    c.requires
