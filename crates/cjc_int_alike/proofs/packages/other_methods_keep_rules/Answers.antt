use Rattle.cjc_int_alike.proofs.ShortRules.{short_rule}
use Rattle.cjc_int_alike.proofs.packages.other_methods_keep_rules.Goals as goal

pub returns : goal.returns
returns c = short_rule
