use Rattle.std.proofs.Common.{◌∙◌}
use Rattle.std.proofs.lemmas.List.{take_rest}
use Rattle.cjc_check_tables.proofs.CountsLaws.Stops.{no_stops, stops_first}
use Rattle.cjc_check_tables.proofs.counts.handlers.+stops.Goals as goal

pub returns-in-empty : goal.returns-in-empty
returns-in-empty t c = no_stops c.args.at c.args.handlers.now c.in-empty.len_below

pub returns-in-len1-up : goal.returns-in-len1-up
returns-in-len1-up t c = c.earlier.ensures ∙ stops_first c.args.at _ c.args.handlers.now _ _ _ c.in-len1-up.len_at_least
    (take_rest c.args.handlers.now 1) c.stop_at.ensures c.stops.ensures
