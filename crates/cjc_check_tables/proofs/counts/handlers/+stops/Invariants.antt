use Rattle.std.proofs.Common.{length}
use Rattle.cjc_check_tables.proofs.counts.handlers.+stops.Given as goal

abbrev pub decreases-stops : goal.decreases-stops
decreases-stops l = length l.handlers.now
