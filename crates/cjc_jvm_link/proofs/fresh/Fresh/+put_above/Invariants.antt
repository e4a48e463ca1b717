use Rattle.std.proofs.Common.{length}
use Rattle.cjc_jvm_link.proofs.fresh.Fresh.+put_above.Given as goal

abbrev pub decreases-put_above : goal.decreases-put_above
decreases-put_above l = length l.names.now
