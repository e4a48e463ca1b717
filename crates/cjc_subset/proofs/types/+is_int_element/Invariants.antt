use Rattle.std.proofs.Common.{length}
use Rattle.cjc_subset.proofs.types.+is_int_element.Given as goal

abbrev pub decreases-is_int_element : goal.decreases-is_int_element
decreases-is_int_element l = length l.bytes.now
