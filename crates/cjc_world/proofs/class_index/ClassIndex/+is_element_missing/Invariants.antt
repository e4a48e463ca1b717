use Rattle.std.proofs.Common.{length}
use Rattle.cjc_world.proofs.class_index.ClassIndex.+is_element_missing.Given as goal

abbrev pub decreases-is_element_missing : goal.decreases-is_element_missing
decreases-is_element_missing l = length l.bytes.now
