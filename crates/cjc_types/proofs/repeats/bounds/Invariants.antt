use Rattle.std.proofs.Common.{◌≡◌, length, take}
use Rattle.cjc_types.specs.Repeats.{CoverAlike}
use Rattle.cjc_types.proofs.repeats.bounds.Given as goal

abbrev pub invariant-loop-catch : goal.invariant-loop-catch
invariant-loop-catch l = record {
  sized : length l.bounds.items ≡ length l.insns;
  alike : CoverAlike l.insns l.bounds.items (take l.catch-index l.catches);
}
