use Rattle.std.proofs.Common.{◌≡◌, ◌<◌, ◌+◌, ◌^◌, ◌++◌, length, drop, reverse, vec_len}
use Rattle.cjc_types.specs.Working.Parts.{bottom_up}
use Rattle.cjc_types.proofs.operands.Operands.below.Given as goal

abbrev pub invariant-loop-left : goal.invariant-loop-left
invariant-loop-left l = record {
  rest : drop l.left (reverse (bottom_up l.parts.items ++ l.own.items))
      ≡ drop l.count (reverse (bottom_up l.initial.parts.items ++ l.initial.own.items));
  deep : l.deep ≡ length (bottom_up l.parts.items);
  fits : l.deep + length l.own.items < 2 ^ 64;
}

abbrev pub decreases-loop-left : goal.decreases-loop-left
decreases-loop-left l = vec_len l.parts
