use Rattle.std.proofs.Common.{◌≡◌, ◌+◌, ◌-◌, length}
use Rattle.cjc_code.specs.Cut.{cut_rest, cut}
use Rattle.cjc_code.proofs.Loops.{behind}
use Rattle.cjc_code.proofs.cutting.cut.Given as goal

abbrev pub invariant-loop : goal.invariant-loop
invariant-loop l = record {
  cut : behind l.insns (cut_rest (length l.code - l.counter) l.cursor) ≡ cut l.code;
  place : l.cursor.at + length l.cursor.left ≡ length l.code;
}
