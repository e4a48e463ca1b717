use Rattle.std.proofs.Common.{◌≡◌, ◌≤◌, ◌*◌, ◌^◌, take, length, sum_by}
use Rattle.cjc_types.specs.Cells.{cell_rank}
use Rattle.cjc_types.specs.Working.Parts.{bottom_up}
use Rattle.cjc_types.proofs.operands.parts_rank.Given as goal

abbrev pub invariant-loop-part : goal.invariant-loop-part
invariant-loop-part l = record {
  sum : l.total ≡ sum_by cell_rank (bottom_up (take l.part-index l.parts));
  small : l.total ≤ length (bottom_up (take l.part-index l.parts)) * 2 ^ 32;
}
