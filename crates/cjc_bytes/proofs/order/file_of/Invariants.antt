use Rattle.std.proofs.Common.{◌≡◌, drop}
use Rattle.cjc_bytes.specs.Order.{file_from, file_of}
use Rattle.cjc_bytes.proofs.order.file_of.Given as goal

abbrev pub invariant-loop-index : goal.invariant-loop-index
invariant-loop-index l = file_from l.index (drop l.index l.lines) l.left ≡ file_of l.lines l.number
