use Rattle.std.proofs.Common.{◌≡◌, ◌++◌, take}
use Rattle.cjc_verify.proofs.infos.offsets.put_numbers.Given as goal

abbrev pub invariant-loop-number : goal.invariant-loop-number
invariant-loop-number l = l.row ≡ l.fn.row ++ take l.number-index l.numbers
