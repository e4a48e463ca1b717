use Rattle.std.proofs.Common.{◌≡◌, ◌++◌, take}
use Rattle.cjc_verify.proofs.infos.refs.put_starts.Given as goal

abbrev pub invariant-loop-start : goal.invariant-loop-start
invariant-loop-start l = l.row ≡ l.fn.row ++ take l.start-index l.starts
