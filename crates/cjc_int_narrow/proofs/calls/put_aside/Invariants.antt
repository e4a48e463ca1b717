use Rattle.std.proofs.Common.{◌≡◌, ◌+◌, ◌-◌, ◌*◌, ◌++◌, map, length, drop}
use Rattle.cjc_int_mode.specs.Script.Sorts.{sort_of}
use Rattle.cjc_int_narrow.specs.Working.Moves.{aside_all}
use Rattle.cjc_int_narrow.proofs.calls.put_aside.Given as goal

abbrev pub invariant-loop-done : goal.invariant-loop-done
invariant-loop-done l =
    let sorts = map sort_of l.desc.params in
    l.out ≡ l.fn.out ++ aside_all (l.scratch + 2 * (length sorts - l.done)) (drop (length sorts - l.done) sorts)
