use Rattle.std.proofs.Common.{◌≡◌, ◌+◌, ◌≤◌, ◌*◌, map, drop}
use Rattle.cjc_card_semantics.specs.Script.Sorts.{sort_of}
use Rattle.cjc_card_semantics.specs.Bytecode.Arguments.{widths}
use Rattle.cjc_card_calls.proofs.calls.arguments.widths.Given as goal

abbrev pub invariant-loop-i : goal.invariant-loop-i
invariant-loop-i l = (l.words + widths (map sort_of (drop l.i l.desc.params)) ≡ widths (map sort_of l.desc.params))
    × (l.words ≤ 2 * l.i)
