use Rattle.std.proofs.Common.{◌≡◌, drop}
use Rattle.std.specs.List.{list_any}
use Rattle.cjc_subset.specs.Types.{is_int_part}
use Rattle.cjc_subset.proofs.types.is_any_int.Given as goal

abbrev pub invariant-loop-i : goal.invariant-loop-i
invariant-loop-i l = list_any (λ p. is_int_part p) (drop l.i l.desc.params) ≡ list_any (λ p. is_int_part p)
    l.desc.params
