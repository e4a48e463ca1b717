use Rattle.std.proofs.Common.{◌≡◌, drop}
use Rattle.std.specs.List.{list_any}
use Rattle.cjc_subset.specs.Types.{is_unsupported_part}
use Rattle.cjc_subset.proofs.types.is_any_unsupported.Given as goal

abbrev pub invariant-loop-i : goal.invariant-loop-i
invariant-loop-i l = list_any (λ p. is_unsupported_part p) (drop l.i l.desc.params)
    ≡ list_any (λ p. is_unsupported_part p) l.desc.params
