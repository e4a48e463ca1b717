use Rattle.std.proofs.Common.{◌≡◌, ◌++◌, ◌∷◌, drop}
use Rattle.std.specs.List.{flat_map}
use Rattle.cjc_script_text.specs.Printed.{value_text}
use Rattle.cjc_script_text.proofs.printing.put_values.Given as goal

abbrev pub invariant-loop-value : goal.invariant-loop-value
invariant-loop-value l = l.out ++ flat_map (λ v. 32 ∷ value_text v) (drop l.value-index l.values) ≡ l.initial.out
    ++ flat_map (λ v. 32 ∷ value_text v) l.values
