-- The first break in a list as it stands.
use Rattle.std.specs.Prelude.{◌≡◌, ◌⊎◌, List, ◌∷◌}
use Rattle.cjc_bytes.specs.Breaks.{Break}
use Rattle.cjc_bytes.specs.declared.fault.Fault.{Fault}
use Rattle.cjc_bytes.specs.declared.fault.Fault.TheVariants as faults

-- The error is the refusal of the foremost break, or that memory ran out.
abbrev pub IsForemost : List Break → Fault → Type 0
IsForemost bs e = (e ≡ faults.NoMemory) ⊎ ((b : Break) × (rest : List Break) × (bs ≡ b ∷ rest)
    × (e ≡ faults.Refused b.refusal))
