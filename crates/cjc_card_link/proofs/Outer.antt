-- Static methods and constructors of imported classes.
use Rattle.std.proofs.Common.{ℕ, Bool, Option}
use Rattle.std.specs.Prelude.{option_map, option_and_then}
use Rattle.cjc_card_semantics.specs.ExportFile.declared.tree.ExportClass.{ExportClass}
use Rattle.cjc_card_semantics.specs.Machine.Operations.{Callee, outer, unbound_of}

-- the one of a token, in a class that is there
abbrev pub outer_by : (on : Bool) (token : ℕ) → Option ExportClass → Option Callee
outer_by on token class = option_and_then (λ c. option_map (outer on c.name) (unbound_of c.methods token)) class
