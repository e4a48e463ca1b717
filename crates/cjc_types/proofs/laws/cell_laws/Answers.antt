use Rattle.std.proofs.Common.{◌≡◌, ℕ, true, List, refl}
use Rattle.std.specs.List.{list_all}
use Rattle.cjc_world.specs.Classes.{Class}
use Rattle.cjc_world.specs.Subtype.{is_subtype}
use Rattle.cjc_types.specs.declared.cell.Cell.{Cell}
use Rattle.cjc_types.specs.declared.cell.Cell.TheVariants.{Number, Refs, Unusable}
use Rattle.cjc_types.specs.Rules.{is_number, is_reference, is_of}
use Rattle.cjc_types.proofs.laws.cell_laws.Goals as goal

number : (cell : Cell) → is_number cell ≡ true → cell ≡ Number
number Number e = refl
number (Refs names) e = absurd cc
number Unusable e = absurd cc

reference : (cell : Cell) → is_reference cell ≡ true → (names : List (List ℕ)) × (cell ≡ Refs names)
reference Number e = absurd cc
reference (Refs names) e = (names, refl)
reference Unusable e = absurd cc

of_class : (w : List Class) (class : List ℕ) (cell : Cell) → is_of w class cell ≡ true → (names : List (List ℕ))
    × (cell ≡ Refs names) × (list_all (λ name. is_subtype w name class) names ≡ true)
of_class w class Number e = absurd cc
of_class w class (Refs names) e = (names, refl, e)
of_class w class Unusable e = absurd cc

pub returns-clause-number : goal.returns-clause-number
returns-clause-number c = number

pub returns-clause-reference : goal.returns-clause-reference
returns-clause-reference c = reference

pub returns-clause-class : goal.returns-clause-class
returns-clause-class c = of_class
