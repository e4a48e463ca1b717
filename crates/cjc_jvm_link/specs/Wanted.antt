-- How a method is selected, as code tells it.
use Rattle.std.specs.Prelude.{ℕ, List, Option, Bool, true}
use Rattle.cjc_world.specs.declared.found.Found.{Found}
use Rattle.cjc_world.specs.Classes.{Class}
use Rattle.cjc_world.specs.Supertypes.{line}
use Rattle.cjc_world.specs.Lookup.{first, is_selectable, receiver}
use Rattle.cjc_jvm_semantics.specs.OnePackage.{Selection, select_in}
use Rattle.cjc_jvm_semantics.specs.Group.{is_exposed, is_open, own_where, own_within}
use Rattle.cjc_jvm_link.specs.declared.wanted.Wanted.{Wanted}
use Rattle.cjc_jvm_link.specs.declared.wanted.Wanted.TheVariants.{Every, Any, Exposed, Open, Within}

-- whether a method with these flags is wanted
abbrev pub passes_by : Wanted → (flags : ℕ) → Bool
passes_by Every flags = true
passes_by Any flags = is_selectable flags
passes_by Exposed flags = is_exposed flags
passes_by Open flags = is_open flags
passes_by (Within home) flags = is_selectable flags

-- the method of a class that is wanted
abbrev pub own_by : Wanted → (name desc : List ℕ) → Class → Option Found
own_by (Within home) name desc c = own_within home.now name desc c
own_by wanted name desc c = own_where (passes_by wanted) name desc c

-- the first that is wanted, from a class upwards
abbrev pub selection_by : List Class → Wanted → Selection
selection_by w Any class id = select_in w class id
selection_by w wanted class id = first (own_by wanted id.name id.desc) (line w (receiver class))
