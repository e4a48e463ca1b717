-- Class_refs by name, as they are put down.
use Rattle.std.specs.Prelude.{◌≡◌, ℕ, List, [], ◌∷◌, Option, Some, None, option_map, unwrap_or, if◌then◌else◌}
use Rattle.std.specs.Str.{bytes_eq}
use Rattle.indexmap.specs.IndexMap.{IndexMap, get}
use Rattle.cjc_capread.specs.declared.tree.ClassRef.{ClassRef}
use Rattle.cjc_capread.specs.declared.tree.ClassRef.TheVariants.{Inside, Outside}
use Rattle.cjc_export.specs.declared.tree.ExportClass.{ExportClass}
use Rattle.cjc_card.specs.Classes.{token_named}
use Rattle.cjc_world.specs.Classes.{Class}

abbrev pub or_else : Option ClassRef → Option ClassRef → Option ClassRef
or_else None other = other
or_else (Some ref) other = Some ref

-- one, or that of the class at the offset 0
abbrev pub ref_or_first : Option ClassRef → ClassRef
ref_or_first o = unwrap_or o (Inside 0)

-- the one at a place, where the name is that of the class there
abbrev pub ref_at : Option Class → ClassRef → (name : List ℕ) → Option ClassRef
ref_at None ref name = None
ref_at (Some c) ref name = if bytes_eq c.name name then Some ref else None

-- the first of those of classes whose name it is
abbrev pub listed_ref : List Class → List ClassRef → (name : List ℕ) → Option ClassRef
listed_ref [] refs name = None
listed_ref (c ∷ classes) [] name = None
listed_ref (c ∷ classes) (ref ∷ refs) name = if bytes_eq c.name name then Some ref else listed_ref classes refs name

-- of a class of the export file of this number
abbrev pub exported_ref : (file : ℕ) → List ExportClass → (name : List ℕ) → Option ClassRef
exported_ref file classes name = option_map (Outside file) (token_named classes name)

-- a name has this one from now on, unless it had one, and other names what they had
abbrev pub HasRef : {S : Type 0} → (old new : IndexMap (List ℕ) ClassRef S) → (name : List ℕ) → ClassRef → Type 0
HasRef old new name ref = (x : List ℕ) → get bytes_eq new x ≡ or_else (get bytes_eq old x) (if bytes_eq name x then Some ref else None)

-- each name has the one that is given, unless it had one
abbrev pub HasRefs : {S : Type 0} → (given : List ℕ → Option ClassRef) → (old new : IndexMap (List ℕ) ClassRef S) → Type 0
HasRefs given old new = (x : List ℕ) → get bytes_eq new x ≡ or_else (get bytes_eq old x) (given x)
