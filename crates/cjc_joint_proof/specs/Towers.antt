-- The tables of a class and its superclasses through packages: those of its own package, and above them those of the
-- class that the group has for the first imported one.
use Rattle.std.specs.Prelude.{◌≡◌, ℕ, suc, List, Some}
use Rattle.cjc_card_semantics.specs.CapRead.declared.tree.ClassEntry.{ClassEntry}
use Rattle.cjc_card_semantics.specs.ExportFile.declared.tree.ExportClass.{ExportClass}
use Rattle.cjc_card_semantics.specs.Machine.Classes.{Class, Own, External, IsClass, class_of, info_of}
use Rattle.cjc_card_semantics.specs.Machine.Dispatch.{Tower, Missing, Exported, Table}
use Rattle.cjc_card_semantics.specs.Machine.Loaded.{Loaded}

-- The tables of a tower as those of the package at this place, with this tower in place of what is exported above them.
abbrev pub onto : (q : ℕ) → Tower → (end : Tower) → Tower
onto q Missing end = Missing
onto q (Exported classes) end = end
onto q (Table p c above) end = Table q c (onto q above end)

-- A class of a package that is loaded by itself, how many classes of the package stand at it and above it, and the
-- first imported class above them.
pub data Reaches (alone : Loaded) : (height : ℕ) → Class → (first : Class) → Type 0 where
  arrived : {tree token : ℕ} → Reaches alone 0 (External tree token) (External tree token)
  climbs : {height offset : ℕ} {s first : Class} (entry : ClassEntry) → info_of alone 0 offset ≡ Some (IsClass entry)
      → class_of alone 0 entry.superclass ≡ Some s → Reaches alone height s first
      → Reaches alone (suc height) (Own 0 offset) first

-- A class of the group, and how many of its classes stand at it and above it, whatever their packages, up to one from
-- outside.
pub data Stands (group : Loaded) : (height : ℕ) → Class → Type 0 where
  outside : {tree token : ℕ} → Stands group 0 (External tree token)
  own : {height part offset : ℕ} {s : Class} (entry : ClassEntry) → info_of group part offset ≡ Some (IsClass entry)
      → class_of group part entry.superclass ≡ Some s → Stands group height s → Stands group (suc height) (Own part
      offset)

-- Tables of one package that is loaded by itself, and what is exported above them.
pub data IsOwnTower : Tower → Type 0 where
  ends : {classes : List ExportClass} → IsOwnTower (Exported classes)
  table : {entry : ClassEntry} {above : Tower} → IsOwnTower above → IsOwnTower (Table 0 entry above)
