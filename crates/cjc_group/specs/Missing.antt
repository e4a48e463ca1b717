-- Rule 203 in a group: interfaces that stand above those of a class and that no file of the class's package has. The
-- class has no map of such an interface in its Class component, so calls by it find nothing by token (Java Card Virtual
-- Machine Specification 2.2.2, section 6.8: a class has a map of each interface that it implements).
use Rattle.std.specs.Prelude.{ℕ, ◌&&◌, ◌||◌, not, is_some, Bool, true, false, List, [], ◌∷◌}
use Rattle.std.specs.List.{flat_map, list_any}
use Rattle.cjc_bytes.specs.AccessFlags.{is_interface}
use Rattle.cjc_bytes.specs.Breaks.{Break, at, each}
use Rattle.cjc_world.specs.ClassFile.declared.tree.ClassTree.{ClassTree}
use Rattle.cjc_world.specs.Classes.{Class, all_classes, class_named}
use Rattle.cjc_world.specs.ExportFile.declared.tree.ExportClass.{ExportClass}
use Rattle.cjc_world.specs.ExportFile.declared.tree.ExportTree.{ExportTree}
use Rattle.cjc_world.specs.Subtype.{is_subclass}
use Rattle.cjc_group.specs.Members.{Member}
use Rattle.cjc_group.specs.Rules.{class_at}

-- ---- names that a package misses

-- a class file or an export file of the package has a class of the name
abbrev pub knows : (name : List ℕ) → Member → Bool
knows name m = is_some (class_named (all_classes m.files) name)

-- no file of the package has it, and a file of another package of the group does
abbrev pub misses : List Member → Member → (name : List ℕ) → Bool
misses group p name = not (knows name p) && list_any (λ m. knows name m) group

-- it misses one of these
abbrev pub misses_one : List Member → Member → List (List ℕ) → Bool
misses_one group p names = list_any (λ x. misses group p x) names

-- it misses one of those that a class of an export file lists
abbrev pub lists_missed : List Member → Member → ExportClass → Bool
lists_missed group p e = misses_one group p e.supers || misses_one group p e.interfaces

-- the name where it is so, else none
abbrev pub name_where : Bool → (name : List ℕ) → List (List ℕ)
name_where true name = name ∷ []
name_where false name = []

-- of these classes the names of those that list one
abbrev pub missing_above : List Member → Member → List ExportClass → List (List ℕ)
missing_above group p classes = flat_map (λ e. name_where (lists_missed group p e) e.name) classes

-- of all classes of a package's export files
abbrev pub gaps : List Member → Member → List (List ℕ)
gaps group p = flat_map (λ (t : ExportTree). missing_above group p t.classes) p.files.exports

-- ---- classes that stand below one

-- the name is one of these, or one of them stands above its class
abbrev pub is_below_one : List Class → (names : List (List ℕ)) → (name : List ℕ) → Bool
is_below_one w names name = list_any (λ x. is_subclass w name x) names

-- the class is no interface, and an interface that it lists is so
abbrev pub implements_one : List Class → (names : List (List ℕ)) → ClassTree → Bool
implements_one w names c = not (is_interface c.flags) && list_any (λ j. is_below_one w names j) c.interfaces

-- ---- where it is broken

-- of the classes of the package at this place, where these are the names
abbrev pub classes_missing : (names : List (List ℕ)) → ℕ → Member → List Break
classes_missing names i p =
    each (λ k c. at (implements_one (all_classes p.files) names c) (class_at i p k c) 203) p.files.classes

-- of the package at this place
abbrev pub member_missing : (group : List Member) → ℕ → Member → List Break
member_missing group i p = classes_missing (gaps group p) i p

-- At each class of a group, which is no interface, that implements an interface below one that its package misses.
abbrev pub missing : (group : List Member) → List Break
missing group = each (λ i p. member_missing group i p) group
