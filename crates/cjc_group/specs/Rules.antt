-- Rules 731 to 735: what packages of a group agree on, so that a card that has the earlier ones links the later ones
-- (Java Card Virtual Machine Specification 2.2.2, sections 4.4, 4.5 and 6.7). Each is a test; where it is broken, and
-- which stands first, is a list of breaks. A group is a list of packages in the order in which they come to the card.
use Rattle.std.specs.Prelude.{ℕ, ◌+◌, ◌&&◌, ◌||◌, not, is_some, Bool, List, [], ◌++◌, take, drop}
use Rattle.std.specs.List.{list_any}
use Rattle.std.specs.Str.{bytes_eq}
use Rattle.cjc_bytes.specs.Breaks.{Break, RulePlace, at, class_spot, each}
use Rattle.cjc_bytes.specs.Order.{FilePlace}
use Rattle.cjc_bytes.specs.declared.order.FileKey.TheVariants as keys
use Rattle.cjc_world.specs.ClassFile.declared.tree.ClassTree.{ClassTree}
use Rattle.cjc_world.specs.ExportFile.declared.tree.ExportClass.{ExportClass}
use Rattle.cjc_world.specs.ExportFile.declared.tree.ExportTree.{ExportTree}
use Rattle.cjc_group.specs.Implementing.{class_file, lacks_implementation}
use Rattle.cjc_group.specs.Members.{Member}
use Rattle.cjc_group.specs.Trees.{same_tree}

-- ---- imports

-- An export file is of a package where it has that package's name or its AID.
abbrev pub is_of : ExportTree → Member → Bool
is_of t m = bytes_eq t.name m.list.«package» || bytes_eq t.aid m.list.aid

-- of no package of the group
abbrev pub is_outside : List Member → ExportTree → Bool
is_outside group t = not (list_any (λ m. is_of t m) group)

-- one of a package's export files is of another package
abbrev pub imports : (importing imported : Member) → Bool
imports p m = list_any (λ t. is_of t m) p.files.exports

-- ---- 731: an earlier package

-- one of a package's export files is of another package, and is not the one that is written for it
abbrev pub imports_other : (importing imported : Member) → Bool
imports_other p m = list_any (λ t. is_of t m && not (same_tree t m.written)) p.files.exports

-- ---- 732: what an outside package knows of the group

-- the package has a class file of this name
abbrev pub declares : List ℕ → Member → Bool
declares name m = is_some (class_file name m)

-- a class of the group has one of these names
abbrev pub names_declared : List Member → List (List ℕ) → Bool
names_declared group names = list_any (λ x. list_any (λ m. declares x m) group) names

-- a class lists a class of the group as a super or an interface
abbrev pub stands_below : List Member → ExportClass → Bool
stands_below group c = names_declared group c.listed || names_declared group c.interfaces

-- a class of the export file does so, and the file is of no package of the group
abbrev pub rests_on : List Member → ExportTree → Bool
rests_on group t = is_outside group t && list_any (λ c. stands_below group c) t.classes

-- one of a package's export files does so
abbrev pub imports_resting : List Member → Member → Bool
imports_resting group p = list_any (λ t. rests_on group t) p.files.exports

-- ---- 733: names and AIDs of packages

-- one name or one AID
abbrev pub is_named_alike : Member → Member → Bool
is_named_alike p m = bytes_eq p.list.«package» m.list.«package» || bytes_eq p.list.aid m.list.aid

-- ---- 734: packages outside the group

-- an export file of one name or AID with another, which is of no package of the group, and the two differ
abbrev pub differs_from : List Member → ExportTree → ExportTree → Bool
differs_from group t u =
    (bytes_eq t.name u.name || bytes_eq t.aid u.aid) && is_outside group u && not (same_tree t u)

-- an export file that is of no package of the group differs so from one of these
abbrev pub differs_from_one : List Member → List ExportTree → ExportTree → Bool
differs_from_one group trees t = is_outside group t && list_any (λ u. differs_from group t u) trees

-- one of a package's does so from one of another package's
abbrev pub imports_differing : List Member → Member → Member → Bool
imports_differing group p m = list_any (λ t. differs_from_one group m.files.exports t) p.files.exports

-- ---- where they are broken

-- the list of the package at this place of the group: the files that the group's lines name stand in their order
abbrev pub list_file : ℕ → Member → FilePlace
list_file i p = record { key = keys.Line i; name = p.list.name }

-- the list as a whole
abbrev pub list_at : ℕ → Member → RulePlace
list_at i p = class_spot (list_file i p) 0 []

-- a class of the package, by its place among its class files
abbrev pub class_at : ℕ → Member → ℕ → ClassTree → RulePlace
class_at i p k c = class_spot (list_file i p) (k + 1) c.name

-- 735 of the classes of the package at this place
abbrev pub class_breaks : (group : List Member) → ℕ → Member → List Break
class_breaks group i p = each (λ k c. at (lacks_implementation group i c) (class_at i p k c) 735) p.files.classes

-- What of 731 to 734 the package at this place breaks, between those before it and all.
abbrev pub list_breaks : (group : List Member) → ℕ → Member → List Break
list_breaks group i p =
    at (list_any (λ m. imports_other p m) (take i group)) (list_at i p) 731
    ++ at (list_any (λ m. imports p m) (drop i group) || imports_resting group p) (list_at i p) 732
    ++ at (list_any (λ m. is_named_alike p m) (take i group)) (list_at i p) 733
    ++ at (list_any (λ m. imports_differing group p m) (take i group)) (list_at i p) 734

-- What of them it breaks.
abbrev pub member_breaks : (group : List Member) → ℕ → Member → List Break
member_breaks group i p = list_breaks group i p ++ class_breaks group i p

-- What of them a group breaks.
abbrev pub breaks : (group : List Member) → List Break
breaks group = each (λ i p. member_breaks group i p) group
