-- Rule 735: package-visible abstract methods of a superclass in another package of the group. Only classes of that
-- package can implement them (Java Virtual Machine Specification, section 5.4.5: a class of another package overrides
-- none).
use Rattle.std.specs.Prelude.{ℕ, zero, suc, ◌+◌, ◌==◌, ◌&&◌, not, Bool, true, if◌then◌else◌, List, [], ◌∷◌, Option}
use Rattle.std.specs.Prelude.{Some, None, slice_get}
use Rattle.std.specs.List.{find, list_any}
use Rattle.std.specs.Str.{bytes_eq}
use Rattle.cjc_bytes.specs.AccessFlags.{is_abstract, is_private, is_protected, is_public}
use Rattle.cjc_world.specs.Classes.{Class, all_classes, class_named}
use Rattle.cjc_world.specs.ClassFile.declared.tree.ClassTree.{ClassTree}
use Rattle.cjc_world.specs.ClassFile.declared.tree.MethodTree.{MethodTree}
use Rattle.cjc_world.specs.Lookup.{is_selectable}
use Rattle.cjc_group.specs.Members.{Member}

-- ---- classes of the group

-- the class file that a look-up by name found
abbrev pub file_found : Member → Option Class → Option ClassTree
file_found m None = None
file_found m (Some c) = if c.is_imported then None else slice_get m.files.classes c.number

-- a package's class file of a name
abbrev pub class_file : List ℕ → Member → Option ClassTree
class_file name m = file_found m (class_named (all_classes m.files) name)

-- a class of the group, with the place of its package
pub record Declared : Type 0 where
  pub part : ℕ
  pub class : ClassTree

-- a package's class file, or else what the next has
abbrev pub or_next : (part : ℕ) → Option ClassTree → Option Declared → Option Declared
or_next i (Some c) next = Some (record { part = i; class = c })
or_next i None next = next

-- the class of a name in the first package that has it, where so many packages stand before these
abbrev pub declared_from : (part : ℕ) → List Member → List ℕ → Option Declared
declared_from i [] name = None
declared_from i (m ∷ group) name = or_next i (class_file name m) (declared_from (i + 1) group name)

-- the class of a name in the first package that has it
abbrev pub declared_in : List Member → List ℕ → Option Declared
declared_in group name = declared_from 0 group name

-- No more classes of a group stand above one another than there are in it: 1,024 class files in each of 16 packages.
abbrev pub class_limit : ℕ
class_limit = 16384

-- a class, and onwards from it
abbrev pub with_class : Option Declared → (onwards : ClassTree → List Declared) → List Declared
with_class None onwards = []
with_class (Some d) onwards = d ∷ onwards d.class

-- the class of a name and its superclasses, so many at most, up to the first that is of no package of the group
unfoldable pub upwards : (group : List Member) → (steps : ℕ) → (name : List ℕ) → List Declared
upwards group zero name = []
upwards group (suc n) name = with_class (declared_in group name) (λ c. upwards group n c.superclass)

-- ---- methods

-- neither public nor protected nor private
abbrev pub is_package_visible : (flags : ℕ) → Bool
is_package_visible flags = not (is_public flags) && not (is_protected flags) && not (is_private flags)

-- a method of this name and descriptor that is neither private nor static
abbrev pub is_selected : (name desc : List ℕ) → MethodTree → Bool
is_selected name desc m = is_selectable m.flags && bytes_eq m.name name && bytes_eq m.desc desc

-- the first such method of a class of this package among these
abbrev pub method_in : (part : ℕ) → (name desc : List ℕ) → Declared → Option MethodTree
method_in part name desc d = if d.part == part then find (λ m. is_selected name desc m) d.class.methods else None

-- it, or else the next
abbrev pub or_method : Option MethodTree → Option MethodTree → Option MethodTree
or_method (Some m) next = Some m
or_method None next = next

-- what selection finds for a package-visible method: it passes over the classes of other packages
abbrev pub selected_in : (part : ℕ) → (name desc : List ℕ) → List Declared → Option MethodTree
selected_in part name desc [] = None
selected_in part name desc (d ∷ line) = or_method (method_in part name desc d) (selected_in part name desc line)

-- no method, or one without code
abbrev pub is_no_implementation : Option MethodTree → Bool
is_no_implementation None = true
is_no_implementation (Some m) = is_abstract m.flags

-- the method is package-visible and abstract, and the classes of its package among these do not implement it
abbrev pub is_unimplemented : (part : ℕ) → List Declared → MethodTree → Bool
is_unimplemented part line m =
    is_package_visible m.flags && is_abstract m.flags && is_no_implementation (selected_in part m.name m.desc line)

-- one of these is of another package than this one and has such a method
abbrev pub leaves_open : (part : ℕ) → List Declared → Declared → Bool
leaves_open part line d =
    not (d.part == part) && list_any (λ m. is_unimplemented d.part line m) d.class.methods

-- one of the superclasses does so
abbrev pub is_left_open : (part : ℕ) → List Declared → Bool
is_left_open part line = list_any (λ d. leaves_open part line d) line

-- The class of the package at this place is not abstract, and a superclass in another package has a package-visible
-- abstract method that no superclass in that package implements.
abbrev pub lacks_implementation : (group : List Member) → (part : ℕ) → ClassTree → Bool
lacks_implementation group part c =
    not (is_abstract c.flags) && is_left_open part (upwards group class_limit c.superclass)
