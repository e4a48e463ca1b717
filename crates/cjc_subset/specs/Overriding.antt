-- Rules 305, 306 and 307: methods and the methods that they inherit. A class inherits from its superclasses upwards and
-- from its superinterfaces, and from nothing else: not from the superclass that an interface's file names.
use Rattle.std.specs.Prelude.{ℕ, List, [], ◌∷◌, ◌++◌, Bool, true, false, not, ◌&&◌, ◌||◌, if◌then◌else◌, Option, Some}
use Rattle.std.specs.Prelude.{None}
use Rattle.std.specs.List.{list_any}
use Rattle.std.specs.Str.{bytes_eq}
use Rattle.cjc_bytes.specs.declared.fault.MemberId.{MemberId}
use Rattle.cjc_code.specs.ClassFile.declared.tree.ClassTree.{ClassTree}
use Rattle.cjc_code.specs.ClassFile.declared.tree.MethodTree.{MethodTree}
use Rattle.cjc_world.specs.Classes.{Class, Member, all_classes, declared, imported}
use Rattle.cjc_bytes.specs.AccessFlags.{acc_public, is_abstract, is_interface, is_private, is_protected, is_public}
use Rattle.cjc_bytes.specs.AccessFlags.{is_static}
use Rattle.cjc_world.specs.Files.{Files}
use Rattle.cjc_world.specs.Interfaces.{has_interface}
use Rattle.cjc_world.specs.Supertypes.{is_below}
use Rattle.cjc_world.specs.Lookup.{is_called, selected}
use Rattle.cjc_bytes.specs.Breaks.{Break, at, each}
use Rattle.cjc_subset.specs.Members.{ResolvedMember, hit, is_constructor, is_initialiser}
use Rattle.cjc_subset.specs.Places.{at_class, at_method}
use Rattle.cjc_bytes.specs.Order.{FilePlace}

-- another class that is a superclass or a superinterface
abbrev pub is_inherited : List Class → ClassTree → Class → Bool
is_inherited w c d = (is_below w c.name d.name || has_interface w c.name d.name) && not (bytes_eq c.name d.name)

-- constructors and <clinit> inherit nothing
abbrev pub is_special : List ℕ → Bool
is_special name = is_constructor name || is_initialiser name

-- ---- 305

-- public or protected
abbrev pub is_open : ℕ → Bool
is_open flags = is_public flags || is_protected flags

-- neither public nor protected nor private
abbrev pub is_package_visible : ℕ → Bool
is_package_visible flags = not (is_public flags) && not (is_protected flags) && not (is_private flags)

-- One is package-visible and the other public or protected, or both are package-visible and the inherited one is
-- imported.
abbrev pub is_out_of_sight : (inherited_is_imported : Bool) → (flags inherited : ℕ) → Bool
is_out_of_sight inherited_is_imported flags inherited =
    (is_package_visible flags && is_open inherited)
    || (is_open flags && is_package_visible inherited)
    || (is_package_visible flags && is_package_visible inherited && inherited_is_imported)

-- with some method of the other class
abbrev pub hides_one : Class → (flags : ℕ) → (name desc : List ℕ) → Bool
hides_one d flags name desc = list_any (λ k. is_called name desc k && is_out_of_sight d.is_imported flags k.flags)
    d.methods

-- another class that is a superclass
abbrev pub is_superclass : List Class → ClassTree → Class → Bool
is_superclass w c d = is_below w c.name d.name && not (bytes_eq c.name d.name)

-- A method that an abstract class gets from an interface is public. A method of another class is package-visible, and
-- the class is a superclass of this one.
abbrev pub hides_added : List Class → ClassTree → (added : List MemberId) → Class → Bool
hides_added w c added d = is_superclass w c d && list_any (λ m. hides_one d acc_public m.name m.desc) added

-- with some class of the files, where the class gets methods; the numbers of classes do not matter here
unfoldable pub gets_hidden : Files → ClassTree → (added : List MemberId) → Bool
gets_hidden files c [] = false
gets_hidden files c (m ∷ added) =
    list_any (λ d. hides_added (all_classes files) c (m ∷ added) (declared 0 d)) files.classes
    || list_any (λ t. list_any (λ d. hides_added (all_classes files) c (m ∷ added) (imported 0 d)) t.classes)
    files.exports

-- ---- 306

-- Exactly one is private or static, and the inherited one is not private.
abbrev pub is_of_other_kind : (flags inherited : ℕ) → Bool
is_of_other_kind flags inherited =
    not (is_private inherited) && (if is_private flags || is_static flags then not (is_static inherited)
    else is_static inherited)

-- against some method of the other class that has the name and the descriptor
abbrev pub changes_kind : Class → (flags : ℕ) → (name desc : List ℕ) → Bool
changes_kind d flags name desc = list_any (λ k. is_called name desc k && is_of_other_kind flags k.flags) d.methods

-- ---- 307

-- an abstract method or a method of an interface; a <clinit> of the package is none
abbrev pub asks_for_code : Class → Member → Bool
asks_for_code d k = (is_abstract k.flags || is_interface d.flags) && not (not d.is_imported && is_initialiser k.name)

-- Selection gives no method or an abstract one, or, for an interface's method, one that is not public.
abbrev pub is_unfit_selection : (for_interface : Bool) → Option ResolvedMember → Bool
is_unfit_selection for_interface None = true
is_unfit_selection for_interface (Some h) = is_abstract h.flags || (for_interface && not (is_public h.flags))

-- The class is asked for code of a method of this one and has none.
abbrev pub has_no_code : List Class → ClassTree → Class → Member → Bool
has_no_code w c d k = asks_for_code d k && is_unfit_selection (is_interface d.flags)
    (hit w false (selected w c.name k.name k.desc))

-- of a class that is not abstract, and the methods that it declares itself or inherits from this one
abbrev pub lacks_code : List Class → ClassTree → Class → Bool
lacks_code w c d = not (is_abstract c.flags) && list_any (λ k. has_no_code w c d k) d.methods

-- ---- what is broken, and where

-- at a method, against a class that is inherited from
unfoldable pub method_against : FilePlace → ClassTree → Class → (place : ℕ) → MethodTree → List Break
method_against f c d i m =
    at (not (is_special m.name) && hides_one d m.flags m.name m.desc) (at_method f c i m 0) 305
    ++ at (not (is_special m.name) && changes_kind d m.flags m.name m.desc) (at_method f c i m 0) 306

-- at the class and its methods, against a class that is inherited from
unfoldable pub class_against : List Class → FilePlace → ClassTree → Class → List Break
class_against w f c d =
    at (lacks_code w c d) (at_class f c) 307
    ++ each (λ i m. method_against f c d i m) c.methods

-- against a class of the files, where it is inherited from
unfoldable pub supertype_breaks : List Class → FilePlace → ClassTree → Class → List Break
supertype_breaks w f c d = if is_inherited w c d then class_against w f c d else []

-- Against every class of the files. Their numbers do not matter here.
unfoldable pub overriding_breaks : Files → FilePlace → ClassTree → List Break
overriding_breaks files f c =
    at (lacks_code (all_classes files) c (declared 0 c)) (at_class f c) 307
    ++ each (λ _ d. supertype_breaks (all_classes files) f c (declared 0 d)) files.classes
    ++ each (λ _ t. each (λ _ d. supertype_breaks (all_classes files) f c (imported 0 d)) t.classes) files.exports
