-- Tokens of methods (Java Card Virtual Machine Specification 2.2.2, sections 4.3.7.3, 4.3.7.6 and 4.3.7.7).
use Rattle.std.specs.Prelude.{ℕ, ◌+◌, List, [], ◌∷◌, ◌++◌, map, take, position, count_by, Bool, false, true, not, ◌&&◌}
use Rattle.std.specs.Prelude.{◌||◌, if◌then◌else◌, Option, Some, None, option_map}
use Rattle.cjc_world.specs.Classes.{Member, Class}
use Rattle.cjc_bytes.specs.AccessFlags.{is_static}
use Rattle.cjc_world.specs.declared.found.Found.{Found}
use Rattle.cjc_world.specs.Supertypes.{supertypes}
use Rattle.cjc_world.specs.Interfaces.{Interface, gathered, each_once}
use Rattle.cjc_world.specs.Added.{own_methods, asked_by}
use Rattle.cjc_world.specs.Lookup.{method_of_interface}
use Rattle.cjc_tokens.specs.Members.{Signature, signature_of, same, is_exposed, is_constructor, is_initialiser}
use Rattle.cjc_tokens.specs.Members.{is_shown, is_hidden}
use Rattle.cjc_tokens.specs.Slots.{Slots, new_in, token}

-- ---- interfaces

-- the interfaces of a class, in order
unfoldable pub interfaces_at : List Class → Class → List Interface
interfaces_at w c = each_once [] (gathered false (supertypes w c.supers) ++ gathered true (supertypes w c.interfaces))

-- Those of its superinterfaces first, in order, each name and descriptor once, then its own. An export file lists all
-- methods of its interfaces.
unfoldable pub interface_methods : List Class → Class → List Signature
interface_methods w c = new_in [] (map signature_of (if c.is_imported then own_methods c
    else asked_by (supertypes w c.supers) (supertypes w c.interfaces) ++ own_methods c))

-- the method that each of its tokens means
abbrev pub interface_row : List Class → Class → List (Option Found)
interface_row w c = map (λ s. method_of_interface w c.name s.name s.desc) (interface_methods w c)

-- the token of a method of an interface: its place among the methods there; <clinit> has none
abbrev pub interface_token : List Signature → Member → Option ℕ
interface_token methods m = if is_initialiser m.name then None else position (λ s. same s (signature_of m)) methods

-- ---- classes

-- a public or protected static method or constructor
abbrev pub is_open_bound : Member → Bool
is_open_bound m = is_exposed m.flags && (is_static m.flags || is_constructor m.name) && not (is_initialiser m.name)

-- The high bit tells a package-visible method's token from the others.
abbrev pub with_high_bit : ℕ → ℕ
with_high_bit t = t + 128

-- the token of a virtual method, from those of public and protected ones and the slots of package-visible ones; without
-- the high bit of the latter
abbrev pub virtual_token : (shown : Signature → Option ℕ) (hidden : Slots) → Member → Option ℕ
virtual_token shown hidden m =
    if is_shown m then shown (signature_of m)
    else if is_hidden m then token hidden (signature_of m)
    else None

-- the token of the method at a place of a class
unfoldable pub class_method_token : (exported : Bool) → (shown : Signature → Option ℕ) (hidden : Slots) → List Member
    → (place : ℕ) → Member → Option ℕ
class_method_token exported shown hidden ms i m =
    if is_shown m then shown (signature_of m)
    else if is_hidden m then option_map with_high_bit (token hidden (signature_of m))
    else if exported && is_open_bound m then Some (count_by is_open_bound (take i ms)) else None

-- those of the methods from a place on
unfoldable pub class_method_tokens : (exported : Bool) → (shown : Signature → Option ℕ) (hidden : Slots) → List Member
    → (place : ℕ) → List Member → List (Option ℕ)
class_method_tokens exported shown hidden ms i [] = []
class_method_tokens exported shown hidden ms i (m ∷ rest) = class_method_token exported shown hidden ms i m
    ∷ class_method_tokens exported shown hidden ms (i + 1) rest
