-- The order of the classes and of the methods of a package in its components (Java Card Virtual Machine Specification
-- 2.2.2, sections 6.8 and 6.9, where a superclass stands before its subclasses).
use Rattle.std.specs.Prelude.{ℕ, zero, suc, ◌+◌, ◌==◌, List, [], ◌∷◌, ◌++◌, length, Bool, true, false, not, ◌&&◌, ◌||◌}
use Rattle.std.specs.Prelude.{if◌then◌else◌, Option, Some, None, codes}
use Rattle.std.specs.List.{list_any}
use Rattle.std.specs.Str.{bytes_eq}
use Rattle.cjc_world.specs.declared.found.Found.{Found}
use Rattle.cjc_world.specs.Classes.{Member, Class, class_named}
use Rattle.cjc_bytes.specs.AccessFlags.{is_interface}
use Rattle.cjc_world.specs.Lookup.{member_at}
use Rattle.cjc_world.specs.Added.{added}

-- ---- classes: interfaces before classes, and a super before its subs

-- whether the number is one of these
abbrev pub is_in : List ℕ → ℕ → Bool
is_in numbers n = list_any (λ k. k == n) numbers

-- an interface, or a class that is none
abbrev pub is_of_kind : (interfaces : Bool) → Class → Bool
is_of_kind true c = is_interface c.flags
is_of_kind false c = not (is_interface c.flags)

-- an interface, or a class, of the package that has no place yet
abbrev pub waits : (interfaces : Bool) → (placed : List ℕ) → Class → Bool
waits interfaces placed c = not c.is_imported && is_of_kind interfaces c && not (is_in placed c.number)

-- there is a class, and it has no place yet
abbrev pub names_waiting : (interfaces : Bool) → (placed : List ℕ) → Option Class → Bool
names_waiting interfaces placed None = false
names_waiting interfaces placed (Some c) = waits interfaces placed c

-- It has no place yet, and none that it lists waits for one.
unfoldable pub may_stand : List Class → (interfaces : Bool) → (placed : List ℕ) → Class → Bool
may_stand w interfaces placed c =
    waits interfaces placed c
    && not (list_any (λ x. names_waiting interfaces placed (class_named w x)) c.supers
    || list_any (λ x. names_waiting interfaces placed (class_named w x)) c.interfaces)

-- the earliest of these that may stand next
unfoldable pub next : List Class → (interfaces : Bool) → (placed : List ℕ) → List Class → Option Class
next w interfaces placed [] = None
next w interfaces placed (c ∷ cs) = if may_stand w interfaces placed c then Some c else next w interfaces placed cs

-- the class and those that follow it; none where there is no class
abbrev pub and_then : Option Class → (Class → List Class) → List Class
and_then None rest = []
and_then (Some c) rest = c ∷ rest c

-- Each is the earliest in list order that may stand next, so many at most.
unfoldable pub lined_up : List Class → (interfaces : Bool) → (count : ℕ) → (placed : List ℕ) → List Class
lined_up w interfaces zero placed = []
lined_up w interfaces (suc n) placed = and_then (next w interfaces placed w) (λ c. lined_up w interfaces n (placed
    ++ c.number ∷ []))

-- the interfaces of the package in their order, or its classes that are no interfaces
unfoldable pub in_order : List Class → (interfaces : Bool) → List Class
in_order w interfaces = lined_up w interfaces (length w) []

-- The classes of a package in the order of Class and of Descriptor.
unfoldable pub class_order : List Class → List Class
class_order w = in_order w true ++ in_order w false

-- ---- methods: classes in that order, members in the order of the class file, then the methods that are added

-- the methods of a class without <clinit>, the first of them counted at this place among its members
abbrev pub written : Class → (place : ℕ) → List Member → List Found
written c i [] = []
written c i (m ∷ ms) = if bytes_eq m.name (codes "<clinit>") then written c (i + 1) ms else member_at c i
    ∷ written c (i + 1) ms

-- so many of a class, from a place on
abbrev pub places : Class → (place count : ℕ) → List Found
places c i zero = []
places c i (suc n) = member_at c i ∷ places c (i + 1) n

-- the methods of a class: those of its file without <clinit>, then those that it gets from its interfaces
abbrev pub methods_of_class : List Class → Class → List Found
methods_of_class w c = written c (length c.fields) c.methods ++ places c (length c.fields + length c.methods)
    (length (added w c))

-- the methods of the classes, class by class
abbrev pub methods_in_turn : List Class → List Class → List Found
methods_in_turn w [] = []
methods_in_turn w (c ∷ cs) = methods_of_class w c ++ methods_in_turn w cs

-- The methods of a package in the order of Method and of Descriptor, without <clinit> and the methods of interfaces.
unfoldable pub method_order : List Class → List Found
method_order w = methods_in_turn w (in_order w false)
