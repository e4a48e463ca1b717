-- Look-up of fields and methods by name and descriptor, and selection (Java Virtual Machine Specification,
-- sections 5.4.3 and 6.5, invokevirtual).
use Rattle.std.specs.Prelude.{ℕ, ◌+◌, List, [], ◌∷◌, length, position, Bool, true, false, not, ◌&&◌, ◌==◌}
use Rattle.std.specs.Prelude.{if◌then◌else◌, Option, Some, None, option_map}
use Rattle.std.specs.Str.{bytes_eq}
use Rattle.cjc_world.specs.declared.found.Found.{Found}
use Rattle.cjc_world.specs.Classes.{Member, Class, class_named}
use Rattle.cjc_bytes.specs.AccessFlags.{is_private, is_static}
use Rattle.cjc_export.specs.Root as root
use Rattle.cjc_world.specs.Supertypes.{Supertypes, End, Unknown, Known, supertypes, line}
use Rattle.cjc_world.specs.Interfaces.{known, gathered}

-- what was found first, or else the second
abbrev pub or_else : Option Found → Option Found → Option Found
or_else (Some f) second = Some f
or_else None second = second

-- what the first class that has it answers
unfoldable pub first : (Class → Option Found) → List Class → Option Found
first own [] = None
first own (c ∷ cs) = or_else (own c) (first own cs)

-- whether the member has this name and this descriptor
abbrev pub is_called : List ℕ → List ℕ → Member → Bool
is_called name desc m = bytes_eq m.name name && bytes_eq m.desc desc

-- the member at a place of a class; fields are counted first, then methods
abbrev pub member_at : Class → ℕ → Found
member_at c i = record { imported = c.is_imported; class = c.number; member = i }

-- ---- fields

-- a class's own field
unfoldable pub own_field : List ℕ → List ℕ → Class → Option Found
own_field name desc c = option_map (λ i. member_at c i) (position (λ f. is_called name desc f) c.fields)

-- The class, then in the same way each listed interface in order, then in the same way the superclass, or each
-- listed super in order.
abbrev pub field_in : (Class → Option Found) → Supertypes → Option Found
field_in own End = None
field_in own (Unknown name next) = field_in own next
field_in own (Known c supers interfaces next) =
    or_else (or_else (own c) (or_else (field_in own interfaces) (field_in own supers))) (field_in own next)

-- the field of this name and descriptor, looked up from the class of this name on
unfoldable pub find_field : List Class → (class name desc : List ℕ) → Option Found
find_field w class name desc = field_in (own_field name desc) (supertypes w (class ∷ []))

-- ---- methods

-- neither private nor static
abbrev pub is_selectable : ℕ → Bool
is_selectable flags = not (is_private flags) && not (is_static flags)

-- whether a look-up or a selection may end at a method with these flags
abbrev pub is_wanted : (selecting : Bool) → ℕ → Bool
is_wanted true flags = is_selectable flags
is_wanted false flags = true

-- a class's own method; selection passes over private and static ones
unfoldable pub own_method : (selecting : Bool) → List ℕ → List ℕ → Class → Option Found
own_method selecting name desc c = option_map (λ i. member_at c (length c.fields + i))
    (position (λ m. is_wanted selecting m.flags && is_called name desc m) c.methods)

-- The class, then its superclasses going upwards, then its interfaces in order.
unfoldable pub find_method : List Class → (class name desc : List ℕ) → Option Found
find_method w class name desc = or_else (first (own_method false name desc) (line w class))
    (first (own_method false name desc) (known (gathered false (supertypes w (class ∷ [])))))

-- the method that a class declares, private and static ones too; none where there is no class
abbrev pub own_of : (name desc : List ℕ) → Option Class → Option Found
own_of name desc None = None
own_of name desc (Some c) = own_method false name desc c

-- The method of an interface: its own, else that of the first of its superinterfaces, in their order, that declares
-- one.
unfoldable pub method_of_interface : List Class → (interface name desc : List ℕ) → Option Found
method_of_interface w interface name desc = or_else (own_of name desc (class_named w interface))
    (first (own_method false name desc) (known (gathered false (supertypes w (interface ∷ [])))))

-- the class above all others
abbrev pub object : List ℕ
object = root.object

-- an array, whose name begins with [, counts as java/lang/Object
abbrev pub receiver : List ℕ → List ℕ
receiver [] = []
receiver (b ∷ bs) = if b == 91 then object else b ∷ bs

-- The first method from the class upwards through its superclasses that is neither private nor static.
unfoldable pub selected : List Class → (class name desc : List ℕ) → Option Found
selected w class name desc = first (own_method true name desc) (line w (receiver class))
