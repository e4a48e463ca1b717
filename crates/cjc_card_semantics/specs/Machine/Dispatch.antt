-- Dispatch by token (Java Card Virtual Machine Specification 2.2.2, sections 6.8 and 7.5): below a base and at an entry
-- 0xFFFF it goes on at the superclass; at an imported class it asks that class's export file and its supers'.
use Rattle.std.specs.Prelude.{ℕ, zero, suc, ◌-◌, List, [], ◌∷◌, Option, Some, None, Bool, false, nat_lt, ◌==◌}
use Rattle.std.specs.Prelude.{if◌then◌else◌, slice_get}
use Rattle.cjc_export.specs.Bytes.declared.fault.MemberId.{MemberId}
use Rattle.cjc_capread.specs.declared.tree.ClassEntry.{ClassEntry}
use Rattle.cjc_capread.specs.declared.tree.ImplementedInterface.{ImplementedInterface}
use Rattle.cjc_export.specs.declared.tree.ExportClass.{ExportClass}
use Rattle.cjc_export.specs.declared.tree.ExportMethod.{ExportMethod}
use Rattle.cjc_export.specs.Supers.{classes_of, upwards, virtual_method}
use Rattle.cjc_card_semantics.specs.Machine.Loaded.{MethodName, ClassNames, Loaded}
use Rattle.cjc_card_semantics.specs.Machine.Classes.{Class, Own, External, same_class, Info, IsClass, info_of, class_of}
use Rattle.cjc_card_semantics.specs.Machine.Classes.{external, names_of, depth}

-- the token of a virtual method: of a public or protected one, or of a package-visible one with its package and without
-- the high bit
pub data Token : Type 0 where
  Open : (token : ℕ) → Token
  Hidden : (home token : ℕ) → Token

-- What the card has of a class and its superclasses: class infos of the group up to an imported class, with the supers
-- that the export files list for it.
pub data Tower : Type 0 where
  Missing : Tower
  Exported : (classes : List ExportClass) → Tower
  Table : (part : ℕ) (entry : ClassEntry) (above : Tower) → Tower

-- an imported class and what stands above it
abbrev pub exported_line : Loaded → Option ExportClass → List ExportClass
exported_line l None = []
exported_line l (Some c) = c ∷ upwards (classes_of l.trees) c.supers

-- the tables of a class that is there
abbrev pub table_or_missing : (part : ℕ) → Option Info → (ClassEntry → Tower) → Tower
table_or_missing p (Some (IsClass c)) go = Table p c (go c)
table_or_missing p info go = Missing

-- upwards from a class, so many at most
abbrev pub tower_from : Loaded → (depth : ℕ) → Option Class → Tower
tower_from l zero class = Missing
tower_from l (suc n) None = Missing
tower_from l (suc n) (Some (External tree token)) = Exported (exported_line l (external l tree token))
tower_from l (suc n) (Some (Own p offset)) = table_or_missing p (info_of l p offset)
    (λ c. tower_from l n (class_of l p c.superclass))

-- the tables of a class and its superclasses
abbrev pub tower : Loaded → Class → Tower
tower l class = tower_from l (suc (depth l)) (Some class)

-- the tower of the superclass
abbrev pub above : Tower → Tower
above Missing = Missing
above (Exported classes) = Missing
above (Table part c up) = up

-- what a call reaches: a method of the group by the offset of its header, one of an imported class, or none
pub data Selection : Type 0 where
  NotFound : Selection
  At : (part offset : ℕ) → Selection
  Outward : (method : MemberId) → Selection

-- ---- methods of classes

-- an imported method, or what else is found
abbrev pub outward : (class : List ℕ) → Option ExportMethod → (otherwise : Selection) → Selection
outward class None otherwise = otherwise
outward class (Some m) otherwise = Outward (record { class = class; name = m.name; desc = m.desc })

-- the event names the first imported class, whichever of its supers has the method
abbrev pub dispatched_outward : (class : List ℕ) → List ExportClass → (token : ℕ) → Selection
dispatched_outward class [] token = NotFound
dispatched_outward class (c ∷ classes) token = outward class (virtual_method token c) (dispatched_outward class classes
    token)

-- the method of a token in an imported class and its supers
abbrev pub in_files : List ExportClass → (token : ℕ) → Selection
in_files [] token = NotFound
in_files (c ∷ classes) token = dispatched_outward c.name (c ∷ classes) token

-- at an entry; 0xFFFF goes on above, and past the table there is no method
abbrev pub held : (part : ℕ) → Option ℕ → (above : Selection) → Selection
held part None above = NotFound
held part (Some offset) above = if offset == 0xFFFF then above else At part offset

-- the entry of a token; below the base it goes on above
abbrev pub at_table : (part base : ℕ) → List ℕ → (token : ℕ) → (above : Selection) → Selection
at_table part base entries token above = if nat_lt token base then above
    else held part (slice_get entries (token - base)) above

-- a public or protected method
abbrev pub dispatched_open : Tower → (token : ℕ) → Selection
dispatched_open Missing token = NotFound
dispatched_open (Exported classes) token = in_files classes token
dispatched_open (Table part c above) token = at_table part c.public_base c.public_methods token (dispatched_open above
    token)

-- classes of other packages are passed over
abbrev pub dispatched_hidden : Tower → (home token : ℕ) → Selection
dispatched_hidden Missing home token = NotFound
dispatched_hidden (Exported classes) home token = NotFound
dispatched_hidden (Table part c above) home token =
    if part == home then at_table part c.package_base c.package_methods token (dispatched_hidden above home token)
    else dispatched_hidden above home token

-- A virtual method by its token.
abbrev pub dispatched : Tower → Token → Selection
dispatched t (Open token) = dispatched_open t token
dispatched t (Hidden home token) = dispatched_hidden t home token

-- ---- methods of interfaces

-- the class of a class_ref is this one
abbrev pub is_same : Option Class → Class → Bool
is_same None class = false
is_same (Some c) class = same_class c class

-- the map of an interface, in this class or the nearest above that lists it
abbrev pub map_in : Loaded → (part : ℕ) → List ImplementedInterface → (interface : Class) → (above : Option (List ℕ))
    → Option (List ℕ)
map_in l part [] interface above = above
map_in l part (m ∷ maps) interface above =
    if is_same (class_of l part m.interface) interface then Some m.index else map_in l part maps interface above

-- upwards from a class
abbrev pub map_of : Loaded → Tower → (interface : Class) → Option (List ℕ)
map_of l Missing interface = None
map_of l (Exported classes) interface = None
map_of l (Table part c above) interface = map_in l part c.interfaces interface (map_of l above interface)

-- the virtual method of a token that is there
abbrev pub at_index : Tower → Option ℕ → Selection
at_index t None = NotFound
at_index t (Some token) = dispatched_open t token

-- a method of an interface by its token there, as a map gives it
abbrev pub at_map : Tower → Option (List ℕ) → (token : ℕ) → Selection
at_map t None token = NotFound
at_map t (Some index) token = at_index t (slice_get index token)

-- an interface's method by its name
abbrev pub named_in : (class : List ℕ) → Option MethodName → Selection
named_in class None = NotFound
named_in class (Some m) = Outward (record { class = class; name = m.name; desc = m.desc })

-- the method of an interface of the group
abbrev pub of_names : Option ClassNames → (token : ℕ) → Selection
of_names None token = NotFound
of_names (Some c) token = named_in c.name (slice_get c.interface_methods token)

-- the method of an imported interface
abbrev pub of_file : Option ExportClass → (token : ℕ) → Selection
of_file None token = NotFound
of_file (Some c) token = outward c.name (virtual_method token c) NotFound

-- the method of an interface itself, which an object of an imported class is asked for
abbrev pub interface_method : Loaded → (interface : Class) → (token : ℕ) → Selection
interface_method l (External tree number) token = of_file (external l tree number) token
interface_method l (Own p offset) token = of_names (names_of l p offset) token

-- A method of an interface on an object of a class.
abbrev pub dispatched_interface : Loaded → Option Class → (interface : Class) → (token : ℕ) → Selection
dispatched_interface l None interface token = NotFound
dispatched_interface l (Some (External tree number)) interface token = interface_method l interface token
dispatched_interface l (Some (Own p offset)) interface token =
    let t = tower l (Own p offset) in at_map t (map_of l t interface) token
