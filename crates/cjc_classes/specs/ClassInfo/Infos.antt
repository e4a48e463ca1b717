-- How many bytes infos of Class have, and where they stand (Java Card Virtual Machine Specification 2.2.2, section
-- 6.8).
use Rattle.std.specs.Prelude.{ℕ, ◌+◌, ◌*◌, List, [], ◌∷◌, length, sum_by, Bool, false, if◌then◌else◌, Option, Some}
use Rattle.std.specs.Prelude.{None}
use Rattle.std.specs.Str.{bytes_eq}
use Rattle.cjc_world.specs.ClassFile.declared.tree.ClassTree.{ClassTree}
use Rattle.cjc_world.specs.Classes.{Class}
use Rattle.cjc_components.specs.LowerVTable.declared.table.ClassTable.{ClassTable}
use Rattle.cjc_components.specs.LowerVTable.declared.table.InterfaceMap.{InterfaceMap}
use Rattle.cjc_components.specs.Class.{interfaces_of}
use Rattle.cjc_components.specs.LowerClassOrder.Classes.Numbers.{declared_at}

-- an interface: flags with a count, and its superinterfaces
abbrev pub interface_bytes : List Class → Class → ℕ
interface_bytes w i = 1 + 2 * length (interfaces_of w i)

-- an interface that a class implements: the interface, and the indices behind their number
abbrev pub map_bytes : InterfaceMap → ℕ
map_bytes m = 3 + length m.index

-- a class by its tables
abbrev pub table_bytes : ClassTable → ℕ
table_bytes t = 10 + 2 * length t.public + 2 * length t.«package» + sum_by map_bytes t.maps

-- of the interface of a number, if any
abbrev pub bytes_of : List Class → Option Class → ℕ
bytes_of w None = 0
bytes_of w (Some i) = interface_bytes w i

-- the bytes in Class of the interface of a number; 0 where there is none
abbrev pub bytes_at : List Class → List ClassTree → (number : ℕ) → ℕ
bytes_at w trees n = bytes_of w (declared_at trees n)

-- the class of a number has the name
abbrev pub is_named : Option Class → (name : List ℕ) → Bool
is_named None name = false
is_named (Some c) name = bytes_eq c.name name

-- there is a class of this number, and it has the name
abbrev pub number_named : List ClassTree → (number : ℕ) → (name : List ℕ) → Bool
number_named trees n name = is_named (declared_at trees n) name

-- the class of a table has it
abbrev pub table_named : List ClassTree → ClassTable → (name : List ℕ) → Bool
table_named trees t name = is_named (declared_at trees t.class) name

-- where the first item of a name begins among items of these sizes, the first of which begins at an offset
unfoldable pub spot_in : {A : Type 0} → (named : A → List ℕ → Bool) → (size : A → ℕ) → (at : ℕ) → List A
    → (name : List ℕ) → Option ℕ
spot_in named size at [] name = None
spot_in named size at (x ∷ xs) name = if named x name then Some at else spot_in named size (at + size x) xs name

-- where the last ends
unfoldable pub end_of : {A : Type 0} → (size : A → ℕ) → (at : ℕ) → List A → ℕ
end_of size at [] = at
end_of size at (x ∷ xs) = end_of size (at + size x) xs
