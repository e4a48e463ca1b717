-- The class tables that a package is to have, and its maps of interfaces: bases, entries, and a method for each
-- token.
use Rattle.std.specs.Prelude.{ℕ, List, [], ◌∷◌, ◌++◌, map, drop, Bool, false, not, ◌&&◌, ◌==◌, Option, Some, None}
use Rattle.std.specs.Prelude.{if◌then◌else◌, option_to_list}
use Rattle.std.specs.List.{position_or_len}
use Rattle.cjc_world.specs.declared.found.Found.{Found}
use Rattle.cjc_world.specs.Classes.{Class}
use Rattle.cjc_world.specs.Interfaces.{known}
use Rattle.cjc_world.specs.Order.{in_order}
use Rattle.cjc_tokens.specs.Lines.{Line, line_at}
use Rattle.cjc_tokens.specs.Members.{Signature}
use Rattle.cjc_tokens.specs.Slots.{shown_token, row, hidden_row}
use Rattle.cjc_tokens.specs.Methods.{interfaces_at, interface_methods}
use Rattle.cjc_vtable.specs.declared.table.ClassTable.{ClassTable}
use Rattle.cjc_vtable.specs.declared.table.InterfaceMap.{InterfaceMap}

-- whether a token means a method that this class of the package declares or got
abbrev pub is_own : ℕ → Option Found → Bool
is_own class None = false
is_own class (Some f) = not f.imported && (f.class == class)

-- The least token that the class declares, overrides or got, or the next free one.
abbrev pub base : (class : ℕ) → List (Option Found) → ℕ
base class row = position_or_len (is_own class) row

-- an entry that is imported is None
abbrev pub of_package : Option Found → Option Found
of_package None = None
of_package (Some f) = if f.imported then None else Some f

abbrev pub entries : (class : ℕ) → List (Option Found) → List (Option Found)
entries class row = map of_package (drop (base class row) row)

-- the methods of a list that has one at each place
abbrev pub methods : List (Option Found) → List Found
methods [] = []
methods (o ∷ os) = option_to_list o ++ methods os

-- A method of an interface that has no token in the class has 0. Where the class has a method for each of its
-- interfaces' methods, and export files do not contradict one another, there is none.
abbrev pub or_zero : Option ℕ → ℕ
or_zero None = 0
or_zero (Some t) = t

-- the map of an interface, where the class has these tokens
abbrev pub interface_map : List Class → (Signature → Option ℕ) → Class → InterfaceMap
interface_map w shown i = record { interface = i.name; index = map (λ s. or_zero (shown s)) (interface_methods w i) }

-- the tables of the first class of a line
abbrev pub table_in : List Class → Line → Class → ClassTable
table_in w line c = record {
  class = c.number;
  public_base = base c.number (row line);
  public = entries c.number (row line);
  package_base = base c.number (hidden_row line);
  «package» = methods (entries c.number (hidden_row line));
  maps = map (interface_map w (shown_token line)) (known (interfaces_at w c));
}

abbrev pub table_of : List Class → Class → ClassTable
table_of w c = table_in w (line_at w c) c

-- the classes of the package that are no interfaces, in the order of Class
unfoldable pub class_tables : List Class → List ClassTable
class_tables w = map (table_of w) (in_order w false)
