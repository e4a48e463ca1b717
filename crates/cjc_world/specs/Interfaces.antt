-- The interfaces of a class, in order.
use Rattle.std.specs.Prelude.{ℕ, List, [], ◌∷◌, ◌++◌, Bool, true, false, ◌||◌, if◌then◌else◌, Option, Some, None}
use Rattle.std.specs.Prelude.{option_to_list}
use Rattle.std.specs.Str.{bytes_eq}
use Rattle.cjc_world.specs.Classes.{Class}
use Rattle.cjc_world.specs.Supertypes.{Supertypes, End, Unknown, Known, supertypes, is_one_named}

-- an interface by its name, with its class where some file has it
pub record Interface : Type 0 where
  pub name : List ℕ
  pub class : Option Class

-- the interface where it is a listed one, else nothing
abbrev pub where_listed : Bool → Interface → List Interface
where_listed true i = i ∷ []
where_listed false i = []

-- The interfaces of some classes in turn: those of its supers, then each listed one preceded by its superinterfaces.
-- Where the classes are listed interfaces themselves, each follows its own. One that is reached twice stands twice.
unfoldable pub gathered : (listed : Bool) → Supertypes → List Interface
gathered listed End = []
gathered listed (Unknown name next) = where_listed listed (record { name = name; class = None }) ++ gathered listed next
gathered listed (Known c supers interfaces next) =
    gathered false supers ++ gathered true interfaces ++ where_listed listed (record { name = c.name; class = Some c })
    ++ gathered listed next

-- whether one of the interfaces has the name
abbrev pub is_among : List Interface → List ℕ → Bool
is_among [] name = false
is_among (i ∷ is) name = bytes_eq i.name name || is_among is name

-- each name once, where it stands first
abbrev pub each_once : List Interface → List Interface → List Interface
each_once known [] = []
each_once known (i ∷ is) = if is_among known i.name then each_once known is else i ∷ each_once (known ++ i ∷ []) is

-- The interfaces of the class of a name: its supers', then each listed one preceded by its superinterfaces, each once.
unfoldable pub interfaces_of : List Class → List ℕ → List Interface
interfaces_of w name = each_once [] (gathered false (supertypes w (name ∷ [])))

-- those of them that some file has
unfoldable pub known : List Interface → List Class
known [] = []
known (i ∷ is) = option_to_list i.class ++ known is

-- whether some file has the second name, and its class is one of the interfaces of the class of the first
unfoldable pub has_interface : List Class → (class interface : List ℕ) → Bool
has_interface w class interface = is_one_named (known (gathered false (supertypes w (class ∷ [])))) interface
