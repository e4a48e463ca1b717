-- How added methods are found by tables.
use Rattle.std.specs.Prelude.{◌≡◌, ℕ, zero, suc, ◌+◌, ◌==◌, List, [], ◌∷◌, ◌++◌, slice_get, Bool, false, ◌&&◌, ◌||◌}
use Rattle.std.specs.Prelude.{if◌then◌else◌, Option, Some, None, option_to_list, codes}
use Rattle.std.specs.List.{list_any, find}
use Rattle.std.specs.Str.{bytes_eq}
use Rattle.cjc_bytes.specs.declared.fault.MemberId.{MemberId}
use Rattle.cjc_world.specs.declared.tables.Above.{Above}
use Rattle.cjc_world.specs.declared.tables.Order.TheVariants as orders
use Rattle.cjc_world.specs.Classes.{Member, Class}
use Rattle.cjc_world.specs.Working.Tables.{row_at}
use Rattle.cjc_world.specs.Added.{takes_added, declares_open, own_methods, is_one_of}

-- the method, unless it is <clinit>
abbrev pub unless_initialiser : Option Member → Option Member
unless_initialiser None = None
unless_initialiser (Some m) = if bytes_eq m.name (codes "<clinit>") then None else Some m

-- the method at a position: of an export file the one with that token
unfoldable pub positioned : Class → ℕ → Option Member
positioned c k = if c.is_imported then find (λ m. m.token == k) c.methods else slice_get c.methods k

-- the method at a position; <clinit> is none that another class has
abbrev pub asked : Class → ℕ → Option Member
asked c k = unless_initialiser (positioned c k)

-- the name and the descriptor of a method that is there
abbrev pub IsNamed : Option Member → List ℕ → List ℕ → Type 0
IsNamed None name desc = ⊥
IsNamed (Some m) name desc = (m.name ≡ name) × (m.desc ≡ desc)

-- so many from one on
unfoldable pub asked_from : Class → (position count : ℕ) → List Member
asked_from c k zero = []
asked_from c k (suc n) = option_to_list (asked c k) ++ asked_from c (k + 1) n

-- there is a class, and it has such a method of its own, as an interface
abbrev pub is_asked_of : List ℕ → List ℕ → Option Class → Bool
is_asked_of name desc None = false
is_asked_of name desc (Some c) = is_one_of (own_methods c) name desc

-- whether the class at a place has such a method of its own, as an interface
abbrev pub is_asked_at : List Class → List ℕ → List ℕ → ℕ → Bool
is_asked_at w name desc p = is_asked_of name desc (slice_get w p)

-- there is a class, and it declares such a method that is open, or gets it by the interfaces of its row
abbrev pub is_open_of : List Class → List (Option Above) → List ℕ → List ℕ → ℕ → Option Class → Bool
is_open_of w rows name desc p None = false
is_open_of w rows name desc p (Some c) =
    declares_open name desc c || (takes_added c && list_any (λ q. is_asked_at w name desc q) (row_at orders.Interfaces
    (slice_get rows p)))

-- whether the class at a place declares such a method that is open, or gets it
abbrev pub is_open_at : List Class → List (Option Above) → List ℕ → List ℕ → ℕ → Bool
is_open_at w rows name desc p = is_open_of w rows name desc p (slice_get w p)

-- whether a class has such a method, or one of the classes at the places of its line above
unfoldable pub is_had : List Class → List (Option Above) → Class → List ℕ → List ℕ → List ℕ → Bool
is_had w rows c line name desc = declares_open name desc c || list_any (λ p. is_open_at w rows name desc p) line

-- whether one of the methods has the name and the descriptor
abbrev pub has_id : List MemberId → List ℕ → List ℕ → Bool
has_id ids name desc = list_any (λ i. bytes_eq i.name name && bytes_eq i.desc desc) ids

-- what was got, and one more method where a class neither has nor got it
unfoldable pub got_one : (List ℕ → List ℕ → Bool) → (class : List ℕ) → List MemberId → (name desc : List ℕ)
    → List MemberId
got_one is_there class ids name desc = if is_there name desc || has_id ids name desc then ids else ids
    ++ record { class = class; name = name; desc = desc } ∷ []

-- what was got, and of these methods each that a class neither has nor got
unfoldable pub got : (List ℕ → List ℕ → Bool) → (class : List ℕ) → List MemberId → List Member → List MemberId
got is_there class ids [] = ids
got is_there class ids (m ∷ ms) = got is_there class (got_one is_there class ids m.name m.desc) ms

-- the own methods of the class at a place, and of those at many
abbrev pub methods_of_option : Option Class → List Member
methods_of_option None = []
methods_of_option (Some c) = own_methods c

-- the same of the own methods of the interfaces at these places, one interface after the other
unfoldable pub got_all : List Class → (List ℕ → List ℕ → Bool) → (class : List ℕ) → List MemberId → List ℕ
    → List MemberId
got_all w is_there class ids [] = ids
got_all w is_there class ids (p ∷ ps) =
    got_all w is_there class (got is_there class ids (methods_of_option (slice_get w p))) ps
