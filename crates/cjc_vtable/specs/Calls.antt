-- Which call reaches the same method by token and by name, and what that rests on, along one line of classes.
use Rattle.std.specs.Prelude.{◌≡◌, ℕ, List, [], ◌++◌, Bool, true, false, not, ◌&&◌, ◌||◌, Option, Some, None, map}
use Rattle.cjc_world.specs.declared.found.Found.{Found}
use Rattle.cjc_world.specs.Classes.{Member, Class}
use Rattle.cjc_world.specs.Bytes.AccessFlags.{is_private}
use Rattle.cjc_world.specs.Lookup.{or_else, first, is_selectable}
use Rattle.cjc_tokens.specs.Members.{Signature, signature_of, has, signatures, is_exposed, is_constructor}
use Rattle.cjc_tokens.specs.Members.{is_initialiser, is_virtual, is_shown, is_hidden, all_methods, In, chosen}
use Rattle.cjc_tokens.specs.Lines.{Line, Nowhere, Imported, Declared}
use Rattle.cjc_tokens.specs.Slots.{slots, has_slot, own}

-- a constructor or an initialiser
abbrev pub is_special : Signature → Bool
is_special s = is_constructor s.name || is_initialiser s.name

-- Selection passes over private and static methods.
abbrev pub selects : Member → Bool
selects m = is_selectable m.flags

abbrev pub any_method : Member → Bool
any_method m = true

abbrev pub passes : (Member → Bool) → Option Member → Bool → Bool
passes test None above = above
passes test (Some m) above = test m

-- ---- by name

-- selection from the first class of the line
abbrev pub selected_in : Line → Signature → Option Found
selected_in Nowhere s = None
selected_in (Imported classes) s = first (own selects s) classes
selected_in (Declared c given above) s = or_else (own selects s c) (selected_in above s)

-- Whether selection gives a public or protected virtual method; an imported class has one of the signature.
abbrev pub selects_shown : Line → Signature → Bool
selects_shown Nowhere s = false
selects_shown (Imported classes) s = has (signatures is_shown (all_methods classes)) s
selects_shown (Declared c given above) s = passes is_shown (chosen selects s c.methods) (selects_shown above s)

-- whether it gives a package-visible method of the package
abbrev pub selects_hidden : Line → Signature → Bool
selects_hidden Nowhere s = false
selects_hidden (Imported classes) s = false
selects_hidden (Declared c given above) s = passes is_hidden (chosen selects s c.methods) (selects_hidden above s)

-- Whether the first method of the signature going upwards, of any kind, is a public or protected virtual one.
abbrev pub finds_shown : Line → Signature → Bool
finds_shown Nowhere s = false
finds_shown (Imported classes) s = passes is_shown (chosen any_method s (all_methods classes)) false
finds_shown (Declared c given above) s = passes is_shown (chosen any_method s c.methods) (finds_shown above s)

-- whether it is a package-visible one of the package
abbrev pub finds_hidden : Line → Signature → Bool
finds_hidden Nowhere s = false
finds_hidden (Imported classes) s = false
finds_hidden (Declared c given above) s = passes is_hidden (chosen any_method s c.methods) (finds_hidden above s)

-- ---- what calls rest on

-- Among these one name and descriptor has one virtual token, and one virtual token has one name and descriptor.
abbrev pub IsOneToOne : List Member → Type 0
IsOneToOne ms = (m n : Member) → In m ms → In n ms → is_virtual m ≡ true → is_virtual n ≡ true
    → (m.token ≡ n.token → signature_of m ≡ signature_of n) × (signature_of m ≡ signature_of n → m.token ≡ n.token)

-- The imported classes of the line don't contradict one another.
abbrev pub IsTold : Line → Type 0
IsTold Nowhere = Unit {0}
IsTold (Imported classes) = IsOneToOne (all_methods classes)
IsTold (Declared c given above) = IsTold above

-- A class is of the package, and no method is added to it that has a slot already.
abbrev pub IsProper : Line → Type 0
IsProper Nowhere = Unit {0}
IsProper (Imported classes) = Unit {0}
IsProper (Declared c given above) = (c.is_imported ≡ false) × ((s : Signature) → has_slot (slots above) s ≡ true
    → has (map signature_of given) s ≡ false) × IsProper above

-- all methods of the classes of a line
abbrev pub methods_of_line : Line → List Member
methods_of_line Nowhere = []
methods_of_line (Imported classes) = all_methods classes
methods_of_line (Declared c given above) = c.methods ++ methods_of_line above

-- neither public nor protected nor private
abbrev pub is_package_visible : ℕ → Bool
is_package_visible flags = not (is_exposed flags) && not (is_private flags)

-- Of a method and an inherited one, one is package-visible and the other public or protected.
abbrev pub is_clash : (mine inherited : ℕ) → Bool
is_clash mine inherited = (is_package_visible mine && is_exposed inherited)
    || (is_exposed mine && is_package_visible inherited)

-- No class of the line has a method that clashes with one of its superclasses.
abbrev pub KeepsAccess : Line → Type 0
KeepsAccess Nowhere = Unit {0}
KeepsAccess (Imported classes) = Unit {0}
KeepsAccess (Declared c given above) =
    ((m n : Member) → In m c.methods → In n (methods_of_line above) → signature_of m ≡ signature_of n
    → is_special (signature_of m) ≡ false → is_clash m.flags n.flags ≡ false)
    × KeepsAccess above

-- all methods of the imported classes of a line
abbrev pub imported_methods : Line → List Member
imported_methods Nowhere = []
imported_methods (Imported classes) = all_methods classes
imported_methods (Declared c given above) = imported_methods above

-- No class of the line has a package-visible method where an imported superclass has one.
abbrev pub KeepsImported : Line → Type 0
KeepsImported Nowhere = Unit {0}
KeepsImported (Imported classes) = Unit {0}
KeepsImported (Declared c given above) =
    ((m n : Member) → In m c.methods → In n (imported_methods above) → signature_of m ≡ signature_of n
    → is_special (signature_of m) ≡ false → (is_package_visible m.flags && is_package_visible n.flags) ≡ false)
    × KeepsImported above

-- the second line is the first, or begins at a superclass of it
pub data Climbs : Line → Line → Type 0 where
  here : {l : Line} → Climbs l l
  over : {cs ds : List Class} → ((m : Member) → In m (all_methods ds) → In m (all_methods cs))
      → Climbs (Imported cs) (Imported ds)
  up : {c : Class} {given : List Member} {l d : Line} → Climbs l d → Climbs (Declared c given l) d
