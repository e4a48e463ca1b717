-- What the code holds of a line while it assigns tokens.
use Rattle.std.specs.Prelude.{◌≡◌, ℕ, zero, suc, List, [], ◌∷◌, ◌++◌, map, slice_get, nat_lt, count_by, Bool, true}
use Rattle.std.specs.Prelude.{position}
use Rattle.std.specs.Prelude.{false, not, ◌&&◌, ◌||◌, Option, Some, None, option_map, Result, Ok, Err, if◌then◌else◌}
use Rattle.std.specs.HashMap.{get_by}
use Rattle.std.specs.List.{list_any}
use Rattle.cjc_bytes.specs.declared.fault.MemberId.{MemberId}
use Rattle.cjc_world.specs.ClassFile.declared.tree.ClassTree.{ClassTree}
use Rattle.cjc_world.specs.declared.found.Found.{Found}
use Rattle.cjc_world.specs.Files.{Files}
use Rattle.cjc_bytes.specs.Breaks.{IsFirst}
use Rattle.cjc_world.specs.Classes.{Member, Class, all_classes, declared, method_of_class}
use Rattle.cjc_world.specs.Supertypes.{Supertypes, supertypes}
use Rattle.cjc_world.specs.Interfaces.{gathered, known}
use Rattle.cjc_world.specs.Added.{methods_of}
use Rattle.cjc_world.specs.Lookup.{is_called, or_else}
use Rattle.cjc_tokens.specs.declared.slot.Slot.{Slot}
use Rattle.cjc_tokens.specs.declared.slot.Rows.{Rows}
use Rattle.cjc_tokens.specs.declared.indexed.Places.{Places}
use Rattle.cjc_tokens.specs.declared.told.Shown.{Shown}
pub use Rattle.cjc_tokens.specs.SlotRows.{place_under, signature_in, signs}
use Rattle.cjc_tokens.specs.declared.told.Told.{Told}
use Rattle.cjc_tokens.specs.Members.{Signature, signature_of, same, is_exposed, is_virtual_by, is_shown, is_virtual}
use Rattle.cjc_tokens.specs.Members.{is_initialiser}
use Rattle.cjc_tokens.specs.Lines.{Line, line_at}
use Rattle.cjc_tokens.specs.Slots.{Slots, slots, hidden_slots, row, hidden_row, meant_by, own, got, new_in, with_new}
use Rattle.cjc_tokens.specs.Slots.{first_answer, is_of_package, listed_token, nearer, token, token_among, told_in}
use Rattle.cjc_tokens.specs.Slots.{with_all_taken}
use Rattle.cjc_tokens.specs.Fields.{is_open_static}
use Rattle.cjc_tokens.specs.Methods.{is_open_bound, virtual_token}
use Rattle.cjc_world.specs.Exported.{is_exported}
use Rattle.cjc_tokens.specs.Tokens.{OfClass, classes_from, of_class}
use Rattle.cjc_tokens.specs.Rules.{at_class, has_high_token, is_above, token_breaks}
use Rattle.cjc_bytes.specs.Order.{file_of}

-- the method that a slot means, none of a token that no method has
abbrev pub meant : Option Slot → Option Found
meant None = None
meant (Some s) = s.method

-- the methods that it means
abbrev pub methods_in : List (Option Slot) → List (Option Found)
methods_in row = map meant row

-- Each slot means what this says of its signature.
abbrev pub AreMeant : (Signature → Option Found) → List (Option Slot) → Type 0
AreMeant implements row = methods_in row ≡ map (meant_by implements) (signs row)

-- package-visible methods, or public and protected ones
abbrev pub is_kind : (hidden : Bool) → (flags : ℕ) → (name : List ℕ) → Bool
is_kind true flags name = not (is_exposed flags) && is_virtual_by flags name
is_kind false flags name = is_exposed flags && is_virtual_by flags name

-- the same of a method of a class
abbrev pub is_of_kind : (hidden : Bool) → Member → Bool
is_of_kind hidden m = is_kind hidden m.flags m.name

-- an added method, as a member
abbrev pub member_of : MemberId → Member
member_of m = record { flags = 0; name = m.name; desc = m.desc; token = 0 }

-- the method of the nearest class, where this one is the superclass's; no package-visible one is added
abbrev pub nearest : Class → (added : List Member) → (hidden : Bool) → Signature → Option Found → Option Found
nearest c added true s above = or_else (own (is_of_kind true) s c) above
nearest c added false s above = or_else (own (is_of_kind false) s c) (or_else (got added s c) above)

-- the method of the nearest class for a slot of the superclass
abbrev pub nearest_slot : Class → (added : List Member) → (hidden : Bool) → Option Slot → Option Found
nearest_slot c added hidden None = None
nearest_slot c added hidden (Some s) = nearest c added hidden (signature_in s) s.method

-- The slots are the same, and each means the method of the nearest class.
pub record Renewed (c : Class) (added : List Member) (hidden : Bool) (above row : List (Option Slot)) : Type 0 where
  pub slots : signs row ≡ signs above
  pub methods : methods_in row ≡ map (nearest_slot c added hidden) above

-- A slot was put at the end for each signature that had none, with the method that this says.
pub record Offered (ss : List Signature) (method : Signature → Option Found) (old new : List (Option Slot)) :
    Type 0 where
  pub slots : signs new ≡ with_new (signs old) ss
  pub methods : methods_in new ≡ methods_in old ++ map method (new_in (signs old) ss)

-- The signatures took the slots of the tokens that are listed for them, where these are the superclass's methods; each
-- slot still means what this says of its signature.
pub record Taken (listed : Signature → Option ℕ) (above : List (Option Found)) (ss : List Signature)
    (implements : Signature → Option Found) (old new : List (Option Slot)) : Type 0 where
  pub slots : signs new ≡ with_all_taken listed above ss (signs old)
  pub methods : AreMeant implements old → AreMeant implements new

-- the token that the nearest of these classes lists
abbrev pub told_among : List Class → Signature → Option ℕ
told_among classes s = first_answer (told_in s) classes

-- the token that is noted for a signature
abbrev pub token_under : Told → Signature → Option ℕ
token_under t s = get_by (λ k. same s k) t.tokens

-- The tokens that are noted are those that the line lists.
abbrev pub IsToldOf : Line → Told → Type 0
IsToldOf line t = (s : Signature) → token_under t s ≡ listed_token line s

-- Of each signature the place of the first method of the kind is noted.
abbrev pub AreOwn : (hidden : Bool) → Places → List Member → Type 0
AreOwn hidden p ms = (s : Signature) → place_under p s ≡ position
    (λ m. is_of_kind hidden m && is_called s.name s.desc m) ms

-- the token where the first slot of the signature has this place, and the line has this method of it
abbrev pub token_with : (listed : Option ℕ) → Slots → (method : Option Found) → Signature → (place : Option ℕ) →
    Option ℕ
token_with listed slots method s None = listed
token_with listed slots method s (Some place) = if is_of_package (Some method) then Some (nearer listed slots s place)
    else listed

-- the token of a signature, from what is listed for it, the slots and the method that the line has of it
abbrev pub token_meant : (listed : Option ℕ) → Slots → (method : Option Found) → Signature → Option ℕ
token_meant listed slots method s = token_with listed slots method s (token slots s)

-- the token of a signature, from the slots of a class, the methods there and what is listed
abbrev pub slot_token : Shown → Signature → Option ℕ
slot_token t s = token_among (token_under t.told.now s) (signs t.row) t.methods.now s

-- The rows are those of the line.
pub record AreRowsOf (line : Line) (r : Rows) : Type 0 where
  pub shown_slots : signs r.shown.items ≡ slots line
  pub shown_methods : methods_in r.shown.items ≡ row line
  pub hidden_slots_are : signs r.hidden.items ≡ hidden_slots line
  pub hidden_methods : methods_in r.hidden.items ≡ hidden_row line

-- They have the same slots.
pub record SameRows (r s : Rows) : Type 0 where
  pub shown : s.shown.items ≡ r.shown.items
  pub hidden : s.hidden.items ≡ r.hidden.items

-- Where a class has rows, they are those of its line.
abbrev pub IsKept : List Class → List ClassTree → List (Option Rows) → Type 0
IsKept w trees kept = (n : ℕ) (c : ClassTree) (r : Rows) → slice_get trees n ≡ Some c → slice_get kept n ≡ Some (Some r)
    → AreRowsOf (line_at w (declared n c)) r

-- ---- an imported class, the nearest first

-- the second where the first has none
abbrev pub overlay : Slots → Slots → Slots
overlay [] b = b
overlay (s ∷ a) [] = s ∷ a
overlay (None ∷ a) (t ∷ b) = t ∷ overlay a b
overlay (Some s ∷ a) (t ∷ b) = Some s ∷ overlay a b

-- one token alone
abbrev pub alone : ℕ → Option Signature → Slots
alone zero slot = slot ∷ []
alone (suc t) slot = None ∷ alone t slot

-- what a method lists
abbrev pub one : Member → Slots
one m = if is_shown m then alone m.token (Some (signature_of m)) else if is_virtual m then alone m.token None else []

-- a method of an interface; an initialiser is none
abbrev pub listed_method : (name desc : List ℕ) → List Signature
listed_method name desc = if is_initialiser name then [] else record { name = name; desc = desc } ∷ []

-- the methods of the interfaces of some classes
abbrev pub asked : (listed : Bool) → Supertypes → List Signature
asked listed k = map signature_of (methods_of (known (gathered listed k)))

-- what stands before its own: an export file lists all
abbrev pub above_where : List Class → Class → List Signature
above_where w c = if c.is_imported then [] else asked false (supertypes w c.supers)
    ++ asked true (supertypes w c.interfaces)

-- whether a class that is no interface breaks 413, from its tokens
abbrev pub is_high_class : (exported : Bool) → (shown : Signature → Option ℕ) (hidden : Slots) → ClassTree
    → (added : List MemberId) → Bool
is_high_class exported shown hidden c added =
    ((list_any (λ m. is_above 127 (virtual_token shown hidden (method_of_class m))) c.methods
    || list_any (λ m. is_above 127 (shown (signature_of (member_of m)))) added)
    || (exported && nat_lt 255 (count_by is_open_bound (map method_of_class c.methods))))
    || (exported && nat_lt 255 (count_by is_open_static c.fields))

-- whether an interface does, from its methods
abbrev pub is_high_interface : (exported : Bool) → (methods : ℕ) → ClassTree → Bool
is_high_interface exported methods c = nat_lt 128 methods || (exported && nat_lt 255 (count_by is_open_static c.fields))

-- None where the class breaks 413, else its tokens.
abbrev pub AreTokensOf : List Class → (applets : Bool) → (exported_before number : ℕ) → ClassTree → Option OfClass
    → Type 0
AreTokensOf w applets before n c None = has_high_token w (is_exported w applets (declared n c)) n c ≡ true
AreTokensOf w applets before n c (Some t) = (has_high_token w (is_exported w applets (declared n c)) n c ≡ false)
    × (t ≡ of_class w applets before n c)

-- The tokens of all classes of the package where none breaks 413, else the number of the first that does.
abbrev pub AreAllTokens : (applets : Bool) → Files → Result (List OfClass) ℕ → Type 0
AreAllTokens applets files (Ok rows) = (token_breaks applets files ≡ [])
    × (rows ≡ classes_from (all_classes files) applets 0 0 files.classes)
AreAllTokens applets files (Err n) = (c : ClassTree) × (slice_get files.classes n ≡ Some c)
    × IsFirst (at_class (file_of files.lines n) c.name) (token_breaks applets files)
