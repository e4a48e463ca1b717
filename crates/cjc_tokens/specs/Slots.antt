-- Tokens of virtual methods (Java Card Virtual Machine Specification 2.2.2, section 4.3.7.6). A class has a list of
-- slots; the token of a method is the place of its slot. Export files may contradict one another: then a method that
-- overrides takes the slot of the token that the nearest superclass lists for it.
use Rattle.std.specs.Prelude.{ℕ, zero, suc, ◌+◌, List, [], ◌∷◌, ◌++◌, map, length, position, set, slice_get, Bool}
use Rattle.std.specs.Prelude.{false, not, ◌||◌, ◌&&◌, Option, Some, None, if◌then◌else◌, option_map}
use Rattle.cjc_world.specs.declared.found.Found.{Found}
use Rattle.cjc_world.specs.Classes.{Member, Class}
use Rattle.cjc_world.specs.Lookup.{or_else, first, is_called, member_at}
use Rattle.cjc_tokens.specs.Members.{Signature, signature_of, same, signatures, is_shown, is_hidden, is_virtual}
use Rattle.cjc_tokens.specs.Members.{all_methods}
use Rattle.cjc_tokens.specs.Lines.{Line, Nowhere, Imported, Declared}

-- Slots, by token. A token that no method of a class has is None.
abbrev pub Slots : Type 0
Slots = List (Option Signature)

-- whether the slot is of this signature
abbrev pub holds : Option Signature → Signature → Bool
holds None s = false
holds (Some t) s = same t s

-- whether some slot is of this signature
abbrev pub has_slot : Slots → Signature → Bool
has_slot [] s = false
has_slot (slot ∷ slots) s = holds slot s || has_slot slots s

-- the signatures that have no slot yet, each once
abbrev pub new_in : Slots → List Signature → List Signature
new_in slots [] = []
new_in slots (s ∷ ss) = if has_slot slots s then new_in slots ss else s ∷ new_in (slots ++ Some s ∷ []) ss

-- a slot at the end for each signature that has none yet
abbrev pub with_new : Slots → List Signature → Slots
with_new slots ss = slots ++ map Some (new_in slots ss)

-- the slot of one token written
abbrev pub put : ℕ → Signature → Slots → Slots
put zero s [] = Some s ∷ []
put zero s (slot ∷ slots) = Some s ∷ slots
put (suc t) s [] = None ∷ put t s []
put (suc t) s (slot ∷ slots) = slot ∷ put t s slots

-- a token that is used, whoever has it
abbrev pub reserve : ℕ → Slots → Slots
reserve zero [] = None ∷ []
reserve zero (slot ∷ slots) = slot ∷ slots
reserve (suc t) [] = None ∷ reserve t []
reserve (suc t) (slot ∷ slots) = slot ∷ reserve t slots

-- what a method of an export file does to the slots: a package-visible one only uses up its token
abbrev pub listed : Member → Slots → Slots
listed m slots = if is_shown m then put m.token (signature_of m) slots else if is_virtual m then reserve m.token slots
    else slots

-- What an imported class and its supers list, the nearest last. A package-visible method uses up its token and is
-- overridden by nothing.
abbrev pub listed_slots : List Member → Slots
listed_slots [] = []
listed_slots (m ∷ ms) = listed m (listed_slots ms)

-- ---- the method that a token means

-- a class's own method that passes the test
unfoldable pub own : (Member → Bool) → Signature → Class → Option Found
own test s c = option_map (λ i. member_at c (length c.fields + i)) (position (λ m. test m && is_called s.name s.desc m)
    c.methods)

-- one that is added to it: these are counted behind its own
unfoldable pub got : List Member → Signature → Class → Option Found
got given s c = option_map (λ i. member_at c (length c.fields + length c.methods + i))
    (position (λ m. is_called s.name s.desc m) given)

-- the method of the nearest class that declares a public or protected one of this signature, or got it
abbrev pub implementing : Line → Signature → Option Found
implementing Nowhere s = None
implementing (Imported classes) s = first (own is_virtual s) classes
implementing (Declared c given above) s = or_else (own is_shown s c) (or_else (got given s c) (implementing above s))

-- of a slot
abbrev pub meant_by : (Signature → Option Found) → Option Signature → Option Found
meant_by implements None = None
meant_by implements (Some s) = implements s

-- whether a place of a row has a method of a class of the package
abbrev pub is_of_package : Option (Option Found) → Bool
is_of_package None = false
is_of_package (Some None) = false
is_of_package (Some (Some f)) = not f.imported

-- ---- the token that export files list

-- the first, or the second where that is none
abbrev pub or_next : {B : Type 0} → Option B → Option B → Option B
or_next None second = second
or_next (Some b) second = Some b

-- what the first answers that has an answer
unfoldable pub first_answer : {A B : Type 0} → (A → Option B) → List A → Option B
first_answer f [] = None
first_answer f (x ∷ xs) = or_next (f x) (first_answer f xs)

-- the token of a public or protected virtual method of the signature
abbrev pub told_by : Signature → Member → Option ℕ
told_by s m = if is_shown m && is_called s.name s.desc m then Some m.token else None

-- the token that the export file of a class lists for the signature
abbrev pub told_in : Signature → Class → Option ℕ
told_in s c = if c.is_imported then first_answer (told_by s) c.methods else None

-- the token that the nearest class of a line lists for the signature
abbrev pub listed_token : Line → Signature → Option ℕ
listed_token Nowhere s = None
listed_token (Imported classes) s = first_answer (told_in s) classes
listed_token (Declared c given above) s = listed_token above s

-- ---- the slots of a class

-- A method takes the slot of the token that is listed for it, unless a class of the package has the method there.
abbrev pub with_taken : Option ℕ → List (Option Found) → Signature → Slots → Slots
with_taken None methods s slots = slots
with_taken (Some t) methods s slots = if is_of_package (slice_get methods t) then slots else set slots t (Some s)

-- Methods take the slots of their listed tokens in turn: of two with one token the last one has it.
abbrev pub with_all_taken : (Signature → Option ℕ) → List (Option Found) → List Signature → Slots → Slots
with_all_taken listed methods [] slots = slots
with_all_taken listed methods (s ∷ ss) slots = with_all_taken listed methods ss (with_taken (listed s) methods s slots)

-- the superclass's slots, of which the public and protected virtual methods of a class take those that are listed for
-- them
unfoldable pub taken_slots : Class → (above : Line) → Slots → Slots
taken_slots c above all = with_all_taken (listed_token above) (map (meant_by (implementing above)) all)
    (signatures is_shown c.methods) all

-- The superclass's slots, as they are taken; then one for each public or protected virtual method that the class
-- declares and that has none yet; then one for each added method.
abbrev pub slots : Line → Slots
slots Nowhere = []
slots (Imported classes) = listed_slots (all_methods classes)
slots (Declared c given above) = with_new (with_new (taken_slots c above (slots above)) (signatures is_shown c.methods))
    (map signature_of given)

-- Package-visible methods have slots of their own, from the first class of the package on.
abbrev pub hidden_slots : Line → Slots
hidden_slots Nowhere = []
hidden_slots (Imported classes) = []
hidden_slots (Declared c given above) = with_new (hidden_slots above) (signatures is_hidden c.methods)

-- the package-visible method of the nearest class that declares one of this signature
abbrev pub implementing_hidden : Line → Signature → Option Found
implementing_hidden Nowhere s = None
implementing_hidden (Imported classes) s = None
implementing_hidden (Declared c given above) s = or_else (own is_hidden s c) (implementing_hidden above s)

-- the methods by their tokens
abbrev pub row : Line → List (Option Found)
row line = map (meant_by (implementing line)) (slots line)

-- the package-visible ones, without the high bit of their tokens
abbrev pub hidden_row : Line → List (Option Found)
hidden_row line = map (meant_by (implementing_hidden line)) (hidden_slots line)

-- ---- the token of a method

-- the token of a signature: the place of its slot
unfoldable pub token : Slots → Signature → Option ℕ
token slots s = position (λ slot. holds slot s) slots

-- whether the slot is of this signature, where there is one
abbrev pub is_slot_of : Option (Option Signature) → Signature → Bool
is_slot_of None s = false
is_slot_of (Some slot) s = holds slot s

-- the listed token where the slot there is of the signature, else this place
abbrev pub nearer : (listed : Option ℕ) → Slots → Signature → (place : ℕ) → ℕ
nearer None slots s place = place
nearer (Some t) slots s place = if is_slot_of (slice_get slots t) s then t else place

-- the token where the first slot of the signature has this place
abbrev pub token_by : (listed : Option ℕ) → Slots → List (Option Found) → Signature → (place : Option ℕ) → Option ℕ
token_by listed slots methods s None = listed
token_by listed slots methods s (Some place) =
    if is_of_package (slice_get methods place) then Some (nearer listed slots s place) else listed

-- The token of a public or protected virtual method, from what is listed for it, the slots and the methods there. Where
-- a class of the package has the method, it is the place of a slot of its own, the listed one if that is one; else it
-- is the listed token.
unfoldable pub token_among : (listed : Option ℕ) → Slots → List (Option Found) → Signature → Option ℕ
token_among listed slots methods s = token_by listed slots methods s (token slots s)

-- the token of a public or protected virtual method in the first class of a line
unfoldable pub shown_token : Line → Signature → Option ℕ
shown_token line s = token_among (listed_token line s) (slots line) (row line) s
