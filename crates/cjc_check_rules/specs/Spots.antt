-- Places in components, and items that stand one behind the other in them.
use Rattle.std.specs.Prelude.{ℕ, ◌+◌, List, [], ◌∷◌, ◌++◌, map, Bool, true, false, ◌==◌, ◌&&◌, ◌||◌, if◌then◌else◌}
use Rattle.std.specs.Prelude.{Option, Some, None, option_map, nat_lt, nat_le}
use Rattle.std.specs.List.{list_any, find}
pub use Rattle.cjc_check_rules.specs.declared.spot.ComponentPlace.{ComponentPlace}

-- a place by its offset in the component's info, which stands behind the tag and the size
abbrev pub in_info : (tag at : ℕ) → ComponentPlace
in_info tag at = record { component = tag; offset = 3 + at }

-- the place is broken where the test fails
abbrev pub unless : Bool → ComponentPlace → List ComponentPlace
unless true s = []
unless false s = s ∷ []

-- What is broken in items that stand one behind the other, of these sizes in bytes, the first at this offset.
unfoldable pub along : {A : Type 0} → (size : A → ℕ) → (broken : ℕ → A → List ComponentPlace) → (at : ℕ) → List A
    → List ComponentPlace
along size broken at [] = []
along size broken at (x ∷ xs) = broken at x ++ along size broken (at + size x) xs

-- the same with each item's number, the first of which is this one
unfoldable pub numbered : {A : Type 0} → (size : A → ℕ) → (broken : (number at : ℕ) → A → List ComponentPlace)
    → (number at : ℕ) → List A → List ComponentPlace
numbered size broken n at [] = []
numbered size broken n at (x ∷ xs) = broken n at x ++ numbered size broken (n + 1) (at + size x) xs

-- What is broken in items of these sizes beside others, as far as there are both.
unfoldable pub beside : {A B : Type 0} → (size : A → ℕ) → (broken : ℕ → A → B → List ComponentPlace) → (at : ℕ) → List A
    → List B → List ComponentPlace
beside size broken at (x ∷ xs) (y ∷ ys) = broken at x y ++ beside size broken (at + size x) xs ys
beside size broken at _ _ = []

-- bytes of a component that differ from those that are wanted, as far as there are both; the first has this offset
abbrev pub bytes_differ : (tag at : ℕ) → (bytes wanted : List ℕ) → List ComponentPlace
bytes_differ tag at bytes wanted = beside (λ b. 1) (λ at b w. unless (b == w) (in_info tag at)) at bytes wanted

-- an item and the offset of its first byte
pub record Placed (A : Type 0) : Type 0 where
  pub at : ℕ
  pub item : A

-- items of these sizes in bytes, from an offset on
unfoldable pub placed : {A : Type 0} → (size : A → ℕ) → (from : ℕ) → List A → List (Placed A)
placed size from [] = []
placed size from (x ∷ xs) = record { at = from; item = x } ∷ placed size (from + size x) xs

-- where items of these sizes begin, from an offset on
abbrev pub starts : {A : Type 0} → (size : A → ℕ) → (from : ℕ) → List A → List ℕ
starts size from xs = map (λ p. p.at) (placed size from xs)

-- an item begins at this offset
abbrev pub begins : {A : Type 0} → List (Placed A) → ℕ → Bool
begins items offset = list_any (λ p. p.at == offset) items

-- the item that begins at this offset
abbrev pub item_at : {A : Type 0} → List (Placed A) → ℕ → Option A
item_at items offset = option_map (λ p. p.item) (find (λ p. p.at == offset) items)

-- a number from one to another
abbrev pub lies_between : (low high n : ℕ) → Bool
lies_between low high n = nat_le low n && nat_le n high

-- ---- the first of several places: by component, then by offset

-- one does not stand after the other
abbrev pub is_up_to : ComponentPlace → ComponentPlace → Bool
is_up_to a b = nat_lt a.component b.component || (a.component == b.component && nat_le a.offset b.offset)

-- the first of two
abbrev pub earlier : Option ComponentPlace → Option ComponentPlace → Option ComponentPlace
earlier None right = right
earlier (Some a) None = Some a
earlier (Some a) (Some b) = if is_up_to a b then Some a else Some b

-- the first of several
unfoldable pub first : List ComponentPlace → Option ComponentPlace
first [] = None
first (s ∷ spots) = earlier (Some s) (first spots)
