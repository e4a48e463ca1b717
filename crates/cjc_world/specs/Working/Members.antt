-- The index of a class's members: their places in the order of names and descriptors.
use Rattle.std.specs.Prelude.{ℕ, List, [], ◌∷◌, length, slice_get, Bool, true, false, Option, Some, None}
use Rattle.std.specs.Cmp.Lexicographic.{slice_cmp}
use Rattle.std.specs.List.{range_with_len}
use Rattle.std.specs.List.Sorted.{IsSortedBy, IsStableBy}
use Rattle.std.specs.declared.cmp.Ordering.{Ordering}
use Rattle.std.specs.Ordering.{nat_cmp, ordering_then, is_lt}
use Rattle.cjc_world.specs.declared.members.MemberIndex.{MemberIndex}
use Rattle.cjc_world.specs.Classes.{Member, Class}
use Rattle.cjc_world.specs.Rules.{members}

-- the name and the descriptor, both empty where there is no member
abbrev pub id_of : Option Member → List ℕ × List ℕ
id_of None = ([], [])
id_of (Some m) = (m.name, m.desc)

-- the name and the descriptor of the member at a place
abbrev pub id_at : List Member → ℕ → List ℕ × List ℕ
id_at ms p = id_of (slice_get ms p)

-- the access flags, 0 where there is no member
abbrev pub flags_of : Option Member → ℕ
flags_of None = 0
flags_of (Some m) = m.flags

-- the access flags of the member at a place
abbrev pub flags_at : List Member → ℕ → ℕ
flags_at ms p = flags_of (slice_get ms p)

-- by names, and by descriptors where these are equal
abbrev pub id_cmp : List ℕ × List ℕ → List ℕ × List ℕ → Ordering
id_cmp a b = ordering_then (slice_cmp nat_cmp a.0 b.0) (slice_cmp nat_cmp a.1 b.1)

-- whether the member at the first place comes before that at the second by its name and descriptor
abbrev pub precedes : List Member → ℕ → ℕ → Bool
precedes ms p q = is_lt (id_cmp (id_at ms p) (id_at ms q))

-- The places of these members by name and descriptor; those of one name and descriptor stand as the members do.
pub record IsMemberIndex (ms : List Member) (places : List ℕ) : Type 0 where
  pub sorted : IsSortedBy (precedes ms) places
  pub stable : IsStableBy (precedes ms) (range_with_len 0 (length ms)) places

-- the places of the fields, or of the methods
abbrev pub places_in : (field : Bool) → MemberIndex → List ℕ
places_in true i = i.fields
places_in false i = i.methods

-- It has the fields and the methods of the class.
abbrev pub IsIndexOf : Class → MemberIndex → Type 0
IsIndexOf c i = (field : Bool) → IsMemberIndex (members field c) (places_in field i)

-- One index for each of these classes, in their order.
unfoldable pub AreIndices : List Class → List MemberIndex → Type 0
AreIndices [] [] = Unit {0}
AreIndices [] (i ∷ rows) = ⊥
AreIndices (c ∷ cs) [] = ⊥
AreIndices (c ∷ cs) (i ∷ rows) = IsIndexOf c i × AreIndices cs rows
