-- Broken rules: where each stands in the order of refusals, what is told of it, and which of several is answered.
use Rattle.std.specs.Prelude.{◌≡◌, ◌⊎◌, ℕ, ◌+◌, ◌/◌, List, [], ◌∷◌, ◌++◌, Bool, true, false, Option, Some, None}
use Rattle.cjc_bytes.specs.declared.fault.Fault.{Fault}
use Rattle.cjc_bytes.specs.declared.fault.Fault.TheVariants as faults
use Rattle.cjc_bytes.specs.declared.fault.Place.{Place}
use Rattle.cjc_bytes.specs.declared.fault.Refusal.{Refusal}
use Rattle.cjc_bytes.specs.declared.order.FileKey.{FileKey}
use Rattle.cjc_bytes.specs.declared.order.FileKey.TheVariants as keys
use Rattle.cjc_bytes.specs.Order.{FilePlace, Rank, NotAfter, file_number}
use Rattle.cjc_bytes.specs.Refused.{refused_at, in_class, in_file}

-- A place that a rule speaks of: where it stands in the order of refusals, and what is told of it.
pub record RulePlace : Type 0 where
  pub file : FileKey
  -- the class's place in its file, from 1; the empty class is 0
  pub class : ℕ
  -- the class itself is 0; then its fields, its methods, in the order of its file
  pub member : ℕ
  pub place : Place

-- A broken rule: where it stands in the order, and what is told.
pub record Break : Type 0 where
  pub rank : Rank
  pub refusal : Refusal

-- A rule is broken at a place. Its family is its hundreds digit.
abbrev pub broken_at : RulePlace → ℕ → Break
broken_at s rule = record {
  rank = record {
    family = rule / 100;
    file = file_number s.file;
    class = s.class;
    member = s.member;
    offset = s.place.offset;
    rule = rule;
  };
  refusal = refused_at rule s.place;
}

-- ---- places

-- the list, of this name
abbrev pub list_spot : List ℕ → RulePlace
list_spot list = record { file = keys.List; class = 0; member = 0; place = in_file list 0 }

-- the class at this place of a file, of this name; 0 and no name is the file as a whole
abbrev pub class_spot : FilePlace → (class : ℕ) → (name : List ℕ) → RulePlace
class_spot f class name = record { file = f.key; class = class; member = 0; place = in_class f.name name [] 0 }

-- an offset of a member of a class, which is told by this text; the member's place counts from 1, fields first
abbrev pub member_spot : FilePlace → (class : ℕ) → (name : List ℕ) → (member : ℕ) → (text : List ℕ) → (offset : ℕ)
    → RulePlace
member_spot f class name member text offset = record {
  file = f.key;
  class = class;
  member = member;
  place = in_class f.name name text offset;
}

-- ---- lists of breaks

-- a rule at a place, where it is broken there
abbrev pub at : Bool → RulePlace → ℕ → List Break
at true s rule = broken_at s rule ∷ []
at false s rule = []

-- of each of these in order, the first of which has this number
unfoldable pub each_from : {A : Type 0} → (ℕ → A → List Break) → ℕ → List A → List Break
each_from breaks i [] = []
each_from breaks i (x ∷ xs) = breaks i x ++ each_from breaks (i + 1) xs

-- the breaks of each item of a list in order, where items are numbered from 0
abbrev pub each : {A : Type 0} → (ℕ → A → List Break) → List A → List Break
each breaks xs = each_from breaks 0 xs

-- ---- the first of several

-- one of a list
pub data Among (b : Break) : List Break → Type 0 where
  foremost : {bs : List Break} → Among b (b ∷ bs)
  after : {a : Break} {bs : List Break} → Among b bs → Among b (a ∷ bs)

-- The break is one of these, and no other stands before it.
pub record IsFirst (b : Break) (bs : List Break) : Type 0 where
  pub among : Among b bs
  pub least : (a : Break) → Among a bs → NotAfter b.rank a.rank

-- None where there is no break, else one that no other stands before.
abbrev pub IsFirstOf : List Break → Option Break → Type 0
IsFirstOf bs None = bs ≡ []
IsFirstOf bs (Some b) = IsFirst b bs

-- The error is the refusal of the first break, or that memory ran out.
abbrev pub IsFirstRefusal : List Break → Fault → Type 0
IsFirstRefusal bs e = (e ≡ faults.NoMemory) ⊎ ((b : Break) × IsFirst b bs × (e ≡ faults.Refused b.refusal))
