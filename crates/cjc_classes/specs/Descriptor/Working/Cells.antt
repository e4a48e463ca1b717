-- Static cells by the names of their fields.
use Rattle.std.specs.Prelude.{◌≡◌, ℕ, ◌+◌, List, ◌++◌, Option, Some, None, unwrap_or, if◌then◌else◌}
use Rattle.std.specs.Cmp.{IsEquivalence, decided}
use Rattle.std.specs.Bool.{IsTrue}
use Rattle.std.specs.Hash as writes
use Rattle.std.specs.Map.{lookup}
use Rattle.indexmap.specs.IndexMap.{IndexMap, get}
use Rattle.std.proofs.Common.{ap}
use Rattle.cjc_bytes.specs.declared.fault.MemberId.{MemberId}
use Rattle.cjc_components.specs.LowerNCode.PoolOrder.{same_member}
use Rattle.cjc_components.specs.LowerNarrow.Keys.Working.Same.{same_member-Decides}
use Rattle.cjc_components.specs.Statics.{offset_from, size_of_field}

-- ---- fields in a map

-- having the same class, name and descriptor is an equivalence
pub member-equivalence : IsEquivalence same_member
member-equivalence = decided same_member same_member-Decides

-- what is fed to a hasher
abbrev pub fed : MemberId → writes.HashWrites
fed m = writes.slice writes.u8 m.class ++ (writes.slice writes.u8 m.name ++ writes.slice writes.u8 m.desc)

-- equal members are fed to a hasher alike
pub same-fed : (m n : MemberId) → IsTrue (same_member m n) → fed m ≡ fed n
same-fed m n h = ap fed ((same_member-Decides m n).0 h)

-- ---- offsets

-- the cells of fields, and where they end
pub record Placed : Type 0 where
  pub offsets : List (MemberId × ℕ)
  pub end : ℕ

-- the offset of a field's cell, where it has one
abbrev pub found : Placed → MemberId → Option ℕ
found c f = lookup (same_member f) c.offsets

-- the offset of a cell, or where all end
abbrev pub offset_of : Placed → MemberId → ℕ
offset_of c f = unwrap_or (found c f) c.end

-- a number, or else another
abbrev pub or_else : Option ℕ → Option ℕ → Option ℕ
or_else None other = other
or_else (Some k) other = Some k

-- a field has this offset from now on, unless it had one, and others what they had
abbrev pub HasOffset : {S : Type 0} → (old new : IndexMap MemberId ℕ S) → MemberId → (at : ℕ) → Type 0
HasOffset old new field at = (f : MemberId) → get same_member new f ≡ or_else (get same_member old f)
    (if same_member field f then Some at else None)

-- a field's cell stands behind the others, where it has none
pub record HasCell (old : Placed) (field : MemberId) (new : Placed) : Type 0 where
  pub offsets : (f : MemberId) → found new f ≡ or_else (found old f) (if same_member field f then Some old.end
      else None)
  pub end : new.end ≡ old.end + size_of_field field

-- the offset of a cell, where those of fields follow
abbrev pub offset_before : Placed → List MemberId → MemberId → ℕ
offset_before c rest f = unwrap_or (found c f) (offset_from c.end rest f)

-- the cells of fields stand behind the others
abbrev pub StandBehind : (old : Placed) → List MemberId → (new : Placed) → Type 0
StandBehind old fields new = (rest : List MemberId) (f : MemberId) → offset_before new rest f
    ≡ offset_before old (fields ++ rest) f
