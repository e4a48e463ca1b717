-- The rules that a method's layout may break, and which of them is answered.
use Rattle.std.specs.Prelude.{◌≡◌, ◌⊎◌, ℕ, List, [], ◌∷◌, ◌++◌, Option, Some, None, Bool, false, nat_le, nat_lt, ◌&&◌}
use Rattle.std.specs.Prelude.{◌||◌, if◌then◌else◌}
use Rattle.cjc_ncode.specs.LowerBytes.declared.fault.Fault.{Fault}
use Rattle.cjc_ncode.specs.LowerBytes.declared.fault.Fault.TheVariants as faults
use Rattle.cjc_ncode.specs.LowerBytes.declared.fault.MemberId.{MemberId}
use Rattle.cjc_ncode.specs.LowerBytes.declared.fault.Refusal.{Refusal}
use Rattle.cjc_ncode.specs.LowerBytes.Refused.{refused_at, in_class, method_text}
use Rattle.cjc_ncode.specs.declared.narrow.NCatch.{NCatch}
use Rattle.cjc_ncode.specs.declared.narrow.NMethod.{NMethod}
use Rattle.cjc_ncode.specs.Lowering.Handlers.{meets}
use Rattle.cjc_layout.specs.Handlers.{has_range}

-- ---- the order of handlers

-- the ranges have an instruction in common
abbrev pub shares : NCatch → NCatch → Bool
shares c d = meets c d && (has_range c && has_range d)

-- a later handler stands before an earlier one in the table, though an instruction is under both
abbrev pub overtakes : (later earlier : NCatch) → Bool
overtakes later earlier = shares earlier later && nat_lt later.target earlier.target

-- before any of the earlier ones
abbrev pub overtakes_any : NCatch → (earlier : List NCatch) → Bool
overtakes_any c [] = false
overtakes_any c (d ∷ earlier) = overtakes c d || overtakes_any c earlier

-- where in the class file the targets are of those of the second list that do so, behind the first
abbrev pub overtaking : (earlier : List NCatch) → List NCatch → List ℕ
overtaking earlier [] = []
overtaking earlier (c ∷ catches) = let more = overtaking (earlier ++ c ∷ []) catches in if overtakes_any c earlier
    then c.at ∷ more else more

-- the lesser of two
abbrev pub lesser : ℕ → Option ℕ → ℕ
lesser x None = x
lesser x (Some y) = if nat_le x y then x else y

-- the least of a list
abbrev pub least : List ℕ → Option ℕ
least [] = None
least (x ∷ xs) = Some (lesser x (least xs))

-- ---- what is answered

-- a rule that a method breaks at an offset of its code in the class file
abbrev pub of_method : (file : List ℕ) → MemberId → (rule offset : ℕ) → Refusal
of_method file id rule offset = refused_at rule (in_class file id.class (method_text id.name id.desc) offset)

-- 415: what is written has more than 32,767 bytes at the widest
abbrev pub if_too_long : (file : List ℕ) → MemberId → (widest : ℕ) → Option Refusal
if_too_long file id widest = if nat_lt 32767 widest then Some (of_method file id 415 0) else None

-- 311 before 415
abbrev pub first_of : (file : List ℕ) → MemberId → Option ℕ → (widest : ℕ) → Option Refusal
first_of file id (Some offset) widest = Some (of_method file id 311 offset)
first_of file id None widest = if_too_long file id widest

-- What a method's layout is refused for: a handler that stands in the class file in another order than in the table,
-- though an instruction is under both, the first by its offset; or else the method's length.
abbrev pub refusal_of : (file : List ℕ) → MemberId → NMethod → Option Refusal
refusal_of file id m = first_of file id (least (overtaking [] m.catches)) m.widest

-- The error is this refusal, or that memory ran out.
abbrev pub IsRefusalBy : Option Refusal → Fault → Type 0
IsRefusalBy refusal e = (e ≡ faults.NoMemory) ⊎ ((r : Refusal) × (refusal ≡ Some r) × (e ≡ faults.Refused r))
