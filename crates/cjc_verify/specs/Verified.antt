-- What `verify` tells of components beside their package: which of rules 721 to 729 are broken, and which of these is
-- the first.
use Rattle.std.specs.Prelude.{◌≡◌, ◌⊎◌, ℕ, List, ◌++◌, map, flat_map, slice_get, Option, Some}
use Rattle.cjc_bytes.specs.declared.fault.Fault.{Fault}
use Rattle.cjc_bytes.specs.declared.fault.Fault.TheVariants as faults
use Rattle.cjc_bytes.specs.Breaks.{Break, Among}
use Rattle.cjc_bytes.specs.Order.{NotAfter}
use Rattle.cjc_check_rules.specs.Spots.{in_info}
use Rattle.cjc_check_rules.specs.Consistent.{break_at}
use Rattle.cjc_classes.specs.Types.declared.state.State.{State}
use Rattle.cjc_card_acts.specs.LowerFrames.Tables.{IsLeastTable, Breach}
use Rattle.cjc_card_acts.specs.CardTypes.{is_type_of}
use Rattle.cjc_verify.specs.Pairs.{Pair}
use Rattle.cjc_verify.specs.Bodies.{Body, bodies, frames_of}
use Rattle.cjc_verify.specs.Headers.{header_spots}
use Rattle.cjc_verify.specs.Infos.{all_table_spots, all_abstract_spots, all_info_spots}
use Rattle.cjc_verify.specs.Described.{described_spots, all_array_spots}

-- what is broken in Class
abbrev pub class_breaks : Pair → List Break
class_breaks p = map (break_at 725) (all_table_spots p) ++ map (break_at 727) (all_abstract_spots p)
    ++ map (break_at 729) (all_info_spots p)

-- what is broken in headers of methods
abbrev pub header_breaks : Pair → List Break
header_breaks p = map (break_at 727) (flat_map (header_spots p) (bodies p.components))

-- what is broken in all but the instructions of methods
abbrev pub listed_breaks : Pair → List Break
listed_breaks p = class_breaks p ++ header_breaks p ++ map (break_at 728) (all_array_spots p)
    ++ map (break_at 721) (described_spots p)

-- A rule of 721 to 729 is broken.
pub data Breaks (p : Pair) : Break → Type 0 where
  listed : (broken : Break) → Among broken (listed_breaks p) → Breaks p broken
  -- by an instruction that the least table of its method reaches
  in_code : (k : ℕ) (b : Body) (rows : List (Option State)) (place rule : ℕ)
      → slice_get (bodies p.components) k ≡ Some b → IsLeastTable (frames_of p b) rows
      → (breach : Breach (is_type_of p.loaded) (frames_of p b) rows place rule)
      → Breaks p (break_at rule (in_info 7 breach.step.at))

-- No rule is broken.
abbrev pub IsVerified : Pair → Type 0
IsVerified p = (broken : Break) → Breaks p broken → ⊥

-- The rule is broken, and no broken one stands before it.
pub record IsFirstBroken (p : Pair) (broken : Break) : Type 0 where
  pub breaks : Breaks p broken
  pub first : (other : Break) → Breaks p other → NotAfter broken.rank other.rank

-- The error is the refusal of the first broken rule, or that memory ran out.
abbrev pub IsRefused : Pair → Fault → Type 0
IsRefused p e = (e ≡ faults.NoMemory) ⊎ ((broken : Break) × IsFirstBroken p broken × (e
    ≡ faults.Refused broken.refusal))
