-- What does not depend on the forms of field instructions, of one byte or two, nor on which are written as one with an
-- aload_0: the keys that a method names, and the classes of its handlers.
use Rattle.std.specs.Prelude.{◌≡◌, List, flat_map, map, Bool, Option}
use Rattle.cjc_types.specs.Bytes.declared.fault.MemberId.{MemberId}
use Rattle.cjc_types.specs.Flow.{Body}
use Rattle.cjc_ncode.specs.PoolOrder.{insn_keys}
use Rattle.cjc_ncode.specs.Written.{Resolution, reached, place_in, narrow_code, catches_at}
use Rattle.cjc_narrow.specs.Pairs.Roles.{with_pairs}
use Rattle.cjc_narrow.specs.Written.Rows.{has_rows}

-- the same names with other instance fields at an index of one byte
abbrev pub with_near : Resolution → (near : MemberId → Bool) → Resolution
with_near r near = record r { is_near = near }

-- The instructions of a method name the same keys in the same order, and its handlers are of the same classes.
pub record FormsOnly {A : Type 0} (r : Resolution) (near : MemberId → Bool) (b : Body) (rows : List (Option A)) :
    Type 0 where
  pub keys : (let kept = reached b.insns rows
      in flat_map insn_keys (narrow_code (with_pairs (with_near r near) b (has_rows rows)) kept)
      ≡ flat_map insn_keys (narrow_code (with_pairs r b (has_rows rows)) kept))
  pub classes : (let kept = reached b.insns rows
      in map (λ c. c.class) (catches_at (place_in (with_pairs (with_near r near) b (has_rows rows)) kept) b.catches)
      ≡ map (λ c. c.class) (catches_at (place_in (with_pairs r b (has_rows rows)) kept) b.catches))
