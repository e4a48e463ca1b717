-- What the look-ups of names go by.
use Rattle.std.specs.Prelude.{ℕ, List, nat_lt, Option, Some, None, Bool, false}
use Rattle.cjc_types.specs.Bytes.declared.fault.MemberId.{MemberId}
use Rattle.cjc_types.specs.World.Files.{Files}
use Rattle.cjc_ncode.specs.Written.{Resolution}
use Rattle.cjc_narrow.specs.Rows.Resolved.{resolution}

-- the files of a package, its instance fields with an index of one byte, and the class that holds the code
pub record NamesView : Type 0 where
  pub files : Files
  pub near : List MemberId
  pub holder : List ℕ

-- what its names stand for
abbrev pub resolution_of : NamesView → Resolution
resolution_of v = resolution v.files v.near v.holder

-- an index of one byte
abbrev pub is_one_byte : Option ℕ → Bool
is_one_byte None = false
is_one_byte (Some index) = nat_lt index 256
