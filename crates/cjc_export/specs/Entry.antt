-- An entry of the constant pool as it stands there.
use Rattle.std.specs.Prelude.{ℕ, ℤ, Bool, List}
use Rattle.cjc_export.specs.declared.pool.Index.{Index}

-- an entry: its tag and what it says; an index comes with the place where it stands
pub data Entry : Type 0 where
  text : List ℕ → Entry
  integer : ℤ → Entry
  class : Index → Entry
  -- whether it is a library, the index of its name, its minor and major version and its AID
  package_info : Bool → Index → ℕ → ℕ → List ℕ → Entry
