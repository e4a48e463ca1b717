-- An entry of the constant pool as it stands there (Java Virtual Machine Specification, section 4.4).
use Rattle.std.specs.Prelude.{ℕ, ℤ, Bool, List, Option}
use Rattle.cjc_classfile.specs.declared.pool.Index.{Index}

-- an entry: its tag, and what it says where that is of use; an index comes with the place where it stands
pub data Entry : Type 0 where
  -- a Utf8: its bytes; if they are a descriptor, whether it is a method's
  text : List ℕ → Option Bool → Entry
  integer : ℤ → Entry
  float : Entry
  -- a Long or Double, which takes two indices
  wide : Entry
  class : Index → Entry
  string : Index → Entry
  field : Index → Index → Entry
  method : Index → Index → Entry
  interface_method : Index → Index → Entry
  name_and_type : Index → Index → Entry
  -- a MethodHandle, a MethodType, an InvokeDynamic, or no entry
  other : Entry
