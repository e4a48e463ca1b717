-- What an entry of the pool of a written file stands for, whatever its place.
use Rattle.std.specs.Prelude.{ℕ, Bool, true, false, ◌==◌, List, []}
use Rattle.std.specs.Str.{bytes_eq}
use Rattle.std.specs.Hash as writes
use Rattle.cjc_export.specs.declared.constants.Kind.{Kind}
use Rattle.cjc_export.specs.declared.constants.Kind.TheVariants as kinds

-- a constant: a text, a number, a class by its name, or the package itself
pub data Constant : Type 0 where
  text : List ℕ → Constant
  -- a number by its 32 bits
  integer : ℕ → Constant
  -- the class of this name
  class : List ℕ → Constant
  -- the package that is described
  this : Constant

-- the same constant, which stands in the pool once
abbrev pub same : Constant → Constant → Bool
same (text a) (text b) = bytes_eq a b
same (integer m) (integer n) = m == n
same (class a) (class b) = bytes_eq a b
same this this = true
same _ _ = false

-- a constant as the code keeps it
abbrev pub constant_of : Kind → Constant
constant_of (kinds.Text bytes) = text bytes.now
constant_of (kinds.Integer n) = integer n
constant_of (kinds.Class name) = class name.now
constant_of kinds.This = this

-- what is fed to a hasher
abbrev pub fed : Constant → writes.HashWrites
fed (text bytes) = writes.slice writes.u8 bytes
fed (integer n) = writes.u32 n
fed (class name) = writes.slice writes.u8 name
fed this = []
