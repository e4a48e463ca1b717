-- Rules 301 and 302: the types that a package may not use.
use Rattle.std.specs.Prelude.{ℕ, ◌^◌, List, [], ◌∷◌, ◌++◌, length, Bool, true, false, ◌&&◌, ◌||◌, ◌==◌, nat_lt}
use Rattle.std.specs.Prelude.{if◌then◌else◌, Option, Some, None}
use Rattle.std.specs.List.{list_any}
use Rattle.cjc_bytes.specs.declared.fault.MemberId.{MemberId}
use Rattle.cjc_bytes.specs.declared.descriptor.Kind.{Kind}
use Rattle.cjc_bytes.specs.declared.descriptor.Kind.TheVariants as kinds
use Rattle.cjc_bytes.specs.Descriptor.{Part, Parts}
use Rattle.cjc_bytes.specs.Spots.{desc_of}
use Rattle.cjc_code.specs.declared.insn.JOp.{JOp}
use Rattle.cjc_code.specs.declared.insn.JOp.TheVariants as jop
use Rattle.cjc_code.specs.Jvm as jvm
use Rattle.cjc_subset.specs.Members.{is_array}

-- ---- 301: char, long, float, double or an array of more than one dimension

-- Behind the [ of an array's descriptor: the elements are arrays (91), chars (67), doubles (68), floats (70) or longs
-- (74).
abbrev pub is_unsupported_element : List ℕ → Bool
is_unsupported_element [] = false
is_unsupported_element (b ∷ bs) = (b == 91) || (b == 67) || (b == 68) || (b == 70) || (b == 74)

-- such an array, by the name that the pool or a descriptor has
abbrev pub is_unsupported_name : List ℕ → Bool
is_unsupported_name [] = false
is_unsupported_name (b ∷ bs) = (b == 91) && is_unsupported_element bs

-- char, long, float or double
abbrev pub is_other : Kind → Bool
is_other kinds.Other = true
is_other _ = false

-- a type of a descriptor that is one of these, or such an array
abbrev pub is_unsupported_part : Part → Bool
is_unsupported_part p = is_other p.kind || is_unsupported_name p.class

-- there is a descriptor, and a parameter or the result has such a type
abbrev pub is_any_unsupported : Option Parts → Bool
is_any_unsupported None = false
is_any_unsupported (Some d) = list_any (λ p. is_unsupported_part p) (d.params ++ d.result ∷ [])

-- in a descriptor; bytes that are none, or that 32 bits don't count, have no type
unfoldable pub is_unsupported_desc : List ℕ → Bool
is_unsupported_desc desc = nat_lt (length desc) (2 ^ 32) && is_any_unsupported (desc_of desc)

-- a field or method whose class is such an array, or in whose descriptor such a type stands
abbrev pub is_unsupported_member : MemberId → Bool
is_unsupported_member id = is_unsupported_name id.class || is_unsupported_desc id.desc

-- the type number of a newarray: char, float, double or long
abbrev pub is_unsupported_number : ℕ → Bool
is_unsupported_number n = (n == 5) || (n == 6) || (n == 7) || (n == 11)

-- An instruction names such a type, or an anewarray names an array.
unfoldable pub names_unsupported : JOp → Bool
names_unsupported (jop.Static put id) = is_unsupported_member id
names_unsupported (jop.Field put id) = is_unsupported_member id
names_unsupported (jop.Call op id) = is_unsupported_member id
names_unsupported (jop.New name) = is_unsupported_name name
names_unsupported (jop.NewArray n) = is_unsupported_number n
names_unsupported (jop.ANewArray name) = is_array name
names_unsupported (jop.CheckCast name) = is_unsupported_name name
names_unsupported (jop.InstanceOf name) = is_unsupported_name name
names_unsupported _ = false

-- ---- 302: int

-- behind the [ of an array's descriptor: ints (73), in whatever dimension
unfoldable pub is_int_element : List ℕ → Bool
is_int_element [] = false
is_int_element (b ∷ bs) = if b == 91 then is_int_element bs else b == 73

-- an array of ints, in whatever dimension, by the name that the pool or a descriptor has
abbrev pub is_int_name : List ℕ → Bool
is_int_name [] = false
is_int_name (b ∷ bs) = (b == 91) && is_int_element bs

-- the kind of int
abbrev pub is_int : Kind → Bool
is_int kinds.Int = true
is_int _ = false

-- a type of a descriptor that is int or an array of ints
abbrev pub is_int_part : Part → Bool
is_int_part p = is_int p.kind || is_int_name p.class

-- there is a descriptor, and a parameter or the result is int or an array of ints
abbrev pub is_any_int : Option Parts → Bool
is_any_int None = false
is_any_int (Some d) = list_any (λ p. is_int_part p) (d.params ++ d.result ∷ [])

-- int or an array of ints stands in a descriptor; bytes that are none, or that 32 bits don't count, have no type
unfoldable pub is_int_desc : List ℕ → Bool
is_int_desc desc = nat_lt (length desc) (2 ^ 32) && is_any_int (desc_of desc)

-- a field or method whose class is an array of ints, or in whose descriptor int stands
abbrev pub is_int_member : MemberId → Bool
is_int_member id = is_int_name id.class || is_int_desc id.desc

-- An instruction names int, or loads or stores an element of an array of ints (iaload, iastore).
unfoldable pub names_int : JOp → Bool
names_int (jop.ArrayLoad op) = op == jvm.iaload
names_int (jop.ArrayStore op) = op == jvm.iastore
names_int (jop.Static put id) = is_int_member id
names_int (jop.Field put id) = is_int_member id
names_int (jop.Call op id) = is_int_member id
names_int (jop.New name) = is_int_name name
names_int (jop.NewArray n) = n == 10
names_int (jop.ANewArray name) = is_int_name name
names_int (jop.CheckCast name) = is_int_name name
names_int (jop.InstanceOf name) = is_int_name name
names_int _ = false
