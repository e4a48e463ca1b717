-- What names in code stand for, by the look-ups of the class files and export files (Java Virtual Machine
-- Specification, section 5.4.3), and how many words a method takes.
use Rattle.std.specs.Prelude.{ℕ, ◌+◌, List, Option, Some, None, option_and_then, Bool, ◌||◌, if◌then◌else◌, ℤ}
use Rattle.std.specs.List.{list_any}
use Rattle.cjc_types.specs.Bytes.declared.fault.MemberId.{MemberId}
use Rattle.cjc_types.specs.Bytes.AccessFlags.{is_private, is_static}
use Rattle.cjc_jvm_semantics.specs.LowerScript.Sorts.{Signature, signature_of}
use Rattle.cjc_ncode.specs.LowerCardSemantics.Bytecode.Arguments.{widths}
use Rattle.cjc_types.specs.World.Files.{Files}
use Rattle.cjc_types.specs.World.Classes.{Class, all_classes, class_named}
use Rattle.cjc_types.specs.World.Lookup.{find_field, find_method}
use Rattle.cjc_ncode.specs.declared.narrow.PairRole.TheVariants.{Alone}
use Rattle.cjc_ncode.specs.declared.narrow.PoolKey.{PoolKey}
use Rattle.cjc_ncode.specs.declared.narrow.PoolKey.TheVariants as keys
use Rattle.cjc_ncode.specs.PoolOrder.{same_member}
use Rattle.cjc_ncode.specs.Written.{Resolution}
use Rattle.cjc_jvm_semantics.specs.OnePackage.{ResolvedMember, of_class, method_hit, field_hit, constant_at}
use Rattle.cjc_jvm_semantics.specs.OnePackage.{is_constructor}

-- ---- what a look-up finds

-- the field that is found from the named class
abbrev pub field_found : List Class → MemberId → Option ResolvedMember
field_found w id = option_and_then (field_hit w) (find_field w id.class id.name id.desc)

-- the method that is found from the named class
abbrev pub method_found : List Class → MemberId → Option ResolvedMember
method_found w id = option_and_then (method_hit w) (find_method w id.class id.name id.desc)

-- the member with the class that declares it; one that is nowhere as it is named
abbrev pub by_owner : MemberId → Option ResolvedMember → MemberId
by_owner id None = id
by_owner id (Some hit) = let owner = hit.owner in of_class owner.name id

-- a field with the class in which it is found
abbrev pub resolved_field : List Class → MemberId → MemberId
resolved_field w id = by_owner id (field_found w id)

-- a method with the class in which it is found
abbrev pub resolved_method : List Class → MemberId → MemberId
resolved_method w id = by_owner id (method_found w id)

-- the value of a constant
abbrev pub constant_named : Files → List Class → MemberId → Option ℤ
constant_named files w id = option_and_then (constant_at files) (find_field w id.class id.name id.desc)

-- ---- keys of the constant pool

-- a virtual method that is named through a class of the package keeps that class, every other has the class in which it
-- is found
abbrev pub virtual_by : List Class → MemberId → Option Class → MemberId
virtual_by w id None = resolved_method w id
virtual_by w id (Some c) = if c.is_imported then resolved_method w id else id

-- a constructor or private method by the class in which it is found; any other is sought above the class that holds the
-- code
abbrev pub special_by : (holder : List ℕ) → MemberId → Option ResolvedMember → PoolKey
special_by holder id None = keys.StaticMethod id
special_by holder id (Some hit) =
    if is_constructor id.name || is_private hit.flags then keys.StaticMethod (by_owner id (Some hit))
    else keys.Super (of_class holder id)

-- ---- the record

-- a field is one of these, as it is found
abbrev pub is_near : List Class → (near : List MemberId) → MemberId → Bool
is_near w near id = list_any (same_member (resolved_field w id)) near

-- the look-ups over the classes of all files
abbrev pub resolution_by : Files → List Class → (near : List MemberId) → (holder : List ℕ) → Resolution
resolution_by files w near holder = record {
  field = resolved_field w;
  constant = constant_named files w;
  is_near = is_near w near;
  virtual = λ id. keys.Virtual (virtual_by w id (class_named w id.class));
  special = λ id. special_by holder id (method_found w id);
  static = λ id. keys.StaticMethod (resolved_method w id);
  interface = resolved_method w;
  role = λ offset. Alone;
}

-- What the names in the code of a class stand for, where these instance fields have an index of one byte.
unfoldable pub resolution : Files → (near : List MemberId) → (holder : List ℕ) → Resolution
resolution files near holder = resolution_by files (all_classes files) near holder

-- ---- words of arguments

-- the receiver of a method that has one
abbrev pub receiver_words : (flags : ℕ) → ℕ
receiver_words flags = if is_static flags then 0 else 1

-- the words of the parameters
abbrev pub parameter_words : Option Signature → ℕ
parameter_words None = 0
parameter_words (Some types) = widths types.params

-- How many words a method with these flags and this descriptor takes, its receiver counted.
abbrev pub argument_words : (flags : ℕ) → (desc : List ℕ) → ℕ
argument_words flags desc = receiver_words flags + parameter_words (signature_of desc)
