-- The classes, their members and all types (section 6.13).
use Rattle.std.specs.Prelude.{ℕ, ◌/◌, ◌%◌, Bool, true, false, List, [], ◌∷◌, ◌++◌, Option, Some, None, nat_lt, ◌==◌}
use Rattle.std.specs.Prelude.{if◌then◌else◌}
use Rattle.std.specs.List.{flat_map}
use Rattle.std.specs.Int.{w8, w16}
use Rattle.cjc_bytes.specs.AccessFlags.{is_static}
use Rattle.cjc_bytes.specs.Format.{Format, number, gives, ◌>>=◌, repeated, before, u1, u2}
use Rattle.cjc_capread.specs.declared.tree.Descriptor.{Descriptor}
use Rattle.cjc_capread.specs.declared.tree.ClassDescriptor.{ClassDescriptor}
use Rattle.cjc_capread.specs.declared.tree.FieldDescriptor.{FieldDescriptor}
use Rattle.cjc_capread.specs.declared.tree.FieldPlace.{FieldPlace}
use Rattle.cjc_capread.specs.declared.tree.FieldPlace.TheVariants as places
use Rattle.cjc_capread.specs.declared.tree.FieldType.{FieldType}
use Rattle.cjc_capread.specs.declared.tree.FieldType.TheVariants as types
use Rattle.cjc_capread.specs.declared.tree.MethodDescriptor.{MethodDescriptor}
use Rattle.cjc_capread.specs.declared.tree.TypeDescriptor.{TypeDescriptor}
use Rattle.cjc_capread.specs.Parts.{exactly, class_ref}

-- the three bytes of a field
unfoldable pub field_place : Bool → Format FieldPlace
field_place true = do
  padding ← number w8 (exactly 0)
  offset ← u2
  gives (places.Static offset)
field_place false = do
  owner ← class_ref
  token ← u1
  gives (places.Instance owner token)

-- 0x8000 and a primitive type, or the place of a descriptor
abbrev pub type_of : ℕ → Option FieldType
type_of n =
    if nat_lt n 0x8000 then Some (types.Described n)
    else if n == 0x8002 then Some types.Boolean
    else if n == 0x8003 then Some types.Byte
    else if n == 0x8004 then Some types.Short
    else if n == 0x8005 then Some types.Int
    else None

-- a field (section 6.13.2)
unfoldable pub field_descriptor : Format FieldDescriptor
field_descriptor = do
  token ← u1
  flags ← u1
  place ← field_place (is_static flags)
  type ← number w16 type_of
  gives (record { token = token; flags = flags; place = place; type_ = type })

-- a method (section 6.13.3)
unfoldable pub method_descriptor : Format MethodDescriptor
method_descriptor = do
  token ← u1
  flags ← u1
  offset ← u2
  type_offset ← u2
  bytecode_count ← u2
  handler_count ← u2
  first_handler ← u2
  gives (record {
    token = token;
    flags = flags;
    offset = offset;
    type_offset = type_offset;
    bytecode_count = bytecode_count;
    handler_count = handler_count;
    first_handler = first_handler;
  })

-- a class or interface with its members (section 6.13.1)
unfoldable pub class_descriptor : Format ClassDescriptor
class_descriptor = do
  token ← u1
  flags ← u1
  this_class ← class_ref
  interface_count ← u1
  field_count ← u2
  method_count ← u2
  interfaces ← repeated interface_count class_ref
  fields ← repeated field_count field_descriptor
  methods ← repeated method_count method_descriptor
  gives (record {
    token = token;
    flags = flags;
    this_class = this_class;
    interfaces = interfaces;
    fields = fields;
    methods = methods;
  })

-- the two nibbles of a byte
abbrev pub two_nibbles : ℕ → List ℕ
two_nibbles n = n / 16 ∷ n % 16 ∷ []

-- a nibble with 0 behind it
abbrev pub high_nibble : ℕ → Option ℕ
high_nibble n = if n % 16 == 0 then Some (n / 16) else None

-- these nibbles, and one more where their number is odd
unfoldable pub ended : Bool → List ℕ → Format TypeDescriptor
ended true nibbles = do
  last ← number w8 high_nibble
  gives (record { nibbles = nibbles ++ last ∷ [] })
ended false nibbles = gives (record { nibbles = nibbles })

-- a type descriptor: how many nibbles, and these in pairs, each pair an item of one byte (section 6.13.4)
unfoldable pub type_descriptor : Format TypeDescriptor
type_descriptor = do
  count ← u1
  pairs ← repeated (count / 2) u1
  ended (count % 2 == 1) (flat_map two_nibbles pairs)

-- the types up to the end of the file, which has so many bytes
unfoldable pub descriptor : ℕ → Format Descriptor
descriptor end = do
  count ← u1
  classes ← repeated count class_descriptor
  pool_count ← u2
  pool_types ← repeated pool_count u2
  types ← before end end type_descriptor
  gives (record { classes = classes; pool_types = pool_types; types = types })
