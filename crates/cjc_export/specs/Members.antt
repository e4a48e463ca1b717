-- The fields and methods of a class (Java Card Virtual Machine Specification 2.2.2, sections 5.8 to 5.10).
use Rattle.std.specs.Prelude.{ℕ, ℤ, Bool, true, false, not, List, [], ◌∷◌, ◌++◌, Option, Some, None, option_and_then}
use Rattle.std.specs.Prelude.{slice_get, is_some, is_none, nat_lt, ◌==◌, ◌&&◌, ◌||◌, if◌then◌else◌, codes}
use Rattle.std.specs.List.{list_any}
use Rattle.std.specs.Int.{w8, w16, w32}
use Rattle.std.specs.Str.{bytes_eq}
use Rattle.cjc_bytes.specs.Format.{Format, number, here, looked_up, gives, ◌>>=◌, iterated, u1, u2, u4, raw}
use Rattle.cjc_bytes.specs.Spots.{desc_of}
use Rattle.cjc_export.specs.declared.tree.ExportField.{ExportField}
use Rattle.cjc_export.specs.declared.tree.ExportMethod.{ExportMethod}
use Rattle.cjc_export.specs.Words.{exactly, broken_where}
use Rattle.cjc_bytes.specs.AccessFlags.{is_static, is_final}
use Rattle.cjc_export.specs.Entry.{Entry, integer}
use Rattle.cjc_export.specs.Pool.{text_at, class_name_at}

-- one more item, read with the earlier ones known
unfoldable pub grown : {A : Type 0} → (List A → Format A) → ℕ → List A → Format (List A)
grown p behind so_far = do
  x ← p so_far
  gives (so_far ++ x ∷ [])

-- fields that hold the index of a text, or of a class
unfoldable pub text_field : List Entry → Format (List ℕ)
text_field pool = number w16 (text_at pool)

-- the index of a CONSTANT_Classref; gives the name of the class
unfoldable pub class_field : List Entry → Format (List ℕ)
class_field pool = number w16 (class_name_at pool)

-- ---- descriptors

-- both hold, or neither
abbrev pub same_bool : Bool → Bool → Bool
same_bool true b = b
same_bool false b = not b

-- the bytes, where they are the descriptor of a method, or of a field
abbrev pub as_desc : Bool → List ℕ → Option (List ℕ)
as_desc method bytes = option_and_then (λ d. if same_bool method d.is_method then Some bytes else None) (desc_of bytes)

-- the text at an index, where it is the descriptor of a method, or of a field
unfoldable pub desc_at : List Entry → Bool → ℕ → Option (List ℕ)
desc_at pool method i = option_and_then (as_desc method) (text_at pool i)

-- the index of the descriptor of a method, or of a field; gives its bytes
unfoldable pub desc_field : List Entry → Bool → Format (List ℕ)
desc_field pool method = number w16 (desc_at pool method)

-- ---- constants

-- boolean, byte, short or int
abbrev pub is_constant_type : List ℕ → Bool
is_constant_type desc = bytes_eq desc (codes "Z") || bytes_eq desc (codes "B") || bytes_eq desc (codes "S")
    || bytes_eq desc (codes "I")

-- a field that is a constant where it has a ConstantValue
abbrev pub may_be_constant : ℕ → List ℕ → Bool
may_be_constant flags desc = is_static flags && is_final flags && is_constant_type desc

-- whether an attribute is a ConstantValue; there is one at most
abbrev pub is_constant : Option ℤ → List ℕ → Option Bool
is_constant so_far name =
    if bytes_eq name (codes "ConstantValue") then (if is_some so_far then None else Some true)
    else Some false

-- whether the attribute whose name is at this index is a ConstantValue
unfoldable pub constant_name_at : List Entry → Option ℤ → ℕ → Option Bool
constant_name_at pool so_far i = option_and_then (is_constant so_far) (text_at pool i)

-- the number of a CONSTANT_Integer
abbrev pub as_integer : Entry → Option ℤ
as_integer (integer n) = Some n
as_integer _ = None

-- the number of the CONSTANT_Integer at an index
unfoldable pub integer_at : List Entry → ℕ → Option ℤ
integer_at pool i = option_and_then as_integer (slice_get pool i)

-- what stands behind the name of an attribute: the value of a ConstantValue, or anything
unfoldable pub attribute_content : List Entry → Bool → Option ℤ → Format (Option ℤ)
attribute_content pool true so_far = do
  length ← number w32 (exactly 2)
  value ← number w16 (integer_at pool)
  gives (Some value)
attribute_content pool false so_far = do
  length ← u4
  free ← raw length
  gives so_far

-- an attribute of a field whose token stands at this place, and is wrong if the field is a constant
unfoldable pub attribute : List Entry → ℕ → Bool → ℕ → Option ℤ → Format (Option ℤ)
attribute pool place wrong behind so_far = do
  constant ← number w16 (constant_name_at pool so_far)
  fits ← looked_up (broken_where place (wrong && constant))
  attribute_content pool constant so_far

-- ---- fields

-- whether an earlier field has this token; static fields that are no constants and instance fields are
-- numbered each by themselves
abbrev pub field_token_taken : List ExportField → ℕ → ℕ → Bool
field_token_taken so_far flags token = list_any (λ f. (f.token == token)
    && same_bool (is_static flags) (is_static f.flags) && is_none f.constant) so_far

-- the token of a constant
abbrev pub no_token : ℕ → Bool
no_token token = token == 0xFF

-- the value of a ConstantValue counts for a constant alone
abbrev pub where_constant : Bool → Option ℤ → Option ℤ
where_constant true value = value
where_constant false value = None

-- a field. Its token is answered for as soon as what it depends on has been read
unfoldable pub field : List Entry → List ExportField → Format ExportField
field pool so_far = do
  place ← here (λ k. k)
  token ← u1
  flags ← u2
  first ← looked_up (broken_where place (field_token_taken so_far flags token && not (no_token token && is_static flags
      && is_final flags)))
  name ← text_field pool
  desc ← desc_field pool false
  second ← looked_up (broken_where place (field_token_taken so_far flags token && not (no_token token
      && may_be_constant flags desc)))
  count ← u2
  value ← iterated count (attribute pool place (may_be_constant flags desc && not (no_token token))) None
  third ← looked_up (broken_where place (field_token_taken so_far flags token
      && is_none (where_constant (may_be_constant flags desc) value)))
  gives (record {
    token = token;
    flags = flags;
    name = name;
    desc = desc;
    constant = where_constant (may_be_constant flags desc) value;
  })

-- ---- methods of classes

-- static methods and constructors have tokens of one kind, virtual methods of another
abbrev pub is_unbound : ℕ → List ℕ → Bool
is_unbound flags name = is_static flags || bytes_eq name (codes "<init>")

-- an earlier method has this token, among those with tokens of this kind
abbrev pub method_token_taken : List ExportMethod → Bool → ℕ → Bool
method_token_taken so_far unbound token = list_any (λ m. (m.token == token)
    && same_bool unbound (is_unbound m.flags m.name)) so_far

-- whether a token can't be that of the next method: an earlier one has it, or it is above 127 and the method virtual
abbrev pub method_token_wrong : List ExportMethod → Bool → ℕ → Bool
method_token_wrong so_far unbound token = method_token_taken so_far unbound token || (not unbound && nat_lt 127 token)

-- a method of a class. Its token is answered for as soon as what it depends on has been read
unfoldable pub class_method : List Entry → List ExportMethod → Format ExportMethod
class_method pool so_far = do
  place ← here (λ k. k)
  token ← u1
  flags ← u2
  first ← looked_up (broken_where place (is_static flags && method_token_wrong so_far true token))
  name ← text_field pool
  second ← looked_up (broken_where place (method_token_wrong so_far (is_unbound flags name) token))
  desc ← desc_field pool true
  gives (record { token = token; flags = flags; name = name; desc = desc })

-- ---- methods of interfaces

-- an earlier method of the interface has this token
abbrev pub interface_token_taken : List ExportMethod → ℕ → Bool
interface_token_taken so_far token = list_any (λ m. m.token == token) so_far

-- a token below the number of methods that no earlier one has
abbrev pub interface_token : ℕ → List ExportMethod → ℕ → Option ℕ
interface_token count so_far token =
    if nat_lt token count && not (interface_token_taken so_far token) then Some token else None

-- <init> and <clinit>, which no class that has an interface has a token for
abbrev pub is_special : List ℕ → Bool
is_special name = bytes_eq name (codes "<init>") || bytes_eq name (codes "<clinit>")

-- any other name
abbrev pub not_special : List ℕ → Option (List ℕ)
not_special name = if is_special name then None else Some name

-- the name at an index, where it is one that a method of an interface may have
unfoldable pub interface_name_at : List Entry → ℕ → Option (List ℕ)
interface_name_at pool i = option_and_then not_special (text_at pool i)

-- a method of an interface that has so many, with those before it known
unfoldable pub interface_method : List Entry → ℕ → List ExportMethod → Format ExportMethod
interface_method pool count so_far = do
  token ← number w8 (interface_token count so_far)
  flags ← u2
  name ← number w16 (interface_name_at pool)
  desc ← desc_field pool true
  gives (record { token = token; flags = flags; name = name; desc = desc })

-- a method of an interface that has so many methods, or of a class
unfoldable pub method : List Entry → Bool → ℕ → List ExportMethod → Format ExportMethod
method pool true count so_far = interface_method pool count so_far
method pool false count so_far = class_method pool so_far
