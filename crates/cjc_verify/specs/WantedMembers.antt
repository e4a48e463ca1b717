-- What a package wants of Descriptor, as code puts it together: from class files, tokens, class_refs and cells.
use Rattle.std.specs.Prelude.{ℕ, ◌+◌, List, [], ◌∷◌, ◌++◌, length, slice_get, unwrap_or, Option, Some, None, codes}
use Rattle.std.specs.Prelude.{if◌then◌else◌}
use Rattle.std.specs.Str.{bytes_eq}
use Rattle.cjc_bytes.specs.AccessFlags.{is_static, acc_abstract}
use Rattle.cjc_bytes.specs.declared.fault.MemberId.{MemberId}
use Rattle.cjc_capread.specs.declared.tree.ClassRef.{ClassRef}
use Rattle.cjc_capread.specs.declared.tree.FieldPlace.{FieldPlace}
use Rattle.cjc_capread.specs.declared.tree.FieldPlace.TheVariants as places
use Rattle.cjc_card_acts.specs.Script.Sorts.{Sort, Boolean, Byte, Short, Int, Reference, NoValue, field_sort}
use Rattle.cjc_card_acts.specs.Script.Sorts.{signature_of}
use Rattle.cjc_world.specs.ClassFile.declared.tree.ClassTree.{ClassTree}
use Rattle.cjc_world.specs.ClassFile.declared.tree.FieldTree.{FieldTree}
use Rattle.cjc_world.specs.ClassFile.declared.tree.MethodTree.{MethodTree}
use Rattle.cjc_world.specs.Files.{Files}
use Rattle.cjc_world.specs.Added.{added_at as added_of}
use Rattle.cjc_methods.specs.Tokens.Fields.{is_constant}
use Rattle.cjc_methods.specs.Tokens.Members.{is_constructor}
use Rattle.cjc_methods.specs.Tokens.Tokens.{Assigned, token_of_class}
use Rattle.cjc_classes.specs.LowerComponents.Descriptor.{added_flags, class_flags, field_flags, flag_where}
use Rattle.cjc_classes.specs.LowerComponents.Types.{nibbles_by}
use Rattle.cjc_classes.specs.Descriptor.Working.Described.{each_from, number_in, token_in}
use Rattle.cjc_verify.specs.Pairs.{is_card_type}
use Rattle.cjc_verify.specs.declared.described.wanted.WantedClass.{WantedClass}
use Rattle.cjc_verify.specs.declared.described.wanted.WantedField.{WantedField}
use Rattle.cjc_verify.specs.declared.described.wanted.WantedMethod.{WantedMethod}
use Rattle.cjc_verify.specs.declared.described.wanted.WantedType.{WantedType}
use Rattle.cjc_verify.specs.declared.described.wanted.WantedType.TheVariants as wanted

-- what is made before
pub record Inputs : Type 0 where
  pub files : Files
  pub tokens : Assigned
  pub ref : List ℕ → ClassRef
  -- by the number of a class and of its field the offset of the field's cell
  pub cells : List (List ℕ)

-- the nibbles of a descriptor; none where the card has no values of one of its types
abbrev pub card_nibbles : (ref : List ℕ → ClassRef) → (desc : List ℕ) → Option (List ℕ)
card_nibbles ref desc = if is_card_type desc (signature_of desc) then Some (nibbles_by ref desc (signature_of desc))
    else None

-- the type of a field
abbrev pub type_by : (nibbles : Option (List ℕ)) → Sort → WantedType
type_by nibbles Boolean = wanted.Boolean
type_by nibbles Byte = wanted.Byte
type_by nibbles Short = wanted.Short
type_by nibbles Int = wanted.Int
type_by nibbles (Reference shape) = wanted.Described nibbles
type_by nibbles NoValue = wanted.NoValue

-- a static field by its cell, an instance field by its class and its token
abbrev pub place_by : Inputs → (number : ℕ) → (class : List ℕ) → (place token : ℕ) → FieldTree → FieldPlace
place_by q n class k token f = if is_static f.flags then places.Static (number_in q.cells n k)
    else places.Instance (q.ref class) token

-- the field at a place of the class of a number and name
abbrev pub field_by : Inputs → (number : ℕ) → (class : List ℕ) → (place : ℕ) → FieldTree → WantedField
field_by q n class k f = record {
  token = token_in q.tokens n k;
  flags = field_flags f.flags;
  place = place_by q n class k (token_in q.tokens n k) f;
  type_ = type_by (card_nibbles q.ref f.desc) (field_sort f.desc);
}

-- the field at a place, where it is no constant
abbrev pub field_if : Inputs → (number : ℕ) → (class : List ℕ) → (place : ℕ) → FieldTree → List WantedField
field_if q n class k f = if is_constant f then [] else field_by q n class k f ∷ []

-- the fields from a place on, constants left out
abbrev pub fields_by : Inputs → (number : ℕ) → (class : List ℕ) → (place : ℕ) → List FieldTree → List WantedField
fields_by q n class k fields = each_from (field_if q n class) k fields

-- the method at a place of the class of a number, with these flags, name and descriptor of the class file
abbrev pub method_by : Inputs → (number place flags : ℕ) → (name desc : List ℕ) → WantedMethod
method_by q n k flags name desc = record {
  token = token_in q.tokens n k;
  flags = field_flags flags + flag_where flags acc_abstract 0x40 + (if is_constructor name then 0x80 else 0);
  nibbles = card_nibbles q.ref desc;
}

-- the method at a place, where it is no class initialiser
abbrev pub method_if : Inputs → (number place : ℕ) → MethodTree → List WantedMethod
method_if q n k m = if bytes_eq m.name (codes "<clinit>") then [] else method_by q n k m.flags m.name m.desc ∷ []

-- the methods of a class file from a place on, the class initialiser left out
abbrev pub own_methods_by : Inputs → (number place : ℕ) → List MethodTree → List WantedMethod
own_methods_by q n k methods = each_from (method_if q n) k methods

-- a method at a place that is added to a class
abbrev pub got_method : Inputs → (number place : ℕ) → MemberId → List WantedMethod
got_method q n k m = method_by q n k added_flags m.name m.desc ∷ []

-- the methods from a place on that are added to a class
abbrev pub added_by : Inputs → (number place : ℕ) → List MemberId → List WantedMethod
added_by q n k added = each_from (got_method q n) k added

-- the methods of a class: those of its file, whose places are behind the fields, then those that are added
abbrev pub methods_by : Inputs → (number : ℕ) → (added : List MemberId) → ClassTree → List WantedMethod
methods_by q n added c = own_methods_by q n (length c.fields) c.methods
    ++ added_by q n (length c.fields + length c.methods) added

-- the class or interface of a number with its members; 0xFF is no token
abbrev pub class_by : Inputs → (number : ℕ) → (added : List MemberId) → ClassTree → WantedClass
class_by q n added c = record {
  token = unwrap_or (token_of_class q.tokens n) 0xFF;
  flags = class_flags c.flags;
  fields = fields_by q n c.name 0 c.fields;
  methods = methods_by q n added c;
}

-- the class of a number, if there is one
abbrev pub class_where : Inputs → (number : ℕ) → Option ClassTree → List WantedClass
class_where q n None = []
class_where q n (Some c) = class_by q n (added_of q.files n) c ∷ []

-- the class of a number among those of the package, if there is one
abbrev pub classes_by : Inputs → (number : ℕ) → List WantedClass
classes_by q n = let files = q.files in class_where q n (slice_get files.classes n)
