-- The static image of a package: what its static fields hold after all initialisers, by groups (Java Card Virtual
-- Machine
-- Specification 2.2.2, section 6.10).
use Rattle.std.specs.Prelude.{◌≡◌, ℕ, ◌+◌, List, [], ◌∷◌, ◌++◌, map, slice_get, slice_set, Bool, if◌then◌else◌, Option}
use Rattle.std.specs.Prelude.{Some, None, is_some, ℤ, pos}
use Rattle.std.specs.Ordering.{int_eq}
use Rattle.cjc_bytes.specs.declared.fault.MemberId.{MemberId}
use Rattle.cjc_subset.specs.LowerClassFile.declared.tree.ClassTree.{ClassTree}
use Rattle.cjc_subset.specs.LowerClassFile.declared.tree.FieldTree.{FieldTree}
use Rattle.cjc_subset.specs.LowerClassFile.declared.tree.MethodTree.{MethodTree}
use Rattle.cjc_subset.specs.LowerBytecode.declared.method_code.MethodCode.{MethodCode}
use Rattle.cjc_subset.specs.LowerWorld.declared.image.ArrayCell.{ArrayCell}
use Rattle.cjc_subset.specs.LowerWorld.declared.image.StaticImage.{StaticImage}
use Rattle.cjc_subset.specs.LowerWorld.Files.{Files}
use Rattle.cjc_clinit.specs.declared.stage.Held.{Held}
use Rattle.cjc_clinit.specs.declared.stage.Held.TheVariants as held
use Rattle.cjc_clinit.specs.declared.stage.Start.{Start}
use Rattle.cjc_clinit.specs.declared.stage.Start.TheVariants as starts
use Rattle.cjc_clinit.specs.Fields.{Contents, AnArray, is_cell, is_reference, number_kind}
use Rattle.cjc_clinit.specs.Initialiser.{Initialises, Put, is_initialiser, nothing_in, ops_of}

-- ---- all initialisers

-- the same field, by the class that declares it
abbrev pub own_field : ClassTree → MemberId → MemberId
own_field c id = record { class = c.name; name = id.name; desc = id.desc }

-- the array of a field, where it is one
abbrev pub array_in : MemberId → Contents → List ArrayCell
array_in field (AnArray kind items) = record { field = field; kind = kind; items = items } ∷ []
array_in field contents = []

-- the arrays that statements make, in order
abbrev pub arrays_of : ClassTree → List Put → List ArrayCell
arrays_of c [] = []
arrays_of c (p ∷ ps) = array_in (own_field c p.field) p.contents ++ arrays_of c ps

-- the class, where there is a method and it is an initialiser
abbrev pub if_initialiser : ClassTree → Option MethodTree → Option ClassTree
if_initialiser c None = None
if_initialiser c (Some m) = if is_initialiser m then Some c else None

-- the class, where there is one and its method of this number is an initialiser
abbrev pub class_where : (method : ℕ) → Option ClassTree → Option ClassTree
class_where method None = None
class_where method (Some c) = if_initialiser c (slice_get c.methods method)

-- the class whose initialiser has this code; none where it is that of another method
abbrev pub initialised : Files → MethodCode → Option ClassTree
initialised files code = class_where code.method (slice_get files.classes code.class)

-- The initialisers among these codes, one after the other: what the fields of each class hold before and after them,
-- and
-- the arrays that they make.
pub data AreInitialised (files : Files) : (before : List (List Held)) → List MethodCode → List ArrayCell
    → (after : List (List Held)) → Type 0 where
  none : {fields : List (List Held)} → AreInitialised files fields [] [] fields
  other : {before after : List (List Held)} {code : MethodCode} {codes : List MethodCode} {arrays : List ArrayCell}
      → initialised files code ≡ None → AreInitialised files before codes arrays after
      → AreInitialised files before (code ∷ codes) arrays after
  one : {before after : List (List Held)} {code : MethodCode} {codes : List MethodCode} {arrays : List ArrayCell}
      (c : ClassTree) (puts : List Put) (fields : List Held)
      → initialised files code ≡ Some c → Initialises files code.class c (nothing_in c) (ops_of code.insns) puts fields
      → AreInitialised files (slice_set before code.class fields) codes arrays after
      → AreInitialised files before (code ∷ codes) (arrays_of c puts ++ arrays) after

-- ---- one field

-- the number of a ConstantValue, of a type of numbers; else 0
abbrev pub value_or_zero : (is_number : Bool) → Option ℤ → ℤ
value_or_zero is_number None = pos 0
value_or_zero is_number (Some z) = if is_number then z else pos 0

-- into which nothing was put
abbrev pub unput_start : FieldTree → Start
unput_start f = if is_reference f.desc then starts.Null else starts.Number (value_or_zero (is_some (number_kind f.desc))
    f.constant)

-- of a field with a cell
abbrev pub start_by : FieldTree → Held → Option Start
start_by f held.Nothing = Some (unput_start f)
start_by f (held.Number z) = Some (starts.Number z)
start_by f held.Null = Some starts.Null
start_by f held.Array = None

-- null or a number, by what was put; none of a field that holds an array or has no cell
abbrev pub start_of : FieldTree → Held → Option Start
start_of f h = if is_cell f then start_by f h else None

-- what a field holds; nothing was put where it is not told
abbrev pub held_in : Option Held → Held
held_in None = held.Nothing
held_in (Some h) = h

-- ---- images

-- the image of a package without static fields
abbrev pub empty : StaticImage
empty = record { arrays = []; nulls = []; zeros = []; others = [] }

-- group by group
abbrev pub joined : StaticImage → StaticImage → StaticImage
joined a b = record {
  arrays = a.arrays ++ b.arrays;
  nulls = a.nulls ++ b.nulls;
  zeros = a.zeros ++ b.zeros;
  others = a.others ++ b.others;
}

-- a field in its group: null, 0, or another number
abbrev pub of_start : MemberId → Option Start → StaticImage
of_start id None = empty
of_start id (Some starts.Null) = record empty { nulls = id ∷ [] }
of_start id (Some (starts.Number z)) = if int_eq z (pos 0) then record empty { zeros = id ∷ [] }
    else record empty { others = record { field = id; value = z } ∷ [] }

-- a field by the name of its class, its own name and its descriptor
abbrev pub field_id : (class : List ℕ) → FieldTree → MemberId
field_id class f = record { class = class; name = f.name; desc = f.desc }

-- fields of a class in the order of its file, the first of which has this place
abbrev pub of_fields : (class : List ℕ) → List Held → (place : ℕ) → List FieldTree → StaticImage
of_fields class fields k [] = empty
of_fields class fields k (f ∷ fs) = joined (of_start (field_id class f) (start_of f (held_in (slice_get fields k))))
    (of_fields class fields (k + 1) fs)

-- what the fields of a class hold, nothing where there is no class
abbrev pub fields_in : Option (List Held) → List Held
fields_in None = []
fields_in (Some fields) = fields

-- classes in list order, the first of which has this number
abbrev pub of_classes : List (List Held) → (number : ℕ) → List ClassTree → StaticImage
of_classes puts n [] = empty
of_classes puts n (c ∷ cs) = joined (of_fields c.name (fields_in (slice_get puts n)) 0 c.fields)
    (of_classes puts (n + 1) cs)

-- arrays in the order of making, then the fields
abbrev pub image_of : List ClassTree → List ArrayCell → List (List Held) → StaticImage
image_of classes arrays fields = joined (record empty { arrays = arrays }) (of_classes fields 0 classes)

-- The static image of the package whose methods have these instructions, all of whose initialisers are of the form.
pub record IsImage (files : Files) (codes : List MethodCode) (image : StaticImage) : Type 0 where
  pub arrays : List ArrayCell
  pub fields : List (List Held)
  pub initialises : AreInitialised files (map nothing_in files.classes) codes arrays fields
  pub is : image ≡ image_of files.classes arrays fields
