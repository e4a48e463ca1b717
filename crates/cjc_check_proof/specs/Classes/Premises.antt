-- What laws on components rest on, where the converter's rules promise it.
use Rattle.std.specs.Prelude.{◌≡◌, ◌≤◌, ℕ, List, Bool, true, false, ◌&&◌, length, slice_get, Option, Some, None}
use Rattle.std.specs.Prelude.{is_some, ◌+◌, sum_by}
use Rattle.std.specs.List.{list_all}
use Rattle.cjc_bytes.specs.AccessFlags.{is_interface}
use Rattle.cjc_bytes.specs.declared.settings.AppletLine.{AppletLine}
use Rattle.cjc_world.specs.ExportFile.declared.tree.ExportClass.{ExportClass}
use Rattle.cjc_pool.specs.Subset.Applets.{is_unfit_applet}
use Rattle.cjc_token_proof.specs.Script.Sorts.{Shape, OfClass, OfNumbers, OfReferences, Sort, Boolean, Byte, Short, Int}
use Rattle.cjc_token_proof.specs.Script.Sorts.{Reference}
use Rattle.cjc_token_proof.specs.Script.Sorts.{NoValue, Signature, field_sort, signature_of}
use Rattle.cjc_check_rules.specs.Complete.{class_info_size}
use Rattle.cjc_world.specs.Classes.{Class, Member, class_named, imported}
use Rattle.cjc_tokens.specs.Methods.{interface_methods, is_open_bound}
use Rattle.cjc_ncode.specs.declared.narrow.PoolKey.{PoolKey}
use Rattle.cjc_ncode.specs.declared.narrow.PoolKey.TheVariants as keys
use Rattle.cjc_pool.specs.CapWrite.Files.{ends_too_far}
use Rattle.cjc_components.specs.Package.{Package, pool, world}
use Rattle.cjc_components.specs.Class.{class_info}
use Rattle.cjc_components.specs.Methods.{first_method, method_size}
use Rattle.cjc_components.specs.Names.{class_ref}
use Rattle.cjc_components.specs.Types.{all_descs}
use Rattle.cjc_components.specs.Descriptor.{descriptor}

-- ---- names

-- some file has the class
abbrev pub is_known : List Class → (name : List ℕ) → Bool
is_known w name = is_some (class_named w name)

-- the class of a key's entry, where that has one
abbrev pub names_known : List Class → PoolKey → Bool
names_known w (keys.Class c) = is_known w c
names_known w (keys.Field f) = is_known w f.class
names_known w (keys.Virtual m) = is_known w m.class
names_known w (keys.Super m) = is_known w m.class
names_known w (keys.StaticField f) = true
names_known w (keys.StaticMethod m) = true

-- code names classes that some file has
abbrev pub KeysAreKnown : Package → Type 0
KeysAreKnown p = (k : ℕ) (key : PoolKey) → slice_get (pool p) k ≡ Some key → names_known (world p) key ≡ true

-- the class of a type, of an array the class of its elements
abbrev pub shape_known : (known : List ℕ → Bool) → Shape (List ℕ) → Bool
shape_known known (OfClass class) = known class
shape_known known (OfReferences class) = known class
shape_known known (OfNumbers element) = true

-- the class that a type names is known; a primitive names none
abbrev pub sort_known : (known : List ℕ → Bool) → Sort → Bool
sort_known known Boolean = true
sort_known known Byte = true
sort_known known Short = true
sort_known known Int = true
sort_known known (Reference shape) = shape_known known shape
sort_known known NoValue = true

-- the class that a result names is known; void names none
abbrev pub result_known : (known : List ℕ → Bool) → Option Sort → Bool
result_known known None = true
result_known known (Some sort) = sort_known known sort

-- those of a field's type, or of a method's parameters and its result
abbrev pub types_known : (known : List ℕ → Bool) → (desc : List ℕ) → Option Signature → Bool
types_known known desc None = sort_known known (field_sort desc)
types_known known desc (Some types) = list_all (sort_known known) types.params && result_known known types.result

-- descriptors name classes that some file has
abbrev pub TypesAreKnown : Package → Type 0
TypesAreKnown p = (k : ℕ) (desc : List ℕ) → slice_get (all_descs p) k ≡ Some desc
    → types_known (is_known (world p)) desc (signature_of desc) ≡ true

-- ---- limits

-- Class has at most 32,767 bytes, and at most 128 packages are imported
pub record HasShortRefs (p : Package) : Type 0 where
  pub few_bytes : class_info_size (class_info (class_ref p) p) ≤ 32767
  pub few_imports : (let files = p.files in length files.exports ≤ 128)

-- type descriptors have offsets up to 32,767
abbrev pub HasNearTypes : Package → Type 0
HasNearTypes p = ends_too_far (Some (descriptor p)) ≡ false

-- ---- applets

-- The class of each applet line is one of the package with an install method, as its rule has it, and it is no
-- interface.
abbrev pub HaveInstalls : Package → Type 0
HaveInstalls p =
    (k : ℕ) (a : AppletLine) → (let list = p.list in slice_get list.applets k ≡ Some a)
    → (is_unfit_applet (world p) a.class ≡ false) × ((c : Class) → class_named (world p) a.class ≡ Some c
    → is_interface c.flags ≡ false)

-- ---- methods

-- No interface of the package has a public or protected static method or constructor, its initialiser aside.
abbrev pub InterfacesAreUnbound : Package → Type 0
InterfacesAreUnbound p =
    (x : List ℕ) (c : Class) → class_named (world p) x ≡ Some c → c.is_imported ≡ false → is_interface c.flags ≡ true
    → (k : ℕ) (m : Member) → slice_get c.methods k ≡ Some m → is_open_bound m ≡ false

-- An imported interface has the methods that its export file lists, each once.
abbrev pub ImportsAreWhole : Package → Type 0
ImportsAreWhole p =
    (y : List ℕ) (k : ℕ) (e : ExportClass) → class_named (world p) y ≡ Some (imported k e) → is_interface e.flags ≡ true
    → length (interface_methods (world p) (imported k e)) ≡ length e.methods

-- Method has at most 65,535 bytes
abbrev pub HasShortMethods : Package → Type 0
HasShortMethods p = first_method p.methods + sum_by method_size p.methods ≤ 65535
