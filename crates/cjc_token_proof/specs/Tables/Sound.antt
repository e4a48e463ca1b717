-- Packages of read files that break no rule of classes and names.
use Rattle.std.specs.Prelude.{◌≡◌, ◌≤◌, ◌<◌, ◌^◌, ℕ, List, [], length, count_by, not, false, slice_get, Some, true}
use Rattle.std.specs.Prelude.{is_some}
use Rattle.cjc_bytes.specs.Descriptor.{Parts}
use Rattle.cjc_bytes.specs.Spots.{desc_of}
use Rattle.cjc_bytes.specs.declared.settings.FileLine.{FileLine}
use Rattle.cjc_world.specs.ExportFile.declared.tree.ExportClass.{ExportClass}
use Rattle.cjc_card_semantics.specs.Machine.ByToken.{letter_of}
use Rattle.cjc_world.specs.ClassFile.declared.tree.ClassTree.{ClassTree}
use Rattle.cjc_world.specs.ClassFile.declared.tree.FieldTree.{FieldTree}
use Rattle.cjc_script.specs.Sorts.{field_sort}
use Rattle.cjc_tokens.specs.Fields.{is_reference}
use Rattle.cjc_token_proof.specs.ByToken.Objects.{is_reference as is_reference_sort}
use Rattle.cjc_world_proof.specs.Subset.Members.{imports}
use Rattle.cjc_world.specs.Subtype.{starts}
use Rattle.cjc_world.specs.Files.{Files}
use Rattle.cjc_world.specs.Rules.{breaks}
use Rattle.cjc_vtable.specs.Kept.{AreRead}
use Rattle.cjc_world_proof.specs.ClassOrder.Classes.Numbers.{class_count}

-- how many lines name export files
abbrev pub export_count : List FileLine → ℕ
export_count lines = count_by (λ (line : FileLine). not line.class_file) lines

-- The list names each class file and each export file, all are read ones, and the package breaks none of 201 to 204,
-- 207 and 208. The list's name is that of its file.
pub record IsSound (list : List ℕ) (files : Files) : Type 0 where
  pub classes : length files.classes ≤ class_count files.lines
  pub exports : length files.exports ≤ export_count files.lines
  pub read : AreRead files
  -- no class of an export file is named as an array is
  pub names : (k : ℕ) (c : ExportClass) → slice_get (imports files.exports) k ≡ Some c → starts 91 c.name ≡ false
  pub unbroken : breaks list files ≡ []

-- A descriptor is of a type that values have: a class or an array where it begins so, else a number.
pub record IsTyped (desc : List ℕ) : Type 0 where
  pub some : is_some (letter_of (field_sort desc)) ≡ true
  pub reference : is_reference_sort (field_sort desc) ≡ is_reference desc

-- each field of the class files is of such a type
abbrev pub AreTyped : Files → Type 0
AreTyped files = (n k : ℕ) (c : ClassTree) (f : FieldTree) → slice_get files.classes n ≡ Some c → slice_get c.fields k
    ≡ Some f → IsTyped f.desc

-- The descriptor of a field, as a class file gives it: one of a field, which 32 bits count.
pub record IsFieldDesc (desc : List ℕ) : Type 0 where
  pub parts : Parts
  pub is_desc : desc_of desc ≡ Some parts
  pub is_field : parts.is_method ≡ false
  pub short : length desc < 2 ^ 32

-- each field of the class files has such a descriptor
abbrev pub AreFieldDescs : Files → Type 0
AreFieldDescs files = (n k : ℕ) (c : ClassTree) (f : FieldTree) → slice_get files.classes n ≡ Some c
    → slice_get c.fields k ≡ Some f → IsFieldDesc f.desc
