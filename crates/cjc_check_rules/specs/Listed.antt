-- Directory and the flags of Header say what is there (Java Card Virtual Machine Specification 2.2.2, 6.3 and 6.4).
use Rattle.std.specs.Prelude.{ℕ, ◌+◌, ◌/◌, List, [], ◌++◌, length, sum_by, Bool, ◌==◌, ◌&&◌, ◌||◌, not, Option, Some}
use Rattle.std.specs.Prelude.{None, is_some}
use Rattle.cjc_capread.specs.declared.tree.Directory.{Directory}
use Rattle.cjc_capread.specs.declared.tree.Applet.{Applet}
use Rattle.cjc_capread.specs.declared.tree.ArrayInit.{ArrayInit}
use Rattle.cjc_capread.specs.declared.tree.Import.{Import}
use Rattle.cjc_capread.specs.declared.tree.StaticField.{StaticField}
use Rattle.cjc_capread.specs.declared.tree.CapTree.{CapTree}
use Rattle.cjc_export.specs.Bytes.AccessFlags.{has}
use Rattle.cjc_export.specs.Members.{same_bool}
use Rattle.cjc_check_rules.specs.Spots.{ComponentPlace, in_info, unless, beside}
use Rattle.cjc_check_rules.specs.Complete.{size_items}

-- ---- 701

-- Applet, Export and Debug
abbrev pub may_be_absent : (tag : ℕ) → Bool
may_be_absent tag = tag == 3 || tag == 10 || tag == 12

-- Directory has this size for the tag, and the component has that one
abbrev pub size_agrees : (tag told own : ℕ) → Bool
size_agrees tag told own = told == own && (may_be_absent tag || not (own == 0))

-- the sizes of the tags from 1 on, of two bytes each
abbrev pub size_spots : (at told own : ℕ) → List ComponentPlace
size_spots at told own = unless (size_agrees (1 + at / 2) told own) (in_info 2 at)

-- Directory's sizes beside those of the components, tag by tag
abbrev pub sizes_agree : (told own : List ℕ) → List ComponentPlace
sizes_agree told own = beside (λ t. 2) size_spots 0 told own

-- the bytes of all arrays
abbrev pub array_bytes : List ArrayInit → ℕ
array_bytes arrays = sum_by (λ a. length a.values) arrays

-- the numbers that StaticField says too
abbrev pub statics_agree : Directory → Option StaticField → List ComponentPlace
statics_agree d None = []
statics_agree d (Some s) =
    unless (d.image_size == s.image_size) (in_info 2 24)
    ++ unless (d.array_init_count == length s.array_inits) (in_info 2 26)
    ++ unless (d.array_init_size == array_bytes s.array_inits) (in_info 2 28)

-- the number of imported packages is that of Import
abbrev pub imports_agree : Directory → Option Import → List ComponentPlace
imports_agree d None = []
imports_agree d (Some i) = unless (d.import_count == length i.packages) (in_info 2 30)

-- the number of applets, 0 where Applet is absent
abbrev pub applet_count : Option Applet → ℕ
applet_count None = 0
applet_count (Some a) = length a.applets

-- the number of applets is that of Applet
abbrev pub applets_agree : Directory → Option Applet → List ComponentPlace
applets_agree d a = unless (d.applet_count == applet_count a) (in_info 2 31)

-- 701. Directory has the size of each component and 0 of each absent one, and no component but Applet and Export is
-- absent. Its other
-- numbers are those of StaticField, Import and Applet. Broken is the item of Directory.
abbrev pub directory_spots : CapTree → List ComponentPlace
directory_spots cap =
    sizes_agree cap.directory.component_sizes (size_items cap)
    ++ statics_agree cap.directory cap.statics
    ++ imports_agree cap.directory cap.import
    ++ applets_agree cap.directory cap.applet

-- ---- 702

-- ACC_EXPORT among the flags of Header
abbrev pub acc_export : ℕ
acc_export = 2

-- ACC_APPLET among the flags of Header
abbrev pub acc_applet : ℕ
acc_applet = 4

-- 702. ACC_APPLET is set exactly where Applet is there, ACC_EXPORT exactly where Export is. Broken are the flags,
-- behind the magic
-- number and the version of the format.
abbrev pub flags_spots : CapTree → List ComponentPlace
flags_spots cap =
    unless (same_bool (has cap.header.flags acc_applet) (is_some cap.applet)
    && same_bool (has cap.header.flags acc_export) (is_some cap.export)) (in_info 1 6)
