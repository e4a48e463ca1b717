-- Directory and the flags of Header say what is there (Java Card Virtual Machine Specification 2.2.2, 6.3 and 6.4).
use Rattle.std.specs.Prelude.{ℕ, List, length, map, sum_by, Bool, false, ◌==◌, ◌&&◌, Option, Some, None, is_some}
use Rattle.std.specs.List.{range_with_len}
use Rattle.std.specs.Str.{bytes_eq}
use Rattle.cjc_capread.specs.declared.tree.Directory.{Directory}
use Rattle.cjc_capread.specs.declared.tree.Applet.{Applet}
use Rattle.cjc_capread.specs.declared.tree.CapTree.{CapTree}
use Rattle.cjc_capwrite.specs.Size.{info_of}
use Rattle.cjc_bytes.specs.AccessFlags.{has}
use Rattle.cjc_export.specs.Members.{same_bool}
use Rattle.cjc_first.specs.Sentences.Complete.{Complete, complete}

-- the size item of each tag from 1 to 12, 0 where the component is absent; Debug, 12, always is
abbrev pub size_items : CapTree → List ℕ
size_items cap = map (λ tag. length (info_of cap tag)) (range_with_len 1 12)

abbrev pub applet_count : Option Applet → ℕ
applet_count None = 0
applet_count (Some a) = length a.applets

-- the numbers of Directory other than the sizes
abbrev pub counts_agree : Directory → Complete → Bool
counts_agree d c =
    d.image_size == c.statics.image_size
    && d.array_init_count == length c.statics.array_inits
    && d.array_init_size == sum_by (λ a. length a.values) c.statics.array_inits
    && d.import_count == length c.import.packages
    && d.applet_count == applet_count c.applet

abbrev pub complete_agrees : Directory → Option Complete → Bool
complete_agrees d None = false
complete_agrees d (Some c) = counts_agree d c

-- 701. Directory has the size of each component and 0 of each absent one, and no component but Applet and Export is absent.
-- Its other numbers are those of StaticField, Import and Applet.
unfoldable pub directory_agrees : CapTree → Bool
directory_agrees cap = bytes_eq cap.directory.component_sizes (size_items cap) && complete_agrees cap.directory (complete cap)

-- 702. ACC_APPLET is set exactly where Applet is there, ACC_EXPORT exactly where Export is.
unfoldable pub flags_agree : CapTree → Bool
flags_agree cap = same_bool (has cap.header.flags 4) (is_some cap.applet) && same_bool (has cap.header.flags 2) (is_some cap.export)
