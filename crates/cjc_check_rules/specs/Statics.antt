-- Install methods and the static field image (Java Card Virtual Machine Specification 2.2.2, 6.5 and 6.10).
use Rattle.std.specs.Prelude.{ℕ, ◌+◌, ◌*◌, ◌%◌, List, [], ◌++◌, length, nat_le, ◌==◌, if◌then◌else◌, Option, Some, None}
use Rattle.cjc_capread.specs.declared.tree.Applet.{Applet}
use Rattle.cjc_capread.specs.declared.tree.AppletEntry.{AppletEntry}
use Rattle.cjc_capread.specs.declared.tree.ArrayInit.{ArrayInit}
use Rattle.cjc_capread.specs.declared.tree.StaticField.{StaticField}
use Rattle.cjc_check_rules.specs.Spots.{ComponentPlace, in_info, unless, along}
use Rattle.cjc_check_rules.specs.Complete.{Complete, applet_size, array_size}
use Rattle.cjc_check_rules.specs.Members.{is_static_start}

-- ---- 715

-- the applets; none where Applet is absent
abbrev pub applets_of : Option Applet → List AppletEntry
applets_of None = []
applets_of (Some a) = a.applets

-- an applet that begins at this offset
abbrev pub install_spot : Complete → (at : ℕ) → AppletEntry → List ComponentPlace
install_spot c at a = unless (is_static_start c a.install_method) (in_info 3 (at + 1 + length a.aid))

-- 715. The offsets of install methods are starts of static methods. Broken is the offset, behind the AID and its
-- length.
abbrev pub install_spots : Complete → List ComponentPlace
install_spots c =
    along applet_size (install_spot c) 1 (applets_of c.applet)

-- ---- 716

-- the bytes of an element: of a short, 4, two, of an int, 5, four, else one
abbrev pub element_size : (type_ : ℕ) → ℕ
element_size type_ = if type_ == 4 then 2 else if type_ == 5 then 4 else 1

-- an array has whole elements; the number of its bytes stands behind its type
abbrev pub in_array : (at : ℕ) → ArrayInit → List ComponentPlace
in_array at a = unless (length a.values % element_size a.type_ == 0) (in_info 8 (at + 1))

-- 716. The image has two bytes for each reference and the bytes of the primitives. There are no more arrays than
-- references, and each
-- array has whole elements. Broken is the size of the image, the number of arrays, or the number of an array's bytes.
abbrev pub image_spots : StaticField → List ComponentPlace
image_spots s =
    unless (s.image_size == 2 * s.reference_count + s.default_value_count + length s.values) (in_info 8 0)
    ++ unless (nat_le (length s.array_inits) s.reference_count) (in_info 8 4)
    ++ along array_size in_array 6 s.array_inits
