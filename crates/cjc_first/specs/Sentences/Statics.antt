-- Install methods and the static field image (Java Card Virtual Machine Specification 2.2.2, 6.5 and 6.10).
use Rattle.std.specs.Prelude.{ℕ, ◌+◌, ◌*◌, ◌%◌, List, [], length, Bool, nat_le, ◌==◌, ◌&&◌, if◌then◌else◌, Option, Some, None}
use Rattle.std.specs.List.{list_all}
use Rattle.cjc_capread.specs.declared.tree.Applet.{Applet}
use Rattle.cjc_capread.specs.declared.tree.AppletEntry.{AppletEntry}
use Rattle.cjc_capread.specs.declared.tree.ArrayInit.{ArrayInit}
use Rattle.cjc_first.specs.Sentences.Complete.{Complete}
use Rattle.cjc_first.specs.Sentences.Members.{is_static_start}

abbrev pub applets_of : Option Applet → List AppletEntry
applets_of None = []
applets_of (Some a) = a.applets

-- 715. The offsets of install methods are starts of static methods.
unfoldable pub installs_are_static : Complete → Bool
installs_are_static c = list_all (λ a. is_static_start c a.install_method) (applets_of c.applet)

-- the bytes of an element: of a short, 4, two, of an int, 5, four, else one
abbrev pub element_size : (type_ : ℕ) → ℕ
element_size type_ = if type_ == 4 then 2 else if type_ == 5 then 4 else 1

abbrev pub array_fits : ArrayInit → Bool
array_fits a = length a.values % element_size a.type_ == 0

-- 716. The image has two bytes for each reference and the bytes of the primitives. There are no more arrays than references, and each
-- array has whole elements.
unfoldable pub image_adds_up : Complete → Bool
image_adds_up c =
    c.statics.image_size == 2 * c.statics.reference_count + c.statics.default_value_count + length c.statics.values
    && nat_le (length c.statics.array_inits) c.statics.reference_count
    && list_all array_fits c.statics.array_inits
