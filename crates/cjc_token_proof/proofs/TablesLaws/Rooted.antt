-- A class of an export file is java/lang/Object, or has it among its superclasses.
use Rattle.std.proofs.Common.{◌≡◌, ℕ, ap, ◌∙◌, true, List, [], ◌∷◌, ◌++◌, inl, inr, ⊎_elim, Some}
use Rattle.std.specs.Prelude.{◌⊎◌, slice_get}
use Rattle.cjc_world.proofs.ExportFileRooted.{has_root, root_there}
use Rattle.cjc_world.specs.ExportFile.Root.{object}
use Rattle.cjc_world.specs.ExportFile.Writable.{ClassFits, EachAfter, IsWritable}
use Rattle.cjc_world.specs.ExportFile.declared.tree.ExportClass.{ExportClass}
use Rattle.cjc_world.specs.ExportFile.declared.tree.ExportTree.{ExportTree}
use Rattle.cjc_world_proof.specs.Subset.Members.{imports}
use Rattle.cjc_vtable.proofs.Filed.{Has, at_front, behind, get-has, has-get, of-imports}
use Rattle.cjc_world.specs.Files.{Files}
use Rattle.cjc_bytes.proofs.Lists.{bytes_true}

class_rooted : (before cs : List ExportClass) (c : ExportClass) → EachAfter ClassFits before cs → Has c cs
    → (c.name ≡ object) ⊎ (has_root c.supers ≡ true)
class_rooted before [] c fits h = elim h [ ]
class_rooted before (d ∷ cs) c fits at_front = ⊎_elim
    (λ e. inl (bytes_true c.name object e))
    (λ e. inr (ap has_root fits.0.supers ∙ e))
    (root_there c.name c.listed)
class_rooted before (d ∷ cs) c fits (behind h) = class_rooted (before ++ d ∷ []) cs c fits.1 h

pub import_root : (files : Files) → ((n : ℕ) (t : ExportTree) → slice_get files.exports n ≡ Some t → IsWritable t)
    → (k : ℕ) (c : ExportClass) → slice_get (imports files.exports) k ≡ Some c → (c.name ≡ object)
    ⊎ (has_root c.supers ≡ true)
import_root files writable k c e =
    let o = of-imports c files.exports (get-has c (imports files.exports) k e) in
    let place = has-get o.0 files.exports o.1 in
    let fits = writable place.0 o.0 place.1 in
    class_rooted [] (let t = o.0 in t.classes) c fits.classes o.2
