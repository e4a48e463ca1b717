-- Converted packages that break no rule together, over fair files, are a group: each is sound, has the name that its list
-- gives and its classes in order, and runs by itself.
use Rattle.std.proofs.Common.{◌≡◌, ℕ, sym, ap, ◌∙◌, List, Some}
use Rattle.std.specs.Prelude.{slice_get}
use Rattle.cjc_components.specs.Package.{Package, world}
use Rattle.cjc_joint_proof.specs.Sound.{IsSoundPackage}
use Rattle.cjc_joint_whole.specs.Above.{FindsAbove}
use Rattle.cjc_joint_whole.specs.Faces.{FacesSelect, InterfacesAreKnown}
use Rattle.cjc_joint_whole.specs.Grouped.{AreGrouped, OutsideIsFair}
use Rattle.cjc_joint_whole.specs.Linking.{KeepGroupRules}
use Rattle.cjc_joint_whole.specs.Selected.{SelectsAlone}
use Rattle.cjc_shape_proof.proofs.WrittenLaws.Files.{files_sound}
use Rattle.cjc_shape_proof.proofs.WrittenLaws.Worlds.{own_ordered}
use Rattle.cjc_token_proof.specs.List.Listed.{ListTree}
use Rattle.cjc_vtable.specs.Meant.{HaveOneAccess}
use Rattle.cjc_world.specs.Files.{Files}
use Rattle.cjc_world.specs.Upwards.{IsOrdered}
use Rattle.cjc_joint_files.specs.Fair.{AreFairTogether}
use Rattle.cjc_joint_files.specs.Written.{AreWrittenTogether, IsWritten}

pub package_sound : (p : Package) → IsWritten p → IsSoundPackage p.files
package_sound p w = record { list = (let l = w.list in l.name); sound = files_sound w.list w.files w.judged p w.converted }

pub package_ordered : (p : Package) → IsWritten p → IsOrdered (world p)
package_ordered p w = own_ordered w.list w.files w.judged p w.converted

-- the package has the name that its list gives
package_named : (p : Package) → IsWritten p → (let list = p.list in list.«package») ≡ (let f = p.files in f.package_name)
package_named p w =
    let c = w.converted in
    let laid = c.is_package in
    let written = laid.is_package in
    let spelt = laid.spelt in
    ap (λ (l : ListTree). l.«package») written.by_list ∙ sym (ap (λ (f : Files). f.package_name) spelt.world_is)

module _ (packages : List Package) (are : AreWrittenTogether packages) (fair : AreFairTogether packages) where
  pub keeps : KeepGroupRules packages
  keeps = record {
    each = λ q p here. package_sound p (are.each q p here);
    names = λ q p here. package_named p (are.each q p here);
    unbroken = are.unbroken;
    free = are.free;
    outside = fair.outside;
  }

module _ (packages : List Package) (are : AreWrittenTogether packages) (fair : AreFairTogether packages)
    (alone : (p : Package) → IsWritten p → SelectsAlone p) (faces : (p : Package) → IsWritten p → FacesSelect p)
    (access : (p : Package) → IsWritten p → HaveOneAccess (world p))
    (above : (q : ℕ) (p : Package) → slice_get packages q ≡ Some p → FindsAbove p)
    (known : InterfacesAreKnown packages) where
  outside_fair : OutsideIsFair packages
  outside_fair = record {
    supers = fair.supers;
    interfaces = fair.interfaces;
    exposed = λ k i e m at ground has virtual. fair.exposed k i e m at has;
    told = fair.told;
  }

  pub are_grouped : AreGrouped packages
  are_grouped = record {
    keeps = keeps packages are fair;
    each = λ q p here. alone p (are.each q p here);
    above = above;
    ordered = λ q p here. package_ordered p (are.each q p here);
    fair = outside_fair;
    open_interfaces = fair.open_interfaces;
    faces = λ q p here. faces p (are.each q p here);
    access = λ q p here. access p (are.each q p here);
    known = known;
  }
