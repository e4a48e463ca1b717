-- The files of packages of a group are those of their members, and those at a place are of the package there.
use Rattle.std.proofs.Common.{◌≡◌, ℕ, zero, suc, refl, sym, ap, ◌∙◌, List, [], ◌∷◌, Some}
use Rattle.std.specs.Prelude.{slice_get}
use Rattle.cjc_components.specs.Package.{Package}
use Rattle.cjc_joint_proof.specs.JointPackages.{files_together}
use Rattle.cjc_joint_theorem.specs.Members.{Member, files_of}
use Rattle.cjc_world.specs.Files.{Files}
use Rattle.cjc_joint_files.specs.Members.{AreMembersOf}

pub files_are : (packages : List Package) (members : List Member) → AreMembersOf packages members
    → files_together packages ≡ files_of members
files_are [] [] of = refl
files_are [] (m ∷ members) of = absurd of
files_are (p ∷ packages) [] of = absurd of
files_are (p ∷ packages) (m ∷ members) of =
    ap (λ (fs : List Files). p.files ∷ fs) (files_are packages members of.1)
    ∙ ap (λ (f : Files). f ∷ files_of members) (sym (let one = of.0 in one.files))

pub package_at : (packages : List Package) (q : ℕ) (p : Files) → slice_get (files_together packages) q ≡ Some p
    → (x : Package) × (slice_get packages q ≡ Some x) × (x.files ≡ p)
package_at [] q p e = absurd cc
package_at (x ∷ packages) zero p e = (x, refl, (let same : x.files ≡ p = cc in same))
package_at (x ∷ packages) (suc q) p e = package_at packages q p e
