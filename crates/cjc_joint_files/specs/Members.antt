-- Packages that were converted, as members of a group by name: by their class files and the least tables of their
-- methods.
use Rattle.std.specs.Prelude.{◌≡◌, List, [], ◌∷◌, Some}
use Rattle.cjc_components.specs.Package.{Package, pool}
use Rattle.cjc_joint_theorem.specs.Members.{Member}
use Rattle.cjc_jvm_semantics.specs.Linked.{Method}
use Rattle.cjc_jvm_semantics.specs.OnePackage.{method_at}
use Rattle.cjc_narrow_proof.specs.Runs.Tables.{narrow_codes}
use Rattle.cjc_token_proof.specs.Narrow.Rows.Selected.{near_fields}
use Rattle.cjc_token_proof.specs.WrittenCalls.Standing.{laid_code}
use Rattle.cjc_world.specs.declared.found.Found.{Found}

-- A package by its class files, its static image and those of its instance fields that have an index of one byte. The
-- narrow code that its tables give for each method of a class file is what the package has in Method.
pub record IsMemberOf (p : Package) (m : Member) : Type 0 where
  pub files : m.files ≡ p.files
  pub image : m.image ≡ p.image
  pub near : m.near ≡ near_fields (pool p)
  pub codes : (f : Found) (x : Method) → method_at p.files f ≡ Some x
      → narrow_codes p.files (near_fields (pool p)) m.tables x ≡ laid_code p x

-- So it is of each, in order.
abbrev pub AreMembersOf : List Package → List Member → Type 0
AreMembersOf [] [] = Unit {0}
AreMembersOf (p ∷ packages) (m ∷ members) = IsMemberOf p m × AreMembersOf packages members
AreMembersOf packages members = ⊥
