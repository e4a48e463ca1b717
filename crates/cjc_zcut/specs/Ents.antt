-- Scratch.
use Rattle.std.specs.Prelude.{◌≡◌, ◌<◌, ◌≤◌, ◌^◌, ℕ, Bool, length, slice_get, Some}
use Rattle.cjc_capread.specs.declared.tree.ClassRef.{ClassRef}
use Rattle.cjc_capread.specs.declared.tree.ClassRef.TheVariants.{Inside, Outside}
use Rattle.cjc_capread.specs.declared.tree.ClassDescriptor.{ClassDescriptor}
use Rattle.cjc_check_rules.specs.ExportFile.declared.tree.ExportClass.{ExportClass}
use Rattle.cjc_check_rules.specs.ExportFile.declared.tree.ExportTree.{ExportTree}
use Rattle.cjc_check_rules.specs.Complete.{Complete}
use Rattle.cjc_world.specs.Files.{Files}
abbrev pub IsRef : ClassRef → Type 0
IsRef (Inside offset) = offset < 2 ^ 15
IsRef (Outside import class) = (import < 2 ^ 7) × (class < 2 ^ 8)
pub record AreRefs (c : Complete) : Type 0 where
  pub holders : (k : ℕ) (d : ClassDescriptor) → (let x = c.descriptor in slice_get x.classes k ≡ Some d)
      → IsRef d.this_class
pub record AreCounted (files : Files) : Type 0 where
  pub few : length files.exports ≤ 2 ^ 7
  pub tokens : (k : ℕ) (t : ExportTree) → slice_get files.exports k ≡ Some t → (j : ℕ) (x : ExportClass)
      → slice_get t.classes j ≡ Some x → x.token < 2 ^ 8
