-- What components that bytes spell keep of class_refs, and lists and export files of tokens.
use Rattle.std.specs.Prelude.{◌≡◌, ◌<◌, ◌≤◌, ◌^◌, ℕ, length, slice_get, Some}
use Rattle.cjc_capread.specs.declared.tree.ClassDescriptor.{ClassDescriptor}
use Rattle.cjc_check_rules.specs.ExportFile.declared.tree.ExportClass.{ExportClass}
use Rattle.cjc_check_rules.specs.ExportFile.declared.tree.ExportTree.{ExportTree}
use Rattle.cjc_check_rules.specs.Complete.{Complete}
use Rattle.cjc_world.specs.Files.{Files}
use Rattle.cjc_verified_proof.specs.Entries.{IsRef}
use Rattle.cjc_verified_proof.specs.Suited.{HaveRefs}

-- Entries of the constant pool and the classes of Descriptor name what bytes spell.
pub record AreRefs (c : Complete) : Type 0 where
  pub entries : HaveRefs c
  pub holders : (k : ℕ) (d : ClassDescriptor) → (let x = c.descriptor in slice_get x.classes k ≡ Some d)
      → IsRef d.this_class

-- Package tokens count the export files, and each class token of one has one byte.
pub record AreCounted (files : Files) : Type 0 where
  pub few : length files.exports ≤ 2 ^ 7
  pub tokens : (k : ℕ) (t : ExportTree) → slice_get files.exports k ≡ Some t → (j : ℕ) (x : ExportClass)
      → slice_get t.classes j ≡ Some x → x.token < 2 ^ 8
