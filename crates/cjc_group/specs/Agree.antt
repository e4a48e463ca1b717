-- What a group that breaks none of 731 to 734 keeps: its packages link with one another as they were converted.
use Rattle.std.specs.Prelude.{◌≡◌, ◌⊎◌, ◌<◌, ℕ, true, false, List, Some, slice_get}
use Rattle.cjc_world.specs.ExportFile.declared.tree.ExportClass.{ExportClass}
use Rattle.cjc_world.specs.ExportFile.declared.tree.ExportTree.{ExportTree}
use Rattle.cjc_group.specs.Members.{Member}
use Rattle.cjc_group.specs.Rules.{is_outside, stands_below}

-- The package at this place of the group imports the export file at this place of its list.
pub record Imports (group : List Member) (i : ℕ) (p : Member) (k : ℕ) (t : ExportTree) : Type 0 where
  pub member : slice_get group i ≡ Some p
  pub tree : slice_get p.files.exports k ≡ Some t

-- The export file is what is written for a package before this place.
pub record IsWrittenBefore (group : List Member) (i : ℕ) (t : ExportTree) : Type 0 where
  pub place : ℕ
  pub exporter : Member
  pub before : place < i
  pub is : slice_get group place ≡ Some exporter
  pub written : t ≡ exporter.written

pub record Agree (group : List Member) : Type 0 where
  -- what is imported is what is written for a package before, or is of no package of the group
  pub imports : (i k : ℕ) (p : Member) (t : ExportTree) → Imports group i p k t → IsWrittenBefore group i t
      ⊎ (is_outside group t ≡ true)
  -- packages differ by their names and by their AIDs
  pub names : (i j : ℕ) (p m : Member) → slice_get group i ≡ Some p → slice_get group j ≡ Some m → j < i
      → p.list.«package» ≡ m.list.«package» → ⊥
  pub aids : (i j : ℕ) (p m : Member) → slice_get group i ≡ Some p → slice_get group j ≡ Some m → j < i
      → p.list.aid ≡ m.list.aid → ⊥
  -- a package outside the group is the same for all, and knows no class of the group
  pub outside : (i j k n : ℕ) (p m : Member) (t u : ExportTree) → Imports group i p k t → Imports group j m n u
      → j < i → is_outside group t ≡ true → is_outside group u ≡ true → (t.name ≡ u.name) ⊎ (t.aid ≡ u.aid) → t ≡ u
  pub above : (i k n : ℕ) (p : Member) (t : ExportTree) (c : ExportClass) → Imports group i p k t
      → is_outside group t ≡ true → slice_get t.classes n ≡ Some c → stands_below group c ≡ false
