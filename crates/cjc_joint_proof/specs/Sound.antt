-- Packages each of which breaks no rule of classes and names, and whose names differ.
use Rattle.std.specs.Prelude.{◌≡◌, ℕ, List, Some, slice_get}
use Rattle.cjc_exported.specs.World.Files.{Files}
use Rattle.cjc_token_proof.specs.Tables.Sound.{IsSound}

-- a package that breaks none, by its list
pub record IsSoundPackage (p : Files) : Type 0 where
  pub list : List ℕ
  pub sound : IsSound list p

pub record AreSound (group : List Files) : Type 0 where
  pub each : (i : ℕ) (p : Files) → slice_get group i ≡ Some p → IsSoundPackage p
  pub names : (i j : ℕ) (p m : Files) → slice_get group i ≡ Some p → slice_get group j ≡ Some m
      → p.package_name ≡ m.package_name → i ≡ j
