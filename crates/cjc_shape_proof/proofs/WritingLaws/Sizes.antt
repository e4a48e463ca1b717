-- What a package that breaks neither 411 nor 416 keeps, as it is measured.
use Rattle.std.proofs.Common.{◌≡◌, ℕ, ◌≤◌, refl, Bool, true, false, [], ◌++◌, Option, Some, None}
use Rattle.std.specs.Prelude.{nat_lt, if◌then◌else◌}
use Rattle.std.proofs.lemmas.Bool.{ltb-false}
use Rattle.cjc_bytes.specs.Breaks.{at}
use Rattle.cjc_bytes.proofs.Bools.{or_left, or_right}
use Rattle.cjc_classes.specs.CapWrite.Files.{infos_of, is_too_large, limit_of}
use Rattle.cjc_components.specs.Components.{components_of}
use Rattle.cjc_components.specs.Limits.{has_far_types, has_large_component, size_breaks, spot_of_list, widest_method}
use Rattle.cjc_components.specs.Package.{Package}

module _ (p : Package) (kept : size_breaks p ≡ []) where
  none_broken : (has_far_types p ≡ false) × (has_large_component p ≡ false)
  none_broken = by (has_far_types p) (has_large_component p) kept
    where
      by : (a b : Bool) → at a (spot_of_list p) 411 ++ at b (spot_of_list p) 416 ≡ [] → (a ≡ false) × (b ≡ false)
      by true b e = cc
      by false true e = cc
      by false false e = (refl, refl)

  pub widest_kept : widest_method p ≤ 65535
  widest_kept = ltb-false 65535 (widest_method p) (or_left (nat_lt 65535 (widest_method p))
      (is_too_large (infos_of (components_of p))) none_broken.1)

  pub limit_kept : limit_of (components_of p) ≡ None
  limit_kept = by (has_far_types p) (is_too_large (infos_of (components_of p))) none_broken.0
      (or_right (nat_lt 65535 (widest_method p)) (is_too_large (infos_of (components_of p))) none_broken.1)
    where
      by : (a b : Bool) → a ≡ false → b ≡ false → ◌≡◌ {A = Option ℕ} (if a then Some 411 else if b then Some 416
          else None) None
      by false false e f = refl
      by true b e f = cc
      by false true e f = cc
