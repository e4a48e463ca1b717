-- ReferenceLocation.
use Rattle.std.proofs.Common.{◌^◌, ◌<◌, ◌≤◌, length, arith}
use Rattle.cjc_pool.specs.CapWrite.Fits.{LocationsFit}
use Rattle.cjc_pool.specs.CapWrite.Statics.{reference_location_bytes}
use Rattle.cjc_components.proofs.CapWriteLengths.{locations_length}
use Rattle.cjc_components.specs.Package.{Package}
use Rattle.cjc_components.specs.Components.{reference_location}
use Rattle.cjc_check_proof.specs.Limits.Premises.{IsLimited}
use Rattle.cjc_check_proof.proofs.LimitsLaws.Limits.{components_short, sizes_kept}

module _ (p : Package) (h : IsLimited p) where
  short : length (reference_location_bytes (reference_location p)) ≤ 65535
  short = let s = components_short p (sizes_kept p h.limits) in s.locations

  pub locations_fit : LocationsFit (reference_location p)
  locations_fit = let x = reference_location p in
      let s = short in
      let l = locations_length x in
      record {
        one_byte = (let lt : length x.one_byte < 2 ^ 16 = omega (arith, s, l) in lt);
        two_byte = (let lt : length x.two_byte < 2 ^ 16 = omega (arith, s, l) in lt);
      }
