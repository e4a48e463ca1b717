-- Directory, and all components.
use Rattle.std.proofs.Common.{◌≡◌, ℕ, ◌^◌, ◌<◌, ◌≤◌, refl, length, arith}
use Rattle.std.specs.Prelude.{replicate}
use Rattle.std.specs.List.{AllByRecursion}
use Rattle.cjc_pool.specs.CapWrite.Package.{directory_bytes}
use Rattle.cjc_pool.specs.CapWrite.Fits.{DirectoryFits, Fits2}
use Rattle.cjc_pool.specs.CapWrite.Writable.{IsWritable}
use Rattle.cjc_components.proofs.CapWriteLengths.{directory_length}
use Rattle.cjc_components.specs.Components.{components_of, directory_with, sizes}
use Rattle.cjc_components.specs.Package.{Package}
use Rattle.cjc_check_proof.specs.Limits.Premises.{IsLimited}
use Rattle.cjc_check_proof.proofs.LimitsLaws.Limits.{components_short, sizes_kept}
use Rattle.cjc_check_proof.proofs.LimitsLaws.Package.{applet_fits, header_fits, import_fits}
use Rattle.cjc_check_proof.proofs.LimitsLaws.Pool.{pool_fits}
use Rattle.cjc_check_proof.proofs.LimitsLaws.Statics.{array_bytes_low, arrays_few, image_low, statics_fit}
use Rattle.cjc_check_proof.proofs.LimitsLaws.Locations.{locations_fit}
use Rattle.cjc_check_proof.proofs.LimitsLaws.Exports.{export_fits}
use Rattle.cjc_check_proof.proofs.LimitsLaws.Classes.{classes_fit}
use Rattle.cjc_check_proof.proofs.LimitsLaws.Methods.{method_fits, method_low}
use Rattle.cjc_check_proof.proofs.LimitsLaws.Described.{descriptor_fits}

low : (n : ℕ) → n ≤ 65535 → n < 2 ^ 16
low n le = omega (arith, le)

lower : (n : ℕ) → n ≤ 32767 → n < 2 ^ 16
lower n le = omega (arith, le)

module _ (p : Package) (h : IsLimited p) where
  -- Directory itself, whatever sizes it has
  own_size : length (directory_bytes (directory_with (replicate 12 0) p)) ≤ 65535
  own_size =
      let l = directory_length (directory_with (replicate 12 0) p) in
      let twelve : length (replicate {A = ℕ} 12 0) ≡ 12 = refl in
      omega (arith, l, twelve)

  sizes_fit : AllByRecursion Fits2 (sizes p)
  sizes_fit = let s = components_short p (sizes_kept p h.limits) in (
    low _ s.header,
    (
      low _ own_size,
      (
        low _ s.applet,
        (
          low _ s.import,
          (
            low _ s.pool,
            (
              lower _ s.class,
              (
                low _ (method_low p h),
                (
                  low _ s.statics,
                  (low _ s.locations, (low _ s.export, (low _ s.descriptor, (low 0 (omega arith), tt)))),
                ),
              ),
            ),
          ),
        ),
      ),
    ),
  )

  pub directory_fits : DirectoryFits (directory_with (sizes p) p)
  directory_fits = record {
    twelve = refl;
    component_sizes = sizes_fit;
    image_size = image_low p h;
    array_init_count = arrays_few p h;
    array_init_size = array_bytes_low p h;
  }

  pub all_fit : IsWritable (components_of p)
  all_fit = record {
    header = header_fits p h;
    directory = directory_fits;
    applet = applet_fits p h;
    import = import_fits p h;
    pool = pool_fits p h;
    class = classes_fit p h;
    method = method_fits p h;
    statics = statics_fit p h;
    locations = locations_fit p h;
    export = export_fits p h;
    descriptor = descriptor_fits p h;
  }
