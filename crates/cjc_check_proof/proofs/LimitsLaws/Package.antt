-- Header, Applet and Import.
use Rattle.std.proofs.Common.{◌≡◌, ℕ, ◌<◌, ◌≤◌, ◌^◌, refl, Bool, true, false, List, [], ◌∷◌, length, map, arith}
use Rattle.std.specs.Prelude.{nat_le, ◌&&◌, Some, None, IfSome, codes, if◌then◌else◌}
use Rattle.std.proofs.lemmas.Bool.Decides.{nat_tests}
use Rattle.std.specs.List.{AllByRecursion}
use Rattle.std.proofs.lemmas.List.{length-map}
use Rattle.cjc_pool.specs.CapWrite.Fits.{AppletEntryFits, AppletFits, HeaderFits, ImportedPackageFits, ImportFits}
use Rattle.cjc_world.specs.ExportFile.Pool.{aid_length}
use Rattle.cjc_components.specs.Package.{Package}
use Rattle.cjc_components.specs.Components.{applet, applet_entry, applet_with, header, import, imported_package}
use Rattle.cjc_check_proof.specs.Limits.Premises.{IsLimited}
use Rattle.cjc_bytes.specs.declared.settings.AppletLine.{AppletLine}
use Rattle.cjc_bytes.proofs.Gets.{all_at}
use Rattle.cjc_bytes.proofs.Bools.{both_back}
use Rattle.cjc_world.specs.Lookup.{find_method}
use Rattle.cjc_check_proof.proofs.LimitsLaws.Lists.{all_mapped}
use Rattle.cjc_check_proof.proofs.LimitsLaws.Refs.{where_low}

module _ (p : Package) (h : IsLimited p) where
  pub header_fits : HeaderFits (header p)
  header_fits = let l = h.list in let a = l.aid in let n = l.name in let list = p.list in record {
    aid = (let lt : length list.aid < 2 ^ 8 = omega (arith, a) in lt);
    name = (let lt : length list.«package» < 2 ^ 8 = omega (arith, n) in lt);
  }

  aid_short : (n : ℕ) → aid_length n ≡ Some n → n < 2 ^ 8
  aid_short n e = by (nat_le 5 n && nat_le n 16) refl e
    where
      by : (b : Bool) → (nat_le 5 n && nat_le n 16) ≡ b → (if b then Some n else None) ≡ Some n → n < 2 ^ 8
      by true f g = let low : nat_le n 16 ≡ true = both_back (nat_le 5 n) (nat_le n 16) f in let le : n ≤ 16 =
          grind (arith, nat_tests, low) in omega (arith, le)
      by false f g = cc

  pub import_fits : ImportFits (import p)
  import_fits = let files = p.files in record {
    count = (let few = h.few_imports in let same = length-map files.exports imported_package
        in let lt : length (map imported_package files.exports) < 2 ^ 8 = omega (arith, few, same) in lt);
    packages = all_mapped ImportedPackageFits imported_package files.exports
        (λ k t e. record { aid = (let w = h.exports k t e in aid_short (length t.aid) w.aid) });
  }

  entry_fits : (a : AppletLine) → length a.aid ≤ 16 → AppletEntryFits (applet_entry p a)
  entry_fits a short = record {
    aid = (let lt : length a.aid < 2 ^ 8 = omega (arith, short) in lt);
    install_method = where_low p h (find_method _ a.class (codes "install") (codes "([BSB)V"));
  }

  applets_fit : (xs : List AppletLine) → length xs ≤ 255 → AllByRecursion (λ (a : AppletLine). length a.aid ≤ 16) xs
      → IfSome (applet_with p xs) AppletFits
  applets_fit [] few short = tt
  applets_fit (a ∷ xs) few short = record {
    count = (let same = length-map (a ∷ xs) (applet_entry p) in let lt : length (map (applet_entry p) (a ∷ xs)) < 2 ^
        8 = omega (arith, few, same) in lt);
    applets = all_mapped AppletEntryFits (applet_entry p) (a ∷ xs) (λ k b e. entry_fits b
        (all_at (λ (a : AppletLine). length a.aid ≤ 16) (a ∷ xs) k b short e));
  }

  pub applet_fits : IfSome (applet p) AppletFits
  applet_fits = let l = h.list in let list = p.list in applets_fit list.applets l.few_applets l.applets
