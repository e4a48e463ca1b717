-- What is converted of a package none of whose methods is in int mode, by modes and without them.
use Rattle.std.proofs.Common.{◌≡◌, ◌∙◌, ℕ, List, false, refl, sym, ap, subst}
use Rattle.cjc_captree.specs.Bytes.Breaks.{Break}
use Rattle.cjc_captree.specs.CapWrite.Files.{files_of}
use Rattle.cjc_captree.specs.CapWrite.Writable.{IsSpelt}
use Rattle.cjc_captree.specs.List.Listed.{ListTree}
use Rattle.cjc_convert.proofs.ConversionLaws.Flags.{same_components}
use Rattle.cjc_convert.specs.Conversion.{IsConverted, IsConvertedByModes}
use Rattle.cjc_convert.specs.declared.conversion.Converted.{Converted}
use Rattle.cjc_shape_proof.specs.CapRead.declared.tree.CapTree.{CapTree}
use Rattle.cjc_shape_proof.specs.Components.Limits.{else_of, form_breaks, limit_breaks, of_methods, size_breaks}
use Rattle.cjc_shape_proof.specs.Components.Limits.{word_breaks}
use Rattle.cjc_shape_proof.specs.Components.Package.{Package}
use Rattle.cjc_shape_proof.specs.LowerIntPackage.Components.{has_int_mode}
use Rattle.cjc_shape_proof.specs.LowerIntPackage.Limits.{limit_breaks_by_modes, word_breaks_by_modes}
use Rattle.cjc_shape_proof.specs.LowerIntPackage.Modes.{Tables}
use Rattle.cjc_shape_proof.specs.LowerShape.Whole.Conversion.{IsPackageByModesOf, IsPackageOf}

-- where 417 is that of arguments alone, the limits are those of a package without modes
same_limits : (t : Tables) (p : Package) → of_methods p (word_breaks_by_modes t p) ≡ of_methods p (word_breaks p)
    → limit_breaks_by_modes t p ≡ limit_breaks p
same_limits t p words = ap (λ (bs : List Break). else_of bs (else_of (form_breaks p) (size_breaks p))) words

module _ (list : ListTree) (files : List (List ℕ)) (made : Converted) where
  pub to_short : (is : IsConvertedByModes list files made) → IsPackageOf list files is.whole
      → (let p = is.whole in let t = is.is_package.tables in of_methods p (word_breaks_by_modes t p)
      ≡ of_methods p (word_breaks p)) → has_int_mode is.is_package.tables is.whole ≡ false
      → (as_before : IsConverted list files made) × (as_before.whole ≡ is.whole) × (as_before.judged ≡ is.judged)
  to_short is of words off =
      let same = same_components is.is_package.tables is.whole off in (
        record {
          unbroken = is.unbroken;
          whole = is.whole;
          is_package = of;
          limits = sym (same_limits is.is_package.tables is.whole words) ∙ is.limits;
          caps = is.caps ∙ ap (λ (t : CapTree). files_of t) same;
          caps_spelt = subst (λ (t : CapTree). IsSpelt t made.caps) same is.caps_spelt;
          export = is.export;
          export_spelt = is.export_spelt;
          judged = is.judged;
          sound = is.sound;
        },
        refl,
        refl,
      )

  pub to_modes : (c : IsConverted list files made) (of : IsPackageByModesOf list files c.whole)
      → (let p = c.whole in of_methods p (word_breaks_by_modes of.tables p) ≡ of_methods p (word_breaks p))
      → has_int_mode of.tables c.whole ≡ false
      → (is : IsConvertedByModes list files made) × (is.whole ≡ c.whole) × (is.judged ≡ c.judged)
  to_modes c of words off =
      let same = sym (same_components of.tables c.whole off) in (
        record {
          unbroken = c.unbroken;
          whole = c.whole;
          is_package = of;
          limits = same_limits of.tables c.whole words ∙ c.limits;
          caps = c.caps ∙ ap (λ (t : CapTree). files_of t) same;
          caps_spelt = subst (λ (t : CapTree). IsSpelt t made.caps) same c.caps_spelt;
          export = c.export;
          export_spelt = c.export_spelt;
          judged = c.judged;
          sound = c.sound;
        },
        refl,
        refl,
      )
