-- What is converted keeps its promise, by the laws of converted packages.
use Rattle.std.proofs.Common.{◌≡◌, ℕ, List, [], Result, Ok, Err, IfOk, sym, subst}
use Rattle.cjc_theorem.specs.Alike.Alike.{BehaveAlike}
use Rattle.cjc_shelf.specs.Bytes.declared.fault.Fault.{Fault}
use Rattle.cjc_convert.specs.Components.Package.{Package}
use Rattle.cjc_convert.specs.Conversion.{IsConvertedByModes}
use Rattle.cjc_convert.specs.declared.conversion.Converted.{Converted}
use Rattle.cjc_theorem.specs.CapRead.declared.tree.CapTree.{CapTree}
use Rattle.cjc_theorem.specs.FairExports.Fair.{ExportsAreFair}
use Rattle.cjc_convert.specs.Judge.Rules.{files_spelt}
use Rattle.cjc_convert.specs.Judge.declared.judged.Judged.{Judged}
use Rattle.cjc_convert.specs.Judge.Spelt.{IsRead}
use Rattle.cjc_convert.specs.List.Listed.{ListTree}
use Rattle.cjc_int_theorem.specs.Components.{components_by_modes}
use Rattle.cjc_int_theorem.specs.Limits.{limit_breaks_by_modes}
use Rattle.cjc_theorem.specs.Shape.Prepared.{IsSound}
use Rattle.cjc_convert.specs.CheckRules.Consistent.{Consistent}
use Rattle.cjc_theorem.specs.Shape.Whole.Conversion.{IsPackageByModesOf}
use Rattle.cjc_convert.specs.World.Files.{Files as World}
use Rattle.cjc_cmd_convert.specs.Conversion.Promise.{KeepsPromise}

-- What is said of the package and the components of each list that was read, of files that break no rule, nor does what
-- is written for them, with fair export files.
abbrev pub OfPackages : (ListTree → Package → CapTree → Type 0) → Type 0
OfPackages Holds =
    (list : ListTree) (files : List (List ℕ)) (judged : Judged) → IsRead list → IsSound list files judged
    → (p : Package) (is : IsPackageByModesOf list files p) → limit_breaks_by_modes is.tables p ≡ []
    → (let world = p.files in ExportsAreFair world.exports) → Holds list p (components_by_modes is.tables p)

module _ (behave : OfPackages (λ list p cap. BehaveAlike list p.files cap))
    (consist : OfPackages (λ list p cap. let world = p.files in Consistent cap world.exports)) where
  kept : (list : ListTree) (files : List (List ℕ)) (made : Converted) → IsRead list → IsConvertedByModes list files made
      → KeepsPromise list files made
  kept list files made read is =
      let of = is.is_package in
      let trees = of.spelt.trees in
      let cap = components_by_modes of.tables is.whole in
      let world : is.whole.files ≡ files_spelt list trees = of.spelt.world_is in
      record {
        trees = trees;
        spell = of.spelt.is_world.0;
        cap = cap;
        spelt = is.caps_spelt;
        consistent = λ fair. subst (λ (w : World). Consistent cap w.exports) world
            (consist list files is.judged read is.sound is.whole of is.limits
            (subst (λ (w : World). ExportsAreFair w.exports) (sym world) fair));
        alike = λ fair. subst (λ (w : World). BehaveAlike list w cap) world
            (behave list files is.judged read is.sound is.whole of is.limits
            (subst (λ (w : World). ExportsAreFair w.exports) (sym world) fair));
      }

  pub kept_where_made : (list : ListTree) (files : List (List ℕ)) (r : Result Converted Fault) → IsRead list
      → IfOk r (IsConvertedByModes list files) → IfOk r (KeepsPromise list files)
  kept_where_made list files (Ok made) read is = kept list files made read is
  kept_where_made list files (Err e) read is = tt
