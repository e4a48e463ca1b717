-- What is read back of a converted package's files is the package with the components that are written for it.
use Rattle.std.proofs.Common.{◌≡◌, ℕ, sym, ap, subst, ◌∙◌, List}
use Rattle.std.specs.Prelude.{Some}
use Rattle.cjc_verified_proof.proofs.BytesPlain.{same_some}
use Rattle.cjc_verified_proof.specs.CheckRules.Complete.{Complete, complete}
use Rattle.cjc_verified_proof.proofs.ClinitOneImage.{one-image}
use Rattle.cjc_verified_proof.specs.Bytecode.PackageCodes.{all_codes}
use Rattle.cjc_verified_proof.specs.Components.Components.{components_of}
use Rattle.cjc_verified_proof.specs.Components.Package.{Package}
use Rattle.cjc_verified_proof.specs.Components.Package as packages
use Rattle.cjc_theorem.proofs.JudgeFirsts.{one_spelling}
use Rattle.cjc_theorem.specs.LowerJudge.Rules.{files_spelt, has_applets}
use Rattle.cjc_theorem.specs.LowerJudge.Spelt.{FileTree, SpellTrees, classes_of}
use Rattle.cjc_theorem.specs.Shape.Whole.Conversion.{IsPackageByModesOf}
use Rattle.cjc_verified_proof.specs.Clinit.Image.{IsImage}
use Rattle.cjc_verified_proof.specs.List.Listed.{ListTree}
use Rattle.cjc_verified_proof.specs.TokenProof.Tables.Loading.{components}
use Rattle.cjc_verified_proof.specs.Verify.Pairs.{Pair, pair_of}
use Rattle.cjc_verified_proof.specs.Verify.Verified.{Breaks, IsVerified}
use Rattle.cjc_verified_proof.specs.World.Files.{Files}
use Rattle.cjc_verified_proof.specs.World.declared.image.StaticImage.{StaticImage}
use Rattle.cjc_accepted_proof.specs.Written.{written_pair}

module _ (list : ListTree) (files : List (List ℕ)) (p : Package) (is : IsPackageByModesOf list files p) where
  pub read_back : (let v = p.files in IsImage p.files (all_codes v.classes) p.image) → complete (components_of p)
      ≡ Some (components p) → IsVerified (written_pair p) → (trees : List FileTree) → SpellTrees list.lines files trees
      → (image : StaticImage) → IsImage (files_spelt list trees) (all_codes (classes_of trees)) image
      → (c : Complete) → complete (components_of p) ≡ Some c
      → IsVerified (pair_of (has_applets list) (files_spelt list trees) image c)
  read_back own_image whole verified trees spell image is_image c c_is broken breaks =
      let spelt = is.spelt in
      let ts : trees ≡ spelt.trees = one_spelling list.lines files trees spelt.trees spell spelt.is_world.0 in
      let world : files_spelt list trees ≡ p.files = ap (files_spelt list) ts ∙ sym spelt.world_is in
      let there : (let v = p.files in IsImage p.files (all_codes v.classes) image) = subst (λ (v : Files). IsImage v
      (all_codes v.classes) image) world is_image in
      let one : image ≡ p.image = one-image p.files (let v = p.files in all_codes v.classes) image p.image there
      own_image in
      let same : c ≡ components p = same_some (sym c_is ∙ whole) in
      let applets : has_applets list ≡ packages.has_applets p = ap has_applets (sym is.is_package.by_list) in
      let pairs : pair_of (has_applets list) (files_spelt list trees) image c ≡ written_pair p =
      λ i. pair_of (applets i) (world i) (one i) (same i) in
      verified broken (subst (λ (x : Pair). Breaks x broken) pairs breaks)
