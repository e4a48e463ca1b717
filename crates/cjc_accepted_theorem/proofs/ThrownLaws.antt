-- The class of exceptions of a converted package's code.
use Rattle.std.proofs.Common.{◌≡◌, refl, sym, ap, ◌∙◌}
use Rattle.std.specs.Prelude.{List, ℕ, Some, codes, is_some, option_map}
use Rattle.cjc_verified_proof.specs.Components.Names.{ref_to}
use Rattle.cjc_verified_proof.specs.Components.Package.{Package, world}
use Rattle.cjc_verified_proof.specs.Script.Sorts.{OfClass}
use Rattle.cjc_verified_proof.specs.TokenProof.Tables.Sound.{IsSound}
use Rattle.cjc_token_proof.specs.ByToken.Names.{HasLang}
use Rattle.cjc_token_proof.proofs.TablesLaws.Telling.{has_lang, says_names}
use Rattle.cjc_verify.specs.ClassTypes.{class_type}
use Rattle.cjc_verify.specs.Instructions.{throwable}
use Rattle.cjc_check_proof.specs.Types.Rules.{throwable as throwable_by_name}
use Rattle.cjc_accepted_proof.specs.Coded.{card_type}
use Rattle.cjc_accepted_proof.specs.Written.{written_pair}
use Rattle.cjc_accepted_theorem.proofs.TypedLaws.{shape_typed}

module _ (list : List ℕ) (p : Package) (sound : IsSound list p.files) where
  lang : HasLang (world p)
  lang = has_lang list p sound

  -- it is that of the export file of java/lang
  pub thrown : throwable (written_pair p) ≡ card_type p throwable_by_name
  thrown =
      let name = codes "java/lang/Throwable" in
      let j = lang.throwable in
      let says = says_names list p sound in
      let s = says.file name j.class j.there j.imported in
      ap (option_map (λ c. class_type (ref_to c))) s.found
      ∙ (ap (λ c. Some (class_type (ref_to c))) (sym s.on_card)
      ∙ sym (shape_typed p name (OfClass name) refl (ap is_some j.there)))
