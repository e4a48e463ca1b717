-- What a conversion wrote can be run beside the files that it was made from: they break no rule that is tested before.
use Rattle.std.proofs.Common.{◌≡◌, ℕ, refl, sym, subst, true, false, List, [], ◌∷◌, Some, Ok}
use Rattle.cjc_shape_proof.proofs.BytesGets.{in_front}
use Rattle.cjc_components.specs.Bytes.Breaks.{Break}
use Rattle.cjc_components.specs.LowerCapWrite.declared.files.CapFiles.{CapFiles}
use Rattle.cjc_components.specs.LowerCheckRules.Consistent.{Consistent}
use Rattle.cjc_components.specs.Bytecode.PackageCodes.{all_codes}
use Rattle.cjc_components.specs.Bytecode.declared.method_code.MethodCode.{MethodCode}
use Rattle.cjc_components.specs.LowerClinit.Image.{IsImage}
use Rattle.cjc_cmd_card.proofs.ReportLaws.Free.{none_first}
use Rattle.cjc_cmd_card.proofs.ReportLaws.Once.{SentencesHold}
use Rattle.cjc_cmd_card.proofs.RunningLaws.Made.{is_ready, ready_of}
use Rattle.cjc_cmd_card.specs.Report.Runs.{AnyBreaks}
use Rattle.cjc_cmd_card.specs.Running.Ready.{IsReady, tested}
use Rattle.cjc_cmd_card.specs.CmdCheck.Folder.Breaks.{ArePartsShort, cap_in, part_breaks}
use Rattle.cjc_int_theorem.specs.Components.{components_by_modes}
use Rattle.cjc_shape_proof.specs.LowerIntPackage.Modes.{Tables}
use Rattle.cjc_components.specs.Package.{Package}
use Rattle.cjc_components.specs.Paired.Pairs.{ArePaired}
use Rattle.cjc_shape_proof.specs.LowerJudge.Judged.{IsJudged}
use Rattle.cjc_shape_proof.specs.LowerJudge.Rules.{Breach, of_file, of_group, of_names, of_world}
use Rattle.cjc_shape_proof.specs.LowerJudge.declared.groups.Group.TheVariants as groups
use Rattle.cjc_shape_proof.specs.LowerJudge.declared.judged.Judged.{Judged}
use Rattle.cjc_components.specs.LowerList.Listed.{ListTree}
use Rattle.cjc_shelf.specs.Bytes.Text.{kept, lines_from}
use Rattle.cjc_cmd_card.specs.LowerScriptText.Scripted.{ScriptTree, of_lines, scripted, with_lines}
use Rattle.cjc_shape_proof.specs.LowerShape.Prepared as prepared
use Rattle.cjc_verified_proof.specs.TokenProof.Components.Whole.{exports_of, whole}
use Rattle.cjc_components.specs.World.Files.{Files}
use Rattle.cjc_accepted_files.specs.Folder.{input_of, parts_of}

-- the script of no lines
abbrev no_acts : ScriptTree
no_acts = record { entries = []; answers = [] }

no_lines : scripted [] [] ≡ Ok no_acts
unfolding scripted of_lines with_lines kept lines_from
no_lines = refl

-- what is tested before a conversion has all that is tested before a run
tested_more : (list : ListTree) (files : List (List ℕ)) (b : Break) → Breach list files tested b
    → Breach list files prepared.tested b
tested_more list files b (of_file h) = of_file h
tested_more list files b (of_world h) = of_world h
tested_more list files b (of_names h) = of_names h
tested_more list files b (of_group (i, group, at, h)) = of_group (
  i,
  group,
  in_front tested (groups.Ranges ∷ []) i group
      at,
  h,
)

module _ (list : ListTree) (files : List (List ℕ)) (judged : Judged) (sound : prepared.IsSound list files judged)
    (t : Tables) (p : Package) (there : p.files ≡ judged.world) where
  is_judged : IsJudged list files tested judged
  is_judged = let by = sound.judged_by in record {
    unbroken = λ b h. by.unbroken b (tested_more list files b h);
    world = by.world;
    read = by.read;
    of_package = by.of_package;
    types = λ e. let clash : false ≡ true = e in absurd cc;
    modes = λ e. let clash : false ≡ true = e in absurd cc;
    tokens = λ e. by.tokens refl;
  }

  pub none_broken : SentencesHold → (let w = p.files in IsImage p.files (all_codes w.classes) p.image)
      → Consistent (components_by_modes t p) (exports_of p) → ArePaired p.files p.image (whole p) → (caps : CapFiles)
      → ArePartsShort (parts_of caps) → part_breaks (parts_of caps) ≡ [] → cap_in (parts_of caps)
      ≡ Some (components_by_modes t p) → (b : Break) → AnyBreaks (input_of list files caps) [] b → ⊥
  none_broken hold image consistent paired caps short fine cap =
      let input = input_of list files caps in
      let together : Consistent (components_by_modes t p) (let w = judged.world in w.exports) =
      subst (λ (w : Files). Consistent (components_by_modes t p) w.exports) there consistent in
      let ready : IsReady input [] (ready_of judged (components_by_modes t p) no_acts) =
      is_ready input [] judged (components_by_modes t p) (components_by_modes t p) no_acts short is_judged fine cap refl together
      no_lines
      in
      let own : (let w = judged.world in IsImage judged.world (all_codes w.classes) p.image) =
      subst (λ (w : Files). IsImage w (all_codes w.classes) p.image) there image in
      let made : IsImage judged.world judged.codes p.image =
      subst (λ (cs : List MethodCode). IsImage judged.world cs p.image) (sym sound.judged_by.read.codes_are) own in
      none_first hold input (ready_of judged (components_by_modes t p) no_acts) ready p.image made (whole p) refl
      (subst (λ (w : Files). ArePaired w p.image (whole p)) there paired)
