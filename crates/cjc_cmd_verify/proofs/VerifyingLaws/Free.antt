-- What is known of components that were tested: they break none of the rules that `card` tests, and what they break of
-- 721 to 729 is broken of what is spelt, and the other way.
use Rattle.std.proofs.Common.{◌≡◌, inl, inr, [], refl, sym, ap, subst, ◌∙◌}
use Rattle.std.specs.Prelude.{Some, Result, Ok, Err, IfErr, OnOk}
use Rattle.cjc_cmd_card.specs.CheckRules.Complete.{Complete, complete}
use Rattle.cjc_cmd_card.proofs.ReportLaws.Free.{codes_are, first_fault, none_first, spelt, trees, world_is}
use Rattle.cjc_cmd_card.proofs.ReportLaws.Once.{SentencesHold}
use Rattle.cjc_cmd_card.specs.Report.Runs as by_token
use Rattle.cjc_cmd_card.specs.Running.Ready.{Breaks as Tested, IsReady}
use Rattle.cjc_cmd_card.specs.declared.running.input.Input.{Input}
use Rattle.cjc_cmd_card.specs.declared.running.ready.Ready.{Ready}
use Rattle.cjc_cmd_verify.specs.Verify.{AnyBreaks, AreTyped, BreaksTyping}
use Rattle.cjc_cmd_card.proofs.BytesPlain.{the_same}
use Rattle.cjc_cmd_card.proofs.ClinitOneImage.{one-image}
use Rattle.cjc_cmd_card.proofs.JudgeFirsts.{first_level_stops, one_spelling, second_level_stops}
use Rattle.cjc_cmd_card.specs.Bytecode.PackageCodes.{all_codes}
use Rattle.cjc_cmd_card.specs.Bytes.Breaks.{Break}
use Rattle.cjc_cmd_card.specs.Bytes.declared.fault.Fault.{Fault}
use Rattle.cjc_cmd_card.specs.Clinit.Image.{IsImage}
use Rattle.cjc_verify_theorem.specs.Judge.Rules.{IsFirstFault, files_spelt, has_applets}
use Rattle.cjc_verify_theorem.specs.Judge.Spelt.{classes_of}
use Rattle.cjc_cmd_card.specs.World.Files.{Files}
use Rattle.cjc_cmd_card.specs.World.declared.image.StaticImage.{StaticImage}
use Rattle.cjc_cmd_card.specs.Components.Paired.Pairs.{ArePaired}
use Rattle.cjc_verify_theorem.specs.Verify.Pairs.{Pair, pair_of}
use Rattle.cjc_verify_theorem.specs.Verify.Verified.{Breaks, IsRefused, IsVerified}
use Rattle.cjc_verify_theorem.specs.FairExports.Fair.{ExportsAreFair}
use Rattle.cjc_verify_theorem.specs.NeverStuck.{IsNeverStuck}

module _ (hold : SentencesHold) (input : Input) (ready : Ready) (is : IsReady input [] ready) (image : StaticImage)
    (is_image : (let judged = ready.judged in IsImage judged.world judged.codes image)) (whole : Complete)
    (whole_is : complete ready.cap ≡ Some whole) where
  -- the components beside the package
  abbrev pub tested : Pair
  tested = let judged = ready.judged in pair_of (has_applets input.list) judged.world image whole

  -- what is broken of them is broken of what is spelt
  pub typing_of : (b : Break) → Breaks tested b → BreaksTyping input b
  typing_of b broken = record {
    trees = trees input [] ready is;
    spell = spelt input [] ready is;
    image = image;
    is_image = subst (λ cs. IsImage (files_spelt input.list (trees input [] ready is)) cs image)
        (codes_are input [] ready is) (subst (λ w. IsImage w ready.judged.codes image) (world_is input [] ready is)
        is_image);
    cap = ready.cap;
    cap_is = is.cap;
    whole = whole;
    whole_is = whole_is;
    broken = subst (λ w. Breaks (pair_of (has_applets input.list) w image whole) b) (world_is input [] ready is) broken;
  }

  -- and the other way
  pub of_typing : (b : Break) → BreaksTyping input b → Breaks tested b
  of_typing b p =
      let list = input.list in
      let ts : p.trees ≡ trees input [] ready is = one_spelling list.lines input.files p.trees (trees input [] ready is)
      p.spell (spelt input [] ready is) in
      let world : files_spelt list p.trees ≡ ready.judged.world = ap (files_spelt list) ts
      ∙ sym (world_is input [] ready is) in
      let codes : all_codes (classes_of p.trees) ≡ ready.judged.codes = ap (λ us. all_codes (classes_of us)) ts
      ∙ sym (codes_are input [] ready is) in
      let there : IsImage ready.judged.world ready.judged.codes p.image =
      subst (λ cs. IsImage ready.judged.world cs p.image) codes
      (subst (λ w. IsImage w (all_codes (classes_of p.trees)) p.image) world p.is_image) in
      let one : p.image ≡ image = one-image ready.judged.world ready.judged.codes p.image image there is_image in
      let cap : p.cap ≡ ready.cap = the_same p.cap ready.cap (sym p.cap_is ∙ is.cap) in
      let same : p.whole ≡ whole = the_same p.whole whole (sym p.whole_is ∙ ap complete cap ∙ whole_is) in
      let pairs : pair_of (has_applets list) (files_spelt list p.trees) p.image p.whole ≡ tested =
      λ i. pair_of (has_applets list) (world i) (one i) (same i) in
      subst (λ (q : Pair). Breaks q b) pairs p.broken

  -- the first of 721 to 729 is the first of all
  pub typing_first : (let judged = ready.judged in ArePaired judged.world image whole) → (e : Fault)
      → IsRefused tested e → IsFirstFault (AnyBreaks input) e
  typing_first paired e (inl none) = inl none
  typing_first paired e (inr (b, first, is_refusal)) = inr (
    b.refusal,
    second_level_stops (none_first hold input ready is image is_image whole whole_is paired) (record {
      broken = b;
      first = record {
        breaks = typing_of b first.breaks;
        least = λ a p. first.first a (of_typing a p);
      };
      is = refl;
    }),
    is_refusal,
  )

  -- what a test of types answers
  pub types_fault : (let judged = ready.judged in ArePaired judged.world image whole) → (result : Result Unit Fault)
      → IfErr result (IsRefused tested) → IfErr result (IsFirstFault (AnyBreaks input))
  types_fault paired (Ok done) refused = tt
  types_fault paired (Err e) refused = typing_first paired e refused

-- no rule is broken
pub are_typed : (input : Input) (ready : Ready) (is : IsReady input [] ready) (image : StaticImage)
    (is_image : (let judged = ready.judged in IsImage judged.world judged.codes image))
    (paired : (c : Complete) → complete ready.cap ≡ Some c → (let judged = ready.judged in ArePaired judged.world image
    c)) (free : (let judged = ready.judged in IsVerified (pair_of (has_applets input.list) judged.world image is.whole)
    → (let world = judged.world in ExportsAreFair world.exports) → IsNeverStuck
    (has_applets input.list) judged.world image
    is.whole)) (result : Result Unit Fault)
    → OnOk result (let judged = ready.judged in IsVerified (pair_of (has_applets input.list) judged.world image
    is.whole))
    → OnOk result (AreTyped input)
are_typed input ready is image is_image paired free (Err e) typed = tt
are_typed input ready is image is_image paired free (Ok done) typed = record {
  ready = ready;
  is_ready = is;
  whole = is.whole;
  whole_is = is.complete_is;
  image = image;
  is_image = is_image;
  paired = paired is.whole is.complete_is;
  typed = typed;
  free = free typed;
}

-- the first of the rules that `card` tests is the first of all
pub early_fault : (input : Input) (e : Fault) → IsFirstFault (by_token.AnyBreaks input []) e
    → IsFirstFault (AnyBreaks input) e
early_fault input e (inl none) = inl none
early_fault input e (inr (r, refused, is)) = inr (r, first_level_stops refused, is)

-- so is the first of those that it tests before 719
pub first_fault_of_all : (input : Input) (e : Fault) → IsFirstFault (Tested input []) e → IsFirstFault (AnyBreaks input)
    e
first_fault_of_all input e first = early_fault input e (first_fault input [] e first)
