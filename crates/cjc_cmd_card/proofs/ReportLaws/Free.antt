-- What is known of a package and components that are ready to be run.
use Rattle.std.proofs.Common.{◌≡◌, inl, inr, ◌⊎◌, ℕ, List, [], map, refl, sym, ap, subst, ◌∙◌}
use Rattle.std.specs.Prelude.{Some, Ok, Err, Result, IfErr}
use Rattle.cjc_cmd_check.specs.Bytes.Breaks.{Among, Break, IsFirst, IsFirstRefusal}
use Rattle.cjc_cmd_check.specs.Bytes.declared.fault.Fault.{Fault}
use Rattle.cjc_cmd_check.specs.Bytes.declared.fault.Fault.TheVariants as faults
use Rattle.cjc_cmd_check.specs.Bytes.declared.fault.Refusal.{Refusal}
use Rattle.cjc_cmd_check.specs.Bytes.Order.{NotAfter}
use Rattle.cjc_card.specs.CapRead.declared.tree.CapTree.{CapTree}
use Rattle.cjc_cmd_card.specs.Running.Ready.{Breaks, IsReady}
use Rattle.cjc_cmd_card.specs.declared.running.input.Input.{Input}
use Rattle.cjc_cmd_card.specs.declared.running.ready.Ready.{Ready}
use Rattle.cjc_pairing.specs.Clinit.Image.{IsImage}
use Rattle.cjc_pairing.specs.Clinit.Rules.{BreaksImage}
use Rattle.cjc_pairing.proofs.ClinitOneImage.{one-image}
use Rattle.cjc_card.specs.Bytecode.PackageCodes.{all_codes}
use Rattle.cjc_card.specs.Bytecode.declared.method_code.MethodCode.{MethodCode}
use Rattle.cjc_cmd_jvm.specs.Judge.declared.groups.Group.TheVariants as groups
use Rattle.cjc_cmd_jvm.specs.Judge.declared.judged.Judged.{Judged}
use Rattle.cjc_cmd_jvm.specs.Judge.Rules.{AreWorld, IsFirstFault, IsFirstOf, IsFirstRefused, OnLevels, files_spelt}
use Rattle.cjc_cmd_jvm.specs.Judge.Rules.{has_applets}
use Rattle.cjc_cmd_jvm.specs.Judge.Rules.{of_group, of_world, on_first, on_second, settings_of, world_files}
use Rattle.cjc_cmd_jvm.specs.Judge.Spelt.{FileTree, SpellTrees, classes_of, exports_of}
use Rattle.cjc_shape.proofs.JudgeFirsts.{one_spelling, all_spell}
use Rattle.cjc_cmd_check.specs.List.Listed.{ListTree}
use Rattle.cjc_shape.specs.Components.Paired.Pairs.{ArePaired, pair_breaks}
use Rattle.cjc_shape.proofs.PreparedLaws.Limited as limited
use Rattle.cjc_pairing.specs.CheckRules.Complete.{Complete, complete}
use Rattle.cjc_pairing.specs.CheckRules.Consistent.{break_at}
use Rattle.cjc_pairing.specs.Subset.Checks.{check_breaks}
use Rattle.cjc_shape.specs.Tokens.Rules.{FewCells, FewExported, tested_breaks, token_breaks}
use Rattle.cjc_pairing.specs.World.Files.{Files}
use Rattle.cjc_pairing.specs.World.Rules.{breaks}
use Rattle.cjc_pairing.specs.World.declared.image.StaticImage.{StaticImage}
use Rattle.cjc_cmd_card.specs.Report.Runs.{AnyBreaks, BreaksPair}
use Rattle.cjc_cmd_card.specs.Report.Working.{IsPairFault}
use Rattle.cjc_cmd_card.proofs.ReportLaws.Once.{SentencesHold, ready_unbroken}
use Rattle.cjc_cmd_check.proofs.BytesPlain.{the_same}
use Rattle.cjc_cmd_check.proofs.BytesBrokenRules.{no_breaks, none_among}

-- ---- a package

module _ (input : Input) (name : List ℕ) (ready : Ready) (is : IsReady input name ready) where
  abbrev list : ListTree
  list = input.list

  abbrev judged : Judged
  judged = ready.judged

  abbrev pub trees : List FileTree
  trees = is.judged.read.trees

  pub spelt : SpellTrees list.lines input.files trees
  spelt = all_spell list.lines input.files trees is.judged.read.spelt

  pub world_is : judged.world ≡ files_spelt list trees
  world_is = is.judged.world ∙ ap (λ cs. world_files list cs judged.world.exports) is.judged.read.classes
      ∙ ap (world_files list (classes_of trees)) is.judged.read.exports

  pub codes_are : judged.codes ≡ all_codes (classes_of trees)
  codes_are = is.judged.read.codes_are ∙ ap all_codes is.judged.read.classes

  are_world : AreWorld list input.files trees
  are_world = (
    spelt,
    no_breaks (breaks list.name (files_spelt list trees)) (λ b among. is.judged.unbroken b
        (of_world (trees, spelt, among))),
  )

  pub no_initialiser_breaks : (b : Break) → BreaksImage judged.world judged.codes b → ⊥
  no_initialiser_breaks b broken =
      is.judged.unbroken b (of_group (
        1,
        groups.Initialisers,
        refl,
        (
          trees,
          are_world,
          subst (λ cs. BreaksImage (files_spelt list trees) cs b) codes_are (subst (λ w. BreaksImage w judged.codes b)
              world_is broken),
        ),
      ))

  unlimited : check_breaks list.name judged.world judged.codes (settings_of list) ≡ []
  unlimited =
      let none : check_breaks list.name (files_spelt list trees) (all_codes (classes_of trees)) (settings_of list)
      ≡ [] =
      no_breaks (check_breaks list.name (files_spelt list trees) (all_codes (classes_of trees)) (settings_of list))
      (λ b among. is.judged.unbroken b (of_group (2, groups.Limits, refl, (trees, are_world, among)))) in
      ap (λ w. check_breaks list.name w judged.codes (settings_of list)) world_is
      ∙ ap (λ cs. check_breaks list.name (files_spelt list trees) cs (settings_of list)) codes_are ∙ none

  pub few_exported : FewExported (has_applets list) judged.world
  few_exported = limited.few_exported list.name judged.world judged.codes (settings_of list) unlimited

  pub few_cells : FewCells judged.world
  few_cells = limited.few_cells list.name judged.world judged.codes (settings_of list) unlimited

  pub has_tokens : token_breaks (has_applets list) judged.world ≡ []
  has_tokens =
      let none : tested_breaks (has_applets list) (files_spelt list trees) ≡ [] =
      no_breaks (tested_breaks (has_applets list) (files_spelt list trees)) (λ b among. is.judged.unbroken b
      (of_group (3, groups.Tokens, refl, (trees, are_world, among)))) in
      limited.has_tokens list.name judged.world judged.codes (settings_of list) unlimited
      (ap (tested_breaks (has_applets list)) world_is ∙ none)

-- ---- 719

-- what two breaks of 719 are broken of is the same
pub one_pair : (input : Input) (a b : Break) (p : BreaksPair input a) (q : BreaksPair input b)
    → pair_breaks (files_spelt input.list p.trees) p.image p.whole ≡ pair_breaks (files_spelt input.list q.trees)
    q.image q.whole
one_pair input a b p q =
    let list = input.list in
    let trees : p.trees ≡ q.trees = one_spelling list.lines input.files p.trees q.trees p.spell q.spell in
    let there : IsImage (files_spelt list q.trees) (all_codes (classes_of q.trees)) p.image =
    subst (λ ts. IsImage (files_spelt list ts) (all_codes (classes_of ts)) p.image) trees p.is_image in
    let image : p.image ≡ q.image = one-image (files_spelt list q.trees) (all_codes (classes_of q.trees)) p.image
    q.image there q.is_image in
    let cap : p.cap ≡ q.cap = the_same p.cap q.cap (sym p.cap_is ∙ q.cap_is) in
    let whole : p.whole ≡ q.whole = the_same p.whole q.whole (sym p.whole_is ∙ ap complete cap ∙ q.whole_is) in
    λ i. pair_breaks (files_spelt list (trees i)) (image i) (whole i)

module _ (hold : SentencesHold) (input : Input) (name : List ℕ) (ready : Ready) (is : IsReady input name ready)
    (image : StaticImage) (is_image : (let judged = ready.judged in IsImage judged.world judged.codes image))
    (whole : Complete) (whole_is : complete ready.cap ≡ Some whole) where
  -- what is broken of these components is broken of what is spelt
  pub pair_of : (b : Break) → Among b (let judged = ready.judged in pair_breaks judged.world image whole)
      → BreaksPair input b
  pair_of b among = record {
    trees = trees input name ready is;
    spell = spelt input name ready is;
    image = image;
    is_image = subst (λ cs. IsImage (files_spelt input.list (trees input name ready is)) cs image)
        (codes_are input name ready is) (subst (λ w. IsImage w ready.judged.codes image) (world_is input name ready is)
        is_image);
    cap = ready.cap;
    cap_is = is.cap;
    whole = whole;
    whole_is = whole_is;
    broken = subst (λ w. Among b (pair_breaks w image whole)) (world_is input name ready is) among;
  }

  -- and the other way
  pub of_pair : (b : Break) → BreaksPair input b → Among b (let judged = ready.judged
      in pair_breaks judged.world image whole)
  of_pair b p =
      let list = input.list in
      let ts : p.trees ≡ trees input name ready is = one_spelling list.lines input.files p.trees (trees input name ready
      is) p.spell (spelt input name ready is) in
      let world : files_spelt list p.trees ≡ ready.judged.world = ap (files_spelt list) ts
      ∙ sym (world_is input name ready is) in
      let codes : all_codes (classes_of p.trees) ≡ ready.judged.codes = ap (λ us. all_codes (classes_of us)) ts
      ∙ sym (codes_are input name ready is) in
      let there : IsImage ready.judged.world ready.judged.codes p.image =
      subst (λ cs. IsImage ready.judged.world cs p.image) codes
      (subst (λ w. IsImage w (all_codes (classes_of p.trees)) p.image) world p.is_image) in
      let one : p.image ≡ image = one-image ready.judged.world ready.judged.codes p.image image there is_image in
      let cap : p.cap ≡ ready.cap = the_same p.cap ready.cap (sym p.cap_is ∙ is.cap) in
      let same : p.whole ≡ whole = the_same p.whole whole (sym p.whole_is ∙ ap complete cap ∙ whole_is) in
      let lists : pair_breaks (files_spelt list p.trees) p.image p.whole ≡ pair_breaks ready.judged.world image whole =
      λ i. pair_breaks (world i) (one i) (same i) in
      subst (Among b) lists p.broken

  none_before : (b : Break) → Breaks input name b → ⊥
  none_before b broken = ready_unbroken hold input name ready is b broken

  least_of : (b a : Break) → IsFirst b (let judged = ready.judged in pair_breaks judged.world image whole)
      → AnyBreaks input name a → NotAfter b.rank a.rank
  least_of b a first (on_first x) = absurd (none_before a x)
  least_of b a first (on_second none p) = first.least a (of_pair a p)

  -- the first that is broken of the components is the first of all
  pub pair_first : (e : Fault) → IsFirstRefusal (let judged = ready.judged in pair_breaks judged.world image whole) e
      → IsFirstFault (AnyBreaks input name) e
  pair_first e (inl none) = inl none
  pair_first e (inr (b, first, is_refusal)) = inr (
    b.refusal,
    record {
      broken = b;
      first = record {
        breaks = on_second (λ a x. none_before a x) (pair_of b first.among);
        least = λ a any. least_of b a first any;
      };
      is = refl;
    },
    is_refusal,
  )

-- what ended a run of what is ready is the first of all
pub pair_fault : (hold : SentencesHold) (input : Input) (name : List ℕ) (ready : Ready) → IsReady input name ready
    → (e : Fault) → IsPairFault ready e → IsFirstFault (AnyBreaks input name) e
pair_fault hold input name ready is e (inl none) = inl none
pair_fault hold input name ready is e (inr b) = pair_first hold input name ready is b.image b.is_image b.whole
    b.whole_is e b.first

-- ---- no level is broken twice

first_any : (input : Input) (name : List ℕ) (b : Break) → Breaks input name b → IsFirstOf (Breaks input name) b
    → IsFirstOf (AnyBreaks input name) b
first_any input name b broken first = record { breaks = on_first broken; least = λ a any. by a any }
  where
    by : (a : Break) → AnyBreaks input name a → NotAfter b.rank a.rank
    by a (on_first x) = first.least a x
    by a (on_second none p) = absurd (none b broken)

-- the first of the rules that are tested before 719 is the first of all
pub first_fault : (input : Input) (name : List ℕ) (e : Fault) → IsFirstFault (Breaks input name) e
    → IsFirstFault (AnyBreaks input name) e
first_fault input name e (inl none) = inl none
first_fault input name e (inr (r, refused, is)) =
    inr (
      r,
      record {
        broken = refused.broken;
        first = first_any input name refused.broken refused.first.breaks
            refused.first;
        is = refused.is;
      },
      is,
    )

-- ---- components that are of their package

-- none of the rules is broken
pub none_first : (hold : SentencesHold) (input : Input) (ready : Ready) (is : IsReady input [] ready)
    (image : StaticImage) (is_image : (let judged = ready.judged in IsImage judged.world judged.codes image))
    (whole : Complete) (whole_is : complete ready.cap ≡ Some whole)
    → (let judged = ready.judged in ArePaired judged.world image whole) → (b : Break) → AnyBreaks input [] b → ⊥
none_first hold input ready is image is_image whole whole_is paired b (on_first x) =
    ready_unbroken hold input [] ready is b x
none_first hold input ready is image is_image whole whole_is paired b (on_second none p) =
    none_among b (subst (Among b) (ap (map (break_at 719)) paired) (of_pair hold input [] ready is image is_image whole
    whole_is b p))

-- components that are of the package, however they are told
pub paired_by : (tree : CapTree) (c d : Complete) (world : Files) (image : StaticImage) → complete tree ≡ Some c
    → complete tree ≡ Some d → ArePaired world image c → ArePaired world image d
paired_by tree c d world image a b paired = subst (ArePaired world image) (the_same c d (sym a ∙ b)) paired
