-- What is read of a group, where nothing is refused: of packages that were converted and of their components it is these
-- packages, and together they break no rule.
use Rattle.std.proofs.Common.{◌≡◌, ℕ, zero, suc, refl, sym, ap, subst, ◌∙◌, Bool, true, false, List, [], ◌∷◌, map, Some}
use Rattle.std.proofs.Common.{inl, inr, ⊎_elim}
use Rattle.std.specs.Prelude.{slice_get}
use Rattle.cjc_bytes.proofs.Firsts.{first_left, first_of_one, first_right, not_up_to, up_to}
use Rattle.cjc_bytes.specs.Breaks.{Break, IsFirst}
use Rattle.cjc_bytes.specs.Order.{numbers}
use Rattle.cjc_bytes.specs.Working.Ranks.{is_up_to}
use Rattle.cjc_bytes.specs.Refused.{refusal}
use Rattle.cjc_bytes.specs.declared.fault.Fault.TheVariants as faults
use Rattle.cjc_cmd_card.proofs.ClinitOneImage.{one-image}
use Rattle.cjc_cmd_card.proofs.JudgeFirsts.{one_spelling}
use Rattle.cjc_cmd_card.proofs.ReportLaws.Free.{codes_are, none_first, spelt, trees, world_is}
use Rattle.cjc_cmd_card.proofs.ReportLaws.Once.{SentencesHold}
use Rattle.cjc_cmd_card.specs.declared.running.input.Input.{Input}
use Rattle.cjc_cmd_link.proofs.Agreed.{are_agreed, miss_none, together_fault}
use Rattle.cjc_cmd_link.specs.Members.{AreLinked, AreTested, IsLinked, IsTested, exported_by}
use Rattle.cjc_cmd_link.specs.Refused.{IsFault, IsRefused, NoPart, by_cycle, of_member, of_script}
use Rattle.cjc_cmd_link.specs.Runs.{IsReady}
use Rattle.cjc_cmd_link.specs.declared.reads.GroupInput.{GroupInput}
use Rattle.cjc_cmd_card.specs.LowerScriptText.Scripted.{ScriptTree}
use Rattle.cjc_components.specs.Bytecode.PackageCodes.{all_codes}
use Rattle.cjc_components.specs.Components.{components_of}
use Rattle.cjc_components.specs.Package.{Package}
use Rattle.cjc_group.specs.Members.{Member as Linked}
use Rattle.cjc_group.specs.Missing.{missing}
use Rattle.cjc_group.specs.Rules.{breaks}
use Rattle.cjc_joint_proof.specs.JointPackages.{files_together}
use Rattle.cjc_joint_proof.specs.JointTables.{world_together}
use Rattle.cjc_joint_proof.specs.Loading.{group_of, member_of}
use Rattle.cjc_joint_whole.specs.Linking.{linked_as}
use Rattle.cjc_jvm_semantics.specs.Group.{joint}
use Rattle.cjc_link_semantics.specs.Loaded.{Member}
use Rattle.cjc_shape_proof.proofs.WrittenLaws.Files.{same_list}
use Rattle.cjc_shape_proof.specs.LowerJudge.Rules.{files_spelt, has_applets}
use Rattle.cjc_token_proof.specs.Clinit.Image.{IsImage}
use Rattle.cjc_token_proof.specs.CheckRules.Complete.{complete}
use Rattle.cjc_token_proof.specs.List.Listed.{ListTree}
use Rattle.cjc_token_proof.specs.Tables.Loading.{components}
use Rattle.cjc_world.specs.Classes.{all_classes}
use Rattle.cjc_world.specs.Files.{Files}
use Rattle.cjc_world.specs.Rules.{has_cycle}
use Rattle.cjc_joint_files.specs.Ready.{AreReadOf, IsReadOf}
use Rattle.cjc_joint_files.specs.Written.{AreWrittenTogether, IsWritten}

-- ---- one package

-- a package by its list and files, as it is linked
abbrev with_list : ListTree → Files → Linked
with_list list files = record { list = list; files = files; written = exported_by list files }

is_linked : (i : Input) (p : Package) → IsReadOf i p → IsLinked i (linked_as p)
is_linked i p of =
    let c = of.converted in
    let laid = c.is_package in
    let s = laid.spelt in
    let world = s.is_world in
    record {
      trees = s.trees;
      spell = world.0;
      is = ap (λ (l : ListTree). with_list l p.files) (same_list i.list i.files of.judged p c)
          ∙ ap (with_list i.list) s.world_is;
    }

are_linked : (inputs : List Input) (packages : List Package) → AreReadOf inputs packages
    → AreLinked inputs (map linked_as packages)
are_linked [] [] of = tt
are_linked [] (p ∷ packages) of = absurd of
are_linked (i ∷ inputs) [] of = absurd of
are_linked (i ∷ inputs) (p ∷ packages) of = (is_linked i p of.0, are_linked inputs packages of.1)

-- each was converted
written_at : (inputs : List Input) (packages : List Package) → AreReadOf inputs packages → (q : ℕ) (p : Package)
    → slice_get packages q ≡ Some p → IsWritten p
written_at [] [] of q p at = absurd cc
written_at [] (x ∷ packages) of q p at = absurd of
written_at (i ∷ inputs) [] of q p at = absurd of
written_at (i ∷ inputs) (x ∷ packages) of zero p at =
    let same : x ≡ p = cc in
    let r = of.0 in
    subst IsWritten same (record { list = i.list; files = i.files; judged = r.judged; converted = r.converted })
written_at (i ∷ inputs) (x ∷ packages) of (suc q) p at = written_at inputs packages of.1 q p at

-- what was tested is the package
module _ (i : Input) (p : Package) (m : Member) (of : IsReadOf i p) (t : IsTested i m) where
  list_is : p.list ≡ i.list
  list_is = same_list i.list i.files of.judged p of.converted

  -- the world that was tested is that of the package
  world_of : (let r = t.ready in let j = r.judged in j.world) ≡ p.files
  world_of =
      let c = of.converted in
      let laid = c.is_package in
      let s = laid.spelt in
      let mine = s.is_world in
      let list = i.list in
      world_is i [] t.ready t.is_ready
      ∙ ap (files_spelt list) (one_spelling list.lines i.files (trees i [] t.ready t.is_ready) s.trees
      (spelt i [] t.ready t.is_ready) mine.0)
      ∙ sym s.world_is

  codes_of : (let r = t.ready in let j = r.judged in j.codes) ≡ all_codes (let f = p.files in f.classes)
  codes_of = codes_are i [] t.ready t.is_ready
      ∙ ap (λ (f : Files). all_codes f.classes) (sym (world_is i [] t.ready t.is_ready) ∙ world_of)

  image_of : m.image ≡ p.image
  image_of =
      let c = of.converted in
      let laid = c.is_package in
      let written = laid.is_package in
      let f = p.files in
      let its : IsImage f (all_codes f.classes) m.image =
      subst (λ cs. IsImage f cs m.image) codes_of
      (subst (λ (v : Files). IsImage v (let r = t.ready in let j = r.judged in j.codes) m.image) world_of t.image) in
      one-image f (all_codes f.classes) m.image p.image its written.image

  parts_of : m.components ≡ components p
  parts_of =
      let r = t.is_ready in
      let both : Some (let x = t.ready in x.cap) ≡ Some (components_of p) = sym r.cap ∙ of.cap in
      let cap : (let x = t.ready in x.cap) ≡ components_of p = cc in
      let whole : Some m.components ≡ Some (components p) = sym t.components ∙ ap complete cap in
      cc

  pub is_member : m ≡ member_of p
  is_member =
      let applets : m.applets ≡ (let x = member_of p in x.applets) = t.applets ∙ ap has_applets (sym list_is) in
      let files : m.files ≡ p.files = t.files ∙ world_of in
      λ k. record { applets = applets k; files = files k; image = image_of k; components = parts_of k }

are_members : (inputs : List Input) (packages : List Package) (group : List Member) → AreReadOf inputs packages
    → AreTested inputs group → group ≡ group_of packages
are_members [] [] [] of t = refl
are_members [] [] (m ∷ group) of t = absurd t
are_members [] (p ∷ packages) group of t = absurd of
are_members (i ∷ inputs) [] group of t = absurd of
are_members (i ∷ inputs) (p ∷ packages) [] of t = absurd t
are_members (i ∷ inputs) (p ∷ packages) (m ∷ group) of t =
    ap (λ x. x ∷ group) (is_member i p m of.0 t.0)
    ∙ ap (λ xs. member_of p ∷ xs) (are_members inputs packages group of.1 t.1)

-- what was tested at a place
tested_at : (inputs : List Input) (group : List Member) → AreTested inputs group → (q : ℕ) (i : Input)
    → slice_get inputs q ≡ Some i → (m : Member) × IsTested i m
tested_at [] group t q i at = absurd cc
tested_at (x ∷ inputs) [] t q i at = absurd t
tested_at (x ∷ inputs) (m ∷ group) t zero i at =
    let same : x ≡ i = cc in (m, subst (λ y. IsTested y m) same t.0)
tested_at (x ∷ inputs) (m ∷ group) t (suc q) i at = tested_at inputs group t.1 q i at

-- ---- all together

-- of some breaks one is the first
first_there : (b : Break) (bs : List Break) → (a : Break) × IsFirst a (b ∷ bs)
first_there b [] = (b, first_of_one b)
first_there b (c ∷ bs) = with_rest (first_there c bs)
  where
    with_rest : (a : Break) × IsFirst a (c ∷ bs) → (a : Break) × IsFirst a (b ∷ c ∷ bs)
    with_rest (a, first) = by (is_up_to (numbers b.rank) (numbers a.rank)) refl
      where
        by : (x : Bool) → is_up_to (numbers b.rank) (numbers a.rank) ≡ x → (a : Break) × IsFirst a (b ∷ c ∷ bs)
        by true e = (
          b,
          first_left b a (b ∷ []) (c ∷ bs) (first_of_one b) first (up_to (numbers b.rank) (numbers a.rank)
              e),
        )
        by false e = (
          a,
          first_right b a (b ∷ []) (c ∷ bs) (first_of_one b) first (not_up_to (numbers b.rank) (numbers
              a.rank) e),
        )

files_linked : (packages : List Package) → map (λ (m : Linked). m.files) (map linked_as packages) ≡ files_together packages
files_linked [] = refl
files_linked (p ∷ packages) = ap (λ fs. p.files ∷ fs) (files_linked packages)

module _ (hold : SentencesHold) (input : GroupInput) (name script : List ℕ) (group : List Member) (tree : ScriptTree)
    (packages : List Package) (ready : IsReady input name script group tree) (of : AreReadOf input.members packages)
  where
    abbrev linked : List Linked
    linked = map linked_as packages

    all_linked : AreLinked input.members linked
    all_linked = are_linked input.members packages of

    no_part : NoPart input script
    no_part q r (of_member i at f) =
        let x = tested_at input.members group ready.tested q i at in
        let m = x.0 in
        let t = x.1 in
        let first = f.first in
        none_first hold i t.ready t.is_ready m.image t.image m.components t.components t.paired f.broken first.breaks
    no_part q r (of_script is e) = let both = sym ready.is_script ∙ e in cc

    -- of breaks the first of which would be refused there is none
    unrefused : (bs : List Break) → ((b : Break) → IsFirst b bs
        → IsFault (IsRefused input name script) (faults.Refused b.refusal)) → bs ≡ []
    unrefused [] fault = refl
    unrefused (b ∷ bs) fault =
        let a = first_there b bs in absurd (⊎_elim (λ none. cc) (λ r. ready.unbroken r.0 r.1) (fault a.0 a.1))

    together : breaks linked ≡ []
    together = unrefused (breaks linked) (λ b first. together_fault input linked all_linked name script
        (faults.Refused b.refusal) no_part (inl (inr (b, first, refl))))

    known : missing linked ≡ []
    known = unrefused (missing linked) (λ b first. together_fault input linked all_linked name script
        (faults.Refused b.refusal) no_part (inr (together, inr (b, first, refl))))

    free : has_cycle (world_together packages) ≡ false
    free = by (has_cycle (world_together packages)) refl
      where
        by : (b : Bool) → has_cycle (world_together packages) ≡ b → b ≡ false
        by false e = refl
        by true e = absurd (ready.unbroken (refusal name 204 0) (by_cycle no_part (are_agreed input linked all_linked
            together) (miss_none input linked all_linked known) (
              linked,
              all_linked,
              ap (λ (fs : List Files). has_cycle (all_classes (joint fs))) (files_linked
                  packages) ∙ e,
            ) refl))

    pub written_together : AreWrittenTogether packages
    written_together = record {
      each = written_at input.members packages of;
      unbroken = together;
      known = known;
      free = free;
    }

    pub same_group : group ≡ group_of packages
    same_group = are_members input.members packages group of ready.tested
