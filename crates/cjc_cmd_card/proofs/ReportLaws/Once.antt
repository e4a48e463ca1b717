-- What is ready breaks no rule, and of the rules that are tested before 719 those of one rank have one refusal.
use Rattle.std.proofs.Common.{◌≡◌, inl, inr, ℕ, ◌≤◌, List, [], ◌∷◌, Result, Some, Ok, Err, refl, sym, ap, subst, ◌∙◌}
use Rattle.std.proofs.Common.{arith}
use Rattle.cjc_cmd_check.specs.Bytes.Breaks.{Among, Break, after, foremost}
use Rattle.cjc_cmd_check.proofs.BytesFirsts.{among_either}
use Rattle.cjc_cmd_check.specs.Bytes.Order.{Rank}
use Rattle.cjc_card.specs.CapRead.declared.tree.CapTree.{CapTree}
use Rattle.cjc_cmd_card.specs.Running.Ready.{Breaks, BreaksSentence, IsReady, of_package, of_parts, of_script}
use Rattle.cjc_cmd_card.specs.Running.Ready.{of_sentences, tested}
use Rattle.cjc_cmd_card.specs.declared.running.input.Input.{Input}
use Rattle.cjc_cmd_card.specs.declared.running.ready.Ready.{Ready}
use Rattle.cjc_cmd_card.proofs.RunningLaws.Ranks.{package_rank, script_rank, sentence_rank}
use Rattle.cjc_cmd_check.specs.Check.{sentence_breaks}
use Rattle.cjc_cmd_check.proofs.CheckingLaws.OneAnswer.{OfComponent, in_cap, in_components, of_components}
use Rattle.cjc_pairing.specs.ExportFile.declared.tree.ExportTree.{ExportTree}
use Rattle.cjc_cmd_check.specs.Folder.Breaks.{break_in, component_breaks, component_place, part_breaks}
use Rattle.cjc_cmd_check.specs.Folder.Reads.{read_component}
use Rattle.cjc_cmd_jvm.specs.Judge.Rules.{Breach}
use Rattle.cjc_cmd_jvm.specs.Judge.Spelt.{exports_of}
use Rattle.cjc_shape.proofs.JudgeFirsts.{file_or_later, file_rule, one_spelling, all_spell}
use Rattle.cjc_shape.proofs.JudgeOneRefusal.{one_refusal}
use Rattle.cjc_cmd_check.specs.List.Listed.{ListTree}
use Rattle.cjc_cmd_jvm.specs.Running.Ready.{BreaksScript}
use Rattle.cjc_pairing.specs.CheckRules.Consistent.{Consistent, Unbroken}
use Rattle.cjc_cmd_check.proofs.BytesBrokenRules.{none_among}

-- where components are consistent no sentence is broken
abbrev pub SentencesHold : Type 0
SentencesHold = (cap : CapTree) (exports : List ExportTree) → Consistent cap exports → Unbroken cap exports

-- ---- nothing is broken of what is ready

module _ (hold : SentencesHold) (input : Input) (name : List ℕ) (ready : Ready) (is : IsReady input name ready) where
  no_sentence : (b : Break) → BreaksSentence input.list input.files input.parts b → ⊥
  no_sentence b (trees, spelt, fine, among) =
      let list = input.list in
      let judged = ready.judged in
      let world = judged.world in
      let mine = all_spell list.lines input.files is.judged.read.trees is.judged.read.spelt in
      let same = one_spelling list.lines input.files trees is.judged.read.trees spelt mine in
      let exports : exports_of trees ≡ world.exports = ap exports_of same ∙ sym is.judged.read.exports in
      let there : Among b (sentence_breaks (Some ready.cap) world.exports) =
      subst (λ es. Among b (sentence_breaks (Some ready.cap) es)) exports
      (subst (λ o. Among b (sentence_breaks o (exports_of trees))) is.cap among) in
      none_among b (subst (Among b) (hold ready.cap world.exports is.consistent) there)

  pub ready_unbroken : (b : Break) → Breaks input name b → ⊥
  ready_unbroken b (of_package h) = is.judged.unbroken b h
  ready_unbroken b (of_parts among) = none_among b (subst (Among b) is.unbroken among)
  ready_unbroken b (of_script (r, e, same)) = let both = sym is.script ∙ e in cc
  ready_unbroken b (of_sentences h) = no_sentence b h

-- ---- one refusal at a rank

two_scripts : (name text : List ℕ) (a b : Break) → BreaksScript name text a → BreaksScript name text b
    → a.refusal ≡ b.refusal
two_scripts name text a b (r, e, is) (s, f, js) =
    let clash : r ≡ s = (let both = sym e ∙ f in cc) in
    ap (λ (x : Break). x.refusal) is ∙ clash ∙ sym (ap (λ (x : Break). x.refusal) js)

-- 106 is of the first hundred
in_part : (tag : ℕ) {A : Type 0} (r : Result A ℕ) (b : Break) → Among b (break_in 106 (component_place tag) r)
    → (b.rank.rule ≡ 106) × (b.rank.family ≡ 1)
in_part tag (Ok tree) b among = none_among b among
in_part tag (Err k) b foremost = (refl, refl)
in_part tag (Err k) b (after more) = none_among b more

in_parts : (tags : List ℕ) (files : List (List ℕ)) (b : Break) → Among b (component_breaks tags files)
    → (b.rank.rule ≡ 106) × (b.rank.family ≡ 1)
unfolding component_breaks
in_parts [] [] b among = none_among b among
in_parts [] (x ∷ files) b among = none_among b among
in_parts (tag ∷ tags) [] b among = none_among b among
in_parts (tag ∷ tags) (x ∷ files) b among =
    elim (among_either b (break_in 106 (component_place tag) (read_component tag x)) (component_breaks tags files)
    among) [
      | inl here ↦ in_part tag (read_component tag x) b here
      | inr later ↦ in_parts tags files b later
    ]

module _ (input : Input) (name : List ℕ) where
  abbrev list : ListTree
  list = input.list

  abbrev IsPart : Break → Type 0
  IsPart b = Among b (part_breaks input.parts)

  abbrev IsSentence : Break → Type 0
  IsSentence b = BreaksSentence input.list input.files input.parts b

  of_part : (b : Break) → IsPart b → OfComponent b
  of_part b among = in_components _ _ b among

  of_sentence : (b : Break) → IsSentence b → OfComponent b
  of_sentence b (trees, spelt, fine, among) = in_cap _ _ b among

  rules : (a b : Break) → a.rank ≡ b.rank → a.rank.rule ≡ b.rank.rule
  rules a b e = ap (λ (k : Rank). k.rule) e

  families : (a b : Break) → a.rank ≡ b.rank → a.rank.family ≡ b.rank.family
  families a b e = ap (λ (k : Rank). k.family) e

  package_and_part : {P : Type 0} (a b : Break) → Breach list input.files tested a → IsPart b → a.rank ≡ b.rank → P
  package_and_part a b h g e =
      let rule = rules a b e in
      let family = families a b e in
      let part = in_parts _ _ b g in
      let r = part.0 in
      let f = part.1 in
      elim (file_or_later list input.files tested a h) [
        | inl file ↦ let le = file_rule list.lines input.files a file in absurd (omega (arith, rule, r, le))
        | inr later ↦ absurd (omega (arith, family, f, later))
      ]

  package_and_script : {P : Type 0} (a b : Break) → Breach list input.files tested a → BreaksScript name input.script b
      → a.rank ≡ b.rank → P
  package_and_script a b h (r, s, is) e =
      let rule = rules a b e in
      let family = families a b e in
      let mine = ap (λ (x : Break). x.rank.rule) is in
      let first = ap (λ (x : Break). x.rank.family) is in
      elim (file_or_later list input.files tested a h) [
        | inl file ↦ let le = file_rule list.lines input.files a file in absurd (omega (arith, rule, mine, le))
        | inr later ↦ absurd (omega (arith, family, first, later))
      ]

  package_and_sentence : {P : Type 0} (a b : Break) → Breach list input.files tested a → IsSentence b → a.rank ≡ b.rank
      → P
  package_and_sentence a b h g e =
      let family = families a b e in
      let four = package_rank list input.files a h in
      let seven = sentence_rank list input.files input.parts b g in
      absurd (omega (arith, family, four, seven))

  part_and_script : {P : Type 0} (a b : Break) → IsPart a → BreaksScript name input.script b → a.rank ≡ b.rank → P
  part_and_script a b h (r, s, is) e =
      let rule = rules a b e in
      let part = in_parts _ _ a h in
      let six = part.0 in
      let five = ap (λ (x : Break). x.rank.rule) is in
      absurd (omega (arith, rule, six, five))

  script_and_sentence : {P : Type 0} (a b : Break) → BreaksScript name input.script a → IsSentence b → a.rank ≡ b.rank
      → P
  script_and_sentence a b h g e =
      let family = families a b e in
      let rank = script_rank name input.script a h in
      let one = rank.0 in
      let seven = sentence_rank list input.files input.parts b g in
      absurd (omega (arith, family, one, seven))

  pub one_break : (a b : Break) → Breaks input name a → Breaks input name b → a.rank ≡ b.rank → a.refusal ≡ b.refusal
  one_break a b (of_package h) (of_package g) e = one_refusal list input.files tested a b h g e
  one_break a b (of_package h) (of_parts g) e = package_and_part a b h g e
  one_break a b (of_package h) (of_script g) e = package_and_script a b h g e
  one_break a b (of_package h) (of_sentences g) e = package_and_sentence a b h g e
  one_break a b (of_parts h) (of_package g) e = package_and_part b a g h (sym e)
  one_break a b (of_parts h) (of_parts g) e = of_components a b (of_part a h) (of_part b g) e
  one_break a b (of_parts h) (of_script g) e = part_and_script a b h g e
  one_break a b (of_parts h) (of_sentences g) e = of_components a b (of_part a h) (of_sentence b g) e
  one_break a b (of_script h) (of_package g) e = package_and_script b a g h (sym e)
  one_break a b (of_script h) (of_parts g) e = part_and_script b a g h (sym e)
  one_break a b (of_script h) (of_script g) e = two_scripts name input.script a b h g
  one_break a b (of_script h) (of_sentences g) e = script_and_sentence a b h g e
  one_break a b (of_sentences h) (of_package g) e = package_and_sentence b a g h (sym e)
  one_break a b (of_sentences h) (of_parts g) e = of_components a b (of_sentence a h) (of_part b g) e
  one_break a b (of_sentences h) (of_script g) e = script_and_sentence b a g h (sym e)
  one_break a b (of_sentences h) (of_sentences g) e = of_components a b (of_sentence a h) (of_sentence b g) e
