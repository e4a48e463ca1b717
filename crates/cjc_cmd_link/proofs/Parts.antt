-- The first refusal of parts that are tested one after the other.
use Rattle.std.proofs.Common.{◌≡◌, ◌⊎◌, inl, inr, ℕ, ◌+◌, ◌<◌, ◌≤◌, Bool, true, false, List, [], length, refl, sym}
use Rattle.std.proofs.Common.{ap, subst, ◌∙◌, arith, Option, Some, None}
use Rattle.std.specs.Prelude.{nat_lt, if◌then◌else◌, Result, Ok, Err, IfOk, IfErr}
use Rattle.std.proofs.lemmas.Bool.{cases_lt, ltb-true, ltb-false}
use Rattle.std.proofs.lemmas.Option.{slice_get_within}
use Rattle.cjc_group.proofs.BytesFirsts.{upto_refl}
use Rattle.cjc_group.proofs.BytesPlain.{the_same}
use Rattle.cjc_group.specs.Bytes.Breaks.{Break}
use Rattle.cjc_group.specs.Bytes.Order.{AreUpTo}
use Rattle.cjc_group.specs.Bytes.Refused.{IsUnlessNoMemory}
use Rattle.cjc_group.specs.Bytes.declared.fault.Fault.{Fault}
use Rattle.cjc_group.specs.Bytes.declared.fault.Fault.TheVariants as faults
use Rattle.cjc_group.specs.Bytes.declared.fault.Refusal.{Refusal}
use Rattle.cjc_cmd_card.proofs.ReportLaws.OneAnswer.{one_of_pair}
use Rattle.cjc_cmd_card.proofs.ReportLaws.Once.{one_break}
use Rattle.cjc_cmd_card.proofs.RunningLaws.Order.{script_found}
use Rattle.cjc_cmd_card.specs.Report.Runs as alone
use Rattle.cjc_cmd_card.specs.declared.running.input.Input.{Input}
use Rattle.cjc_cmd_link.specs.Refused.{IsFault, IsFirstPart, IsRefused, NoPart, PartRefused, by_part, key, of_member}
use Rattle.cjc_cmd_link.specs.Refused.{of_script}
use Rattle.cjc_cmd_link.specs.Working.{Below, MemberRefused, StandsSo, StopsBy, earlier, hundred}
use Rattle.cjc_cmd_link.specs.declared.reads.GroupInput.{GroupInput}
use Rattle.cjc_cmd_card.proofs.JudgeOneRefusal.{one_first_of, one_on_levels}
use Rattle.cjc_cmd_card.specs.LowerJudge.Rules.{IsFirstFault, IsFirstRefused}
use Rattle.cjc_link_semantics.specs.List.Listed.{answer}
use Rattle.cjc_cmd_card.specs.LowerScriptText.Scripted.{ScriptTree, scripted}

-- ---- one part more

module _ (Refused : (part : ℕ) → Refusal → Type 0) (one : (q : ℕ) (r s : Refusal) → Refused q r → Refused q s → r ≡ s)
  where
    pub none_so : StandsSo Refused 0 None
    none_so q r h = let lt = h.0 in absurd (omega (arith, lt))

    -- one of the first parts, or the one behind them
    either : (n q : ℕ) (r : Refusal) → Below Refused (n + 1) q r → Below Refused n q r ⊎ ((q ≡ n) × Refused n r)
    either n q r (lt, h) = elim (cases_lt q n) [
      | inl before ↦ inl (before, h)
      | inr behind ↦ let e : q ≡ n = omega (arith, lt, behind) in inr (e, subst (λ k. Refused k r) e h)
    ]

    -- it is not refused
    pub passes_so : (n : ℕ) (o : Option Refusal) → StandsSo Refused n o → ((s : Refusal) → Refused n s → ⊥)
        → StandsSo Refused (n + 1) o
    passes_so n None so none = λ q r h. elim (either n q r h) [ inl before ↦ so q r before | inr w ↦ none r w.1 ]
    passes_so n (Some r) so none = record {
      part = so.part;
      refused = ((let lt = so.refused.0 in omega (arith, lt)), so.refused.1);
      least = λ q s h. elim (either n q s h) [ inl before ↦ so.least q s before | inr w ↦ absurd (none s w.1) ];
    }

    same_key : (n q : ℕ) (s t : Refusal) → q ≡ n → s ≡ t → AreUpTo (key n s) (key q t)
    same_key n q s t e f = subst (λ k. AreUpTo (key n s) (key k t)) (sym e) (subst (λ u. AreUpTo (key n s) (key n u)) f
        (upto_refl (key n s)))

    -- a lower hundred stands before all
    lower : (n p q : ℕ) (r s t : Refusal) → hundred s < hundred r → AreUpTo (key p r) (key q t)
        → AreUpTo (key n s) (key q t)
    lower n p q r s t lt (inl less) = inl (omega (arith, lt, less))
    lower n p q r s t lt (inr more) = let e = more.0 in inl (omega (arith, lt, e))

    -- the one before stands before it
    higher : (p n : ℕ) (r s : Refusal) → p < n → hundred r ≤ hundred s → AreUpTo (key p r) (key n s)
    higher p n r s lt le = elim (cases_lt (hundred r) (hundred s)) [
      | inl less ↦ inl less
      | inr not ↦ inr (omega (arith, le, not), inl lt)
    ]

    -- it is refused
    pub stops_so : (n : ℕ) (o : Option Refusal) (s : Refusal) → StandsSo Refused n o → Refused n s
        → StandsSo Refused (n + 1) (Some (earlier o s))
    stops_so n None s so h = record {
      part = n;
      refused = (omega arith, h);
      least = λ q t x. elim (either n q t x) [
        | inl before ↦ absurd (so q t before)
        | inr w ↦ same_key n q s t w.0 (one n s t h w.1)
      ];
    }
    stops_so n (Some r) s so h = by (nat_lt (hundred s) (hundred r)) refl
      where
        by : (b : Bool) → nat_lt (hundred s) (hundred r) ≡ b
            → IsFirstPart (Below Refused (n + 1)) (if b then s else r)
        by true is =
            let lt = ltb-true (hundred s) (hundred r) is in
            record {
              part = n;
              refused = (omega arith, h);
              least = λ q t x. elim (either n q t x) [
                | inl before ↦ lower n so.part q r s t lt (so.least q t before)
                | inr w ↦ same_key n q s t w.0 (one n s t h w.1)
              ];
            }
        by false is =
            let le = ltb-false (hundred s) (hundred r) is in
            let within = so.refused.0 in
            record {
              part = so.part;
              refused = (omega (arith, within), so.refused.1);
              least = λ q t x. elim (either n q t x) [
                | inl before ↦ so.least q t before
                | inr w ↦ subst (λ k. AreUpTo (key so.part r) (key k t)) (sym w.0) (subst (λ u. AreUpTo (key so.part r)
                    (key n u)) (one n s t h w.1) (higher so.part n r s within le))
              ];
            }

-- ---- packages

-- a package is refused in one way
pub one_alone : (m : Input) (r s : Refusal) → IsFirstRefused (alone.AnyBreaks m []) r
    → IsFirstRefused (alone.AnyBreaks m []) s → r ≡ s
one_alone m r s f g = one_first_of (one_on_levels (one_break m []) (one_of_pair m)) r s f g

pub one_member : (inputs : List Input) (q : ℕ) (r s : Refusal) → MemberRefused inputs q r → MemberRefused inputs q s
    → r ≡ s
one_member inputs q r s (m, at, f) (k, there, g) =
    let same : k ≡ m = the_same k m (sym there ∙ at) in
    one_alone m r s f (subst (λ (x : Input). IsFirstRefused (alone.AnyBreaks x []) s) same g)

-- ---- packages and the script

module _ (input : GroupInput) (name : List ℕ) where
  of_package : (q : ℕ) (r : Refusal) → q < length input.members → PartRefused input name q r
      → MemberRefused input.members q r
  of_package q r lt (of_member m at h) = (m, at, h)
  of_package q r lt (of_script is e) = absurd (omega (arith, lt, is))

  within : (q : ℕ) (r : Refusal) → PartRefused input name q r → q < length input.members + 1
  within q r (of_member m at h) = let lt = slice_get_within input.members q m at in omega (arith, lt)
  within q r (of_script is e) = omega (arith, is)

  -- a part is refused in one way
  pub one_part : (q : ℕ) (r s : Refusal) → PartRefused input name q r → PartRefused input name q s → r ≡ s
  one_part q r s (of_member m at f) (of_member k there g) = one_member input.members q r s (m, at, f) (k, there, g)
  one_part q r s (of_member m at f) (of_script is e) =
      absurd (let lt = slice_get_within input.members q m at in omega (arith, lt, is))
  one_part q r s (of_script is e) (of_member m at f) =
      absurd (let lt = slice_get_within input.members q m at in omega (arith, lt, is))
  one_part q r s (of_script is e) (of_script js f) = let both = sym e ∙ f in cc

  -- what is known of packages is known of parts
  as_parts : (o : Option Refusal) → StandsSo (MemberRefused input.members) (length input.members) o
      → StandsSo (PartRefused input name) (length input.members) o
  as_parts None so = λ q r h. so q r (h.0, of_package q r h.0 h.1)
  as_parts (Some r) so =
      let m = so.refused.1 in
      record {
        part = so.part;
        refused = (so.refused.0, of_member m.0 m.1 m.2);
        least = λ q s h. so.least q s (h.0, of_package q s h.0 h.1);
      }

  -- nothing is refused
  pub no_part : (o : Option Refusal) (tree : ScriptTree) → o ≡ None
      → StandsSo (MemberRefused input.members) (length input.members) o → scripted name input.script ≡ Ok tree
      → NoPart input name
  no_part None tree is so e q r h = all (within q r h) h
    where
      none : (s : Refusal) → PartRefused input name (length input.members) s → ⊥
      none s (of_member m at f) = let lt = slice_get_within input.members (length input.members) m at
          in absurd (omega (arith, lt))
      none s (of_script same f) = let both = sym e ∙ f in cc

      all : q < length input.members + 1 → PartRefused input name q r → ⊥
      all lt x = passes_so (PartRefused input name) one_part (length input.members) None (as_parts None so) none q r (
        lt,
        x,
      )
  no_part (Some x) tree is so e q r h = absurd cc

  all_parts : (r : Refusal) → IsFirstPart (Below (PartRefused input name) (length input.members + 1)) r
      → IsFirstPart (PartRefused input name) r
  all_parts r first = record {
    part = first.part;
    refused = first.refused.1;
    least = λ q s h. first.least q s (within q s h, h);
  }

  script_stops : (o : Option Refusal) (q : Result ScriptTree Refusal) (r : Refusal) → scripted name input.script ≡ q
      → StandsSo (MemberRefused input.members) (length input.members) o → StopsBy o q r
      → IsFirstPart (PartRefused input name) r
  script_stops o (Ok tree) r is so e = by o e so
    where
      none : (s : Refusal) → PartRefused input name (length input.members) s → ⊥
      none s (of_member m at f) = let lt = slice_get_within input.members (length input.members) m at
          in absurd (omega (arith, lt))
      none s (of_script same f) = let both = sym is ∙ f in cc

      by : (o : Option Refusal) → o ≡ Some r → StandsSo (MemberRefused input.members) (length input.members) o
          → IsFirstPart (PartRefused input name) r
      by None e so = absurd cc
      by (Some s) e so =
          subst (λ (x : Refusal). IsFirstPart (PartRefused input name) x) (the_same s r e)
          (all_parts s (passes_so (PartRefused input name) one_part (length input.members) (Some s)
          (as_parts (Some s) so) none))
  script_stops o (Err s) r is so e =
      subst (λ (x : Refusal). IsFirstPart (PartRefused input name) x) (sym e)
      (all_parts (earlier o s) (stops_so (PartRefused input name) one_part (length input.members) o s (as_parts o so)
      (of_script refl is)))

  -- the first refusal of all
  pub parts_fault : (o : Option Refusal) (e : Fault)
      → StandsSo (MemberRefused input.members) (length input.members) o
      → IsFault (StopsBy o (scripted name input.script)) e → IsFault (IsFirstPart (PartRefused input name)) e
  parts_fault o e so (inl memory) = inl memory
  parts_fault o e so (inr (r, stops, is)) = inr (r, script_stops o (scripted name input.script) r refl so stops, is)

-- ---- the script

pub script_passes : {E : Type 0} (name text : List ℕ) (s : ScriptTree) (result : Result ScriptTree E)
    → IsUnlessNoMemory (Ok s) (answer (scripted name text)) → IfOk result (λ t. t ≡ s)
    → IfOk result (λ t. scripted name text ≡ Ok t)
script_passes name text s (Ok t) read same = script_found name text s read ∙ ap (λ x. Ok x) (sym same)
script_passes name text s (Err e) read same = tt

pub script_refused : (name text : List ℕ) (s : ScriptTree) (refusal : Option Refusal) (result : Result ScriptTree Fault)
    → IsUnlessNoMemory (Ok s) (answer (scripted name text))
    → IfErr result (λ e. (r : Refusal) × (refusal ≡ Some r) × (e ≡ faults.Refused r))
    → IfErr result (IsFault (StopsBy refusal (scripted name text)))
script_refused name text s refusal (Ok t) read h = tt
script_refused name text s refusal (Err e) read h =
    inr (
      h.0,
      subst (λ q. StopsBy refusal q h.0) (sym (script_found name text s read)) h.1,
      h.2,
    )

-- a script that breaks its grammar
pub script_broken : (name text : List ℕ) (e : Fault) (r : Refusal) (refusal : Option Refusal) → e ≡ faults.Refused r
    → IsUnlessNoMemory {X = ScriptTree} (Err e) (answer (scripted name text))
    → IsFault (StopsBy refusal (scripted name text)) (faults.Refused (earlier refusal r))
script_broken name text e r refusal is read = by (scripted name text) read
  where
    by : (q : Result ScriptTree Refusal) → IsUnlessNoMemory {X = ScriptTree} (Err e) (answer q)
        → IsFault (StopsBy refusal q) (faults.Refused (earlier refusal r))
    by (Ok t) (inl h) = absurd (let clash : Err e ≡ Ok t = h in cc)
    by (Err x) (inl h) =
        let same : e ≡ faults.Refused x = cc in
        let one : r ≡ x = (let both = sym is ∙ same in cc) in
        inr (earlier refusal r, ap (earlier refusal) one, refl)
    by q (inr h) = absurd (let clash : e ≡ faults.NoMemory = cc in let both = sym is ∙ clash in cc)

-- the first of some breaks, where the error is this refusal
pub first_refused : {Breaks : Break → Type 0} (e : Fault) (r : Refusal) → e ≡ faults.Refused r → IsFirstFault Breaks e
    → IsFirstRefused Breaks r
first_refused e r is (inl memory) = absurd (let both = sym is ∙ memory in cc)
first_refused {Breaks} e r is (inr (s, first, same)) =
    let one : s ≡ r = (let both = sym same ∙ is in cc) in subst (λ x. IsFirstRefused Breaks x) one first

-- a refusal of a part is the answer
pub parts_first : (input : GroupInput) (name script : List ℕ) (e : Fault)
    → IsFault (IsFirstPart (PartRefused input script)) e → IsFault (IsRefused input name script) e
parts_first input name script e (inl memory) = inl memory
parts_first input name script e (inr (r, first, is)) = inr (r, by_part first, is)
