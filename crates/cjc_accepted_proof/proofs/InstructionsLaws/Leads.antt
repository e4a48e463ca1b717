-- Where the jumps and switches that are written lead: to what is written for the targets of those of the class file.
use Rattle.std.proofs.Common.{◌≡◌, ℕ, suc, ◌+◌, ◌-◌, ◌<◌, ◌≤◌, refl, sym, ap, ◌∙◌, arith, ⊎_elim, inl, inr, Bool}
use Rattle.std.proofs.Common.{true, false, List, [], ◌∷◌, map, Contains, pos, negsuc}
use Rattle.std.specs.Prelude.{nat_le, if◌then◌else◌, filter, cond, ℤ, ◌+ℤ◌}
use Rattle.std.proofs.lemmas.Bool.{cases_lt}
use Rattle.std.proofs.lemmas.Bool.Decides.{nat_tests}
use Rattle.cjc_types.specs.Bytecode.declared.insn.JCase.{JCase}
use Rattle.cjc_types.specs.Fixpoint.Working.Edges.{contains_cons, contains_head, contains_tail}
use Rattle.cjc_types.specs.Steps.{case_target}
use Rattle.cjc_check_proof.specs.CheckRules.Instructions.{pair_offsets}
use Rattle.cjc_check_proof.specs.NCode.Lowering.Laid.{distance, matches, offsets}
use Rattle.cjc_check_proof.specs.NCode.Lowering.Naming.{Naming}
use Rattle.cjc_check_proof.specs.NCode.Written.{pair_case, pair_cases, table_cases}
use Rattle.cjc_check_proof.specs.NCode.declared.narrow.NCase.{NCase}
use Rattle.cjc_verify.specs.CardSemantics.Bytecode.Numbers.{is_word}
use Rattle.cjc_verify.specs.CardSemantics.Machine.Operations.{moved}

-- a jump by the distance from one place to another ends there
pub moved_far : (at x : ℕ) → moved at (distance at x) ≡ x
moved_far at x = ⊎_elim
    (λ lt. let e : nat_le at x ≡ false = grind (arith, nat_tests) in
    ap (λ t. moved at (if t then pos (x - at) else negsuc (at - suc x))) e ∙ back lt)
    (λ le. let e : nat_le at x ≡ true = grind (arith, nat_tests) in
    ap (λ t. moved at (if t then pos (x - at) else negsuc (at - suc x))) e ∙ forth le)
    (cases_lt x at)
  where
    back : x < at → at - suc (at - suc x) ≡ x
    back h = omega arith

    forth : at ≤ x → at + (x - at) ≡ x
    forth h = omega arith

module _ (n : Naming) (to : ℕ → ℕ) (at : ℕ) (place : ℕ → ℕ) where
  -- an offset is that of what is written for one of these targets
  abbrev pub Leads : List ℕ → ℕ → Type 0
  Leads targets offset = (target : ℕ) × Contains targets target × (offset ≡ to (place target))

  leads_later : (t : ℕ) (ts : List ℕ) (offset : ℕ) → Leads ts offset → Leads (t ∷ ts) offset
  leads_later t ts offset r = (r.0, contains_tail t ts r.0 r.1, r.2)

  leads_first : (t : ℕ) (ts : List ℕ) (offset : ℕ) → moved at (distance at (to (place t))) ≡ offset → Leads (t ∷ ts)
      offset
  leads_first t ts offset e = (t, contains_head t ts, sym e ∙ moved_far at (to (place t)))

  -- nowhere
  pub leads_none : (ts : List ℕ) (offset : ℕ) → Contains [] offset → Leads ts offset
  leads_none ts offset (k, lt, e) = absurd (omega (arith, lt))

  -- one jump
  pub leads_one : (t : ℕ) (ts : List ℕ) (offset : ℕ) → Contains (moved at (distance at (to (place t))) ∷ []) offset
      → Leads (t ∷ ts) offset
  leads_one t ts offset is = elim (contains_cons (moved at (distance at (to (place t)))) [] offset is) [
    | inl same ↦ leads_first t ts offset same
    | inr later ↦ leads_none (t ∷ ts) offset later
  ]

  -- the cases of a table
  table_leads : (low : ℤ) (ts : List ℕ) (offset : ℕ) → Contains (map (moved at) (offsets n to at (table_cases place low
      ts))) offset → Leads ts offset
  table_leads low [] offset is = leads_none [] offset is
  table_leads low (t ∷ ts) offset is = by (is_word low) is (table_leads (low +ℤ pos 1) ts offset)
    where
      more : List NCase
      more = table_cases place (low +ℤ pos 1) ts

      by : (b : Bool) → Contains (map (moved at) (offsets n to at (if b then record { value = low; target = place t }
          ∷ table_cases place (low +ℤ pos 1) ts else table_cases place (low +ℤ pos 1) ts))) offset
          → (Contains (map (moved at) (offsets n to at (table_cases place (low +ℤ pos 1) ts))) offset
          → Leads ts offset) → Leads (t ∷ ts) offset
      by true h rest = elim (contains_cons (moved at (distance at (to (place t)))) (map (moved at) (offsets n to at
          (table_cases place (low +ℤ pos 1) ts))) offset h) [
            | inl same ↦ leads_first t ts offset same
            | inr later ↦ leads_later t ts offset (rest later)
          ]
      by false h rest = leads_later t ts offset (rest h)

  -- a table with its default
  pub table_targets : (other : ℕ) (low : ℤ) (ts : List ℕ) (offset : ℕ) → Contains (moved at (distance at (to (place
      other))) ∷ map (moved at) (offsets n to at (table_cases place low ts))) offset → Leads (other ∷ ts) offset
  table_targets other low ts offset is = elim (contains_cons (moved at (distance at (to (place other)))) (map (moved at)
      (offsets n to at (table_cases place low ts))) offset is) [
        | inl same ↦ leads_first other ts offset same
        | inr later ↦ leads_later other ts offset (table_leads low ts offset later)
      ]

  -- the pairs of a lookupswitch
  pair_leads : (cases : List JCase) (offset : ℕ) → Contains (map (moved at) (pair_offsets (matches n to at (pair_cases
      place cases)))) offset → Leads (map case_target cases) offset
  pair_leads [] offset is = leads_none [] offset is
  pair_leads (c ∷ cases) offset is = by (is_word c.value) is (pair_leads cases offset)
    where
      by : (b : Bool) → Contains (map (moved at) (pair_offsets (matches n to at (map (pair_case place) (cond b (c
          ∷ filter (λ (d : JCase). is_word d.value) cases) (filter (λ (d : JCase). is_word d.value) cases)))))) offset
          → (Contains (map (moved at) (pair_offsets (matches n to at (pair_cases place cases)))) offset
          → Leads (map case_target cases) offset) → Leads (c.target ∷ map case_target cases) offset
      by true h rest = elim (contains_cons (moved at (distance at (to (place c.target)))) (map (moved at) (pair_offsets
          (matches n to at (pair_cases place cases)))) offset h) [
            | inl same ↦ leads_first c.target (map case_target cases) offset same
            | inr later ↦ leads_later c.target (map case_target cases) offset (rest later)
          ]
      by false h rest = leads_later c.target (map case_target cases) offset (rest h)

  -- with its default
  pub pair_targets : (other : ℕ) (cases : List JCase) (offset : ℕ) → Contains (moved at (distance at (to (place other)))
      ∷ map (moved at) (pair_offsets (matches n to at (pair_cases place cases)))) offset → Leads (other ∷ map
      case_target cases) offset
  pair_targets other cases offset is = elim (contains_cons (moved at (distance at (to (place other)))) (map (moved at)
      (pair_offsets (matches n to at (pair_cases place cases)))) offset is) [
        | inl same ↦ leads_first other (map case_target cases) offset same
        | inr later ↦ leads_later other (map case_target cases) offset (pair_leads cases offset later)
      ]
