-- What was read decides one answer.
use Rattle.std.proofs.Common.{◌≡◌, inl, inr, ℕ, List, [], ◌∷◌, Ok, Err, sym, subst, ◌∙◌, arith}
use Rattle.cjc_group.specs.Bytes.Breaks.{Among, Break}
use Rattle.cjc_group.specs.Bytes.Order.{AreUpTo}
use Rattle.cjc_group.specs.Bytes.declared.fault.Refusal.{Refusal}
use Rattle.cjc_cmd_link.proofs.Agreed.{one_linked}
use Rattle.cjc_cmd_link.proofs.Parts.{one_part}
use Rattle.cjc_cmd_link.specs.Refused.{Breaks, IsFirstPart, IsRefused, PartRefused, by_cycle, by_group, by_missing}
use Rattle.cjc_cmd_link.specs.Refused.{by_part}
use Rattle.cjc_cmd_link.specs.Runs.{Runs}
use Rattle.cjc_cmd_link.specs.declared.reads.GroupInput.{GroupInput}
use Rattle.cjc_group.proofs.OneRank.{breaks_once, missing_once}
use Rattle.cjc_group.specs.Members.{Member as Linked}
use Rattle.cjc_group.specs.Missing.{missing}
use Rattle.cjc_group.specs.Rules.{breaks}
use Rattle.cjc_cmd_card.proofs.JudgeOneRefusal.{one_first_of}
use Rattle.cjc_link_semantics.specs.Loaded.{Member}
use Rattle.cjc_link_semantics.specs.Script.declared.report.Report.{Report}
use Rattle.cjc_cmd_card.specs.LowerScriptText.Scripted.{ScriptTree}
use Rattle.cjc_cmd_card.specs.Shelf.declared.command.status.Todo.{Todo}

-- two of which none stands behind the other are of one part
one_key : (h p k q : ℕ) → AreUpTo (h ∷ p ∷ []) (k ∷ q ∷ []) → AreUpTo (k ∷ q ∷ []) (h ∷ p ∷ []) → p ≡ q
one_key h p k q (inl l) (inl m) = absurd (omega (arith, l, m))
one_key h p k q (inl l) (inr m) = let e = m.0 in absurd (omega (arith, l, e))
one_key h p k q (inr l) (inl m) = let e = l.0 in absurd (omega (arith, m, e))
one_key h p k q (inr (e, inl l)) (inr (f, inl m)) = absurd (omega (arith, l, m))
one_key h p k q (inr (e, inl l)) (inr (f, inr m)) = let g = m.0 in absurd (omega (arith, l, g))
one_key h p k q (inr (e, inr l)) (inr m) = l.0

module _ (input : GroupInput) (name script : List ℕ) where
  parts_once : (r s : Refusal) → IsFirstPart (PartRefused input script) r → IsFirstPart (PartRefused input script) s
      → r ≡ s
  parts_once r s f g =
      let same : f.part ≡ g.part = one_key _ f.part _ g.part (f.least g.part s g.refused) (g.least f.part r f.refused)
      in
      one_part input script g.part r s (subst (λ q. PartRefused input script q r) same f.refused) g.refused

  -- breaks of one rank have one refusal
  abbrev Once : (List Linked → List Break) → Type 0
  Once broken = (group : List Linked) (a b : Break) → Among a (broken group) → Among b (broken group)
      → a.rank ≡ b.rank → a.refusal ≡ b.refusal

  group_once : (broken : List Linked → List Break) → Once broken → (a b : Break) → Breaks broken input a
      → Breaks broken input b → a.rank ≡ b.rank → a.refusal ≡ b.refusal
  group_once broken once a b (ms, linked, h) (ns, linked_too, g) e =
      let same : ns ≡ ms = one_linked input.members ns ms linked_too linked in
      once ms a b h (subst (λ (k : List Linked). Among b (broken k)) same g) e

  refused_once : (r s : Refusal) → IsRefused input name script r → IsRefused input name script s → r ≡ s
  refused_once r s (by_part f) (by_part g) = parts_once r s f g
  refused_once r s (by_part f) (by_group none g) = absurd (none f.part r f.refused)
  refused_once r s (by_part f) (by_missing none agreed g) = absurd (none f.part r f.refused)
  refused_once r s (by_part f) (by_cycle none agreed known cycle is) = absurd (none f.part r f.refused)
  refused_once r s (by_group none f) (by_part g) = absurd (none g.part s g.refused)
  refused_once r s (by_group none f) (by_group _ g) = one_first_of (group_once breaks breaks_once) r s f g
  refused_once r s (by_group none f) (by_missing _ agreed g) = absurd (agreed f.broken f.first.breaks)
  refused_once r s (by_group none f) (by_cycle _ agreed known cycle is) = absurd (agreed f.broken f.first.breaks)
  refused_once r s (by_missing none agreed f) (by_part g) = absurd (none g.part s g.refused)
  refused_once r s (by_missing none agreed f) (by_group _ g) = absurd (agreed g.broken g.first.breaks)
  refused_once r s (by_missing none agreed f) (by_missing _ _ g) =
      one_first_of (group_once missing missing_once) r s f g
  refused_once r s (by_missing none agreed f) (by_cycle _ _ known cycle is) = absurd (known f.broken f.first.breaks)
  refused_once r s (by_cycle none agreed known cycle is) (by_part g) = absurd (none g.part s g.refused)
  refused_once r s (by_cycle none agreed known cycle is) (by_group _ g) = absurd (agreed g.broken g.first.breaks)
  refused_once r s (by_cycle none agreed known cycle is) (by_missing _ _ g) = absurd (known g.broken g.first.breaks)
  refused_once r s (by_cycle none agreed known cycle is) (by_cycle _ _ _ _ js) = is ∙ sym js

pub one_refusal : (report : List Member → ScriptTree → Report) (name script : List ℕ) (input : GroupInput)
    (r s : Refusal) → Runs report name script input (Err r) → Runs report name script input (Err s) → r ≡ s
one_refusal report name script input r s f g = refused_once input name script r s f g

pub never_both : (report : List Member → ScriptTree → Report) (name script : List ℕ) (input : GroupInput) (todo : Todo)
    (r : Refusal) → Runs report name script input (Ok todo) → Runs report name script input (Err r) → ⊥
never_both report name script input todo r run f = let ready = run.ready in ready.unbroken r f
