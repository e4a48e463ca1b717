-- What was read decides one answer.
use Rattle.std.proofs.Common.{◌≡◌, ℕ, List, [], ◌∷◌, map, refl, sym, ap, subst}
use Rattle.std.specs.Prelude.{Ok, Err}
use Rattle.cjc_cmd_check.specs.Bytes.Breaks.{Among, Break, after, foremost}
use Rattle.cjc_cmd_check.specs.Bytes.declared.fault.Refusal.{Refusal}
use Rattle.cjc_cmd_card.specs.Running.Ready.{Breaks}
use Rattle.cjc_cmd_card.specs.declared.running.input.Input.{Input}
use Rattle.cjc_cmd_card.proofs.ReportLaws.Once.{SentencesHold, one_break, ready_unbroken}
use Rattle.cjc_cmd_jvm.specs.LowerShelf.declared.command.status.Todo.{Todo}
use Rattle.cjc_cmd_jvm.specs.Judge.Rules.{OnLevels, files_spelt, on_first, on_second}
use Rattle.cjc_shape.proofs.JudgeOneRefusal.{one_first_of, one_on_levels}
use Rattle.cjc_shape.specs.Components.Paired.Pairs.{head_of, pair_breaks}
use Rattle.cjc_pairing.specs.CheckRules.Consistent.{break_at}
use Rattle.cjc_pairing.specs.CheckRules.declared.spot.ComponentPlace.{ComponentPlace}
use Rattle.cjc_cmd_card.specs.Report.Runs.{AnyBreaks, BreaksPair, Runs}
use Rattle.cjc_cmd_card.proofs.ReportLaws.Free.{of_pair, one_pair}
use Rattle.cjc_cmd_check.proofs.BytesBrokenRules.{none_among}

one_head : (spots : List ComponentPlace) (a b : Break) → Among a (map (break_at 719) (head_of spots))
    → Among b (map (break_at 719) (head_of spots)) → a ≡ b
one_head [] a b h g = none_among a h
one_head (s ∷ spots) a b foremost foremost = refl
one_head (s ∷ spots) a b foremost (after g) = none_among b g
one_head (s ∷ spots) a b (after h) g = none_among a h

pub one_of_pair : (input : Input) (a b : Break) → BreaksPair input a → BreaksPair input b → a.rank ≡ b.rank
    → a.refusal ≡ b.refusal
one_of_pair input a b p q e =
    let there : Among b (pair_breaks (files_spelt input.list p.trees) p.image p.whole) =
    subst (Among b) (sym (one_pair input a b p q)) q.broken in
    ap (λ (x : Break). x.refusal) (one_head _ a b p.broken there)

pub one_refusal_of_runs : (n : ℕ) (script : List ℕ) (input : Input) (r s : Refusal) → Runs n script input (Err r)
    → Runs n script input (Err s) → r ≡ s
one_refusal_of_runs n script input r s f g = one_first_of (one_on_levels (one_break input script) (one_of_pair input)) r
    s f g

pub never_both : SentencesHold → (n : ℕ) (script : List ℕ) (input : Input) (todo : Todo) (r : Refusal)
    → Runs n script input (Ok todo) → Runs n script input (Err r) → ⊥
never_both hold n script input todo r run f = by f.first.breaks
  where
    by : AnyBreaks input script f.broken → ⊥
    by (on_first x) = ready_unbroken hold input script run.ready run.is_ready f.broken x
    by (on_second before p) =
        let report = run.is_report in
        let among = of_pair hold input script run.ready run.is_ready report.image report.is_image report.whole
        report.whole_is f.broken p in
        none_among f.broken (subst (Among f.broken) (ap (map (break_at 719)) report.paired) among)
