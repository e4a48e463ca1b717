-- What was read decides one answer.
use Rattle.std.proofs.Common.{◌≡◌, ◌⊎◌, inl, inr, ℕ, List, sym, ap, ◌∙◌, arith, Ok, Err}
use Rattle.cjc_shelf.specs.Bytes.Breaks.{Break}
use Rattle.cjc_shelf.specs.Bytes.Order.{Rank}
use Rattle.cjc_shelf.specs.Bytes.declared.fault.Refusal.{Refusal}
use Rattle.cjc_shelf.specs.declared.command.status.Todo.{Todo}
use Rattle.cjc_judge.specs.Rules.{Breach}
use Rattle.cjc_judge.proofs.Firsts.{file_or_later, file_rule}
use Rattle.cjc_judge.proofs.OneRefusal.{one_refusal, one_first_of}
use Rattle.cjc_script_text.specs.List.Listed.{ListTree}
use Rattle.cjc_cmd_jvm.specs.Running.Ready.{tested, script_break, BreaksScript, Breaks, of_package, of_script}
use Rattle.cjc_cmd_jvm.specs.declared.running.input.Input.{Input}
use Rattle.cjc_script_text.specs.Scripted.{scripted}
use Rattle.cjc_cmd_jvm.specs.Runs.{Runs}

module _ (list : ListTree) (files : List (List ℕ)) (name text : List ℕ) where
  apart : {P : Type 0} (a b : Break) → Breach list files tested a → BreaksScript name text b → a.rank ≡ b.rank → P
  apart a b h (r, e, is) same =
      let ranks : a.rank ≡ (let s = script_break r in s.rank) = same ∙ ap (λ (x : Break). x.rank) is in
      let rule : a.rank.rule ≡ 105 = ap (λ (k : Rank). k.rule) ranks in
      let family : a.rank.family ≡ 1 = ap (λ (k : Rank). k.family) ranks in
      elim (file_or_later list files tested a h) [
        | inl g ↦ let le = file_rule list.lines files a g in absurd (omega (arith, rule, le))
        | inr later ↦ absurd (omega (arith, family, later))
      ]

  one_break : (a b : Break) → Breaks list files name text a → Breaks list files name text b → a.rank ≡ b.rank
      → a.refusal ≡ b.refusal
  one_break a b (of_package h) (of_package g) e = one_refusal list files tested a b h g e
  one_break a b (of_package h) (of_script g) e = apart a b h g e
  one_break a b (of_script h) (of_package g) e = apart b a g h (sym e)
  one_break a b (of_script (r, e, is)) (of_script (s, f, js)) same =
      let clash : r ≡ s = (let both = sym e ∙ f in cc) in
      ap (λ (x : Break). x.refusal) is ∙ clash ∙ sym (ap (λ (x : Break). x.refusal) js)

pub one_refusal_of_runs : (n : ℕ) (script : List ℕ) (input : Input) (r s : Refusal) → Runs n script input (Err r)
    → Runs n script input (Err s) → r ≡ s
one_refusal_of_runs n script input r s f g = one_first_of (one_break input.list input.files script input.script) r s f g

pub never_both : (n : ℕ) (script : List ℕ) (input : Input) (todo : Todo) (r : Refusal) → Runs n script input (Ok todo)
    → Runs n script input (Err r) → ⊥
never_both n script input todo r run f = by f.first.breaks
  where
    by : Breaks input.list input.files script input.script f.broken → ⊥
    by (of_package h) = let ready = run.is_ready in let judged = ready.judged in judged.unbroken f.broken h
    by (of_script (s, e, is)) = let ready = run.is_ready in let both = sym ready.script ∙ e in cc
