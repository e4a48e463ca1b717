-- Turns, as the loop over them sees them.
use Rattle.std.proofs.Common.{◌≡◌, ℕ, suc, ◌+◌, ◌-◌, ◌<◌, List, [], sym, ap, ◌∙◌, arith}
use Rattle.std.specs.Prelude.{Option}
use Rattle.cjc_script.specs.declared.report.Outcome.{Outcome}
use Rattle.cjc_script.specs.declared.report.Report.{Report}
use Rattle.cjc_card_semantics.specs.Bytecode.Machine
use Rattle.cjc_card_semantics.specs.Bytecode.Machine.{StuckAt, and_then, begins, report, report_after_turn, spent_by}
use Rattle.cjc_card_semantics.specs.Bytecode.Machine.{step, turn}
use Rattle.cjc_card_semantics.specs.Machine.Loaded.{Loaded}
use Rattle.cjc_card_semantics.specs.Machine.ByToken.{by_token}
use Rattle.cjc_card.specs.Acts.States.{FrameByToken, StateByToken, TurnByToken}
use Rattle.cjc_card.specs.declared.turns.after.After.{After}
use Rattle.cjc_card.specs.declared.turns.after.After.TheVariants as afters
use Rattle.cjc_card.specs.States.{Leads, with_frames}
use Rattle.cjc_card.specs.Runs.Starts.{goes_on}

module _ (l : Loaded) where
  -- what a step makes known, or what follows it
  pub settled_as : (had : List FrameByToken) (t : TurnByToken) (after : After) (s : StateByToken) (go : StateByToken
      → Report) → Leads had t after s → report_after_turn (by_token l) t go ≡ goes_on l after s go
  settled_as had t (afters.On top) s go h = ap (λ x. report_after_turn (by_token l) x go) h
  settled_as had t (afters.Ended o) s go h = ap (λ x. report_after_turn (by_token l) x go) h
  settled_as had t (afters.Stuck at) s go h = ap (λ x. report_after_turn (by_token l) x go) h

  -- a turn of those that are left
  pub run_more : (n i : ℕ) (s : StateByToken) (after : After) (t : StateByToken) → i < n → ((go : StateByToken → Report)
      → report_after_turn (by_token l) (turn (by_token l) s) go ≡ goes_on l after t go)
      → Machine.run (by_token l) (n - i) s ≡ goes_on l after t (Machine.run (by_token l) (n - (i + 1)))
  run_more n i s after t h e =
      let left : n - i ≡ suc (n - (i + 1)) = omega arith in
      ap (λ k. Machine.run (by_token l) k s) left ∙ e (Machine.run (by_token l) (n - (i + 1)))

  -- an instruction that is spent
  pub spent_on : (had : List FrameByToken) (n : ℕ) (t : TurnByToken) (top : Option FrameByToken) (s : StateByToken)
      → Leads had t (afters.On top) s → Leads had (spent_by (by_token l) n t) (afters.On top) s
  spent_on had n t top s h = ap (λ x. spent_by (by_token l) n x) h

  pub spent_end : (had : List FrameByToken) (n : ℕ) (t : TurnByToken) (o : Outcome) (s : StateByToken)
      → Leads had t (afters.Ended o) s → Leads had (spent_by (by_token l) n t) (afters.Ended o) s
  spent_end had n t o s h = ap (λ x. spent_by (by_token l) n x) h

  -- one that is stuck is not
  pub spent_stuck : (had : List FrameByToken) (n m : ℕ) (t : TurnByToken) (at : ℕ) (s : StateByToken) → m ≡ n
      → Leads had t (afters.Stuck at) s → Leads had (spent_by (by_token l) n t) (afters.Stuck at)
      (record s { spent = m })
  spent_stuck had n m t at s e h = ap (λ x. spent_by (by_token l) n x) h
      ∙ ap (λ k. StuckAt at (with_frames had (record s { spent = k }))) (sym e)

  -- a turn where no frame is under way
  pub turn_by : (s : StateByToken) (t : TurnByToken) → s.frames ≡ [] → begins (by_token l) [] s.entries s ≡ t
      → turn (by_token l) s ≡ and_then (by_token l) t (λ u. step (by_token l) u.frames u)
  turn_by s t e h =
      ap (λ (fs : List FrameByToken). and_then (by_token l) (begins (by_token l) fs s.entries s) (λ u. step (by_token l)
      u.frames u)) e
      ∙ ap (λ (x : TurnByToken). and_then (by_token l) x (λ u. step (by_token l) u.frames u)) h
