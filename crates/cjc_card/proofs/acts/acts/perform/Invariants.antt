use Rattle.std.proofs.Common.{◌≡◌, ◌≤◌, ◌+◌, ℕ, drop, length}
use Rattle.cjc_card_semantics.specs.Bytecode.Machine.{turn_after_acts, with_heap}
use Rattle.cjc_card_semantics.specs.Machine.ByToken.{by_token}
use Rattle.cjc_card.specs.Acts.States.{StateByToken, TurnByToken}
use Rattle.cjc_card.proofs.acts.acts.perform.Given as goal

abbrev pub invariant-loop-one : goal.invariant-loop-one
invariant-loop-one g l =
    let set = by_token (g.L.LookUps.loaded l.links) in
    record {
      acts : (number : ℕ) (s : StateByToken) (go : StateByToken → TurnByToken)
          → turn_after_acts set l.acts number (with_heap set l.fn.heap s) go
          ≡ turn_after_acts set (drop l.one-index l.acts) number (with_heap set l.heap s) go;
      len : length l.heap ≤ length l.fn.heap + l.one-index;
    }
