-- One turn of the machine of any setting, where it is known what stands at the place.
use Rattle.std.proofs.Common.{◌≡◌, ℕ, ◌+◌, ap, ◌∙◌, List, ◌∷◌}
use Rattle.std.specs.Prelude.{Option, Some}
use Rattle.cjc_script.specs.declared.value.Value.{Value}
use Rattle.cjc_card_semantics.specs.Bytecode.Effects.{Memory, Effect, Go, Leave, effect}
use Rattle.cjc_card_semantics.specs.Bytecode.Machine.{Fetched, Setting, Frame, State, Turn, Next}
use Rattle.cjc_card_semantics.specs.Bytecode.Machine
use Rattle.cjc_card_semantics.specs.Bytecode.Runs.{On, led}

module _ {P C F S M X : Type 0} (set : Setting P C F S M X) (s : State P C F X) (f : Frame P) (outer : List (Frame P))
    (i : Fetched C F S M) (has : s.frames ≡ f ∷ outer) (at : set.fetch f.code f.at ≡ Some i) where
  abbrev pub what : Effect C F M X
  what = effect set.classes i.operation (set.room f.code) i.next f.locals s.memory f.stack

  pub fetched_turn : Machine.turn set s ≡ Machine.spent_by set s.spent (Machine.made set what i.next f outer
      (record s { spent = s.spent + 1 }))
  fetched_turn =
      ap (λ frames. Machine.and_then set (Machine.begins set frames s.entries s) (λ t. Machine.step set t.frames t)) has
      ∙ ap (λ frames. Machine.step set frames s) has
      ∙ ap (λ o. Machine.spent_by set s.spent (Machine.turn_after_fetch set o f outer
      (record s { spent = s.spent + 1 }))) at

  -- an instruction that goes on
  pub go_turn : (to : ℕ) (stack : List Value) (locals : List (Option Value)) (m : Memory C F X)
      → what ≡ Go to stack locals m → led set (Machine.turn set s)
      ≡ On (record s {
        frames = record f { at = to; stack = stack; locals = locals } ∷ outer;
        memory = m;
        spent = s.spent + 1;
      })
  go_turn to stack locals m e =
      ap (led set) fetched_turn
      ∙ ap (λ a. led set (Machine.spent_by set s.spent (Machine.made set a i.next f outer
      (record s { spent = s.spent + 1 })))) e

  -- an instruction that returns
  pub leave_turn : (words : List Value) → what ≡ Leave words → Machine.turn set s ≡ Machine.spent_by set s.spent
      (Machine.left set words f outer (record s { spent = s.spent + 1 }))
  leave_turn words e =
      fetched_turn ∙ ap (λ a. Machine.spent_by set s.spent (Machine.made set a i.next f outer
      (record s { spent = s.spent + 1 }))) e
