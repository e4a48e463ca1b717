-- The test of room in int mode tells it.
use Rattle.std.proofs.Common.{◌≡◌, ◌<◌, ◌≤◌, ◌+◌, ℕ, arith, refl, ap, ◌∙◌, Bool, true, false, List}
use Rattle.std.specs.Prelude.{Option, Some, None, not, nat_lt, ◌||◌, slice_get}
use Rattle.std.specs.List.{list_any}
use Rattle.std.proofs.lemmas.Bool.{ltb-false, ltb-true}
use Rattle.cjc_bytes.proofs.Bools.{or_left, or_right}
use Rattle.cjc_bytes.proofs.Gets.{any_at, any_off}
use Rattle.cjc_components.specs.LowerTypes.Flow.{Body}
use Rattle.cjc_components.specs.LowerTypes.Search.{cells_of}
use Rattle.cjc_components.specs.LowerTypes.declared.cell.Cell.{Cell}
use Rattle.cjc_components.specs.LowerTypes.declared.cell.Cell.TheVariants as cells
use Rattle.cjc_components.specs.LowerTypes.declared.state.State.{State}
use Rattle.cjc_int_mode.specs.Room.{IsRoom, LacksRoom, an_unusable_cell, high_stack, many_arguments, many_words}
use Rattle.cjc_int_mode.specs.Written.{argument_words, local_words, stack_words}
use Rattle.cjc_int_mode.specs.declared.modes.Mode.TheVariants as modes
use Rattle.cjc_int_package.specs.Limits.{has_unusable_cell, is_unusable, lacks_room}

module _ (b : Body) (types : List (Option State)) where
  abbrev words : ℕ
  words = argument_words b + local_words b types

  abbrev unusable : Bool
  unusable = list_any has_unusable_cell types

  few_words : lacks_room b types ≡ false → words ≤ 255
  few_words off = ltb-false 255 words (or_left (nat_lt 255 words) (nat_lt 255 (stack_words b) || unusable) off)

  has_room : lacks_room b types ≡ false → LacksRoom b types modes.Int → ⊥
  has_room off (many_arguments gt) = let le = few_words off in omega (arith, gt, le)
  has_room off (many_words gt) = let le = few_words off in omega (arith, gt, le)
  has_room off (high_stack gt) =
      let rest = or_right (nat_lt 255 words) (nat_lt 255 (stack_words b) || unusable) off in
      let le = ltb-false 255 (stack_words b) (or_left (nat_lt 255 (stack_words b)) unusable rest) in
      omega (arith, gt, le)
  has_room off (an_unusable_cell place k x row cell) =
      let rest = or_right (nat_lt 255 words) (nat_lt 255 (stack_words b) || unusable) off in
      let none = or_right (nat_lt 255 (stack_words b)) unusable rest in
      let here = any_off has_unusable_cell types place (Some x) none row in
      let no = any_off is_unusable (cells_of x.stack) k cells.Unusable here cell in
      cc

  unusable_one : (c : Cell) → is_unusable c ≡ true → c ≡ cells.Unusable
  unusable_one cells.Unusable e = refl
  unusable_one _ e = absurd cc

  unusable_there : (place : ℕ) (row : Option State) → slice_get types place ≡ Some row → has_unusable_cell row ≡ true
      → LacksRoom b types modes.Int
  unusable_there place None at e = absurd cc
  unusable_there place (Some x) at e =
      let c = any_at is_unusable (cells_of x.stack) e in
      an_unusable_cell place c.0 x at (c.2 ∙ ap Some (unusable_one c.1 c.3))

  lacks : lacks_room b types ≡ true → LacksRoom b types modes.Int
  lacks on = by (nat_lt 255 words) (nat_lt 255 (stack_words b)) refl refl on
    where
      by : (x y : Bool) → nat_lt 255 words ≡ x → nat_lt 255 (stack_words b) ≡ y → (x || (y || unusable)) ≡ true
          → LacksRoom b types modes.Int
      by true y p q e = many_words (ltb-true 255 words p)
      by false true p q e = high_stack (ltb-true 255 (stack_words b) q)
      by false false p q e = let row = any_at has_unusable_cell types e in unusable_there row.0 row.1 row.2 row.3

  pub told_in_int_mode : IsRoom b types modes.Int (not (lacks_room b types))
  told_in_int_mode = by (lacks_room b types) refl
    where
      by : (l : Bool) → lacks_room b types ≡ l → IsRoom b types modes.Int (not l)
      by true e = lacks e
      by false e = has_room e
