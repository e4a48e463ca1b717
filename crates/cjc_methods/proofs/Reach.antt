-- Which rows of a table are there, one after the other.
use Rattle.std.proofs.Common.{◌≡◌, ◌+◌, refl, sym, ap, subst, ◌∙◌, arith, Bool, List, [], ◌∷◌, ◌++◌, length, drop}
use Rattle.std.proofs.Common.{append_assoc, append-nil}
use Rattle.std.specs.Prelude.{slice_get, Option, Some, None, option_map, is_some}
use Rattle.std.proofs.lemmas.List.{drop_all, length-append}
use Rattle.std.proofs.lemmas.Option.{slice_get_within, get_or_from_slice_get}
use Rattle.cjc_components.specs.Fixpoint.Walks.{Walking}
use Rattle.cjc_narrow.specs.Types.declared.state.State.{State}
use Rattle.cjc_narrow.specs.Types.declared.table.Frame.{Frame}
use Rattle.cjc_narrow.specs.Types.Tables.{state_of}
use Rattle.cjc_narrow.specs.Written.Rows.{has_rows}
use Rattle.cjc_bytes.proofs.Gets.{from_index}

same_there : (f : Option Frame) → is_some (option_map state_of f) ≡ is_some f
same_there None = refl
same_there (Some f) = refl

pub longer : (row new : List Bool) (flag : Bool) → new ≡ row ++ flag ∷ [] → length new ≡ length row + 1
longer row new flag e = ap length e ∙ length-append row (flag ∷ [])

pub walk_next : (rows : List (Option State)) (row new : List Bool) (flag : Bool) (walk later : Walking State)
    → new ≡ row ++ flag ∷ [] → walk ≡ record { at = length row; rows = rows }
    → later ≡ record { at = walk.at + 1; rows = walk.rows } → later ≡ record { at = length new; rows = rows }
walk_next rows row new flag walk later put is on =
    on ∙ ap (λ (s : Walking State). record { at = s.at + 1; rows = s.rows }) is
    ∙ ap (λ k. record { at = k; rows = rows }) (sym (longer row new flag put))

pub reach_next : (rows : List (Option State)) (row new : List Bool) (walk : Walking State) (frame : Option Frame)
    (flag : Bool) → walk ≡ record { at = length row; rows = rows } → slice_get walk.rows walk.at
    ≡ Some (option_map state_of frame)
    → flag ≡ is_some frame → new ≡ row ++ flag ∷ [] → row ++ has_rows (drop (length row) rows) ≡ has_rows rows
    → new ++ has_rows (drop (length new) rows) ≡ has_rows rows
reach_next rows row new walk frame flag is at there put e =
    let here : slice_get rows (length row) ≡ Some (option_map state_of frame) =
    subst (λ (s : Walking State). slice_get s.rows s.at ≡ Some (option_map state_of frame)) is at in
    let n = length row in
    let x = option_map state_of frame in
    let next : drop n rows ≡ x ∷ drop (n + 1) rows = from_index rows n x (slice_get_within rows n x here)
    ∙ ap (λ y. y ∷ drop (n + 1) rows) (get_or_from_slice_get rows n x x here) in
    ap (λ front. front ++ has_rows (drop (length new) rows)) put
    ∙ append_assoc row (flag ∷ []) (has_rows (drop (length new) rows))
    ∙ ap (λ k. row ++ flag ∷ has_rows (drop k rows)) (longer row new flag put)
    ∙ ap (λ b. row ++ b ∷ has_rows (drop (n + 1) rows)) (there ∙ sym (same_there frame))
    ∙ ap (λ rs. row ++ has_rows rs) (sym next)
    ∙ e

pub reach_end : (rows : List (Option State)) (row : List Bool) (walk : Walking State) → walk ≡ record {
  at = length row;
  rows = rows;
} → walk.at ≡ length walk.rows → row ++ has_rows (drop (length row) rows) ≡ has_rows rows
    → row ≡ has_rows rows
reach_end rows row walk is at e =
    let over : length row ≡ length rows = subst (λ (s : Walking State). s.at ≡ length s.rows) is at in
    sym (append-nil row) ∙ ap (λ rs. row ++ has_rows rs) (sym (drop_all (length row) rows (omega (arith, over)))) ∙ e
