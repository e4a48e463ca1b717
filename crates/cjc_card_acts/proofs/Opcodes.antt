-- The code's table is the definition's.
use Rattle.std.proofs.Common.{◌≡◌, ℕ, map, refl, sym, ap, ◌∙◌}
use Rattle.std.specs.Prelude.{slice_get, option_map}
use Rattle.std.proofs.lemmas.Option.{slice_get-map}
use Rattle.cjc_card_acts.specs.Rows.{known_row, row, rows}
use Rattle.cjc_card_acts.specs.Told.{row_told}
use Rattle.cjc_card_acts.specs.declared.table.TheConstants.{ROWS}

same_tables : map row_told ROWS ≡ rows
same_tables = refl

pub row_at : (op : ℕ) → known_row (option_map row_told (slice_get ROWS op)) ≡ row op
unfolding row
row_at op = ap known_row (sym (slice_get-map row_told ROWS op) ∙ ap (λ rs. slice_get rs op) same_tables)
