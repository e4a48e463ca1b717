-- The code's table is the definition's.
use Rattle.std.proofs.Common.{◌≡◌, ℕ, map, refl, sym, ap, ◌∙◌}
use Rattle.std.specs.Prelude.{slice_get, option_map}
use Rattle.std.proofs.lemmas.Option.{slice_get-map}
use Rattle.cjc_bytecode.specs.Meanings.{Meaning, known_meaning, meaning}
use Rattle.cjc_bytecode.specs.Meanings
use Rattle.cjc_opcodes.specs.declared.table.TheConstants.{MEANINGS}
use Rattle.cjc_opcodes.specs.Meanings.{meaning_of}

same_tables : map meaning_of MEANINGS ≡ Meanings.meanings
same_tables = refl

pub row_at : (op : ℕ) → known_meaning (option_map meaning_of (slice_get MEANINGS op)) ≡ meaning op
unfolding meaning
row_at op = ap known_meaning (sym (slice_get-map meaning_of MEANINGS op) ∙ ap (λ rows. slice_get rows op) same_tables)
