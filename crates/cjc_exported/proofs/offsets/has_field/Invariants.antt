use Rattle.std.proofs.Common.{◌≡◌, ◌==◌, drop}
use Rattle.std.specs.Prelude.{◌&&◌}
use Rattle.std.specs.List.{list_any}
use Rattle.cjc_sentences.specs.Members.{is_cell_at}
use Rattle.cjc_exported.proofs.offsets.has_field.Given as goal

abbrev pub invariant-loop-field : goal.invariant-loop-field
invariant-loop-field l = list_any (λ f. f.token == l.token && is_cell_at f.place l.offset) (drop l.field-index l.fields) ≡ list_any (λ f. f.token == l.token && is_cell_at f.place l.offset) l.fields
