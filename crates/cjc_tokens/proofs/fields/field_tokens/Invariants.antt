use Rattle.std.proofs.Common.{◌≡◌, take}
use Rattle.std.specs.Prelude.{count_by}
use Rattle.cjc_tokens.specs.Fields.{field_tokens, is_open_static}
use Rattle.cjc_tokens.proofs.fields.field_tokens.Given as goal

abbrev pub invariant-loop-place : goal.invariant-loop-place
invariant-loop-place l = record {
  tokens : l.tokens ≡ field_tokens l.exported l.fields 0 (take l.place l.fields);
  statics : l.statics ≡ count_by is_open_static (take l.place l.fields);
}
