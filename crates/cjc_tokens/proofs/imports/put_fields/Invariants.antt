use Rattle.std.proofs.Common.{◌≡◌, ◌++◌, take, map}
use Rattle.cjc_tokens.specs.Tokens.{listed_field_token}
use Rattle.cjc_tokens.proofs.imports.put_fields.Given as goal

abbrev pub invariant-loop-field : goal.invariant-loop-field
invariant-loop-field l = l.tokens ≡ l.initial.tokens ++ map listed_field_token (take l.field-index l.fields)
