use Rattle.std.proofs.Common.{◌≡◌, take}
use Rattle.cjc_tokens.specs.Fields.{instance_tokens}
use Rattle.cjc_tokens.proofs.fields.instance_tokens.Given as goal

abbrev pub invariant-loop-place : goal.invariant-loop-place
invariant-loop-place l = l.tokens ≡ instance_tokens l.fields 0 (take l.place l.fields)
