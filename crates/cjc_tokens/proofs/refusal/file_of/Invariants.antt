use Rattle.std.proofs.Common.{◌≡◌, drop}
use Rattle.cjc_tokens.specs.Rules.{file_of}
use Rattle.cjc_tokens.proofs.refusal.file_of.Given as goal

abbrev pub invariant-loop-place : goal.invariant-loop-place
invariant-loop-place l = file_of l.place (drop l.place l.lines) l.left ≡ file_of 0 l.lines l.number
