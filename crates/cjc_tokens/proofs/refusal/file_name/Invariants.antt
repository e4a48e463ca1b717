use Rattle.std.proofs.Common.{◌≡◌, drop}
use Rattle.cjc_tokens.specs.Rules.{file_of}
use Rattle.cjc_tokens.proofs.refusal.file_name.Given as goal

abbrev pub invariant-loop-line : goal.invariant-loop-line
invariant-loop-line l = file_of l.line-index (drop l.line-index l.lines) l.left ≡ file_of 0 l.lines l.number
