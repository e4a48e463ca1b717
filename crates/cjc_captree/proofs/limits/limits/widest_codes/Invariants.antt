use Rattle.std.proofs.Common.{◌≡◌, sum_by, take}
use Rattle.cjc_captree.proofs.limits.limits.widest_codes.Given as goal

abbrev pub invariant-loop-code : goal.invariant-loop-code
invariant-loop-code l = l.bytes ≡ sum_by (λ c. c.widest) (take l.code-index l.codes)
