use Rattle.std.proofs.Common.{◌≡◌, ◌<◌, ℕ, List, Some, slice_get}
use Rattle.std.specs.List.{AllByRecursion}
use Rattle.cjc_cmd_verify.proofs.bytes.are_bytes.Given as goal

abbrev pub invariant-loop-file : goal.invariant-loop-file
invariant-loop-file l = (k : ℕ) (bytes : List ℕ) → k < l.file-index → slice_get l.file-items k ≡ Some bytes
    → AllByRecursion (λ b. b < 256) bytes
