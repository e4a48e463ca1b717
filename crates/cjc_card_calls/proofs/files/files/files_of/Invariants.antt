use Rattle.std.proofs.Common.{◌≡◌, ℕ, length, take}
use Rattle.cjc_card_calls.specs.Files.Files.{line_at, line_listed}
use Rattle.cjc_card_calls.proofs.files.files.files_of.Given as goal

abbrev pub invariant-loop-tree : goal.invariant-loop-tree
invariant-loop-tree l =
    (length l.files ≡ l.tree-index)
    × ((n token : ℕ) → line_at l.files n token ≡ line_listed l.names (take l.tree-index l.trees) n token)
