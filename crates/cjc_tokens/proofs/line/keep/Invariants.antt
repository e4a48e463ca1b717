use Rattle.std.proofs.Common.{◌≡◌, ◌<◌, length, vec_len}
use Rattle.std.specs.Prelude.{All}
use Rattle.cjc_world.specs.Classes.{all_classes}
use Rattle.cjc_tokens.specs.Working.{IsKept}
use Rattle.cjc_tokens.proofs.line.keep.Given as goal

abbrev pub invariant-loop-number : goal.invariant-loop-number
invariant-loop-number l = record {
  all : All (λ n. n < length l.world.classes) l.numbers.items;
  count : length l.kept.items ≡ length l.world.classes;
  kept_rows : IsKept (all_classes l.world) l.world.classes l.kept.items;
}

abbrev pub decreases-loop-number : goal.decreases-loop-number
decreases-loop-number l = vec_len l.numbers
