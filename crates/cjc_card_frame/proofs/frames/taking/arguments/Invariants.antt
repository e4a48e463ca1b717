use Rattle.std.proofs.Common.{◌≡◌, ◌≤◌, drop, reverse, take}
use Rattle.std.specs.List.{All}
use Rattle.cjc_card_frame.specs.Frame.Frames.{IsWord}
use Rattle.cjc_card_frame.proofs.frames.taking.arguments.Given as goal

abbrev pub invariant-words : goal.invariant-words
invariant-words l = record {
  left : l.left ≤ l.count;
  is : l.args ≡ reverse (drop l.left (take l.count l.cells.stack));
  fit : All IsWord l.args;
}

abbrev pub decreases-words : goal.decreases-words
decreases-words l = l.left
