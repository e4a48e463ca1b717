use Rattle.std.proofs.Common.{◌≡◌, ◌++◌, reverse, take}
use Rattle.cjc_card_frame.proofs.frames.taking.put_words.Given as goal

abbrev pub invariant-loop-word : goal.invariant-loop-word
invariant-loop-word l = l.cells ≡ record l.fn.cells { stack = reverse (take l.word-index l.words) ++ l.fn.cells.stack }
