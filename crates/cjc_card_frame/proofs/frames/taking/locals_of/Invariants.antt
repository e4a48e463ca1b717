use Rattle.std.proofs.Common.{◌≡◌, take}
use Rattle.std.specs.List.{All}
use Rattle.cjc_card_frame.specs.Frame.Frames.{IsLocal}
use Rattle.cjc_card_frame.proofs.FramesLaws.Cells.{cells_by}
use Rattle.cjc_card_frame.proofs.frames.taking.locals_of.Given as goal

abbrev pub invariant-loop-i : goal.invariant-loop-i
invariant-loop-i l = record {
  is : l.locals.items ≡ take l.i (cells_by l.count l.args);
  fit : All IsLocal l.locals.items;
}
