use Rattle.std.proofs.Common.{◌≡◌, drop}
use Rattle.std.specs.List.{list_any}
use Rattle.cjc_methods.specs.LowerIntPackage.Modes.{is_int}
use Rattle.cjc_shape.proofs.whole.shaping.any_is_int.Given as goal

abbrev pub invariant-loop-mode : goal.invariant-loop-mode
invariant-loop-mode l = list_any is_int (drop l.mode-index l.modes) ≡ list_any is_int l.modes
