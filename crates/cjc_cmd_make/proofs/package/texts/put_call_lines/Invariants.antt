use Rattle.std.proofs.Common.{◌≡◌, ◌++◌}
use Rattle.std.specs.List.{flat_map}
use Rattle.cjc_cmd_make.specs.Package.Numbers.{below}
use Rattle.cjc_cmd_make.specs.Package.Texts.{call_line}
use Rattle.cjc_cmd_make.proofs.package.texts.put_call_lines.Given as goal

abbrev pub invariant-loop-i : goal.invariant-loop-i
invariant-loop-i l = l.out ≡ l.fn.out ++ flat_map call_line (below l.i)
