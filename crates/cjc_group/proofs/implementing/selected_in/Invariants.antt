use Rattle.std.proofs.Common.{◌≡◌, drop}
use Rattle.cjc_group.specs.Implementing.{selected_in}
use Rattle.cjc_group.proofs.implementing.selected_in.Given as goal

abbrev pub invariant-loop-class : goal.invariant-loop-class
invariant-loop-class l =
    selected_in l.part l.name l.desc (drop l.class-index l.line) ≡ selected_in l.part l.name l.desc l.line
