use Rattle.std.proofs.Common.{◌≡◌, drop}
use Rattle.std.specs.List.{list_any}
use Rattle.cjc_methods.specs.Working.Fields.{names_field}
use Rattle.cjc_methods.proofs.keeping.any_names_field.Given as goal

abbrev pub invariant-loop-insn : goal.invariant-loop-insn
invariant-loop-insn l = list_any names_field (drop l.insn-index l.insns) ≡ list_any names_field l.insns
