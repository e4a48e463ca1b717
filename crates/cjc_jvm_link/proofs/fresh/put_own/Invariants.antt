use Rattle.std.proofs.Common.{◌≡◌, ◌++◌, take}
use Rattle.cjc_jvm_link.proofs.Fields.{fresh_of}
use Rattle.cjc_jvm_link.proofs.fresh.put_own.Given as goal

abbrev pub invariant-loop-field : goal.invariant-loop-field
invariant-loop-field l = l.fields ≡ l.initial.fields ++ fresh_of l.class.name (take l.field-index l.class.fields)
