use Rattle.std.proofs.Common.{◌≡◌, ◌++◌, take}
use Rattle.cjc_jvm_link.proofs.fresh.put_copies.Given as goal

abbrev pub invariant-loop-field : goal.invariant-loop-field
invariant-loop-field l = l.fields ≡ l.initial.fields ++ take l.field-index l.more
