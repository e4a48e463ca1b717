use Rattle.std.proofs.Common.{◌≡◌, ◌++◌, map, take}
use Rattle.cjc_capread.specs.declared.tree.ClassRef.{ClassRef}
use Rattle.cjc_capread.specs.declared.tree.MethodDescriptor.{MethodDescriptor}
use Rattle.cjc_verify.specs.declared.listed.Listed.{Listed}
use Rattle.cjc_verify.proofs.listed.put_methods.Given as goal

-- a method under a class
abbrev pub under : ClassRef → MethodDescriptor → Listed
under holder m = record { holder = holder; method = m }

abbrev pub invariant-loop-method : goal.invariant-loop-method
invariant-loop-method l = l.all ≡ l.initial.all ++ map (under l.holder) (take l.method-index l.methods)
