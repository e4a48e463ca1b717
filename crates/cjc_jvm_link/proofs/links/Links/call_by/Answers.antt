use Rattle.std.proofs.Common.{◌≡◌, arith}
use Rattle.cjc_jvm_link.proofs.links.Links.call_by.Goals as goal

pub returns-then-op-eq-INVOKESPECIAL : goal.returns-then-op-eq-INVOKESPECIAL
returns-then-op-eq-INVOKESPECIAL c = let e : c.args.op ≡ 183 = omega arith in rw e c.special_call.ensures
