-- What code of packages some of whose methods are in int mode puts.
use Rattle.std.specs.Prelude.{◌≡◌, ℕ, None, Some, true, slice_get}
use Rattle.cjc_int_narrow.specs.Bytes.declared.fault.MemberId.{MemberId}
use Rattle.cjc_int_narrow.specs.Bytecode.declared.insn.JInsn.{JInsn}
use Rattle.cjc_int_narrow.specs.Bytecode.declared.insn.JOp.TheVariants as jop
use Rattle.cjc_check_proof.specs.JvmSemantics.Linked.{Method}
use Rattle.cjc_check_proof.specs.JvmSemantics.OnePackage.{method_at}
use Rattle.cjc_check_proof.specs.LowerComponents.Package.{LaidMethod, Package, world}
use Rattle.cjc_int_narrow.specs.LowerNarrow.Rows.Resolved.{constant_named}

-- Code of the package puts nothing into a static field that is a constant.
abbrev pub PutsNoConstants : Package → Type 0
PutsNoConstants p =
    (k : ℕ) (m : LaidMethod) → slice_get p.methods k ≡ Some m → (from : Method) → method_at p.files m.member ≡ Some from
    → (j : ℕ) (i : JInsn) (f : MemberId) → slice_get from.insns j ≡ Some i → i.op ≡ jop.Static true f
    → constant_named p.files (world p) f ≡ None
