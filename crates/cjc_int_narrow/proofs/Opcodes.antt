-- Opcodes and returns by cases.
use Rattle.std.proofs.Common.{◌≡◌, ℕ, ◌≤◌, arith, refl, Bool, true, false, [], ◌∷◌}
use Rattle.std.specs.Prelude.{Option, Some, None, if◌then◌else◌, ◌==◌}
use Rattle.cjc_int_mode.specs.Bytecode.Jvm as jvm
use Rattle.cjc_int_mode.specs.CapRead.Card as card
use Rattle.cjc_int_mode.specs.Script.Sorts.{Sort, Boolean, Byte, Short, Int, Reference, NoValue}
use Rattle.cjc_ncode.specs.declared.narrow.NInsn.TheVariants.{Op}
use Rattle.cjc_ncode.specs.Written.{arithmetic}
use Rattle.cjc_ncode.specs.IntCode.IntCode.{returned}
use Rattle.cjc_int_narrow.specs.Working.Moves.{is_int}

either : (b : Bool) (x y : ℕ) → x ≤ 87 → y ≤ 87 → (if b then x else y) ≤ 87
either true x y h k = h
either false x y h k = k

pub arithmetic_low : (op : ℕ) → arithmetic op ≤ 87
arithmetic_low op =
    either (op == jvm.iadd) card.sadd _ (omega arith) (either (op == jvm.isub) card.ssub _ (omega arith)
    (either (op == jvm.imul) card.smul _ (omega arith) (either (op == jvm.idiv) card.sdiv _ (omega arith)
    (either (op == jvm.irem) card.srem _ (omega arith) (either (op == jvm.ineg) card.sneg _ (omega arith)
    (either (op == jvm.ishl) card.sshl _ (omega arith) (either (op == jvm.ishr) card.sshr _ (omega arith)
    (either (op == jvm.iushr) card.sushr _ (omega arith) (either (op == jvm.iand) card.sand _ (omega arith)
    (either (op == jvm.ior) card.sor card.sxor (omega arith) (omega arith)))))))))))

pub returned_int : (result : Option Sort) → is_int result ≡ true → returned result ≡ Op card.ireturn ∷ []
returned_int None e = absurd cc
returned_int (Some Boolean) e = absurd cc
returned_int (Some Byte) e = absurd cc
returned_int (Some Short) e = absurd cc
returned_int (Some Int) e = refl
returned_int (Some (Reference shape)) e = absurd cc
returned_int (Some NoValue) e = absurd cc

pub returned_short : (result : Option Sort) → is_int result ≡ false → returned result ≡ Op card.i2s ∷ Op card.sreturn
    ∷ []
returned_short None e = refl
returned_short (Some Boolean) e = refl
returned_short (Some Byte) e = refl
returned_short (Some Short) e = refl
returned_short (Some Int) e = absurd cc
returned_short (Some (Reference shape)) e = refl
returned_short (Some NoValue) e = refl
