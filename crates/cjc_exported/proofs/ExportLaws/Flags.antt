-- The flags of an exported class have two bytes.
use Rattle.std.proofs.Common.{ℕ, ◌+◌, ◌<◌, ◌^◌, Bool, true, false, arith}
use Rattle.std.specs.Prelude.{if◌then◌else◌}
use Rattle.std.specs.Int.Bits.{bit_or, or_add_and}
use Rattle.std.proofs.lemmas.Nat.{and_le_l, or_of_16}
use Rattle.cjc_world.specs.Bytes.AccessFlags.{acc_shareable, acc_super}
use Rattle.cjc_components.specs.ExportFile.{without}

with_flag : (f : ℕ) → f < 2 ^ 16 → without f acc_shareable + acc_shareable < 2 ^ 16
with_flag f lt =
    let both = or_add_and f 0x0800 in
    let less = and_le_l f 0x0800 in
    let wide : bit_or f 0x0800 < 2 ^ 16 = or_of_16 f 0x0800 lt (omega arith) in
    omega (arith, both, less, wide)

pub flags_fit : (f : ℕ) (shareable : Bool) → f < 2 ^ 16 → without (without f acc_super) acc_shareable + (if shareable
    then acc_shareable else 0) < 2 ^ 16
flags_fit f true lt = with_flag (without f acc_super) (omega (arith, lt))
flags_fit f false lt = omega (arith, lt)
