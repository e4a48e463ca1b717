use Rattle.std.proofs.Common.{◌≡◌, ◌+◌, ◌-◌, ◌∙◌, ap, sym, arith}
use Rattle.std.specs.Prelude.{bit_and, if◌then◌else◌}
use Rattle.std.specs.Int.Bits.{bit_or, or_add_and}
use Rattle.std.proofs.lemmas.Nat.{and_le_l}
use Rattle.cjc_exported.proofs.export_file.class.with_shareable.Goals as goal

pub returns-then-shareable : goal.returns-then-shareable
returns-then-shareable c =
    let both = or_add_and c.args.flags 0x0800 in
    let less = and_le_l c.args.flags 0x0800 in
    let is : bit_or c.args.flags 0x0800 ≡ c.args.flags - bit_and c.args.flags 0x0800 + 0x0800 = omega arith in
    is ∙ ap (λ b. c.args.flags - bit_and c.args.flags 0x0800 + (if b then 0x0800 else 0)) (sym c.if-shareable.true)
