use Rattle.std.proofs.Common.{rules, ◌-◌, ◌∷◌, ap, sym, ◌∙◌, drop}
use Rattle.std.specs.Prelude.{FitsSigned}
use Rattle.std.specs.Int.{w32, cast_signed, cast_unsigned}
use Rattle.std.proofs.lemmas.Int.{to_z-of_z}
use Rattle.cjc_card_semantics.specs.CapRead.Opcodes.{Operand, Signed2}
use Rattle.cjc_card_semantics.specs.CapRead.Decode.{operand}
use Rattle.cjc_card_semantics.specs.CapRead.Decoder.Decoded.{numbers}
use Rattle.cjc_card_semantics.specs.CapRead.Decoder.Shapes.{entry_size, matches_of}
use Rattle.cjc_card_frame.proofs.FetchLaws.Pairs.{pair_is}
use Rattle.cjc_card_frame.proofs.fetch.switches.pair_at.Goals as goal

pub returns : goal.returns
returns c =
    let wide = c.args.wide in
    let bs = c.args.bytes.now in
    let x = c.operand-value.result in
    let far = c.operand-far.result in
    let more = numbers (matches_of wide) (drop (entry_size (matches_of wide)) bs) in
    let fits_x : FitsSigned w32 x = search rules in
    let fits_far : FitsSigned w32 far = search rules in
    let first = sym (ap (λ (k : Operand). operand k bs) c.match_kind.ensures) ∙ c.operand-value.ensures in
    let second = ap (λ n. operand Signed2 (drop (n - 2) bs)) (sym c.pair_size.ensures) ∙ c.operand-far.ensures in
    pair_is wide bs _ _ x far c.requires first second
    ∙ ap (λ y. y ∷ far ∷ more) (sym (to_z-of_z w32 x fits_x))
    ∙ ap (λ y. cast_signed w32 (cast_unsigned w32 x) ∷ y ∷ more) (sym (to_z-of_z w32 far fits_far))
