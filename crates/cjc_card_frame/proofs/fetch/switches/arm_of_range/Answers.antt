use Rattle.std.proofs.Common.{rules, ◌≡◌, ◌<ℤ◌, ◌+ℤ◌, pos, ap, sym, ◌∙◌}
use Rattle.std.specs.Prelude.{FitsSigned}
use Rattle.std.specs.Int.{w32}
use Rattle.std.proofs.lemmas.Int.{to_z-of_z}
use Rattle.cjc_card_semantics.specs.Bytecode.Effects.{with_some}
use Rattle.cjc_card_semantics.specs.Machine.Operations.{moved}
use Rattle.cjc_card_semantics.specs.CapRead.declared.decoder.table.Matches.TheVariants.{Counted}
use Rattle.cjc_card_semantics.specs.CapRead.Decoder.Decoded.{numbers}
use Rattle.cjc_card_frame.proofs.FetchLaws.Ranges.{below, above}
use Rattle.cjc_card_frame.proofs.fetch.switches.arm_of_range.Goals as goal

pub returns-in_default : goal.returns-in_default
returns-in_default c =
    let a = c.args in
    let fits_low : FitsSigned w32 a.low = c.ranges.low in
    let fits_x : FitsSigned w32 a.x = c.ranges.x in
    let under : a.x <ℤ a.low = simp to_z-of_z at c.in_default.ensures.is in
    sym (below a.other a.at a.low (numbers Counted a.table.now) a.x under)

pub returns-in_default-far_in : goal.returns-in_default-far_in
returns-in_default-far_in c =
    let a = c.args in
    let fits_low : FitsSigned w32 a.low = c.ranges.low in
    let fits_x : FitsSigned w32 a.x = c.ranges.x in
    let far : a.x ≡ a.low +ℤ pos c.in-Some.place = simp to_z-of_z at c.in-Some.ensures.is in
    sym (above a.other a.at a.low (numbers Counted a.table.now) a.x c.in-Some.place far
    ∙ ap (λ o. with_some a.other o (λ f. moved a.at f)) (sym c.in_default-far_in.ensures))

pub returns : goal.returns
returns c =
    let a = c.args in
    let f = c.in-Some-far_in.far in
    let fits_low : FitsSigned w32 a.low = c.ranges.low in
    let fits_x : FitsSigned w32 a.x = c.ranges.x in
    let fits_f : FitsSigned w32 f = search rules in
    let far : a.x ≡ a.low +ℤ pos c.in-Some.place = simp to_z-of_z at c.in-Some.ensures.is in
    let leads : c.moved.result ≡ moved a.at f = simp to_z-of_z at c.moved.ensures in
    leads
    ∙ sym (above a.other a.at a.low (numbers Counted a.table.now) a.x c.in-Some.place far
    ∙ ap (λ o. with_some a.other o (λ f. moved a.at f)) (sym c.in-Some-far_in.ensures))
