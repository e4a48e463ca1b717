use Rattle.std.proofs.Common.{◌≡◌, sym, subst, true, arith}
use Rattle.cjc_card_semantics.specs.Bytecode.Calculations.{is_swap}
use Rattle.cjc_card_frame.specs.Frame.Frames.{Does, sunk}
use Rattle.cjc_card_frame.proofs.FrameLaws.Copies.{swaps, is_two}
use Rattle.cjc_card_frame.proofs.frame.cells.Cells.swap_x.Goals as goal

pub returns-in_ok-sink_one : goal.returns-in_ok-sink_one
returns-in_ok-sink_one c = λ room.
    let m = c.args.words in
    let n = c.args.below in
    let a : is_swap m ≡ true = cc in
    let b : is_swap n ≡ true = cc in
    let one : m ≡ 1 = omega arith in
    swaps m n room _ _ _ a b (subst (λ k. Does (sunk k n) room c.in_ok-sink_one.field-0 c.args.self.now
    c.sink_one.new.self) (sym one) (c.in_ok-sink_one.ensures room))

pub returns-in_ok-sink_two : goal.returns-in_ok-sink_two
returns-in_ok-sink_two c = λ room.
    let m = c.args.words in
    let n = c.args.below in
    let a : is_swap m ≡ true = cc in
    let b : is_swap n ≡ true = cc in
    let two : m ≡ 2 = is_two m a (λ h. omega (arith, h)) in
    swaps m n room _ _ _ a b (subst (λ k. Does (sunk k n) room c.in_ok-sink_two.field-0 c.args.self.now
    c.sink_two.new.self) (sym two) (c.in_ok-sink_two.ensures room))
