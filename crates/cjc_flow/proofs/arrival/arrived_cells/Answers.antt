use Rattle.std.proofs.Common.{◌≡◌, ◌-◌, ℕ, length, drop, option_map, sym, ap, ◌∙◌, arith}
use Rattle.std.proofs.lemmas.List.{drop_all}
use Rattle.cjc_types.specs.declared.table.Frame.{Frame}
use Rattle.cjc_flow.proofs.Arriving.{all, all_sized, cells_step}
use Rattle.cjc_flow.proofs.arrival.arrived_cells.Goals as goal

pub loop-i-init : goal.loop-i-init
loop-i-init c =
    let o = option_map (λ (f : Frame). f.stack) c.args.frame.now in
    let sized = all_sized o c.args.rounds c.args.stack.now in
    c.new-arrived.ensures ∙ sym (drop_all (length c.args.stack.now - 0) (all o c.args.rounds c.args.stack.now)
    (omega (arith, sized)))

pub loop-i-preserved : goal.loop-i-preserved
loop-i-preserved c =
    let lt = c.loop-i-test.true in
    let count = c.len-count.ensures in
    cells_step (option_map (λ (f : Frame). f.stack) c.args.frame.now) c.args.rounds c.args.stack.now c.loop-i.i _
    c.get.result c.rounded_if.result c.known_operand.result c.loop-i.arrived _
    (omega (arith, lt, count)) (omega (arith, count)) c.get.ensures c.rounded_if.ensures c.known_operand.ensures
    c.loop-i.invariant c.in_ok-push.ensures

pub returns : goal.returns
returns c =
    let o = option_map (λ (f : Frame). f.stack) c.args.frame.now in
    let over = c.loop-i-test.false in
    let within = c.loop-i.auto.i-end in
    let count = c.len-count.ensures in
    let none : length c.args.stack.now - c.loop-i.i ≡ 0 = omega (arith, over, within, count) in
    c.loop-i.invariant ∙ ap (λ (n : ℕ). drop n (all o c.args.rounds c.args.stack.now)) none
