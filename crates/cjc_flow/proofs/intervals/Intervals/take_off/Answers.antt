use Rattle.std.proofs.Common.{◌≡◌, ◌-◌, ℕ, List, length, take, drop, reverse, ap, ◌∙◌}
use Rattle.cjc_range.specs.Span.{Span}
use Rattle.cjc_types.proofs.Reversed.{reverse_kept}
use Rattle.cjc_flow.proofs.intervals.Intervals.take_off.Goals as goal

pub returns : goal.returns
returns c =
    let cells : List Span = c.self.inside.cells.items in
    let kept : c.saturating_sub-kept.result ≡ length cells - c.args.count = c.saturating_sub-kept.ensures
    ∙ ap (λ (n : ℕ). n - c.args.count) (ap length c.as_slice.ensures.value) in
    ap reverse (c.truncate.ensures.items ∙ ap (λ (n : ℕ). take n cells) kept) ∙ reverse_kept cells c.args.count
    ∙ ap (drop c.args.count) c.self.view_is
