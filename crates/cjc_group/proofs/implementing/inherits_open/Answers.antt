use Rattle.std.proofs.Common.{ℕ, List, ap, ◌∙◌}
use Rattle.cjc_group.specs.Implementing.{Declared, class_limit, is_left_open, upwards}
use Rattle.cjc_group.proofs.implementing.inherits_open.Goals as goal

pub returns : goal.returns
returns c = c.is_left_open.ensures ∙ ap (λ (ds : List Declared). is_left_open c.args.part ds) (c.items-2.ensures
    ∙ c.in_ok-line.ensures ∙ ap (λ (x : List ℕ). upwards c.args.group.now class_limit x) c.items.ensures)
