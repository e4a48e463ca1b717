use Rattle.std.proofs.Common.{◌+◌, sym, ap, subst, ◌∙◌}
use Rattle.std.specs.Prelude.{Some}
use Rattle.std.proofs.Math.ListN.{set}
use Rattle.cjc_world.specs.Classes.{all_classes}
use Rattle.cjc_world.specs.Working.Known.{class_of}
use Rattle.cjc_world.specs.Working.Tables.{Closer, above_at, are_ready}
use Rattle.cjc_world.proofs.Filling.{closer-set}
use Rattle.cjc_world.proofs.class_index.ClassIndex.settle.Goals as goal

pub returns-in_ok-above : goal.returns-in_ok-above
returns-in_ok-above c =
    let w = all_classes c.args.self.now in
    let rows = c.args.rows.now.items in
    let class = class_of c.in-Some.class in
    subst (λ a. Closer w rows (set rows c.args.place (Some a)) c.args.place (c.args.place + 1))
    (sym (c.in_ok-above.ensures ∙ ap (λ r. above_at w r c.args.place class) c.deref-then-are_ready.ensures.value))
    (closer-set w rows c.args.place class c.requires (sym c.in-Some.ensures.at)
    (ap (λ r. are_ready w r class) (sym c.deref-2.ensures.value) ∙ sym c.are_ready.ensures ∙ c.if-are_ready.true))
