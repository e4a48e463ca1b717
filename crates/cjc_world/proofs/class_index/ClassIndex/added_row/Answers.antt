use Rattle.std.proofs.Common.{ℕ, List, Bool, [], sym, ap, ◌∙◌}
use Rattle.cjc_world.specs.Working.Asked.{got_all, is_had}
use Rattle.cjc_world.specs.Classes.{all_classes}
use Rattle.cjc_world.specs.Working.Tables.{above_at}
use Rattle.cjc_world.specs.Working.Known.{class_of}
use Rattle.cjc_world.proofs.Adding.{gets-added, gets-none}
use Rattle.cjc_world.proofs.class_index.ClassIndex.added_row.Goals as goal
use Rattle.cjc_world.proofs.class_index.ClassIndex.added_row.Goals.{then-takes_added+in_ok-interfaces+in_ok-line+in_ok-get_all}
use Rattle.cjc_world.proofs.class_index.ClassIndex.added_row.Goals.{else-takes_added}

pub returns : goal.returns
returns c =
    let w = all_classes c.args.self.now in
    let rows = c.args.rows.now in
    let k = class_of c.args.class in
    c.of.ensures ∙ elim c.if-takes_added.branch [
      | then-takes_added+in_ok-interfaces+in_ok-line+in_ok-get_all b ↦
          let there : List ℕ → List ℕ → List ℕ → Bool = λ line n d. is_had w rows k line n d in
          ap (λ v. v.items) b.ids-is ∙ b.in_ok-get_all.ensures
          ∙ ap (λ ids. got_all w (there b.items.result.now) k.name ids b.items-then-takes_added.result.now)
          c.new-ids.ensures.items
          ∙ ap (λ ps. got_all w (there b.items.result.now) k.name [] ps) (b.items-then-takes_added.ensures
          ∙ b.in_ok-interfaces.ensures)
          ∙ ap (λ ps. got_all w (there ps) k.name [] (above_at w rows 0 k).interfaces) (b.items.ensures
          ∙ b.in_ok-line.ensures)
          ∙ gets-added w rows c.requires.part k c.requires.ready (sym c.takes_added.ensures ∙ b.if-takes_added.true)
      | else-takes_added b ↦
          ap (λ v. v.items) b.ids-is ∙ c.new-ids.ensures.items
          ∙ gets-none w rows c.requires.part k (sym c.takes_added.ensures ∙ b.if-takes_added.false)
    ]
