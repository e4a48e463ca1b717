use Rattle.std.proofs.Common.{◌≡◌, sym, ap, ◌∙◌, true, false}
use Rattle.std.specs.Prelude.{codes}
use Rattle.std.specs.Str.{bytes_eq}
use Rattle.cjc_world.specs.Classes.{all_classes}
use Rattle.cjc_world.proofs.Languages.{language_at, language_end}
use Rattle.cjc_world.proofs.unchecked.UncheckedWorld.has_language.Goals as goal

pub returns-then-eq : goal.returns-then-eq
returns-then-eq c =
    let test : bytes_eq c.tree-item.result.name (codes "java/lang") ≡ true = sym (sym c.if-eq.true ∙ c.eq.ensures
    ∙ ap (λ name. bytes_eq name (codes "java/lang")) c.items.ensures) in
    c.has_needed.ensures
    ∙ sym (language_at (all_classes c.args.self.now) c.items-tree-items.result.now c.loop-tree.tree-index
    c.tree-item.result true c.loop-tree-test.true c.tree-item.is test)
    ∙ c.loop-tree.invariant

pub loop-tree-preserved : goal.loop-tree-preserved
loop-tree-preserved c =
    let test : bytes_eq c.tree-item.result.name (codes "java/lang") ≡ false = sym (sym c.if-eq.false ∙ c.eq.ensures
    ∙ ap (λ name. bytes_eq name (codes "java/lang")) c.items.ensures) in
    sym (language_at (all_classes c.args.self.now) c.items-tree-items.result.now c.loop-tree.tree-index
    c.tree-item.result false c.loop-tree-test.true c.tree-item.is test)
    ∙ c.loop-tree.invariant

pub returns : goal.returns
returns c = sym (language_end (all_classes c.args.self.now) c.items-tree-items.result.now c.loop-tree.tree-index
    c.loop-tree-test.false) ∙ c.loop-tree.invariant
