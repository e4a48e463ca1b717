use Rattle.std.proofs.Common.{List, subst, ◌∙◌}
use Rattle.std.specs.Prelude.{option_map}
use Rattle.cjc_code.specs.ClassFile.declared.tree.ClassTree.{ClassTree}
use Rattle.cjc_world.specs.ExportFile.declared.tree.ExportTree.{ExportTree}
use Rattle.cjc_world.specs.Classes.{all_classes, declared, imported}
use Rattle.cjc_bytes.specs.Told.{break_of}
use Rattle.cjc_subset.specs.Overriding.{supertype_breaks, overriding_breaks}
use Rattle.cjc_bytes.specs.Breaks.{IsFirstOf, each}
use Rattle.cjc_bytes.proofs.Firsts.{at_same}
use Rattle.cjc_subset.proofs.overriding.overriding_break.Goals as goal

pub returns : goal.returns
unfolding overriding_breaks
returns c = λ f e.
    let w = all_classes c.args.world.now in
    let class = c.args.class.now in
    let declareds = subst (λ (xs : List ClassTree). IsFirstOf (each (λ _ d. supertype_breaks w f class (declared 0 d))
    xs) (option_map break_of c.in_ok-declared.declared)) (c.items.ensures ∙ c.classes.ensures)
    (c.in_ok-declared.ensures f e) in
    let importeds =
    subst (λ (xs : List ExportTree). IsFirstOf (each (λ _ t. each (λ _ d. supertype_breaks w f class (imported 0 d))
    t.classes) xs) (option_map break_of c.in_ok-imported.imported)) (c.items-2.ensures ∙ c.exports.ensures)
    (c.in_ok-imported.ensures f e) in
    c.first-2.ensures _ _ (c.first.ensures _ _ (at_same 307 _ c.in_ok-lacking.ensures e c.broken.ensures) declareds)
    importeds
