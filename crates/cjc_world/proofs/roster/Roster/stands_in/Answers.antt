use Rattle.std.proofs.Common.{refl, length, suc, true, false, sym, ◌∙◌}
use Rattle.std.specs.Prelude.{◌||◌}
use Rattle.cjc_world.specs.Classes.{all_classes}
use Rattle.cjc_world.specs.Kin.{kin, stands}
use Rattle.cjc_world.specs.Subtype.{is_subclass}
use Rattle.cjc_world.proofs.Rising.{walk_on, walk_ends, walk_past, stands-row, stands-empty}
use Rattle.cjc_world.proofs.roster.Roster.stands_in.Goals as goal

pub returns-then-reaches : goal.returns-then-reaches
unfolding kin is_subclass
returns-then-reaches c =
    let w = all_classes c.args.self.now in
    let y = c.args.name.now in
    walk_ends (λ xs. stands y (kin w xs)) (λ a b. a || b) false (stands-row w y (suc (length w))) (stands-empty w y (suc (length w))) c.args.classes.now c.loop-class.class-index _ c.items.result.now true (λ s. refl) c.loop-class-test.true (c.items.ensures ∙ c.class-item.is) (sym c.if-reaches.true ∙ c.reaches.ensures) c.loop-class.invariant

pub loop-class-preserved : goal.loop-class-preserved
unfolding kin is_subclass
loop-class-preserved c =
    let w = all_classes c.args.self.now in
    let y = c.args.name.now in
    walk_on (λ xs. stands y (kin w xs)) (λ a b. a || b) false (stands-row w y (suc (length w))) (stands-empty w y (suc (length w))) c.args.classes.now c.loop-class.class-index _ c.items.result.now (λ r. refl) c.loop-class-test.true (c.items.ensures ∙ c.class-item.is) (sym c.if-reaches.false ∙ c.reaches.ensures) c.loop-class.invariant

pub returns : goal.returns
unfolding kin is_subclass
returns c =
    let w = all_classes c.args.self.now in
    let y = c.args.name.now in
    walk_past (λ xs. stands y (kin w xs)) (λ a b. a || b) false (stands-row w y (suc (length w))) (stands-empty w y (suc (length w))) c.args.classes.now c.loop-class.class-index c.loop-class-test.false c.loop-class.invariant
