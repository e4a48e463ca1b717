use Rattle.std.proofs.Common.{◌≡◌, List, ap, ◌∙◌, arith, length, get_or}
use Rattle.cjc_capread.specs.declared.tree.ClassEntry.{ClassEntry}
use Rattle.cjc_check_tables.proofs.MembersLaws.Search.{item_absent, item_found, item_inside}
use Rattle.cjc_check_tables.proofs.members.virtuals.class_at.Goals as goal

pub returns-then-at-classes : goal.returns-then-at-classes
returns-then-at-classes c =
    let info = c.args.names.now.parts.now.class.now in
    let x = c.index-classes-at.result in
    item_found info c.args.names.now.classes.now c.in-Ok.at c.args.offset x c.requires.classes c.in-Ok.ensures.position
    (c.index-classes-at.is ∙ ap (λ (xs : List ClassEntry). get_or xs c.in-Ok.at x) c.items-classes.ensures)

pub returns-else-at-classes : goal.returns-else-at-classes
returns-else-at-classes c =
    let info = c.args.names.now.parts.now.class.now in
    let l : length c.items-classes.result.now ≡ length info.classes = ap (λ (xs : List ClassEntry). length xs)
    c.items-classes.ensures in
    let inside = item_inside info c.args.names.now.classes.now c.in-Ok.at c.args.offset c.requires.classes
    c.in-Ok.ensures.position in
    let past = c.if-at-classes.false in
    absurd (omega (arith, l, inside, past))

pub returns-in-Err : goal.returns-in-Err
returns-in-Err c = item_absent c.args.names.now.parts.now.class.now c.args.names.now.classes.now c.in-Err.field-0
    c.args.offset c.requires.classes c.in-Err.ensures.position
