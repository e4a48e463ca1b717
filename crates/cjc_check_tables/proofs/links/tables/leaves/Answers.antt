use Rattle.std.proofs.Common.{ℕ, ◌≤◌, ap, sym, ◌∙◌, arith, length, take}
use Rattle.std.specs.Prelude.{reverse}
use Rattle.cjc_capread.specs.declared.tree.ClassInfo.{ClassInfo}
use Rattle.cjc_check_rules.specs.Classes.{classes_at, first_class}
use Rattle.cjc_check_rules.specs.Complete.{class_size}
use Rattle.cjc_check_tables.specs.Links.Leaving.{leaves_among}
use Rattle.cjc_check_tables.proofs.LinksLaws.Leaving.{found_leaves, past_leaves, none_leaves, outside}
use Rattle.cjc_check_tables.proofs.MembersLaws.Search.{no_class, length-placed}
use Rattle.cjc_check_tables.proofs.links.tables.leaves.Goals as goal

fits : (info : ClassInfo) (n : ℕ) → n ≤ length info.classes → n ≤ length (classes_at info)
fits info n le = let l = length-placed class_size (first_class info) info.classes in omega (arith, l, le)

pub returns-then-at-leaving : goal.returns-then-at-leaving
returns-then-at-leaving c =
    let info = c.args.names.now.parts.now.class.now in
    let n = length c.args.leaving.now in
    let le = fits info n c.requires.within in
    c.requires.known c.in-Ok.at no_class c.if-at-leaving.true
    ∙ sym (found_leaves info c.args.names.now.classes.now n c.in-Ok.at c.in-Inside.offset no_class
    c.requires.ready.classes le c.if-at-leaving.true c.in-Ok.ensures.position)
    ∙ ap (leaves_among info n) (sym c.in-Inside.is)

pub returns-else-at-leaving : goal.returns-else-at-leaving
returns-else-at-leaving c =
    let info = c.args.names.now.parts.now.class.now in
    let n = length c.args.leaving.now in
    let le = fits info n c.requires.within in
    sym (past_leaves info c.args.names.now.classes.now n c.in-Ok.at c.in-Inside.offset no_class c.requires.ready.classes
    le c.if-at-leaving.false c.in-Ok.ensures.position)
    ∙ ap (leaves_among info n) (sym c.in-Inside.is)

pub returns-in-Err : goal.returns-in-Err
returns-in-Err c =
    let info = c.args.names.now.parts.now.class.now in
    let n = length c.args.leaving.now in
    let le = fits info n c.requires.within in
    sym (none_leaves info c.args.names.now.classes.now n c.in-Err.field-0 c.in-Inside.offset no_class
    c.requires.ready.classes le c.in-Err.ensures.position)
    ∙ ap (leaves_among info n) (sym c.in-Inside.is)

pub returns-in-Outside : goal.returns-in-Outside
returns-in-Outside c =
    let info = c.args.names.now.parts.now.class.now in
    let n = length c.args.leaving.now in
    sym (outside (reverse (take n (classes_at info))) c.in-Outside.«package» c.in-Outside.class)
    ∙ ap (leaves_among info n) (sym c.in-Outside.is)
