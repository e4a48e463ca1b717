use Rattle.std.proofs.Common.{List, Bool, ap, sym, ◌∙◌, arith, length, take, get_or, false}
use Rattle.std.specs.Prelude.{reverse}
use Rattle.cjc_capread.specs.declared.tree.ClassEntry.{ClassEntry}
use Rattle.cjc_capread.specs.declared.tree.ClassRef.{ClassRef}
use Rattle.cjc_check_rules.specs.Classes.{classes_at}
use Rattle.cjc_check_tables.specs.Members.Working.Above.{has_among}
use Rattle.cjc_check_tables.proofs.MembersLaws.Above.{answer_is, none_answer, outside, past_answer}
use Rattle.cjc_check_tables.proofs.members.virtuals.has_among.Goals as goal

pub returns-then-at-above : goal.returns-then-at-above
returns-then-at-above c =
    let info = c.args.names.now.parts.now.class.now in
    let exports = c.args.names.now.exports.now in
    let above = c.args.above.now in
    let at = c.in-Ok.at in
    let x = c.index-classes-at.result in
    let fits = c.ranges.token.fits in
    answer_is info exports above c.args.names.now.classes.now at c.in-Inside.offset c.args.token c.from.result x
    c.index-above-at.result c.answer-inherits.result c.class_answer.result c.requires.known c.requires.ready.classes
    c.requires.within c.if-at-above.true c.in-Ok.ensures.position (c.index-classes-at.is
    ∙ ap (λ (xs : List ClassEntry). get_or xs at x) c.items-classes.ensures) c.index-above-at.is c.from.ensures
    (c.answer-inherits.ensures ∙ ap (λ (bs : List Bool). get_or bs c.from.result false) c.items.ensures) (omega (
      arith,
      fits,
    )) c.class_answer.ensures
    ∙ ap (λ (r : ClassRef). has_among info exports (length above) r c.args.token) (sym c.in-Inside.is)

pub returns-else-at-above : goal.returns-else-at-above
returns-else-at-above c =
    let info = c.args.names.now.parts.now.class.now in
    let exports = c.args.names.now.exports.now in
    let n = length c.args.above.now in
    sym (past_answer exports c.args.token info c.args.names.now.classes.now n c.in-Ok.at c.in-Inside.offset
    c.requires.ready.classes c.requires.within c.if-at-above.false c.in-Ok.ensures.position)
    ∙ ap (λ (r : ClassRef). has_among info exports n r c.args.token) (sym c.in-Inside.is)

pub returns-in-Err : goal.returns-in-Err
returns-in-Err c =
    let info = c.args.names.now.parts.now.class.now in
    let exports = c.args.names.now.exports.now in
    let n = length c.args.above.now in
    sym (none_answer exports c.args.token info c.args.names.now.classes.now n c.in-Err.field-0 c.in-Inside.offset
    c.requires.ready.classes c.requires.within c.in-Err.ensures.position)
    ∙ ap (λ (r : ClassRef). has_among info exports n r c.args.token) (sym c.in-Inside.is)

pub returns-in-Outside : goal.returns-in-Outside
returns-in-Outside c =
    let info = c.args.names.now.parts.now.class.now in
    let exports = c.args.names.now.exports.now in
    let n = length c.args.above.now in
    c.has_virtual.ensures
    ∙ sym (outside exports c.args.token (reverse (take n (classes_at info))) c.in-Outside.«package» c.in-Outside.class)
    ∙ ap (λ (r : ClassRef). has_among info exports n r c.args.token) (sym c.in-Outside.is)
