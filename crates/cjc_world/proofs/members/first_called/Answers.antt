use Rattle.std.proofs.Common.{◌≡◌, get_or, true, false, arith, sym, ap, ◌∙◌}
use Rattle.std.specs.Prelude.{◌&&◌}
use Rattle.std.specs.Ordering.{is_eq, is_lt}
use Rattle.cjc_world.specs.Lookup.{is_wanted}
use Rattle.cjc_world.specs.Rules.{members}
use Rattle.cjc_world.specs.Working.Known.{class_of}
use Rattle.cjc_world.specs.Working.Members.{flags_at, id_at, id_cmp}
use Rattle.cjc_world.proofs.Called.{find-end, find-here, find-on, found-behind, index-finds, none-behind, passes}
use Rattle.cjc_world.proofs.members.first_called.Goals as goal

pub loop-position-init : goal.loop-position-init
loop-position-init c =
    let ms = members c.args.field (class_of c.args.class) in
    let less = c.count_before-before.ensures.point.0 in
    found-behind ms c.args.places.now c.requires c.args.name.now c.args.desc.now c.args.selecting
    c.count_before-before.result c.count_before-before.ensures.within (λ i d l. less i d (omega arith) l)

pub returns-then-not-is_eq : goal.returns-then-not-is_eq
returns-then-not-is_eq c =
    let ms = members c.args.field (class_of c.args.class) in
    let p = get_or c.args.places.now c.loop-position.position 0 in
    let behind : is_lt (id_cmp (id_at ms p) (c.args.name.now, c.args.desc.now)) ≡ false =
    c.count_before-before.ensures.point.1 c.loop-position.position 0 c.loop-position.auto.position
    c.loop-position-test.true in
    let other : is_eq (id_cmp (id_at ms p) (c.args.name.now, c.args.desc.now)) ≡ false =
    ap is_eq (sym c.compare.ensures) ∙ sym c.is_eq.ensures ∙ c.if-not-is_eq.true in
    sym (none-behind ms c.args.places.now c.requires c.args.name.now c.args.desc.now c.args.selecting
    c.loop-position.position 0 c.loop-position-test.true behind other)
    ∙ c.loop-position.invariant
    ∙ index-finds ms c.args.places.now c.requires c.args.name.now c.args.desc.now c.args.selecting

pub returns-then-is_wanted : goal.returns-then-is_wanted
returns-then-is_wanted c =
    let ms = members c.args.field (class_of c.args.class) in
    let p = get_or c.args.places.now c.loop-position.position 0 in
    let called : is_eq (id_cmp (id_at ms p) (c.args.name.now, c.args.desc.now)) ≡ true =
    ap is_eq (sym c.compare.ensures) ∙ sym c.is_eq.ensures ∙ c.if-not-is_eq.false in
    let wanted : is_wanted c.args.selecting (flags_at ms p) ≡ true =
    ap (is_wanted c.args.selecting) (sym c.flags_at.ensures) ∙ sym c.is_wanted.ensures ∙ c.if-is_wanted.true in
    let here : passes ms c.args.selecting c.args.name.now c.args.desc.now p ≡ true =
    ap (λ b. b && is_eq (id_cmp (id_at ms p) (c.args.name.now, c.args.desc.now))) wanted ∙ called in
    sym (find-here (passes ms c.args.selecting c.args.name.now c.args.desc.now) c.args.places.now
    c.loop-position.position 0 c.loop-position-test.true here)
    ∙ c.loop-position.invariant
    ∙ index-finds ms c.args.places.now c.requires c.args.name.now c.args.desc.now c.args.selecting

pub loop-position-preserved : goal.loop-position-preserved
loop-position-preserved c =
    let ms = members c.args.field (class_of c.args.class) in
    let p = get_or c.args.places.now c.loop-position.position 0 in
    let unwanted : is_wanted c.args.selecting (flags_at ms p) ≡ false =
    ap (is_wanted c.args.selecting) (sym c.flags_at.ensures) ∙ sym c.is_wanted.ensures ∙ c.if-is_wanted.false in
    let over : passes ms c.args.selecting c.args.name.now c.args.desc.now p ≡ false =
    ap (λ b. b && is_eq (id_cmp (id_at ms p) (c.args.name.now, c.args.desc.now))) unwanted in
    sym (find-on (passes ms c.args.selecting c.args.name.now c.args.desc.now) c.args.places.now
    c.loop-position.position 0 c.loop-position-test.true over)
    ∙ c.loop-position.invariant

pub returns : goal.returns
returns c =
    let ms = members c.args.field (class_of c.args.class) in
    sym (find-end (passes ms c.args.selecting c.args.name.now c.args.desc.now) c.args.places.now
    c.loop-position.position c.loop-position-test.false)
    ∙ c.loop-position.invariant
    ∙ index-finds ms c.args.places.now c.requires c.args.name.now c.args.desc.now c.args.selecting
