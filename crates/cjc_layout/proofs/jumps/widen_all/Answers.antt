use Rattle.std.proofs.Common.{◌∙◌, ap, sym, subst, map}
use Rattle.cjc_layout.specs.Sizes.{bytes_before, code_size}
use Rattle.cjc_layout.specs.Layouts.{HasPlaces}
use Rattle.cjc_layout.proofs.Passes.{is_jump, jumps_legal, count_is, sum_short, sum_end, has_places}
use Rattle.cjc_layout.proofs.jumps.widen_all.Goals as goal

pub set_places-end-requires-clause-wide : goal.set_places-end-requires-clause-wide
set_places-end-requires-clause-wide c =
    let within = c.loop-end.invariant.below (map is_jump c.args.insns.now) (jumps_legal c.args.insns.now) in
    c.loop-end.invariant.count ∙ sym (count_is c.args.insns.now c.args.sizes.now c.loop-end.wide c.requires.sizes
    within)

pub set_places-end-requires-clause-places : goal.set_places-end-requires-clause-places
set_places-end-requires-clause-places c =
    let within = c.loop-end.invariant.below (map is_jump c.args.insns.now) (jumps_legal c.args.insns.now) in
    c.loop-end.invariant.places ∙ sym (count_is c.args.insns.now c.args.sizes.now c.loop-end.wide c.requires.sizes
    within)

pub set_places-end-requires-clause-short : goal.set_places-end-requires-clause-short
set_places-end-requires-clause-short c =
    let within = c.loop-end.invariant.below (map is_jump c.args.insns.now) (jumps_legal c.args.insns.now) in
    sum_short c.args.insns.now c.args.sizes.now c.loop-end.wide c.requires.sizes within c.requires.short

pub widen-requires-clause-places : goal.widen-requires-clause-places
widen-requires-clause-places c =
    let within = c.loop-end.invariant.below (map is_jump c.args.insns.now) (jumps_legal c.args.insns.now) in
    has_places c.args.insns.now c.args.sizes.now c.loop-end.wide c.requires.sizes within c.set_places-end.new.places
    c.set_places-end.ensures.count c.set_places-end.ensures.each

pub returns-then-not-widen-clause-places : goal.returns-then-not-widen-clause-places
returns-then-not-widen-clause-places c =
    let within = c.loop-end.invariant.below (map is_jump c.args.insns.now) (jumps_legal c.args.insns.now) in
    let legal = c.widen.ensures.legal c.if-not-widen.true in
    subst (λ w. HasPlaces c.args.insns.now (bytes_before c.args.insns.now w) c.set_places-end.new.places) (sym legal.0)
    (has_places c.args.insns.now c.args.sizes.now c.loop-end.wide c.requires.sizes within c.set_places-end.new.places
    c.set_places-end.ensures.count c.set_places-end.ensures.each)

pub returns-then-not-widen-clause-end : goal.returns-then-not-widen-clause-end
returns-then-not-widen-clause-end c =
    let within = c.loop-end.invariant.below (map is_jump c.args.insns.now) (jumps_legal c.args.insns.now) in
    let legal = c.widen.ensures.legal c.if-not-widen.true in
    c.set_places-end.ensures.end ∙ sum_end c.args.insns.now c.args.sizes.now c.loop-end.wide c.requires.sizes within
    ∙ ap (code_size c.args.insns.now) (sym legal.0)
