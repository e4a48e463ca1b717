use Rattle.std.proofs.Common.{◌∙◌, List, sym, ap, get_or, cond}
use Rattle.std.specs.Prelude.{Some, None}
use Rattle.std.proofs.lemmas.List.{get_or_default}
use Rattle.cjc_capread.specs.declared.tree.ClassRef.TheVariants.{Inside}
use Rattle.cjc_card_acts.specs.CardSemantics.Machine.Classes.{or_else}
use Rattle.cjc_classes.specs.ClassInfo.Infos.{number_named}
use Rattle.cjc_classes.specs.ClassInfo.Refs.{ref_in}
use Rattle.cjc_world.specs.ClassFile.declared.tree.ClassTree.{ClassTree}
use Rattle.cjc_verify.proofs.InfosLaws.Refs.{spot_end, spot_more, spot_short}
use Rattle.cjc_verify.proofs.infos.refs.note_own.Goals as goal

pub loop-i-preserved : goal.loop-i-preserved
loop-i-preserved c = λ x.
    let trees = c.args.world.now.classes in
    let order = c.args.order.now in
    let starts = c.args.starts.now in
    let i = c.loop-i.i in
    let n = get_or order i 0 in
    let s = get_or starts i 0 in
    spot_more trees (ref_in c.loop-i.refs) (ref_in c.note_class.new.refs) order starts i n s c.loop-i-test.true
    (get_or_default order i 0 n c.loop-i-test.true) c.if-i-starts.false
    (get_or_default starts i 0 s c.if-i-starts.false)
    (λ y. c.in_ok-note_class.ensures y ∙ ap (λ (ts : List ClassTree). or_else (ref_in c.loop-i.refs y)
    (cond (number_named ts n y) (Some (Inside s)) None)) (c.items.ensures ∙ c.classes.ensures)) x
    ∙ c.loop-i.invariant x

pub returns-then-i-starts : goal.returns-then-i-starts
returns-then-i-starts c = λ x.
    sym (spot_short c.args.world.now.classes (ref_in c.loop-i.refs) c.args.order.now c.args.starts.now c.loop-i.i
    c.if-i-starts.true x)
    ∙ c.loop-i.invariant x

pub returns : goal.returns
returns c = λ x.
    sym (spot_end c.args.world.now.classes (ref_in c.loop-i.refs) c.args.order.now c.args.starts.now c.loop-i.i
    c.loop-i-test.false x)
    ∙ c.loop-i.invariant x
