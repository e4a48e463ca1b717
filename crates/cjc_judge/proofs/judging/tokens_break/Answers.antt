use Rattle.std.proofs.Common.{◌≡◌, ◌∙◌, ap, sym, subst, length, List, get_or}
use Rattle.std.specs.Prelude.{nat_lt}
use Rattle.std.proofs.lemmas.Option.{get_or_from_slice_get}
use Rattle.cjc_bytes.specs.declared.settings.FileLine.{FileLine}
use Rattle.cjc_world.specs.ClassFile.declared.tree.ClassTree.{ClassTree}
use Rattle.cjc_bytes.specs.Breaks.{IsFirst}
use Rattle.cjc_bytes.specs.Told.{file_place_of, spot_of}
use Rattle.cjc_vtable.specs.LowerTokens.Rules.{IsFirstHigh, at_class, tested_breaks}
use Rattle.cjc_bytes.specs.Order.{file_of}
use Rattle.cjc_judge.proofs.Firsts.{high_at}
use Rattle.cjc_judge.proofs.judging.tokens_break.Goals as goal

pub returns-in-None : goal.returns-in-None
returns-in-None c = subst (IsFirstHigh (nat_lt 0 (length c.args.settings.now.applets)) c.args.world.now) c.in-None.is
    c.in_ok-first_high.ensures

pub returns-in-Some : goal.returns-in-Some
returns-in-Some c =
    let files = c.args.world.now in
    let n = c.in-Some.number in
    let x = c.index-items-number.result in
    let high = subst (IsFirstHigh (nat_lt 0 (length c.args.settings.now.applets)) files) c.in-Some.is
    c.in_ok-first_high.ensures in
    let same : x ≡ high.0 = c.index-items-number.is ∙ ap (λ q. get_or q n x) (c.items.ensures ∙ c.classes.ensures)
    ∙ get_or_from_slice_get files.classes n high.0 x high.1 in
    let lines = c.items-in-Some.ensures ∙ c.lines.ensures in
    high_at (tested_breaks (nat_lt 0 (length c.args.settings.now.applets)) files) (file_of files.lines n)
    (file_place_of c.file_of-file.result) x (spot_of c.class_spot.result)
    (c.file_of-file.ensures ∙ ap (λ (ls : List FileLine). file_of ls n) lines)
    c.class_spot.ensures
    (subst (λ (t : ClassTree). IsFirst (at_class (file_of files.lines n) t.name)
    (tested_breaks (nat_lt 0 (length c.args.settings.now.applets)) files)) (sym same) high.2)
