use Rattle.std.proofs.Common.{◌≡◌, ◌<◌, ◌≤◌, List, length, get_or, ap, subst, ◌∙◌, ℕ}
use Rattle.std.specs.Prelude.{option_map}
use Rattle.cjc_bytes.specs.declared.settings.FileLine.{FileLine}
use Rattle.cjc_subset.specs.LowerClassFile.declared.tree.ClassTree.{ClassTree}
use Rattle.cjc_bytes.specs.Told.{break_of, file_place_of}
use Rattle.cjc_bytes.specs.Order.{FilePlace, file_of}
use Rattle.cjc_bytes.specs.Breaks.{IsFirstOf}
use Rattle.cjc_bytes.proofs.Firsts.{each_none, each_more, each_all}
use Rattle.cjc_clinit.specs.Working.Reading.{class_breaks}
use Rattle.cjc_clinit.proofs.breaks.classes_break.Goals as goal

pub loop-number-init : goal.loop-number-init
loop-number-init c = each_none (λ (n : ℕ) (x : ClassTree). class_breaks (file_of c.args.world.now.lines n) x)
    c.args.world.now.classes

pub loop-number-preserved : goal.loop-number-preserved
loop-number-preserved c =
    let i = c.loop-number.number in
    let files = c.args.world.now in
    let classes = c.items-classes.ensures ∙ c.classes.ensures in
    let within = subst (λ (xs : List ClassTree). i < length xs) classes c.loop-number-test.true in
    let is = c.index-classes-number.is ∙ ap (λ (xs : List ClassTree). get_or xs i c.index-classes-number.result) classes
    in
    let f : FilePlace = file_place_of c.file_of-file.result in
    let file : f ≡ file_of files.lines i = c.file_of-file.ensures ∙ ap (λ (ls : List FileLine). file_of ls i)
    (c.items.ensures ∙ c.lines.ensures) in
    each_more (λ (n : ℕ) (x : ClassTree). class_breaks (file_of files.lines n) x) i files.classes
    c.index-classes-number.result (option_map break_of c.first-least.result) within is
    (c.first-least.ensures _ _ c.loop-number.invariant
    (subst (λ (p : FilePlace). IsFirstOf (class_breaks p c.index-classes-number.result)
    (option_map break_of c.class_break.result)) file (c.class_break.ensures f c.class_spot-spot.ensures)))

pub returns : goal.returns
returns c =
    let past = subst (λ (xs : List ClassTree). length xs ≤ c.loop-number.number) (c.items-classes.ensures
    ∙ c.classes.ensures) c.loop-number-test.false in
    each_all (λ (n : ℕ) (x : ClassTree). class_breaks (file_of c.args.world.now.lines n) x) c.loop-number.number
    c.args.world.now.classes (option_map break_of c.loop-number.least) past c.loop-number.invariant
