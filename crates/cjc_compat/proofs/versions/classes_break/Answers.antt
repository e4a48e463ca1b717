use Rattle.std.proofs.Common.{ℕ, ◌+◌, ◌<◌, ◌≤◌, List, length, get_or, ap, subst, ◌∙◌}
use Rattle.std.specs.Prelude.{option_map}
use Rattle.cjc_export.specs.Bytes.Breaks.{class_spot}
use Rattle.cjc_export.specs.Bytes.Told.{break_of, file_place_of}
use Rattle.cjc_export.proofs.BytesFirsts.{each_all, each_more, each_none}
use Rattle.cjc_compat.specs.Rules.{class_breaks, with_token}
use Rattle.cjc_export.specs.declared.tree.ExportClass.{ExportClass}
use Rattle.cjc_compat.proofs.versions.classes_break.Goals as goal

pub loop-number-init : goal.loop-number-init
loop-number-init c = each_none (λ n (x : ExportClass). class_breaks (file_place_of c.args.file) n x (with_token x.token
    c.args.new.now.classes)) c.args.old.now.classes

pub loop-number-preserved : goal.loop-number-preserved
loop-number-preserved c =
    let i = c.loop-number.number in
    let within = subst (λ (xs : List ExportClass). i < length xs) c.items-classes.ensures c.loop-number-test.true in
    let is = c.index-classes-number.is ∙ ap (λ (xs : List ExportClass). get_or xs i c.index-classes-number.result)
    c.items-classes.ensures in
    each_more (λ n (x : ExportClass). class_breaks (file_place_of c.args.file) n x (with_token x.token
    c.args.new.now.classes)) i c.args.old.now.classes c.index-classes-number.result
    (option_map break_of c.first-least.result) within is
    (c.first-least.ensures _ _ c.loop-number.invariant (c.in_ok-class_break.ensures (file_place_of c.args.file) i
    (c.of_class-spot.ensures ∙ ap (λ (x : List ℕ). class_spot (file_place_of c.args.file) (i + 1) x) c.items.ensures)))

pub returns : goal.returns
returns c =
    let past = subst (λ (xs : List ExportClass). length xs ≤ c.loop-number.number) c.items-classes.ensures
    c.loop-number-test.false in
    each_all (λ n (x : ExportClass). class_breaks (file_place_of c.args.file) n x (with_token x.token
    c.args.new.now.classes)) c.loop-number.number c.args.old.now.classes (option_map break_of c.loop-number.least) past
    c.loop-number.invariant
