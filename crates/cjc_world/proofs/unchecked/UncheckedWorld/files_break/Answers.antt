use Rattle.std.proofs.Common.{◌≡◌, ◌<◌, ◌≤◌, ◌+◌, drop, length, get_or, refl, sym, ap, subst, ◌∙◌}
use Rattle.std.specs.Prelude.{None, option_map, slice_get}
use Rattle.cjc_bytes.specs.declared.order.FileKey.TheVariants as keys
use Rattle.cjc_bytes.specs.Told.{break_of}
use Rattle.cjc_world.specs.Classes.{all_classes, size}
use Rattle.cjc_world.specs.Rules.{export_file_breaks, head}
use Rattle.cjc_world.proofs.Counted.{all-listed, listed-class-line, listed-export-line, listed-moved}
use Rattle.cjc_world.proofs.Heads.{class_line_breaks, class_line_keeps, export_line_breaks, export_line_keeps}
use Rattle.cjc_world.proofs.Heads.{lines_end}
use Rattle.cjc_world.proofs.unchecked.UncheckedWorld.files_break.Goals as goal
use Rattle.cjc_world.proofs.unchecked.UncheckedWorld.files_break.Goals.{then-line+in_default+in_ok-classes}
use Rattle.cjc_world.proofs.unchecked.UncheckedWorld.files_break.Goals.{else-line+in_ok-broken+in_default-2+in_ok-imports+in_ok-exports}

pub loop-place-init : goal.loop-place-init
unfolding all_classes
loop-place-init c = record {
  first = refl;
  listed = all-listed c.args.self.now.classes c.args.self.now.exports c.args.self.now.lines;
}

pub class_file_break-requires : goal.class_file_break-requires
class_file_break-requires c =
    let files = c.args.self.now in
    let same = c.items-line-items.ensures ∙ c.lines.ensures in
    let within = subst (λ ls. c.loop-place.place < length ls) same c.loop-place-test.true in
    let is = c.line-item.is ∙ ap (λ ls. get_or ls c.loop-place.place c.line-item.result) same in
    (listed-class-line files.classes files.exports files.lines (all_classes files) c.loop-place.classes
    c.loop-place.exports c.loop-place.imports c.loop-place.place c.line-item.result within is
    c.loop-place.invariant.listed c.if-line.true).0

pub export_file_break-requires : goal.export_file_break-requires
export_file_break-requires c =
    let files = c.args.self.now in
    let same = c.items-line-items.ensures ∙ c.lines.ensures in
    let within = subst (λ ls. c.loop-place.place < length ls) same c.loop-place-test.true in
    let is = c.line-item.is ∙ ap (λ ls. get_or ls c.loop-place.place c.line-item.result) same in
    (listed-export-line files.classes files.exports files.lines (all_classes files) c.loop-place.classes
    c.loop-place.exports c.loop-place.imports c.loop-place.place c.line-item.result within is
    c.loop-place.invariant.listed c.if-line.false).0

pub returns-in-Some : goal.returns-in-Some
returns-in-Some c =
    let same = c.items-line-items.ensures ∙ c.lines.ensures in
    let within = subst (λ ls. c.loop-place.place < length ls) same c.loop-place-test.true in
    let is = c.line-item.is ∙ ap (λ ls. get_or ls c.loop-place.place c.line-item.result) same in
    sym (class_line_breaks c.args.self.now (all_classes c.args.self.now) c.loop-place.place c.loop-place.classes
    c.loop-place.exports c.loop-place.imports c.line-item.result c.items-name.result.now (break_of c.in-Some.broken)
    within is c.if-line.true c.items-name.ensures c.in-Some.ensures)
    ∙ c.loop-place.invariant.first

pub returns-in-Some-2 : goal.returns-in-Some-2
returns-in-Some-2 c =
    let same = c.items-line-items.ensures ∙ c.lines.ensures in
    let within = subst (λ ls. c.loop-place.place < length ls) same c.loop-place-test.true in
    let is = c.line-item.is ∙ ap (λ ls. get_or ls c.loop-place.place c.line-item.result) same in
    sym (export_line_breaks c.args.self.now (all_classes c.args.self.now) c.loop-place.place c.loop-place.classes
    c.loop-place.exports c.loop-place.imports c.line-item.result c.items-name.result.now
    (break_of c.in-Some-2.broken) within is c.if-line.false c.items-name.ensures (ap (option_map break_of)
    (sym c.in-Some-2.is) ∙ c.in_ok-broken.ensures))
    ∙ c.loop-place.invariant.first

pub loop-place-preserved : goal.loop-place-preserved
loop-place-preserved c =
    let files = c.args.self.now in
    let rest = drop (c.loop-place.place + 1) files.lines in
    let same = c.items-line-items.ensures ∙ c.lines.ensures in
    let within = subst (λ ls. c.loop-place.place < length ls) same c.loop-place-test.true in
    let is = c.line-item.is ∙ ap (λ ls. get_or ls c.loop-place.place c.line-item.result) same in
    elim c.if-line.branch [
      | then-line+in_default+in_ok-classes w ↦
          let q : c.loop-place.classes + 1 ≡ c.if-line.classes = let a = w.in_ok-classes.ensures in cc in
          let r : c.loop-place.exports ≡ c.if-line.exports = cc in
          let s : c.loop-place.imports ≡ c.if-line.imports = cc in
          record {
            first = sym (class_line_keeps files (all_classes files) c.loop-place.place c.loop-place.classes
                c.loop-place.exports c.loop-place.imports c.line-item.result c.items-name.result.now c.if-line.classes
                c.if-line.exports c.if-line.imports within is w.if-line.true c.items-name.ensures w.in_default.ensures
                q r s)
                ∙ c.loop-place.invariant.first;
            listed = listed-moved files.classes files.exports rest (all_classes files) (c.loop-place.classes + 1)
                c.loop-place.exports c.loop-place.imports c.if-line.classes c.if-line.exports c.if-line.imports
                (listed-class-line files.classes files.exports files.lines (all_classes files) c.loop-place.classes
                c.loop-place.exports c.loop-place.imports c.loop-place.place c.line-item.result within is
                c.loop-place.invariant.listed w.if-line.true).1 q r s;
          }
      | else-line+in_ok-broken+in_default-2+in_ok-imports+in_ok-exports w ↦
          let q : c.loop-place.classes ≡ c.if-line.classes = cc in
          let r : c.loop-place.exports + 1 ≡ c.if-line.exports = let a = w.in_ok-exports.ensures in cc in
          let t = w.items.ensures ∙ w.exports.ensures in
          let s : c.loop-place.imports + size (slice_get c.args.self.now.exports c.loop-place.exports)
          ≡ c.if-line.imports = let a = w.in_ok-imports.ensures in let b = w.size.ensures
          ∙ ap (λ es. size (slice_get es c.loop-place.exports)) t in cc in
          let none : None ≡ head (export_file_breaks c.args.self.now (keys.Line c.loop-place.place)
          c.items-name.result.now (all_classes c.args.self.now) c.loop-place.exports c.loop-place.imports
          (slice_get c.args.self.now.exports c.loop-place.exports)) = ap (option_map break_of)
          (sym w.in_default-2.is) ∙ w.in_ok-broken.ensures in
          record {
            first = sym (export_line_keeps files (all_classes files) c.loop-place.place c.loop-place.classes
                c.loop-place.exports c.loop-place.imports c.line-item.result c.items-name.result.now c.if-line.classes
                c.if-line.exports c.if-line.imports within is w.if-line.false c.items-name.ensures none q r s)
                ∙ c.loop-place.invariant.first;
            listed = listed-moved files.classes files.exports rest (all_classes files) c.loop-place.classes
                (c.loop-place.exports + 1) (c.loop-place.imports
                + size (slice_get files.exports c.loop-place.exports)) c.if-line.classes c.if-line.exports
                c.if-line.imports
                (listed-export-line files.classes files.exports files.lines (all_classes files) c.loop-place.classes
                c.loop-place.exports c.loop-place.imports c.loop-place.place c.line-item.result within is
                c.loop-place.invariant.listed w.if-line.false).1 q r s;
          }
    ]

pub returns : goal.returns
returns c =
    let past = subst (λ ls. length ls ≤ c.loop-place.place) (c.items-line-items.ensures ∙ c.lines.ensures)
    c.loop-place-test.false in
    sym (lines_end c.args.self.now (all_classes c.args.self.now) c.loop-place.place c.loop-place.classes
    c.loop-place.exports c.loop-place.imports past)
    ∙ c.loop-place.invariant.first
