use Rattle.std.proofs.Common.{◌≡◌, sym, subst, ◌∙◌, ◌<◌, ◌^◌, ◌+◌, length}
use Rattle.std.specs.Prelude.{slice_get}
use Rattle.cjc_world.specs.Classes.{size}
use Rattle.cjc_world.specs.Working.Spots.{IsIndexed}
use Rattle.cjc_world.proofs.Indexing.{Indexing, indexing_starts, indexing_class, indexing_export, indexing_ends}
use Rattle.cjc_world.proofs.spot.index.Goals as goal
use Rattle.cjc_world.proofs.spot.index.Goals.{then-line+in_ok-put_class+in_ok-class_files}
use Rattle.cjc_world.proofs.spot.index.Goals.{else-line+in_ok-put_export+in_ok-imports+in_ok-export_files}

pub loop-line-init : goal.loop-line-init
loop-line-init c = subst (λ spots. Indexing c.args.classes.now c.args.exports.now c.args.lines.now spots 0 0 0 0)
    (sym c.new-spots.ensures.items) (indexing_starts c.args.classes.now c.args.exports.now c.args.lines.now)

pub loop-line-preserved : goal.loop-line-preserved
loop-line-preserved c = elim c.if-line.branch [
  | then-line+in_ok-put_class+in_ok-class_files w ↦
      let p : w.put_class.new.spots.items ≡ c.if-line.spots.items = cc in
      let q : c.loop-line.class_files + 1 ≡ c.if-line.class_files = let a = w.in_ok-class_files.ensures in cc in
      let r : c.loop-line.export_files ≡ c.if-line.export_files = cc in
      let s : c.loop-line.imports ≡ c.if-line.imports = cc in
      indexing_class c.args.classes.now c.args.exports.now c.args.lines.now c.loop-line.spots.items
      w.put_class.new.spots.items c.if-line.spots.items
      c.loop-line.class_files c.loop-line.export_files c.loop-line.imports c.loop-line.line-index c.if-line.class_files
      c.if-line.export_files c.if-line.imports
      c.line-item.result c.loop-line-test.true c.line-item.is w.if-line.true c.loop-line.invariant
      (w.in_ok-put_class.ensures c.args.exports.now)
      p q r s
  | else-line+in_ok-put_export+in_ok-imports+in_ok-export_files w ↦
      let p : w.put_export.new.spots.items ≡ c.if-line.spots.items = cc in
      let q : c.loop-line.class_files ≡ c.if-line.class_files = cc in
      let r : c.loop-line.export_files + 1 ≡ c.if-line.export_files = let a = w.in_ok-export_files.ensures in cc in
      let s : c.loop-line.imports + size (slice_get c.args.exports.now c.loop-line.export_files) ≡ c.if-line.imports =
      let a = w.in_ok-imports.ensures in let b = w.size.ensures in cc in
      indexing_export c.args.classes.now c.args.exports.now c.args.lines.now c.loop-line.spots.items
      w.put_export.new.spots.items c.if-line.spots.items
      c.loop-line.class_files c.loop-line.export_files c.loop-line.imports c.loop-line.line-index c.if-line.class_files
      c.if-line.export_files c.if-line.imports
      c.line-item.result c.loop-line-test.true c.line-item.is w.if-line.false c.loop-line.invariant
      (w.in_ok-put_export.ensures c.args.classes.now)
      p q r s
]

pub returns-then-items-lt4294967296 : goal.returns-then-items-lt4294967296
returns-then-items-lt4294967296 c =
    let few : length c.loop-line.spots.items < 2 ^ 32 = subst (λ xs. length xs < 2 ^ 32) (c.items.ensures
    ∙ c.of-spots.ensures) c.if-items-lt4294967296.true in
    subst (λ spots. IsIndexed c.args.lines.now c.args.classes.now c.args.exports.now spots) (sym c.of-spots.ensures)
    (indexing_ends c.args.classes.now c.args.exports.now c.args.lines.now c.loop-line.spots.items
    c.loop-line.class_files c.loop-line.export_files c.loop-line.imports c.loop-line.line-index
    c.loop-line.invariant c.loop-line-test.false few)
