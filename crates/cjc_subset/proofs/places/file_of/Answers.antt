use Rattle.std.proofs.Common.{◌+◌, drop, get_or, arith, sym, ap, ◌∙◌}
use Rattle.cjc_subset.specs.Places.{FilePlace, class_files, nowhere}
use Rattle.cjc_subset.proofs.Files.{file_here, file_on, file_over, file_none}
use Rattle.cjc_subset.proofs.places.file_of.Goals as goal
use Rattle.cjc_subset.proofs.places.file_of.Goals.{then-line+else-left-eq0, else-line}

pub returns-then-left-eq0-clause-place : goal.returns-then-left-eq0-clause-place
returns-then-left-eq0-clause-place c = ap (λ (f : FilePlace). f.place) (sym (file_here c.args.lines.now c.loop-place.place c.index-lines-place.result c.loop-place-test.true c.index-lines-place.is c.if-line.true c.loop-place.left c.if-left-eq0.true) ∙ c.loop-place.invariant)

pub returns-then-left-eq0-clause-name : goal.returns-then-left-eq0-clause-name
returns-then-left-eq0-clause-name c = c.items.ensures ∙ ap (λ (f : FilePlace). f.name) (sym (file_here c.args.lines.now c.loop-place.place c.index-lines-place.result c.loop-place-test.true c.index-lines-place.is c.if-line.true c.loop-place.left c.if-left-eq0.true) ∙ c.loop-place.invariant)

pub loop-place-preserved : goal.loop-place-preserved
loop-place-preserved c = elim c.if-line.branch [
  | then-line+else-left-eq0 w ↦
      ap (λ n. get_or (class_files (c.loop-place.place + 1) (drop (c.loop-place.place + 1) c.args.lines.now)) n nowhere) w.left-is
      ∙ sym (file_on c.args.lines.now c.loop-place.place c.index-lines-place.result c.loop-place-test.true c.index-lines-place.is w.if-line.true c.loop-place.left (omega arith)) ∙ c.loop-place.invariant
  | else-line w ↦
      ap (λ n. get_or (class_files (c.loop-place.place + 1) (drop (c.loop-place.place + 1) c.args.lines.now)) n nowhere) w.left-is
      ∙ sym (file_over c.args.lines.now c.loop-place.place c.index-lines-place.result c.loop-place-test.true c.index-lines-place.is w.if-line.false c.loop-place.left) ∙ c.loop-place.invariant
]

pub returns-clause-place : goal.returns-clause-place
returns-clause-place c = ap (λ (f : FilePlace). f.place) (sym (file_none c.args.lines.now c.loop-place.place c.loop-place.left c.loop-place-test.false) ∙ c.loop-place.invariant)

pub returns-clause-name : goal.returns-clause-name
returns-clause-name c = ap (λ (f : FilePlace). f.name) (sym (file_none c.args.lines.now c.loop-place.place c.loop-place.left c.loop-place-test.false) ∙ c.loop-place.invariant)
