use Rattle.std.proofs.Common.{◌≡◌, drop}
use Rattle.cjc_clinit.specs.Image.{joined, of_classes}
use Rattle.cjc_clinit.proofs.static_image.put_classes.Given as goal

abbrev pub invariant-loop-number : goal.invariant-loop-number
invariant-loop-number l = joined l.image (of_classes l.rows l.number (drop l.number l.classes)) ≡ joined l.initial.image
    (of_classes l.rows 0 l.classes)
