use Rattle.std.proofs.Common.{◌≡◌, drop}
use Rattle.cjc_clinit.specs.Image.{joined, of_fields}
use Rattle.cjc_clinit.proofs.static_image.put_fields.Given as goal

abbrev pub invariant-loop-place : goal.invariant-loop-place
invariant-loop-place l = joined l.image (of_fields l.fn.class.name l.held l.place (drop l.place l.fn.class.fields))
    ≡ joined l.initial.image (of_fields l.fn.class.name l.held 0 l.fn.class.fields)
