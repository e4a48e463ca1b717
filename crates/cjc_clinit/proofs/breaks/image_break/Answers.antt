use Rattle.std.proofs.Common.{◌≡◌}
use Rattle.std.specs.Prelude.{Ok}
use Rattle.cjc_bytes.specs.Breaks.{each}
use Rattle.cjc_bytes.specs.Order.{file_of}
use Rattle.cjc_bytes.specs.Told.{break_of}
use Rattle.cjc_clinit.specs.Working.Reading.{after_codes, class_breaks, code_breaks, image_breaks, puts}
use Rattle.cjc_clinit.proofs.Effects.{joining, no-premise}
use Rattle.cjc_clinit.proofs.breaks.image_break.Goals as goal

pub returns-clause-first : goal.returns-clause-first
unfolding image_breaks
returns-clause-first c = c.first.ensures _ _ c.classes_break-in_classes.ensures c.in_ok-in_codes.ensures.first

pub returns-clause-puts : goal.returns-clause-puts
returns-clause-puts c =
    let w = c.args.world.now in
    joining break_of (each (λ n x. class_breaks (file_of w.lines n) x) w.classes) (each (λ _ code. code_breaks w code)
    c.args.codes.now) c.classes_break-in_classes.result c.in_ok-in_codes.in_codes c.first.result (Unit {0}) _ _
    c.classes_break-in_classes.ensures c.in_ok-in_codes.ensures.first
    (c.first.ensures _ _ c.classes_break-in_classes.ensures c.in_ok-in_codes.ensures.first)
    (λ (_ : Unit {0}) (p : after_codes w (puts c.args.rows.now c.args.arrays.now) c.args.codes.now ≡ Ok
    (puts c.codes_break.new.rows c.codes_break.new.arrays)). p)
    (no-premise c.classes_break-in_classes.result) c.in_ok-in_codes.ensures.puts
