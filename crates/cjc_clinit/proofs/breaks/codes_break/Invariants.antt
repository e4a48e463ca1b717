use Rattle.std.proofs.Common.{◌≡◌, take, drop}
use Rattle.std.specs.Prelude.{IfNone, option_map}
use Rattle.cjc_bytes.specs.Told.{break_of}
use Rattle.cjc_bytes.specs.Breaks.{IsFirstOf, each}
use Rattle.cjc_clinit.specs.Working.Reading.{after_codes, code_breaks, puts}
use Rattle.cjc_clinit.proofs.breaks.codes_break.Given as goal

abbrev pub invariant-loop-code : goal.invariant-loop-code
invariant-loop-code l =
    IsFirstOf (each (λ _ code. code_breaks l.world code) (take l.code-index l.codes)) (option_map break_of l.least)
    × IfNone l.least (after_codes l.world (puts l.rows l.arrays) (drop l.code-index l.codes)
    ≡ after_codes l.world (puts l.initial.rows l.initial.arrays) l.codes)
