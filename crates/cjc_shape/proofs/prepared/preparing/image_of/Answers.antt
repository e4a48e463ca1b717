use Rattle.std.proofs.Common.{◌≡◌}
use Rattle.cjc_clinit.specs.Rules.{IsFirstRefused}
use Rattle.cjc_bytes.specs.declared.fault.Fault.TheVariants as faults
use Rattle.cjc_shape.proofs.PreparedLaws.Parts.{err_map, image_memory}
use Rattle.cjc_shape.proofs.PreparedLaws.Sound.{no_image_break}
use Rattle.cjc_shape.proofs.prepared.preparing.image_of.Goals as goal

pub returns-clause-memory : goal.returns-clause-memory
returns-clause-memory c =
    let j = c.args.judged.now in
    err_map c.image.result (IsFirstRefused j.world j.codes) (λ e. e ≡ faults.NoMemory)
    (λ e refused. image_memory j.world j.codes e (no_image_break c.args.list.now c.requires.0 j c.requires.1) refused)
    c.image.ensures.refused
