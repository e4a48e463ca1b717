use Rattle.std.proofs.Common.{refl}
use Rattle.std.specs.Int.{int_wrap}
use Rattle.cjc_bytes.specs.Format.{repeated, raw}
use Rattle.cjc_bytes.specs.Reading.{front, digits}
use Rattle.cjc_bytes.specs.Found.{each}
use Rattle.cjc_bytes.specs.Spots.{desc_of, parts_of, bad_at, after, types_from}
use Rattle.cjc_capwrite.specs.Statics.{array_init_bytes, static_field_bytes}
use Rattle.cjc_examples.proofs.components.statics_are_written.Goals as goal

pub returns : goal.returns
unfolding int_wrap repeated raw front digits each desc_of parts_of bad_at after types_from array_init_bytes
    static_field_bytes
returns c = refl
