use Rattle.std.proofs.Common.{refl}
use Rattle.std.specs.Int.{int_wrap}
use Rattle.cjc_bytes.specs.Format.{repeated, raw}
use Rattle.cjc_bytes.specs.Reading.{front, digits}
use Rattle.cjc_bytes.specs.Found.{each}
use Rattle.cjc_bytes.specs.Spots.{desc_of, parts_of, bad_at, after, types_from}
use Rattle.cjc_capwrite.specs.CapRead.Opcodes.{forms, form}
use Rattle.cjc_world.specs.ExportFile.Supers.{upwards_from}
use Rattle.cjc_components.specs.LowerCardSemantics.Bytecode.Meanings.{meaning}
use Rattle.cjc_components.specs.LowerCardSemantics.Machine.ByToken.{by_token}
use Rattle.cjc_examples.proofs.components.broken_components_are_stuck.Goals as goal

pub returns : goal.returns
unfolding int_wrap repeated raw front digits each desc_of parts_of bad_at after types_from forms form upwards_from
    meaning by_token
returns c = refl
