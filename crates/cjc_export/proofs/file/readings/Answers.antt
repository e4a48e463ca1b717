use Rattle.cjc_bytes.proofs.Laws.{one_value, one_place, spelt_or_broken, decided, reading_is}
use Rattle.cjc_export.specs.ExportFile.{export_file}
use Rattle.cjc_export.proofs.Spelling.{written_spells}
use Rattle.cjc_export.proofs.Spelt.{IsWritable-spelt, length-written}
use Rattle.cjc_export.proofs.file.readings.Goals as goal

pub returns-clause-tree : goal.returns-clause-tree
returns-clause-tree c = λ s t bytes. one_value export_file bytes s t

pub returns-clause-place : goal.returns-clause-place
returns-clause-place c = λ j k bytes. one_place export_file bytes j k

pub returns-clause-both : goal.returns-clause-both
returns-clause-both c = λ t k bytes. spelt_or_broken export_file bytes t k

pub returns-clause-either : goal.returns-clause-either
returns-clause-either c = λ bytes. decided export_file bytes

pub returns-clause-reading : goal.returns-clause-reading
returns-clause-reading c = λ bytes. reading_is export_file bytes

pub returns-clause-writable : goal.returns-clause-writable
returns-clause-writable c = λ t bytes. IsWritable-spelt t bytes

pub returns-clause-written : goal.returns-clause-written
returns-clause-written c = λ t. written_spells t

pub returns-clause-shortest : goal.returns-clause-shortest
returns-clause-shortest c = λ t bytes. length-written t bytes
