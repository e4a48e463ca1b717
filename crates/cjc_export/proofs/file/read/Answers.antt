use Rattle.cjc_bytes.specs.Refused.{refusal}
use Rattle.cjc_bytes.proofs.Laws.{file_ok}
use Rattle.cjc_bytes.proofs.Readers.{ok_only, ok_breaks, err_only, err_refused, err_breaks}
use Rattle.cjc_export.specs.ExportFile.{export_file}
use Rattle.cjc_export.proofs.Spelt.{IsWritable-spelt, length-written, AreBytes-slice}
use Rattle.cjc_export.proofs.file.read.Goals as goal

pub returns-in-Ok-clause-found : goal.returns-in-Ok-clause-found
returns-in-Ok-clause-found c = file_ok export_file c.args.bytes.now c.in-Ok.tree c.in-Ok.ensures

pub returns-in-Ok-clause-only : goal.returns-in-Ok-clause-only
returns-in-Ok-clause-only c = λ t. ok_only export_file c.args.bytes.now c.in-Ok.tree t c.in-Ok.ensures

pub returns-in-Ok-clause-breaks : goal.returns-in-Ok-clause-breaks
returns-in-Ok-clause-breaks c = λ k. ok_breaks export_file c.args.bytes.now c.in-Ok.tree k c.in-Ok.ensures

pub returns-in-Err-Broken-clause-only : goal.returns-in-Err-Broken-clause-only
returns-in-Err-Broken-clause-only c = λ t. err_only export_file c.args.bytes.now c.in-Err-Broken.at t
    (rw c.in-Err-Broken.field-0-is at c.in-Err-Broken.ensures)

pub returns-in-Err-Broken-clause-refused : goal.returns-in-Err-Broken-clause-refused
returns-in-Err-Broken-clause-refused c =
    err_refused export_file c.args.bytes.now c.in-Err-Broken.at (refusal c.args.file.now 104) c.refused.result
    (rw c.in-Err-Broken.field-0-is at c.in-Err-Broken.ensures) c.refused.ensures

pub returns-in-Err-Broken-clause-breaks : goal.returns-in-Err-Broken-clause-breaks
returns-in-Err-Broken-clause-breaks c = λ k.
    err_breaks export_file c.args.bytes.now c.in-Err-Broken.at k (refusal c.args.file.now 104) c.refused.result
    (rw c.in-Err-Broken.field-0-is at c.in-Err-Broken.ensures) c.refused.ensures

pub returns-in-Ok-clause-writable : goal.returns-in-Ok-clause-writable
returns-in-Ok-clause-writable c = IsWritable-spelt c.in-Ok.tree c.args.bytes.now (AreBytes-slice c.args.bytes.now
    (λ i. (c.type_inv.bytes i).fits)) (file_ok export_file c.args.bytes.now c.in-Ok.tree c.in-Ok.ensures)

pub returns-in-Ok-clause-no_longer : goal.returns-in-Ok-clause-no_longer
returns-in-Ok-clause-no_longer c = length-written c.in-Ok.tree c.args.bytes.now (AreBytes-slice c.args.bytes.now
    (λ i. (c.type_inv.bytes i).fits)) (file_ok export_file c.args.bytes.now c.in-Ok.tree c.in-Ok.ensures)
