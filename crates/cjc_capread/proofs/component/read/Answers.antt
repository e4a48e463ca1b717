use Rattle.std.proofs.Common.{length}
use Rattle.cjc_bytes.proofs.Laws.{file_ok}
use Rattle.cjc_bytes.proofs.Readers.{ok_only, ok_breaks, err_only, err_refused, err_breaks}
use Rattle.cjc_bytes.specs.Refused.{refusal}
use Rattle.cjc_capread.specs.Component.{component}
use Rattle.cjc_capread.proofs.component.read.Goals as goal

pub returns-in-Ok-clause-found : goal.returns-in-Ok-clause-found
returns-in-Ok-clause-found c = file_ok (component c.args.tag (length c.args.bytes.now)) c.args.bytes.now c.in-Ok.tree
    c.in-Ok.ensures

pub returns-in-Ok-clause-only : goal.returns-in-Ok-clause-only
returns-in-Ok-clause-only c = λ t. ok_only (component c.args.tag (length c.args.bytes.now)) c.args.bytes.now
    c.in-Ok.tree t c.in-Ok.ensures

pub returns-in-Ok-clause-breaks : goal.returns-in-Ok-clause-breaks
returns-in-Ok-clause-breaks c = λ k. ok_breaks (component c.args.tag (length c.args.bytes.now)) c.args.bytes.now
    c.in-Ok.tree k c.in-Ok.ensures

pub returns-in-Err-Broken-clause-only : goal.returns-in-Err-Broken-clause-only
returns-in-Err-Broken-clause-only c = λ t. err_only (component c.args.tag (length c.args.bytes.now)) c.args.bytes.now
    c.in-Err-Broken.at t (rw c.in-Err-Broken.field-0-is at c.in-Err-Broken.ensures)

pub returns-in-Err-Broken-clause-refused : goal.returns-in-Err-Broken-clause-refused
returns-in-Err-Broken-clause-refused c =
    err_refused (component c.args.tag (length c.args.bytes.now)) c.args.bytes.now c.in-Err-Broken.at
    (refusal c.args.file.now 106) c.refused.result (rw c.in-Err-Broken.field-0-is at c.in-Err-Broken.ensures)
    c.refused.ensures

pub returns-in-Err-Broken-clause-breaks : goal.returns-in-Err-Broken-clause-breaks
returns-in-Err-Broken-clause-breaks c = λ k.
    err_breaks (component c.args.tag (length c.args.bytes.now)) c.args.bytes.now c.in-Err-Broken.at k
    (refusal c.args.file.now 106) c.refused.result (rw c.in-Err-Broken.field-0-is at c.in-Err-Broken.ensures)
    c.refused.ensures
