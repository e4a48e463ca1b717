use Rattle.cjc_convert.proofs.Decoding.{found_by, unfit_by}
use Rattle.cjc_convert.proofs.reading.decode_method.Goals as goal

pub returns-else-refusal-eq303 : goal.returns-else-refusal-eq303
returns-else-refusal-eq303 c =
    let refused = rw c.in-Err-Refused.field-0-is at c.in-Err-Refused.ensures.refused in
    unfit_by c.args.file.now c.args.class.now c.args.method c.in-Err-Refused.refusal c.if-refusal-eq303.false (found_by c.args.file.now c.args.class.now c.args.method c.in-Err-Refused.refusal refused)
