use Rattle.cjc_judge.proofs.Decoding.{unfit_by}
use Rattle.cjc_judge.proofs.reading.decode_method.Goals as goal

pub returns-in_ok-refusal_of-in-Err-Broken : goal.returns-in_ok-refusal_of-in-Err-Broken
returns-in_ok-refusal_of-in-Err-Broken c =
    let answered = rw c.in-Err-Broken.field-0-is at c.in-Err-Broken.ensures in
    unfit_by c.args.file.now c.args.class.now c.args.method c.in-Err-Broken.broken
    c.in_ok-refusal_of-in-Err-Broken.field-0 answered c.if-broken-eq303.false
    c.in_ok-refusal_of-in-Err-Broken.ensures
