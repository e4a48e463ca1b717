use Rattle.std.proofs.Common.{Some, ap, refl}
use Rattle.cjc_cmd_link.proofs.Parts.{first_refused}
use Rattle.cjc_cmd_link.specs.Working.{passes, stops}
use Rattle.cjc_cmd_link.proofs.members.test_next.Goals as goal

pub returns-in_ok-put_tested-in-Ok : goal.returns-in_ok-put_tested-in-Ok
returns-in_ok-put_tested-in-Ok c =
    passes c.in-Ok.tested c.in-Ok.image c.in-Ok.ensures.made c.in_ok-put_tested-in-Ok.ensures.members
    c.in_ok-put_tested-in-Ok.ensures.images refl

pub returns-in-Err-Refused : goal.returns-in-Err-Refused
returns-in-Err-Refused c =
    stops c.in-Err-Refused.second (first_refused _ c.in-Err-Refused.second c.in-Err-Refused.field-0-is
    c.in-Err-Refused.ensures.refused) (ap (λ r. Some r) c.earlier.ensures)
