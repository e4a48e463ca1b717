use Rattle.std.proofs.Common.{◌≡◌, ap, subst, sym, rules}
use Rattle.cjc_classfile.specs.Code.{CodeTree}
use Rattle.cjc_first.specs.Tests.{HasPlainFrame, HasSum}
use Rattle.cjc_first.proofs.Forms.{sum_code, sum_of}
use Rattle.cjc_first.proofs.form.is_sum_code.Goals as goal

pub returns : goal.returns
returns c =
    let plain : HasPlainFrame c.args.params c.args.code.now = c.has_plain_frame.ensures.0 (search rules) in
    let room : c.code.inside.max_stack ≡ c.args.code.now.max_stack = ap (λ (k : CodeTree). k.max_stack) c.code.view_is in (
      λ yes. sum_code _ _ _ plain (subst (λ n. HasSum c.args.params n c.args.insns.now) room (c.has_sum.ensures.0 yes)),
      λ h. c.has_sum.ensures.1 (subst (λ n. HasSum c.args.params n c.args.insns.now) (sym room) (sum_of _ _ _ h)),
    )
