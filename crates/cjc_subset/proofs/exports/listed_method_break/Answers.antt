use Rattle.std.proofs.Common.{List, ℕ, ap, ◌∙◌}
use Rattle.cjc_subset.specs.Exports.{is_of_objects, is_unfit_listed}
use Rattle.cjc_bytes.proofs.Firsts.{at_same}
use Rattle.cjc_subset.proofs.exports.listed_method_break.Goals as goal

pub returns : goal.returns
returns c = λ f n e.
    let class = c.args.class.now in
    let flags = c.args.method.now.flags in
    let name = c.items-name.ensures in
    at_same 304 _
    (c.is_unfit_listed-unfit.ensures
    ∙ ap (λ b. is_unfit_listed b flags c.items-name.result.now) c.is_of_objects.ensures
    ∙ ap (λ (x : List ℕ). is_unfit_listed (is_of_objects class x) flags x) name)
    (c.listed_spot-spot.ensures f n e) c.broken.ensures
