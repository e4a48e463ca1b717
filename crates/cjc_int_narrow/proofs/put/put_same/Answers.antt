use Rattle.std.proofs.Common.{◌++◌, sym, ap, ◌∙◌}
use Rattle.std.proofs.lemmas.Result.{on_ok_weaker}
use Rattle.cjc_narrow.specs.Written.Labels.{place_of}
use Rattle.cjc_int_narrow.proofs.Puts.{same_fits, same_written}
use Rattle.cjc_int_narrow.proofs.put.put_same.Goals as goal

pub put_plain-requires : goal.put_plain-requires
put_plain-requires c = let fits = same_fits c.args.op.now c.requires in fits.1

pub returns : goal.returns
returns c = λ f r b here.
    let fits = same_fits c.args.op.now c.requires in
    on_ok_weaker c.put_plain.result (
    λ more. more ∙ ap (λ code. c.args.out.now ++ code) (sym (same_written f r (place_of c.args.places.now) b here
    c.args.op.now c.requires))
    ) (c.put_plain.ensures r fits.0)
