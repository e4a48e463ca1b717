use Rattle.std.proofs.Common.{◌++◌, ◌∷◌, [], sym, ap, ◌∙◌, append_assoc}
use Rattle.std.proofs.lemmas.Result.{on_ok_weaker}
use Rattle.cjc_int_mode.specs.CapRead.Card as card
use Rattle.cjc_ncode.specs.declared.narrow.NInsn.TheVariants.{Op}
use Rattle.cjc_ncode.specs.Written.{written as written_short}
use Rattle.cjc_narrow.specs.Written.Labels.{place_of}
use Rattle.cjc_int_narrow.proofs.Puts.{wide_fits, wide_written}
use Rattle.cjc_int_narrow.proofs.put.put_wide.Goals as goal

pub put_plain-requires : goal.put_plain-requires
put_plain-requires c = let fits = wide_fits c.args.op.now c.requires in fits.1

pub returns : goal.returns
returns c = λ f r b here.
    let op = c.args.op.now in
    let p = place_of c.args.places.now in
    let fits = wide_fits op c.requires in
    on_ok_weaker c.push.result (
    λ more. more ∙ ap (λ front. front ++ Op card.s2i ∷ []) (c.in_ok-put_plain.ensures r fits.0)
    ∙ append_assoc c.args.out.now (written_short r p op) (Op card.s2i ∷ [])
    ∙ ap (λ code. c.args.out.now ++ code) (sym (wide_written f r p b here op c.requires))
    ) c.push.ensures.ok
