use Rattle.std.proofs.Common.{◌≡◌, ℕ, ◌∙◌, ◌++◌, ap, sym, subst, length}
use Rattle.std.specs.Prelude.{replicate, OnOk}
use Rattle.cjc_ncode.specs.IntCode.IntCode.{written}
use Rattle.cjc_narrow.specs.Written.Labels.{place_of}
use Rattle.cjc_narrow.specs.Select.Working.Names.{resolution_of}
use Rattle.cjc_int_narrow.specs.Reached.{known}
use Rattle.cjc_int_narrow.proofs.Walks.{times_of}
use Rattle.cjc_int_narrow.proofs.code.put_reached.Goals as goal

pub returns-clause-from : goal.returns-clause-from
returns-clause-from c =
    let f = c.args.frame.now in
    let r = resolution_of c.args.names.now in
    let p = place_of c.args.places.now in
    let b = c.args.before.now in
    let op = c.args.op.now in
    let here = length c.args.out.now in
    let grown = c.items.ensures ∙ c.in_ok-put.ensures ∙ ap (λ front. front ++ written f r p (known b) here op)
    (sym c.items-first.ensures) in
    let P : ℕ → Type 0 = λ n. OnOk c.put_source.result (c.put_source.new.from ≡ c.args.from.now
    ++ replicate n c.args.place) in
    subst P (times_of f r p b here op c.items-first.result.now c.items.result.now grown) c.put_source.ensures
