use Rattle.std.proofs.Common.{◌≡◌, ℕ, ◌∙◌, ◌++◌, ap, sym, subst}
use Rattle.std.specs.Prelude.{replicate, OnOk}
use Rattle.cjc_ncode.specs.Written.{written_as}
use Rattle.cjc_narrow.specs.Written.Labels.{place_of}
use Rattle.cjc_narrow.specs.Select.Working.Names.{resolution_of}
use Rattle.cjc_narrow.proofs.SelectLaws.Walks.{times_of}
use Rattle.cjc_narrow.proofs.select.code.put_reached.Goals as goal

pub returns-clause-from : goal.returns-clause-from
returns-clause-from c =
    let r = resolution_of c.args.names.now in
    let place = place_of c.args.places.now in
    let op = c.args.op.now in
    let grown = c.items.ensures ∙ c.in_ok-put.ensures ∙ ap (λ before. before ++ written_as c.args.role r place op)
    (sym c.items-before.ensures) in
    let P : ℕ → Type 0 = λ n. OnOk c.put_source.result (c.put_source.new.from ≡ c.args.from.now
    ++ replicate n c.args.place) in
    subst P (times_of r place c.args.role op c.items-before.result.now c.items.result.now grown) c.put_source.ensures
