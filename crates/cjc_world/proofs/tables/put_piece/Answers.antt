use Rattle.std.proofs.Common.{[], ◌∷◌, ◌++◌, sym, ap, ◌∙◌}
use Rattle.std.specs.Prelude.{slice_get, if◌then◌else◌}
use Rattle.cjc_world.specs.Working.Places.{joined}
use Rattle.cjc_world.specs.Working.Tables.{piece, row_at}
use Rattle.cjc_world.proofs.Joined.{joined-append, joined-nil}
use Rattle.cjc_world.proofs.tables.put_piece.Goals as goal

pub returns-in_ok-put : goal.returns-in_ok-put
returns-in_ok-put c =
    let old = c.args.places.now in
    let p = c.in-Some.place in
    let row = row_at c.args.order (slice_get c.args.rows.now p) in
    c.in_ok-put.ensures ∙ ap (λ v. joined v (p ∷ [])) (c.in_ok-join.ensures ∙ ap (joined old) c.row_at.ensures)
    ∙ sym (joined-append old row (p ∷ []))
    ∙ ap (λ b. joined old (row ++ (if b then p ∷ [] else []))) (sym c.if-listed.true)
    ∙ ap (λ o. joined old (piece c.args.order c.args.listed c.args.rows.now o)) (sym c.in-Some.is)

pub returns-in_default : goal.returns-in_default
returns-in_default c = sym (joined-nil c.args.places.now)
    ∙ ap (λ o. joined c.args.places.now (piece c.args.order c.args.listed c.args.rows.now o)) (sym c.in_default.is)
