use Rattle.std.proofs.Common.{refl, sym, ap, ◌∙◌}
use Rattle.cjc_types.specs.Flow.{body_of}
use Rattle.cjc_narrow.specs.Rows.Resolved.{argument_words}
use Rattle.cjc_narrow.specs.Rows.Selected.{near_fields}
use Rattle.cjc_narrow.proofs.PairsLaws.Open.{fuses_all}
use Rattle.cjc_narrow.proofs.SelectLaws.Whole.{selected_whole}
use Rattle.cjc_narrow.proofs.select.method.select.Goals as goal

pub returns-clause-code : goal.returns-clause-code
returns-clause-code c =
    let method = c.args.method.now in
    let b = body_of c.args.class.now method c.args.code.now c.args.insns.now in
    selected_whole c.args.world.now (near_fields c.args.pool.now) c.args.class.now method c.args.code.now
    c.args.insns.now c.args.reaches.now _ _ _ _
    c.items-holder.ensures (c.in_ok-nargs.ensures ∙ ap (argument_words method.flags) c.items-desc.ensures)
    (c.items-each.ensures ∙ c.in_ok-roles.ensures.roles b refl refl refl (sym c.requires.marks))
    c.in_ok-narrow.ensures

pub returns-clause-pairs : goal.returns-clause-pairs
returns-clause-pairs c = fuses_all _
