use Rattle.std.proofs.Common.{ℕ, length, ◌++◌, sym, ap, subst, ◌∙◌}
use Rattle.std.specs.Prelude.{All}
use Rattle.cjc_world.specs.Classes.{numbered, of_export_file}
use Rattle.cjc_world.specs.Working.Spots.{Grows, IsCounted, spots_from}
use Rattle.cjc_world.proofs.Indexing.{got_some, got_none, grows_not, grows_export}
use Rattle.cjc_world.proofs.spot.put_export.Goals as goal

pub returns-in_ok-put_each : goal.returns-in_ok-put_each
returns-in_ok-put_each c = λ classes.
    let t = c.in-Some.tree.now in
    let old = c.args.spots.now.items in
    let counted : (n : ℕ) → All IsCounted (numbered n t.classes) = subst (λ cs. (n : ℕ) → All IsCounted (numbered n cs))
    c.items-in-Some.ensures (c.are_counted.ensures c.if-not-are_counted.false) in
    subst (λ o. Grows classes c.args.exports.now old c.put_each.new.spots.items (of_export_file c.args.number o))
    (got_some c.args.exports.now c.args.place c.in-Some.tree.now c.in-Some.ensures.lookup.3.0
    c.in-Some.ensures.lookup.1)
    (subst (λ new. Grows classes c.args.exports.now old new (numbered c.args.number t.classes))
    (sym (c.in_ok-put_each.ensures ∙ ap (λ cs. old ++ spots_from c.args.place c.args.number 0 (length cs))
    c.items-in-Some-2.ensures))
    (grows_export classes c.args.exports.now old c.args.place c.args.number t (got_some c.args.exports.now c.args.place
    c.in-Some.tree.now c.in-Some.ensures.lookup.3.0 c.in-Some.ensures.lookup.1) counted))

pub returns-in_default : goal.returns-in_default
returns-in_default c = λ classes.
    subst (λ o. Grows classes c.args.exports.now c.args.spots.now.items c.args.spots.now.items
    (of_export_file c.args.number o)) (got_none c.args.exports.now c.args.place c.in_default.ensures.lookup.3)
    (grows_not classes c.args.exports.now c.args.spots.now.items)
