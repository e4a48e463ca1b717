use Rattle.std.proofs.Common.{◌≡◌, ◌∙◌, subst, IfOk}
use Rattle.std.specs.Prelude.{option_map}
use Rattle.cjc_bytes.specs.Told.{break_of}
use Rattle.cjc_pairing.specs.CheckIndex.Lookup.Parts.{complete_of}
use Rattle.cjc_verify.proofs.Made.{loaded_kept, same_pair}
use Rattle.cjc_verify.specs.Pairs.{Pair}
use Rattle.cjc_verify.specs.Verified.{Breaks}
use Rattle.cjc_verify.specs.Working.Firsts.{IsFirstWhere}
use Rattle.cjc_verify.proofs.checker.break_of_made.Goals as goal

pub break_by-requires-clause-tables : goal.break_by-requires-clause-tables
break_by-requires-clause-tables c =
    loaded_kept (complete_of c.args.parts.now) c.in_ok-tables.tables c.args.made.now _ c.items.result.now
    c.items-2.result.now c.items-3.result.now _ c.in_ok-tables.ensures.of
    (c.part_of-part.ensures.alone c.items-3.result.now) c.items.ensures c.items-2.ensures (c.items-3.ensures
    ∙ c.exports.ensures)

pub returns : goal.returns
returns c = λ applets is.
    let loaded = loaded_kept (complete_of c.args.parts.now) c.in_ok-tables.tables c.args.made.now _ c.items.result.now
    c.items-2.result.now c.items-3.result.now _ c.in_ok-tables.ensures.of
    (c.part_of-part.ensures.alone c.items-3.result.now) c.items.ensures c.items-2.ensures (c.items-3.ensures
    ∙ c.exports.ensures) in
    subst (λ (p : Pair). IfOk c.break_by.result (λ b. IsFirstWhere (Breaks p) (option_map break_of b)))
    (same_pair applets c.args.world.now c.args.tokens.now c.args.image.now c.args.parts.now c.in_ok-tables.tables
    c.args.made.now is c.requires.made loaded) c.break_by.ensures
