use Rattle.std.proofs.Common.{sym, ap, ◌∙◌}
use Rattle.cjc_narrow.specs.Rows.Selected.{near_fields}
use Rattle.cjc_int_mode.specs.declared.modes.Mode.{Mode}
use Rattle.cjc_methods.specs.Ready.{states}
use Rattle.cjc_methods.specs.Working.ByMode.{selected_by}
use Rattle.cjc_bytes.proofs.Options.{if_more}
use Rattle.cjc_methods.proofs.selecting.selected.Goals as goal

pub selected_in_short_mode-requires-clause-free : goal.selected_in_short_mode-requires-clause-free
selected_in_short_mode-requires-clause-free c = c.requires.free c.in-Short.is

pub selected_in_int_mode-requires-clause-room : goal.selected_in_int_mode-requires-clause-room
selected_in_int_mode-requires-clause-room c = c.requires.room c.in-Int.is

pub returns-in-Short : goal.returns-in-Short
returns-in-Short c = λ k m t of ranges least.
    if_more (λ n e. e ∙ ap (λ (x : Mode). selected_by x c.args.world.now (near_fields c.args.pool.now) c.args.code.now
    k m t (states c.args.code.now k m t c.args.types.now) ranges) (sym c.in-Short.is))
    c.selected_in_short_mode.result (c.selected_in_short_mode.ensures k m t of)

pub returns-in-Int : goal.returns-in-Int
returns-in-Int c = λ k m t of ranges least.
    if_more (λ n e. e ∙ ap (λ (x : Mode). selected_by x c.args.world.now (near_fields c.args.pool.now) c.args.code.now
    k m t (states c.args.code.now k m t c.args.types.now) ranges) (sym c.in-Int.is))
    c.selected_in_int_mode.result (c.selected_in_int_mode.ensures k m t of ranges least)
