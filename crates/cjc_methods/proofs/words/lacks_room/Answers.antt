use Rattle.std.proofs.Common.{sym, ap, ◌∙◌}
use Rattle.std.specs.Prelude.{◌&&◌}
use Rattle.cjc_narrow.specs.Types.Flow.{body_of}
use Rattle.cjc_int_mode.specs.declared.modes.Mode.{Mode}
use Rattle.cjc_int_package.specs.Limits.{lacks_room}
use Rattle.cjc_int_package.specs.Modes.{is_int}
use Rattle.cjc_methods.specs.Ready.{states}
use Rattle.cjc_methods.proofs.Lacking.{lacks_told}
use Rattle.cjc_methods.proofs.words.lacks_room.Goals as goal

pub returns-in-Short : goal.returns-in-Short
returns-in-Short c = λ k m t of.
    sym (ap (λ (x : Mode). is_int x && lacks_room (body_of k m t c.args.code.now.insns) (states c.args.code.now k m t
    c.args.types.now)) c.in-Short.is)

pub returns-in_ok-has_room-in-Int : goal.returns-in_ok-has_room-in-Int
returns-in_ok-has_room-in-Int c = λ k m t of.
    let b = body_of k m t c.args.code.now.insns in
    let rows = states c.args.code.now k m t c.args.types.now in
    lacks_told b rows c.in_ok-has_room-in-Int.has_room (c.in_ok-has_room-in-Int.ensures k m t of)
    ∙ sym (ap (λ (x : Mode). is_int x && lacks_room b rows) c.in-Int.is)
