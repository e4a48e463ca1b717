use Rattle.std.proofs.Common.{sym, subst, true, IfOk}
use Rattle.cjc_flow.specs.LowerTypes.Tables.{rows_of}
use Rattle.cjc_int_mode.specs.declared.modes.Mode.{Mode}
use Rattle.cjc_int_mode.specs.Room.{IsRoom}
use Rattle.cjc_int_mode.proofs.Places.{too_many, short_room}
use Rattle.cjc_int_mode.proofs.space.has_room.Goals as goal

pub returns-then-words-gt255 : goal.returns-then-words-gt255
returns-then-words-gt255 c = too_many c.args.method.now (rows_of c.args.method.now c.args.types.now) c.args.mode
    c.in_ok-words.words (c.in_ok-words.ensures.words c.args.method.now (sym c.flags.ensures) (sym c.desc.ensures))
    c.if-words-gt255.true

pub has_int_room-requires-clause-words : goal.has_int_room-requires-clause-words
has_int_room-requires-clause-words c = c.in_ok-words.ensures.words c.args.method.now (sym c.flags.ensures)
    (sym c.desc.ensures)

pub returns-in-Short : goal.returns-in-Short
returns-in-Short c =
    let rows = rows_of c.args.method.now c.args.types.now in
    subst (λ (mode : Mode). IsRoom c.args.method.now rows mode true) (sym c.in-Short.is)
    (short_room c.args.method.now rows c.in_ok-words.words (c.in_ok-words.ensures.words c.args.method.now
    (sym c.flags.ensures) (sym c.desc.ensures)) c.if-words-gt255.false)

pub returns-in-Int : goal.returns-in-Int
returns-in-Int c =
    let rows = rows_of c.args.method.now c.args.types.now in
    subst (λ (mode : Mode). IfOk c.has_int_room.result (IsRoom c.args.method.now rows mode)) (sym c.in-Int.is)
    c.has_int_room.ensures
