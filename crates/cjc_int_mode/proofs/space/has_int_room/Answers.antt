use Rattle.std.proofs.Common.{◌≡◌, ◌+◌, ◌*◌, ◌<◌, ◌≤◌, leb, Some, refl, sym, ap, ◌∙◌, arith}
use Rattle.cjc_flow.specs.LowerTypes.Tables.{rows_of}
use Rattle.cjc_int_mode.proofs.Places.{too_high, not_usable, room_or_not}
use Rattle.cjc_int_mode.proofs.space.has_int_room.Goals as goal

pub returns-then-from-gt255 : goal.returns-then-from-gt255
returns-then-from-gt255 c =
    let high : 255 < 2 * c.args.max_stack + 4 = omega arith in
    too_high c.args.method.now (rows_of c.args.method.now c.args.types.now) c.args.max_stack c.requires.stack high

pub returns-in-None : goal.returns-in-None
returns-in-None c = not_usable c.args.method.now (rows_of c.args.method.now c.args.types.now) (sym c.in-None.is
    ∙ c.in_ok-pairs.ensures)

pub returns-in-Some : goal.returns-in-Some
returns-in-Some c =
    let table = c.requires.types.1 in
    let low : 2 * c.args.max_stack + 4 ≤ 255 = omega arith in
    let locals : c.from-in-Some.result ≡ c.args.method.now.max_locals = omega arith in
    let pairs : c.from-in-Some-2.result ≡ c.in-Some.pairs = omega arith in
    room_or_not c.args.method.now (rows_of c.args.method.now c.args.types.now) c.from-in-Some-2.result c.args.words
    c.args.max_stack c.from-in-Some.result (leb (c.args.words + (2 * c.from-in-Some.result + 2 *
    c.from-in-Some-2.result))
    255) (ap Some pairs ∙ sym c.in-Some.is ∙ c.in_ok-pairs.ensures) table.stands.least.closed.sized c.requires.words
    c.requires.few c.requires.stack low locals refl
