use Rattle.std.proofs.Common.{sym, ap, ◌∙◌, subst, IfOk}
use Rattle.cjc_flow.specs.World.Classes.{all_classes}
use Rattle.cjc_flow.specs.LowerTypes.Flow.{Body}
use Rattle.cjc_flow.specs.LowerTypes.Tables.{IsTypeTable, rows_of}
use Rattle.cjc_int_mode.specs.Room.{IsRoom}
use Rattle.cjc_int_mode.proofs.space.room.Goals as goal

pub has_room-requires-clause-types : goal.has_room-requires-clause-types
has_room-requires-clause-types c =
    let of = c.requires.code in (
      all_classes c.args.world.now,
      subst (λ (b : Body). IsTypeTable (all_classes c.args.world.now) b c.args.types.now)
          (sym (c.new-method.ensures of.0 of.1 of.2 of.3)) (c.requires.types of.0 of.1 of.2 of.3),
    )

pub has_room-requires-clause-stack : goal.has_room-requires-clause-stack
has_room-requires-clause-stack c =
    let of = c.requires.code in
    c.max_stack.ensures of.0 of.1 of.2 of.3 ∙ sym (ap (λ (b : Body). b.max_stack) (c.new-method.ensures of.0 of.1 of.2
    of.3))

pub returns : goal.returns
returns c = λ k m t of. subst (λ (b : Body). IfOk c.has_room.result (IsRoom b (rows_of b c.args.types.now) c.args.mode))
    (c.new-method.ensures k m t of) c.has_room.ensures
