use Rattle.std.proofs.Common.{◌∙◌, sym}
use Rattle.std.specs.Prelude.{option_map}
use Rattle.cjc_tokens.specs.Slots.{holds, token}
use Rattle.cjc_tokens.specs.Working.{signature_in}
use Rattle.cjc_world.proofs.Places.{position_of_map}
use Rattle.cjc_tokens.proofs.slot.token.Goals as goal

pub returns : goal.returns
unfolding token
returns c = c.slot_place.ensures
    ∙ sym (position_of_map (λ slot. holds slot (record { name = c.args.name.now; desc = c.args.desc.now }))
    (option_map signature_in) c.args.row.now)
