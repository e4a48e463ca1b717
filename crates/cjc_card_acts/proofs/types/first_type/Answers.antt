use Rattle.std.proofs.Common.{List, ℕ, ◌-◌, Option, ap, drop, length, option_map, sym, take, ◌∙◌}
use Rattle.cjc_card_acts.specs.CardTypes.{onto, types_in}
use Rattle.cjc_card_acts.specs.Told.{type_told}
use Rattle.cjc_card_acts.specs.declared.types.ValueType.{ValueType}
use Rattle.cjc_card_acts.proofs.Nibbles.{nibble_shorter, one_nibble}
use Rattle.cjc_card_acts.proofs.types.first_type.Goals as goal

pub returns-in-Some : goal.returns-in-Some
returns-in-Some c =
    let xs = c.args.nibbles.now in (
      one_nibble xs c.by_nibble.result c.in-len1-up.len_at_least (sym c.if-has_class.ensures) c.by_nibble.ensures
          ∙ ap (λ (o : Option ValueType). onto (option_map type_told o) (types_in (take (length xs - 1) (drop 1 xs))))
          c.in-Some.is,
      nibble_shorter xs c.in-len1-up.len_at_least,
    )

pub returns-in-None : goal.returns-in-None
returns-in-None c =
    let xs = c.args.nibbles.now in
    one_nibble xs c.by_nibble.result c.in-len1-up.len_at_least (sym c.if-has_class.ensures) c.by_nibble.ensures
    ∙ ap (λ (o : Option ValueType). onto (option_map type_told o) (types_in (take (length xs - 1) (drop 1 xs))))
    c.in-None.is
