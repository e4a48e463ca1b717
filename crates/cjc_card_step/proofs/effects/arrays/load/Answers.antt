use Rattle.cjc_card_step.proofs.effects.arrays.load.Goals as goal

pub returns-in_ok-load_reference-in-Reference : goal.returns-in_ok-load_reference-in-Reference
returns-in_ok-load_reference-in-Reference c = rw c.in-Reference.is c.in_ok-load_reference-in-Reference.ensures

pub returns-in_ok-load_number-in-Byte : goal.returns-in_ok-load_number-in-Byte
returns-in_ok-load_number-in-Byte c = rw c.in-Byte.is c.in_ok-load_number-in-Byte.ensures

pub returns-in_ok-load_number-in-Short : goal.returns-in_ok-load_number-in-Short
returns-in_ok-load_number-in-Short c = rw c.in-Short.is c.in_ok-load_number-in-Short.ensures

pub returns-in_ok-load_number-in-Int : goal.returns-in_ok-load_number-in-Int
returns-in_ok-load_number-in-Int c = rw c.in-Int.is c.in_ok-load_number-in-Int.ensures
