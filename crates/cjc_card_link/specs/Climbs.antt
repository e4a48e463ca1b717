-- Going upwards: what is met so far, and what is still met.
use Rattle.std.specs.Prelude.{◌≡◌, ℕ, List, ◌++◌, map, reverse}
use Rattle.cjc_card_semantics.specs.Machine.Loaded.{Loaded}
use Rattle.cjc_card_semantics.specs.Machine.Classes.{Class, closure, is_in, supers}
use Rattle.cjc_card_frame.specs.Objects.{class_of}
use Rattle.cjc_card_link.specs.declared.supers.Climb.{Climb}
use Rattle.cjc_card_link.specs.MetClasses.{is_met}

-- Those that were met are those of the line.
abbrev pub AreMet : Climb → Type 0
AreMet c = (x : Class) → is_met c.met x ≡ is_in x (reverse (map class_of c.line.items))

-- the line, and what so many more steps put at its end
abbrev pub climbed : Loaded → (steps : ℕ) → Climb → List Class
climbed l n c = map class_of c.line.items ++ closure (supers l) n (reverse (map class_of c.line.items))
    (map class_of c.left)
