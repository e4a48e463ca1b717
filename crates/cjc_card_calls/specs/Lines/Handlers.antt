-- That the offsets of all handlers of a group are counted by 32 bits, as the code holds them.
use Rattle.std.specs.Prelude.{List, [], ◌∷◌, Bool, true, nat_lt, ◌&&◌}
use Rattle.cjc_card_semantics.specs.CapRead.declared.tree.Handler.{Handler}
use Rattle.cjc_card_semantics.specs.Machine.Loaded.{Part, Loaded}

-- 32 bits count the offsets of handlers
abbrev pub are_near : List Handler → Bool
are_near [] = true
are_near (h ∷ handlers) = nat_lt h.handler 0x100000000 && are_near handlers

-- those of packages
abbrev pub are_parts_near : List Part → Bool
are_parts_near [] = true
are_parts_near (part ∷ parts) = let m = part.method in are_near m.handlers && are_parts_near parts

-- those of a group
abbrev pub are_all_near : Loaded → Bool
are_all_near l = are_parts_near l.parts
