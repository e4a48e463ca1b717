-- The places that are marked so far, as a test of each.
use Rattle.std.specs.Prelude.{ℕ, Bool, true, false, List, [], ◌∷◌, length, replicate, slice_set, Option, Some, None}
use Rattle.cjc_classfile.specs.declared.tree.Catch.{Catch}
use Rattle.cjc_code.specs.declared.insn.JInsn.{JInsn}
use Rattle.cjc_types.specs.Steps.{targets}
use Rattle.cjc_types.specs.Flow.{Body, place_at}

-- the place is marked too, if there is one
abbrev pub with_mark : List Bool → Option ℕ → List Bool
with_mark marked None = marked
with_mark marked (Some place) = slice_set marked place true

-- the places at these offsets are marked too
abbrev pub with_offsets : List JInsn → List Bool → (offsets : List ℕ) → List Bool
with_offsets insns marked [] = marked
with_offsets insns marked (offset ∷ offsets) = with_offsets insns (with_mark marked (place_at insns offset)) offsets

-- so are those to which some of these instructions jump
abbrev pub with_jumps : List JInsn → List Bool → List JInsn → List Bool
with_jumps insns marked [] = marked
with_jumps insns marked (i ∷ more) = with_jumps insns (with_offsets insns marked (targets i.op)) more

-- so are those of handlers
abbrev pub with_handlers : List JInsn → List Bool → List Catch → List Bool
with_handlers insns marked [] = marked
with_handlers insns marked (c ∷ more) = with_handlers insns (with_mark marked (place_at insns c.target)) more

-- the first place is marked, and each to which a jump, a switch or a handler of the method leads
abbrev pub with_all : Body → List Bool
with_all b = with_handlers b.insns (with_jumps b.insns (with_mark (replicate (length b.insns) false) (Some 0)) b.insns)
    b.catches
