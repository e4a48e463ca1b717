-- The marked places of a method: the first instruction, and each place to which a jump, a switch or a handler leads,
-- whether it is reached or not.
use Rattle.std.specs.Prelude.{ℕ, Bool, false, ◌==◌, ◌||◌, List, length, filter, Option, Some, None}
use Rattle.std.specs.List.{list_any, range_with_len}
use Rattle.cjc_classfile.specs.declared.tree.Catch.{Catch}
use Rattle.cjc_code.specs.declared.insn.JInsn.{JInsn}
use Rattle.cjc_types.specs.Steps.{targets}
use Rattle.cjc_types.specs.Flow.{Body, place_at}

-- whether there is a place and it is this one
abbrev pub is_place : Option ℕ → (at : ℕ) → Bool
is_place None at = false
is_place (Some place) at = place == at

-- whether one of the offsets is that of the place
abbrev pub leads_to : List JInsn → (offsets : List ℕ) → (at : ℕ) → Bool
leads_to insns offsets at = list_any (λ offset. is_place (place_at insns offset) at) offsets

-- whether some jump or switch leads to the place
abbrev pub is_jumped_to : Body → (at : ℕ) → Bool
is_jumped_to b at = list_any (λ (i : JInsn). leads_to b.insns (targets i.op) at) b.insns

-- whether some handler begins at the place
abbrev pub is_handler : Body → (at : ℕ) → Bool
is_handler b at = list_any (λ (c : Catch). is_place (place_at b.insns c.target) at) b.catches

-- whether the place is the first, or some jump, switch or handler leads to it
abbrev pub is_marked : Body → (at : ℕ) → Bool
is_marked b at = (at == 0) || (is_jumped_to b at || is_handler b at)

-- the marked places, in ascending order
abbrev pub marks_of : Body → List ℕ
marks_of b = filter (is_marked b) (range_with_len 0 (length b.insns))
