-- Offsets of methods by their codes and layouts.
use Rattle.std.specs.Prelude.{ℕ, ◌+◌, List, [], ◌∷◌, length}
use Rattle.cjc_pool.specs.NCode.declared.narrow.NMethod.{NMethod}
use Rattle.cjc_pool.specs.Emit.Emitted.{header_bytes}
use Rattle.cjc_methods.specs.declared.layouts.laid.Laid.{Laid}

-- how many handlers are written
abbrev pub handlers_of : Laid → ℕ
handlers_of l = let layout = l.layout in length layout.handlers

-- the bytes of a method
abbrev pub size_of : NMethod → Laid → ℕ
size_of code l = let layout = l.layout in length (header_bytes code) + layout.length

-- one behind the other
abbrev pub offsets_from : (at : ℕ) → List NMethod → List Laid → List ℕ
offsets_from at [] laid = []
offsets_from at (c ∷ codes) [] = []
offsets_from at (c ∷ codes) (l ∷ laid) = at ∷ offsets_from (at + size_of c l) codes laid
