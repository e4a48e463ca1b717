-- The types of Descriptor with where they begin.
use Rattle.std.specs.Prelude.{◌≡◌, ◌+◌, ◌*◌, length}
use Rattle.cjc_check_rules.specs.Complete.{type_size}
use Rattle.cjc_check_rules.specs.Spots.{starts}
use Rattle.cjc_verify.specs.declared.described.types.Types.{Types}

-- the starts are those of the types
abbrev pub AreTypes : Types → Type 0
AreTypes t = let d = t.descriptor.now in t.starts.now ≡ starts type_size (2 + 2 * length d.pool_types) d.types
