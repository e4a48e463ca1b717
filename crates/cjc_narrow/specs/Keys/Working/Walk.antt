-- Which keys the walk over narrow code adds, operands before catch types, instance fields apart from the
-- others.
use Rattle.std.specs.Prelude.{List, [], ◌∷◌, ◌++◌, filter, flat_map, Bool, true, false, not}
use Rattle.cjc_ncode.specs.declared.narrow.NCatch.{NCatch}
use Rattle.cjc_ncode.specs.declared.narrow.PoolKey.{PoolKey}
use Rattle.cjc_ncode.specs.PoolOrder.{class_key, is_field}

-- the instance fields, or the other keys
abbrev pub is_wanted : (fields : Bool) → PoolKey → Bool
is_wanted true key = is_field key
is_wanted false key = not (is_field key)

-- those of the keys of an item
abbrev pub wanted : {A : Type 0} → (fields : Bool) → (A → List PoolKey) → A → List PoolKey
wanted fields keys x = filter (is_wanted fields) (keys x)

-- the catch type of a handler
abbrev pub catch_keys : NCatch → List PoolKey
catch_keys c = class_key c.class
