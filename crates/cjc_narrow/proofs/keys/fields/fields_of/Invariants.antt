use Rattle.std.proofs.Common.{◌≡◌, take}
use Rattle.std.specs.List.{flat_map}
use Rattle.cjc_narrow.specs.Keys.Index.{field_of}
use Rattle.cjc_narrow.proofs.keys.fields.fields_of.Given as goal

abbrev pub invariant-loop-key : goal.invariant-loop-key
invariant-loop-key l = l.fields ≡ flat_map field_of (take l.key-index l.keys)
