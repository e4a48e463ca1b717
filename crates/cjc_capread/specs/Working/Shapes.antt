-- By the shape of an opcode its length and the place of its index, as the code's table has them.
use Rattle.std.specs.Prelude.{ℕ, Option, Some, None}
use Rattle.cjc_capread.specs.declared.opcode.OpInfo.{OpInfo}
use Rattle.cjc_capread.specs.declared.opcode.Shape.{Shape}
use Rattle.cjc_capread.specs.declared.opcode.Shape.TheVariants.{NoOp, Switch, Bare, Bytes1, Bytes2, Bytes3, Bytes4}
use Rattle.cjc_capread.specs.declared.opcode.Shape.TheVariants.{Index1, Index2, Typed, Call}

-- an opcode of this length, with its index there
abbrev pub of_three : ℕ → ℕ → ℕ → Option OpInfo
of_three length at bytes = Some (record { length = length; index_at = at; index_bytes = bytes })

-- what a shape says of an instruction
abbrev pub shape_info : Shape → Option OpInfo
shape_info NoOp = None
shape_info Switch = of_three 0 0 0
shape_info Bare = of_three 1 0 0
shape_info Bytes1 = of_three 2 0 0
shape_info Bytes2 = of_three 3 0 0
shape_info Bytes3 = of_three 4 0 0
shape_info Bytes4 = of_three 5 0 0
shape_info Index1 = of_three 2 1 1
shape_info Index2 = of_three 3 1 2
shape_info Typed = of_three 4 2 2
shape_info Call = of_three 5 2 2
