-- Methods made by hand as they are written in int mode: where their instructions come from is left out.
use Rattle.std.specs.Prelude.{[]}
use Rattle.cjc_ncode.specs.IntCode.IntCode.{int_method}
use Rattle.cjc_ncode.specs.IntCode.Worked.{code, element, element_frame, is_less, is_less_frame, loop, loop_frame}
use Rattle.cjc_ncode.specs.WorkedCode.{resolution}
use Rattle.cjc_ncode.specs.declared.narrow.NMethod.{NMethod}

-- whether a short and 1 are less than 10
abbrev pub comparison : NMethod
comparison = int_method is_less_frame resolution (code 2 1) is_less []

-- an element of a byte array at an int, whose index has its guard
abbrev pub element_read : NMethod
element_read = int_method element_frame resolution (code 2 2) element []

-- a loop over a byte array up to a short
abbrev pub array_loop : NMethod
array_loop = int_method loop_frame resolution (code 2 3) loop []
