-- The component Method as bytes (Java Card Virtual Machine Specification 2.2.2, section 6.9): what the writer
-- is proved to write.
use Rattle.std.specs.Prelude.{ℕ, ◌+◌, ◌%◌, List, ◌++◌, length, if◌then◌else◌}
use Rattle.std.specs.List.{flat_map}
use Rattle.cjc_capread.specs.declared.tree.Method.{Method}
use Rattle.cjc_capread.specs.declared.tree.Handler.{Handler}
use Rattle.cjc_capwrite.specs.Parts.{one, two}

-- the length of a range, with the high bit where the search stops there
abbrev pub range_bits : Handler → ℕ
range_bits x = (if x.stop then 0x8000 else 0) + x.length % 0x8000

-- a handler (section 6.9.1)
unfoldable pub handler_bytes : Handler → List ℕ
handler_bytes x = two x.start ++ (two (range_bits x) ++ (two x.handler ++ two x.catch_index))

-- the info of Method: the handlers and the bytes of the methods (section 6.9)
unfoldable pub method_bytes : Method → List ℕ
method_bytes x = one (length x.handlers) ++ (flat_map handler_bytes x.handlers ++ x.methods)
