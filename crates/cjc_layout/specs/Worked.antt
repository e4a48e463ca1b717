-- Methods made by hand, with their layouts.
use Rattle.std.specs.Prelude.{ℕ, ◌+◌, ◌++◌, List, [], ◌∷◌, length, Some, None, replicate, Bool, false, pos, codes}
use Rattle.cjc_ncode.specs.declared.narrow.NInsn.{NInsn}
use Rattle.cjc_ncode.specs.declared.narrow.NInsn.TheVariants as narrow
use Rattle.cjc_ncode.specs.declared.narrow.NCatch.{NCatch}
use Rattle.cjc_layout.specs.Sizes.{bytes_before}

-- no jump is wide
abbrev pub none_wide : List NInsn → List Bool
none_wide insns = replicate (length insns) false

-- the offset of a label where no jump is wide
abbrev pub at : List NInsn → (label : ℕ) → ℕ
at insns k = bytes_before insns (none_wide insns) k

-- ---- switches

-- sload_0; slookupswitch with 5, else to the last pair; three numbers that are returned
abbrev pub looks_up : List NInsn
looks_up =
    narrow.Op 0x1C ∷ narrow.Switch 0x75 6 (pos 0) (record { value = pos 5; target = 2 } ∷ [])
    ∷ narrow.Op 0x04 ∷ narrow.Op 0x78 ∷ narrow.Op 0x05 ∷ narrow.Op 0x78 ∷ narrow.Op 0x03 ∷ narrow.Op 0x78 ∷ []

-- a switch of which no case is left: sload_0 pop goto; two numbers that are returned
abbrev pub leaps : List NInsn
leaps = narrow.Op 0x1C ∷ narrow.Op 0x3B ∷ narrow.Jump 0x70 5 ∷ narrow.Op 0x04 ∷ narrow.Op 0x78 ∷ narrow.Op 0x03
    ∷ narrow.Op 0x78 ∷ []

-- each of the four switches with two cases
abbrev pub switch : (op : ℕ) → NInsn
switch op = narrow.Switch op 0 (pos 0) (record { value = pos 0; target = 0 } ∷ record { value = pos 1; target = 0 }
    ∷ [])

-- ---- jumps

-- goto over so many bytes to return
abbrev pub goto_over : ℕ → List NInsn
goto_over n = narrow.Jump 0x70 (n + 1) ∷ (replicate n (narrow.Op 0x00) ++ narrow.Op 0x7A ∷ [])

-- sload_0, ifeq to the end, so many bytes, goto to the start; return
abbrev pub loop_over : ℕ → List NInsn
loop_over n = narrow.Op 0x1C ∷ narrow.Jump 0x60 (n + 3) ∷ (replicate n (narrow.Op 0x00) ++ narrow.Jump 0x70 0
    ∷ narrow.Op 0x7A ∷ [])

-- the loop with its ifeq and its goto narrow or wide
abbrev pub loop_wide : ℕ → (ifeq goto : Bool) → List Bool
loop_wide n ifeq goto = false ∷ ifeq ∷ (replicate n false ++ goto ∷ false ∷ [])

-- ---- handlers

-- sload_0 sload_0 sdiv sreturn, and three handlers that pop and return a number
abbrev pub divides : List NInsn
divides =
    narrow.Op 0x1C ∷ narrow.Op 0x1C ∷ narrow.Op 0x47 ∷ narrow.Op 0x78 ∷ narrow.Op 0x3B ∷ narrow.Op 0x04 ∷ narrow.Op 0x78
    ∷ narrow.Op 0x3B ∷ narrow.Op 0x05 ∷ narrow.Op 0x78 ∷ narrow.Op 0x3B ∷ narrow.Op 0x06 ∷ narrow.Op 0x78 ∷ []

-- over sdiv, for ClassCastException
abbrev pub inner : NCatch
inner = record { start = 2; end = 3; target = 4; class = Some (codes "java/lang/ClassCastException"); at = 5 }

-- over nothing that is written
abbrev pub empty : NCatch
empty = record { start = 3; end = 3; target = 7; class = None; at = 8 }

-- over all before sreturn, for any exception
abbrev pub outer : NCatch
outer = record { start = 0; end = 3; target = 10; class = None; at = 11 }
