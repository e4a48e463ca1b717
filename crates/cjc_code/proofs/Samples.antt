-- What some codes are decoded to.
use Rattle.std.proofs.Common.{◌≡◌, ℕ, List, [], ◌∷◌, Some, Ok, Err, refl, pos, false}
use Rattle.cjc_classfile.specs.declared.tree.ClassTree.{ClassTree}
use Rattle.cjc_classfile.specs.declared.tree.MethodTree.{MethodTree}
use Rattle.cjc_classfile.specs.declared.tree.PoolItem.TheVariants as items
use Rattle.cjc_classfile.specs.Code.{CodeTree}
use Rattle.cjc_code.specs.declared.insn.JOp.TheVariants as jop
use Rattle.cjc_code.specs.Table.{row}
use Rattle.cjc_code.specs.Instruction.{operand, operands, opcode_at, wide_opcode_at, behind_opcode, behind_first, instruction}
use Rattle.cjc_code.specs.Cut.{cut_rest, cut}
use Rattle.cjc_code.specs.Unfit.{marks, starts, unfit_code}
use Rattle.cjc_code.specs.Named.{named, all_named}
use Rattle.cjc_code.specs.Decoded.{least, decoding}
use Rattle.cjc_bytes.specs.Format.{repeated, raw}
use Rattle.cjc_bytes.specs.Reading.{front, digits}
use Rattle.cjc_bytes.specs.Found.{each}
use Rattle.cjc_bytes.specs.Spots.{desc_of, parts_of, bad_at, after, types_from}

abbrev class : ClassTree
class = record { major = 52; flags = 33; name = []; superclass = []; interfaces = []; pool = items.Other ∷ items.Other ∷ items.Int (pos 7) ∷ []; fields = []; methods = []; attributes = 0 }

abbrev code : List ℕ → CodeTree
code bytes = record { max_stack = 4; max_locals = 1; bytes = bytes; catches = []; attributes = 0 }

-- (S)S
abbrev method : List ℕ → MethodTree
method bytes = record { flags = 9; name = []; desc = 40 ∷ 83 ∷ 41 ∷ 83 ∷ []; code = Some (code bytes); attributes = 1 }

sum_decoded : decoding class (method (0x1A ∷ 4 ∷ 0x60 ∷ 0x93 ∷ 0xAC ∷ [])) (code (0x1A ∷ 4 ∷ 0x60 ∷ 0x93 ∷ 0xAC ∷ []))
    ≡ Ok (record { at = 0; op = jop.Load false 0 } ∷ record { at = 1; op = jop.Number (pos 1) } ∷ record { at = 2; op = jop.Arith 0x60 } ∷ record { at = 3; op = jop.Narrow 0x93 } ∷ record { at = 4; op = jop.Return 0xAC } ∷ [])
unfolding row operand operands opcode_at wide_opcode_at behind_opcode behind_first instruction cut_rest cut marks starts unfit_code named all_named least decoding repeated raw front digits each desc_of parts_of bad_at after types_from
sum_decoded = refl

wide_constant_decoded : decoding class (method (0x1A ∷ 0x14 ∷ 0 ∷ 1 ∷ 0x58 ∷ 0xAC ∷ [])) (code (0x1A ∷ 0x14 ∷ 0 ∷ 1 ∷ 0x58 ∷ 0xAC ∷ []))
    ≡ Err (record { rule = 303; offset = 1 })
unfolding row operand operands opcode_at wide_opcode_at behind_opcode behind_first instruction cut_rest cut marks starts unfit_code named all_named least decoding repeated raw front digits each desc_of parts_of bad_at after types_from
wide_constant_decoded = refl
