-- The code of a package's methods as the card's instructions: what Method is cut into (Java Card Virtual Machine
-- Specification 2.2.2, 6.9.2 and chapter 7).
use Rattle.std.specs.Prelude.{ℕ, ◌+◌, List, [], ◌∷◌, Bool}
use Rattle.cjc_capread.specs.Decode.{Instruction}
use Rattle.cjc_check_rules.specs.Spots.{Placed}
use Rattle.cjc_check_rules.specs.Codes.{Code}
use Rattle.cjc_ncode.specs.declared.narrow.NInsn.{NInsn}
use Rattle.cjc_ncode.specs.Lowering.Naming.{Naming}
use Rattle.cjc_ncode.specs.Lowering.Laid.{laid}
use Rattle.cjc_ncode.specs.Lowering.Placed.{insn_size, first, offset_of}
use Rattle.cjc_components.specs.Package.{LaidMethod, Package}
use Rattle.cjc_components.specs.Methods.{bytecode_count, first_method, method_size, placed_at}
use Rattle.cjc_components.specs.Names.{names}

module _ (n : Naming) where
  -- instructions one behind the other, from an offset on, where labels stand at `to`
  abbrev pub laid_code : (to : ℕ → ℕ) (at : ℕ) → List NInsn → (wide : List Bool) → List (Placed Instruction)
  laid_code to at [] wide = []
  laid_code to at (i ∷ insns) [] = []
  laid_code to at (i ∷ insns) (w ∷ wide) = record { at = at; item = laid n to at w i }
      ∷ laid_code to (at + insn_size n w i) insns wide

  -- the code of a method whose header stands at this offset
  abbrev pub code_at : (at : ℕ) → LaidMethod → Code
  code_at at m = let p = placed_at at m in let code = m.code in record {
    is_abstract = m.is_abstract;
    first = first p;
    end = first p + bytecode_count m;
    instructions = laid_code (offset_of n p) (first p) code.insns m.wide;
  }

  -- those of methods that stand one behind the other
  abbrev pub codes_at : (at : ℕ) → List LaidMethod → List Code
  codes_at at [] = []
  codes_at at (m ∷ ms) = code_at at m ∷ codes_at (at + method_size m) ms

-- The code of all methods of a package.
abbrev pub codes_of : Package → List Code
codes_of p = codes_at (names p) (first_method p.methods) p.methods
