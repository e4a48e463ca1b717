-- What is written for checkcast and instanceof, from the class or array that they name.
use Rattle.std.specs.Prelude.{ℕ, List, [], ◌∷◌, Option, Some, None, option_map}
use Rattle.cjc_ncode.specs.declared.narrow.NInsn.{NInsn}
use Rattle.cjc_ncode.specs.declared.narrow.NInsn.TheVariants.{TypeTest}
use Rattle.cjc_narrow.specs.declared.written.type_tests.Test.{Test}

-- the class that is lent
abbrev pub class_lent : Test → Option (List ℕ)
class_lent t = option_map (λ c. c.now) t.class

-- a test with these operands
abbrev pub test_by : (op : ℕ) → Option Test → List NInsn
test_by op None = []
test_by op (Some t) = TypeTest op t.kind (class_lent t) ∷ []
