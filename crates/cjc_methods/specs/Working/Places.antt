-- Which of the codes of a package each method has.
use Rattle.std.specs.Prelude.{◌≡◌, ℕ, ◌+◌, List, [], ◌∷◌, slice_get, Option, None, Some, option_and_then}
use Rattle.cjc_world.specs.ClassFile.Code.{CodeTree}
use Rattle.cjc_world.specs.ClassFile.declared.tree.ClassTree.{ClassTree}
use Rattle.cjc_world.specs.ClassFile.declared.tree.MethodTree.{MethodTree}
use Rattle.cjc_components.specs.Bytecode.declared.method_code.MethodCode.{MethodCode}
use Rattle.cjc_pool.specs.Tokens.Tokens.{joined}
use Rattle.cjc_narrow.specs.Types.Tables.{IsMethodOf}
use Rattle.cjc_world.specs.Files.{Files}

-- the next place, where a method has code
abbrev pub place_if : (next : ℕ) → Option CodeTree → Option ℕ
place_if k None = None
place_if k (Some code) = Some k

-- the place behind
abbrev pub behind : (next : ℕ) → Option CodeTree → ℕ
behind k None = k
behind k (Some code) = k + 1

-- the place behind the code of all these methods
abbrev pub behind_all : (next : ℕ) → List MethodTree → ℕ
behind_all k [] = k
behind_all k (m ∷ ms) = behind_all (behind k m.code) ms

-- the place of the code of each of these methods
abbrev pub code_places : (next : ℕ) → List MethodTree → List (Option ℕ)
code_places k [] = []
code_places k (m ∷ ms) = place_if k m.code ∷ code_places (behind k m.code) ms

-- of each method of these classes
abbrev pub class_places : (next : ℕ) → List ClassTree → List (List (Option ℕ))
class_places k [] = []
class_places k (c ∷ cs) = code_places k c.methods ∷ class_places (behind_all k c.methods) cs

-- the place of the code of a method by the numbers of its class and of itself
abbrev pub place_in : List (List (Option ℕ)) → (class method : ℕ) → Option ℕ
place_in rows n i = option_and_then (λ row. joined (slice_get row i)) (slice_get rows n)

-- The code of that place is that of the method.
pub record HasPlace (files : Files) (codes : List MethodCode) (n i k : ℕ) : Type 0 where
  pub class : ClassTree
  pub method : MethodTree
  pub tree : CodeTree
  pub code : MethodCode
  pub is_class : slice_get files.classes n ≡ Some class
  pub is_method : slice_get class.methods i ≡ Some method
  pub is_tree : method.code ≡ Some tree
  pub is_code : slice_get codes k ≡ Some code
  pub is_own : IsMethodOf files code class method tree

-- a method without a place has no code
abbrev pub HasNone : Files → (n i : ℕ) → Type 0
HasNone files n i = (class : ClassTree) (method : MethodTree) → slice_get files.classes n ≡ Some class
    → slice_get class.methods i ≡ Some method → method.code ≡ None

-- the place of a method's code is this, or the method has no code where there is no place
abbrev pub IsPlaced : Files → List MethodCode → (n i : ℕ) → Option ℕ → Type 0
IsPlaced files codes n i None = HasNone files n i
IsPlaced files codes n i (Some k) = HasPlace files codes n i k
