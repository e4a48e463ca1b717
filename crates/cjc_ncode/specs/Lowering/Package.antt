-- The methods of a package, one behind the other in Method's info, with their handlers in its table (Java Card Virtual
-- Machine Specification 2.2.2, section 6.9).
use Rattle.std.specs.Prelude.{◌≡◌, ℕ, ◌+◌, ◌<◌, List, [], ◌∷◌, ◌++◌, length, Some, slice_get}
use Rattle.cjc_card_semantics.specs.CapRead.declared.tree.Handler.{Handler}
use Rattle.cjc_card_semantics.specs.Machine.Loaded.{Part}
use Rattle.cjc_card_semantics.specs.Machine.Methods.{methods_begin}
use Rattle.cjc_ncode.specs.Lowering.Naming.{Naming}
use Rattle.cjc_ncode.specs.Lowering.Handlers.{handlers_of, AllLie}
use Rattle.cjc_ncode.specs.Lowering.Placed.{Placed, offset_of, method_bytes, IsLaidOut}

-- the bytes of all
abbrev pub all_bytes : Naming → List Placed → List ℕ
all_bytes n [] = []
all_bytes n (p ∷ placed) = method_bytes n p ++ all_bytes n placed

-- the handlers of all
abbrev pub all_handlers : Naming → List Placed → List Handler
all_handlers n [] = []
all_handlers n (p ∷ placed) = let m = p.method in handlers_of n (offset_of n p) m.catches ++ all_handlers n placed

-- the first stands at this offset, each other one behind the one before
pub data AreConsecutive (n : Naming) : (at : ℕ) → List Placed → Type 0 where
  none : {at : ℕ} → AreConsecutive n at []
  next : {at : ℕ} {p : Placed} {placed : List Placed} → p.offset ≡ at
      → AreConsecutive n (at + length (method_bytes n p)) placed → AreConsecutive n at (p ∷ placed)

-- a method that can stand in a package: a header, its code laid out, its handlers within the code
pub record IsWhole (n : Naming) (p : Placed) : Type 0 where
  pub header : 0 < length p.header
  pub code : IsLaidOut n p
  pub handlers : (let m = p.method in AllLie n (length m.insns) m.catches)

-- A package holds these methods and their handlers, and nothing else, behind its table of handlers.
pub record HoldsMethods (n : Naming) (part : Part) (placed : List Placed) : Type 0 where
  pub there : (let l = n.loaded in slice_get l.parts n.part ≡ Some part)
  pub pool : part.pool ≡ n.pool
  pub bytes : (let method = part.method in method.methods ≡ all_bytes n placed)
  pub table : (let method = part.method in method.handlers ≡ all_handlers n placed)
  pub consecutive : AreConsecutive n (methods_begin part) placed
  pub whole : (j : ℕ) (p : Placed) → slice_get placed j ≡ Some p → IsWhole n p
