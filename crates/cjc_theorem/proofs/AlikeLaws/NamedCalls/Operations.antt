-- Which instructions of narrow code make calls.
use Rattle.std.proofs.Common.{◌≡◌, ℕ, zero, suc, ap, true, List, []}
use Rattle.std.specs.Prelude.{Option, Some, None, slice_get, ℤ}
use Rattle.cjc_token_proof.specs.CardSemantics.Bytecode.Effects.{Call}
use Rattle.cjc_token_proof.specs.CardSemantics.Bytecode.Meanings.{Asks, Branches, Calls, Casts, Meaning, Paired, Plain}
use Rattle.cjc_token_proof.specs.CardSemantics.Bytecode.Meanings.{Ranged}
use Rattle.cjc_token_proof.specs.CardSemantics.Bytecode.Meanings.{Special, Static, Touches, Use, Uses, Virtual}
use Rattle.cjc_bytes.specs.declared.fault.MemberId.{MemberId}
use Rattle.cjc_narrow_proof.specs.Sources.{names_nothing}
use Rattle.cjc_ncode.specs.ByLabel.{Callee, Resolved, jumping, making, naming, operation, plain, switching, testing}
use Rattle.cjc_ncode.specs.ByLabel.{using}
use Rattle.cjc_ncode.specs.declared.narrow.NCase.{NCase}
use Rattle.cjc_ncode.specs.declared.narrow.NInsn.{NInsn}
use Rattle.cjc_ncode.specs.declared.narrow.NInsn.TheVariants as insns
use Rattle.cjc_ncode.specs.declared.narrow.PoolKey.TheVariants as keys
use Rattle.cjc_token_proof.specs.Script.Sorts.{Element, Shape}
use Rattle.cjc_token_proof.specs.WrittenSends.Named.{callee_in}

-- ---- operations

pub is_that_call : (o : Resolved) (j : ℕ) (m : Callee) → slice_get (callee_in o) j ≡ Some m → o ≡ Call m
is_that_call (Call n) zero m e = let same : n ≡ m = cc in ap (λ k. Call k) same
is_that_call (Call n) (suc j) m e = absurd cc
is_that_call o j m e = absurd cc

no_plain : (k : Meaning) (operands : List ℤ) (m : Callee) → plain k operands ≡ Call m → ⊥
no_plain (Plain calculation) operands m e = cc
no_plain (Touches access) operands m e = cc
no_plain k operands m e = cc

no_jump : (k : Meaning) (target : ℕ) (m : Callee) → jumping k target ≡ Call m → ⊥
no_jump (Branches test) target m e = cc
no_jump k target m e = cc

no_switch : (k : Meaning) (other : ℕ) (low : ℤ) (cases : List NCase) (m : Callee) → switching k other low cases ≡ Call m
    → ⊥
no_switch (Ranged is_int) other low cases m e = cc
no_switch (Paired is_int) other low cases m e = cc
no_switch k other low cases m e = cc

pub no_test : (k : Meaning) (kind : Option (Shape (List ℕ))) (m : Callee) → testing k kind ≡ Call m → ⊥
no_test Casts (Some kind) m e = cc
no_test Casts None m e = cc
no_test Asks (Some kind) m e = cc
no_test Asks None m e = cc
no_test k kind m e = cc

no_array : (o : Option Element) (m : Callee) → making o ≡ Call m → ⊥
no_array None m e = cc
no_array (Some element) m e = cc

-- a class or a field is not called
no_use_class : (how : Use) (c : List ℕ) (m : Callee) → using how (keys.Class c) ≡ Call m → ⊥
no_use_class (Calls Virtual) c m e = cc
no_use_class (Calls Special) c m e = cc
no_use_class (Calls Static) c m e = cc
no_use_class how c m e = cc

no_use_field : (how : Use) (f : MemberId) (m : Callee) → using how (keys.Field f) ≡ Call m → ⊥
no_use_field (Calls Virtual) f m e = cc
no_use_field (Calls Special) f m e = cc
no_use_field (Calls Static) f m e = cc
no_use_field how f m e = cc

no_use_static : (how : Use) (f : MemberId) (m : Callee) → using how (keys.StaticField f) ≡ Call m → ⊥
no_use_static (Calls Virtual) f m e = cc
no_use_static (Calls Special) f m e = cc
no_use_static (Calls Static) f m e = cc
no_use_static how f m e = cc

pub no_class : (k : Meaning) (c : List ℕ) (m : Callee) → naming k (keys.Class c) ≡ Call m → ⊥
no_class (Uses how) c m e = no_use_class how c m e
no_class k c m e = cc

pub no_field : (k : Meaning) (f : MemberId) (m : Callee) → naming k (keys.Field f) ≡ Call m → ⊥
no_field (Uses how) f m e = no_use_field how f m e
no_field k f m e = cc

pub no_static : (k : Meaning) (f : MemberId) (m : Callee) → naming k (keys.StaticField f) ≡ Call m → ⊥
no_static (Uses how) f m e = no_use_static how f m e
no_static k f m e = cc

-- what names nothing calls nothing
pub no_call : (i : NInsn) (m : Callee) → names_nothing i ≡ true → operation i ≡ Call m → ⊥
no_call (insns.Op op) m h e = no_plain _ [] m e
no_call (insns.Push op value) m h e = no_plain _ _ m e
no_call (insns.Local op index) m h e = no_plain _ _ m e
no_call (insns.Inc op index by) m h e = no_plain _ _ m e
no_call (insns.Words op a b) m h e = no_plain _ _ m e
no_call (insns.Jump op target) m h e = no_jump _ target m e
no_call (insns.Switch op other low cases) m h e = no_switch _ other low cases m e
no_call (insns.Named op key) m h e = cc
no_call (insns.Interface nargs id) m h e = cc
no_call (insns.NewArray number) m h e = no_array _ m e
no_call (insns.TypeTest op number None) m h e = no_test _ _ m e
no_call (insns.TypeTest op number (Some c)) m h e = cc
