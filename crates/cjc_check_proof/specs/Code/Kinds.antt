-- Which kind of key each opcode of narrow code needs.
use Rattle.std.specs.Prelude.{◌≡◌, ℕ, List, slice_get, Some, Bool, true, false}
use Rattle.cjc_token_proof.specs.CardSemantics.Bytecode.Meanings.{Use, Gets, Puts, GetsStatic, PutsStatic, Calls, Makes}
use Rattle.cjc_token_proof.specs.CardSemantics.Bytecode.Meanings.{MakesReferences, Virtual, Special, Static, Uses}
use Rattle.cjc_token_proof.specs.CardSemantics.Bytecode.Meanings.{meaning}
use Rattle.cjc_ncode.specs.declared.narrow.NInsn.{NInsn}
use Rattle.cjc_ncode.specs.declared.narrow.NInsn.TheVariants as insns
use Rattle.cjc_ncode.specs.declared.narrow.PoolKey.{PoolKey}
use Rattle.cjc_ncode.specs.declared.narrow.PoolKey.TheVariants as keys
use Rattle.cjc_components.specs.Package.{LaidMethod}

-- instance fields are got and put, static fields too; virtual methods are called on objects, those above the class and
-- constructors and
-- private methods by invokespecial, static ones by invokestatic; classes are made objects and arrays of
abbrev pub is_for : Use → PoolKey → Bool
is_for (Gets this letter) (keys.Field f) = true
is_for (Puts this letter) (keys.Field f) = true
is_for (GetsStatic letter) (keys.StaticField f) = true
is_for (PutsStatic letter) (keys.StaticField f) = true
is_for (Calls Virtual) (keys.Virtual m) = true
is_for (Calls Special) (keys.Super m) = true
is_for (Calls Special) (keys.StaticMethod m) = true
is_for (Calls Static) (keys.StaticMethod m) = true
is_for Makes (keys.Class c) = true
is_for MakesReferences (keys.Class c) = true
is_for how key = false

-- what an instruction names is of the kind that its opcode uses
abbrev pub HasKind : NInsn → Type 0
HasKind (insns.Named op key) = (how : Use) → meaning op ≡ Uses how → is_for how key ≡ true
HasKind _ = Unit {0}

-- so it is in all methods
abbrev pub AllHaveKinds : List LaidMethod → Type 0
AllHaveKinds ms = (k : ℕ) (m : LaidMethod) → slice_get ms k ≡ Some m → (j : ℕ) (i : NInsn)
    → (let code = m.code in slice_get code.insns j ≡ Some i) → HasKind i
