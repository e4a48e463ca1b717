-- What a package's pool has for its methods.
use Rattle.std.specs.Prelude.{◌≡◌, ℕ, List, slice_get, Some, true, IsSome}
use Rattle.cjc_components.specs.Bytes.declared.fault.MemberId.{MemberId}
use Rattle.cjc_narrow.specs.LowerNCode.declared.narrow.NMethod.{NMethod}
use Rattle.cjc_narrow.specs.LowerNCode.declared.narrow.NInsn.{NInsn}
use Rattle.cjc_components.specs.LowerTokens.Tokens.{Assigned}
use Rattle.cjc_components.specs.World.Files.{Files}
use Rattle.cjc_pool.specs.Pool.{is_called, token_of}

-- an instruction of one of these methods
pub record IsAmong (methods : List NMethod) (insn : NInsn) : Type 0 where
  pub method : NMethod
  pub at : ℕ
  pub place : ℕ
  pub is_method : slice_get methods at ≡ Some method
  pub is_insn : slice_get method.insns place ≡ Some insn

-- each method of an interface that code calls is found, and has a token where it is declared
abbrev pub CallsHaveTokens : Files → Assigned → List NMethod → Type 0
CallsHaveTokens files tokens methods = (id : MemberId) → is_called methods id ≡ true → IsSome (token_of files tokens id)
