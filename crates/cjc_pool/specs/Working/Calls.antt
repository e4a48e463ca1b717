-- Called methods of interfaces as the code keeps them: each as the key of a virtual method, with its token.
use Rattle.std.specs.Prelude.{ℕ, List, [], ◌∷◌, flat_map, Option, None}
use Rattle.cjc_components.specs.Bytes.declared.fault.MemberId.{MemberId}
use Rattle.cjc_components.specs.World.Files.{Files}
use Rattle.cjc_components.specs.LowerTokens.Tokens.{Assigned}
use Rattle.cjc_narrow.specs.LowerNCode.declared.narrow.NInsn.{NInsn}
use Rattle.cjc_narrow.specs.LowerNCode.declared.narrow.NInsn.TheVariants as insns
use Rattle.cjc_narrow.specs.LowerNCode.declared.narrow.NMethod.{NMethod}
use Rattle.cjc_narrow.specs.LowerNCode.declared.narrow.PoolKey.{PoolKey}
use Rattle.cjc_narrow.specs.LowerNCode.declared.narrow.PoolKey.TheVariants as keys
use Rattle.cjc_pool.specs.Pool.{token_of}

-- the method of an interface that an instruction calls
abbrev pub insn_calls : NInsn → List PoolKey
insn_calls (insns.Interface nargs method) = keys.Virtual method ∷ []
insn_calls _ = []

-- those of a method's instructions
abbrev pub method_calls : NMethod → List PoolKey
method_calls m = flat_map insn_calls m.insns

-- the token of a key's method
abbrev pub key_token : Files → Assigned → PoolKey → Option ℕ
key_token files tokens (keys.Virtual id) = token_of files tokens id
key_token files tokens _ = None
