-- A constant pool as code asks it: its keys in their order, the tokens of interfaces' methods, and rule 414.
use Rattle.std.specs.Prelude.{◌≡◌, ℕ, List, length, nat_lt, slice_get, Option, None, option_and_then, Bool, false}
use Rattle.std.specs.Prelude.{if◌then◌else◌}
use Rattle.std.specs.List.{list_any}
use Rattle.cjc_components.specs.Bytes.declared.fault.MemberId.{MemberId}
use Rattle.cjc_components.specs.Bytes.Breaks.{Break, at, list_spot}
use Rattle.cjc_components.specs.World.Files.{Files}
use Rattle.cjc_components.specs.World.Classes.{all_classes}
use Rattle.cjc_components.specs.World.Lookup.{find_method}
use Rattle.cjc_components.specs.LowerTokens.Tokens.{Assigned, joined, token_of_member}
use Rattle.cjc_narrow.specs.LowerNCode.declared.narrow.NInsn.{NInsn}
use Rattle.cjc_narrow.specs.LowerNCode.declared.narrow.NInsn.TheVariants as insns
use Rattle.cjc_narrow.specs.LowerNCode.declared.narrow.NMethod.{NMethod}
use Rattle.cjc_narrow.specs.LowerNCode.declared.narrow.PoolKey.{PoolKey}
use Rattle.cjc_narrow.specs.LowerNCode.declared.narrow.PoolKey.TheVariants as keys
use Rattle.cjc_narrow.specs.LowerNCode.PoolOrder.{pool_order, same_member}
use Rattle.cjc_narrow.specs.Keys.Index.{index_of}

-- what a pool says
pub record PoolView : Type 0 where
  -- of its entries, in their order
  pub keys : List PoolKey
  -- the methods of interfaces that code calls, as keys of virtual methods, and the token of each
  pub calls : List PoolKey
  pub tokens : List (Option ℕ)

-- the token that a pool has for an interface's method
abbrev pub token_in : PoolView → MemberId → Option ℕ
token_in pool id = option_and_then (λ i. joined (slice_get pool.tokens i)) (index_of pool.calls (keys.Virtual id))

-- ---- tokens of interfaces' methods

-- an invokeinterface of the method
abbrev pub calls : MemberId → NInsn → Bool
calls id (insns.Interface nargs method) = same_member id method
calls id _ = false

-- some method's code has one
abbrev pub is_called : List NMethod → MemberId → Bool
is_called methods id = list_any (λ m. list_any (calls id) m.insns) methods

-- the token that the method has in the class that it names
abbrev pub token_of : Files → Assigned → MemberId → Option ℕ
token_of files tokens id = option_and_then (token_of_member tokens) (find_method (all_classes files) id.class id.name
    id.desc)

-- of a method that some invokeinterface names, and none of others
abbrev pub interface_token : Files → Assigned → List NMethod → MemberId → Option ℕ
interface_token files tokens methods id = if is_called methods id then token_of files tokens id else None

-- ---- the pool

-- The pool that these methods need.
pub record IsPool (files : Files) (tokens : Assigned) (methods : List NMethod) (pool : PoolView) : Type 0 where
  pub keys : pool.keys ≡ pool_order methods
  pub token : (id : MemberId) → token_in pool id ≡ interface_token files tokens methods id

-- ---- 414: more entries than this

-- the most entries of a pool
abbrev pub most_entries : ℕ
most_entries = 16383

-- 414 of the pool of these methods, at the list
abbrev pub pool_breaks : (list : List ℕ) → List NMethod → List Break
pool_breaks list methods = at (nat_lt most_entries (length (pool_order methods))) (list_spot list) 414
