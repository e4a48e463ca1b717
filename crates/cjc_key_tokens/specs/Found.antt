-- The tokens of methods that are found by the keys of a constant pool.
use Rattle.std.specs.Prelude.{◌≡◌, ℕ, ◌+◌, List, length, slice_get, unwrap_or, option_and_then, true, false, Some}
use Rattle.cjc_bytes.specs.declared.fault.MemberId.{MemberId}
use Rattle.cjc_bytes.specs.AccessFlags.{is_interface}
use Rattle.cjc_world.specs.Classes.{Class, Member, class_at}
use Rattle.cjc_world.specs.Kin.{line}
use Rattle.cjc_world.specs.Lookup.{find_method, first, member_at, own_method}
use Rattle.cjc_tokens.specs.Members.{is_shown, is_virtual}
use Rattle.cjc_tokens.specs.Tokens.{Assigned, token_of_member}
use Rattle.cjc_ncode.specs.declared.narrow.PoolKey.{PoolKey}
use Rattle.cjc_ncode.specs.declared.narrow.PoolKey.TheVariants as keys

-- the token of the method that is found; 0 where none is, or it has none
abbrev pub token_found : List Class → Assigned → MemberId → ℕ
token_found w tokens m = unwrap_or (option_and_then (token_of_member tokens) (find_method w m.class m.name m.desc)) 0

-- of a key that is of a virtual method, 0 of others
abbrev pub found_token : List Class → Assigned → PoolKey → ℕ
found_token w tokens (keys.Virtual m) = token_found w tokens m
found_token w tokens (keys.Super m) = token_found w tokens m
found_token w tokens _ = 0

-- A virtual method is found in the class that is named or in a superclass of it; it is no interface's, and one of an imported class is public or protected.
pub record IsFoundAbove (w : List Class) (m : MemberId) : Type 0 where
  pub class : Class
  pub place : ℕ
  pub method : Member
  pub found : first (own_method false m.name m.desc) (line w m.class) ≡ Some (member_at class (length class.fields + place))
  pub is_class : class_at w class.is_imported class.number ≡ Some class
  pub is_method : slice_get class.methods place ≡ Some method
  pub virtual : is_virtual method ≡ true
  pub shown : class.is_imported ≡ true → is_shown method ≡ true
  pub kind : is_interface class.flags ≡ false
