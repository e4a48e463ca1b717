-- Entries of the pool by what gives class_refs, tokens and offsets (Java Card Virtual Machine Specification 2.2.2,
-- section 6.7).
use Rattle.std.specs.Prelude.{ℕ, List, Option, Some, None, option_and_then, unwrap_or}
use Rattle.cjc_components.specs.LowerCapRead.declared.tree.ClassRef.{ClassRef}
use Rattle.cjc_components.specs.LowerCapRead.declared.tree.ClassRef.TheVariants as places
use Rattle.cjc_components.specs.LowerCapRead.declared.tree.StaticRef.{StaticRef}
use Rattle.cjc_components.specs.LowerCapRead.declared.tree.StaticRef.TheVariants as refs
use Rattle.cjc_components.specs.LowerCapRead.declared.tree.PoolEntry.{PoolEntry}
use Rattle.cjc_components.specs.LowerCapRead.declared.tree.PoolEntry.TheVariants as entries
use Rattle.cjc_components.specs.LowerNCode.declared.narrow.PoolKey.{PoolKey}
use Rattle.cjc_components.specs.LowerNCode.declared.narrow.PoolKey.TheVariants as keys
use Rattle.cjc_world.specs.declared.found.Found.{Found}
use Rattle.cjc_world.specs.Classes.{Class}
use Rattle.cjc_world.specs.Lookup.{find_field, find_method}
use Rattle.cjc_tokens.specs.Tokens.{Assigned, token_of_member}
use Rattle.cjc_components.specs.Package.{Package}
use Rattle.cjc_components.specs.Names.{virtual_token}
use Rattle.cjc_components.specs.Statics.{cell_offset}

-- ---- what stands by the number of a key

-- the token of its virtual method, 0 where it is of none
abbrev pub key_token : Package → PoolKey → ℕ
key_token p (keys.Virtual m) = virtual_token p m
key_token p (keys.Super m) = virtual_token p m
key_token p _ = 0

-- the offset of the cell of its static field, 0 where it is of none
abbrev pub key_cell : Package → PoolKey → ℕ
key_cell p (keys.StaticField f) = cell_offset p.image f
key_cell p _ = 0

-- ---- entries

-- the token of a member, 0xFF where it has none
abbrev pub member_token_by : Assigned → Option Found → ℕ
member_token_by tokens f = unwrap_or (option_and_then (token_of_member tokens) f) 0xFF

-- the offset of a method, 0 where none is found
abbrev pub offset_by : (Found → ℕ) → Option Found → ℕ
offset_by offset None = 0
offset_by offset (Some f) = offset f

-- by the class that has the member: of the package by an offset, else by a token
abbrev pub static_ref : ClassRef → (offset token : ℕ) → StaticRef
static_ref (places.Inside at) offset token = refs.Inside offset
static_ref (places.Outside file class) offset token = refs.Outside file class token

module _ (ref : List ℕ → ClassRef) (w : List Class) (tokens : Assigned) (offset : Found → ℕ) where
  -- of a key, where a virtual method has this token and a static field a cell at this offset
  abbrev pub entry_by : (token cell : ℕ) → PoolKey → PoolEntry
  entry_by token cell (keys.Class name) = entries.Classref (ref name)
  entry_by token cell (keys.Field f) = entries.InstanceFieldref (ref f.class) (member_token_by tokens
      (find_field w f.class f.name f.desc))
  entry_by token cell (keys.Virtual m) = entries.VirtualMethodref (ref m.class) token
  entry_by token cell (keys.Super m) = entries.SuperMethodref (ref m.class) token
  entry_by token cell (keys.StaticField f) =
      entries.StaticFieldref (static_ref (ref f.class) cell (member_token_by tokens (find_field w f.class f.name
      f.desc)))
  entry_by token cell (keys.StaticMethod m) = let f = find_method w m.class m.name m.desc
      in entries.StaticMethodref (static_ref (ref m.class) (offset_by offset f) (member_token_by tokens f))
