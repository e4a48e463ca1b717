-- What the entries of a constant pool mean, and the tests of the indices in it (Java Virtual Machine
-- Specification, sections 4.4.1 to 4.4.6).
use Rattle.std.specs.Prelude.{ℕ, Bool, true, false, List, [], ◌∷◌, Option, Some, None, Result, Ok, option_and_then}
use Rattle.std.specs.Prelude.{slice_get}
use Rattle.cjc_bytes.specs.Found.{◌>>=◌, kept, each, all_of}
use Rattle.cjc_classfile.specs.declared.pool.Index.{Index}
use Rattle.cjc_bytes.specs.declared.fault.MemberId.{MemberId}
use Rattle.cjc_classfile.specs.PoolItem.{PoolItem}
use Rattle.cjc_classfile.specs.PoolItem as items
use Rattle.cjc_classfile.specs.Entry.{Entry, text, integer, class, string, field, method, interface_method}
use Rattle.cjc_classfile.specs.Entry.{name_and_type}

-- the bytes of a CONSTANT_Utf8
abbrev pub as_text : Entry → Option (List ℕ)
as_text (text bytes desc) = Some bytes
as_text _ = None

-- a text that is a descriptor
abbrev pub as_desc : Entry → Option (List ℕ)
as_desc (text bytes (Some is_method)) = Some bytes
as_desc _ = None

-- a text that is the descriptor of a field, or of a method
abbrev pub as_desc_of : Bool → Entry → Option (List ℕ)
as_desc_of true (text bytes (Some true)) = Some bytes
as_desc_of false (text bytes (Some false)) = Some bytes
as_desc_of _ _ = None

-- the index of the name of a CONSTANT_Class
abbrev pub as_class : Entry → Option Index
as_class (class name) = Some name
as_class _ = None

-- the indices of the name and of the descriptor of a CONSTANT_NameAndType
abbrev pub as_pair : Entry → Option (Index × Index)
as_pair (name_and_type name desc) = Some (name, desc)
as_pair _ = None

-- a text of one byte or more
abbrev pub not_empty : List ℕ → Option (List ℕ)
not_empty [] = None
not_empty (b ∷ bs) = Some (b ∷ bs)

-- the tables of indices: what the entry at an index is, where it has the tag that is needed
unfoldable pub text_at : List Entry → ℕ → Option (List ℕ)
text_at pool i = option_and_then as_text (slice_get pool i)

-- the descriptor at an index, of a field or of a method
unfoldable pub desc_at : List Entry → ℕ → Option (List ℕ)
desc_at pool i = option_and_then as_desc (slice_get pool i)

-- the descriptor at an index, where it is that of a method, or of a field, as is asked for
unfoldable pub desc_of_at : List Entry → Bool → ℕ → Option (List ℕ)
desc_of_at pool is_method i = option_and_then (as_desc_of is_method) (slice_get pool i)

-- the text at an index, where the name of a class can be there: it has one byte or more
unfoldable pub class_text_at : List Entry → ℕ → Option (List ℕ)
class_text_at pool i = option_and_then not_empty (text_at pool i)

-- the index of the name of the CONSTANT_Class at an index
unfoldable pub class_at : List Entry → ℕ → Option Index
class_at pool i = option_and_then as_class (slice_get pool i)

-- the indices of the name and the descriptor of the CONSTANT_NameAndType at an index
unfoldable pub pair_at : List Entry → ℕ → Option (Index × Index)
pair_at pool i = option_and_then as_pair (slice_get pool i)

-- the name of the class at an index
unfoldable pub class_name_at : List Entry → ℕ → Option (List ℕ)
class_name_at pool i = option_and_then (λ name. class_text_at pool name.to) (class_at pool i)

-- the indices of an entry, after the last entry
unfoldable pub tested_member : List Entry → Index → Index → Result Unit ℕ
tested_member pool owner member = do
  c ← kept owner.at (class_at pool owner.to)
  m ← kept member.at (pair_at pool member.to)
  Ok tt

-- each index of the entry leads to an entry of the tag that is needed; else the place of the first that does not
unfoldable pub tested : List Entry → Entry → Result Unit ℕ
tested pool (class name) = do
  n ← kept name.at (class_text_at pool name.to)
  Ok tt
tested pool (string value) = do
  v ← kept value.at (text_at pool value.to)
  Ok tt
tested pool (field owner member) = tested_member pool owner member
tested pool (method owner member) = tested_member pool owner member
tested pool (interface_method owner member) = tested_member pool owner member
tested pool (name_and_type name desc) = do
  n ← kept name.at (text_at pool name.to)
  d ← kept desc.at (desc_at pool desc.to)
  Ok tt
tested pool _ = Ok tt

-- what an entry means, once all are tested
unfoldable pub member : List Entry → Index → Index → Result MemberId ℕ
member pool owner pair = do
  c ← kept owner.at (class_name_at pool owner.to)
  m ← kept pair.at (pair_at pool pair.to)
  n ← kept m.0.at (text_at pool m.0.to)
  d ← kept m.1.at (desc_at pool m.1.to)
  Ok (record { class = c; name = n; desc = d })

-- a number, the name of a class, or a member with its class, name and descriptor; any other entry means nothing here
unfoldable pub item : List Entry → Entry → Result PoolItem ℕ
item pool (integer n) = Ok (items.Int n)
item pool (class name) = do
  n ← kept name.at (class_text_at pool name.to)
  Ok (items.Class n)
item pool (field owner pair) = do
  m ← member pool owner pair
  Ok (items.Field m)
item pool (method owner pair) = do
  m ← member pool owner pair
  Ok (items.Method m)
item pool (interface_method owner pair) = do
  m ← member pool owner pair
  Ok (items.InterfaceMethod m)
item pool _ = Ok items.Other

-- what the entries mean, where all their indices keep their tables
unfoldable pub pool_items : List Entry → Result (List PoolItem) ℕ
pool_items pool = do
  passed ← all_of (tested pool) pool
  each (item pool) pool
