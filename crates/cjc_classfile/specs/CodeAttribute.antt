-- The code of a method (Java Virtual Machine Specification, section 4.7.3).
use Rattle.std.specs.Prelude.{ℕ, ◌+◌, List, Option, Some, None, option_map, nat_lt, nat_le, ◌==◌, if◌then◌else◌}
use Rattle.std.specs.Int.{w16, w32}
use Rattle.cjc_bytes.specs.Format.{Format, number, here, looked_up, gives, ◌>>=◌, repeated, in_a_row, u2, u4, raw}
use Rattle.cjc_bytes.specs.Found.{kept}
use Rattle.cjc_classfile.specs.declared.tree.Catch.{Catch}
use Rattle.cjc_classfile.specs.Code.{CodeTree}
use Rattle.cjc_classfile.specs.Entry.{Entry}
use Rattle.cjc_classfile.specs.Items.{class_name_at}
use Rattle.cjc_classfile.specs.Members.{exactly, attribute}

-- a number that is at most the limit
abbrev pub at_most : ℕ → ℕ → Option ℕ
at_most m n = if nat_le n m then Some n else None

-- a number that is less than the limit
abbrev pub below : ℕ → ℕ → Option ℕ
below m n = if nat_lt n m then Some n else None

-- the class of a handler: none at index 0
unfoldable pub catch_class_at : List Entry → ℕ → Option (Option (List ℕ))
catch_class_at pool i = if i == 0 then Some None else option_map Some (class_name_at pool i)

-- the index of the class that a handler catches; index 0 gives none
unfoldable pub catch_class : List Entry → Format (Option (List ℕ))
catch_class pool = number w16 (catch_class_at pool)

-- a range, whose start is below its end, and its handler; all inside so many bytes
unfoldable pub catch : List Entry → ℕ → Format Catch
catch pool length = do
  start_place ← here (λ k. k)
  start ← u2
  end_place ← here (λ k. k)
  end ← u2
  ordered ← looked_up (kept start_place (below end start))
  inside ← looked_up (kept end_place (at_most length end))
  target ← number w16 (below length)
  class ← catch_class pool
  gives (record { start = start; end = end; target = target; class = class })

-- from 1 to 65535
abbrev pub code_length : ℕ → Option ℕ
code_length n = if nat_lt 0 n then at_most 65535 n else None

-- what stands behind the length of a code attribute
unfoldable pub code_content : List Entry → Format CodeTree
code_content pool = do
  max_stack ← u2
  max_locals ← u2
  length ← number w32 code_length
  bytes ← raw length
  count ← u2
  catches ← repeated count (catch pool length)
  free_count ← u2
  free ← in_a_row free_count (attribute pool)
  gives (record { max_stack = max_stack; max_locals = max_locals; bytes = bytes; catches = catches })

-- a length that is exact, tested once its content has been read
unfoldable pub code : List Entry → Format CodeTree
code pool = do
  place ← here (λ k. k)
  length ← u4
  start ← here (λ k. k)
  tree ← code_content pool
  end ← here (λ k. k)
  exact ← looked_up (kept place (exactly (start + length) end))
  gives tree
