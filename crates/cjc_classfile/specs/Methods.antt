-- Methods (Java Virtual Machine Specification, section 4.6).
use Rattle.std.specs.Prelude.{ℕ, Bool, true, false, List, Option, Some, None, option_and_then, is_none, ◌==◌, ◌&&◌}
use Rattle.std.specs.Prelude.{if◌then◌else◌, codes}
use Rattle.std.specs.Int.{w16}
use Rattle.std.specs.Str.{bytes_eq}
use Rattle.cjc_bytes.specs.Format.{Format, number, gives, ◌>>=◌, iterated, u2}
use Rattle.cjc_classfile.specs.declared.tree.MethodTree.{MethodTree}
use Rattle.cjc_classfile.specs.Code.{CodeTree}
use Rattle.cjc_classfile.specs.CodeAttribute.{code}
use Rattle.cjc_classfile.specs.Entry.{Entry}
use Rattle.cjc_classfile.specs.Items.{text_at}
use Rattle.cjc_classfile.specs.Members.{text_field, desc_field, skipped}
use Rattle.cjc_bytes.specs.AccessFlags.{acc_native, has, is_abstract}

-- whether an attribute of a method is its code. A method that needs code has it once, and no other method
-- has it; where it has not come yet, the last attribute has to be it
abbrev pub is_code : Bool → ℕ → List ℕ → Option Bool
is_code awaited behind name =
    if bytes_eq name (codes "Code") then (if awaited then Some true else None)
    else if awaited && (behind == 0) then None
    else Some false

-- whether the attribute whose name is at this index is the method's code
unfoldable pub code_name_at : List Entry → Bool → ℕ → ℕ → Option Bool
code_name_at pool awaited behind i = option_and_then (is_code awaited behind) (text_at pool i)

-- what stands behind the name of a method's attribute: the code, or anything
unfoldable pub method_content : List Entry → Bool → Option CodeTree → Format (Option CodeTree)
method_content pool true so_far = do
  tree ← code pool
  gives (Some tree)
method_content pool false so_far = do
  free ← skipped
  gives so_far

-- an attribute of a method, with so many behind it; gives the code that has come so far
unfoldable pub method_attribute : List Entry → Bool → ℕ → Option CodeTree → Format (Option CodeTree)
method_attribute pool needed behind so_far =
    number w16 (code_name_at pool (needed && is_none so_far) behind) >>= λ is_it. method_content pool is_it so_far

-- how many attributes: not none, where code is needed
abbrev pub attribute_count : Bool → ℕ → Option ℕ
attribute_count needed n = if needed && (n == 0) then None else Some n

-- neither abstract nor native
abbrev pub needs_code : ℕ → Bool
needs_code flags = if is_abstract flags then false else (if has flags acc_native then false else true)

-- a method_info: its flags, name, descriptor and attributes, of which the code is kept
unfoldable pub method_tree : List Entry → Format MethodTree
method_tree pool = do
  flags ← u2
  name ← text_field pool
  desc ← desc_field pool true
  count ← number w16 (attribute_count (needs_code flags))
  tree ← iterated count (method_attribute pool (needs_code flags)) None
  gives (record { flags = flags; name = name; desc = desc; code = tree })
