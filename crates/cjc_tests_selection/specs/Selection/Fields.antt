-- A class whose methods read a field: its index is one byte, behind that of the class of any exception where a catch
-- type is written.
use Rattle.std.specs.Prelude.{ℕ, List, [], ◌∷◌, Option, Some, None, codes}
use Rattle.cjc_examples.specs.Bytes.declared.fault.MemberId.{MemberId}
use Rattle.cjc_examples.specs.ClassFile.declared.tree.Catch.{Catch}
use Rattle.cjc_examples.specs.ClassFile.declared.tree.ClassTree.{ClassTree}
use Rattle.cjc_examples.specs.ClassFile.declared.tree.MethodTree.{MethodTree}
use Rattle.cjc_examples.specs.ClassFile.PoolItem as items
use Rattle.cjc_examples.specs.World.Files.{Files}
use Rattle.cjc_examples.specs.JvmSemantics.Worked.{class, field, method}
use Rattle.cjc_examples.specs.CardSemantics.Machine.Worked.{id, object}
use Rattle.cjc_examples.specs.Narrow.Both.{over}

-- short s of p/T
abbrev pub s : MemberId
s = id (codes "p/T") (codes "s") (codes "S")

-- t.s of an argument
abbrev pub of_argument : MethodTree
of_argument = record (method (codes "o") (codes "(Lp/T;)S") 1 2 [] (0x2B ∷ 0xB4 ∷ 0x00 ∷ 0x01 ∷ 0xAC ∷ []))
    { flags = 1 }

-- this.s, or 0 where reading it throws this
abbrev pub or_zero : Option (List ℕ) → MethodTree
or_zero type = record (method (codes "g") (codes "()S") 1 1 (record { start = 1; end = 4; target = 5; class = type }
    ∷ []) (0x2A ∷ 0xB4 ∷ 0x00 ∷ 0x01 ∷ 0xAC ∷ 0x57 ∷ 0x03 ∷ 0xAC ∷ [])) { flags = 1 }

-- p/T with the one field
abbrev pub with_method : MethodTree → Files
with_method m = over (codes "p") (class 0x0021 (codes "p/T") object [] (items.Field s
    ∷ []) (field 0 (codes "s") (codes "S") None ∷ []) (m ∷ []) ∷ [])
