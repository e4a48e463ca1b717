-- What the code holds of added methods and of an interface's methods in a class.
use Rattle.std.specs.Prelude.{ℕ, List, [], Option, None, Some, if◌then◌else◌}
use Rattle.cjc_world.specs.Bytes.declared.fault.MemberId.{MemberId}
use Rattle.cjc_world.specs.declared.found.Found.{Found}
use Rattle.cjc_world.specs.Files.{Files}
use Rattle.cjc_world.specs.Added.{added_at}
use Rattle.cjc_tokens.specs.Members.{Signature}
use Rattle.cjc_vtable.specs.Tables.{or_zero}

abbrev pub signature_by : MemberId → Signature
signature_by m = record { name = m.name; desc = m.desc }

-- an imported class has none
abbrev pub ids_at : Files → Found → List MemberId
ids_at files f = if f.imported then [] else added_at files f.class

-- the index of an interface's method in a class that has these tokens
abbrev pub index_of : (Signature → Option ℕ) → Option Signature → ℕ
index_of shown None = 0
index_of shown (Some s) = or_zero (shown s)
