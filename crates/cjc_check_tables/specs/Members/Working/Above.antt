-- Kept answers of classes: the virtual methods that each superclass has, by token.
use Rattle.std.specs.Prelude.{◌≡◌, ℕ, ◌-◌, ◌<◌, List, [], length, get_or, take, reverse, Bool, false, nat_lt, nat_le}
use Rattle.std.specs.Prelude.{if◌then◌else◌}
use Rattle.cjc_capread.specs.declared.tree.ClassEntry.{ClassEntry}
use Rattle.cjc_capread.specs.declared.tree.ClassInfo.{ClassInfo}
use Rattle.cjc_capread.specs.declared.tree.ClassRef.{ClassRef}
use Rattle.cjc_check_rules.specs.ExportFile.declared.tree.ExportTree.{ExportTree}
use Rattle.cjc_check_rules.specs.Spots.{Placed}
use Rattle.cjc_check_rules.specs.Classes.{classes_at}
use Rattle.cjc_check_rules.specs.Members.{base_of, has_token, place_of, table_of}

-- a class has a virtual method of a token, where it is known whether its superclass has one
abbrev pub class_answer : ClassEntry → (token : ℕ) → (above : Bool) → Bool
class_answer c token above = if nat_le (base_of c token) (place_of token) then nat_lt (place_of token - base_of c token)
    (length (table_of c token)) else above

-- the same of one table
abbrev pub table_answer : (base : ℕ) → (table : List ℕ) → (place : ℕ) → (above : Bool) → Bool
table_answer base table place above = if nat_le base place then nat_lt (place - base) (length table) else above

-- a class_ref's class has a virtual method of a token, as far as so many of the first classes go
abbrev pub has_among : ClassInfo → List ExportTree → (count : ℕ) → ClassRef → (token : ℕ) → Bool
has_among info exports count class token = has_token (reverse (take count (classes_at info))) exports class token

-- of each of the first classes, by token, whether its superclass has one
abbrev pub AreAbove : ClassInfo → List ExportTree → List (List Bool) → Type 0
AreAbove info exports tables = (i token : ℕ) (d : Placed ClassEntry) → i < length tables → token < 256
    → get_or (get_or tables i []) token false ≡ has_among info exports i (get_or (classes_at info) i d).item.superclass
    token
