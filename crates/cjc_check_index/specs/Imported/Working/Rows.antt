-- Answers of classes by token, as they are made.
use Rattle.std.specs.Prelude.{ℕ, ◌==◌, ◌&&◌, ◌||◌, not, List, map, get_or, set, Bool, true, false, if◌then◌else◌}
use Rattle.std.specs.Prelude.{is_none}
use Rattle.std.specs.List.{list_any}
use Rattle.cjc_check_rules.specs.LowerBytes.AccessFlags.{is_static}
use Rattle.cjc_check_rules.specs.ExportFile.declared.tree.ExportClass.{ExportClass}
use Rattle.cjc_check_rules.specs.ExportFile.declared.tree.ExportField.{ExportField}
use Rattle.cjc_check_rules.specs.ExportFile.declared.tree.ExportMethod.{ExportMethod}
use Rattle.cjc_check_rules.specs.ExportFile.Supers.{is_virtual, upwards}
use Rattle.cjc_check_rules.specs.Members.{is_unbound}
use Rattle.cjc_check_index.specs.Imported.Working.Graph.{places}

-- ---- what a class lists

-- a method that is asked for: static or a constructor, or a virtual one
abbrev pub is_asked : (unbound : Bool) → ExportMethod → Bool
is_asked unbound m = if unbound then is_unbound m else is_virtual m

-- a class itself lists a method with this token that is asked for
abbrev pub lists_method : (unbound : Bool) → (token : ℕ) → ExportClass → Bool
lists_method unbound token c = list_any (λ m. is_asked unbound m && m.token == token) c.methods

-- a field that is no constant, static or not
abbrev pub is_wanted : (statics : Bool) → ExportField → Bool
is_wanted statics f = is_none f.constant && (if statics then is_static f.flags else not (is_static f.flags))

-- a class itself lists a field with this token that is wanted
abbrev pub lists_field : (statics : Bool) → (token : ℕ) → ExportClass → Bool
lists_field statics token c = list_any (λ f. is_wanted statics f && f.token == token) c.fields

-- an answer is put down
abbrev pub with_answer : (asked : Bool) → List Bool → (token : ℕ) → List Bool
with_answer asked answers token = if asked then set answers token true else answers

-- ---- rows

-- the answers of all classes to one token
abbrev pub column : List (List Bool) → (token : ℕ) → List Bool
column tables token = map (λ t. get_or t token false) tables

-- what a class has itself or by a class above it
abbrev pub has_or_inherits : (test : ExportClass → Bool) → List ExportClass → ExportClass → Bool
has_or_inherits test classes c = test c || list_any test (upwards classes c.supers)

-- what a class has by a class above it
abbrev pub inherits : (test : ExportClass → Bool) → List ExportClass → ExportClass → Bool
inherits test classes c = list_any test (upwards classes c.supers)

-- one of these places is marked
abbrev pub is_any_marked : List Bool → List ℕ → Bool
is_any_marked marks places = list_any (λ k. get_or marks k false) places
