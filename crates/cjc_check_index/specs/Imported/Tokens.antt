-- What imported classes have by token, as it is kept: made once for the classes of all export files (Java Card
-- Virtual Machine Specification 2.2.2, 4.3.7 and chapter 5).
use Rattle.std.specs.Prelude.{◌≡◌, ℕ, ◌+◌, List, [], ◌∷◌, map, length, Bool, ◌||◌, Some}
use Rattle.std.specs.List.{range_with_len, list_any}
use Rattle.cjc_check_rules.specs.ExportFile.declared.tree.ExportClass.{ExportClass}
use Rattle.cjc_check_rules.specs.ExportFile.declared.tree.ExportTree.{ExportTree}
use Rattle.cjc_check_rules.specs.ExportFile.Supers.{classes_of, upwards, has_virtual, inherits_virtual}
use Rattle.cjc_check_index.specs.declared.imported.tokens.Tokens.{Tokens}
use Rattle.cjc_check_rules.specs.Members.{has_static_field, has_static_method, lists_field}

-- what a byte holds
unfoldable pub all_tokens : List ℕ
all_tokens = range_with_len 0 256

-- of each class its answers by token
abbrev pub each_class : (test : (token : ℕ) → ExportClass → Bool) → List ExportClass → List (List Bool)
each_class test classes = map (λ c. map (λ token. test token c) all_tokens) classes

-- by token the answers of all classes
abbrev pub by_token : (test : (token : ℕ) → ExportClass → Bool) → List ExportClass → List (List Bool)
by_token test classes = map (λ token. map (test token) classes) all_tokens

-- the class or one of its supers lists an instance field with this token
abbrev pub has_field : List ExportClass → (token : ℕ) → ExportClass → Bool
has_field classes token c = lists_field token c || list_any (lists_field token) (upwards classes c.supers)

-- the class itself lists a static method or constructor with this token
abbrev pub static_method : (token : ℕ) → ExportClass → Bool
static_method token c = has_static_method (Some c) token

-- the class itself lists a static field with this token that is no constant
abbrev pub static_field : (token : ℕ) → ExportClass → Bool
static_field token c = has_static_field (Some c) token

-- where the classes of each file begin among those of all files
abbrev pub file_starts : (from : ℕ) → List ExportTree → List ℕ
file_starts from [] = []
file_starts from (t ∷ exports) = from ∷ file_starts (from + length t.classes) exports

-- the answers kept are those of the classes of these export files, and the starts those of the files
pub record AreTokens (exports : List ExportTree) (t : Tokens) : Type 0 where
  pub starts : t.starts ≡ file_starts 0 exports
  pub virtuals : t.virtuals ≡ by_token (has_virtual (classes_of exports)) (classes_of exports)
  pub inherited : t.inherited ≡ by_token (inherits_virtual (classes_of exports)) (classes_of exports)
  pub fields : t.fields ≡ by_token (has_field (classes_of exports)) (classes_of exports)
  pub static_methods : t.static_methods ≡ each_class static_method (classes_of exports)
  pub static_fields : t.static_fields ≡ each_class static_field (classes_of exports)
