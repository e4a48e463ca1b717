-- What a class gets from java/lang/Object of an export file (Java Card Virtual Machine Specification 2.2.2, 4.3.7.6).
use Rattle.std.specs.Prelude.{◌≡◌, ℕ, zero, suc, ◌+◌, ◌==◌, ◌&&◌, ◌||◌, not, max, List, [], ◌∷◌, ◌++◌, Bool, false, Option, Some, option_to_list, if◌then◌else◌}
use Rattle.std.specs.List.{find}
use Rattle.std.specs.Str.{bytes_eq}
use Rattle.cjc_export.specs.Members.{is_unbound}
use Rattle.cjc_export.specs.declared.tree.ExportMethod.{ExportMethod}
use Rattle.cjc_export.specs.declared.tree.ExportClass.{ExportClass}
use Rattle.cjc_export.specs.declared.tree.ExportTree.{ExportTree}
use Rattle.cjc_bytes.specs.AccessFlags.{is_interface, is_public, is_private, is_protected}
use Rattle.cjc_first.specs.FirstForm.{object}

-- the class java/lang/Object
abbrev pub root_of : ExportTree → Option ExportClass
root_of lang = find (λ c. bytes_eq c.name object) lang.classes

-- The class is java/lang/Object of the export file, no interface, and nothing stands above it.
pub record IsRoot (lang : ExportTree) (root : ExportClass) : Type 0 where
  pub named : root_of lang ≡ Some root
  pub is_class : is_interface root.flags ≡ false
  pub supers : root.supers ≡ []
  pub interfaces : root.interfaces ≡ []

-- neither static nor a constructor
abbrev pub is_virtual : ExportMethod → Bool
is_virtual m = not (is_unbound m.flags m.name)

-- no new method of a subclass has the token of such a method; a private one has a token of its own class
abbrev pub takes_token : ExportMethod → Bool
takes_token m = is_virtual m && not (is_private m.flags)

-- the token next to the greatest that is taken, or 0
abbrev pub free_token : List ExportMethod → ℕ
free_token [] = 0
free_token (m ∷ ms) = if takes_token m then max (m.token + 1) (free_token ms) else free_token ms

-- a method that a class of another package inherits
abbrev pub is_inherited : ExportMethod → Bool
is_inherited m = is_virtual m && (is_public m.flags || is_protected m.flags)

-- the inherited method of a token, if there is one
abbrev pub with_token : ℕ → List ExportMethod → List ExportMethod
with_token token ms = option_to_list (find (λ m. is_inherited m && m.token == token) ms)

-- those of so many tokens from one on
unfoldable pub by_token : (count token : ℕ) → List ExportMethod → List ExportMethod
by_token zero token ms = []
by_token (suc count) token ms = with_token token ms ++ by_token count (token + 1) ms

-- all inherited methods, by token; the tokens of virtual methods are 0 to 127
abbrev pub inherited : ExportClass → List ExportMethod
inherited c = by_token 128 0 c.methods
