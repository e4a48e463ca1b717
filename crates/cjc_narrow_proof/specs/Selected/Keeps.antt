-- The rules that a method of a package keeps, as far as what is selected for it rests on them.
use Rattle.std.specs.Prelude.{◌≡◌, ℕ, ◌≤◌, ◌<◌, ◌^◌, List, [], length, false, Option}
use Rattle.std.specs.List.{AllByRecursion, Contains}
use Rattle.cjc_bytes.specs.Format.{FileSpells}
use Rattle.cjc_bytes.specs.declared.settings.Settings.{Settings}
use Rattle.cjc_code.specs.ClassFile.ClassFile.{class_file}
use Rattle.cjc_code.specs.ClassFile.declared.tree.ClassTree.{ClassTree}
use Rattle.cjc_code.specs.ClassFile.declared.tree.MethodTree.{MethodTree}
use Rattle.cjc_code.specs.declared.method_code.MethodCode.{MethodCode}
use Rattle.cjc_narrow.specs.Rows.Package.{flags_of}
use Rattle.cjc_narrow.specs.Rows.Resolved.{method_found}
use Rattle.cjc_vtable.specs.LowerSubset.Checks.{check_breaks}
use Rattle.cjc_vtable.specs.LowerSubset.Ints.{code_works_on_int}
use Rattle.cjc_types.specs.declared.state.State.{State}
use Rattle.cjc_types.specs.Flow.{Body}
use Rattle.cjc_types.specs.Tables.{Breach}
use Rattle.cjc_world.specs.Classes.{all_classes}
use Rattle.cjc_world.specs.Files.{Files}

-- Bytes of a file, of 512 MiB at most, spell the class.
pub record IsSpelt (class : ClassTree) (bytes : List ℕ) : Type 0 where
  pub in_bytes : AllByRecursion (λ b. b < 256) bytes
  pub short : length bytes ≤ 2 ^ 29
  pub spelt : FileSpells class_file class bytes

-- The package breaks none of 301 to 310 and 401 to 409; the method does not work on int, and no instruction of it that
-- its table reaches breaks one of 501 to 503.
pub record KeepsRules (list : List ℕ) (files : Files) (codes : List MethodCode) (settings : Settings)
    (code : MethodCode) (b : Body) (rows : List (Option State)) : Type 0 where
  pub unbroken : check_breaks list files codes settings ≡ []
  pub no_int : code_works_on_int files code ≡ false
  pub listed : Contains codes code
  pub typed : (place rule : ℕ) → Breach (all_classes files) b rows place rule → ⊥

-- A look-up of the method's own name finds a method with its flags.
abbrev pub FindsItself : Files → ClassTree → MethodTree → Type 0
FindsItself files class method = flags_of (method_found (all_classes files) (record {
  class = class.name;
  name = method.name;
  desc = method.desc;
})) ≡ method.flags
