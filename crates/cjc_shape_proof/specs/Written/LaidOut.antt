-- Packages whose methods are laid out, before what is written for them is measured.
use Rattle.std.specs.Prelude.{◌≡◌, true, ◌<◌, ◌≤◌, ◌^◌, ℕ, List, [], length, slice_get, Some}
use Rattle.std.specs.List.{AllByRecursion}
use Rattle.cjc_bytes.specs.AccessFlags.{is_interface}
use Rattle.cjc_bytes.specs.declared.settings.AppletLine.{AppletLine}
use Rattle.cjc_components.specs.ExportFile.{export_class}
use Rattle.cjc_components.specs.Exports.{exported_classes}
use Rattle.cjc_components.specs.Limits.{form_breaks, of_methods}
use Rattle.cjc_components.specs.Package.{Package}
use Rattle.cjc_world.specs.ExportFile.ExportFile.{method_count}
use Rattle.cjc_world.specs.ExportFile.Writable.{EachAfter, MethodStands}
use Rattle.cjc_shape.specs.LowerJudge.Spelt.{IsRead}
use Rattle.cjc_shape.specs.LowerJudge.declared.judged.Judged.{Judged}
use Rattle.cjc_classes.specs.List.Listed.{ListTree}
use Rattle.cjc_shape.specs.Prepared.{IsSound}
use Rattle.cjc_shape.specs.LowerIntPackage.Limits.{word_breaks_by_modes}
use Rattle.cjc_shape.specs.Whole.Conversion.{IsPackageByModesOf}
use Rattle.cjc_world.specs.Classes.{Class}

-- Each applet has an AID of at most 16 bytes, as the grammar of lists asks.
abbrev pub AidsAreShort : ListTree → Type 0
AidsAreShort list = AllByRecursion (λ (a : AppletLine). length a.aid ≤ 16) list.applets

-- The package of a list that was read and of its files, which break no rule; and it breaks neither 417, 311, 414 nor
-- 415, each method by its mode.
pub record IsLaidOut (list : ListTree) (files : List (List ℕ)) (judged : Judged) (p : Package) : Type 0 where
  pub read : IsRead list
  pub aids : AidsAreShort list
  pub sound : IsSound list files judged
  pub is_package : IsPackageByModesOf list files p
  pub words : of_methods p (word_breaks_by_modes is_package.tables p) ≡ []
  pub forms : form_breaks p ≡ []

-- The methods of a class of an export file can be counted, and each can stand behind those before it: its token is its
-- own, and no name of an interface's method begins as <init> does.
pub record MethodsStand (p : Package) (c : Class) : Type 0 where
  pub methods : (let e = export_class p c in length e.methods < 2 ^ 16)
  pub count : (let e = export_class p c in method_count (is_interface e.flags) (length e.methods)
      ≡ Some (length e.methods))
  pub each : (let e = export_class p c in EachAfter (MethodStands (is_interface e.flags) (length e.methods)) []
      e.methods)

-- those of each class that others may name
abbrev pub ExportedMethodsStand : Package → Type 0
ExportedMethodsStand p = (k : ℕ) (c : Class) → slice_get (exported_classes p) k ≡ Some c → MethodsStand p c

-- those of each interface that others may name
abbrev pub ExportedInterfacesStand : Package → Type 0
ExportedInterfacesStand p = (k : ℕ) (c : Class) → slice_get (exported_classes p) k ≡ Some c → is_interface c.flags
    ≡ true → MethodsStand p c
