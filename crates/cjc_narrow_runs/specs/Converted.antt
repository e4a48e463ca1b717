-- What is asked of a package so that its class files and the narrow code that is written for them run alike.
use Rattle.std.specs.Prelude.{◌≡◌, ℕ, Bool, true, List, codes, Some}
use Rattle.cjc_bytes.specs.Descriptor.{IsClassName}
use Rattle.cjc_bytes.specs.declared.fault.MemberId.{MemberId}
use Rattle.cjc_fixpoint.specs.Tables.{HasRow}
use Rattle.cjc_world.specs.Classes.{Class, class_named}
use Rattle.cjc_world.specs.Files.{Files}
use Rattle.cjc_world.specs.Classes.{all_classes}
use Rattle.cjc_world.specs.Subtype.{is_subtype}
use Rattle.cjc_world.specs.declared.image.StaticImage.{StaticImage}
use Rattle.cjc_types.specs.declared.state.State.{State}
use Rattle.cjc_ncode.specs.ByLabel.{Named}
use Rattle.cjc_by_name.specs.Linked.{Method, Linked}
use Rattle.cjc_by_name.specs.Effects.{Fault, exception_class}
use Rattle.cjc_by_name.specs.OnePackage.{is_plain_import}
use Rattle.cjc_by_name.specs.ByName.{linked}
use Rattle.cjc_shrink.specs.Relation.{Stores}
use Rattle.cjc_table_rules.specs.Package.{AreSupported, IsScripted}
use Rattle.cjc_narrow_runs.specs.Tables.{Tables, look_ups, analysis, HasTables}

-- An imported class, no interface, that is a java/lang/Throwable.
pub record IsException (w : List Class) (class : List ℕ) : Type 0 where
  pub imported : is_plain_import (class_named w class) ≡ true
  pub throwable : is_subtype w class (codes "java/lang/Throwable") ≡ true

-- Methods with a reached instruction have least tables that break no rule, classes have names of classes, and the machine's own exceptions are
-- imported. What code names is found alike by both machines, what scripts name too, and both start with the same heap and static cells.
pub record IsConverted (files : Files) (image : StaticImage) (near : List MemberId) (tables : Tables) : Type 0 where
  pub methods : (m : Method) (at : ℕ) (t : State) → HasRow (tables.types m) at t → HasTables files tables m
  pub names : (name : List ℕ) (c : Class) → class_named (all_classes files) name ≡ Some c → IsClassName name
  pub exceptions : (fault : Fault) → IsException (all_classes files) (exception_class fault)
  pub supported : (m : Method) → HasTables files tables m → AreSupported (linked files image) (look_ups files image near tables) (all_classes files) (analysis files image near tables) m
  pub scripted : (id : MemberId) → IsScripted (linked files image) (look_ups files image near tables) (all_classes files) (analysis files image near tables) id
  pub starts : (let by = linked files image in let l = look_ups files image near tables in Stores l (record { heap = by.heap; statics = by.statics }) l.memory)
