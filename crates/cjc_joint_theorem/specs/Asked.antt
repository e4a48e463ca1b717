-- What narrow code of several packages that run together names: each call by the package that asks, in whose own world
-- the member is looked up, and what is found there stands for the joint world's.
use Rattle.std.specs.Prelude.{ℕ, List, [], ◌∷◌, map, slice_get, Option, Some, None, option_map, option_and_then}
use Rattle.std.specs.Prelude.{true}
use Rattle.std.specs.Prelude.{false, if◌then◌else◌}
use Rattle.cjc_bytes.specs.declared.fault.MemberId.{MemberId}
use Rattle.cjc_script.specs.Sorts.{Shape, shape_name}
use Rattle.cjc_script.specs.declared.script.Script.{Script}
use Rattle.cjc_script.specs.declared.report.Report.{Report}
use Rattle.cjc_card_semantics.specs.Bytecode.Machine.{Reached, Nowhere}
use Rattle.cjc_world.specs.declared.image.StaticImage.{StaticImage}
use Rattle.cjc_world.specs.Files.{Files}
use Rattle.cjc_world.specs.Classes.{Class, all_classes}
use Rattle.cjc_world.specs.Subtype.{is_subtype}
use Rattle.cjc_ncode.specs.declared.narrow.NInsn.{NInsn}
use Rattle.cjc_ncode.specs.declared.narrow.NInsn.TheVariants as insns
use Rattle.cjc_ncode.specs.declared.narrow.NMethod.{NMethod}
use Rattle.cjc_ncode.specs.declared.narrow.PoolKey.{PoolKey}
use Rattle.cjc_ncode.specs.declared.narrow.PoolKey.TheVariants as keys
use Rattle.cjc_ncode.specs.Written.{Resolution}
use Rattle.cjc_ncode.specs.ByLabel.{Callee, Fixed, OnObject, OnSuper, OnInterface, Named}
use Rattle.cjc_ncode.specs.ByLabel
use Rattle.cjc_jvm_semantics.specs.Linked.{Method}
use Rattle.cjc_jvm_semantics.specs.Linked
use Rattle.cjc_jvm_semantics.specs.OnePackage.{of_class}
use Rattle.cjc_jvm_semantics.specs.Group.{joint, group_sent}
use Rattle.cjc_narrow.specs.Rows.Package.{start_of, reached_by, words_where, named_by}
use Rattle.cjc_joint_proof.specs.JointNames.{hit_for, direct, selected, above, by_interface}

-- ---- who asks

-- a member that the package at this place asks for
abbrev pub asked_by : (asker : ℕ) → MemberId → MemberId
asked_by q m = record m { class = q ∷ m.class }

-- the key of a call that the package asks for
abbrev pub key_by : (asker : ℕ) → PoolKey → PoolKey
key_by q (keys.Virtual m) = keys.Virtual (asked_by q m)
key_by q (keys.Super m) = keys.Super (asked_by q m)
key_by q (keys.StaticMethod m) = keys.StaticMethod (asked_by q m)
key_by q key = key

-- what names in code of the package stand for
abbrev pub resolved_by : (asker : ℕ) → Resolution → Resolution
resolved_by q r = record r {
  virtual = λ id. key_by q (r.virtual id);
  special = λ id. key_by q (r.special id);
  static = λ id. key_by q (r.static id);
  interface = λ id. asked_by q (r.interface id);
}

-- a call that the package asks for
abbrev pub callee_by : (asker : ℕ) → Callee → Callee
callee_by q (Fixed on m) = Fixed on (asked_by q m)
callee_by q (OnObject m) = OnObject (asked_by q m)
callee_by q (OnSuper m) = OnSuper (asked_by q m)
callee_by q (OnInterface words m) = OnInterface words (asked_by q m)

-- an instruction of its code
abbrev pub insn_by : (asker : ℕ) → NInsn → NInsn
insn_by q (insns.Named op key) = insns.Named op (key_by q key)
insn_by q (insns.Interface nargs m) = insns.Interface nargs (asked_by q m)
insn_by q insn = insn

-- its code
abbrev pub code_by : (asker : ℕ) → NMethod → NMethod
code_by q m = record m { insns = map (insn_by q) m.insns }

-- the class that a member names
abbrev pub class_without : (class : List ℕ) → List ℕ
class_without [] = []
class_without (q ∷ class) = class

-- what a look-up from the asker's files finds
abbrev pub from_asker : {A : Type 0} → (group : List Files) → (look : Files → MemberId → Option A) → MemberId
    → (class : List ℕ) → Option A
from_asker group look m [] = None
from_asker group look m (q ∷ class) = option_and_then (λ p. look p (of_class class m)) (slice_get group q)

-- ---- calls

module _ (group : List Files) (files : Files) (w : List Class) where
  -- what a call selects on a receiver of a type
  abbrev pub selected_for : Callee → (type : List ℕ) → Option Linked.Callee
  selected_for (Fixed on m) type = from_asker group (direct files w) m m.class
  selected_for (OnObject m) type = from_asker group (λ p n. selected files w p n type) m m.class
  selected_for (OnSuper m) type = from_asker group (above files w) m m.class
  selected_for (OnInterface words m) type = from_asker group (λ p n. by_interface files w p n type) m m.class

  -- without receiver, a static method alone
  abbrev pub static_for : Callee → Option Linked.Callee
  static_for (Fixed false m) = from_asker group (direct files w) m m.class
  static_for callee = None

  -- the class whose objects a call takes
  abbrev pub class_for : Callee → List ℕ
  class_for (Fixed on m) = class_without m.class
  class_for (OnObject m) = class_without m.class
  class_for (OnSuper m) = class_without m.class
  class_for (OnInterface words m) = class_without m.class

  -- What a call reaches: on a receiver that is not of the class that it names, nothing.
  abbrev pub reached_for : (code : Method → NMethod) → Callee → Option (Shape (List ℕ)) → Reached NMethod
  reached_for code callee None = reached_by code (static_for callee)
  reached_for code callee (Some kind) =
      if is_subtype w (shape_name kind) (class_for callee)
      then reached_by code (selected_for callee (shape_name kind)) else Nowhere

  -- How many words a call takes: none where its member is nowhere.
  abbrev pub words_for : Callee → Option ℕ
  words_for (Fixed on m) = words_where on m (from_asker group (hit_for files w) m m.class)
  words_for (OnObject m) = words_where true m (from_asker group (hit_for files w) m m.class)
  words_for (OnSuper m) = words_where true m (from_asker group (above files w) m m.class)
  words_for (OnInterface n m) = from_asker group (λ p id. Some n) m m.class

  -- the look-ups over the classes of the joint world
  abbrev pub group_named_by : StaticImage → (code : Method → NMethod) → Named
  group_named_by image code = record (named_by files image w code) {
    reached = reached_for code;
    words = words_for;
    sent = λ kind id. option_map (start_of code) (group_sent files w (shape_name kind) id);
  }

-- The look-ups of packages that run together, where this narrow code is written for their methods.
unfoldable pub group_named : (group : List Files) → StaticImage → (code : Method → NMethod) → Named
group_named group image code = group_named_by group (joint group) (all_classes (joint group)) image code

-- The run of n instructions of their narrow code.
abbrev pub run : (group : List Files) → StaticImage → (code : Method → NMethod) → Script → ℕ → Report
run group image code script n = ByLabel.run (group_named group image code) script n
