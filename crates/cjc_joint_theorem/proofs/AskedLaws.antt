-- Narrow code of several packages whose calls carry the package that asks runs as the machine that knows the package of
-- each method.
use Rattle.std.proofs.Common.{◌≡◌, ℕ, ◌+◌, refl, ap, sym, ◌∙◌, Bool, true, false, List, [], ◌∷◌, map, Option, Some}
use Rattle.std.proofs.Common.{None, ℤ}
use Rattle.std.specs.Prelude.{option_map, option_and_then, slice_get, nat_le, nat_lt, ◌&&◌, ◌*◌, pos, if◌then◌else◌}
use Rattle.cjc_bytes.specs.declared.fault.MemberId.{MemberId}
use Rattle.cjc_bytes.proofs.Gets.{get_mapped}
use Rattle.cjc_script.specs.Sorts.{Element, Shape, OfClass, OfNumbers, OfReferences, shape_name}
use Rattle.cjc_script.specs.declared.script.Script.{Script}
use Rattle.cjc_script.specs.declared.report.Outcome.TheVariants.{Stuck}
use Rattle.cjc_script.specs.declared.report.Report.{Report}
use Rattle.cjc_card_semantics.specs.Bytecode.Effects.{Arm, Slot, Do, Branch, Pick, Touch, Get, Put}
use Rattle.cjc_card_semantics.specs.Bytecode.Effects.{GetStatic}
use Rattle.cjc_card_semantics.specs.Bytecode.Effects.{PutStatic, Call, New, NewNumbers, NewReferences, Cast, Ask}
use Rattle.cjc_card_semantics.specs.Bytecode.Effects.{Undone}
use Rattle.cjc_card_semantics.specs.Bytecode.Meanings.{Meaning, Plain, Branches, Ranged, Paired, Touches, Uses, Casts}
use Rattle.cjc_card_semantics.specs.Bytecode.Meanings.{CallsInterface, MakesNumbers, Asks, Nothing, Use, Gets, Puts}
use Rattle.cjc_card_semantics.specs.Bytecode.Meanings.{GetsStatic, PutsStatic, Calls, Makes, MakesReferences, Mode}
use Rattle.cjc_card_semantics.specs.Bytecode.Meanings.{Virtual, Special, Static, meaning}
use Rattle.cjc_card_semantics.specs.Bytecode.Renaming.{option_as, shape_as, arm_as, operation_as, heap_object_as, Knows}
use Rattle.cjc_card_semantics.specs.Bytecode.Renaming.{AreAlike, KnownShape, KnownHeap, KnownOperation, no_things}
use Rattle.cjc_card_semantics.specs.Bytecode.Renaming.{one_thing, numbers_known, object_known}
use Rattle.cjc_card_semantics.specs.Bytecode.Machine.{Fetched, Reached, Start, Within, Abroad, Nowhere}
use Rattle.cjc_card_semantics.specs.Bytecode.Machine
use Rattle.cjc_card_semantics.specs.Bytecode.Alike.{Names, SettingsAlike, MissesAlike, KnownState, no_frames}
use Rattle.cjc_card_semantics.specs.Bytecode.Alike.{start_as, reached_as, fetched_as, state_as}
use Rattle.cjc_card_semantics.proofs.BytecodeLaws.Together.{runs_agree, runs_stick_alike}
use Rattle.cjc_world.specs.Files.{Files}
use Rattle.cjc_world.specs.Classes.{Class, all_classes}
use Rattle.cjc_world.specs.Subtype.{is_subtype}
use Rattle.cjc_world.specs.declared.image.ArrayCell.{ArrayCell}
use Rattle.cjc_world.specs.declared.image.StaticImage.{StaticImage}
use Rattle.cjc_ncode.specs.declared.narrow.NCase.{NCase}
use Rattle.cjc_ncode.specs.declared.narrow.NCatch.{NCatch}
use Rattle.cjc_ncode.specs.declared.narrow.NInsn.{NInsn}
use Rattle.cjc_ncode.specs.declared.narrow.NInsn.TheVariants as insns
use Rattle.cjc_ncode.specs.declared.narrow.NMethod.{NMethod}
use Rattle.cjc_ncode.specs.declared.narrow.PoolKey.{PoolKey}
use Rattle.cjc_ncode.specs.declared.narrow.PoolKey.TheVariants as keys
use Rattle.cjc_ncode.specs.ByLabel.{Callee, Fixed, OnObject, OnSuper, OnInterface, Resolved, by_label}
use Rattle.cjc_ncode.specs.ByLabel.{arm_of, ranged, operation, plain, jumping, switching, naming, using, call_if}
use Rattle.cjc_ncode.specs.ByLabel.{calling, testing}
use Rattle.cjc_ncode.specs.ByLabel.{type_by, making, element_type, fetch, handler, takes, on_object, put_static}
use Rattle.cjc_ncode.specs.Lowering.Agreement.{Cells}
use Rattle.cjc_ncode.proofs.LoweringLaws.ByCode.{option_stays, shape_stays}
use Rattle.cjc_jvm_semantics.specs.Linked.{Method, Inside}
use Rattle.cjc_jvm_semantics.specs.Linked
use Rattle.cjc_jvm_semantics.specs.OnePackage.{ResolvedMember, entry_named}
use Rattle.cjc_jvm_semantics.specs.Group.{joint, group_sent}
use Rattle.cjc_narrow.specs.Rows.Package.{first_array, start_of, reached_by, words_where}
use Rattle.cjc_joint_proof.specs.JointCode.{InPackage, JointOperation, of_package, operation_in, fetched_in}
use Rattle.cjc_joint_proof.specs.JointCode.{by_label_in}
use Rattle.cjc_joint_proof.specs.JointCode as joint_code
use Rattle.cjc_joint_proof.specs.JointNames.{place_of, hit_for, direct, selected, above, by_interface}
use Rattle.cjc_joint_proof.specs.JointNames.{callee_for, words_for, start_for, reached_for, joint_named}
use Rattle.cjc_joint_proof.specs.JointNames.{joint_labels}
use Rattle.cjc_joint_theorem.specs.Asked.{asked_by, key_by, callee_by, insn_by, code_by, group_named}
use Rattle.cjc_joint_theorem.specs.Asked as asked

abbrev Name : Type 0
Name = List ℕ

-- ---- operations

arms_stay : (arms : List Arm) → map (arm_as (λ label. label)) (map (arm_as (λ label. label)) arms) ≡ arms
arms_stay [] = refl
arms_stay (arm ∷ arms) = ap (λ x. arm ∷ x) (arms_stay arms)

-- what an operation of a package's code asks, with the package in its calls
abbrev asked_for : ℕ → Resolved → Resolved
asked_for q o = operation_as (λ c. c) (λ f. f) (λ f. f) (λ (m : InPackage Callee). callee_by m.part m.item)
    (λ label. label) (operation_in q o)

plain_asked : (q : ℕ) (m : Meaning) (operands : List ℤ) → plain m operands ≡ asked_for q (plain m operands)
plain_asked q (Plain calculation) operands = refl
plain_asked q (Branches test) operands = refl
plain_asked q (Ranged is_int) operands = refl
plain_asked q (Paired is_int) operands = refl
plain_asked q (Touches access) operands = refl
plain_asked q (Uses how) operands = refl
plain_asked q CallsInterface operands = refl
plain_asked q MakesNumbers operands = refl
plain_asked q Casts operands = refl
plain_asked q Asks operands = refl
plain_asked q Nothing operands = refl

jumping_asked : (q : ℕ) (m : Meaning) (target : ℕ) → jumping m target ≡ asked_for q (jumping m target)
jumping_asked q (Plain calculation) target = refl
jumping_asked q (Branches test) target = refl
jumping_asked q (Ranged is_int) target = refl
jumping_asked q (Paired is_int) target = refl
jumping_asked q (Touches access) target = refl
jumping_asked q (Uses how) target = refl
jumping_asked q CallsInterface target = refl
jumping_asked q MakesNumbers target = refl
jumping_asked q Casts target = refl
jumping_asked q Asks target = refl
jumping_asked q Nothing target = refl

switching_asked : (q : ℕ) (m : Meaning) (other : ℕ) (low : ℤ) (cases : List NCase) → switching m other low cases
    ≡ asked_for q (switching m other low cases)
switching_asked q (Plain calculation) other low cases = refl
switching_asked q (Branches test) other low cases = refl
switching_asked q (Ranged is_int) other low cases = ap (Pick is_int other) (sym (arms_stay (ranged low cases)))
switching_asked q (Paired is_int) other low cases = ap (Pick is_int other) (sym (arms_stay (map arm_of cases)))
switching_asked q (Touches access) other low cases = refl
switching_asked q (Uses how) other low cases = refl
switching_asked q CallsInterface other low cases = refl
switching_asked q MakesNumbers other low cases = refl
switching_asked q Casts other low cases = refl
switching_asked q Asks other low cases = refl
switching_asked q Nothing other low cases = refl

testing_asked : (q : ℕ) (m : Meaning) (kind : Option (Shape Name)) → testing m kind ≡ asked_for q (testing m kind)
testing_asked q (Plain calculation) kind = refl
testing_asked q (Branches test) kind = refl
testing_asked q (Ranged is_int) kind = refl
testing_asked q (Paired is_int) kind = refl
testing_asked q (Touches access) kind = refl
testing_asked q (Uses how) kind = refl
testing_asked q CallsInterface kind = refl
testing_asked q MakesNumbers kind = refl
testing_asked q Casts None = refl
testing_asked q Casts (Some (OfClass c)) = refl
testing_asked q Casts (Some (OfNumbers element)) = refl
testing_asked q Casts (Some (OfReferences c)) = refl
testing_asked q Asks None = refl
testing_asked q Asks (Some (OfClass c)) = refl
testing_asked q Asks (Some (OfNumbers element)) = refl
testing_asked q Asks (Some (OfReferences c)) = refl
testing_asked q Nothing kind = refl

making_asked : (q : ℕ) (element : Option Element) → making element ≡ asked_for q (making element)
making_asked q None = refl
making_asked q (Some element) = refl

calling_asked : (q : ℕ) (mode : Mode) (key : PoolKey) → call_if (calling mode (key_by q key))
    ≡ asked_for q (call_if (calling mode key))
calling_asked q Virtual (keys.Class c) = refl
calling_asked q Virtual (keys.Field f) = refl
calling_asked q Virtual (keys.Virtual m) = refl
calling_asked q Virtual (keys.Super m) = refl
calling_asked q Virtual (keys.StaticField f) = refl
calling_asked q Virtual (keys.StaticMethod m) = refl
calling_asked q Special (keys.Class c) = refl
calling_asked q Special (keys.Field f) = refl
calling_asked q Special (keys.Virtual m) = refl
calling_asked q Special (keys.Super m) = refl
calling_asked q Special (keys.StaticField f) = refl
calling_asked q Special (keys.StaticMethod m) = refl
calling_asked q Static (keys.Class c) = refl
calling_asked q Static (keys.Field f) = refl
calling_asked q Static (keys.Virtual m) = refl
calling_asked q Static (keys.Super m) = refl
calling_asked q Static (keys.StaticField f) = refl
calling_asked q Static (keys.StaticMethod m) = refl

using_asked : (q : ℕ) (how : Use) (key : PoolKey) → using how (key_by q key) ≡ asked_for q (using how key)
using_asked q (Calls mode) key = calling_asked q mode key
using_asked q (Gets this letter) (keys.Class c) = refl
using_asked q (Gets this letter) (keys.Field f) = refl
using_asked q (Gets this letter) (keys.Virtual m) = refl
using_asked q (Gets this letter) (keys.Super m) = refl
using_asked q (Gets this letter) (keys.StaticField f) = refl
using_asked q (Gets this letter) (keys.StaticMethod m) = refl
using_asked q (Puts this letter) (keys.Class c) = refl
using_asked q (Puts this letter) (keys.Field f) = refl
using_asked q (Puts this letter) (keys.Virtual m) = refl
using_asked q (Puts this letter) (keys.Super m) = refl
using_asked q (Puts this letter) (keys.StaticField f) = refl
using_asked q (Puts this letter) (keys.StaticMethod m) = refl
using_asked q (GetsStatic letter) (keys.Class c) = refl
using_asked q (GetsStatic letter) (keys.Field f) = refl
using_asked q (GetsStatic letter) (keys.Virtual m) = refl
using_asked q (GetsStatic letter) (keys.Super m) = refl
using_asked q (GetsStatic letter) (keys.StaticField f) = refl
using_asked q (GetsStatic letter) (keys.StaticMethod m) = refl
using_asked q (PutsStatic letter) (keys.Class c) = refl
using_asked q (PutsStatic letter) (keys.Field f) = refl
using_asked q (PutsStatic letter) (keys.Virtual m) = refl
using_asked q (PutsStatic letter) (keys.Super m) = refl
using_asked q (PutsStatic letter) (keys.StaticField f) = refl
using_asked q (PutsStatic letter) (keys.StaticMethod m) = refl
using_asked q Makes (keys.Class c) = refl
using_asked q Makes (keys.Field f) = refl
using_asked q Makes (keys.Virtual m) = refl
using_asked q Makes (keys.Super m) = refl
using_asked q Makes (keys.StaticField f) = refl
using_asked q Makes (keys.StaticMethod m) = refl
using_asked q MakesReferences (keys.Class c) = refl
using_asked q MakesReferences (keys.Field f) = refl
using_asked q MakesReferences (keys.Virtual m) = refl
using_asked q MakesReferences (keys.Super m) = refl
using_asked q MakesReferences (keys.StaticField f) = refl
using_asked q MakesReferences (keys.StaticMethod m) = refl

naming_asked : (q : ℕ) (m : Meaning) (key : PoolKey) → naming m (key_by q key) ≡ asked_for q (naming m key)
naming_asked q (Plain calculation) key = refl
naming_asked q (Branches test) key = refl
naming_asked q (Ranged is_int) key = refl
naming_asked q (Paired is_int) key = refl
naming_asked q (Touches access) key = refl
naming_asked q (Uses how) key = using_asked q how key
naming_asked q CallsInterface key = refl
naming_asked q MakesNumbers key = refl
naming_asked q Casts key = refl
naming_asked q Asks key = refl
naming_asked q Nothing key = refl

operation_asked : (q : ℕ) (insn : NInsn) → operation (insn_by q insn) ≡ asked_for q (operation insn)
operation_asked q (insns.Op op) = plain_asked q (meaning op) []
operation_asked q (insns.Push op value) = plain_asked q (meaning op) (value ∷ [])
operation_asked q (insns.Local op index) = plain_asked q (meaning op) (pos index ∷ [])
operation_asked q (insns.Inc op index by) = plain_asked q (meaning op) (pos index ∷ by ∷ [])
operation_asked q (insns.Words op m n) = plain_asked q (meaning op) (pos (16 * m + n) ∷ [])
operation_asked q (insns.Jump op target) = jumping_asked q (meaning op) target
operation_asked q (insns.Switch op other low cases) = switching_asked q (meaning op) other low cases
operation_asked q (insns.Named op key) = naming_asked q (meaning op) key
operation_asked q (insns.Interface nargs method) = refl
operation_asked q (insns.NewArray kind) = making_asked q (element_type kind)
operation_asked q (insns.TypeTest op kind class) = testing_asked q (meaning op) (type_by kind class)

-- ---- what is known: everything

abbrev every : Knows Name MemberId MemberId Cells
every = record {
  class = λ c. Unit {0};
  field = λ f. Unit {0};
  cell = λ letter f. Unit {0};
  statics = λ x. Unit {0};
  object = λ c fields. Unit {0};
}

abbrev AnyCode : InPackage NMethod → Type 0
AnyCode p = Unit {0}

abbrev AnyCall : InPackage Callee → Type 0
AnyCall m = Unit {0}

shape_known : (kind : Shape Name) → KnownShape every kind
shape_known (OfClass c) = tt
shape_known (OfNumbers element) = tt
shape_known (OfReferences c) = tt

operation_known : (o : JointOperation) → KnownOperation every AnyCall o
operation_known (Do calculation) = tt
operation_known (Branch test to) = tt
operation_known (Pick is_int other arms) = tt
operation_known (Touch access) = tt
operation_known (Get this letter f) = tt
operation_known (Put this letter f) = tt
operation_known (GetStatic letter s) = tt
operation_known (PutStatic letter s) = tt
operation_known (Call m) = tt
operation_known (New c) = tt
operation_known (NewNumbers element) = tt
operation_known (NewReferences c) = tt
operation_known (Cast kind) = shape_known kind
operation_known (Ask kind) = shape_known kind
operation_known Undone = tt

-- ---- both machines

-- the package goes into the calls
abbrev into_calls : Names (InPackage NMethod) Name MemberId MemberId (InPackage Callee) Cells NMethod Name MemberId
    MemberId Callee Cells
into_calls = record {
  class = λ c. c;
  field = λ f. f;
  slots = λ c slots. slots;
  cell = λ f. f;
  method = λ m. callee_by m.part m.item;
  statics = λ x. x;
  code = λ p. code_by p.part p.item;
  to = λ p label. label;
}

-- an instruction as it is fetched at a place
abbrev shown : (at : ℕ) → NInsn → Fetched Name MemberId MemberId Callee
shown at insn = record { operation = operation insn; next = at + 1 }

on_object_asked : (q : ℕ) (m : Callee) → on_object (callee_by q m) ≡ on_object m
on_object_asked q (Fixed on m) = refl
on_object_asked q (OnObject m) = refl
on_object_asked q (OnSuper m) = refl
on_object_asked q (OnInterface words m) = refl

module _ (group : List Files) (image : StaticImage) (one other : Method → NMethod)
    (same : (m : Method) → other m ≡ code_by (let id = m.id in place_of group id.class) (one m)) where
  abbrev files : Files
  files = joint group

  abbrev w : List Class
  w = all_classes (joint group)

  -- the machine that knows the package of each method, and the one whose calls tell it
  abbrev set : Machine.Setting (InPackage NMethod) Name MemberId MemberId (InPackage Callee) Cells
  set = by_label_in (joint_named group image one) (joint_labels group one)

  abbrev set' : Machine.Setting NMethod Name MemberId MemberId Callee Cells
  set' = by_label (group_named group image other)

  classes_alike : AreAlike every (λ c. c) (λ f. f) (λ c slots. slots) (λ f. f) (λ x. x) set.classes set'.classes
  unfolding by_label_in by_label joint_named group_named
  classes_alike = record {
    is_of = λ a b known_a known_b. ap (λ x. is_subtype w (shape_name x) (shape_name (shape_as (λ c. c) b)))
        (shape_stays a)
        ∙ ap (λ x. is_subtype w (shape_name a) (shape_name x)) (shape_stays b);
    get = λ c held f known_object known_field. refl;
    put = λ c held f old new known_object known_field there. refl;
    fresh = λ c held is_known there. there;
    fresh_known = λ c held is_known there. object_known tt tt;
    bare = λ c is_known. refl;
    get_static = λ letter s x known_cell known_statics. refl;
    put_static = λ letter s v x fits known_cell known_statics. sym (option_stays (put_static x s v));
    put_known = λ letter s v x y fits known_cell known_statics there. tt;
  }

  fetch_asked : (p : InPackage NMethod) (at : ℕ) (i : Fetched Name MemberId MemberId (InPackage Callee))
      → option_map (fetched_in p.part) (fetch p.item at) ≡ Some i → fetch (code_by p.part p.item) at
      ≡ Some (fetched_as into_calls p i)
  fetch_asked p at i e = by (slice_get (let m = p.item in m.insns) at) refl
    where
      by : (o : Option NInsn) → slice_get (let m = p.item in m.insns) at ≡ o → fetch (code_by p.part p.item) at
          ≡ Some (fetched_as into_calls p i)
      by None is = let clash : None ≡ Some i = sym (ap (λ o. option_map (fetched_in p.part) (option_map (shown at)
          o)) is)
          ∙ e in cc
      by (Some insn) is =
          let found : Some (fetched_in p.part (shown at insn)) ≡ Some i =
          sym (ap (λ o. option_map (fetched_in p.part) (option_map (shown at) o)) is) ∙ e in
          let i_is : fetched_in p.part (shown at insn) ≡ i = cc in
          ap (option_map (shown at)) (get_mapped (insn_by p.part) (let m = p.item in m.insns) at)
          ∙ ap (λ o. option_map (shown at) (option_map (insn_by p.part) o)) is
          ∙ ap (λ o. Some (record { operation = o; next = at + 1 })) (operation_asked p.part insn)
          ∙ ap (λ j. Some (fetched_as into_calls p j)) i_is

  takes_same : (o : Option Name) (kind : Shape Name) → takes (group_named group image other) o kind
      ≡ takes (joint_named group image one) o kind
  unfolding joint_named group_named
  takes_same None kind = refl
  takes_same (Some c) kind = refl

  handler_same : (catches : List NCatch) (at : ℕ) (kind : Shape Name)
      → handler (group_named group image other) catches at kind ≡ handler (joint_named group image one) catches at kind
  handler_same [] at kind = refl
  handler_same (c ∷ catches) at kind =
      ap (λ b. if (nat_le c.start at && nat_lt at c.end) && b then Some c.target
      else handler (group_named group image other) catches at kind) (takes_same c.class kind)
      ∙ ap (λ h. if (nat_le c.start at && nat_lt at c.end) && takes (joint_named group image one) c.class kind
      then Some c.target else h) (handler_same catches at kind)

  handler_asked : (catches : List NCatch) (at : ℕ) (kind : Shape Name)
      → handler (group_named group image other) catches at (shape_as (λ c. c) kind) ≡ option_as (λ label. label)
      (handler (joint_named group image one) catches at kind)
  handler_asked catches at kind = ap (handler (group_named group image other) catches at) (shape_stays kind)
      ∙ handler_same catches at kind ∙ sym (option_stays (handler (joint_named group image one) catches at kind))

  -- what is asked of the files of the package that asks
  words_same : (o : Option Files) (q : ℕ) (m : Callee) → slice_get group q ≡ o → asked.words_for group files w
      (callee_by q m) ≡ option_and_then (λ p. words_for files w p m) o
  words_same None q (Fixed on m) e = ap (λ o. words_where on (asked_by q m) (option_and_then (λ p. hit_for files w p m)
      o)) e
  words_same None q (OnObject m) e = ap (λ o. words_where true (asked_by q m) (option_and_then (λ p. hit_for files w p
      m) o)) e
  words_same None q (OnSuper m) e = ap (λ o. words_where true (asked_by q m) (option_and_then (λ p. above files w p m)
      o)) e
  words_same None q (OnInterface n m) e = ap (option_and_then (λ p. Some n)) e
  words_same (Some p) q (Fixed on m) e = ap (λ o. words_where on (asked_by q m) (option_and_then (λ p. hit_for files w
      p m) o)) e ∙ by (hit_for files w p m)
    where
      by : (o : Option ResolvedMember) → words_where on (asked_by q m) o ≡ words_where on m o
      by None = refl
      by (Some hit) = refl
  words_same (Some p) q (OnObject m) e = ap (λ o. words_where true (asked_by q m) (option_and_then (λ p. hit_for files
      w p m) o)) e ∙ by (hit_for files w p m)
    where
      by : (o : Option ResolvedMember) → words_where true (asked_by q m) o ≡ words_where true m o
      by None = refl
      by (Some hit) = refl
  words_same (Some p) q (OnSuper m) e = ap (λ o. words_where true (asked_by q m) (option_and_then (λ p. above files w p
      m) o)) e ∙ by (above files w p m)
    where
      by : (o : Option Linked.Callee) → words_where true (asked_by q m) o ≡ words_where true m o
      by None = refl
      by (Some callee) = refl
  words_same (Some p) q (OnInterface n m) e = ap (option_and_then (λ p. Some n)) e

  words_asked : (q : ℕ) (m : Callee) → asked.words_for group files w (callee_by q m)
      ≡ option_and_then (λ p. words_for files w p m) (slice_get group q)
  words_asked q m = words_same (slice_get group q) q m refl

  -- a method begins in the same code
  starts_same : (m : Method) → start_of other m ≡ start_as (λ (p : InPackage NMethod). code_by p.part p.item)
      (λ p label. label) (start_for group (start_of one) m)
  starts_same m = ap (λ n. record {
    code = n;
    at = 0;
    nargs = n.nargs;
    max_locals = n.max_locals;
    is_abstract = m.is_abstract;
  }) (same m)

  reached_same : (o : Option Linked.Callee) → reached_by other o
      ≡ reached_as (λ (p : InPackage NMethod). code_by p.part p.item) (λ p label. label) (reached_for group
      (start_of one) o)
  reached_same None = refl
  reached_same (Some (Inside m)) = ap (λ s. Within s) (starts_same m)
  reached_same (Some (Linked.Abroad event)) = refl

  abbrev shown_as : Option Linked.Callee → Reached NMethod
  shown_as o = reached_as (λ (p : InPackage NMethod). code_by p.part p.item) (λ p label. label) (reached_for group
      (start_of one) o)

  static_same : (q : ℕ) (m : Callee) → asked.static_for group files w (callee_by q m)
      ≡ option_and_then (λ p. callee_for files w p m None) (slice_get group q)
  static_same q (Fixed false m) = refl
  static_same q (Fixed true m) = by (slice_get group q)
    where
      by : (o : Option Files) → None ≡ option_and_then (λ p. callee_for files w p (Fixed true m) None) o
      by None = refl
      by (Some p) = refl
  static_same q (OnObject m) = by (slice_get group q)
    where
      by : (o : Option Files) → None ≡ option_and_then (λ p. callee_for files w p (OnObject m) None) o
      by None = refl
      by (Some p) = refl
  static_same q (OnSuper m) = by (slice_get group q)
    where
      by : (o : Option Files) → None ≡ option_and_then (λ p. callee_for files w p (OnSuper m) None) o
      by None = refl
      by (Some p) = refl
  static_same q (OnInterface n m) = by (slice_get group q)
    where
      by : (o : Option Files) → None ≡ option_and_then (λ p. callee_for files w p (OnInterface n m) None) o
      by None = refl
      by (Some p) = refl

  -- on a receiver that is of the class, or that is not
  guarded : (b : Bool) (o : Option Files) (look : Files → Option Linked.Callee)
      → (if b then reached_by other (option_and_then look o) else Nowhere)
      ≡ shown_as (option_and_then (λ p. if b then look p else None) o)
  guarded true o look = reached_same (option_and_then look o)
  guarded false None look = refl
  guarded false (Some p) look = refl

  object_same : (q : ℕ) (m : Callee) (kind : Shape Name) → asked.reached_for group files w other (callee_by q m)
      (Some kind) ≡ shown_as (option_and_then (λ p. callee_for files w p m (Some kind)) (slice_get group q))
  object_same q (Fixed on m) kind = guarded (is_subtype w (shape_name kind) m.class) (slice_get group q)
      (λ p. direct files w p m)
  object_same q (OnObject m) kind = guarded (is_subtype w (shape_name kind) m.class) (slice_get group q)
      (λ p. selected files w p m (shape_name kind))
  object_same q (OnSuper m) kind = guarded (is_subtype w (shape_name kind) m.class) (slice_get group q)
      (λ p. above files w p m)
  object_same q (OnInterface n m) kind = guarded (is_subtype w (shape_name kind) m.class) (slice_get group q)
      (λ p. by_interface files w p m (shape_name kind))

  reached_asked : (q : ℕ) (m : Callee) (o : Option (Shape Name)) → asked.reached_for group files w other
      (callee_by q m) (option_as (shape_as (λ c. c)) o)
      ≡ shown_as (option_and_then (λ p. callee_for files w p m o) (slice_get group q))
  reached_asked q m None = ap (reached_by other) (static_same q m)
      ∙ reached_same (option_and_then (λ p. callee_for files w p m None) (slice_get group q))
  reached_asked q m (Some kind) = ap (λ k. asked.reached_for group files w other (callee_by q m) (Some k))
      (shape_stays kind) ∙ object_same q m kind

  methods_same : (o : Option Method) → option_map (start_of other) o
      ≡ option_as (start_as (λ (p : InPackage NMethod). code_by p.part p.item) (λ p label. label))
      (option_map (start_for group (start_of one)) o)
  methods_same None = refl
  methods_same (Some m) = ap Some (starts_same m)

  settings_alike : SettingsAlike into_calls every AnyCode AnyCall set set'
  unfolding by_label_in by_label joint_named joint_labels group_named
  settings_alike = record {
    classes = classes_alike;
    room = λ p is_known. refl;
    fetch = λ p at i is_known e. fetch_asked p at i e;
    fetch_known = λ p at i is_known e. operation_known i.operation;
    handler = λ p at kind is_known known_kind. handler_asked (let m = p.item in m.catches) at kind;
    on_object = λ m is_known. on_object_asked m.part m.item;
    words = λ m n is_known e. words_asked m.part m.item ∙ e;
    reached = λ m o r is_known known_kind e is_found. reached_asked m.part m.item o
        ∙ ap (reached_as (λ (p : InPackage NMethod). code_by p.part p.item) (λ p label. label)) e;
    reached_known = λ m o start is_known known_kind e. tt;
    fault = λ f. sym (option_stays (let l = joint_named group image one in l.fault f));
    fault_known = λ f c e. object_known tt tt;
    class_named = λ name. sym (option_stays (let l = joint_named group image one in l.class_named name));
    class_named_known = λ name c e. tt;
    imported = λ name. sym (option_stays (let l = joint_named group image one in l.imported name));
    imported_known = λ name c e. object_known tt tt;
    throwable = λ name. sym (option_stays (let l = joint_named group image one in l.throwable name));
    throwable_known = λ name c e. object_known tt tt;
    called = λ id. methods_same (entry_named files w id);
    called_known = λ id start e. tt;
    sent = λ kind id is_known. ap (λ k. option_map (start_of other) (group_sent files w (shape_name k) id))
        (shape_stays kind) ∙ methods_same (group_sent files w (shape_name kind) id);
    sent_known = λ kind id start is_known e. tt;
    name = λ c is_known. refl;
    fields = λ c slots is_known. refl;
    cells = λ x is_known. refl;
  }

  fetch_misses : (p : InPackage NMethod) (at : ℕ) → option_map (fetched_in p.part) (fetch p.item at) ≡ None
      → fetch (code_by p.part p.item) at ≡ None
  fetch_misses p at e = by (slice_get (let m = p.item in m.insns) at) refl
    where
      by : (o : Option NInsn) → slice_get (let m = p.item in m.insns) at ≡ o → fetch (code_by p.part p.item) at ≡ None
      by None is = ap (option_map (shown at)) (get_mapped (insn_by p.part) (let m = p.item in m.insns) at)
          ∙ ap (λ o. option_map (shown at) (option_map (insn_by p.part) o)) is
      by (Some insn) is = let clash : Some (fetched_in p.part (shown at insn)) ≡ None =
          sym (ap (λ o. option_map (fetched_in p.part) (option_map (shown at) o)) is) ∙ e in cc

  misses_alike : MissesAlike into_calls every AnyCode AnyCall set set'
  unfolding by_label_in by_label joint_named joint_labels group_named
  misses_alike = record {
    unmade = λ c is_known none. none;
    fetch = λ p at is_known none. fetch_misses p at none;
    words = λ m is_known none. words_asked m.part m.item ∙ none;
    reached = λ m o is_known known_kind none. reached_asked m.part m.item o
        ∙ ap (reached_as (λ (p : InPackage NMethod). code_by p.part p.item) (λ p label. label)) none;
  }

  -- ---- from the first entry

  heap_stays : (arrays : List ArrayCell) → map (heap_object_as (λ (c : Name). c) (λ c (slots : List (Slot MemberId)).
      slots)) (map first_array arrays) ≡ map first_array arrays
  heap_stays [] = refl
  heap_stays (a ∷ arrays) = ap (λ xs. first_array a ∷ xs) (heap_stays arrays)

  heap_known : (arrays : List ArrayCell) → KnownHeap every (map first_array arrays)
  heap_known [] = no_things
  heap_known (a ∷ arrays) = one_thing numbers_known (heap_known arrays)

  abbrev begun : Script → Machine.State (InPackage NMethod) Name MemberId Cells
  begun script = Machine.start (let l = joint_named group image one in l.memory) script

  begun_known : (script : Script) → KnownState into_calls every AnyCode AnyCall (begun script)
  unfolding joint_named
  begun_known script = record { frames = no_frames; memory = record { heap = heap_known image.arrays; statics = tt } }

  begun_same : (script : Script) → state_as into_calls (begun script)
      ≡ Machine.start (let l = group_named group image other in l.memory) script
  unfolding joint_named group_named
  begun_same script = ap (λ heap. Machine.start (record {
    heap = heap;
    statics = (let l = joint_named group image one in let m = l.memory in m.statics);
  }) script) (heap_stays image.arrays)

  -- where the run whose calls tell the package is not stuck, both reports are one
  pub runs_in_package : (script : Script) (n : ℕ)
      → ((at : ℕ) → (let r = asked.run group image other script n in r.outcome) ≡ Stuck at → ⊥)
      → asked.run group image other script n ≡ joint_code.run (joint_named group image one) (joint_labels group one)
      script n
  runs_in_package script n free =
      let moved : Machine.run set' n (state_as into_calls (begun script)) ≡ asked.run group image other script n =
      ap (Machine.run set' n) (begun_same script) in
      let stuck = runs_stick_alike into_calls every AnyCode AnyCall set set' settings_alike misses_alike n
      (begun script) (begun_known script) (λ at e. free at (ap (λ (r : Report). r.outcome) (sym moved) ∙ e)) in
      sym moved ∙ runs_agree into_calls every AnyCode AnyCall set set' settings_alike n (begun script)
      (begun_known script) stuck
