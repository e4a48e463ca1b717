-- What calls select that are dispatched by the class of their receiver, where packages are loaded together: by name in
-- the joint world, and by token on the card.
use Rattle.std.specs.Prelude.{◌≡◌, ◌++◌, ℕ, List, Option, Some, false, slice_get, true}
use Rattle.cjc_bytes.specs.AccessFlags.{is_interface}
use Rattle.cjc_bytes.specs.declared.fault.MemberId.{MemberId}
use Rattle.cjc_components.specs.Methods.{method_offset}
use Rattle.cjc_components.specs.Package.{Package, world}
use Rattle.cjc_joint_proof.specs.JointAlike.{IsOfGroup, callee_at, code_at, offset_at}
use Rattle.cjc_joint_proof.specs.JointCode.{InPackage, JointCalls, of_package}
use Rattle.cjc_joint_proof.specs.JointNames.{hit_for, joint_calls}
use Rattle.cjc_joint_proof.specs.JointPackages.{AreLinked, class_together, files_together}
use Rattle.cjc_joint_proof.specs.JointTables.{KeepSupers, world_together}
use Rattle.cjc_joint_proof.specs.JointTogether.{methods_together, naming_together}
use Rattle.cjc_joint_proof.specs.JointTowers.{loaded_together}
use Rattle.cjc_joint_proof.specs.Worlds.{before, found_in, outside_classes}
use Rattle.cjc_joint_theorem.specs.Ordered.{AreOrdered}
use Rattle.cjc_jvm_semantics.specs.Group.{is_of_group, is_open, joint, own_where, selection_for}
use Rattle.cjc_jvm_semantics.specs.Linked.{Method}
use Rattle.cjc_jvm_semantics.specs.OnePackage.{ResolvedMember, first_imported, is_initialiser, method_hit}
use Rattle.cjc_token_proof.specs.Calls.Dispatching.{event}
use Rattle.cjc_token_proof.specs.Calls.Reaching.{is_in_method, start_placed}
use Rattle.cjc_token_proof.specs.Calls.Selecting.{signature}
use Rattle.cjc_token_proof.specs.CardSemantics.Bytecode.Alike.{IsFound, reached_as, start_as}
use Rattle.cjc_token_proof.specs.CardSemantics.Bytecode.Machine.{Reached, Start, Within}
use Rattle.cjc_token_proof.specs.CardSemantics.Bytecode.Renaming.{option_as, shape_as}
use Rattle.cjc_token_proof.specs.CardSemantics.Machine.Calls as card
use Rattle.cjc_token_proof.specs.CardSemantics.Machine.Dispatch.{At, Outward, Selection, dispatched_open, tower}
use Rattle.cjc_token_proof.specs.NCode.ByLabel.{Callee, OnInterface, OnObject}
use Rattle.cjc_token_proof.specs.NCode.Lowering.Placed.{Placed}
use Rattle.cjc_token_proof.specs.Script.Sorts.{Shape, shape_name}
use Rattle.cjc_token_proof.specs.Tables.Infos.{HasEntry}
use Rattle.cjc_token_proof.specs.WrittenCalls.Calls.{Receives}
use Rattle.cjc_token_proof.specs.WrittenSends.Named.{FaultsAreClasses, is_called}
use Rattle.cjc_tokens.specs.Lines.{line_of}
use Rattle.cjc_tokens.specs.Members.{Signature, is_exposed, is_virtual}
use Rattle.cjc_tokens.specs.Slots.{slots, token}
use Rattle.cjc_vtable.specs.Calls.{is_special, selects_shown}
use Rattle.cjc_world.specs.Classes.{Class, Member, class_named, method_of_export}
use Rattle.cjc_world.specs.ClassFile.declared.tree.ClassTree.{ClassTree}
use Rattle.cjc_world.specs.ExportFile.declared.tree.ExportClass.{ExportClass}
use Rattle.cjc_world.specs.ExportFile.declared.tree.ExportMethod.{ExportMethod}
use Rattle.cjc_world.specs.Lookup.{find_method, first, is_selectable, receiver}
use Rattle.cjc_world.specs.Subtype.{is_subtype}
use Rattle.cjc_world.specs.Supertypes.{Lists, line}
use Rattle.cjc_world.specs.Upwards.{OnLine}
use Rattle.cjc_world.specs.declared.found.Found.{Found}
use Rattle.cjc_joint_whole.specs.Entries.{MeantAreListed, VirtualAreOwn}
use Rattle.cjc_joint_whole.specs.Tokens.{RunsAlone}

-- ---- what is asked of a group

-- A method that code calls by invokevirtual, as a package by itself finds it: selection may end at it, and it is
-- neither a constructor nor an initialiser.
pub record NamesVirtual (w : List Class) (m : MemberId) : Type 0 where
  pub place : Found
  pub found : find_method w m.class m.name m.desc ≡ Some place
  pub hit : ResolvedMember
  pub is_hit : method_hit w place ≡ Some hit
  pub selectable : is_selectable hit.flags ≡ true
  pub ordinary : is_special (signature m) ≡ false

-- A package that by itself runs by token as its narrow code does, for which exceptions of the machine's own are
-- imported classes, whose code calls such methods, and whose export file lists of its classes the virtual methods that
-- these mean by their tokens.
pub record SelectsAlone (p : Package) : Type 0 where
  pub runs : RunsAlone p
  pub faults : FaultsAreClasses (world p)
  pub virtuals : (m : MemberId) → is_called p (OnObject m) ≡ true → NamesVirtual (world p) m
  pub own : VirtualAreOwn p
  pub meant : MeantAreListed p

-- Such packages, which link with one another, and whose classes are in order together.
pub record SelectTogether (packages : List Package) : Type 0 where
  pub linked : AreLinked packages
  pub supers : KeepSupers packages
  pub ordered : AreOrdered (files_together packages)
  pub each : (q : ℕ) (p : Package) → slice_get packages q ≡ Some p → SelectsAlone p
  -- Virtual methods that export files from outside list of classes are public or protected. No rule asks it: it is a
  -- fact of the files from outside, since what `convert` writes lists no other.
  pub exposed : (k i : ℕ) (e : ExportClass) (m : ExportMethod)
      → slice_get (outside_classes (files_together packages)) k ≡ Some e → is_interface e.flags ≡ false
      → slice_get e.methods i ≡ Some m → is_virtual (method_of_export m) ≡ true → is_exposed m.flags ≡ true
  -- Methods of interfaces are public or protected, but for their initialisers. No rule asks it: the Java Virtual
  -- Machine Specification (section 4.6) has them public.
  pub open_interfaces : (q k : ℕ) (p : Package) (x : List ℕ) (i : Class) (m : Member) → slice_get packages q ≡ Some p
      → class_named (world p) x ≡ Some i → is_interface i.flags ≡ true → slice_get i.methods k ≡ Some m
      → is_initialiser m.name ≡ false → is_exposed m.flags ≡ true
  -- What an export file from outside lists above a class is known to each package that knows the class, where the
  -- group knows it. No rule asks it, since 203 is of class files alone: it is a fact of which files are imported.
  pub told : (q k : ℕ) (p : Package) (e : ExportClass) (c d : Class) (y : List ℕ) → slice_get packages q ≡ Some p
      → slice_get (outside_classes (files_together packages)) k ≡ Some e → class_named (world p) e.name ≡ Some c
      → Lists y (e.supers ++ e.interfaces) → class_named (world_together packages) y ≡ Some d → (b : Class)
      × (class_named (world p) y ≡ Some b)

-- the class stands in an export file from outside
abbrev pub IsOutside : (packages : List Package) (p : Package) → Class → Type 0
IsOutside packages p c = (h : HasEntry p c)
    × (is_of_group (files_together packages) (let t = h.tree in t.name) ≡ false)

-- ---- what is selected

module _ (packages : List Package) where
  -- What is selected by token on objects of a class where selection by name in the joint world gives a method: one of a
  -- class file at its offset in Method of its package, and one from outside as the event of the first imported class at
  -- or above the class.
  pub data SelectsAlike (x : List ℕ) (s : Signature) (f : Found) (at : Selection) : Type 0 where
    in_package : (r : ℕ) (e : Package) (h : Found) (t : ClassTree) → slice_get packages r ≡ Some e
        → h.imported ≡ false → (let files = e.files in slice_get files.classes h.class ≡ Some t)
        → f ≡ found_in (before (files_together packages) r) h → is_in_method (world e) h ≡ true
        → at ≡ At r (method_offset e h) → SelectsAlike x s f at
    from_outside : f.imported ≡ true
        → at ≡ Outward (event (first_imported (line (world_together packages) x)) s) → SelectsAlike x s f at

  -- ---- public and protected methods

  -- A class that a package knows has a token for such a method that is selected there in the joint world, by which it
  -- is dispatched on its objects.
  pub record FindsOpen (p : Package) (x : List ℕ) (s : Signature) (f : Found) : Type 0 where
    pub its : ℕ
    pub its_token : token (slots (line_of (world p) x)) s ≡ Some its
    pub shown : selects_shown (line_of (world p) x) s ≡ true
    pub alike : SelectsAlike x s f (dispatched_open (tower (loaded_together packages) (class_together packages x)) its)

  -- so it is of each class that is no interface
  abbrev pub OpenSelectionsAgree : Type 0
  OpenSelectionsAgree = (q : ℕ) (p : Package) → slice_get packages q ≡ Some p → (x : List ℕ) (c : Class)
      → class_named (world p) x ≡ Some c → is_interface c.flags ≡ false → (s : Signature) → is_special s ≡ false
      → (f : Found) → first (own_where is_open s.name s.desc) (line (world_together packages) x) ≡ Some f
      → FindsOpen p x s f

  -- The token that a class has for a method in a package that knows it, whichever that is, is the token of each class
  -- below it.
  abbrev pub TokensAt : Package → List ℕ → Type 0
  TokensAt p x = (r : ℕ) (e : Package) → slice_get packages r ≡ Some e → (y : List ℕ) (d k : Class)
      → class_named (world e) y ≡ Some d → is_interface d.flags ≡ false
      → class_named (world_together packages) y ≡ Some k → OnLine (world_together packages) x k
      → (s : Signature) → is_special s ≡ false → (t : ℕ) → token (slots (line_of (world e) y)) s ≡ Some t
      → token (slots (line_of (world p) x)) s ≡ Some t

  abbrev pub TokensGoDown : Type 0
  TokensGoDown = (q : ℕ) (p : Package) → slice_get packages q ≡ Some p → (x : List ℕ) (c : Class)
      → class_named (world p) x ≡ Some c → is_interface c.flags ≡ false → TokensAt p x

  -- ---- classes from outside

  -- A class from outside that a package knows: a method that is selected there in the joint world has a token for the
  -- package, each token makes the event of its method, and those of classes above are those of the class.
  pub record OutsideAgrees (p : Package) (x : List ℕ) : Type 0 where
    pub has : (s : Signature) → is_special s ≡ false → (f : Found)
        → first (own_where is_open s.name s.desc) (line (world_together packages) x) ≡ Some f → (t : ℕ)
        × (token (slots (line_of (world p) x)) s ≡ Some t)
    pub makes : (s : Signature) → is_special s ≡ false → (t : ℕ) → token (slots (line_of (world p) x)) s ≡ Some t
        → dispatched_open (tower (loaded_together packages) (class_together packages x)) t ≡ Outward (event x s)
    pub tokens : TokensAt p x

  -- so it is of each that is no interface
  abbrev pub OutsideClassesAgree : Type 0
  OutsideClassesAgree = (q : ℕ) (p : Package) → slice_get packages q ≡ Some p → (x : List ℕ) (c : Class)
      → class_named (world p) x ≡ Some c → is_interface c.flags ≡ false → IsOutside packages p c → OutsideAgrees p x

  -- ---- methods of interfaces

  -- what the call of an interface's method by the code of the package at this place selects by token on an object of a
  -- class
  abbrev pub face_selection : (q n : ℕ) → MemberId → (x : List ℕ) → Selection
  face_selection q n m x = card.selected (loaded_together packages) (callee_at (naming_together packages) (of_package q
      (OnInterface n m))) (Some (class_together packages x))

  -- Code of the package at this place calls a method of an interface on a receiver that is of it; and the joint world
  -- has the class of the receiver, and the method.
  pub record CallsFace (q n : ℕ) (m : MemberId) (kind : Shape (List ℕ)) (c : Class) (hit : ResolvedMember)
      : Type 0 where
    pub asker : Package
    pub asks : slice_get packages q ≡ Some asker
    pub called : is_called asker (OnInterface n m) ≡ true
    pub receives : Receives (world_together packages) (Some kind)
    pub below : is_subtype (world_together packages) (shape_name kind) m.class ≡ true
    pub class : class_named (world_together packages) (receiver (shape_name kind)) ≡ Some c
    pub is_hit : (let p = asker in hit_for (joint (files_together packages)) (world_together packages) p.files m)
        ≡ Some hit

  -- By token such a call selects what selection by name gives on an object of a class file.
  pub record InterfacesSelectAlike : Type 0 where
    pub in_file : (q n : ℕ) (m : MemberId) (kind : Shape (List ℕ)) (c : Class) (hit : ResolvedMember) (f : Found)
        → CallsFace q n m kind c hit → c.is_imported ≡ false
        → selection_for (world_together packages) hit (shape_name kind) m ≡ Some f
        → SelectsAlike (receiver (shape_name kind)) (signature m) f (face_selection q n m (receiver (shape_name kind)))

-- ---- calls

module _ (packages : List Package) (at : Method → Placed) where
  -- calls by name, where methods of class files stand so
  abbrev pub calls_together : JointCalls Placed
  calls_together = joint_calls (files_together packages) (start_placed at)

  -- A call by the code of the package at this place takes by token the words that it takes by name, and reaches on each
  -- receiver that may be there what it reaches by name, if that is something: one of the methods of the group where it
  -- is of a class file.
  pub record CallAgrees (q : ℕ) (m : Callee) : Type 0 where
    pub words : (n : ℕ) → (let calls = calls_together in calls.words (of_package q m) ≡ Some n)
        → card.words (loaded_together packages) (callee_at (naming_together packages) (of_package q m)) ≡ Some n
    pub reached : (o : Option (Shape (List ℕ))) (r : Reached (InPackage Placed)) → Receives (world_together packages) o
        → (let calls = calls_together in calls.reached (of_package q m) o ≡ r) → IsFound r
        → card.reached (loaded_together packages) (callee_at (naming_together packages) (of_package q m))
        (option_as (shape_as (class_together packages)) o)
        ≡ reached_as (code_at (naming_together packages)) (offset_at (naming_together packages)) r
    pub known : (o : Option (Shape (List ℕ))) (start : Start (InPackage Placed)) → Receives (world_together packages) o
        → (let calls = calls_together in calls.reached (of_package q m) o ≡ Within start)
        → IsOfGroup (loaded_together packages) (methods_together packages) start.code

  -- what scripts send to an object or array is one of the methods of the group
  abbrev pub SentAreKnown : Type 0
  SentAreKnown = (kind : Shape (List ℕ)) (id : MemberId) (start : Start (InPackage Placed))
      → Receives (world_together packages) (Some kind) → (let calls = calls_together in calls.sent kind id ≡ Some start)
      → IsOfGroup (loaded_together packages) (methods_together packages) start.code

  -- What is left to say of a group: calls of methods of interfaces select alike, and what scripts send to an object or
  -- array is by token what it is by name.
  pub record JointInterfacesAgree : Type 0 where
    pub calls : InterfacesSelectAlike packages
    pub sent : (kind : Shape (List ℕ)) (id : MemberId) → Receives (world_together packages) (Some kind)
        → card.sent (loaded_together packages) (shape_as (class_together packages) kind) id
        ≡ option_as (start_as (code_at (naming_together packages)) (offset_at (naming_together packages))) (let calls =
        calls_together in calls.sent kind id)
