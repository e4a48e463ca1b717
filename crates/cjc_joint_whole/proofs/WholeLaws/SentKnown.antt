-- What scripts send to an object or an array is, where packages are loaded together, a method with code of one of them.
use Rattle.std.proofs.Common.{◌≡◌, ◌⊎◌, ℕ, ◌+◌, refl, sym, ap, ◌∙◌, Bool, true, false, List, length, inl, inr, ⊎_elim}
use Rattle.std.proofs.Common.{Option, Some, None}
use Rattle.std.specs.Prelude.{◌&&◌, not, option_and_then, option_map, slice_get, if◌then◌else◌}
use Rattle.std.specs.Str.{bytes_eq}
use Rattle.cjc_bytes.specs.AccessFlags.{is_interface}
use Rattle.cjc_bytes.specs.declared.fault.MemberId.{MemberId}
use Rattle.cjc_components.specs.Methods.{method_offset}
use Rattle.cjc_components.specs.Package.{Package}
use Rattle.cjc_joint_proof.specs.JointAlike.{IsOfGroup}
use Rattle.cjc_joint_proof.specs.JointCalled.{StandByPackage}
use Rattle.cjc_joint_proof.specs.JointCode.{InPackage}
use Rattle.cjc_joint_proof.specs.JointNames.{reached_for, start_for}
use Rattle.cjc_joint_proof.specs.JointPackages.{files_together}
use Rattle.cjc_joint_proof.specs.JointTables.{world_together}
use Rattle.cjc_joint_proof.specs.JointTogether.{methods_together}
use Rattle.cjc_joint_proof.specs.JointTowers.{loaded_together}
use Rattle.cjc_joint_proof.specs.Worlds.{before, found_in}
use Rattle.cjc_joint_proof.proofs.StandLaws.{Inside, stands}
use Rattle.cjc_joint_theorem.proofs.OrderedLaws.Ordered.{object_abroad, ordered}
use Rattle.cjc_jvm_semantics.specs.Group.{group_sent, is_open, is_package_visible, joint, own_where, own_within}
use Rattle.cjc_jvm_semantics.specs.Group.{package_of, selection_for}
use Rattle.cjc_jvm_semantics.specs.Linked
use Rattle.cjc_jvm_semantics.specs.Linked.{Inside as InFile, Method}
use Rattle.cjc_jvm_semantics.specs.OnePackage.{ResolvedMember, first_imported, is_constructor, is_initialiser}
use Rattle.cjc_jvm_semantics.specs.OnePackage.{is_sendable, method_at, method_hit, of_class, sent_by}
use Rattle.cjc_theorem.proofs.AlikeLaws.VirtualCalls.Ways.{line_class}
use Rattle.cjc_token_proof.proofs.WorldProofTypes.{receiver_class}
use Rattle.cjc_token_proof.proofs.WrittenCalls.Held.{FormsLaw, OffsetsLaw}
use Rattle.cjc_token_proof.specs.Calls.Reaching.{start_placed}
use Rattle.cjc_token_proof.specs.CardSemantics.Bytecode.Machine.{Start, Within}
use Rattle.cjc_token_proof.specs.CardSemantics.Machine.Dispatch.{At}
use Rattle.cjc_token_proof.specs.NCode.Lowering.Placed.{Placed}
use Rattle.cjc_token_proof.specs.Script.Sorts.{Booleans, Bytes, Element, Ints, OfNumbers, Shape}
use Rattle.cjc_token_proof.specs.Script.Sorts.{Shorts, shape_name}
use Rattle.cjc_token_proof.specs.WrittenCalls.Calls.{Receives, numbers, one_of, references}
use Rattle.cjc_tokens.proofs.Facts.{same-true}
use Rattle.cjc_tokens.specs.Members.{Signature, signature_of}
use Rattle.cjc_world.proofs.UpwardLaws.Lines.{below_abroad, first_has, line_begins, line_below, line_named, of_line}
use Rattle.cjc_world.specs.Classes.{Class, Member, class_named, declared}
use Rattle.cjc_world.specs.Files.{Files}
use Rattle.cjc_world.specs.Lookup.{find_method, first, is_selectable, member_at, object, receiver}
use Rattle.cjc_world.specs.Subtype.{is_subtype}
use Rattle.cjc_world.specs.Supertypes.{line}
use Rattle.cjc_world.specs.Upwards.{IsOrdered, OnLine}
use Rattle.cjc_world.specs.declared.found.Found.{Found}
use Rattle.cjc_joint_whole.specs.Selected.{SelectTogether, calls_together, in_package}
use Rattle.cjc_joint_whole.proofs.WholeLaws.Alike.{alike_known}
use Rattle.cjc_joint_whole.proofs.WholeLaws.FixedNamed.{AloneLaws, inside_at}
use Rattle.cjc_joint_whole.proofs.WholeLaws.HiddenCalls.{no_array}
use Rattle.cjc_joint_whole.proofs.WholeLaws.Shown.{where_at}

-- a method of this name that a class declares
pub record IsDeclared (name : List ℕ) (d : Class) (f : Found) : Type 0 where
  pub place : ℕ
  pub method : Member
  pub there : slice_get d.methods place ≡ Some method
  pub is_at : f ≡ member_at d (length d.fields + place)
  pub named : method.name ≡ name

pub by_flags : (passes : ℕ → Bool) (name desc : List ℕ) (d : Class) (f : Found) → own_where passes name desc d ≡ Some f
    → IsDeclared name d f
by_flags passes name desc d f e =
    let a = where_at passes name desc d f e in
    let m = a.method in
    let s : Signature = record { name = name; desc = desc } in
    record {
      place = a.place;
      method = m;
      there = a.there;
      is_at = a.is;
      named = ap (λ (u : Signature). u.name) (same-true (signature_of m) s a.called);
    }

pub by_package : (home name desc : List ℕ) (d : Class) (f : Found) → own_within home name desc d ≡ Some f
    → IsDeclared name d f
by_package home name desc d f e = by (bytes_eq (package_of d.name) home) e
  where
    by : (b : Bool) → (if b then own_where is_selectable name desc d else None) ≡ Some f → IsDeclared name d f
    by true h = by_flags is_selectable name desc d f h
    by false h = absurd (cc)

pub no_code : (files : Files) (f : Found) (m : Method) → f.imported ≡ true → method_at files f ≡ Some m → ⊥
no_code files f m import e = by f.imported import e
  where
    by : (b : Bool) → b ≡ true → (if b then None else method_at files (record f { imported = false })) ≡ Some m → ⊥
    by true g h = cc
    by false g h = cc

pub numbers_received : (element : Element) → receiver (shape_name (OfNumbers element)) ≡ object
numbers_received Booleans = refl
numbers_received Bytes = refl
numbers_received Shorts = refl
numbers_received Ints = refl

module _ (forms : FormsLaw) (offsets : OffsetsLaw) (packages : List Package) (is : SelectTogether packages)
    (alone : (q : ℕ) (p : Package) → slice_get packages q ≡ Some p → AloneLaws p) (at : Method → Placed)
    (stand : StandByPackage packages at) where
  abbrev group : List Files
  group = files_together packages

  abbrev w : List Class
  w = world_together packages

  order : IsOrdered w
  order = ordered group is.ordered

  -- a class of which objects are, or one from outside
  abbrev IsFit : List ℕ → Type 0
  IsFit x = (c : Class) → class_named w x ≡ Some c → (is_interface c.flags ≡ false) ⊎ (c.is_imported ≡ true)

  module _ (id : MemberId) (ordinary : is_initialiser id.name ≡ false) (x : List ℕ) (fit : IsFit x)
      (own : Class → Option Found) (declares : (d : Class) (f : Found) → own d ≡ Some f → IsDeclared id.name d f)
      (f : Found) (found : first own (line w x) ≡ Some f) (m : Method) (has_code : method_at (joint group) f ≡ Some m)
      (start : Start (InPackage Placed)) (begins : start_for group (start_placed at) m ≡ start) where
    abbrev Known : Type 0
    Known = IsOfGroup (loaded_together packages) (methods_together packages) start.code

    -- the class that declares it
    record HasClass : Type 0 where
      class : Class
      on : OnLine w x class
      declared_there : own class ≡ Some f

    holder : HasClass
    holder = let r = first_has own (line w x) f found in
        record { class = r.0; on = of_line w (let o = order in o.acyclic) x r.0 r.1; declared_there = r.2 }

    abbrev y : Class
    y = let h = holder in h.class

    named_y : class_named w y.name ≡ Some y
    named_y = let h = holder in line_named w x y h.on

    spot : IsDeclared id.name y f
    spot = let h = holder in declares y f h.declared_there

    of_import : y.is_imported ≡ true → Known
    of_import import = let a = spot in
        absurd (no_code (joint group) f m (ap (λ (k : Found). k.imported) a.is_at ∙ import) has_code)

    in_file : Inside packages is.linked y.name y → is_interface y.flags ≡ false → Known
    in_file i plain =
        let a = spot in
        let e = i.«package» in
        let d = declared i.place i.tree in
        let h = member_at d (length d.fields + a.place) in
        let same : f ≡ found_in (before group i.part) h = a.is_at
        ∙ ap (λ (k : Class). member_at k (length k.fields + a.place)) i.is in
        let inside = inside_at forms offsets e (alone i.part e i.here) y.name d i.there refl (ap (λ (k : Class).
        is_interface k.flags) (sym i.is) ∙ plain) a.place a.method (ap (λ (k : Class). slice_get k.methods a.place) (sym
        i.is) ∙ a.there) (ap is_initialiser a.named ∙ ordinary) in
        alike_known forms offsets packages is.linked alone at stand x id f (At i.part (method_offset e h))
        (in_package i.part e h i.tree i.here refl i.file same inside refl) start
        (ap (λ b. reached_for group (start_placed at) (if b then Some (Linked.Abroad (of_class (first_imported (line w
        x)) id)) else option_map InFile (method_at (joint group) f))) (ap (λ (k : Found). k.imported) same)
        ∙ ap (λ o. reached_for group (start_placed at) (option_map InFile o)) has_code ∙ ap Within begins)

    placed_known : Known
    placed_known = ⊎_elim
        (λ i. (let c = line_begins w x y (let h = holder in h.on) in let h = holder in ⊎_elim
        (λ plain. in_file i (line_class w order x c.0 y h.on c.1 plain))
        (λ import. of_import (below_abroad w order x y.name c.0 y (line_below w x y h.on) c.1 import named_y))
        (fit c.0 c.1)))
        (λ o. of_import (ap (λ (k : Class). k.is_imported) o.is))
        (stands packages is.linked y.name y named_y)

  -- ---- what is sent

  fit_of : (kind : Shape (List ℕ)) → Receives w (Some kind) → IsFit (receiver (shape_name kind))
  fit_of _ (numbers {element = element}) c named = inr (object_abroad group is.ordered c (ap (class_named w) (sym
      (numbers_received element)) ∙ named))
  fit_of _ (references {x = x}) c named = inr (object_abroad group is.ordered c named)
  fit_of _ (one_of {x = x} k known ground made) c named =
      let itself : receiver x ≡ x = receiver_class x (no_array forms offsets packages is alone at stand x k known) in
      let two : Some c ≡ Some k = sym named ∙ ap (class_named w) itself ∙ known in
      let same : c ≡ k = cc in
      inl (ap (λ (d : Class). is_interface d.flags) same ∙ ground)

  module _ (kind : Shape (List ℕ)) (id : MemberId) (start : Start (InPackage Placed))
      (receives : Receives w (Some kind)) where
    abbrev Goal : Type 0
    Goal = IsOfGroup (loaded_together packages) (methods_together packages) start.code

    abbrev type : List ℕ
    type = shape_name kind

    ordinary : (a b c : Bool) → (a && not b && not c) ≡ true → c ≡ false
    ordinary true false false g = refl
    ordinary true false true g = absurd (cc)
    ordinary true true c g = absurd (cc)
    ordinary false b c g = absurd (cc)

    selected_so : (hit : ResolvedMember) → is_initialiser id.name ≡ false → (m : Method)
        → start_for group (start_placed at) m ≡ start → (f : Found) → selection_for w hit type id ≡ Some f
        → method_at (joint group) f ≡ Some m → Goal
    selected_so hit plain m begins f chosen code = by (is_package_visible hit.flags) chosen
      where
        by : (b : Bool) → (if b then first (own_within (package_of (let o = hit.owner in o.name)) id.name id.desc)
            (line w (receiver type)) else first (own_where is_open id.name id.desc) (line w (receiver type))) ≡ Some f
            → Goal
        by true h = placed_known id plain (receiver type) (fit_of kind receives) (own_within (package_of (let o
            = hit.owner in o.name)) id.name id.desc) (by_package (package_of (let o = hit.owner in o.name)) id.name
            id.desc) f h m code start begins
        by false h = placed_known id plain (receiver type) (fit_of kind receives) (own_where is_open id.name id.desc)
            (by_flags is_open id.name id.desc) f h m code start begins

    chosen_so : (hit : ResolvedMember) → is_initialiser id.name ≡ false → (m : Method)
        → start_for group (start_placed at) m ≡ start → (o : Option Found) → selection_for w hit type id ≡ o
        → option_and_then (method_at (joint group)) o ≡ Some m → Goal
    chosen_so hit plain m begins None g h = absurd (cc)
    chosen_so hit plain m begins (Some f) g h = selected_so hit plain m begins f g h

    sendable : (hit : ResolvedMember) (m : Method) → start_for group (start_placed at) m ≡ start → (a b : Bool)
        → is_sendable id hit ≡ a → (if a && b then option_and_then (method_at (joint group)) (selection_for w hit type
        id) else None) ≡ Some m → Goal
    sendable hit m begins true true g h = chosen_so hit (ordinary (is_selectable hit.flags) (is_constructor id.name)
        (is_initialiser id.name) g) m begins (selection_for w hit type id) refl h
    sendable hit m begins true false g h = absurd (cc)
    sendable hit m begins false b g h = absurd (cc)

    of_hit : (m : Method) → start_for group (start_placed at) m ≡ start → (o : Option ResolvedMember)
        → option_and_then (λ hit. sent_by (joint group) w (selection_for w hit) type id hit) o ≡ Some m → Goal
    of_hit m begins None h = absurd (cc)
    of_hit m begins (Some hit) h = sendable hit m begins (is_sendable id hit) (is_subtype w type id.class) refl h

    of_found : (m : Method) → start_for group (start_placed at) m ≡ start → (o : Option Found)
        → option_and_then (λ f. option_and_then (λ hit. sent_by (joint group) w (selection_for w hit) type id hit)
        (method_hit w f)) o ≡ Some m → Goal
    of_found m begins None h = absurd (cc)
    of_found m begins (Some f) h = of_hit m begins (method_hit w f) h

    begun : (o : Option Method) → group_sent (joint group) w type id ≡ o
        → option_map (start_for group (start_placed at)) o ≡ Some start → Goal
    begun None g h = absurd (cc)
    begun (Some m) g h =
        let same : start_for group (start_placed at) m ≡ start = cc in
        of_found m same (find_method w id.class id.name id.desc) g

  pub sent_is_known : (kind : Shape (List ℕ)) (id : MemberId) (start : Start (InPackage Placed))
      → Receives w (Some kind) → (let calls = calls_together packages at in calls.sent kind id ≡ Some start)
      → IsOfGroup (loaded_together packages) (methods_together packages) start.code
  sent_is_known kind id start receives e = begun kind id start receives (group_sent (joint group) w (shape_name kind) id)
      refl e
