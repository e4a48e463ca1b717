-- What calls reach stands in Method, at its place.
use Rattle.std.proofs.Common.{◌≡◌, ℕ, refl, sym, ap, subst, ◌∙◌, Bool, true, false, List, [], ◌∷◌}
use Rattle.std.specs.Prelude.{Option, Some, None, slice_get, option_map, option_and_then, is_some, not, ◌&&◌}
use Rattle.std.specs.Prelude.{if◌then◌else◌}
use Rattle.cjc_bytes.specs.AccessFlags.{is_interface}
use Rattle.cjc_bytes.specs.declared.fault.MemberId.{MemberId}
use Rattle.cjc_card_semantics.specs.Bytecode.Machine.{Start, Reached, Nowhere, Within}
use Rattle.cjc_card_semantics.specs.Bytecode.Machine as machine
use Rattle.cjc_jvm_semantics.specs.Linked.{Method, Inside}
use Rattle.cjc_jvm_semantics.specs.Linked
use Rattle.cjc_jvm_semantics.specs.OnePackage.{ResolvedMember, callee_at, first_imported, first_super, interface_callee}
use Rattle.cjc_jvm_semantics.specs.OnePackage.{is_constructor, is_initialiser, is_sendable, method_at, method_hit}
use Rattle.cjc_jvm_semantics.specs.OnePackage.{method_in, of_class, select_in, selected_from, sent_by, sent_named}
use Rattle.cjc_token_proof.specs.ByToken.Supers.{SaysKinds}
use Rattle.cjc_token_proof.specs.Calls.Reaching.{StandsInMethod, is_in_method, reached_at, reached_placed, start_placed}
use Rattle.cjc_components.specs.Methods.{placed_methods}
use Rattle.cjc_components.specs.Package.{Package, world}
use Rattle.cjc_ncode.specs.Lowering.Agreement.{IsAmong}
use Rattle.cjc_ncode.specs.Lowering.Placed.{Placed}
use Rattle.cjc_components.specs.LowerNarrow.Rows.Package.{above, class_of_callee, direct, selected_on}
use Rattle.cjc_ncode.specs.ByLabel.{Callee, Fixed, OnInterface, OnObject, OnSuper}
use Rattle.cjc_script.specs.Sorts.{Booleans, Bytes, Shorts, Ints, Shape, shape_name}
use Rattle.cjc_token_proof.specs.Tables.Loading.{naming}
use Rattle.cjc_world.specs.declared.found.Found.{Found}
use Rattle.cjc_world.specs.Classes.{Class, class_named}
use Rattle.cjc_world.specs.Supertypes.{supertypes, line, upwards}
use Rattle.cjc_world.specs.Lookup.{find_method, first, is_selectable, or_else, own_method, receiver, selected}
use Rattle.cjc_world.specs.Subtype.{is_subtype}
use Rattle.cjc_token_proof.specs.WrittenCalls.Calls.{IsNamed, Receives, fixed, numbers, on_interface, on_object}
use Rattle.cjc_token_proof.specs.WrittenCalls.Calls.{on_super, one_of, references}
use Rattle.cjc_token_proof.proofs.WrittenCalls.Facts.{Facts}
use Rattle.cjc_token_proof.proofs.WrittenCalls.Reached.{find_first}
use Rattle.cjc_token_proof.proofs.WrittenCalls.Receivers.{first_step, found_stands}
use Rattle.cjc_token_proof.proofs.WrittenCalls.Towers.{line_is}
use Rattle.cjc_world_proof.proofs.CallsLaws.Types.{receiver_class}

-- told apart from a method that begins
IsNowhere : Reached Placed → Type 0
IsNowhere Nowhere = Unit {0}
IsNowhere (Within m) = ⊥
IsNowhere (machine.Abroad id) = Unit {0}

IsAbroad : Reached Placed → Type 0
IsAbroad Nowhere = ⊥
IsAbroad (Within m) = ⊥
IsAbroad (machine.Abroad id) = Unit {0}

start_of : (s t : Start Placed) → Within s ≡ Within t → s ≡ t
start_of s t e = cc

module _ (p : Package) (facts : Facts p) (kinds : SaysKinds (world p) (naming p)) (place : Method
    → Placed) (places : (f : Found) (m : Method) → is_in_method (world p) f ≡ true → method_at p.files f ≡ Some m
    → IsAmong (placed_methods p) (place m)) where
  abbrev w : List Class
  w = world p

  abbrev Stood : Start Placed → Type 0
  Stood start = IsAmong (placed_methods p) start.code

  no_start : (start : Start Placed) → Nowhere ≡ Within start → Stood start
  unfolding IsNowhere
  no_start start e = absurd (subst IsNowhere e tt)

  no_event : (id : MemberId) (start : Start Placed) → machine.Abroad id ≡ Within start → Stood start
  unfolding IsAbroad
  no_event id start e = absurd (subst IsAbroad e tt)

  at_place : (z : List ℕ) (m : MemberId) (f : Found) → StandsInMethod w f → (start : Start Placed)
      → reached_placed place (callee_at p.files z m f) ≡ Within start → Stood start
  at_place z m f stands start e = by f.imported refl e
    where
      split : (o : Option Method) → method_at p.files f ≡ o → is_in_method w f ≡ true
          → reached_placed place (option_map Inside o) ≡ Within start → Stood start
      split None there inside h = no_start start h
      split (Some k) there inside h = subst Stood (start_of (start_placed place k) start h) (places f k inside there)

      by : (t : Bool) → f.imported ≡ t → reached_placed place (if t then Some (Linked.Abroad (of_class z m))
          else option_map Inside (method_at p.files f)) ≡ Within start → Stood start
      by true import h = no_event (of_class z m) start h
      by false own h = split (method_at p.files f) refl (stands own) h

  selected_placed : (x : List ℕ) (m : MemberId) (c : Class) → is_initialiser m.name ≡ false → class_named w (receiver x)
      ≡ Some c → is_interface c.flags ≡ false → (start : Start Placed)
      → reached_placed place (selected_from p.files w (select_in w) x m) ≡ Within start → Stood start
  unfolding selected
  selected_placed x m c plain known class_here start e = by (select_in w x m) refl e
    where
      by : (o : Option Found) → select_in w x m ≡ o
          → reached_placed place (option_and_then (λ f. callee_at p.files (first_imported (line w (receiver x))) m f) o)
          ≡ Within start → Stood start
      by None is h = no_start start h
      by (Some f) is h = at_place (first_imported (line w (receiver x))) m f (found_stands p facts true m.name m.desc
          plain (receiver x) c known class_here f is) start h

  -- the class whose methods a receiver has
  pub record HasClass (kind : Shape (List ℕ)) : Type 0 where
    pub class : Class
    pub known : class_named w (receiver (shape_name kind)) ≡ Some class
    pub class_here : is_interface class.flags ≡ false

  received : (kind : Shape (List ℕ)) → Receives w (Some kind) → HasClass kind
  received kind (one_of {x = x} c e not_interface made) = record {
    class = c;
    known = ap (class_named w) (receiver_class x (kinds.no_array x (ap is_some e))) ∙ e;
    class_here = not_interface;
  }
  received kind (numbers {element = Booleans}) = let c = facts.object_class in record {
    class = c.0;
    known = c.1;
    class_here = c.3;
  }
  received kind (numbers {element = Bytes}) = let c = facts.object_class in record {
    class = c.0;
    known = c.1;
    class_here = c.3;
  }
  received kind (numbers {element = Shorts}) = let c = facts.object_class in record {
    class = c.0;
    known = c.1;
    class_here = c.3;
  }
  received kind (numbers {element = Ints}) = let c = facts.object_class in record {
    class = c.0;
    known = c.1;
    class_here = c.3;
  }
  received kind (references {x = x}) = let c = facts.object_class in record {
    class = c.0;
    known = c.1;
    class_here = c.3;
  }

  direct_placed : (m : MemberId) (c : Class) (f : Found) → class_named w m.class ≡ Some c → is_interface c.flags ≡ false
      → is_initialiser m.name ≡ false → own_method false m.name m.desc c ≡ Some f → (start : Start Placed)
      → reached_placed place (direct p.files w m) ≡ Within start → Stood start
  direct_placed m c f known class_here plain own start e =
      let line_has = ap (first (own_method false m.name m.desc)) (line_is p facts m.class c known)
      ∙ first_step (own_method false m.name m.desc) c (upwards (supertypes w c.supers))
      ∙ ap (λ q. or_else q (first (own_method false m.name m.desc) (upwards (supertypes w c.supers)))) own in
      let here = find_first w m.class m.name m.desc f line_has in
      at_place m.class m f (found_stands p facts false m.name m.desc plain m.class c known class_here f line_has) start
      (sym (ap (λ o. reached_placed place (option_and_then (λ g. callee_at p.files m.class m g) o)) here) ∙ e)

  -- what is reached where the receiver is of the class
  on_kind : (m : Callee) (kind : Shape (List ℕ)) → ((start : Start Placed)
      → reached_placed place (selected_on p.files w m (shape_name kind)) ≡ Within start → Stood start)
      → (start : Start Placed) → reached_at p.files w place m (Some kind) ≡ Within start → Stood start
  on_kind m kind chosen start e = by (is_subtype w (shape_name kind) (class_of_callee m)) e
    where
      by : (t : Bool) → (if t then reached_placed place (selected_on p.files w m (shape_name kind)) else Nowhere)
          ≡ Within start → Stood start
      by true h = chosen start h
      by false h = no_start start h

  fixed_at : (on : Bool) (m : MemberId) → ((start : Start Placed) → reached_placed place (direct p.files w m)
      ≡ Within start → Stood start) → (o : Option (Shape (List ℕ))) (start : Start Placed)
      → reached_at p.files w place (Fixed on m) o ≡ Within start → Stood start
  fixed_at true m placed None start e = no_start start e
  fixed_at false m placed None start e = placed start e
  fixed_at on m placed (Some kind) start e = on_kind (Fixed on m) kind placed start e

  interface_placed : (words : ℕ) (m : MemberId) → is_initialiser m.name ≡ false → (kind : Shape (List ℕ))
      → HasClass kind → (start : Start Placed)
      → reached_placed place (selected_on p.files w (OnInterface words m) (shape_name kind)) ≡ Within start
      → Stood start
  interface_placed words m plain kind has start e =
      by has.class.is_imported
      (sym (ap (λ o. reached_placed place (interface_callee p.files w (select_in w) m.class (shape_name kind) m o))
      has.known) ∙ e)
    where
      by : (t : Bool) → reached_placed place (if t then Some (Linked.Abroad (of_class m.class m))
          else selected_from p.files w (select_in w) (shape_name kind) m) ≡ Within start → Stood start
      by true h = no_event (of_class m.class m) start h
      by false h = selected_placed (shape_name kind) m has.class plain has.known has.class_here start h

  super_placed : (m : MemberId) (c d : Class) (super : List ℕ) → class_named w m.class ≡ Some c → c.is_imported ≡ false
      → c.supers ≡ super ∷ [] → class_named w super ≡ Some d → is_initialiser m.name ≡ false → (start : Start Placed)
      → reached_placed place (above p.files w m) ≡ Within start → Stood start
  super_placed m c d super known own supers super_is plain start e =
      let up = facts.super_there m.class super c known own supers in
      let both : Some up.0 ≡ Some d = sym up.1 ∙ super_is in
      let same : up.0 ≡ d = cc in
      let class_here : is_interface d.flags ≡ false = sym (ap (λ (q : Class). is_interface q.flags) same) ∙ up.2 in
      let itself : receiver super ≡ super = receiver_class super (kinds.no_array super (ap is_some super_is)) in
      let first_one : first_super (class_named w m.class) ≡ Some super = ap first_super known
      ∙ ap (λ ss. slice_get ss 0) supers in
      selected_placed super m d plain (ap (class_named w) itself ∙ super_is) class_here start
      (sym (ap (λ o. reached_placed place (option_and_then (λ y. selected_from p.files w (select_in w) y m) o))
      first_one) ∙ e)

  -- Each method that a call reaches is one of those in Method.
  pub reached_placed_there : (m : Callee) → IsNamed w m → (o : Option (Shape (List ℕ))) → Receives w o
      → (start : Start Placed) → reached_at p.files w place m o ≡ Within start → Stood start
  reached_placed_there m (fixed {on = on} {m = id} c f known class_here plain own) o receives start e =
      fixed_at on id (direct_placed id c f known class_here plain own) o start e
  reached_placed_there m (on_object d known class_here plain sought) None receives start e = no_start start e
  reached_placed_there m (on_object {m = id} d known class_here plain sought) (Some kind) receives start e =
      let has = received kind receives in on_kind (OnObject id) kind (λ s h. selected_placed (shape_name kind) id
      has.class plain has.known has.class_here s h) start e
  reached_placed_there m (on_super c d super known own class_here supers super_is plain sought alike) None receives
      start e = no_start start e
  reached_placed_there m (on_super {m = id} c d super known own class_here supers super_is plain sought alike)
      (Some kind) receives start e = on_kind (OnSuper id) kind (super_placed id c d super known own supers super_is
      plain) start e
  reached_placed_there m (on_interface i k known interface_here plain placed) None receives start e = no_start start e
  reached_placed_there m (on_interface {words = words} {m = id} i k known interface_here plain placed) (Some kind)
      receives start e =
      let has = received kind receives in on_kind (OnInterface words id) kind (interface_placed words id plain kind has)
      start e

  -- ---- methods that a script sends

  sent_placed : (f : Found) → StandsInMethod w f → (start : Start Placed)
      → option_map (start_placed place) (method_at p.files f) ≡ Some start → Stood start
  sent_placed f stands start e = by f.imported refl e
    where
      split : (o : Option Method) → method_at p.files f ≡ o → is_in_method w f ≡ true
          → option_map (start_placed place) o ≡ Some start → Stood start
      split None there inside h = absurd (cc)
      split (Some k) there inside h = let same : start_placed place k ≡ start = cc
          in subst Stood same (places f k inside there)

      by : (t : Bool) → f.imported ≡ t → option_map (start_placed place) (if t then None
          else option_and_then (method_in f.member) (slice_get p.files.classes f.class)) ≡ Some start → Stood start
      by true import h = absurd (cc)
      by false own h = split (method_at p.files f) refl (stands own) e

  sent_selected : (x : List ℕ) (m : MemberId) (c : Class) → is_initialiser m.name ≡ false → class_named w (receiver x)
      ≡ Some c → is_interface c.flags ≡ false → (start : Start Placed)
      → option_map (start_placed place) (option_and_then (method_at p.files) (select_in w x m)) ≡ Some start
      → Stood start
  unfolding selected
  sent_selected x m c plain known class_here start e = by (select_in w x m) refl e
    where
      by : (o : Option Found) → select_in w x m ≡ o
          → option_map (start_placed place) (option_and_then (method_at p.files) o) ≡ Some start → Stood start
      by None is h = absurd (cc)
      by (Some f) is h = sent_placed f (found_stands p facts true m.name m.desc plain (receiver x) c known class_here f
          is) start h

  -- Each method that a script sends to an object is one of those in Method.
  pub sent_placed_there : (kind : Shape (List ℕ)) → Receives w (Some kind) → (id : MemberId) (start : Start Placed)
      → option_map (start_placed place) (sent_named p.files w (shape_name kind) id) ≡ Some start → Stood start
  sent_placed_there kind receives id start e = by_found (find_method w id.class id.name id.desc) e
    where
      plain_of : (a b c d : Bool) → ((a && not b && not c) && d) ≡ true → c ≡ false
      plain_of a b false d h = refl
      plain_of true true true d h = absurd (cc)
      plain_of true false true d h = absurd (cc)
      plain_of false true true d h = absurd (cc)
      plain_of false false true d h = absurd (cc)

      chosen : (t : Bool) → (t ≡ true → is_initialiser id.name ≡ false) → option_map (start_placed place) (if t
          then option_and_then (method_at p.files) (select_in w (shape_name kind) id) else None) ≡ Some start
          → Stood start
      chosen false plain h = absurd (cc)
      chosen true plain h = let has = received kind receives in sent_selected (shape_name kind) id has.class
          (plain refl) has.known has.class_here start h

      by_hit : (o : Option ResolvedMember)
          → option_map (start_placed place) (option_and_then (sent_by p.files w (select_in w) (shape_name kind) id) o)
          ≡ Some start → Stood start
      by_hit None h = absurd (cc)
      by_hit (Some hit) h =
          chosen (is_sendable id hit && is_subtype w (shape_name kind) id.class)
          (λ q. plain_of (is_selectable hit.flags) (is_constructor id.name) (is_initialiser id.name)
          (is_subtype w (shape_name kind) id.class) q) h

      by_found : (o : Option Found)
          → option_map (start_placed place) (option_and_then (λ f. option_and_then (sent_by p.files w (select_in w)
          (shape_name kind) id) (method_hit w f)) o) ≡ Some start → Stood start
      by_found None h = absurd (cc)
      by_found (Some f) h = by_hit (method_hit w f) h
