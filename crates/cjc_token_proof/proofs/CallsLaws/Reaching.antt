-- What calls reach is the same by name and by token.
use Rattle.std.proofs.Common.{◌≡◌, ℕ, refl, sym, ap, subst, ◌∙◌, Bool, true, false, List}
use Rattle.std.specs.Prelude.{Option, Some, None, option_map, option_and_then, if◌then◌else◌}
use Rattle.cjc_bytes.specs.declared.fault.MemberId.{MemberId}
use Rattle.cjc_bytes.specs.AccessFlags.{is_abstract}
use Rattle.cjc_script.specs.Sorts.{Shape, shape_name}
use Rattle.cjc_card_semantics.specs.Bytecode.Machine.{Reached, Nowhere}
use Rattle.cjc_card_semantics.specs.Bytecode.Alike.{IsFound, reached_as, start_as}
use Rattle.cjc_card_semantics.specs.Bytecode.Renaming.{option_as, shape_as}
use Rattle.cjc_card_semantics.specs.Machine.Calls
use Rattle.cjc_card_semantics.specs.Machine.Calls.{reached_by, with_code, selected as chosen}
use Rattle.cjc_card_semantics.specs.Machine.Classes as card_classes
use Rattle.cjc_card_semantics.specs.Machine.Classes.{shape_class}
use Rattle.cjc_card_semantics.specs.Machine.Dispatch.{At, Outward, dispatched, dispatched_interface, above, tower}
use Rattle.cjc_card_semantics.specs.Machine.Methods.{start_of}
use Rattle.cjc_card_semantics.specs.Machine.Operations as operations
use Rattle.cjc_world.specs.declared.image.StaticImage.{StaticImage}
use Rattle.cjc_world.specs.declared.found.Found.{Found}
use Rattle.cjc_world.specs.Files.{Files}
use Rattle.cjc_world.specs.Classes.{Class, all_classes, class_named}
use Rattle.cjc_world.specs.Supertypes.{line}
use Rattle.cjc_world.specs.Lookup.{find_method, first, own_method, receiver, selected}
use Rattle.cjc_world.specs.Subtype.{is_subtype}
use Rattle.cjc_jvm_semantics.specs.Linked.{Method, Inside}
use Rattle.cjc_jvm_semantics.specs.Linked
use Rattle.cjc_jvm_semantics.specs.OnePackage.{callee_at, entry_named, first_imported, interface_callee}
use Rattle.cjc_jvm_semantics.specs.OnePackage.{method_at, of_class, select_in, selected_from, sent_named}
use Rattle.cjc_ncode.specs.ByLabel.{Callee, Fixed, OnObject, OnSuper}
use Rattle.cjc_components.specs.LowerNarrow.Rows.Package.{class_of_callee, direct, on_class, selected_on}
use Rattle.cjc_components.specs.LowerNarrow.Rows.Package.{named as named_package}
use Rattle.cjc_components.specs.LowerNarrow.Rows.Package
use Rattle.cjc_vtable.specs.Laws.{itself, selection}
use Rattle.cjc_ncode.specs.Lowering.Agreement.{MethodsAgree}
use Rattle.cjc_ncode.specs.Lowering.Naming.{Naming, callee}
use Rattle.cjc_ncode.specs.Lowering.Placed.{Placed, code_of, offset_of}
use Rattle.cjc_token_proof.specs.Calls.Dispatching.{event, selection_of}
use Rattle.cjc_token_proof.specs.Calls.Selecting.{signature, SaysInterface, SelectionsAgree}
use Rattle.cjc_token_proof.specs.Calls.Reaching.{start_placed, reached_placed, reached_at, placed_methods, SaysReceiver}
use Rattle.cjc_token_proof.specs.Calls.Reaching.{StandsInMethod, BeginsAtOffsets, VirtualCallsReach, SaysFixed}
use Rattle.cjc_token_proof.specs.Calls.Reaching.{FixedCallsReach, SaysSuper, SuperCallsReach, InterfaceCallReaches}
use Rattle.cjc_token_proof.specs.Calls.Reaching.{SaysOutside}

-- ---- methods where they stand

module _ (files : Files) (image : StaticImage) (place : Method → Placed) where
  abbrev code : Method → Rattle.cjc_ncode.specs.declared.narrow.NMethod.NMethod
  code m = let p = place m in p.method

  starts_same : (o : Option Method) → option_map (Package.start_of code) o
      ≡ option_as (start_as (λ (p : Placed). p.method) (λ (p : Placed) (label : ℕ). label))
      (option_map (start_placed place) o)
  starts_same None = refl
  starts_same (Some m) = refl

  reaches_same : (o : Option Linked.Callee) → Package.reached_by code o ≡ reached_as (λ (p : Placed). p.method)
      (λ (p : Placed) (label : ℕ). label) (reached_placed place o)
  reaches_same None = refl
  reaches_same (Some (Inside m)) = refl
  reaches_same (Some (Linked.Abroad event)) = refl

  pub methods_agree : MethodsAgree (named_package files image code) (placed_methods files place)
  unfolding named_package
  methods_agree = record {
    reached = λ m o. by m o;
    called = λ id. starts_same (entry_named files (all_classes files) id);
    sent = λ kind id. starts_same (sent_named files (all_classes files) (shape_name kind) id);
  }
    where
      by : (m : Callee) (o : Option (Shape (List ℕ))) → Package.reached files (all_classes files) code m o
          ≡ reached_as (λ (p : Placed). p.method) (λ (p : Placed) (label : ℕ). label)
          (reached_at files (all_classes files) place m o)
      by m None = reaches_same (on_class files (all_classes files) m)
      by m (Some kind) = split (is_subtype (all_classes files) (shape_name kind) (class_of_callee m))
        where
          split : (t : Bool)
              → (if t then Package.reached_by code (selected_on files (all_classes files) m (shape_name kind))
              else Nowhere)
              ≡ reached_as (λ (p : Placed). p.method) (λ (p : Placed) (label : ℕ). label) (if t
              then reached_placed place (selected_on files (all_classes files) m (shape_name kind)) else Nowhere)
          split true = reaches_same (selected_on files (all_classes files) m (shape_name kind))
          split false = refl

-- ---- virtual calls

-- a class that is no array is selected from itself
selects_itself : (w : List Class) (x : List ℕ) (m : MemberId) → receiver x ≡ x
    → select_in w x m ≡ selection w x (signature m)
unfolding selected
selects_itself w x m same = ap (λ y. first (own_method true m.name m.desc) (line w y)) same

module _ (files : Files) (w : List Class) (n : Naming) (offset : Found → ℕ) (place : Method
    → Placed) (begins : BeginsAtOffsets files w n offset place) where
  -- a method that is found is reached where it begins, or by its event
  found_reached : (z : List ℕ) (m : MemberId) (f : Found) (r : Reached Placed) → StandsInMethod w f
      → reached_placed place (callee_at files z m f) ≡ r → IsFound r
      → reached_by n.loaded (selection_of n offset z (signature m) f) ≡ reached_as (code_of n) (offset_of n) r
  found_reached z m f r stands e is = by f.imported refl e
    where
      by : (t : Bool) → f.imported ≡ t → reached_placed place (if t then Some (Linked.Abroad (of_class z m))
          else option_map Inside (method_at files f)) ≡ r
          → reached_by n.loaded (if t then Outward (event z (signature m)) else At n.part (offset f))
          ≡ reached_as (code_of n) (offset_of n) r
      by true imported h = ap (reached_as (code_of n) (offset_of n)) h
      by false own h = split (method_at files f) refl h
        where
          split : (o : Option Method) → method_at files f ≡ o → reached_placed place (option_map Inside o) ≡ r
              → with_code (start_of n.loaded n.part (offset f)) ≡ reached_as (code_of n) (offset_of n) r
          split None there g = absurd (subst IsFound (sym g) is)
          split (Some k) there g = ap with_code (begins f k (stands own) there)
              ∙ ap (reached_as (code_of n) (offset_of n)) g

module _ (files : Files) (w : List Class) (n : Naming) (offset : Found → ℕ) (place : Method
    → Placed) (begins : BeginsAtOffsets files w n offset place) (x z : List ℕ) (says : SaysReceiver w x z)
    (selections : SelectionsAgree w n offset x z) where
  selects : (m : MemberId) → select_in w x m ≡ selection w x (signature m)
  selects m = selects_itself w x m says.itself

  pub virtual_calls_reach : VirtualCallsReach files w n place x
  virtual_calls_reach m d r known class_here plain token e is = by (is_subtype w x m.class) refl e
    where
      by : (t : Bool) → is_subtype w x m.class ≡ t
          → (if t then reached_placed place (selected_on files w (OnObject m) x) else Nowhere) ≡ r
          → reached_by n.loaded (dispatched (tower n.loaded (n.class x)) (n.dispatch_token m)) ≡ reached_as (code_of n)
          (offset_of n) r
      by false sub h = absurd (subst IsFound (sym h) is)
      by true sub h = split (selection w x (signature m)) refl
          (ap (λ o. reached_placed place (option_and_then (λ f. callee_at files (first_imported (line w (receiver x))) m
          f) o)) (sym (selects m))
          ∙ h)
        where
          split : (o : Option Found) → selection w x (signature m) ≡ o
              → reached_placed place (option_and_then (λ f. callee_at files (first_imported (line w (receiver x))) m f)
              o) ≡ r
              → reached_by n.loaded (dispatched (tower n.loaded (n.class x)) (n.dispatch_token m))
              ≡ reached_as (code_of n) (offset_of n) r
          split None there g = absurd (subst IsFound (sym g) is)
          split (Some f) there g =
              let first_one : first_imported (line w (receiver x)) ≡ z = ap (λ y. first_imported (line w y)) says.itself
              ∙ says.imported in
              ap (reached_by n.loaded) (selections.virtual_call m d f known (says.climbs m.class d known class_here sub)
              token there (says.found m f there))
              ∙ found_reached files w n offset place begins z m f r (says.written m f plain there)
              (ap (λ c. reached_placed place (callee_at files c m f)) (sym first_one) ∙ g) is

  -- a call of an interface's method, on an object of the package
  pub interface_call_reaches : (m : MemberId) (c : Class) → class_named w x ≡ Some c → c.is_imported ≡ false
      → is_abstract c.flags ≡ false → SaysInterface w n m c → InterfaceCallReaches files w n place x m
  interface_call_reaches m c known own made has words r e is = by (is_subtype w x m.class) e
    where
      there : class_named w (receiver x) ≡ Some c
      there = ap (class_named w) says.itself ∙ known

      inside : interface_callee files w (select_in w) m.class x m (class_named w (receiver x))
          ≡ selected_from files w (select_in w) x m
      inside = ap (interface_callee files w (select_in w) m.class x m) there
          ∙ ap (λ t. if t then Some (Linked.Abroad (of_class m.class m)) else selected_from files w (select_in w) x m)
          own

      by : (t : Bool)
          → (if t then reached_placed place (interface_callee files w (select_in w) m.class x m
          (class_named w (receiver x))) else Nowhere) ≡ r
          → reached_by n.loaded (dispatched_interface n.loaded (Some (n.class x)) (n.class m.class)
          (n.interface_token m)) ≡ reached_as (code_of n) (offset_of n) r
      by false h = absurd (subst IsFound (sym h) is)
      by true h = split (selection w x (signature m)) refl
          (ap (λ o. reached_placed place (option_and_then (λ f. callee_at files (first_imported (line w (receiver x))) m
          f) o)) (sym (selects m))
          ∙ ap (reached_placed place) (sym inside)
          ∙ h)
        where
          split : (o : Option Found) → selection w x (signature m) ≡ o
              → reached_placed place (option_and_then (λ f. callee_at files (first_imported (line w (receiver x))) m f)
              o) ≡ r
              → reached_by n.loaded (dispatched_interface n.loaded (Some (n.class x)) (n.class m.class)
              (n.interface_token m)) ≡ reached_as (code_of n) (offset_of n) r
          split None found g = absurd (subst IsFound (sym g) is)
          split (Some f) found g =
              let first_one : first_imported (line w (receiver x)) ≡ z = ap (λ y. first_imported (line w y)) says.itself
              ∙ says.imported in
              ap (reached_by n.loaded) (selections.interface_call m c f known own made has found (says.found m f found))
              ∙ found_reached files w n offset place begins z m f r (says.written m f has.plain found)
              (ap (λ y. reached_placed place (callee_at files y m f)) (sym first_one) ∙ g) is

-- ---- other calls

-- on an object of an imported class, the event of the interface
pub outside_call_reaches : (files : Files) (w : List Class) (n : Naming) (place : Method
    → Placed) (x : List ℕ) (m : MemberId) → SaysOutside w n x m → InterfaceCallReaches files w n place x m
outside_call_reaches files w n place x m says words r e is = by (is_subtype w x m.class) e
  where
    outside : interface_callee files w (select_in w) m.class x m (class_named w (receiver x)) ≡ Some (Linked.Abroad m)
    outside = ap (interface_callee files w (select_in w) m.class x m) says.known
        ∙ ap (λ t. if t then Some (Linked.Abroad (of_class m.class m)) else selected_from files w (select_in w) x m)
        says.imported

    asked : dispatched_interface n.loaded (Some (n.class x)) (n.class m.class) (n.interface_token m) ≡ Outward m
    asked = ap (λ c. dispatched_interface n.loaded (Some c) (n.class m.class) (n.interface_token m)) says.on_card
        ∙ says.event

    by : (t : Bool)
        → (if t then reached_placed place (interface_callee files w (select_in w) m.class x m
        (class_named w (receiver x))) else Nowhere) ≡ r
        → reached_by n.loaded (dispatched_interface n.loaded (Some (n.class x)) (n.class m.class) (n.interface_token m))
        ≡ reached_as (code_of n) (offset_of n) r
    by false h = absurd (subst IsFound (sym h) is)
    by true h = ap (reached_by n.loaded) asked ∙ ap (reached_as (code_of n) (offset_of n)) (ap (reached_placed place)
        (sym outside) ∙ h)

module _ (files : Files) (w : List Class) (n : Naming) (offset : Found → ℕ) (place : Method
    → Placed) (begins : BeginsAtOffsets files w n offset place) where
  -- a static method, a constructor or a private method
  pub fixed_calls_reach : (on : Bool) (m : MemberId) → SaysFixed w n offset on m → FixedCallsReach files w n place on m
  fixed_calls_reach on m says o r e is = by o e
    where
      there : (receiver_class : Option card_classes.Class) → reached_placed place (direct files w m) ≡ r
          → reached_by n.loaded (chosen n.loaded (n.fixed on m) receiver_class) ≡ reached_as (code_of n) (offset_of n) r
      there receiver_class h = split (find_method w m.class m.name m.desc) refl h
        where
          split : (q : Option Found) → find_method w m.class m.name m.desc ≡ q
              → reached_placed place (option_and_then (λ f. callee_at files m.class m f) q) ≡ r
              → reached_by n.loaded (chosen n.loaded (n.fixed on m) receiver_class) ≡ reached_as (code_of n)
              (offset_of n) r
          split None found g = absurd (subst IsFound (sym g) is)
          split (Some f) found g =
              let told = says f found in
              ap (λ c. reached_by n.loaded (chosen n.loaded c receiver_class)) told.0
              ∙ ap (reached_by n.loaded) (by_import f.imported)
              ∙ found_reached files w n offset place begins m.class m f r told.1 g is
            where
              by_import : (t : Bool) → chosen n.loaded (if t then operations.Outer on m
                  else operations.Fixed on n.part (offset f)) receiver_class ≡ (if t then Outward m
                  else At n.part (offset f))
              by_import true = refl
              by_import false = refl

      by : (q : Option (Shape (List ℕ))) → reached_at files w place (Fixed on m) q ≡ r
          → Calls.reached n.loaded (n.fixed on m) (option_as (shape_as n.class) q) ≡ reached_as (code_of n)
          (offset_of n) r
      by None h = alone on h
        where
          alone : (t : Bool) → reached_placed place (on_class files w (Fixed t m)) ≡ r
              → reached_by n.loaded (chosen n.loaded (n.fixed on m) None) ≡ reached_as (code_of n) (offset_of n) r
          alone true g = absurd (subst IsFound (sym g) is)
          alone false g = there None g
      by (Some kind) h = tested (is_subtype w (shape_name kind) m.class) h
        where
          tested : (t : Bool) → (if t then reached_placed place (direct files w m) else Nowhere) ≡ r
              → Calls.reached n.loaded (n.fixed on m) (option_as (shape_as n.class) (Some kind))
              ≡ reached_as (code_of n) (offset_of n) r
          tested false g = absurd (subst IsFound (sym g) is)
          tested true g = there (option_and_then (shape_class n.loaded) (option_as (shape_as n.class) (Some kind))) g

  -- a method that is selected from the superclass on
  pub super_calls_reach : (m : MemberId) (super z : List ℕ) → SaysSuper w n m super z
      → SelectionsAgree w n offset super z → SuperCallsReach files w n place m
  super_calls_reach m super z says selections o r e is = by o e
    where
      selects : select_in w super m ≡ selection w super (signature m)
      selects = selects_itself w super m says.itself

      there : reached_placed place (Package.above files w m) ≡ r
          → reached_by n.loaded (dispatched (above (tower n.loaded (n.class m.class))) (n.dispatch_token m))
          ≡ reached_as (code_of n) (offset_of n) r
      there h = split (selection w super (signature m)) refl
          (ap (λ q. reached_placed place
          (option_and_then (λ f. callee_at files (first_imported (line w (receiver super))) m f) q)) (sym selects)
          ∙ ap (λ q. reached_placed place (option_and_then (λ y. selected_from files w (select_in w) y m) q))
          (sym says.first_one)
          ∙ h)
        where
          split : (q : Option Found) → selection w super (signature m) ≡ q
              → reached_placed place (option_and_then (λ f. callee_at files (first_imported (line w (receiver super))) m
              f) q) ≡ r
              → reached_by n.loaded (dispatched (above (tower n.loaded (n.class m.class))) (n.dispatch_token m))
              ≡ reached_as (code_of n) (offset_of n) r
          split None found g = absurd (subst IsFound (sym g) is)
          split (Some f) found g =
              let known = says.known in
              ap (λ t. reached_by n.loaded (dispatched t (n.dispatch_token m))) says.tables
              ∙ ap (λ t. reached_by n.loaded (dispatched (tower n.loaded (n.class super)) t)) says.same_token
              ∙ ap (reached_by n.loaded) (selections.virtual_call (of_class super m) known.0 f known.1 itself says.token
              found (says.found f found))
              ∙ found_reached files w n offset place begins z m f r (says.written f found)
              (ap (λ y. reached_placed place (callee_at files y m f)) (sym says.imported) ∙ g) is

      by : (q : Option (Shape (List ℕ))) → reached_at files w place (OnSuper m) q ≡ r
          → Calls.reached n.loaded (callee n (OnSuper m)) (option_as (shape_as n.class) q) ≡ reached_as (code_of n)
          (offset_of n) r
      by None h = absurd (subst IsFound (sym h) is)
      by (Some kind) h = tested (is_subtype w (shape_name kind) m.class) h
        where
          tested : (t : Bool) → (if t then reached_placed place (Package.above files w m) else Nowhere) ≡ r
              → reached_by n.loaded (dispatched (above (tower n.loaded (n.class m.class))) (n.dispatch_token m))
              ≡ reached_as (code_of n) (offset_of n) r
          tested false g = absurd (subst IsFound (sym g) is)
          tested true g = there g
