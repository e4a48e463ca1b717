-- What calls reach is the same by name and by token.
use Rattle.std.proofs.Common.{◌≡◌, ℕ, refl, sym, ap, subst, ◌∙◌, Bool, true, false, List}
use Rattle.std.specs.Prelude.{Option, Some, None, option_map, option_and_then, if◌then◌else◌}
use Rattle.cjc_bytes.specs.declared.fault.MemberId.{MemberId}
use Rattle.cjc_script.specs.Sorts.{Shape, shape_name}
use Rattle.cjc_bytecode.specs.Machine.{Reached, Nowhere}
use Rattle.cjc_bytecode.specs.Alike.{IsFound, reached_as, start_as}
use Rattle.cjc_bytecode.specs.Renaming.{option_as}
use Rattle.cjc_card.specs.Calls.{reached_by, with_code}
use Rattle.cjc_card.specs.Dispatch.{At, Outward, dispatched, tower}
use Rattle.cjc_card.specs.Methods.{start_of}
use Rattle.cjc_world.specs.declared.image.StaticImage.{StaticImage}
use Rattle.cjc_world.specs.declared.found.Found.{Found}
use Rattle.cjc_world.specs.Files.{Files}
use Rattle.cjc_world.specs.Classes.{Class, all_classes}
use Rattle.cjc_world.specs.Kin.{line}
use Rattle.cjc_world.specs.Lookup.{first, own_method, receiver, selected}
use Rattle.cjc_world.specs.Subtype.{is_subtype}
use Rattle.cjc_by_name.specs.Linked.{Method, Inside}
use Rattle.cjc_by_name.specs.Linked
use Rattle.cjc_by_name.specs.OnePackage.{callee_at, entry_named, first_imported, method_at, of_class, select_in, sent_named}
use Rattle.cjc_ncode.specs.ByLabel.{Callee, OnObject}
use Rattle.cjc_narrow.specs.Package.{class_of_callee, on_class, selected_on, named as named_package}
use Rattle.cjc_narrow.specs.Package
use Rattle.cjc_vtable.specs.Laws.{selection}
use Rattle.cjc_lower.specs.Agreement.{MethodsAgree}
use Rattle.cjc_lower.specs.Naming.{Naming}
use Rattle.cjc_lower.specs.Placed.{Placed, code_of, offset_of}
use Rattle.cjc_calls_by_token.specs.Dispatching.{event, selection_of}
use Rattle.cjc_calls_by_token.specs.Selecting.{signature, SelectionsAgree}
use Rattle.cjc_calls_by_token.specs.Reaching.{start_placed, reached_placed, reached_at, placed_methods, SaysReceiver, BeginsAtOffsets, VirtualCallsReach}

-- ---- methods where they stand

module _ (files : Files) (image : StaticImage) (place : Method → Placed) where
  abbrev code : Method → Rattle.cjc_ncode.specs.declared.narrow.NMethod.NMethod
  code m = let p = place m in p.method

  starts_same : (o : Option Method) → option_map (Package.start_of code) o ≡ option_as (start_as (λ (p : Placed). p.method) (λ (p : Placed) (label : ℕ). label)) (option_map (start_placed place) o)
  starts_same None = refl
  starts_same (Some m) = refl

  reaches_same : (o : Option Linked.Callee) → Package.reached_by code o ≡ reached_as (λ (p : Placed). p.method) (λ (p : Placed) (label : ℕ). label) (reached_placed place o)
  reaches_same None = refl
  reaches_same (Some (Inside m)) = refl
  reaches_same (Some (Linked.Abroad event)) = refl

  pub methods_agree : MethodsAgree (named_package files image code) (placed_methods files place)
  unfolding named_package
  methods_agree = record {
    reached = λ m o. by m o;
    called = λ id. starts_same (entry_named files (all_classes files) id);
    sent = λ kind id. starts_same (sent_named files (all_classes files) (shape_name kind) id);
  }
    where
      by : (m : Callee) (o : Option (Shape (List ℕ))) → Package.reached files (all_classes files) code m o ≡ reached_as (λ (p : Placed). p.method) (λ (p : Placed) (label : ℕ). label) (reached_at files (all_classes files) place m o)
      by m None = reaches_same (on_class files (all_classes files) m)
      by m (Some kind) = split (is_subtype (all_classes files) (shape_name kind) (class_of_callee m))
        where
          split : (t : Bool) → (if t then Package.reached_by code (selected_on files (all_classes files) m (shape_name kind)) else Nowhere)
              ≡ reached_as (λ (p : Placed). p.method) (λ (p : Placed) (label : ℕ). label) (if t then reached_placed place (selected_on files (all_classes files) m (shape_name kind)) else Nowhere)
          split true = reaches_same (selected_on files (all_classes files) m (shape_name kind))
          split false = refl

-- ---- virtual calls

module _ (files : Files) (w : List Class) (n : Naming) (offset : Found → ℕ) (place : Method → Placed) (begins : BeginsAtOffsets files n offset place) (x z : List ℕ) (says : SaysReceiver w x z) (selections : SelectionsAgree w n offset x z) where
  selects : (m : MemberId) → select_in w x m ≡ selection w x (signature m)
  unfolding selected
  selects m = ap (λ y. first (own_method true m.name m.desc) (line w y)) says.itself

  -- a method that is found is reached where it begins, or by its event
  found_reached : (m : MemberId) (f : Found) (r : Reached Placed) → reached_placed place (callee_at files z m f) ≡ r → IsFound r → reached_by n.loaded (selection_of n offset z (signature m) f) ≡ reached_as (code_of n) (offset_of n) r
  found_reached m f r e is = by f.imported refl e
    where
      by : (t : Bool) → f.imported ≡ t → reached_placed place (if t then Some (Linked.Abroad (of_class z m)) else option_map Inside (method_at files f)) ≡ r
          → reached_by n.loaded (if t then Outward (event z (signature m)) else At n.part (offset f)) ≡ reached_as (code_of n) (offset_of n) r
      by true imported h = ap (reached_as (code_of n) (offset_of n)) h
      by false own h = split (method_at files f) refl h
        where
          split : (o : Option Method) → method_at files f ≡ o → reached_placed place (option_map Inside o) ≡ r → with_code (start_of n.loaded n.part (offset f)) ≡ reached_as (code_of n) (offset_of n) r
          split None there g = absurd (subst IsFound (sym g) is)
          split (Some k) there g = ap with_code (begins f k there) ∙ ap (reached_as (code_of n) (offset_of n)) g

  pub virtual_calls_reach : VirtualCallsReach files w n place x
  virtual_calls_reach m d r known token e is = by (is_subtype w x m.class) refl e
    where
      by : (t : Bool) → is_subtype w x m.class ≡ t → (if t then reached_placed place (selected_on files w (OnObject m) x) else Nowhere) ≡ r
          → reached_by n.loaded (dispatched (tower n.loaded (n.class x)) (n.dispatch_token m)) ≡ reached_as (code_of n) (offset_of n) r
      by false sub h = absurd (subst IsFound (sym h) is)
      by true sub h = split (selection w x (signature m)) refl
          (ap (λ o. reached_placed place (option_and_then (λ f. callee_at files (first_imported (line w (receiver x))) m f) o)) (sym (selects m))
          ∙ h)
        where
          split : (o : Option Found) → selection w x (signature m) ≡ o → reached_placed place (option_and_then (λ f. callee_at files (first_imported (line w (receiver x))) m f) o) ≡ r
              → reached_by n.loaded (dispatched (tower n.loaded (n.class x)) (n.dispatch_token m)) ≡ reached_as (code_of n) (offset_of n) r
          split None there g = absurd (subst IsFound (sym g) is)
          split (Some f) there g =
              let first_one : first_imported (line w (receiver x)) ≡ z = ap (λ y. first_imported (line w y)) says.itself ∙ says.imported in
              ap (reached_by n.loaded) (selections.virtual_call m d f known (says.climbs m.class d known sub) token there (says.found m f there))
              ∙ found_reached m f r (ap (λ c. reached_placed place (callee_at files c m f)) (sym first_one) ∙ g) is
