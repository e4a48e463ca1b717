-- The look-ups of narrow code ask for the code of methods of class files alone.
use Rattle.std.proofs.Common.{◌≡◌, ℕ, refl, ap, ◌∙◌, Bool, true, false, List, [], ◌∷◌}
use Rattle.std.specs.Prelude.{◌&&◌, Option, Some, None, option_and_then, option_map, if◌then◌else◌}
use Rattle.cjc_token_proof.specs.CardSemantics.Bytecode.Machine.{Nowhere, Within}
use Rattle.cjc_jvm_semantics.specs.Linked.{Abroad, Callee, Inside, Method}
use Rattle.cjc_jvm_semantics.specs.OnePackage.{ResolvedMember, Selection, callee_at, entry_in, entry_named}
use Rattle.cjc_jvm_semantics.specs.OnePackage.{first_imported}
use Rattle.cjc_jvm_semantics.specs.OnePackage.{first_super, interface_callee, is_initialiser, is_sendable, made_of}
use Rattle.cjc_jvm_semantics.specs.OnePackage.{method_at, method_hit, of_class, select_in, selected_from, sent_by}
use Rattle.cjc_jvm_semantics.specs.OnePackage.{sent_named}
use Rattle.cjc_bytes.specs.AccessFlags.{is_static}
use Rattle.cjc_bytes.specs.declared.fault.MemberId.{MemberId}
use Rattle.cjc_token_proof.specs.Narrow.Rows.Package.{above, class_of_callee, direct, fault_name, first_memory}
use Rattle.cjc_token_proof.specs.Narrow.Rows.Package.{name_there, named}
use Rattle.cjc_token_proof.specs.Narrow.Rows.Package.{on_class, plain_import, reached, reached_by, selected_on}
use Rattle.cjc_token_proof.specs.Narrow.Rows.Package.{start_of}
use Rattle.cjc_token_proof.specs.Narrow.Rows.Package.{throwable_import, words}
use Rattle.cjc_ncode.specs.ByLabel.{Fixed, OnInterface, OnObject, OnSuper}
use Rattle.cjc_ncode.specs.ByLabel as labels
use Rattle.cjc_ncode.specs.declared.narrow.NMethod.{NMethod}
use Rattle.cjc_token_proof.specs.Script.Sorts.{Shape, shape_name}
use Rattle.cjc_world.specs.Classes.{Class, all_classes, class_named}
use Rattle.cjc_world.specs.Files.{Files}
use Rattle.cjc_world.specs.Supertypes.{line}
use Rattle.cjc_world.specs.Lookup.{find_method, own_method, receiver}
use Rattle.cjc_world.specs.Subtype.{is_subtype}
use Rattle.cjc_world.specs.declared.found.Found.{Found}
use Rattle.cjc_world.specs.declared.image.StaticImage.{StaticImage}

module _ (files : Files) where
  abbrev w : List Class
  w = all_classes files

  -- A method of a class file.
  abbrev pub IsOwn : Method → Type 0
  IsOwn m = (f : Found) × (method_at files f ≡ Some m)

  -- what is found is one, if it is no imported one
  abbrev pub FindsOwn : Option Callee → Type 0
  FindsOwn o = (m : Method) → o ≡ Some (Inside m) → IsOwn m

  -- what is named is one
  abbrev pub IsOwnOne : Option Method → Type 0
  IsOwnOne o = (m : Method) → o ≡ Some m → IsOwn m

  pub finds_after : {A : Type 0} (g : A → Option Callee) → ((a : A) → FindsOwn (g a)) → (o : Option A)
      → FindsOwn (option_and_then g o)
  finds_after g each None m e = absurd cc
  finds_after g each (Some a) m e = each a m e

  own_after : {A : Type 0} (g : A → Option Method) → ((a : A) → IsOwnOne (g a)) → (o : Option A)
      → IsOwnOne (option_and_then g o)
  own_after g each None m e = absurd cc
  own_after g each (Some a) m e = each a m e

  pub callee_own : (event : List ℕ) (id : MemberId) (f : Found) → FindsOwn (callee_at files event id f)
  callee_own event id f m e = by f.imported (method_at files f) refl e
    where
      by : (b : Bool) (o : Option Method) → method_at files f ≡ o → (if b then Some (Abroad (of_class event id))
          else option_map Inside o) ≡ Some (Inside m) → IsOwn m
      by true o g e = absurd cc
      by false None g e = absurd cc
      by false (Some x) g e = let same : x ≡ m = cc in (f, g ∙ ap Some same)

  direct_own : (id : MemberId) → FindsOwn (direct files w id)
  direct_own id = finds_after (λ f. callee_at files id.class id f) (λ f. callee_own id.class id f)
      (find_method w id.class id.name id.desc)

  -- however methods are selected
  pub selected_own : (select : Selection) (type : List ℕ) (id : MemberId)
      → FindsOwn (selected_from files w select type id)
  selected_own select type id = finds_after (λ f. callee_at files (first_imported (line w (receiver type))) id f)
      (λ f. callee_own (first_imported (line w (receiver type))) id f) (select type id)

  above_own : (id : MemberId) → FindsOwn (above files w id)
  above_own id = finds_after (λ super. selected_from files w (select_in w) super id)
      (λ super. selected_own (select_in w) super id) (first_super (class_named w id.class))

  pub interface_own : (select : Selection) (interface type : List ℕ) (id : MemberId) (o : Option Class)
      → FindsOwn (interface_callee files w select interface type id o)
  interface_own select interface type id None m e = absurd cc
  interface_own select interface type id (Some c) m e = by c.is_imported e
    where
      by : (b : Bool) → (if b then Some (Abroad (of_class interface id)) else selected_from files w select type id)
          ≡ Some (Inside m) → IsOwn m
      by true e = absurd cc
      by false e = selected_own select type id m e

  on_own : (callee : labels.Callee) (type : List ℕ) → FindsOwn (selected_on files w callee type)
  on_own (Fixed on id) type = direct_own id
  on_own (OnObject id) type = selected_own (select_in w) type id
  on_own (OnSuper id) type = above_own id
  on_own (OnInterface n id) type = interface_own (select_in w) id.class type id (class_named w (receiver type))

  class_own : (callee : labels.Callee) → FindsOwn (on_class files w callee)
  class_own (Fixed false id) = direct_own id
  class_own (Fixed true id) = λ m e. absurd cc
  class_own (OnObject id) = λ m e. absurd cc
  class_own (OnSuper id) = λ m e. absurd cc
  class_own (OnInterface n id) = λ m e. absurd cc

  pub entry_own : (id : MemberId) → IsOwnOne (entry_named files w id)
  entry_own id m e = go (is_initialiser id.name) e
    where
      found : (f : Found) (hit : ResolvedMember) (b : Bool) → (if b then method_at files f else None) ≡ Some m → IsOwn m
      found f hit true e = (f, e)
      found f hit false e = absurd cc

      in_it : (c : Class) (o : Option Found) → option_and_then (λ f. option_and_then (λ hit. if is_static hit.flags
          then method_at files f else None) (method_hit (c ∷ []) f)) o ≡ Some m → IsOwn m
      in_it c None e = absurd cc
      in_it c (Some f) e = hits (method_hit (c ∷ []) f) e
        where
          hits : (o : Option ResolvedMember) → option_and_then (λ hit. if is_static hit.flags then method_at files f
              else None) o ≡ Some m → IsOwn m
          hits None e = absurd cc
          hits (Some hit) e = found f hit (is_static hit.flags) e

      classes : (o : Option Class) → option_and_then (entry_in files id) o ≡ Some m → IsOwn m
      classes None e = absurd cc
      classes (Some c) e = in_it c (own_method false id.name id.desc c) e

      go : (b : Bool) → (if b then None else option_and_then (entry_in files id) (class_named w id.class)) ≡ Some m
          → IsOwn m
      go true e = absurd cc
      go false e = classes (class_named w id.class) e

  pub sent_own : (select : ResolvedMember → Selection) (type : List ℕ) (id : MemberId)
      → IsOwnOne (option_and_then (λ f. option_and_then (λ hit. sent_by files w (select hit) type id hit)
      (method_hit w f)) (find_method w id.class id.name id.desc))
  sent_own select type id m e = places (find_method w id.class id.name id.desc) e
    where
      chosen : (o : Option Found) → option_and_then (method_at files) o ≡ Some m → IsOwn m
      chosen None e = absurd cc
      chosen (Some f) e = (f, e)

      go : (hit : ResolvedMember) (b : Bool) → (if b then option_and_then (method_at files) (select hit type id)
          else None) ≡ Some m → IsOwn m
      go hit true e = chosen (select hit type id) e
      go hit false e = absurd cc

      hits : (o : Option ResolvedMember) → option_and_then (λ hit. sent_by files w (select hit) type id hit) o ≡ Some m
          → IsOwn m
      hits None e = absurd cc
      hits (Some hit) e = go hit (is_sendable id hit && is_subtype w type id.class) e

      places : (o : Option Found) → option_and_then (λ f. option_and_then (λ hit. sent_by files w (select hit) type id
          hit) (method_hit w f)) o ≡ Some m → IsOwn m
      places None e = absurd cc
      places (Some f) e = hits (method_hit w f) e

  module _ (image : StaticImage) (one other : Method → NMethod) (alike : (f : Found) (m : Method)
      → method_at files f ≡ Some m → one m ≡ other m) where
    pub same_start : (m : Method) → IsOwn m → start_of one m ≡ start_of other m
    same_start m own = ap (λ (n : NMethod). record {
      code = n;
      at = 0;
      nargs = n.nargs;
      max_locals = n.max_locals;
      is_abstract = m.is_abstract;
    }) (alike own.0 m own.1)

    same_by : (o : Option Callee) → FindsOwn o → reached_by one o ≡ reached_by other o
    same_by None own = refl
    same_by (Some (Inside m)) own = ap Within (same_start m (own m refl))
    same_by (Some (Abroad event)) own = refl

    same_reached : (callee : labels.Callee) (kind : Option (Shape (List ℕ))) → reached files w one callee kind
        ≡ reached files w other callee kind
    same_reached callee None = same_by (on_class files w callee) (class_own callee)
    same_reached callee (Some kind) =
        ap (λ r. if is_subtype w (shape_name kind) (class_of_callee callee) then r
        else Nowhere) (same_by (selected_on files w callee (shape_name kind)) (on_own callee (shape_name kind)))

    same_starts : (o : Option Method) → IsOwnOne o → option_map (start_of one) o ≡ option_map (start_of other) o
    same_starts None own = refl
    same_starts (Some m) own = ap Some (same_start m (own m refl))

    -- code that is the same for each method of the class files gives the same look-ups
    pub same_look_ups : named files image one ≡ named files image other
    unfolding named
    same_look_ups = λ i. record {
      is_of = λ sub sup. is_subtype w (shape_name sub) (shape_name sup);
      fields = made_of w;
      reached = λ callee kind. same_reached callee kind i;
      words = words files w;
      fault = λ fault. name_there w (fault_name fault);
      class_named = name_there w;
      imported = plain_import w;
      throwable = throwable_import w;
      called = λ id. same_starts (entry_named files w id) (entry_own id) i;
      sent = λ kind id. same_starts (sent_named files w (shape_name kind) id)
          (sent_own (λ hit. select_in w) (shape_name kind) id) i;
      memory = first_memory files image;
    }
