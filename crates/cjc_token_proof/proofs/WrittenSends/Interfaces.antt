-- A method that is sought among the interfaces of a class or interface: which of them has it by token, and what it
-- dispatches to.
use Rattle.std.proofs.Common.{◌≡◌, ℕ, zero, suc, ◌+◌, refl, sym, ap, subst, ◌∙◌, Bool, true, false, List, [], ◌∷◌, ◌++◌}
use Rattle.std.proofs.Common.{length, inl, inr, ⊎_elim}
use Rattle.std.specs.Prelude.{◌⊎◌, ◌↔◌, ◌==◌, Option, Some, None, not, is_some, map, option_map, option_and_then}
use Rattle.std.specs.Prelude.{position, slice_get, ◌&&◌, ◌||◌, if◌then◌else◌, codes}
use Rattle.std.specs.List.{position_or_len}
use Rattle.std.proofs.lemmas.List.Folds.{find_at}
use Rattle.std.specs.Str.{bytes_eq}
use Rattle.cjc_bytes.specs.AccessFlags.{is_abstract, is_interface}
use Rattle.cjc_bytes.specs.declared.fault.MemberId.{MemberId}
use Rattle.cjc_bytes.proofs.Bools.{or_cases}
use Rattle.cjc_jvm_semantics.specs.Linked.{Method}
use Rattle.cjc_jvm_semantics.specs.OnePackage.{is_constructor, is_initialiser, of_class}
use Rattle.cjc_token_proof.proofs.ByToken.Subtypes.{supers_from}
use Rattle.cjc_token_proof.specs.ByToken.Above.{IsAtOrAbove, itself}
use Rattle.cjc_token_proof.specs.ByToken.Above as above
use Rattle.cjc_token_proof.specs.ByToken.Supers.{KindsAgree, SaysKinds, has_class}
use Rattle.cjc_token_proof.specs.Calls.Dispatching.{selection_of}
use Rattle.cjc_token_proof.specs.Calls.Reaching.{BeginsAtOffsets}
use Rattle.cjc_token_proof.specs.Calls.Selecting.{signature}
use Rattle.cjc_card_semantics.specs.Machine.Calls.{interface_token, is_named, listed_token, place_named, through}
use Rattle.cjc_card_semantics.specs.Machine.Calls.{through_first, token_if_interface}
use Rattle.cjc_card_semantics.specs.Machine.Classes.{External, external, is_kind_of}
use Rattle.cjc_card_semantics.specs.Machine.Classes as card
use Rattle.cjc_card_semantics.specs.Machine.Dispatch.{NotFound, Selection, dispatched_interface}
use Rattle.cjc_card_semantics.specs.Machine.Loaded.{ClassNames, Loaded, MethodName}
use Rattle.cjc_components.specs.Methods.{method_offset}
use Rattle.cjc_components.specs.Names.{class_at as card_class}
use Rattle.cjc_components.specs.Package.{Package, world}
use Rattle.cjc_world.specs.ExportFile.declared.tree.ExportClass.{ExportClass}
use Rattle.cjc_world.specs.ExportFile.declared.tree.ExportMethod.{ExportMethod}
use Rattle.cjc_ncode.specs.Lowering.Naming.{Naming}
use Rattle.cjc_ncode.specs.Lowering.Placed.{Placed}
use Rattle.cjc_script.specs.Sorts.{OfClass}
use Rattle.cjc_token_proof.specs.Tables.Loading.{naming}
use Rattle.cjc_token_proof.specs.Tables.Sound.{IsSound}
use Rattle.cjc_tokens.proofs.Facts.{same-refl, same-true}
use Rattle.cjc_tokens.specs.Members.{In, Signature, chosen, first_of, has, is_virtual, later, same, signature_of}
use Rattle.cjc_tokens.specs.Members as members
use Rattle.cjc_tokens.specs.Methods.{interface_methods, interfaces_at}
use Rattle.cjc_vtable.proofs.Asked.{Among, at_head, further, has-here, method-asked, named-among, has-In}
use Rattle.cjc_vtable.proofs.Given.{In-split}
use Rattle.cjc_vtable.proofs.Stood.{in-interface}
use Rattle.cjc_vtable.specs.Calls.{any_method, is_special}
use Rattle.cjc_vtable.specs.Calls as calls
use Rattle.cjc_vtable.specs.Laws.{ImportedCallsAgree, selection}
use Rattle.cjc_vtable.proofs.Keeping.{by_token-in}
use Rattle.cjc_world.specs.Added.{asked_by, by_token, own_methods, without_initialiser}
use Rattle.cjc_world.specs.Classes.{Class, Member, class_named, imported, method_of_export}
use Rattle.cjc_world.specs.Interfaces.{Interface, gathered, known, where_listed}
use Rattle.cjc_world.specs.Supertypes.{AreSupertypes, Supertypes, Known, End, Lists, after, ends, foremost, supertypes}
use Rattle.cjc_world.specs.Supertypes.{known_here, line, stands, unknown_here}
use Rattle.cjc_world.specs.Lookup.{first, is_called, is_selectable, object, own_method}
use Rattle.cjc_world.specs.Lookup as lookup
use Rattle.cjc_world.specs.Subtype.{array_is, element, is_element, is_subclass, is_subtype, starts}
use Rattle.cjc_world.specs.declared.found.Found.{Found}
use Rattle.cjc_world.proofs.Cycles.{class_named-name}
use Rattle.cjc_token_proof.proofs.WrittenCalls.Facts.{Facts}
use Rattle.cjc_token_proof.proofs.WrittenCalls.Files.{position_has}
use Rattle.cjc_token_proof.proofs.WrittenCalls.Placed.{placed_by_name}
use Rattle.cjc_token_proof.proofs.WrittenCalls.Reached.{agrees, says_interface}
use Rattle.cjc_token_proof.proofs.WrittenCalls.Receivers.{first_step, line_found}
use Rattle.cjc_token_proof.proofs.WrittenCalls.Towers.{class_stands}
use Rattle.cjc_token_proof.specs.WrittenCalls.Calls.{ExportsKeep, KeepsSubtypes, KeepsTokens}
use Rattle.cjc_token_proof.proofs.WrittenSends.Found.{first_after, first_front}
use Rattle.cjc_token_proof.proofs.WrittenSends.Order.{class_token, listed_is}
use Rattle.cjc_token_proof.specs.WrittenSends.Sends.{ExportsSend, InterfacesAsk}
use Rattle.cjc_world_proof.proofs.CallsLaws.Own.{is_found}

-- a signature that a position finds is the one that is sought
pub position_is : (ss : List Signature) (s : Signature) (k : ℕ) → position (λ t. same t s) ss ≡ Some k
    → slice_get ss k ≡ Some s
position_is ss s k e = let r = position_has (λ t. same t s) ss k s e in r.1 ∙ ap Some (same-true r.0 s r.2)

-- and one that stands there has a position
pub has_position : (ss : List Signature) (s : Signature) → has ss s ≡ true → (k : ℕ)
    × (position (λ t. same t s) ss ≡ Some k)
has_position [] s e = absurd (cc)
has_position (t ∷ ss) s e = by (same t s) refl e (has_position ss s)
  where
    step : (c : Bool) → same t s ≡ c → position (λ u. same u s) (t ∷ ss) ≡ (if c then Some 0
        else option_map suc (position (λ u. same u s) ss))
    step c is = Rattle.cjc_tokens.proofs.Facts.position-cons (λ u. same u s) t ss ∙ ap (λ b. if b then Some 0
        else option_map suc (position (λ u. same u s) ss)) is

    by : (c : Bool) → same t s ≡ c → (c || has ss s) ≡ true
        → (has ss s ≡ true → (k : ℕ) × (position (λ u. same u s) ss ≡ Some k)) → (k : ℕ)
        × (position (λ u. same u s) (t ∷ ss) ≡ Some k)
    by true is h rest = (0, step true is)
    by false is h rest = let r = rest h in (suc r.0, step false is ∙ ap (option_map suc) r.1)

chosen_member : (s : Signature) (ms : List Member) (m : Member) → chosen any_method s ms ≡ Some m → (k : ℕ)
    × (slice_get ms k ≡ Some m) × (signature_of m ≡ s)
chosen_member s [] m e = absurd (cc)
chosen_member s (x ∷ ms) m e = by (is_called s.name s.desc x) refl e (chosen_member s ms m)
  where
    by : (t : Bool) → is_called s.name s.desc x ≡ t → (if t then Some x else chosen any_method s ms) ≡ Some m
        → (chosen any_method s ms ≡ Some m → (k : ℕ) × (slice_get ms k ≡ Some m) × (signature_of m ≡ s)) → (k : ℕ)
        × (slice_get (x ∷ ms) k ≡ Some m) × (signature_of m ≡ s)
    by true is h rest = let one : x ≡ m = cc in (
      0,
      ap Some one,
      ap signature_of (sym one)
          ∙ same-true (signature_of x) s is,
    )
    by false is h rest = let r = rest h in (suc r.0, r.1, r.2)

chosen_there : (s : Signature) (ms : List Member) (k : ℕ) (m : Member) → slice_get ms k ≡ Some m → signature_of m ≡ s
    → chosen any_method s ms ≡ None → ⊥
chosen_there s [] k m e names none = cc
chosen_there s (x ∷ ms) zero m e names none =
    let one : x ≡ m = cc in
    let is : is_called s.name s.desc x ≡ true = ap (λ (q : Member). same (signature_of q) s) one
    ∙ ap (λ t. same t s) names ∙ same-refl s in
    let some : Some x ≡ None = sym (ap (λ t. if t then Some x else chosen any_method s ms) is) ∙ none in cc
chosen_there s (x ∷ ms) (suc k) m e names none = by (is_called s.name s.desc x) none (chosen_there s ms k m e names)
  where
    by : (t : Bool) → (if t then Some x else chosen any_method s ms) ≡ None → (chosen any_method s ms ≡ None → ⊥) → ⊥
    by true h rest = cc
    by false h rest = rest h

-- ---- lists of interfaces

pub first_among : (own : Class → Option Found) (z : Class) (cs : List Class) (g : Found) → Among z cs → own z ≡ Some g
    → (f : Found) × (first own cs ≡ Some f)
first_among own z cs g (at_head {cs = ds}) e = (g, first_step own z ds ∙ ap (λ o. lookup.or_else o (first own ds)) e)
first_among own z cs g (further {d = d} {cs = ds} a) e = let r = first_among own z ds g a e in by (own d) refl r
  where
    by : (o : Option Found) → own d ≡ o → (f : Found) × (first own ds ≡ Some f) → (f : Found)
        × (first own (d ∷ ds) ≡ Some f)
    by None is r = (r.0, first_step own d ds ∙ ap (λ o. lookup.or_else o (first own ds)) is ∙ r.1)
    by (Some f) is r = (f, first_step own d ds ∙ ap (λ o. lookup.or_else o (first own ds)) is)

among_first : (own : Class → Option Found) (cs : List Class) (f : Found) → first own cs ≡ Some f → (z : Class)
    × Among z cs × (own z ≡ Some f)
unfolding first
among_first own [] f e = absurd (cc)
among_first own (c ∷ cs) f e = by (own c) refl e (among_first own cs f)
  where
    by : (o : Option Found) → own c ≡ o → lookup.or_else o (first own cs) ≡ Some f → (first own cs ≡ Some f
        → (z : Class) × Among z cs × (own z ≡ Some f)) → (z : Class) × Among z (c ∷ cs) × (own z ≡ Some f)
    by None is h rest = let r = rest h in (r.0, further r.1, r.2)
    by (Some g) is h rest = (c, at_head, is ∙ h)

-- a class with a method of the signature among its own
in_either : (m x : Member) (ns ms : List Member) → In m (x ∷ ns) → (In m ns → In m ms) → In m (x ∷ ms)
in_either m x ns ms first_of rest = first_of
in_either m x ns ms (later h) rest = later (rest h)

without_in : (ms : List Member) (m : Member) → In m (without_initialiser ms) → In m ms
without_in [] m h = h
without_in (x ∷ ms) m h = by (bytes_eq x.name (codes "<clinit>")) h (without_in ms m)
  where
    by : (t : Bool) → In m (if t then without_initialiser ms else x ∷ without_initialiser ms)
        → (In m (without_initialiser ms) → In m ms) → In m (x ∷ ms)
    by true i rest = later (rest i)
    by false i rest = in_either m x (without_initialiser ms) ms i rest

pub own_in : (c : Class) (m : Member) → In m (own_methods c) → In m c.methods
unfolding own_methods
own_in c m h = by c.is_imported (without_in (if c.is_imported then by_token (length c.methods) 0 c.methods
    else c.methods) m h)
  where
    by : (t : Bool) → In m (if t then by_token (length c.methods) 0 c.methods else c.methods) → In m c.methods
    by true i = by_token-in (length c.methods) 0 c.methods m i
    by false i = i

pub in_place : (m : Member) (ms : List Member) → In m ms → (k : ℕ) × (slice_get ms k ≡ Some m)
in_place m ms (first_of {ms = ns}) = (0, refl)
in_place m ms (later {ms = ns} i) = let r = in_place m ns i in (suc r.0, r.1)

pub or_left : (a b : Bool) → a ≡ true → (a || b) ≡ true
or_left true b e = refl
or_left false b e = absurd (cc)

pub or_right : (a b : Bool) → b ≡ true → (a || b) ≡ true
or_right true b e = refl
or_right false b e = e

-- the class that an id names is not asked
place_any : (names : List MethodName) (y : List ℕ) (id : MemberId) → place_named names (of_class y id)
    ≡ place_named names id
place_any [] y id = refl
place_any (m ∷ names) y id = ap (λ o. if is_named m id then Some 0 else option_map suc o) (place_any names y id)

listed_any : (ms : List ExportMethod) (y : List ℕ) (id : MemberId) → listed_token ms (of_class y id)
    ≡ listed_token ms id
listed_any [] y id = refl
listed_any (m ∷ ms) y id = ap (λ o. if bytes_eq m.name id.name && bytes_eq m.desc id.desc
    then Some (if Rattle.cjc_world.specs.ExportFile.Supers.is_virtual m then Some m.token else None) else o)
    (listed_any ms y id)

pub token_any : (l : Loaded) (k : card.Class) (y : List ℕ) (id : MemberId) → interface_token l k (of_class y id)
    ≡ interface_token l k id
token_any l (card.Own part offset) y id = by (card.names_of l part offset)
  where
    by : (o : Option ClassNames) → option_and_then (λ (names : ClassNames). place_named names.interface_methods
        (of_class y id)) o ≡ option_and_then (λ (names : ClassNames). place_named names.interface_methods id) o
    by None = refl
    by (Some names) = place_any names.interface_methods y id
token_any l (External tree token) y id = by (external l tree token)
  where
    by : (o : Option ExportClass)
        → option_and_then (λ (c : ExportClass). option_and_then (λ t. t) (listed_token c.methods (of_class y id))) o
        ≡ option_and_then (λ (c : ExportClass). option_and_then (λ t. t) (listed_token c.methods id)) o
    by None = refl
    by (Some c) = ap (option_and_then (λ t. t)) (listed_any c.methods y id)

-- a class stands above another in the tree: a subtype
pub subtype_is : (w : List Class) (x y : List ℕ) → starts 91 x ≡ false → starts 91 y ≡ false
    → is_subtype w x y ≡ stands y (supertypes w (x ∷ []))
unfolding is_subtype is_subclass
subtype_is w x y no_x no_y =
    ap (λ t. if t then (if starts 91 y then is_element w (element x) (element y) else array_is w y)
    else not (starts 91 y) && stands y (supertypes w (x ∷ []))) no_x
    ∙ ap (λ t. not t && stands y (supertypes w (x ∷ []))) no_y

module _ (list : List ℕ) (p : Package) (sound : IsSound list p.files) (facts : Facts p) (subtypes : KeepsSubtypes
    (world p)) (tokens : KeepsTokens (world p)) (keep : ExportsKeep p) (kinds : SaysKinds (world p) (naming p))
    (kinds_agree : KindsAgree (world p) (naming p)) (names_agree : Rattle.cjc_token_proof.specs.ByToken.Names.NamesAgree
    (world p) (naming p))
    (imported_calls : ImportedCallsAgree (world p)) (told_kinds : (l : Loaded) (c d : card.Class)
    → (is_kind_of l c d ≡ true) ↔ IsAtOrAbove l c d)
    (place : Method → Placed) (begins : BeginsAtOffsets p.files (world p) (naming p) (method_offset p) place)
    (ask : InterfacesAsk false (world p)) (send : ExportsSend p) (id : MemberId) where
  abbrev w : List Class
  w = world p

  abbrev n : Naming
  n = naming p

  abbrev s : Signature
  s = signature id

  abbrev finds : Class → Option Found
  finds = own_method false id.name id.desc

  abbrev selects : Class → Option Found
  selects = own_method true id.name id.desc

  -- the place of the method among those of an interface
  abbrev pub place_in : Class → Option ℕ
  place_in i = position (λ t. same t s) (interface_methods w i)

  -- ---- what stands above a class on the card

  class_of_name : (y : List ℕ) → has_class w y ≡ true → (i : Class) × (class_named w y ≡ Some i)
  class_of_name y e = by (class_named w y) refl e
    where
      by : (o : Option Class) → class_named w y ≡ o → is_some o ≡ true → (i : Class) × (class_named w y ≡ Some i)
      by None h is = absurd (cc)
      by (Some i) h is = (i, h)

  -- all that stands above it has a name
  named_above : (a b : card.Class) → IsAtOrAbove n.loaded a b → (y : List ℕ) → a ≡ n.class y → has_class w y ≡ true
      → (z : List ℕ) × (has_class w z ≡ true) × (b ≡ n.class z)
  named_above a b itself y at there = (y, there, at)
  named_above a b (above.upwards {b = m} direct more) y at there =
      let c = class_of_name y there in
      let r = supers_from w n kinds y c.0 m c.1 (kinds.supers y c.0 c.1)
      (ap (λ q. card.is_in m (card.supers n.loaded q)) (sym at) ∙ direct) in
      named_above m b more r.name (sym r.is) r.there

  pub above_then : (a b d : card.Class) → IsAtOrAbove n.loaded a b → IsAtOrAbove n.loaded b d → IsAtOrAbove n.loaded a d
  above_then a b d itself far = far
  above_then a b d (above.upwards {b = m} direct more) far = above.upwards direct (above_then m b d more far)

  pub kind_above : (x y : List ℕ) → has_class w x ≡ true → has_class w y ≡ true → is_subtype w x y ≡ true
      → IsAtOrAbove n.loaded (n.class x) (n.class y)
  kind_above x y here there sub = (told_kinds n.loaded (n.class x) (n.class y)).0 (kinds_agree (OfClass x) (OfClass y)
      here there ∙ sub)

  pub above_kind : (x y : List ℕ) → has_class w x ≡ true → has_class w y ≡ true
      → IsAtOrAbove n.loaded (n.class x) (n.class y) → is_subtype w x y ≡ true
  above_kind x y here there far = sym (kinds_agree (OfClass x) (OfClass y) here there)
      ∙ (told_kinds n.loaded (n.class x) (n.class y)).1 far

  -- ---- by name: the interfaces of a class

  -- interfaces that are gathered are some, found by their names, and stand in the tree
  pub gathered_told : (listed : Bool) (xs : List (List ℕ)) (k : Supertypes) → AreSupertypes w xs k
      → (listed ≡ true → (y : List ℕ) (d : Class) → Lists y xs → class_named w y ≡ Some d → is_interface d.flags ≡ true)
      → (z : Class) → Among z (known (gathered listed k)) → (is_interface z.flags ≡ true)
      × (class_named w z.name ≡ Some z) × (stands z.name k ≡ true)
  unfolding gathered known
  gathered_told listed xs k ends all z a = elim a [ ]
  gathered_told true xs k (unknown_here {x = x} {next = next} nowhere rest) all z a =
      let r = gathered_told true _ next rest (λ h y d l. all h y d (after l)) z a
      in (r.0, r.1, or_right (bytes_eq x z.name) (stands z.name next) r.2)
  gathered_told false xs k (unknown_here {x = x} {next = next} nowhere rest) all z a =
      let r = gathered_told false _ next rest (λ h y d l. all h y d (after l)) z a
      in (r.0, r.1, or_right (bytes_eq x z.name) (stands z.name next) r.2)
  gathered_told listed xs k (known_here {x = x} {xs = xs'} {c = c} {supers = su} {interfaces = it} {next = next} e ks ki
      kn) all z a =
      ⊎_elim
      (λ front. ⊎_elim
      (λ above_all. ⊎_elim
      (λ b. let r = gathered_told false c.supers su ks (λ h. absurd (cc)) z b in (r.0, r.1, in_supers r.2))
      (λ b. let r = gathered_told true c.interfaces it ki (λ h y d l g. facts.interfaces.listed x y c d e l g) z b
      in (r.0, r.1, in_interfaces r.2))
      (split (gathered false su) (gathered true it) above_all))
      (λ b. itself_told listed all b)
      (split (gathered false su ++ gathered true it) (where_listed listed (record { name = c.name; class = Some c }))
      front))
      (λ b. let r = gathered_told listed _ next kn (λ h y d l. all h y d (after l)) z b
      in (
        r.0,
        r.1,
        or_right ((bytes_eq c.name z.name || stands z.name su) || stands z.name it) (stands z.name next)
            r.2,
      ))
      (split (gathered false su ++ gathered true it ++ where_listed listed (record { name = c.name; class = Some c }))
      (gathered listed next) a)
    where
      split : (is js : List Interface) → Among z (known (is ++ js)) → Among z (known is) ⊎ Among z (known js)
      split is js h = Rattle.cjc_vtable.proofs.Asked.among-split z (known is) (known js)
          (subst (Among z) (Rattle.cjc_world.proofs.Rising.known-append is js) h)

      in_supers : stands z.name su ≡ true → (((bytes_eq c.name z.name || stands z.name su) || stands z.name it)
          || stands z.name next) ≡ true
      in_supers h = or_left ((bytes_eq c.name z.name || stands z.name su) || stands z.name it) (stands z.name next)
          (or_left (bytes_eq c.name z.name || stands z.name su) (stands z.name it) (or_right (bytes_eq c.name z.name)
          (stands z.name su) h))

      in_interfaces : stands z.name it ≡ true → (((bytes_eq c.name z.name || stands z.name su) || stands z.name it)
          || stands z.name next) ≡ true
      in_interfaces h = or_left ((bytes_eq c.name z.name || stands z.name su) || stands z.name it) (stands z.name next)
          (or_right (bytes_eq c.name z.name || stands z.name su) (stands z.name it) h)

      itself_told : (b : Bool) → (b ≡ true → (y : List ℕ) (d : Class) → Lists y (x ∷ xs') → class_named w y ≡ Some d
          → is_interface d.flags ≡ true) → Among z (known (where_listed b (record { name = c.name; class = Some c })))
          → (is_interface z.flags ≡ true) × (class_named w z.name ≡ Some z)
          × ((((bytes_eq c.name z.name || stands z.name su) || stands z.name it) || stands z.name next) ≡ true)
      itself_told false all h = elim h [ ]
      itself_told true all h =
          let same = Rattle.cjc_vtable.proofs.Asked.among-one z c h in
          let named_c : class_named w c.name ≡ Some c = ap (class_named w) (class_named-name w x c e) ∙ e in (
            ap (λ (q : Class). is_interface q.flags) same ∙ all refl x c foremost e,
            subst (λ (q : Class). class_named w q.name ≡ Some q) (sym same) named_c,
            or_left ((bytes_eq c.name z.name || stands z.name su) || stands z.name it) (stands z.name next)
                (or_left (bytes_eq c.name z.name || stands z.name su) (stands z.name it)
                (or_left (bytes_eq c.name z.name) (stands z.name su) (ap (λ (q : Class). bytes_eq c.name q.name) same
                ∙ Rattle.cjc_token_proof.proofs.ByToken.Members.bytes_same c.name))),
          )

  -- ---- the interfaces that a look-up goes through

  module _ (y0 : List ℕ) (d : Class) (named : class_named w y0 ≡ Some d) where
    -- the interfaces that a look-up goes through behind the line
    abbrev pub listed_interfaces : List Class
    listed_interfaces = known (gathered false (supertypes w (y0 ∷ [])))

    abbrev pub own_interfaces : List Class
    own_interfaces = known (gathered false (supertypes w d.supers) ++ gathered true (supertypes w d.interfaces))

    pub supertypes_is : supertypes w (y0 ∷ []) ≡ Known d (supertypes w d.supers) (supertypes w d.interfaces) End
    supertypes_is = Rattle.cjc_tokens.proofs.Walks.supertypes-known w facts.are_supertypes facts.one_supertypes y0 d
        named

    pub listed_are : listed_interfaces ≡ own_interfaces
    unfolding gathered
    listed_are =
        ap (λ k. known (gathered false k)) supertypes_is
        ∙ ap known (Rattle.std.proofs.lemmas.List.append-nil ((gathered false (supertypes w d.supers)
        ++ gathered true (supertypes w d.interfaces)) ++ []))
        ∙ ap known (Rattle.std.proofs.lemmas.List.append-nil (gathered false (supertypes w d.supers)
        ++ gathered true (supertypes w d.interfaces)))

  above_told : (y : List ℕ) (i : Class) → class_named w y ≡ Some i → (z : Class)
      → Among z (known (gathered false (supertypes w i.supers) ++ gathered true (supertypes w i.interfaces)))
      → (is_interface z.flags ≡ true) × (class_named w z.name ≡ Some z) × (stands z.name (supertypes w (y ∷ [])) ≡ true)
  above_told y i known_i z a =
      gathered_told false (y ∷ []) (supertypes w (y ∷ [])) (facts.are_supertypes (y ∷ [])) (λ h. absurd (cc)) z
      (subst (Among z) (sym (listed_are y i known_i)) a)

  -- ---- the methods of an interface

  -- one of its own, or of those above it
  interface_member : (i : Class) → has (interface_methods w i) s ≡ true → (m : Member) × (signature_of m ≡ s)
      × (In m (own_methods i) ⊎ In m (asked_by (supertypes w i.supers) (supertypes w i.interfaces)))
  unfolding interface_methods
  interface_member i h =
      let ms = if i.is_imported then own_methods i else asked_by (supertypes w i.supers) (supertypes w i.interfaces)
      ++ own_methods i in
      let r = has-In ms s (Rattle.cjc_tokens.proofs.Held.new-offered [] (map signature_of ms) s h) in
      (r.0, r.2, by i.is_imported r.0 r.1)
    where
      by : (b : Bool) (m : Member) → In m (if b then own_methods i
          else asked_by (supertypes w i.supers) (supertypes w i.interfaces) ++ own_methods i) → In m (own_methods i)
          ⊎ In m (asked_by (supertypes w i.supers) (supertypes w i.interfaces))
      by true m j = inl j
      by false m j = ⊎_elim (λ k. inr k) (λ k. inl k) (In-split m (asked_by (supertypes w i.supers)
          (supertypes w i.interfaces)) (own_methods i) j)

  own_finds : (z : Class) (m : Member) → In m (own_methods z) → signature_of m ≡ s → (f : Found) × (finds z ≡ Some f)
  unfolding own_method
  own_finds z m i names =
      let k = in_place m z.methods (own_in z m i) in
      let called : is_called id.name id.desc m ≡ true = ap (λ v. same v s) names ∙ same-refl s in
      let at = is_found (λ (q : Member). is_called id.name id.desc q) z.methods k.0 m k.1 called in (
        lookup.member_at z (length z.fields + at.0),
        ap (option_map (λ j. lookup.member_at z (length z.fields + j)))
            at.1,
      )

  asked_finds : (supers interfaces : Supertypes) (m : Member) → In m (asked_by supers interfaces) → signature_of m ≡ s
      → (f : Found) × (first finds (known (gathered false supers ++ gathered true interfaces)) ≡ Some f)
  unfolding asked_by
  asked_finds supers interfaces m i names =
      let z = in-interface m (known (gathered false supers ++ gathered true interfaces)) i in
      let f = own_finds z.0 m z.2 names in
      first_among finds z.0 (known (gathered false supers ++ gathered true interfaces)) f.0 z.1 f.1

  -- An interface that has the method has it itself, or one above it does.
  pub place_finds : (i : Class) (t : ℕ) → place_in i ≡ Some t → ((f : Found) × (finds i ≡ Some f))
      ⊎ ((f : Found)
      × (first finds (known (gathered false (supertypes w i.supers) ++ gathered true (supertypes w i.interfaces)))
      ≡ Some f))
  place_finds i t is =
      let r = interface_member i (has-here (interface_methods w i) t s (position_is (interface_methods w i) s t is)) in
      ⊎_elim (λ j. inl (own_finds i r.0 j r.1)) (λ j. inr (asked_finds (supertypes w i.supers)
      (supertypes w i.interfaces) r.0 j r.1)) r.2

  -- ---- constructors and initialisers: no interface has them

  pub special_token : is_special s ≡ true → (y : List ℕ) (i : Class) → class_named w y ≡ Some i → is_interface i.flags
      ≡ true → interface_token n.loaded (n.class y) id ≡ None
  unfolding asked_by
  special_token special y i known_i here = by i.is_imported refl
    where
      none_own : (z : Class) (m : Member) → class_named w z.name ≡ Some z → is_interface z.flags ≡ true
          → In m (own_methods z) → signature_of m ≡ s → ⊥
      none_own z m known_z z_here j names =
          let clash : false ≡ true = sym (facts.interfaces.plain z.name z m known_z j z_here) ∙ ap is_special names
          ∙ special in cc

      none_asked : (m : Member) → In m (asked_by (supertypes w i.supers) (supertypes w i.interfaces))
          → signature_of m ≡ s → ⊥
      none_asked m j names =
          let z = in-interface m (known (gathered false (supertypes w i.supers)
          ++ gathered true (supertypes w i.interfaces))) j in
          let told = above_told y i known_i z.0 z.1 in
          none_own z.0 m told.1 told.0 z.2 names

      lacks : (o : Option ℕ) → place_in i ≡ o → o ≡ None
      lacks None is = refl
      lacks (Some t) is =
          let r = interface_member i (has-here (interface_methods w i) t s (position_is (interface_methods w i) s t is))
          in
          let known_name : class_named w i.name ≡ Some i = ap (class_named w) (class_named-name w y i known_i)
          ∙ known_i in
          absurd (⊎_elim (λ j. none_own i r.0 known_name here j r.1) (λ j. none_asked r.0 j r.1) r.2)

      by : (t : Bool) → i.is_imported ≡ t → interface_token n.loaded (n.class y) id ≡ None
      by false own = sym (token_any n.loaded (n.class y) y id)
          ∙ placed_by_name p (of_class y id) i (facts.own y i known_i own) (class_named-name w y i known_i) here
          ∙ lacks (place_in i) refl
      by true import =
          ap (λ c. interface_token n.loaded c id) (sym (ap (card_class p) (class_named-name w y i known_i)) ∙ h.on_card)
          ∙ ap (option_and_then (λ (c : ExportClass). option_and_then (λ t. t) (listed_token c.methods id))) h.there
          ∙ ap (option_and_then (λ t. t)) (listed_is id h.number h.entry
          (Rattle.cjc_token_proof.proofs.WrittenCalls.Files.entry_plain p facts y i known_i import)
          ∙ ap (class_token id) (sym h.class))
          ∙ bound (chosen any_method s i.methods) refl
        where
          h : Rattle.cjc_token_proof.specs.Tables.Infos.HasEntry p i
          h = Rattle.cjc_token_proof.proofs.WrittenCalls.Files.has p facts y i known_i import

          bound : (o : Option Member) → chosen any_method s i.methods ≡ o
              → option_and_then (λ t. t) (option_map (λ (m : Member). if is_virtual m then Some m.token else None) o)
              ≡ None
          bound None is = refl
          bound (Some m) is = by_kind (is_virtual m) refl
            where
              by_kind : (b : Bool) → is_virtual m ≡ b
                  → option_and_then (λ t. t) (Some (if is_virtual m then Some m.token else None)) ≡ None
              by_kind false not_one = ap (λ b. option_and_then (λ t. t) (Some (if b then Some m.token else None)))
                  not_one
              by_kind true is_one =
                  let r = chosen_member s i.methods m is in
                  let clash : false ≡ true = sym (Rattle.cjc_vtable.proofs.Agrees.virtual_plain m is_one)
                  ∙ ap is_special r.2 ∙ special in absurd (cc)

  -- ---- by token: what stands above a class

  module _ (y0 : List ℕ) (d : Class) (named : class_named w y0 ≡ Some d) where
    module _ (x : List ℕ) (c : Class) (e : class_named w x ≡ Some c) (class_here : is_interface c.flags ≡ false)
        (own : c.is_imported ≡ false) (made : is_abstract c.flags ≡ false) (sub : is_subtype w x y0 ≡ true) where
      abbrev pub receiving : Option card.Class
      receiving = Some (n.class x)

      -- a class that stands above the named one, by its name
      pub record Over (k : card.Class) : Type 0 where
        pub name : List ℕ
        pub interface : Class
        pub there : class_named w name ≡ Some interface
        pub is : k ≡ n.class name
        pub named_kind : is_subtype w y0 name ≡ true
        pub object_kind : is_subtype w x name ≡ true

      pub AllOver : List card.Class → Type 0
      AllOver [] = Unit {0}
      AllOver (k ∷ ks) = Over k × AllOver ks

      pub all_over : (ks : List card.Class) → ((k : card.Class) → card.is_in k ks ≡ true
          → IsAtOrAbove n.loaded (n.class y0) k) → AllOver ks
      unfolding AllOver
      all_over [] h = tt
      all_over (k ∷ ks) h =
          let far = h k (or_left (card.same_class k k) (card.is_in k ks)
          (Rattle.cjc_card_semantics.proofs.MachineLaws.Upwards.class_same k)) in
          let r = named_above (n.class y0) k far y0 refl (ap is_some named) in
          let i = class_of_name r.0 r.1 in
          let to_one = subst (IsAtOrAbove n.loaded (n.class y0)) r.2 far in (
            record {
              name = r.0;
              interface = i.0;
              there = i.1;
              is = r.2;
              named_kind = above_kind y0 r.0 (ap is_some named) r.1 to_one;
              object_kind = above_kind x r.0 (ap is_some e) r.1 (above_then (n.class x) (n.class y0) (n.class r.0)
                  (kind_above x y0 (ap is_some e) (ap is_some named) sub) to_one);
            },
            all_over ks (λ q g. h q (or_right (card.same_class q k) (card.is_in q ks) g)),
          )

      special_scan : is_special s ≡ true → (ks : List card.Class) → AllOver ks → through_first n.loaded receiving ks id
          ≡ NotFound
      unfolding AllOver
      special_scan special [] all = refl
      special_scan special (k ∷ ks) all =
          ap (λ q. through n.loaded receiving k q (through_first n.loaded receiving ks id))
          (lacks (is_interface o.interface.flags) refl) ∙ special_scan special ks all.1
        where
          o : Over k
          o = all.0

          lacks : (b : Bool) → is_interface o.interface.flags ≡ b → token_if_interface n.loaded k id ≡ None
          lacks b here =
              ap (λ t. if t then interface_token n.loaded k id else None)
              (ap (card.is_interface n.loaded) o.is ∙ Rattle.cjc_token_proof.proofs.WrittenSends.Sent.interface_is list
              p sound facts subtypes tokens kinds kinds_agree names_agree imported_calls place begins o.name
              o.interface o.there ∙ here)
              ∙ by b here
            where
              by : (b : Bool) → is_interface o.interface.flags ≡ b → (if b then interface_token n.loaded k id else None)
                  ≡ None
              by false not_one = refl
              by true one = ap (λ q. interface_token n.loaded q id) o.is ∙ special_token special o.name o.interface
                  o.there one

      pub special_scanned : is_special s ≡ true → through_first n.loaded receiving (card.upwards n.loaded (n.class y0))
          id ≡ NotFound
      special_scanned special = special_scan special (card.upwards n.loaded (n.class y0))
          (all_over (card.upwards n.loaded (n.class y0)) (λ k h. (told_kinds n.loaded (n.class y0) k).0 h))

  -- ---- methods that are virtual

  module _ (plain : is_initialiser id.name ≡ false) (not_constructor : is_constructor id.name ≡ false) where
    -- a method of an interface under the name is virtual
    pub asked_virtual : (y : List ℕ) (i : Class) → class_named w y ≡ Some i → is_interface i.flags ≡ true
        → (k : ℕ) (m : Member) → slice_get i.methods k ≡ Some m → m.name ≡ id.name → is_virtual m ≡ true
    asked_virtual y i known_i here k m there name =
        let selectable = asks i.is_imported refl k m there (ap is_initialiser name ∙ plain) in
        ap (λ b. b && not (members.is_constructor m.name || members.is_initialiser m.name)) selectable
        ∙ ap (λ b. not (b || members.is_initialiser m.name)) (ap is_constructor name ∙ not_constructor)
        ∙ ap not (ap is_initialiser name ∙ plain)
      where
        asks : (b : Bool) → i.is_imported ≡ b → (k : ℕ) (m : Member) → slice_get i.methods k ≡ Some m
            → is_initialiser m.name ≡ false → is_selectable m.flags ≡ true
        asks true import = send.ask y i known_i here import
        asks false own = ask y i known_i here own

    -- an interface's token is the place
    pub card_token : (y : List ℕ) (i : Class) → class_named w y ≡ Some i → is_interface i.flags ≡ true
        → interface_token n.loaded (n.class y) id ≡ place_in i
    card_token y i known_i here = by i.is_imported refl
      where
        by : (t : Bool) → i.is_imported ≡ t → interface_token n.loaded (n.class y) id ≡ place_in i
        by false own = sym (token_any n.loaded (n.class y) y id)
            ∙ placed_by_name p (of_class y id) i (facts.own y i known_i own) (class_named-name w y i known_i) here
        by true import =
            ap (λ c. interface_token n.loaded c id) (sym (ap (card_class p) (class_named-name w y i known_i))
            ∙ h.on_card)
            ∙ ap (option_and_then (λ (c : ExportClass). option_and_then (λ t. t) (listed_token c.methods id))) h.there
            ∙ ap (option_and_then (λ t. t)) (listed_is id h.number h.entry
            (Rattle.cjc_token_proof.proofs.WrittenCalls.Files.entry_plain p facts y i known_i import)
            ∙ ap (class_token id) (sym h.class))
            ∙ chosen_by (chosen any_method s i.methods) refl
          where
            h : Rattle.cjc_token_proof.specs.Tables.Infos.HasEntry p i
            h = Rattle.cjc_token_proof.proofs.WrittenCalls.Files.has p facts y i known_i import

            entry_known : class_named w y ≡ Some (imported h.number h.entry)
            entry_known = known_i ∙ ap Some h.class

            entry_here : is_interface h.entry.flags ≡ true
            entry_here = sym (ap (λ (q : Class). is_interface q.flags) h.class) ∙ here

            absent : chosen any_method s i.methods ≡ None → (o : Option ℕ) → place_in i ≡ o → None ≡ place_in i
            absent none None is = sym is
            absent none (Some k) is =
                let there : slice_get (interface_methods w (imported h.number h.entry)) k ≡ Some s =
                ap (λ (q : Class). slice_get (interface_methods w q) k) (sym h.class)
                ∙ position_is (interface_methods w i) s k is in
                let r = keep.methods y h.number h.entry entry_known entry_here k s there in
                let j = position_or_len (λ (m : ExportMethod). Rattle.cjc_world.specs.ExportFile.Supers.is_virtual m
                && (m.token == k)) h.entry.methods in
                let found = sym (find_at (λ (m : ExportMethod). Rattle.cjc_world.specs.ExportFile.Supers.is_virtual m
                && (m.token == k)) h.entry.methods) ∙ r.1 in
                let at = ap (λ (q : Class). slice_get q.methods j) h.class
                ∙ Rattle.cjc_token_proof.proofs.WrittenCalls.Files.export_at h.entry.methods j r.0 found in
                absurd (chosen_there s i.methods j (method_of_export r.0) at r.2 none)

            chosen_by : (o : Option Member) → chosen any_method s i.methods ≡ o
                → option_and_then (λ t. t) (class_token id i) ≡ place_in i
            chosen_by None is = ap (λ o. option_and_then (λ t. t) (option_map (λ (m : Member). if is_virtual m
                then Some m.token else None) o)) is ∙ absent is (place_in i) refl
            chosen_by (Some m) is =
                let r = chosen_member s i.methods m is in
                let virtual = asked_virtual y i known_i here r.0 m r.1 (ap (λ (q : Signature). q.name) r.2) in
                let x = Rattle.cjc_token_proof.proofs.WrittenCalls.Files.export_from h.entry.methods r.0 m
                (sym (ap (λ (q : Class). slice_get q.methods r.0) h.class) ∙ r.1) in
                let listed = send.listed y h.number h.entry entry_known entry_here r.0 x.0 x.1
                (ap (λ (q : Member). members.is_initialiser q.name) x.2
                ∙ ap is_initialiser (ap (λ (q : Signature). q.name) r.2) ∙ plain) in
                ap (λ o. option_and_then (λ t. t) (option_map (λ (q : Member). if is_virtual q then Some q.token
                else None) o)) is
                ∙ ap (λ b. option_and_then (λ t. t) (Some (if b then Some m.token else None))) virtual
                ∙ sym (ap (λ (q : Class). position (λ t. same t s) (interface_methods w q)) h.class
                ∙ ap (λ v. position (λ t. same t v) (interface_methods w (imported h.number h.entry)))
                (sym (ap signature_of x.2 ∙ r.2))
                ∙ listed
                ∙ ap (λ (q : Member). Some q.token) x.2)

    -- an interface of the package has its own methods
    own_has : (z : Class) → z.is_imported ≡ false → (k : ℕ) (m : Member) → slice_get z.methods k ≡ Some m
        → signature_of m ≡ s → members.is_initialiser m.name ≡ false → has (interface_methods w z) s ≡ true
    unfolding interface_methods own_methods
    own_has z own k m there names not_init =
        ap (λ b. has (Rattle.cjc_tokens.specs.Slots.new_in [] (map signature_of (if b
        then without (if b then tokens_of z else z.methods) else asked z ++ without (if b then tokens_of z
        else z.methods)))) s) own
        ∙ new_has (map signature_of (asked z ++ without z.methods)) (has_mapped (asked z ++ without z.methods)
        (Rattle.cjc_vtable.proofs.Calls.In-behind m (asked z) (without z.methods) (without_has z.methods k m there
        not_init)))
      where
        without : List Member → List Member
        without ms = without_initialiser ms

        tokens_of : Class → List Member
        tokens_of c = by_token (length c.methods) 0 c.methods

        asked : Class → List Member
        asked c = asked_by (supertypes w c.supers) (supertypes w c.interfaces)

        without_has : (ms : List Member) (k : ℕ) (m : Member) → slice_get ms k ≡ Some m → members.is_initialiser m.name
            ≡ false → In m (without ms)
        without_has [] k m e f = absurd (cc)
        without_has (x ∷ ms) zero m e f = let one : x ≡ m = cc
            in subst (λ b. In m (if b then without ms else x ∷ without ms))
            (sym (ap (λ (q : Member). members.is_initialiser q.name) one ∙ f)) (subst (λ q. In m (q ∷ without ms))
            (sym one) first_of)
        without_has (x ∷ ms) (suc k) m e f = by (bytes_eq x.name (codes "<clinit>")) (without_has ms k m e f)
          where
            by : (b : Bool) → In m (without ms) → In m (if b then without ms else x ∷ without ms)
            by true i = i
            by false i = later i

        has_mapped : (ms : List Member) → In m ms → has (map signature_of ms) s ≡ true
        has_mapped ms (first_of {ms = ns}) = ap (λ v. same v s || has (map signature_of ns) s) names
            ∙ ap (λ t. t || has (map signature_of ns) s) (same-refl s)
        has_mapped ms (later {n = x} {ms = ns} i) = or_right (same (signature_of x) s) (has (map signature_of ns) s)
            (has_mapped ns i)

        new_has : (ss : List Signature) → has ss s ≡ true → has (Rattle.cjc_tokens.specs.Slots.new_in [] ss) s ≡ true
        new_has ss h = sym (mapped (Rattle.cjc_tokens.specs.Slots.new_in [] ss))
            ∙ Rattle.cjc_tokens.proofs.Held.offered-has_slot [] ss s h
          where
            mapped : (ts : List Signature) → Rattle.cjc_tokens.specs.Slots.has_slot (map Some ts) s ≡ has ts s
            mapped [] = refl
            mapped (t ∷ ts) = ap (λ b. same t s || b) (mapped ts)

    pub own_place : (z : Class) → class_named w z.name ≡ Some z → is_interface z.flags ≡ true → (k : ℕ) (m : Member)
        → slice_get z.methods k ≡ Some m → m.name ≡ id.name → m.desc ≡ id.desc → (t : ℕ) × (place_in z ≡ Some t)
    own_place z known_z here k m there name desc = by z.is_imported refl
      where
        names : signature_of m ≡ s
        names = ap (λ v. record { name = v; desc = m.desc }) name ∙ ap (λ v. record { name = id.name; desc = v }) desc

        by : (b : Bool) → z.is_imported ≡ b → (t : ℕ) × (place_in z ≡ Some t)
        by true import =
            let h = Rattle.cjc_token_proof.proofs.WrittenCalls.Files.has p facts z.name z known_z import in
            let x = Rattle.cjc_token_proof.proofs.WrittenCalls.Files.export_from h.entry.methods k m
            (sym (ap (λ (q : Class). slice_get q.methods k) h.class) ∙ there) in
            let listed = send.listed z.name h.number h.entry (known_z ∙ ap Some h.class)
            (sym (ap (λ (q : Class). is_interface q.flags) h.class) ∙ here) k x.0 x.1
            (ap (λ (q : Member). members.is_initialiser q.name) x.2 ∙ ap is_initialiser name ∙ plain) in (
              x.0.token,
              ap (λ (q : Class). position (λ t. same t s) (interface_methods w q)) h.class
                  ∙ ap (λ v. position (λ t. same t v) (interface_methods w (imported h.number h.entry)))
                  (sym (ap signature_of x.2 ∙ names)) ∙ listed,
            )
        by false own = has_position (interface_methods w z) s (own_has z own k m there names (ap is_initialiser name
            ∙ plain))

    -- ---- on an object of a class of the package

    chosen_selects : (ds : List Class) (m : Member)
        → chosen calls.selects s (Rattle.cjc_tokens.specs.Members.all_methods ds) ≡ Some m → (g : Found)
        × (first selects ds ≡ Some g)
    unfolding first own_method
    chosen_selects [] m e = absurd (cc)
    chosen_selects (d ∷ ds) m e = by (chosen_selects ds m) (position (λ (q : Member). calls.selects q
        && is_called id.name id.desc q) d.methods) refl
      where
        lacks : (ms : List Member) → position (λ (q : Member). calls.selects q && is_called id.name id.desc q) ms ≡ None
            → chosen calls.selects s ms ≡ None
        lacks [] h = refl
        lacks (x ∷ ms) h = at (calls.selects x && is_called id.name id.desc x)
            (sym (Rattle.cjc_tokens.proofs.Facts.position-cons (λ (q : Member). calls.selects q
            && is_called id.name id.desc q) x ms) ∙ h) (lacks ms)
          where
            at : (t : Bool) → (if t then Some 0 else option_map suc (position (λ (q : Member). calls.selects q
                && is_called id.name id.desc q) ms)) ≡ None
                → (position (λ (q : Member). calls.selects q && is_called id.name id.desc q) ms ≡ None
                → chosen calls.selects s ms ≡ None) → (if t then Some x else chosen calls.selects s ms) ≡ None
            at true g rest = absurd (cc)
            at false g rest = past (position (λ (q : Member). calls.selects q && is_called id.name id.desc q) ms) refl g
              where
                past : (o : Option ℕ) → position (λ (q : Member). calls.selects q && is_called id.name id.desc q) ms ≡ o
                    → option_map suc o ≡ None → chosen calls.selects s ms ≡ None
                past None is g = rest is
                past (Some j) is g = absurd (cc)

        by : (chosen calls.selects s (Rattle.cjc_tokens.specs.Members.all_methods ds) ≡ Some m → (g : Found)
            × (first selects ds ≡ Some g)) → (o : Option ℕ) → position (λ (q : Member). calls.selects q
            && is_called id.name id.desc q) d.methods ≡ o → (g : Found)
            × (lookup.or_else (option_map (λ k. Rattle.cjc_world.specs.Lookup.member_at d (length d.fields + k))
            (position (λ (q : Member). calls.selects q && is_called id.name id.desc q) d.methods)) (first selects ds)
            ≡ Some g)
        by rest (Some k) is = (
          Rattle.cjc_world.specs.Lookup.member_at d (length d.fields + k),
          ap (λ o. lookup.or_else (option_map (λ j. Rattle.cjc_world.specs.Lookup.member_at d (length d.fields + j))
              o) (first selects ds)) is,
        )
        by rest None is =
            let r = rest (sym (Rattle.cjc_vtable.proofs.Asked.chosen-behind calls.selects s d.methods
            (Rattle.cjc_tokens.specs.Members.all_methods ds) (lacks d.methods is)) ∙ e) in (
              r.0,
              ap (λ o. lookup.or_else (option_map (λ j. Rattle.cjc_world.specs.Lookup.member_at d
                  (length d.fields + j)) o) (first selects ds)) is ∙ r.1,
            )

    module _ (x : List ℕ) (c : Class) (e : class_named w x ≡ Some c) (class_here : is_interface c.flags ≡ false)
        (own : c.is_imported ≡ false) (made : is_abstract c.flags ≡ false) where
      abbrev pub foot : List ℕ
      foot = let q = class_stands p facts x c e class_here in q.foot

      -- a method of one of its interfaces, by its place there
      pub interface_dispatches : (y : List ℕ) (i : Class) → class_named w y ≡ Some i → is_interface i.flags ≡ true
          → is_subtype w x y ≡ true → (t : ℕ) → place_in i ≡ Some t
          → (g : Found) × (selection w x s ≡ Some g) × (dispatched_interface n.loaded (Some (n.class x)) (n.class y) t
          ≡ selection_of n (method_offset p) foot s g)
      interface_dispatches y i known_i here sub t is =
          let among = named-among (known (interfaces_at w c)) y i (subtypes.implements x y c i e class_here known_i here
          sub) in
          let asked = method-asked w facts.are_supertypes facts.one_supertypes c i s among
          (has-here (interface_methods w i) t s (position_is (interface_methods w i) s t is)) in
          let has_one = facts.interfaces.methods x c asked.0 e own made asked.1 in
          let g = chosen_selects (line w x) has_one.0
          (ap (λ v. chosen calls.selects v (Rattle.cjc_tokens.specs.Members.all_methods (line w x))) (sym asked.2)
          ∙ has_one.1) in
          let a = agrees p facts subtypes tokens keep kinds place begins x c e class_here in
          let m = of_class y id in
          let says = says_interface p facts subtypes tokens keep kinds place begins m i t known_i here plain is x c e
          class_here sub in
          let token_same : n.interface_token m ≡ t = Rattle.cjc_token_proof.proofs.WrittenCalls.Reached.token_is p facts
          subtypes tokens keep kinds place begins m i t known_i here plain is in (
            g.0,
            g.1,
            ap (dispatched_interface n.loaded (Some (n.class x)) (n.class y)) (sym token_same)
                ∙ a.interface_call m c g.0 e own made says g.1 (line_found p facts true id.name id.desc x g.0 g.1),
          )

    module _ (y0 : List ℕ) (d : Class) (named : class_named w y0 ≡ Some d) where
      -- where an interface above a class has the method by token, the look-up finds one by name
      pub token_found : is_interface d.flags ≡ false → (y : List ℕ) (i : Class) → class_named w y ≡ Some i
          → is_interface i.flags ≡ true → is_subtype w y0 y ≡ true → (t : ℕ) → place_in i ≡ Some t → (f : Found)
          × (first finds (listed_interfaces y0 d named) ≡ Some f)
      token_found named_class y i known_i here sub t is =
          let among = named-among (known (interfaces_at w d)) y i (subtypes.implements y0 y d i named named_class
          known_i here sub) in
          let asked = method-asked w facts.are_supertypes facts.one_supertypes d i s among
          (has-here (interface_methods w i) t s (position_is (interface_methods w i) s t is)) in
          let r = asked_finds (supertypes w d.supers) (supertypes w d.interfaces) asked.0 asked.1 asked.2 in
          (r.0, ap (first finds) (listed_are y0 d named) ∙ r.1)

      -- what the look-up finds: a script may send it, and an interface that stands above has it by token
      pub record Offered (f : Found) : Type 0 where
        pub sends : Rattle.cjc_token_proof.proofs.WrittenSends.Found.Sends list p sound facts tokens kinds
            imported_calls id f true
        pub name : List ℕ
        pub interface : Class
        pub there : class_named w name ≡ Some interface
        pub here : is_interface interface.flags ≡ true
        pub kind : is_subtype w y0 name ≡ true
        pub token : ℕ
        pub is : place_in interface ≡ Some token

      pub found_offered : (f : Found) → first finds (listed_interfaces y0 d named) ≡ Some f → Offered f
      found_offered f e =
          let r = among_first finds (listed_interfaces y0 d named) f e in
          let z = r.0 in
          let told = gathered_told false (y0 ∷ []) (supertypes w (y0 ∷ [])) (facts.are_supertypes (y0 ∷ []))
          (λ h. absurd (cc)) z r.1 in
          let q = Rattle.cjc_token_proof.proofs.WrittenSends.Found.class_chosen list p sound facts tokens kinds
          imported_calls id z f r.2 in
          let virtual = asked_virtual z.name z told.1 told.0 q.1 q.0 q.2 q.4 in
          let placed = own_place z told.1 told.0 q.1 q.0 q.2 q.4 q.5 in
          record {
            sends = subst (Rattle.cjc_token_proof.proofs.WrittenSends.Found.Sends list p sound facts tokens kinds
                imported_calls id f) virtual (Rattle.cjc_token_proof.proofs.WrittenSends.Found.sends_of list p sound
                facts tokens kinds imported_calls id z q.1 q.0 f told.1 q.2 q.4 q.3);
            name = z.name;
            interface = z;
            there = told.1;
            here = told.0;
            kind = subtype_is w y0 z.name (kinds.no_array y0 (ap is_some named)) (kinds.no_array z.name
                (ap is_some told.1)) ∙ told.2;
            token = placed.0;
            is = placed.1;
          }

    -- ---- superinterfaces of an interface

    abbrev pub Has : List Class → Type 0
    Has cs = (f : Found) × (first finds cs ≡ Some f)

    has_front : (is js : List Interface) → Has (known is) → Has (known (is ++ js))
    has_front is js h = (
      h.0,
      ap (first finds) (Rattle.cjc_world.proofs.Rising.known-append is js)
          ∙ first_front finds (known is) (known js) h.0 h.1,
    )

    has_behind : (is js : List Interface) → Has (known js) → Has (known (is ++ js))
    has_behind is js h = let r = first_after finds (known is) (known js) h.0 h.1
        in (r.0, ap (first finds) (Rattle.cjc_world.proofs.Rising.known-append is js) ∙ r.1)

    module _ (only_object : (y s : List ℕ) (c : Class) → class_named w y ≡ Some c → is_interface c.flags ≡ true
        → Lists s c.supers → s ≡ object) (y : List ℕ) (i : Class) (known_i : class_named w y ≡ Some i)
        (here : is_interface i.flags ≡ true) (t : ℕ) (is : place_in i ≡ Some t) where
      -- it stands above java/lang/Object
      object_has : (k : Supertypes) → AreSupertypes w (object ∷ []) k → stands y k ≡ true
          → Has (known (gathered false k))
      object_has k ki st =
          let o = facts.object_class in
          let same : supertypes w (object ∷ []) ≡ k = facts.one_supertypes (object ∷ []) (supertypes w (object ∷ [])) k
          (facts.are_supertypes (object ∷ [])) ki in
          let sub : is_subtype w object y ≡ true = subtype_is w object y (kinds.no_array object (ap is_some o.1))
          (kinds.no_array y (ap is_some known_i)) ∙ ap (stands y) same ∙ st in
          let r = token_found object o.0 o.1 o.3 y i known_i here sub t is in
          (r.0, ap (λ q. first finds (known (gathered false q))) (sym same) ∙ r.1)

      -- so it does above names that are all that one
      objects_have : (xs : List (List ℕ)) (k : Supertypes) → AreSupertypes w xs k → ((s : List ℕ) → Lists s xs → s
          ≡ object) → stands y k ≡ true → Has (known (gathered false k))
      unfolding gathered known
      objects_have xs k ends only st = absurd (cc)
      objects_have xs k (unknown_here {x = x} nowhere kn) only st =
          let o = facts.object_class in
          let clash : None ≡ Some o.0 = sym nowhere ∙ ap (class_named w) (only x foremost) ∙ o.1 in
          absurd (cc)
      objects_have xs k (known_here {x = x} {xs = rest} {c = c} {supers = su} {interfaces = it} {next = next} e ks ki
          kn) only st =
          let A = gathered false su in
          let B = gathered true it in
          let R = gathered false next in
          ⊎_elim
          (λ front. has_front (A ++ B ++ []) R (subst (λ (q : List Interface). Has (known q))
          (Rattle.std.proofs.lemmas.List.append-nil (A ++ B ++ []))
          (object_has (Known c su it End) (known_here (ap (class_named w) (sym (only x foremost)) ∙ e) ks ki ends)
          (or_left ((bytes_eq c.name y || stands y su) || stands y it) false front))))
          (λ more. has_behind (A ++ B ++ []) R (objects_have rest next kn (λ s l. only s (after l)) more))
          (or_cases ((bytes_eq c.name y || stands y su) || stands y it) (stands y next) st)

      -- or it is the interface, or stands above it
      step_has : (x : List ℕ) (c : Class) (su it next : Supertypes) → class_named w x ≡ Some c
          → AreSupertypes w c.supers su → AreSupertypes w c.interfaces it → is_interface c.flags ≡ true
          → (stands y next ≡ true → Has (known (gathered true next)))
          → (stands y it ≡ true → Has (known (gathered true it))) → stands y (Known c su it next) ≡ true
          → Has (known (gathered true (Known c su it next)))
      unfolding gathered known
      step_has x c su it next e ks ki c_here on_next on_it st =
          let A = gathered false su in
          let B = gathered true it in
          let H = where_listed true (record { name = c.name; class = Some c }) in
          let R = gathered true next in
          ⊎_elim
          (λ front. has_front (A ++ B ++ H) R
          (⊎_elim
          (λ side. ⊎_elim
          (λ name. itself_has name)
          (λ h. has_front (A
          ++ B) H (has_front A B (objects_have c.supers su ks (λ s l. only_object x s c e c_here l) h)))
          (or_cases (bytes_eq c.name y) (stands y su) side))
          (λ h. has_front (A ++ B) H (has_behind A B (on_it h)))
          (or_cases (bytes_eq c.name y || stands y su) (stands y it) front)))
          (λ more. has_behind (A ++ B ++ H) R (on_next more))
          (or_cases ((bytes_eq c.name y || stands y su) || stands y it) (stands y next) st)
        where
          trees_same : i ≡ c → known (gathered false (supertypes w i.supers)
              ++ gathered true (supertypes w i.interfaces)) ≡ known (gathered false su ++ gathered true it)
          trees_same one =
              ap (λ (q : Class). known (gathered false (supertypes w q.supers)
              ++ gathered true (supertypes w q.interfaces))) one
              ∙ ap (λ q. known (gathered false q ++ gathered true (supertypes w c.interfaces)))
              (facts.one_supertypes c.supers (supertypes w c.supers) su (facts.are_supertypes c.supers) ks)
              ∙ ap (λ q. known (gathered false su ++ gathered true q)) (facts.one_supertypes c.interfaces
              (supertypes w c.interfaces) it (facts.are_supertypes c.interfaces) ki)

          itself_has : bytes_eq c.name y ≡ true
              → Has (known (gathered false su ++ gathered true it ++ where_listed true (record {
                name = c.name;
                class = Some c;
              })))
          itself_has name =
              let both : Some i ≡ Some c = sym known_i
              ∙ ap (class_named w) (sym (Rattle.cjc_token_proof.proofs.ByToken.Members.bytes_tell c.name y name)
              ∙ class_named-name w x c e) ∙ e in
              let one : i ≡ c = cc in
              ⊎_elim
              (λ f. has_behind (gathered false su ++ gathered true it) (where_listed true (record {
                name = c.name;
                class = Some c;
              }))
              (f.0, first_step finds c [] ∙ ap (λ o. lookup.or_else o (first finds [])) (ap finds (sym one) ∙ f.1)))
              (λ f. has_front (gathered false su ++ gathered true it) (where_listed true (record {
                name = c.name;
                class = Some c;
              })) (subst Has (trees_same one) f))
              (place_finds i t is)

      listed_has : (xs : List (List ℕ)) (k : Supertypes) → AreSupertypes w xs k → ((z : List ℕ) (d : Class) → Lists z xs
          → class_named w z ≡ Some d → is_interface d.flags ≡ true) → stands y k ≡ true → Has (known (gathered true k))
      unfolding gathered known
      listed_has xs k ends all st = absurd (cc)
      listed_has xs k (unknown_here {x = x} {xs = rest} {next = next} nowhere kn) all st =
          ⊎_elim
          (λ name. (let clash : None ≡ Some i = sym nowhere
          ∙ ap (class_named w) (Rattle.cjc_token_proof.proofs.ByToken.Members.bytes_tell x y name) ∙ known_i
          in absurd (cc)))
          (λ more. listed_has rest next kn (λ z d l. all z d (after l)) more)
          (or_cases (bytes_eq x y) (stands y next) st)
      listed_has xs k (known_here {x = x} {xs = rest} {c = c} {supers = su} {interfaces = it} {next = next} e ks ki kn)
          all st =
          step_has x c su it next e ks ki (all x c foremost e) (λ h. listed_has rest next kn
          (λ z d l. all z d (after l)) h) (λ h. listed_has c.interfaces it ki (λ z d l g. facts.interfaces.listed x
          z c d e l g) h) st

      -- Where an interface that has the method stands above one that has it not, the look-up from that one finds one by
      -- name.
      pub above_found : (y0 : List ℕ) (d : Class) (named : class_named w y0 ≡ Some d) → is_interface d.flags ≡ true
          → place_in d ≡ None → is_subtype w y0 y ≡ true → (f : Found) × (first finds (listed_interfaces y0 d named)
          ≡ Some f)
      above_found y0 d named named_here lacks sub =
          let st : stands y (supertypes w (y0 ∷ [])) ≡ true =
          sym (subtype_is w y0 y (kinds.no_array y0 (ap is_some named)) (kinds.no_array y (ap is_some known_i)))
          ∙ sub in
          let r = by (sym (ap (stands y) (supertypes_is y0 d named)) ∙ st) in
          (r.0, ap (first finds) (listed_are y0 d named) ∙ r.1)
        where
          by : stands y (Known d (supertypes w d.supers) (supertypes w d.interfaces) End) ≡ true
              → Has (own_interfaces y0 d named)
          by st =
              ⊎_elim
              (λ front. ⊎_elim
              (λ side. ⊎_elim
              (λ name.
              (let both : Some i ≡ Some d = sym known_i
              ∙ ap (class_named w) (sym (Rattle.cjc_token_proof.proofs.ByToken.Members.bytes_tell d.name y name)
              ∙ class_named-name w y0 d named) ∙ named in
              let one : i ≡ d = cc in
              let clash : Some t ≡ None = sym is ∙ ap place_in one ∙ lacks in absurd (cc)))
              (λ h. has_front (gathered false (supertypes w d.supers)) (gathered true (supertypes w d.interfaces))
              (objects_have d.supers (supertypes w d.supers) (facts.are_supertypes d.supers)
              (λ s l. only_object y0 s d named named_here l) h))
              (or_cases (bytes_eq d.name y) (stands y (supertypes w d.supers)) side))
              (λ h. has_behind (gathered false (supertypes w d.supers)) (gathered true (supertypes w d.interfaces))
              (listed_has d.interfaces (supertypes w d.interfaces) (facts.are_supertypes d.interfaces)
              (λ z c l g. facts.interfaces.listed y0 z d c named l g) h))
              (or_cases (bytes_eq d.name y || stands y (supertypes w d.supers)) (stands y (supertypes w d.interfaces))
              front))
              (λ more. absurd (cc))
              (or_cases ((bytes_eq d.name y || stands y (supertypes w d.supers))
              || stands y (supertypes w d.interfaces)) false st)

    module _ (y0 : List ℕ) (d : Class) (named : class_named w y0 ≡ Some d) (x : List ℕ) (c : Class) (e : class_named w x
        ≡ Some c) (class_here : is_interface c.flags ≡ false) (own : c.is_imported ≡ false) (made : is_abstract c.flags
        ≡ false) (sub : is_subtype w x y0 ≡ true) where
      -- none of these has the method by token
      abbrev pub NoneHas : List card.Class → Type 0
      NoneHas ks = (y : List ℕ) (i : Class) → class_named w y ≡ Some i → is_interface i.flags ≡ true
          → card.is_in (n.class y) ks ≡ true → place_in i ≡ None

      pub data Scanned (ks : List card.Class) : Selection → Type 0 where
        none_has : NoneHas ks → Scanned ks NotFound
        one_has : (y : List ℕ) (i : Class) → class_named w y ≡ Some i → is_interface i.flags ≡ true
            → is_subtype w y0 y ≡ true → (t : ℕ) → place_in i ≡ Some t → (g : Found) → selection w x s ≡ Some g
            → Scanned ks (selection_of n (method_offset p) (foot x c e class_here own made) s g)

      scan : (ks : List card.Class) → AllOver y0 d named x c e class_here own made sub ks
          → Scanned ks (through_first n.loaded (receiving y0 d named x c e class_here own made sub) ks id)
      unfolding AllOver
      scan [] all = none_has (λ y i known_i here there. absurd (cc))
      scan (k ∷ ks) all = by (is_interface o.interface.flags) refl (scan ks all.1)
        where
          o : Over y0 d named x c e class_here own made sub k
          o = all.0

          kind_of : card.is_interface n.loaded k ≡ is_interface o.interface.flags
          kind_of = ap (card.is_interface n.loaded) o.is ∙ Rattle.cjc_token_proof.proofs.WrittenSends.Sent.interface_is
              list p sound facts subtypes tokens kinds kinds_agree names_agree imported_calls place begins o.name
              o.interface o.there

          -- the head is no interface, or has no such method
          passed : (is_interface o.interface.flags ≡ true → place_in o.interface ≡ None)
              → token_if_interface n.loaded k id ≡ None
              → Scanned ks (through_first n.loaded (receiving y0 d named x c e class_here own made sub) ks id)
              → Scanned (k ∷ ks) (through_first n.loaded (receiving y0 d named x c e class_here own made sub) (k
              ∷ ks) id)
          passed lacks none rest =
              subst (Scanned (k ∷ ks))
              (sym (ap (λ q. through n.loaded (receiving y0 d named x c e class_here own made sub) k q
              (through_first n.loaded (receiving y0 d named x c e class_here own made sub) ks id)) none))
              (more (through_first n.loaded (receiving y0 d named x c e class_here own made sub) ks id) rest)
            where
              more : (v : Selection) → Scanned ks v → Scanned (k ∷ ks) v
              more v (none_has h) = none_has (λ y i known_i here there. head_or y i known_i here
                  (card.same_class (n.class y) k) refl there (h y i known_i here))
                where
                  head_or : (y : List ℕ) (i : Class) → class_named w y ≡ Some i → is_interface i.flags ≡ true
                      → (b : Bool) → card.same_class (n.class y) k ≡ b → (b || card.is_in (n.class y) ks) ≡ true
                      → (card.is_in (n.class y) ks ≡ true → place_in i ≡ None) → place_in i ≡ None
                  head_or y i known_i here true same h rest =
                      let one : n.class y ≡ n.class o.name =
                      Rattle.cjc_card_semantics.proofs.MachineLaws.Upwards.class_tells
                      (n.class y) k same ∙ o.is in
                      let name : y ≡ o.name = kinds.once y o.name (ap is_some known_i) (ap is_some o.there) one in
                      let both : Some i ≡ Some o.interface = sym known_i ∙ ap (class_named w) name ∙ o.there in
                      let same_class : i ≡ o.interface = cc in
                      ap place_in same_class ∙ lacks (sym (ap (λ (q : Class). is_interface q.flags) same_class) ∙ here)
                  head_or y i known_i here false same h rest = rest h
              more v (one_has y i known_i here kind t is g selected) = one_has y i known_i here kind t is g selected

          by : (b : Bool) → is_interface o.interface.flags ≡ b
              → Scanned ks (through_first n.loaded (receiving y0 d named x c e class_here own made sub) ks id)
              → Scanned (k ∷ ks) (through_first n.loaded (receiving y0 d named x c e class_here own made sub) (k
              ∷ ks) id)
          by false not_one rest = passed (λ h. (let clash : false ≡ true = sym not_one ∙ h in absurd (cc)))
              (ap (λ b. if b then interface_token n.loaded k id else None) (kind_of ∙ not_one)) rest
          by true one rest = split (place_in o.interface) refl
            where
              token_is : token_if_interface n.loaded k id ≡ place_in o.interface
              token_is = ap (λ b. if b then interface_token n.loaded k id else None) (kind_of ∙ one)
                  ∙ ap (λ q. interface_token n.loaded q id) o.is ∙ card_token o.name o.interface o.there one

              split : (q : Option ℕ) → place_in o.interface ≡ q
                  → Scanned (k ∷ ks) (through_first n.loaded (receiving y0 d named x c e class_here own made sub) (k
                  ∷ ks) id)
              split None none = passed (λ h. none) (token_is ∙ none) rest
              split (Some t) is =
                  let r = interface_dispatches x c e class_here own made o.name o.interface o.there one o.object_kind t
                  is in
                  subst (Scanned (k ∷ ks))
                  (sym (ap (λ q. through n.loaded (receiving y0 d named x c e class_here own made sub) k q
                  (through_first n.loaded (receiving y0 d named x c e class_here own made sub) ks id)) (token_is
                  ∙ is) ∙ ap (λ q. dispatched_interface n.loaded (receiving y0 d named x c e class_here own made
                  sub) q t) o.is ∙ r.2))
                  (one_has o.name o.interface o.there one o.named_kind t is r.0 r.1)

      pub scanned : Scanned (card.upwards n.loaded (n.class y0)) (through_first n.loaded (receiving y0 d named x c e
          class_here own made sub) (card.upwards n.loaded (n.class y0)) id)
      scanned = scan (card.upwards n.loaded (n.class y0)) (all_over y0 d named x c e class_here own made sub
          (card.upwards n.loaded (n.class y0)) (λ k h. (told_kinds n.loaded (n.class y0) k).0 h))
