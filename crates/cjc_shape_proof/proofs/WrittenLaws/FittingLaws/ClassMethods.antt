-- The methods of an exported class that is no interface can stand in an export file: each fits, and no two have one
-- token of a kind.
use Rattle.std.proofs.Common.{◌≡◌, ℕ, ◌+◌, ◌-◌, ◌<◌, ◌≤◌, ◌^◌, refl, sym, ap, subst, ◌∙◌, arith, Bool, true, false}
use Rattle.std.proofs.Common.{List, [], ◌∷◌, ◌++◌, length, map, take, take_all, inl, inr, ⊎_elim, Option, Some, None}
use Rattle.std.specs.Prelude.{◌&&◌, ◌||◌, ◌==◌, ◌⊎◌, count_by, nat_lt, option_map, slice_get, unwrap_or}
use Rattle.std.specs.Prelude.{if◌then◌else◌}
use Rattle.std.specs.List.{AllByRecursion, IsDistinct, list_any}
use Rattle.std.proofs.lemmas.Bool.{eqb-true}
use Rattle.std.proofs.lemmas.Bool.Decides.{nat_tests}
use Rattle.std.proofs.lemmas.List.{length-map}
use Rattle.std.proofs.lemmas.Map.Steps.{length-le_from_distinct_below}
use Rattle.std.proofs.lemmas.Option.{slice_get_within}
use Rattle.cjc_bytes.specs.AccessFlags.{is_interface}
use Rattle.cjc_bytes.proofs.Gets.{mapped_at}
use Rattle.cjc_world.specs.ClassFile.declared.tree.ClassTree.{ClassTree}
use Rattle.cjc_components.specs.Class.{is_shareable}
use Rattle.cjc_components.specs.Descriptor.{as_added, method_in}
use Rattle.cjc_components.specs.ExportFile.{added_from, export_class, inherited_from, is_listed, method_entry}
use Rattle.cjc_components.specs.ExportFile.{methods_from, supers_from}
use Rattle.cjc_components.specs.Exports.{exported_classes, open_methods}
use Rattle.cjc_components.specs.Names.{member_token}
use Rattle.cjc_components.specs.Package.{Package, has_applets, world}
use Rattle.cjc_world.specs.ExportFile.Members.{is_unbound, same_bool}
use Rattle.cjc_world.specs.ExportFile.Writable.{EachAfter, MethodStands}
use Rattle.cjc_world.specs.ExportFile.declared.tree.ExportMethod.{ExportMethod}
use Rattle.cjc_shape.proofs.ExportedOwn.{IsOwn, own_class}
use Rattle.cjc_shape.proofs.ExportedTokens.{counted}
use Rattle.cjc_shape.specs.LowerJudge.Rules.{settings_of}
use Rattle.cjc_shape.specs.LowerJudge.declared.judged.Judged.{Judged}
use Rattle.cjc_classes.specs.List.Listed.{ListTree}
use Rattle.cjc_narrow_proof.proofs.LawsLaws.Own.{class_by_name, own_kept}
use Rattle.cjc_classes.specs.Subset.Flags.{has_two_accesses}
use Rattle.cjc_tokens.specs.Lines.{line_at}
use Rattle.cjc_tokens.specs.Members.{Signature, is_shown, signature_of}
use Rattle.cjc_tokens.specs.Methods.{interface_methods, interface_row, is_open_bound}
use Rattle.cjc_tokens.specs.Slots.{Slots, implementing, meant_by, row, shown_token, slots}
use Rattle.cjc_vtable.proofs.Filed.{Has, at_front, behind, has-either}
use Rattle.cjc_world.proofs.Settled.{AreSupertypes-one}
use Rattle.cjc_world.specs.Added.{added}
use Rattle.cjc_world.specs.Classes.{Class, Member, class_named, declared, method_of_class}
use Rattle.cjc_world.specs.Exported.{is_exported}
use Rattle.cjc_world.specs.Supertypes.{End, Known, ends, supertypes, known_here}
use Rattle.cjc_world.specs.Lookup.{member_at}
use Rattle.cjc_world.specs.Rules.{is_twice}
use Rattle.cjc_world.specs.declared.found.Found.{Found}
use Rattle.cjc_shape_proof.proofs.WrittenLaws.FittingLaws.Exported.{bound_few, open_at}
use Rattle.cjc_shape_proof.proofs.WrittenLaws.FittingLaws.Limited.{acyclic, few_imports, are_supertypes, no_open}
use Rattle.cjc_shape_proof.proofs.WrittenLaws.FittingLaws.Limited.{tokens, unbroken, writable}
use Rattle.cjc_shape_proof.proofs.WrittenLaws.FittingLaws.Meant.{IsMethodRead, added_method, class_method, line_meant}
use Rattle.cjc_shape_proof.proofs.WrittenLaws.FittingLaws.Order.{has_none}
use Rattle.cjc_shape_proof.proofs.WrittenLaws.FittingLaws.OwnTokens.{Offers, added_token, both_apart, bound_token}
use Rattle.cjc_shape_proof.proofs.WrittenLaws.FittingLaws.OwnTokens.{bound_unbound, given_apart, listed_kind}
use Rattle.cjc_shape_proof.proofs.WrittenLaws.FittingLaws.OwnTokens.{offers_given, offers_shown, own_apart, own_there}
use Rattle.cjc_shape_proof.proofs.WrittenLaws.FittingLaws.OwnTokens.{exposed_token, shown_unbound, slot_there}
use Rattle.cjc_shape_proof.proofs.WrittenLaws.FittingLaws.Rules as Rules
use Rattle.cjc_shape_proof.proofs.WrittenLaws.FittingLaws.Standing.{Alone, IsGood, IsInheritedAt, IsListedAt}
use Rattle.cjc_shape_proof.proofs.WrittenLaws.FittingLaws.Standing.{added_alone, added_in, alone_append, apart_numbers}
use Rattle.cjc_shape_proof.proofs.WrittenLaws.FittingLaws.Standing.{clashes, inherited_alone, inherited_in}
use Rattle.cjc_shape_proof.proofs.WrittenLaws.FittingLaws.Standing.{listed_alone, listed_in, stand}
use Rattle.cjc_shape_proof.proofs.WrittenLaws.FittingLaws.Tables.{few_slots}
use Rattle.cjc_shape_proof.specs.Written.Entries.{IsOwnUnbound}
use Rattle.cjc_shape_proof.specs.Written.LaidOut.{ExportedInterfacesStand, ExportedMethodsStand, IsLaidOut}
use Rattle.cjc_shape_proof.specs.Written.LaidOut.{MethodsStand}
use Rattle.cjc_shape_proof.proofs.WritingLaws.Flags.{interface_kept, one_access}

-- methods of two kinds have no token in common
kinds_apart : (x y : ExportMethod) (a b : Bool) → is_unbound x.flags x.name ≡ a → is_unbound y.flags y.name ≡ b
    → same_bool b a ≡ false → clashes x y ≡ false
kinds_apart x y a b e f g = by (x.token == y.token) (ap (λ k. same_bool (is_unbound y.flags y.name) k) e
    ∙ ap (λ k. same_bool k a) f ∙ g)
  where
    by : (t : Bool) → same_bool (is_unbound y.flags y.name) (is_unbound x.flags x.name) ≡ false
        → (t && same_bool (is_unbound y.flags y.name) (is_unbound x.flags x.name)) ≡ false
    by true h = h
    by false h = refl

-- ---- how many

-- a token with its kind
code_of : ExportMethod → ℕ
code_of x = (if is_unbound x.flags x.name then 128 else 0) + x.token

code_low : (x : ExportMethod) → IsGood x → code_of x < 384
unfolding code_of
code_low x good = by (is_unbound x.flags x.name) good.low
  where
    by : (b : Bool) → (b ≡ false → x.token ≤ 127) → (if b then 128 else 0) + x.token < 384
    by true low = let f = good.fits in let t = f.token in omega (arith, t)
    by false low = let t = low refl in omega (arith, t)

code_apart : (x y : ExportMethod) → IsGood x → IsGood y → clashes x y ≡ false → (code_of x == code_of y) ≡ false
unfolding code_of
code_apart x y good other e = by (is_unbound x.flags x.name) (is_unbound y.flags y.name) good.low other.low e
  where
    numbers : (m n : ℕ) → (m ≡ n → ⊥) → (m == n) ≡ false
    numbers m n ne = on (m == n) refl
      where
        on : (t : Bool) → (m == n) ≡ t → t ≡ false
        on true f = absurd (ne (eqb-true m n f))
        on false f = refl

    told : (t : Bool) → (t && true) ≡ false → t ≡ false
    told true f = cc
    told false f = refl

    other_token : (x.token == y.token) ≡ false → x.token ≡ y.token → ⊥
    other_token f same = let z : (x.token == y.token) ≡ true = grind (arith, nat_tests)
        in absurd (let q : true ≡ false = sym z ∙ f in cc)

    by : (a b : Bool) → (a ≡ false → x.token ≤ 127) → (b ≡ false → y.token ≤ 127)
        → ((x.token == y.token) && same_bool b a) ≡ false → ((if a then 128 else 0) + x.token == (if b then 128
        else 0) + y.token) ≡ false
    by true true l k f = numbers (128 + x.token) (128 + y.token) (λ same. other_token (told (x.token == y.token) f)
        (omega (arith, same)))
    by false false l k f = numbers (0 + x.token) (0 + y.token) (λ same. other_token (told (x.token == y.token) f)
        (omega (arith, same)))
    by true false l k f = let le = k refl in numbers (128 + x.token) (0 + y.token) (λ same. omega (arith, same, le))
    by false true l k f = let le = l refl in numbers (0 + x.token) (128 + y.token) (λ same. omega (arith, same, le))

codes_distinct : (xs : List ExportMethod) → Alone xs → ((x : ExportMethod) → Has x xs → IsGood x)
    → IsDistinct (λ a b. a == b) (map code_of xs)
unfolding Alone IsDistinct
codes_distinct [] alone good = tt
codes_distinct (x ∷ xs) alone good = (
  all xs (λ y h. code_apart x y (good x at_front) (good y (behind h)) (alone.0 y h)),
  codes_distinct xs alone.1 (λ y h. good y (behind h)),
)
  where
    all : (ys : List ExportMethod) → ((y : ExportMethod) → Has y ys → (code_of x == code_of y) ≡ false)
        → AllByRecursion (λ t. (code_of x == t) ≡ false) (map code_of ys)
    all [] each = tt
    all (y ∷ ys) each = (each y at_front, all ys (λ z h. each z (behind h)))

codes_low : (xs : List ExportMethod) → ((x : ExportMethod) → Has x xs → IsGood x) → (q : ℕ)
    → list_any (λ x. q == x) (map code_of xs) ≡ true → q < 384
codes_low [] good q e = cc
codes_low (x ∷ xs) good q e = by (q == code_of x) refl e (codes_low xs (λ y h. good y (behind h)) q)
  where
    by : (b : Bool) → (q == code_of x) ≡ b → (b || list_any (λ x. q == x) (map code_of xs)) ≡ true
        → (list_any (λ x. q == x) (map code_of xs) ≡ true → q < 384) → q < 384
    by true f g rest = let is = eqb-true q (code_of x) f in let low = code_low x (good x at_front)
        in omega (arith, is, low)
    by false f g rest = rest g

few : (xs : List ExportMethod) → Alone xs → ((x : ExportMethod) → Has x xs → IsGood x) → length xs ≤ 384
few xs alone good =
    let le = length-le_from_distinct_below (map code_of xs) 384 (codes_distinct xs alone good) (codes_low xs good) in
    let same = length-map xs code_of in
    omega (arith, le, same)

-- ---- a class

module _ (list : ListTree) (files : List (List ℕ)) (judged : Judged) (p : Package) (is : IsLaidOut list files judged p)
    (place : ℕ) (owner : Class) (at : slice_get (exported_classes p) place ≡ Some owner)
    (plain : (let o = own_class p place owner at in let t = o.tree in is_interface t.flags ≡ false)) where
  abbrev o : IsOwn p owner
  o = own_class p place owner at

  abbrev n : ℕ
  n = let own = o in own.number

  abbrev t : ClassTree
  t = let own = o in own.tree

  there : (let v = p.files in slice_get v.classes n ≡ Some t)
  there = let own = o in own.is_tree

  abbrev w : List Class
  w = world p

  abbrev c : Class
  c = declared n t

  abbrev shown_slots : Slots
  shown_slots = slots (line_at w c)

  abbrev given : List Member
  given = added w c

  abbrev tok : ℕ → ℕ
  tok j = member_token p (Some (member_at c j))

  named : class_named w (let u = t in u.name) ≡ Some c
  named = let u = unbroken list files judged p is in class_by_name p.files list.name u.listed u.world n t there

  slots_few : length shown_slots ≤ 128
  slots_few = let u = unbroken list files judged p is in
      few_slots list.name p.files u.listed (few_imports list files judged p is) u.world (acyclic list files judged p is)
      (are_supertypes list files judged p is) (AreSupertypes-one (world p)) (has_applets p)
      (tokens list files judged p is) (writable list files judged p is) n t there plain

  -- what the class declares or got has the place of its slot for a token
  at_slot : (s : Signature) (j : ℕ) → Offers p.files (has_applets p) n t there plain s
      → tok j ≡ unwrap_or (shown_token (line_at w c) s) 0xFF
      → (slice_get shown_slots (tok j) ≡ Some (Some s)) × (tok j ≤ 127)
  at_slot s j offers e =
      let r = slot_there p.files (has_applets p) n t there plain s offers in
      let same : tok j ≡ r.0 = e ∙ ap (λ q. unwrap_or q 0xFF) r.1 in
      let lt = slice_get_within shown_slots r.0 (Some s) r.2 in
      let le = slots_few in
      (ap (slice_get shown_slots) same ∙ r.2, omega (arith, same, lt, le))

  -- a slot is one method's
  one_slot : (s u : Signature) (i : ℕ) → slice_get shown_slots i ≡ Some (Some s) → slice_get shown_slots i
      ≡ Some (Some u) → s ≡ u
  one_slot s u i e f = let both : Some (Some s) ≡ Some (Some u) = sym e ∙ f in cc

  -- ---- its own

  own_access : (k : ℕ) (m : Member) → slice_get (let d = c in d.methods) k ≡ Some m → has_two_accesses m.flags ≡ false
  own_access k m e = let u = unbroken list files judged p is in
      let r = mapped_at method_of_class (let v = t in v.methods) k m e in
      let v = t in
      ap (λ (x : Member). has_two_accesses x.flags) (sym r.2) ∙ one_access (is_interface v.flags) (let x = r.0
      in x.flags) (let x = r.0 in x.name) _ (Rules.fit_method list.name p.files judged.codes (settings_of list)
      u.checks n t there k r.0 r.1)

  own_read : (k : ℕ) (m : Member) → slice_get (let d = c in d.methods) k ≡ Some m → IsMethodRead m
  own_read k m e = let r = mapped_at method_of_class (let v = t in v.methods) k m e
      in subst IsMethodRead r.2 (class_method list files judged p is n t there k r.0 r.1)

  own_once : (k : ℕ) (m : Member) → slice_get (let d = c in d.methods) k ≡ Some m
      → is_twice (let d = c in d.methods) k m.name m.desc ≡ false
  own_once k m e = let u = unbroken list files judged p is in
      let r = mapped_at method_of_class (let v = t in v.methods) k m e in
      let kept = own_kept p.files list.name u.listed u.world n t there in
      ap (λ (x : Member). is_twice (let d = c in d.methods) k x.name x.desc) (sym r.2) ∙ (kept.methods k r.0 r.1).0

  abbrev fields : ℕ
  fields = length (let d = c in d.fields)

  abbrev methods : List Member
  methods = let d = c in d.methods

  shown_at : (k : ℕ) (m : Member) → slice_get methods k ≡ Some m → is_shown m ≡ true
      → (slice_get shown_slots (tok (fields + k)) ≡ Some (Some (signature_of m))) × (tok (fields + k) ≤ 127)
  shown_at k m e s = at_slot (signature_of m) (fields + k) (offers_shown p.files (has_applets p) n t there plain k m e
      s) (ap (λ q. unwrap_or q 0xFF) (exposed_token p.files (has_applets p) n t there plain k m e s))

  given_at : (k : ℕ) (m : Member) → slice_get given k ≡ Some m
      → (slice_get shown_slots (tok (fields + length methods + k)) ≡ Some (Some (signature_of m)))
      × (tok (fields + length methods + k) ≤ 127)
  given_at k m e = at_slot (signature_of m) (fields + length methods + k) (offers_given p.files (has_applets p) n t
      there plain k m e) (ap (λ q. unwrap_or q 0xFF) (added_token p.files (has_applets p) n t there plain k m e))

  given_read : (k : ℕ) (m : Member) → slice_get given k ≡ Some m → IsMethodRead (as_added m)
      × (is_unbound (let a = as_added m in a.flags) m.name ≡ false)
  given_read k m e = added_method list files judged p is (let u = t in u.name) c named k m e

  bound_is : (k : ℕ) (m : Member) → slice_get (let d = c in d.methods) k ≡ Some m → is_open_bound m ≡ true
      → tok (length (let d = c in d.fields) + k) ≡ count_by is_open_bound (take k (let d = c in d.methods))
  bound_is k m e s = let own = o in ap (λ q. unwrap_or q 0xFF) (bound_token p.files (has_applets p) n t there plain k m
      e s (ap (λ (d : Class). is_exported (world p) (has_applets p) d) (sym own.is) ∙ own.exported))

  bound_low : (k : ℕ) (m : Member) → slice_get (let d = c in d.methods) k ≡ Some m → is_open_bound m ≡ true
      → tok (length (let d = c in d.fields) + k) ≤ 254
  bound_low k m e s =
      let ms = (let d = c in d.methods) in
      let less = counted is_open_bound ms k (length ms) m (slice_get_within ms k m e) e s in
      let all : count_by is_open_bound (take (length ms) ms) ≡ count_by is_open_bound ms =
      ap (count_by is_open_bound) (take_all (length ms) ms (omega arith)) in
      let le = bound_few p (tokens list files judged p is) (no_open list files judged p is) place owner at in
      let same = bound_is k m e s in
      omega (arith, less, all, le, same)

  kind : (k : ℕ) (m : Member) → slice_get methods k ≡ Some m → is_listed c m ≡ true → (is_open_bound m ≡ true)
      ⊎ (is_shown m ≡ true)
  kind k m e l = listed_kind c m plain l (own_access k m e)

  -- ---- no two of one token

  own_pair : (j k : ℕ) (m x : Member) → j < k → slice_get methods j ≡ Some m → slice_get methods k ≡ Some x
      → is_listed c m ≡ true → is_listed c x ≡ true
      → clashes (method_entry (tok (fields + j)) m) (method_entry (tok (fields + k)) x) ≡ false
  own_pair j k m x lt e f l q = by (kind j m e l) (kind k x f q)
    where
      by : (is_open_bound m ≡ true) ⊎ (is_shown m ≡ true) → (is_open_bound x ≡ true) ⊎ (is_shown x ≡ true)
          → clashes (method_entry (tok (fields + j)) m) (method_entry (tok (fields + k)) x) ≡ false
      by (inl a) (inr b) = kinds_apart (method_entry (tok (fields + j)) m) (method_entry (tok (fields + k)) x) true
          false (bound_unbound m a) (shown_unbound x b) refl
      by (inr a) (inl b) = kinds_apart (method_entry (tok (fields + j)) m) (method_entry (tok (fields + k)) x) false
          true (shown_unbound m a) (bound_unbound x b) refl
      by (inl a) (inl b) =
          let one = bound_is j m e a in
          let two = bound_is k x f b in
          let less = counted is_open_bound methods j k m lt e a in
          apart_numbers (tok (fields + j)) (tok (fields + k)) (same_bool (is_unbound x.flags x.name)
          (is_unbound m.flags m.name)) (λ same. omega (arith, same, one, two, less))
      by (inr a) (inr b) =
          apart_numbers (tok (fields + j)) (tok (fields + k)) (same_bool (is_unbound x.flags x.name)
          (is_unbound m.flags m.name))
          (λ same. own_apart p.files (has_applets p) n t there plain own_once j k m x lt e f (one_slot
          (signature_of m) (signature_of x) (tok (fields + j)) (shown_at j m e a).0 (ap (slice_get shown_slots) same
          ∙ (shown_at k x f b).0)))

  given_pair : (j k : ℕ) (m x : Member) → j < k → slice_get given j ≡ Some m → slice_get given k ≡ Some x
      → tok (fields + length methods + j) ≡ tok (fields + length methods + k) → ⊥
  given_pair j k m x lt e f same =
      given_apart p.files (has_applets p) n t there plain j k m x lt e f (one_slot (signature_of m)
      (signature_of x) (tok (fields + length methods + j)) (given_at j m e).0 (ap (slice_get shown_slots) same
      ∙ (given_at k x f).0))

  both_pair : (j k : ℕ) (m x : Member) → slice_get methods j ≡ Some m → is_listed c m ≡ true
      → slice_get given k ≡ Some x
      → clashes (method_entry (tok (fields + j)) m) (method_entry (tok (fields + length methods + k)) (as_added x))
      ≡ false
  both_pair j k m x e l f = by (kind j m e l)
    where
      by : (is_open_bound m ≡ true) ⊎ (is_shown m ≡ true)
          → clashes (method_entry (tok (fields + j)) m) (method_entry (tok (fields + length methods + k)) (as_added x))
          ≡ false
      by (inl a) = kinds_apart (method_entry (tok (fields + j)) m) (method_entry (tok (fields + length methods + k))
          (as_added x)) true false (bound_unbound m a) (given_read k x f).1 refl
      by (inr a) =
          apart_numbers (tok (fields + j)) (tok (fields + length methods + k))
          (same_bool (is_unbound (let y = as_added x in y.flags) x.name) (is_unbound m.flags m.name))
          (λ same. both_apart p.files (has_applets p) n t there plain j k m x e a f (one_slot
          (signature_of m) (signature_of x) (tok (fields + j)) (shown_at j m e a).0 (ap (slice_get shown_slots) same
          ∙ (given_at k x f).0)))

  -- ---- what it inherits

  abbrev its_row : List (Option Found)
  its_row = row (line_at w c)

  -- an entry of another class's method: it is virtual, fits, and has the place of a slot for a token
  record IsOthers (e : ExportMethod) : Type 0 where
    good : IsGood e
    bound : is_unbound e.flags e.name ≡ false
    free : (s : Signature) → Offers p.files (has_applets p) n t there plain s → slice_get shown_slots e.token
        ≡ Some (Some s) → ⊥

  others : (e : ExportMethod) → Has e (inherited_from w c 0 its_row) → IsOthers e
  others e h = by (slot.0) slot.1 slot.2
    where
      r : IsInheritedAt w c 0 its_row e
      r = inherited_in w c 0 its_row e h

      slot : (q : Option Signature) × (slice_get shown_slots r.place ≡ Some q)
          × (meant_by (implementing (line_at w c)) q ≡ Some r.found)
      slot = mapped_at (meant_by (implementing (line_at w c))) shown_slots r.place (Some r.found) r.there

      free_of : (s : Signature) → Offers p.files (has_applets p) n t there plain s → slice_get shown_slots e.token
          ≡ Some (Some s) → ⊥
      free_of s offers at_it =
          let place_is : e.token ≡ r.place = (let z : 0 + r.place ≡ e.token = ap (λ (x : ExportMethod). x.token) r.is
          in omega (arith, z)) in
          let its = own_there p.files (has_applets p) n t there plain s e.token r.found offers at_it
          (ap (slice_get its_row) place_is ∙ r.there) in
          absurd (let z : true ≡ false = sym its ∙ r.other in cc)

      made : (s : Signature) → slice_get shown_slots r.place ≡ Some (Some s) → implementing (line_at w c) s
          ≡ Some r.found → IsOthers e
      made s at_slot_place means =
          let kn = are_supertypes list files judged p is in
          let line = line_meant list files judged p is ((let u = t in u.name) ∷ []) (Known c (supertypes w (let d = c
          in d.supers)) (supertypes w (let d = c in d.interfaces)) End) (known_here named (kn (let d = c
          in d.supers)) (kn (let d = c in d.interfaces)) ends) s r.found means in
          let same : method_in w line.class (let f = r.found in f.member) ≡ r.member =
          (let both : Some (method_in w line.class (let f = r.found in f.member))
          ≡ Some r.member = sym (ap (option_map (λ (d : Class). method_in w d (let f = r.found in f.member)))
          line.is_class) ∙ r.meant in cc) in
          let read = subst IsMethodRead same line.read in
          let bound_one : is_unbound (let m = r.member in m.flags) (let m = r.member in m.name) ≡ false =
          ap (λ (m : Member). is_unbound m.flags m.name) (sym same) ∙ line.bound in
          let lt = slice_get_within shown_slots r.place (Some s) at_slot_place in
          let le = slots_few in
          record {
            good = subst IsGood r.is (record {
              fits = record {
                token = omega (arith, lt, le);
                flags = read.flags;
                name = read.name;
                desc = read.desc;
                is_desc = read.is_desc;
              };
              low = λ b. omega (arith, lt, le);
            });
            bound = ap (λ (x : ExportMethod). is_unbound x.flags x.name) (sym r.is) ∙ bound_one;
            free = free_of;
          }

      by : (q : Option Signature) → slice_get shown_slots r.place ≡ Some q → meant_by (implementing (line_at w c)) q
          ≡ Some r.found → IsOthers e
      by None f g = cc
      by (Some s) f g = made s f g

  -- ---- all

  abbrev A : List ExportMethod
  A = methods_from p c fields methods

  abbrev B : List ExportMethod
  B = added_from p c (fields + length methods) given

  abbrev C : List ExportMethod
  C = inherited_from w c 0 its_row

  own_good : (e : ExportMethod) → Has e A → IsGood e
  own_good e h = subst IsGood r.is (by (kind r.place r.member r.there r.listed))
    where
      r : IsListedAt p c fields methods e
      r = listed_in p c fields methods e h

      by : (is_open_bound r.member ≡ true) ⊎ (is_shown r.member ≡ true)
          → IsGood (method_entry (tok (fields + r.place)) r.member)
      by (inl a) = let read = own_read r.place r.member r.there in let le = bound_low r.place r.member r.there a
          in let unbound = bound_unbound r.member a in record {
            fits = record {
              token = omega (arith, le);
              flags = read.flags;
              name = read.name;
              desc = read.desc;
              is_desc = read.is_desc;
            };
            low = λ b. absurd (let z : true ≡ false = sym unbound ∙ b in cc);
          }
      by (inr a) = let read = own_read r.place r.member r.there in let le = (shown_at r.place r.member r.there a).1
          in record {
            fits = record {
              token = omega (arith, le);
              flags = read.flags;
              name = read.name;
              desc = read.desc;
              is_desc = read.is_desc;
            };
            low = λ b. le;
          }

  given_good : (e : ExportMethod) → Has e B → IsGood e
  given_good e h =
      let r = added_in p c (fields + length methods) given e h in
      let read = (given_read r.place r.member r.there).0 in
      let le = (given_at r.place r.member r.there).1 in
      subst IsGood r.is (record {
        fits = record {
          token = omega (arith, le);
          flags = read.flags;
          name = read.name;
          desc = read.desc;
          is_desc = read.is_desc;
        };
        low = λ b. le;
      })

  own_given : (x y : ExportMethod) → Has x A → Has y B → clashes x y ≡ false
  own_given x y h g =
      let r = listed_in p c fields methods x h in
      let s = added_in p c (fields + length methods) given y g in
      ap (λ (z : ExportMethod). clashes z y) (sym r.is)
      ∙ ap (λ (z : ExportMethod). clashes (method_entry (tok (fields + r.place)) r.member) z) (sym s.is)
      ∙ both_pair r.place s.place r.member s.member r.there r.listed s.there

  free_pair : (x y : ExportMethod) (s : Signature) → IsOthers y → Offers p.files (has_applets p) n t there plain s
      → slice_get shown_slots x.token ≡ Some (Some s) → clashes x y ≡ false
  free_pair x y s others_one offers e = apart_numbers x.token y.token (same_bool (is_unbound y.flags y.name)
      (is_unbound x.flags x.name)) (λ same. others_one.free s offers (ap (slice_get shown_slots) (sym same) ∙ e))

  own_others : (x y : ExportMethod) → Has x A → Has y C → clashes x y ≡ false
  own_others x y h g = ap (λ (z : ExportMethod). clashes z y) (sym r.is) ∙ by (kind r.place r.member r.there r.listed)
    where
      r : IsListedAt p c fields methods x
      r = listed_in p c fields methods x h

      by : (is_open_bound r.member ≡ true) ⊎ (is_shown r.member ≡ true)
          → clashes (method_entry (tok (fields + r.place)) r.member) y ≡ false
      by (inl a) = kinds_apart (method_entry (tok (fields + r.place)) r.member) y true false (bound_unbound r.member a)
          (let z = others y g in z.bound) refl
      by (inr a) = free_pair (method_entry (tok (fields + r.place)) r.member) y (signature_of r.member) (others y g)
          (offers_shown p.files (has_applets p) n t there plain r.place r.member r.there a) (shown_at r.place r.member
          r.there a).0

  given_others : (x y : ExportMethod) → Has x B → Has y C → clashes x y ≡ false
  given_others x y h g =
      let r = added_in p c (fields + length methods) given x h in
      ap (λ (z : ExportMethod). clashes z y) (sym r.is)
      ∙ free_pair (method_entry (tok (fields + length methods + r.place)) (as_added r.member)) y (signature_of r.member)
      (others y g) (offers_given p.files (has_applets p) n t there plain r.place r.member r.there)
      (given_at r.place r.member r.there).0

  all_alone : Alone (A ++ (B ++ C))
  all_alone =
      alone_append A (B ++ C) (listed_alone p c fields methods own_pair)
      (alone_append B C (added_alone p c (fields + length methods) given given_pair) (inherited_alone w c 0 its_row)
      given_others)
      (λ x y h g. ⊎_elim (λ b. own_given x y h b) (λ b. own_others x y h b) (has-either y B C g))

  all_good : (e : ExportMethod) → Has e (A ++ (B ++ C)) → IsGood e
  all_good e h = ⊎_elim (λ a. own_good e a) (λ b. ⊎_elim (λ d. given_good e d) (λ d. (let z = others e d in z.good))
      (has-either e B C b)) (has-either e A (B ++ C) h)

  listed : (let e = export_class p c in e.methods) ≡ A ++ (B ++ C)
  listed = ap (λ b. A ++ (B ++ (if b then supers_from w c 0 (interface_methods w c) (interface_row w c) else C))) plain

  -- ---- static methods and constructors

  own_unbound : (e : ExportMethod) → Has e A → is_unbound e.flags e.name ≡ true → IsOwnUnbound p c e
  own_unbound e h u = by (kind r.place r.member r.there r.listed)
    where
      r : IsListedAt p c fields methods e
      r = listed_in p c fields methods e h

      its : tok (fields + r.place) ≡ e.token
      its = ap (λ (x : ExportMethod). x.token) r.is

      by : (is_open_bound r.member ≡ true) ⊎ (is_shown r.member ≡ true) → IsOwnUnbound p c e
      by (inl a) = record {
        place = r.place;
        member = r.member;
        there = r.there;
        opened = a;
        is = ap (λ k. method_entry k r.member) (sym its) ∙ r.is;
        its_token = its;
        exported = ap (slice_get (open_methods c fields methods)) (sym its ∙ bound_is r.place r.member r.there a)
            ∙ open_at c fields methods r.place r.member r.there a;
      }
      by (inr a) = absurd (let z : true ≡ false = sym u ∙ sym (ap (λ (x : ExportMethod). is_unbound x.flags x.name)
          r.is) ∙ shown_unbound r.member a in cc)

  -- what it got or inherits is neither
  pub unbound_own : (e : ExportMethod) → Has e (let x = export_class p c in x.methods) → is_unbound e.flags e.name
      ≡ true → IsOwnUnbound p c e
  unbound_own e h u = ⊎_elim
      (λ a. own_unbound e a u)
      (λ b. ⊎_elim (λ d. bound (given_bound d)) (λ d. bound (let z = others e d in z.bound)) (has-either e B C b))
      (has-either e A (B ++ C) (subst (Has e) listed h))
    where
      bound : is_unbound e.flags e.name ≡ false → IsOwnUnbound p c e
      bound f = absurd (let z : true ≡ false = sym u ∙ f in cc)

      given_bound : Has e B → is_unbound e.flags e.name ≡ false
      given_bound d = let r = added_in p c (fields + length methods) given e d
          in ap (λ (x : ExportMethod). is_unbound x.flags x.name) (sym r.is) ∙ (given_read r.place r.member r.there).1

  pub class_stands : MethodsStand p c
  class_stands =
      let le = few (A ++ (B ++ C)) all_alone all_good in
      let same : is_interface (let e = export_class p c in e.flags) ≡ false = interface_kept (let d = c
      in d.flags) (is_shareable w c) ∙ plain in
      let long : length (let e = export_class p c in e.methods) ≡ length (A ++ (B ++ C)) = ap length listed in
      let stands : EachAfter (MethodStands false (length (let e = export_class p c in e.methods))) [] (A ++ (B ++ C)) =
      stand (length (let e = export_class p c in e.methods)) [] (A ++ (B ++ C)) (λ m x h g. has_none m h) all_alone
      all_good in
      record {
        methods = (let z : length (let e = export_class p c in e.methods) < 2 ^ 16 = omega (arith, le, long) in z);
        count = ap (λ b. if b && nat_lt 255 (length (let e = export_class p c in e.methods)) then None
            else Some (length (let e = export_class p c in e.methods))) same;
        each = subst (λ b. EachAfter (MethodStands b (length (let e = export_class p c in e.methods))) []
            (let e = export_class p c in e.methods)) (sym same)
            (subst (λ xs. EachAfter (MethodStands false (length (let e = export_class p c in e.methods))) [] xs)
            (sym listed) stands);
      }

-- ---- all exported classes

pub classes_stand : (list : ListTree) (files : List (List ℕ)) (judged : Judged) (p : Package)
    → IsLaidOut list files judged p → ExportedInterfacesStand p → ExportedMethodsStand p
classes_stand list files judged p is interfaces place owner at = by (is_interface owner.flags) refl
  where
    by : (b : Bool) → is_interface owner.flags ≡ b → MethodsStand p owner
    by true e = interfaces place owner at e
    by false e =
        let own = own_class p place owner at in
        subst (MethodsStand p) (sym own.is) (class_stands list files judged p is place owner at
        (ap (λ (d : Class). is_interface d.flags) (sym own.is) ∙ e))
