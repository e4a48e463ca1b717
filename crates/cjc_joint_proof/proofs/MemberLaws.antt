-- Members of class files by themselves and in the joint world.
use Rattle.std.proofs.Common.{◌≡◌, ℕ, ◌+◌, refl, sym, ap, ◌∙◌, Bool, false, List, [], ◌∷◌, length, map, position}
use Rattle.std.specs.Prelude.{Option, Some, None, option_map, option_and_then, slice_get, ◌-◌, ◌&&◌, if◌then◌else◌, ℤ}
use Rattle.cjc_token_proof.proofs.BytesGets.{position_there}
use Rattle.cjc_token_proof.proofs.BytesNumbers.{like_number}
use Rattle.cjc_card_semantics.specs.Bytes.AccessFlags.{is_static}
use Rattle.cjc_card_semantics.specs.Bytes.declared.fault.MemberId.{MemberId}
use Rattle.cjc_exported.specs.ClassFile.declared.tree.ClassTree.{ClassTree}
use Rattle.cjc_exported.specs.World.Classes.{Class, Member, all_classes, class_at, class_named, declared}
use Rattle.cjc_exported.specs.World.Classes.{field_of_class}
use Rattle.cjc_exported.specs.World.Classes.{method_of_class}
use Rattle.cjc_exported.specs.World.Files.{Files}
use Rattle.cjc_exported.specs.World.Lookup.{field_in, find_field, find_method, is_called, is_wanted, or_else}
use Rattle.cjc_exported.specs.World.Lookup.{own_field}
use Rattle.cjc_exported.specs.World.Lookup.{own_method}
use Rattle.cjc_exported.specs.World.Supertypes.{End, known_as, supertypes, supertypes_within}
use Rattle.cjc_exported.specs.World.declared.found.Found.{Found}
use Rattle.cjc_link_semantics.specs.JvmSemantics.OnePackage.{ResolvedMember, call_by, constant_at, constant_in}
use Rattle.cjc_link_semantics.specs.JvmSemantics.OnePackage.{entry_in}
use Rattle.cjc_link_semantics.specs.JvmSemantics.OnePackage.{entry_named}
use Rattle.cjc_link_semantics.specs.JvmSemantics.OnePackage.{field_by, field_hit, field_named, is_initialiser}
use Rattle.cjc_link_semantics.specs.JvmSemantics.OnePackage.{method_at}
use Rattle.cjc_link_semantics.specs.JvmSemantics.OnePackage.{method_hit}
use Rattle.cjc_link_semantics.specs.JvmSemantics.OnePackage.{method_in}
use Rattle.cjc_link_semantics.specs.JvmSemantics.Group.{call_from, field_from, find_exposed, joint, joint_call}
use Rattle.cjc_link_semantics.specs.JvmSemantics.Group.{joint_field, joint_field_hit, joint_method, or_field}
use Rattle.cjc_link_semantics.specs.JvmSemantics.Group.{selection_for}
use Rattle.cjc_joint_proof.specs.Worlds.{AreApart, IsListed, IsOwn, before, found_in, hit_in, own_member}
use Rattle.cjc_joint_proof.proofs.WorldLaws.{joint_place, own_at_number, own_is_found}

-- ---- a class's own members

moves : (n k : ℕ) (at : ℕ → ℕ) (o : Option ℕ) → option_map (λ i. own_member (n + k) (at i)) o
    ≡ option_map (found_in n) (option_map (λ i. own_member k (at i)) o)
moves n k at None = refl
moves n k at (Some i) = refl

pub own_method_moves : (n k : ℕ) (c : ClassTree) (selecting : Bool) (name desc : List ℕ)
    → own_method selecting name desc (declared (n + k) c)
    ≡ option_map (found_in n) (own_method selecting name desc (declared k c))
unfolding own_method
own_method_moves n k c selecting name desc =
    moves n k (λ i. length (map field_of_class c.fields) + i) (position (λ (m : Member). is_wanted selecting m.flags
    && is_called name desc m) (map method_of_class c.methods))

pub own_field_moves : (n k : ℕ) (c : ClassTree) (name desc : List ℕ)
    → own_field name desc (declared (n + k) c) ≡ option_map (found_in n) (own_field name desc (declared k c))
unfolding own_field
own_field_moves n k c name desc =
    moves n k (λ i. i) (position (λ (m : Member). is_called name desc m) (map field_of_class c.fields))

-- where a field that a class declares stands
record FieldPlace (k : ℕ) (c : ClassTree) (f : Found) : Type 0 where
  place : ℕ
  field : Member
  is : f ≡ own_member k place
  there : slice_get (map field_of_class c.fields) place ≡ Some field

field_place : (k : ℕ) (c : ClassTree) (name desc : List ℕ) (f : Found) → own_field name desc (declared k c) ≡ Some f
    → FieldPlace k c f
unfolding own_field
field_place k c name desc f e =
    by (position (λ (m : Member). is_called name desc m) (map field_of_class c.fields)) refl e
  where
    by : (o : Option ℕ) → position (λ (m : Member). is_called name desc m) (map field_of_class c.fields) ≡ o
        → option_map (λ i. own_member k i) o ≡ Some f → FieldPlace k c f
    by None at e = cc
    by (Some i) at e =
        let r = position_there (λ (m : Member). is_called name desc m) (map field_of_class c.fields) i at in
        let same : own_member k i ≡ f = cc in
        record { place = i; field = r.0; is = sym same; there = r.1 }

-- the same of a method
record MethodPlace (k : ℕ) (c : ClassTree) (f : Found) : Type 0 where
  place : ℕ
  is : f ≡ own_member k place

method_place : (k : ℕ) (c : ClassTree) (selecting : Bool) (name desc : List ℕ) (f : Found)
    → own_method selecting name desc (declared k c) ≡ Some f → MethodPlace k c f
unfolding own_method
method_place k c selecting name desc f e = by (position (λ (m : Member). is_wanted selecting m.flags
    && is_called name desc m) (map method_of_class c.methods)) e
  where
    by : (o : Option ℕ) → option_map (λ i. own_member k (length (map field_of_class c.fields) + i)) o ≡ Some f
        → MethodPlace k c f
    by None e = cc
    by (Some i) e =
        let same : own_member k (length (map field_of_class c.fields) + i) ≡ f = cc in
        record { place = length (map field_of_class c.fields) + i; is = sym same }

-- ---- what a number means

module _ (group : List Files) (i k : ℕ) (p : Files) (c : ClassTree) (h : IsOwn group i k p c) where
  pub method_stays : (m : ℕ) → method_at (joint group) (own_member (before group i + k) m)
      ≡ method_at p (own_member k m)
  method_stays m =
      ap (option_and_then (method_in m)) (joint_place group i k p c h)
      ∙ sym (ap (option_and_then (method_in m)) h.file)

  pub constant_stays : (m : ℕ) → constant_at (joint group) (own_member (before group i + k) m)
      ≡ constant_at p (own_member k m)
  constant_stays m =
      ap (option_and_then (constant_in m)) (joint_place group i k p c h)
      ∙ sym (ap (option_and_then (constant_in m)) h.file)

  hit : (n : ℕ) (o : Option Member) →
      option_map (λ (m : Member). record { owner = declared (n + k) c; flags = m.flags })
      o ≡ option_map (hit_in n) (option_map (λ (m : Member). record { owner = declared k c; flags = m.flags }) o)
  hit n None = refl
  hit n (Some m) = refl

  pub method_hit_moves : IsListed p k c → (m : ℕ) → method_hit (all_classes (joint group)) (own_member (before group i
      + k) m) ≡ option_map (hit_in (before group i)) (method_hit (all_classes p) (own_member k m))
  method_hit_moves listed m =
      ap (option_and_then (λ (d : Class). option_map (λ (x : Member). record { owner = d; flags = x.flags }) (slice_get
      d.methods (m - length d.fields)))) (own_at_number group i k p c h)
      ∙ (hit (before group i) (slice_get (map method_of_class c.methods) (m - length (map field_of_class c.fields)))
      ∙ sym (ap (λ o. option_map (hit_in (before group i)) (option_and_then (λ (d : Class). option_map (λ (x : Member).
      record { owner = d; flags = x.flags }) (slice_get d.methods (m - length d.fields))) o)) listed.number))

  pub field_hit_moves : IsListed p k c → (m : ℕ) → field_hit (all_classes (joint group)) (own_member (before group i
      + k) m) ≡ option_map (hit_in (before group i)) (field_hit (all_classes p) (own_member k m))
  field_hit_moves listed m =
      ap (option_and_then (λ (d : Class). option_map (λ (x : Member). record { owner = d; flags = x.flags }) (slice_get
      d.fields m))) (own_at_number group i k p c h)
      ∙ (hit (before group i) (slice_get (map field_of_class c.fields) m)
      ∙ sym (ap (λ o. option_map (hit_in (before group i)) (option_and_then (λ (d : Class). option_map (λ (x : Member).
      record { owner = d; flags = x.flags }) (slice_get d.fields m)) o)) listed.number))

  -- ---- entries of scripts

  single : (n m : ℕ) → method_hit (declared n c ∷ []) (own_member n m) ≡ option_map (λ (x : Member). record {
    owner = declared n c;
    flags = x.flags;
  }) (slice_get (map method_of_class c.methods) (m - length (map field_of_class c.fields)))
  unfolding class_at
  single n m = ap (λ b. option_and_then (λ (d : Class). option_map (λ (x : Member). record {
    owner = d;
    flags = x.flags;
  }) (slice_get d.methods (m - length d.fields))) (if b then Some (declared n c) else None)) (like_number n)

  where_static : (files : Files) (f : Found) (n m : ℕ) → option_and_then (λ (hit : ResolvedMember). if is_static
      hit.flags then method_at files f else None) (method_hit (declared n c ∷ []) (own_member n m))
      ≡ option_and_then (λ (x : Member). if is_static x.flags then method_at files f else None) (slice_get (map
      method_of_class c.methods) (m - length (map field_of_class c.fields)))
  where_static files f n m =
      ap (option_and_then (λ (hit : ResolvedMember). if is_static hit.flags then method_at files f else None)) (single n
      m)
      ∙ by (slice_get (map method_of_class c.methods) (m - length (map field_of_class c.fields)))
    where
      by : (o : Option Member) → option_and_then (λ (hit : ResolvedMember). if is_static hit.flags then method_at files
          f else None) (option_map (λ (x : Member). record { owner = declared n c; flags = x.flags }) o)
          ≡ option_and_then (λ (x : Member). if is_static x.flags then method_at files f else None) o
      by None = refl
      by (Some x) = refl

  entry_stays : (id : MemberId) → entry_in (joint group) id (declared (before group i + k) c) ≡ entry_in p id (declared
      k c)
  unfolding own_method
  entry_stays id = by (position (λ (m : Member). is_wanted false m.flags && is_called id.name id.desc m) (map
      method_of_class c.methods))
    where
      by : (o : Option ℕ) → option_and_then (λ (f : Found). option_and_then (λ (hit : ResolvedMember). if is_static
          hit.flags then method_at (joint group) f else None) (method_hit (declared (before group i + k) c ∷ []) f))
          (option_map (λ j. own_member (before group i + k) (length (map field_of_class c.fields) + j)) o)
          ≡ option_and_then (λ (f : Found). option_and_then (λ (hit : ResolvedMember). if is_static hit.flags
          then method_at p f else None) (method_hit (declared k c ∷ []) f)) (option_map (λ j. own_member k (length (map
          field_of_class c.fields) + j)) o)
      by None = refl
      by (Some j) =
          let m = length (map field_of_class c.fields) + j in
          where_static (joint group) (own_member (before group i + k) m) (before group i + k) m
          ∙ (ap (λ o. option_and_then (λ (x : Member). if is_static x.flags then o else None) (slice_get (map
          method_of_class c.methods) (m - length (map field_of_class c.fields)))) (method_stays m)
          ∙ sym (where_static p (own_member k m) k m))

  pub entry_named_stays : AreApart group → IsListed p k c → (id : MemberId) → id.class ≡ c.name
      → entry_named (joint group) (all_classes (joint group)) id ≡ entry_named p (all_classes p) id
  entry_named_stays apart listed id is =
      let w = all_classes (joint group) in
      let named : class_named w id.class ≡ Some (declared (before group i + k) c) = ap (class_named w) is
      ∙ own_is_found group apart i k p c h in
      let alone : class_named (all_classes p) id.class ≡ Some (declared k c) = ap (class_named (all_classes p)) is
      ∙ listed.name in
      ap (λ o. if is_initialiser id.name then None else option_and_then (entry_in (joint group) id) o) named
      ∙ (ap (λ o. if is_initialiser id.name then None else o) (entry_stays id)
      ∙ sym (ap (λ o. if is_initialiser id.name then None else option_and_then (entry_in p id) o) alone))

-- ---- fields that code names

own_first : (w : List Class) (n : ℕ) (c : ClassTree) (name desc : List ℕ) (f : Found)
    → class_named w c.name ≡ Some (declared n c) → own_field name desc (declared n c) ≡ Some f
    → find_field w c.name name desc ≡ Some f
unfolding find_field supertypes supertypes_within
own_first w n c name desc f named own =
    let up = supertypes_within w (length w) in
    ap (λ o. field_in (own_field name desc) (known_as up c.name o End)) named
    ∙ ap (λ o. or_else (or_else o (or_else (field_in (own_field name desc) (up c.interfaces)) (field_in (own_field name
    desc) (up (c.superclass ∷ []))))) None) own

module _ (group : List Files) (apart : AreApart group) (i k : ℕ) (p : Files) (c : ClassTree) (h : IsOwn group i k p c)
    (listed : IsListed p k c) (id : MemberId) (f : Found) where
  pub field_resolves : own_field id.name id.desc (declared k c) ≡ Some f
      → find_field (all_classes p) id.class id.name id.desc ≡ Some f
      → field_from (joint group) (all_classes (joint group)) id p ≡ field_named p (all_classes p) id
  field_resolves own found =
      let w = all_classes (joint group) in
      let own_w = all_classes p in
      let at = field_place k c id.name id.desc f own in
      let n = before group i in
      let in_joint = own_is_found group apart i k p c h in
      let moved : own_field id.name id.desc (declared (n + k) c) ≡ Some (found_in n f) = own_field_moves n k c id.name
      id.desc ∙ ap (option_map (found_in n)) own in
      let first = own_first w (n + k) c id.name id.desc (found_in n f) in_joint moved in
      let alone : field_hit own_w f ≡ Some (record { owner = declared k c; flags = at.field.flags }) = ap (field_hit
      own_w) at.is ∙ (ap (option_and_then (λ (d : Class). option_map (λ (x : Member). record {
        owner = d;
        flags = x.flags;
      }) (slice_get d.fields at.place))) listed.number ∙ ap (option_map (λ (x : Member). record {
        owner = declared k c;
        flags = x.flags;
      })) at.there) in
      let together : field_hit w (found_in n f) ≡ Some (record { owner = declared (n + k) c; flags = at.field.flags })
      = ap (λ g. field_hit w (found_in n g)) at.is ∙ (field_hit_moves group i k p c h listed at.place ∙ ap (option_map
      (hit_in n)) (ap (field_hit own_w) (sym at.is) ∙ alone)) in
      let constant : constant_at (joint group) (found_in n f) ≡ constant_at p f = ap (λ g. constant_at (joint group)
      (found_in n g)) at.is ∙ (constant_stays group i k p c h at.place ∙ ap (constant_at p) (sym at.is)) in
      let joined : joint_field (joint group) w id c.name ≡ Some (field_by (constant_at p f) id (record {
        owner = declared (n + k) c;
        flags = at.field.flags;
      })) = ap (option_and_then (λ f. option_map (field_by (constant_at (joint group) f) id) (field_hit w f))) first
      ∙ (ap (option_map (field_by (constant_at (joint group) (found_in n f)) id)) together
      ∙ ap (λ o. Some (field_by o id (record { owner = declared (n + k) c; flags = at.field.flags }))) constant) in
      ap (option_and_then (λ f. or_field (constant_at p f) (option_and_then (joint_field_hit (joint group) w id)
      (field_hit own_w f)))) found
      ∙ (ap (λ o. or_field (constant_at p f) (option_and_then (joint_field_hit (joint group) w id) o)) alone
      ∙ (ap (or_field (constant_at p f)) joined
      ∙ (by n (constant_at p f) at.field.flags
      ∙ sym (ap (option_and_then (λ f. option_map (field_by (constant_at p f) id) (field_hit own_w f))) found
      ∙ ap (option_map (field_by (constant_at p f) id)) alone))))
    where
      by : (n : ℕ) (o : Option ℤ) (flags : ℕ) → or_field o (Some (field_by o id (record {
        owner = declared (n + k) c;
        flags = flags;
      }))) ≡ Some (field_by o id (record { owner = declared k c; flags = flags }))
      by n None flags = refl
      by n (Some z) flags = refl

  -- ---- methods that code names

  pub method_resolves : own_method false id.name id.desc (declared k c) ≡ Some f
      → joint_method (all_classes (joint group)) (declared k c) id ≡ Some (found_in (before group i) f)
  method_resolves own =
      let w = all_classes (joint group) in
      let n = before group i in
      ap (option_and_then (λ (d : Class). if false && d.is_imported then find_exposed w c.name id
      else own_method false id.name id.desc d)) (own_is_found group apart i k p c h)
      ∙ (own_method_moves n k c false id.name id.desc ∙ ap (option_map (found_in n)) own)

  -- where it is found in the joint world
  pub hit_together : own_method false id.name id.desc (declared k c) ≡ Some f → (hit : ResolvedMember)
      → method_hit (all_classes p) f ≡ Some hit → method_hit (all_classes (joint group)) (found_in (before group i) f)
      ≡ Some (hit_in (before group i) hit)
  hit_together own hit is =
      let w = all_classes (joint group) in
      let n = before group i in
      let at = method_place k c false id.name id.desc f own in
      ap (λ g. method_hit w (found_in n g)) at.is
      ∙ (method_hit_moves group i k p c h listed at.place ∙ ap (option_map (hit_in n)) (ap (method_hit (all_classes p))
      (sym at.is) ∙ is))

  -- its class
  pub owner_is : own_method false id.name id.desc (declared k c) ≡ Some f → (hit : ResolvedMember)
      → method_hit (all_classes p) f ≡ Some hit → hit.owner ≡ declared k c
  owner_is own hit is =
      let at = method_place k c false id.name id.desc f own in
      owned at.place (ap (method_hit (all_classes p)) (sym at.is) ∙ is)
    where
      owned : (m : ℕ) → method_hit (all_classes p) (own_member k m) ≡ Some hit → hit.owner ≡ declared k c
      owned m e = go (slice_get (map method_of_class c.methods) (m - length (map field_of_class c.fields)))
          (sym (ap (option_and_then (λ (d : Class). option_map (λ (x : Member). record { owner = d; flags = x.flags })
          (slice_get d.methods (m - length d.fields)))) listed.number) ∙ e)
        where
          go : (o : Option Member) → option_map (λ (x : Member). record { owner = declared k c; flags = x.flags }) o
              ≡ Some hit → hit.owner ≡ declared k c
          go None e = cc
          go (Some x) e = let same : record { owner = declared k c; flags = x.flags } ≡ hit = cc in sym (ap (λ (y :
              ResolvedMember). y.owner) same)

  -- the method itself
  pub code_together : own_method false id.name id.desc (declared k c) ≡ Some f
      → method_at (joint group) (found_in (before group i) f) ≡ method_at p f
  code_together own =
      let at = method_place k c false id.name id.desc f own in
      ap (λ g. method_at (joint group) (found_in (before group i) g)) at.is
      ∙ (method_stays group i k p c h at.place ∙ ap (method_at p) (sym at.is))

  pub call_resolves : own_method false id.name id.desc (declared k c) ≡ Some f
      → find_method (all_classes p) id.class id.name id.desc ≡ Some f → (hit : ResolvedMember) → method_hit (all_classes
      p) f ≡ Some hit → (holder : List ℕ) (op : ℕ)
      → call_from (joint group) (all_classes (joint group)) holder op id p
      ≡ call_by (joint group) (all_classes (joint group)) (selection_for (all_classes (joint group)) (hit_in (before
      group i) hit)) holder op id (found_in (before group i) f) (hit_in (before group i) hit)
  call_resolves own found hit is holder op =
      let w = all_classes (joint group) in
      let n = before group i in
      ap (option_and_then (λ f. option_and_then (joint_call (joint group) w holder op id) (method_hit (all_classes p)
      f))) found
      ∙ (ap (option_and_then (joint_call (joint group) w holder op id)) is
      ∙ (ap (option_and_then (λ f. option_and_then (λ hit. call_by (joint group) w (selection_for w hit) holder op id f
      hit) (method_hit w f))) (ap (λ d. joint_method w d id) (owner_is own hit is) ∙ method_resolves own)
      ∙ ap (option_and_then (λ hit. call_by (joint group) w (selection_for w hit) holder op id (found_in n f) hit))
      (hit_together own hit is)))
