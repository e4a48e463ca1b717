-- The methods of Method are those of the package, class by class, and Descriptor gives each the package's type.
use Rattle.std.proofs.Common.{◌≡◌, ◌⊎◌, ℕ, zero, suc, ◌+◌, ◌-◌, ◌<◌, ◌≤◌, ◌==◌, refl, sym, ap, subst, ◌∙◌, arith, Bool}
use Rattle.std.proofs.Common.{true, false, inl, inr, ⊎_elim, drop, List, [], ◌∷◌, ◌++◌, length, length-append, map}
use Rattle.std.proofs.Common.{slice_get, Option}
use Rattle.std.proofs.Common.{Some, None, append_assoc}
use Rattle.std.specs.Prelude.{◌&&◌, cond, filter, flat_map, if◌then◌else◌, not, option_and_then, option_map}
use Rattle.std.specs.List.{find}
use Rattle.std.proofs.lemmas.List.Concat.{flat_map-cons}
use Rattle.cjc_bytes.specs.AccessFlags.{is_interface}
use Rattle.cjc_capread.specs.declared.tree.ClassDescriptor.{ClassDescriptor}
use Rattle.cjc_capread.specs.declared.tree.ClassRef.{ClassRef}
use Rattle.cjc_capread.specs.declared.tree.ClassRef.TheVariants.{Inside, Outside}
use Rattle.cjc_capread.specs.declared.tree.MethodDescriptor.{MethodDescriptor}
use Rattle.cjc_check_rules.specs.Classes.{first_interface, is_own_class}
use Rattle.cjc_check_rules.specs.ClassRefs.{fields_begin}
use Rattle.cjc_check_rules.specs.Codes.{Code as Cut, codes, methods_begin as code_begins, whole_spots}
use Rattle.cjc_check_rules.specs.Complete.{Complete, described_size}
use Rattle.cjc_check_rules.specs.Described.{all_starts, classes_in_order, methods_begin}
use Rattle.cjc_check_rules.specs.Members.{class_methods}
use Rattle.cjc_check_rules.specs.Spots.{beside, in_info, placed, starts, unless}
use Rattle.cjc_check_rules.specs.declared.spot.ComponentPlace.{ComponentPlace}
use Rattle.cjc_world.specs.declared.found.Found.{Found}
use Rattle.cjc_world.specs.declared.image.StaticImage.{StaticImage}
use Rattle.cjc_world.specs.Classes.{Class, all_classes}
use Rattle.cjc_world.specs.Files.{Files}
use Rattle.cjc_world.specs.Order.{class_order, methods_of_class}
use Rattle.cjc_card_semantics.specs.Machine.Classes.{Info, IsClass, IsInterface, info_at, info_size, number_from}
use Rattle.cjc_card_semantics.specs.Machine.Classes.{offset_from}
use Rattle.cjc_card_semantics.specs.Machine.Loaded.{Loaded, Part}
use Rattle.cjc_card_semantics.specs.Machine.Methods.{is_class_at, is_class_info}
use Rattle.cjc_card_acts.specs.CardTypes.{MemberType, type_at, type_by, types_in}
use Rattle.cjc_components.specs.Descriptor.{method_flags, method_in}
use Rattle.cjc_components.specs.Paired.Naming.{part_of}
use Rattle.cjc_components.specs.Paired.Pairs.{ArePaired, cell_spots, count_spots, head_of, info_count, methods_spots}
use Rattle.cjc_components.specs.Paired.Pairs as pairing
use Rattle.cjc_verify.specs.Bodies.{Body, bodies, type_of_body}
use Rattle.cjc_verify.specs.Described.{class_spots, described_spots, entry_spots, field_spots, member_token}
use Rattle.cjc_verify.specs.Described.{method_spots}
use Rattle.cjc_verify.specs.Described.{says, wanted_fields, class_token}
use Rattle.cjc_verify.specs.Infos.{all_info_spots, class_spots as info_class_spots, info_spots, infos, interface_spots}
use Rattle.cjc_verify.specs.Pairs.{Described, Pair, described, described_among, described_in, is_method_at, member_of}
use Rattle.cjc_verify.specs.Pairs.{method_at, nibbles_of, pair_of, world}
use Rattle.cjc_verify.specs.Verified.{IsVerified}
use Rattle.cjc_bytes.proofs.Gets.{find_got, get_below, get_inside, item_there, mapped_at}
use Rattle.cjc_bytes.proofs.Lists.{length_mapped, map_append, none_left, none_right}
use Rattle.cjc_bytes.proofs.Numbers.{number_same, number_same_number}
use Rattle.cjc_bytes.proofs.Plain.{same_some}
use Rattle.cjc_verify.proofs.CardLinkInfoPlaces.{all_starts as starts_of_infos}
use Rattle.cjc_verified_proof.proofs.BodyLaws.{Under, body_stands, method_has_body, under, under_in, under_methods}
use Rattle.cjc_cut_proof.proofs.CardLaws.{all_cut, class_refs_agree}
use Rattle.cjc_cut_proof.proofs.CutLaws.{AreCut, code_beside}
use Rattle.cjc_verified_proof.proofs.EntryLaws.{Says, beside_none, described_none, infos_none, said, unless_holds}
use Rattle.cjc_verified_proof.proofs.NameLaws.{holder_is, number_back, starts_read}

-- ---- lists

filter_both : {A : Type 0} (f : A → Bool) (xs ys : List A) → filter f (xs ++ ys) ≡ filter f xs ++ filter f ys
filter_both f [] ys = refl
filter_both {A} f (x ∷ xs) ys = by (f x) (filter_both f xs ys)
  where
    by : (b : Bool) → filter f (xs ++ ys) ≡ filter f xs ++ filter f ys
        → cond b (x ∷ filter f (xs ++ ys)) (filter f (xs ++ ys)) ≡ cond b (x ∷ filter f xs) (filter f xs)
        ++ filter f ys
    by true e = ap (λ zs. x ∷ zs) e
    by false e = e

-- what is left stood in the list
pub filter_got : {A : Type 0} (f : A → Bool) (xs : List A) (k : ℕ) (x : A) → slice_get (filter f xs) k ≡ Some x
    → (j : ℕ) × (slice_get xs j ≡ Some x)
filter_got f [] k x e = absurd cc
filter_got {A} f (y ∷ xs) k x e = by (f y) k e (filter_got f xs)
  where
    by : (b : Bool) (k : ℕ) → slice_get (cond b (y ∷ filter f xs) (filter f xs)) k ≡ Some x
        → ((k : ℕ) (z : A) → slice_get (filter f xs) k ≡ Some z → (j : ℕ) × (slice_get xs j ≡ Some z))
        → (j : ℕ) × (slice_get (y ∷ xs) j ≡ Some x)
    by true zero e more = (0, e)
    by true (suc k) e more = let r = more k x e in (suc r.0, r.1)
    by false k e more = let r = more k x e in (suc r.0, r.1)

-- and what passes is left
pub filter_has : {A : Type 0} (f : A → Bool) (xs : List A) (k : ℕ) (x : A) → slice_get xs k ≡ Some x → f x ≡ true
    → (j : ℕ) × (slice_get (filter f xs) j ≡ Some x)
filter_has f [] k x e g = absurd cc
filter_has {A} f (y ∷ xs) zero x e g =
    let same = same_some e in
    (0, ap (λ b. slice_get (cond b (y ∷ filter f xs) (filter f xs)) 0) (ap f same ∙ g) ∙ e)
filter_has {A} f (y ∷ xs) (suc k) x e g = by (f y) (filter_has f xs k x e g)
  where
    by : (b : Bool) → (j : ℕ) × (slice_get (filter f xs) j ≡ Some x)
        → (j : ℕ) × (slice_get (cond b (y ∷ filter f xs) (filter f xs)) j ≡ Some x)
    by true r = (suc r.0, r.1)
    by false r = r

-- the first that passes two tests is the first of those that pass one that passes the other
find_filter : {A : Type 0} (f g : A → Bool) (xs : List A) → find (λ x. f x && g x) xs ≡ find g (filter f xs)
find_filter f g [] = refl
find_filter {A} f g (x ∷ xs) = by (f x) (find_filter f g xs)
  where
    by : (b : Bool) → find (λ x. f x && g x) xs ≡ find g (filter f xs)
        → cond (b && g x) (Some x) (find (λ x. f x && g x) xs) ≡ find g (cond b (x ∷ filter f xs) (filter f xs))
    by true e = ap (λ o. cond (g x) (Some x) o) e
    by false e = e

pub find_there : {A : Type 0} (g : A → Bool) (xs : List A) (k : ℕ) (x : A) → slice_get xs k ≡ Some x → g x ≡ true
    → (y : A) × (find g xs ≡ Some y)
find_there g [] k x e f = absurd cc
find_there {A} g (y ∷ xs) zero x e f = (y, ap (λ b. cond b (Some y) (find g xs)) (ap g (same_some e) ∙ f))
find_there {A} g (y ∷ xs) (suc k) x e f = by (g y) (find_there g xs k x e f)
  where
    by : (b : Bool) → (z : A) × (find g xs ≡ Some z) → (z : A) × (cond b (Some y) (find g xs) ≡ Some z)
    by true r = (y, refl)
    by false r = r

pub either_part : {A : Type 0} (xs ys : List A) (k : ℕ) (x : A) → slice_get (xs ++ ys) k ≡ Some x
    → (slice_get xs k ≡ Some x) ⊎ ((j : ℕ) × (slice_get ys j ≡ Some x))
either_part [] ys k x e = inr (k, e)
either_part (y ∷ xs) ys zero x e = inl e
either_part (y ∷ xs) ys (suc k) x e = either_part xs ys k x e

head_none : (xs : List ComponentPlace) → head_of xs ≡ [] → xs ≡ []
head_none [] e = refl
head_none (x ∷ xs) e = absurd cc

starts_length : (at : ℕ) (is : List Info) → length (starts info_size at is) ≡ length is
unfolding placed
starts_length at [] = refl
starts_length at (i ∷ is) = ap suc (starts_length (at + info_size i) is)

-- methods at one offset are one
same_place : (at : ℕ) (bytes : List ℕ) (ms : List MethodDescriptor) (cs : List Cut) → AreCut at bytes ms cs → (i k : ℕ)
    (m n : MethodDescriptor) → slice_get ms i ≡ Some m → slice_get ms k ≡ Some n → m.offset ≡ n.offset → i ≡ k
same_place at bytes [] cs h i k m n e f g = absurd cc
same_place at bytes (x ∷ ms) [] h i k m n e f g = absurd h
same_place at bytes (x ∷ ms) (y ∷ cs) h zero zero m n e f g = refl
same_place at bytes (x ∷ ms) (y ∷ cs) h zero (suc k) m n e f g =
    let r = code_beside (at + h.0) (drop h.0 bytes) ms cs h.4 k n f in
    let c = r.2 in
    let far = c.offset in
    let some = h.1 in
    let here = h.2 in
    let first = ap (λ (q : MethodDescriptor). q.offset) (same_some e) in
    absurd (omega (arith, far, some, here, first, g))
same_place at bytes (x ∷ ms) (y ∷ cs) h (suc i) zero m n e f g =
    let r = code_beside (at + h.0) (drop h.0 bytes) ms cs h.4 i m e in
    let c = r.2 in
    let far = c.offset in
    let some = h.1 in
    let here = h.2 in
    let first = ap (λ (q : MethodDescriptor). q.offset) (same_some f) in
    absurd (omega (arith, far, some, here, first, g))
same_place at bytes (x ∷ ms) (y ∷ cs) h (suc i) (suc k) m n e f g = ap suc (same_place (at + h.0) (drop h.0 bytes) ms cs
    h.4 i k m n e f g)

-- ---- methods of one class

abbrev pub as_listed : Described → Under
as_listed d = record { holder = d.holder; method = d.method }

-- of a class that is no interface
abbrev pub is_plain : Described → Bool
is_plain d = let c = d.class in not (is_interface c.flags)

in_class : (cl : Class) (h : ClassRef) (fs : List Found) (ms : List MethodDescriptor) → length ms ≡ length fs →
    (b : Bool)
    → not (is_interface cl.flags) ≡ b → map as_listed (filter is_plain (described_in cl h fs ms))
    ≡ (if b then map (λ (m : MethodDescriptor). record { holder = h; method = m }) ms else [])
in_class cl h [] [] e true f = refl
in_class cl h [] [] e false f = refl
in_class cl h [] (m ∷ ms) e b f = absurd (omega (arith, e))
in_class cl h (x ∷ fs) [] e b f = absurd (omega (arith, e))
in_class cl h (x ∷ fs) (m ∷ ms) e b f = by b f (in_class cl h fs ms (omega (arith, e)) b f)
  where
    by : (b : Bool) → not (is_interface cl.flags) ≡ b → map as_listed (filter is_plain (described_in cl h fs ms))
        ≡ (if b then map (λ (m : MethodDescriptor). record { holder = h; method = m }) ms else [])
        → map as_listed (cond (not (is_interface cl.flags)) (record {
          class = cl;
          member = x;
          holder = h;
          method = m;
        } ∷ filter is_plain (described_in cl h fs ms)) (filter is_plain (described_in cl h fs ms)))
        ≡ (if b then map (λ (m : MethodDescriptor). record { holder = h; method = m }) (m ∷ ms) else [])
    by true g more = ap (λ t. map as_listed (cond t (record { class = cl; member = x; holder = h; method = m }
        ∷ filter is_plain (described_in cl h fs ms)) (filter is_plain (described_in cl h fs ms)))) g
        ∙ ap (λ xs. record { holder = h; method = m } ∷ xs) more
    by false g more = ap (λ t. map as_listed (cond t (record { class = cl; member = x; holder = h; method = m }
        ∷ filter is_plain (described_in cl h fs ms)) (filter is_plain (described_in cl h fs ms)))) g ∙ more

-- what stands at a place among the methods of a class
pub in_got : (cl : Class) (h : ClassRef) (fs : List Found) (ms : List MethodDescriptor) (k : ℕ) (d : Described)
    → slice_get (described_in cl h fs ms) k ≡ Some d → (f : Found) × (m : MethodDescriptor) × (slice_get fs k ≡ Some f)
    × (slice_get ms k ≡ Some m) × (record { class = cl; member = f; holder = h; method = m } ≡ d)
in_got cl h [] ms k d e = absurd cc
in_got cl h (f ∷ fs) [] k d e = absurd cc
in_got cl h (f ∷ fs) (m ∷ ms) zero d e = (f, m, refl, refl, same_some e)
in_got cl h (f ∷ fs) (m ∷ ms) (suc k) d e = in_got cl h fs ms k d e

module _ (applets : Bool) (files : Files) (image : StaticImage) (c : Complete) (whole : whole_spots c ≡ [])
    (ordered : (let d = c.descriptor in classes_in_order d.classes (all_starts c.class)) ≡ [])
    (paired : ArePaired files image c) (verified : IsVerified (pair_of applets files image c)) where
  abbrev p : Pair
  p = pair_of applets files image c

  abbrev w : List Class
  w = all_classes files

  abbrev ds : List ClassDescriptor
  ds = let d = c.descriptor in d.classes

  abbrev cells : List ComponentPlace
  cells = cell_spots image c.statics

  abbrev counts : List ComponentPlace
  counts = count_spots w c.class

  abbrev methods : List ComponentPlace
  methods = pairing.method_spots w c.descriptor

  all_paired : counts ++ methods ≡ []
  all_paired = none_right cells (counts ++ methods) (head_none (cells ++ (counts ++ methods)) paired)

  as_many : info_count c.class ≡ length (class_order w)
  as_many = number_same (info_count c.class) (length (class_order w)) (unless_holds (info_count c.class ==
      length (class_order w)) (in_info 11 0) (none_left counts methods all_paired))

  -- ---- a class of Descriptor beside the package's

  pub record Fits (k : ℕ) (d : ClassDescriptor) : Type 0 where
    pub class : Class
    pub offset : ℕ
    pub in_order : slice_get (class_order w) k ≡ Some class
    pub starts : slice_get (all_starts c.class) k ≡ Some offset
    pub holder : d.this_class ≡ Inside offset
    pub own : is_own_class c.class d.this_class ≡ not (is_interface class.flags)
    pub count : length d.methods ≡ length (methods_of_class w class)
    pub place : ℕ
    pub clean : class_spots p place d class ≡ []

  pub fits : (k : ℕ) (d : ClassDescriptor) → slice_get ds k ≡ Some d → Fits k d
  fits k d e =
      let h = holder_is c ordered k d e in
      let at : offset_from 2 (infos c.class) k ≡ Some h.0 = sym (starts_read 2 (infos c.class) k)
      ∙ sym (ap (λ (xs : List ℕ). slice_get xs k) (starts_of_infos c.class)) ∙ h.1 in
      let lt = get_below (all_starts c.class) k h.0 h.1 in
      let many = ap length (starts_of_infos c.class) ∙ starts_length 2 (infos c.class) in
      let i = c.class in
      let sum = length-append (map IsInterface i.interfaces) (map IsClass i.classes) in
      let first = length_mapped IsInterface i.interfaces in
      let second = length_mapped IsClass i.classes in
      let total = as_many in
      let cl = get_inside (class_order w) k (omega (arith, lt, many, sum, first, second, total)) in
      let info = get_inside (infos c.class) k (omega (arith, lt, many)) in
      let described = beside_none described_size (class_spots p) 1 ds (class_order w) k d cl.0 (none_left
      (beside described_size (class_spots p) 1 ds (class_order (world p))) _ (described_none p verified)) e cl.1 in
      let count = beside_none described_size (methods_spots w) 1 ds (class_order w) k d cl.0 (none_right counts methods
      all_paired) e cl.1 in
      let kind = beside_none info_size (info_spots p) first_interface (infos c.class) (class_order w) k info.0 cl.0
      (infos_none p verified) info.1 cl.1 in
      record {
        class = cl.0;
        offset = h.0;
        in_order = cl.1;
        starts = h.1;
        holder = h.2;
        own = ap (is_own_class c.class) h.2
            ∙ sym (class_refs_agree (part_of applets files image c) c refl (Inside h.0))
            ∙ ap (λ o. is_class_info (option_and_then (slice_get (infos c.class)) o)) (number_back 2
            (infos c.class) k h.0
            at)
            ∙ ap is_class_info info.1
            ∙ of_kind info.0 cl.0 kind.0 kind.1;
        count = number_same (length d.methods) (length (methods_of_class w cl.0)) (unless_holds (length d.methods ==
            length (methods_of_class w cl.0)) (in_info 11 (count.0 + 7)) count.1);
        place = described.0;
        clean = described.1;
      }
    where
      of_kind : (i : Info) (cl : Class) (at : ℕ) → info_spots p at i cl ≡ [] → is_class_info (Some i)
          ≡ not (is_interface cl.flags)
      of_kind (IsInterface i) cl at e = by (is_interface cl.flags) e
        where
          by : (b : Bool) → (if b then interface_spots p at i cl else in_info 6 at ∷ []) ≡ [] → false ≡ not b
          by true f = refl
          by false f = absurd cc
      of_kind (IsClass x) cl at e = by (is_interface cl.flags) e
        where
          by : (b : Bool) → (if b then in_info 6 at ∷ [] else info_class_spots p at x cl) ≡ [] → true ≡ not b
          by true f = absurd cc
          by false f = refl

  -- ---- all methods

  all_flat : (order : List Class) (xs : List ClassDescriptor) → ((k : ℕ) (d : ClassDescriptor) → slice_get xs k ≡ Some d
      → (cl : Class) × (slice_get order k ≡ Some cl) × (is_own_class c.class d.this_class
      ≡ not (is_interface cl.flags)) × (length d.methods ≡ length (methods_of_class w cl)))
      → map as_listed (filter is_plain (described_among w order xs)) ≡ flat_map under_in (filter (λ
      (d : ClassDescriptor).
      is_own_class c.class d.this_class) xs)
  all_flat [] [] all = refl
  all_flat [] (d ∷ xs) all = let r = all 0 d refl in let no = r.1 in absurd cc
  all_flat (cl ∷ order) [] all = refl
  all_flat (cl ∷ order) (d ∷ xs) all =
      let r = all 0 d refl in
      let same : cl ≡ r.0 = same_some r.1 in
      let own = r.2 ∙ ap (λ (q : Class). not (is_interface q.flags)) (sym same) in
      let count = r.3 ∙ ap (λ q. length (methods_of_class w q)) (sym same) in
      ap (map as_listed) (filter_both is_plain (described_in cl d.this_class (methods_of_class w cl) d.methods)
      (described_among w order xs))
      ∙ map_append as_listed (filter is_plain (described_in cl d.this_class (methods_of_class w cl) d.methods))
      (filter is_plain (described_among w order xs))
      ∙ ap (λ ys. ys ++ map as_listed (filter is_plain (described_among w order xs)))
      (in_class cl d.this_class (methods_of_class w cl) d.methods count (is_own_class c.class d.this_class) (sym own))
      ∙ by (is_own_class c.class d.this_class) (all_flat order xs (λ k q e. all (suc k) q e))
    where
      by : (b : Bool) → map as_listed (filter is_plain (described_among w order xs)) ≡ flat_map under_in
          (filter (λ (d : ClassDescriptor). is_own_class c.class d.this_class) xs)
          → (if b then map (λ (m : MethodDescriptor). record { holder = d.this_class; method = m }) d.methods else [])
          ++ map as_listed (filter is_plain (described_among w order xs)) ≡ flat_map under_in (cond b (d
          ∷ filter (λ (d : ClassDescriptor). is_own_class c.class d.this_class) xs) (filter (λ (d : ClassDescriptor).
          is_own_class c.class d.this_class) xs))
      by true e = ap (λ ys. under_in d ++ ys) e ∙ sym (flat_map-cons under_in d (filter (λ (d : ClassDescriptor).
          is_own_class c.class d.this_class) xs))
      by false e = e

  abbrev pub plain_ones : List Described
  plain_ones = filter is_plain (described p)

  listed_so : map as_listed plain_ones ≡ under c
  listed_so = all_flat (class_order w) ds (λ k d e. (let f = fits k d e in (f.class, f.in_order, f.own, f.count)))

  -- what the package says of a method
  pub record IsSaid (d : Described) : Type 0 where
    pub type : says p (let m = d.method in m.type_offset) (let m = member_of p d in m.desc) ≡ true
    pub flags : (let m = d.method in m.flags) ≡ method_flags (member_of p d)
    pub token : (let m = d.method in m.token) ≡ member_token p d.member

  clean_method : (cl : Class) (h : ClassRef) (at : ℕ) (f : Found) (m : MethodDescriptor) → method_spots p cl at m f ≡ []
      → IsSaid (record { class = cl; member = f; holder = h; method = m })
  clean_method cl h at f m e =
      let x = method_in (world p) cl f.member in
      let token = unless (m.token == member_token p f) (in_info 11 at) in
      let flags = unless (m.flags == method_flags x) (in_info 11 (at + 1)) in
      let type = unless (says p m.type_offset x.desc) (in_info 11 (at + 4)) in
      record {
        type = unless_holds (says p m.type_offset x.desc) (in_info 11 (at + 4)) (none_right (token ++ flags) type e);
        flags = number_same m.flags (method_flags x) (unless_holds (m.flags == method_flags x) (in_info 11 (at + 1))
            (none_right token flags (none_left (token ++ flags) type e)));
        token = number_same m.token (member_token p f) (unless_holds (m.token == member_token p f) (in_info 11 at)
            (none_left token flags (none_left (token ++ flags) type e)));
      }

  -- the methods of a class of Descriptor
  pub method_said : (k : ℕ) (d : ClassDescriptor) → (e : slice_get ds k ≡ Some d) → (j : ℕ) (f : Found)
      (m : MethodDescriptor) → slice_get (methods_of_class w (let x = fits k d e in x.class)) j ≡ Some f
      → slice_get d.methods j ≡ Some m → IsSaid (record {
        class = (let x = fits k d e in x.class);
        member = f;
        holder = d.this_class;
        method = m;
      })
  method_said k d e j f m there here =
      let x = fits k d e in
      let cl = x.class in
      let b = beside (λ (m : MethodDescriptor). 12) (method_spots p cl) (methods_begin x.place d) d.methods
      (methods_of_class (world p) cl) in
      let r = beside_none (λ (m : MethodDescriptor). 12) (method_spots p cl) (methods_begin x.place d) d.methods
      (methods_of_class w cl) j m f (none_right _ b x.clean) here there in
      clean_method cl d.this_class r.0 f m r.1

  all_said : (order : List Class) (xs : List ClassDescriptor) → ((k : ℕ) (cl : Class) (d : ClassDescriptor)
      → slice_get order k ≡ Some cl → slice_get xs k ≡ Some d → (at : ℕ) × (class_spots p at d cl ≡ [])) → (k : ℕ)
      (d : Described) → slice_get (described_among w order xs) k ≡ Some d → IsSaid d
  all_said [] xs all k d e = absurd cc
  all_said (cl ∷ order) [] all k d e = absurd cc
  all_said (cl ∷ order) (x ∷ xs) all k d e = ⊎_elim
      (λ a. (
      let g = in_got cl x.this_class (methods_of_class w cl) x.methods k d a in
      let s = all 0 cl x refl refl in
      let b = beside (λ (m : MethodDescriptor). 12) (method_spots p cl) (methods_begin s.0 x) x.methods
      (methods_of_class (world p) cl) in
      let r = beside_none (λ (m : MethodDescriptor). 12) (method_spots p cl) (methods_begin s.0 x) x.methods
      (methods_of_class w cl) k g.1 g.0 (none_right _ b s.1) g.3 g.2 in
      subst IsSaid g.4 (clean_method cl x.this_class r.0 g.0 g.1 r.1)
      ))
      (λ b. all_said order xs (λ j q y f g. all (suc j) q y f g) b.0 d b.1)
      (either_part (described_in cl x.this_class (methods_of_class w cl) x.methods) (described_among w order xs) k d e)

  -- each method that Descriptor lists
  pub described_said : (k : ℕ) (d : Described) → slice_get (described p) k ≡ Some d → IsSaid d
  described_said = all_said (class_order w) ds (λ j cl x h i. (let y = fits j x i in (
    y.place,
    ap (class_spots p y.place x) (same_some (sym h ∙ y.in_order)) ∙ y.clean,
  )))

  -- a method of Method is one of the package
  pub record IsOwn (k : ℕ) (b : Body) : Type 0 where
    pub described : Described
    pub found : method_at p (let m = b.method in m.offset) ≡ Some described
    pub holder : described.holder ≡ b.holder
    pub method : described.method ≡ b.method
    pub said : IsSaid described
    pub there : slice_get plain_ones k ≡ Some described

  pub body_own : (k : ℕ) (b : Body) → slice_get (bodies c) k ≡ Some b → IsOwn k b
  body_own k b e =
      let s = body_stands c whole k b e in
      let r = mapped_at as_listed plain_ones k (record { holder = b.holder; method = b.method }) (ap
      (λ xs. slice_get xs k)
      listed_so ∙ s.listed) in
      let m = b.method in
      let is_holder : (r.0).holder ≡ b.holder = ap (λ (x : Under). x.holder) r.2 in
      let is_method : (r.0).method ≡ b.method = ap (λ (x : Under). x.method) r.2 in
      let f = find_there (λ (x : Described). (let y = x.method in y.offset == m.offset)) plain_ones k r.0 r.1
      (number_same_number _ m.offset (ap (λ (y : MethodDescriptor). y.offset) is_method)) in
      let g = find_got (λ (x : Described). (let y = x.method in y.offset == m.offset)) plain_ones f.0 f.1 in
      let method_of : (j : ℕ) (x : Described) → slice_get plain_ones j ≡ Some x → slice_get (class_methods c) j
      ≡ Some x.method = λ j x h. ap (λ ms. slice_get ms j) (sym (under_methods c)) ∙ ap (λ xs.
      slice_get (map (λ (y : Under). y.method) xs) j) (sym listed_so) ∙ twice plain_ones j x h in
      let place : g.0 ≡ k = same_place (code_begins c) (let y = c.method in y.methods) (class_methods c) (codes c)
      (all_cut c whole) g.0 k (f.0).method b.method (method_of g.0 f.0 g.1) s.method (number_same _ m.offset g.2) in
      let one : f.0 ≡ r.0 = same_some (sym g.1 ∙ ap (slice_get plain_ones) place ∙ r.1) in
      let there = filter_got is_plain (described p) k r.0 r.1 in
      record {
        described = r.0;
        found = find_filter is_plain (λ (x : Described). (let y = x.method in y.offset == m.offset)) (described p) ∙ f.1
            ∙ ap (λ x. Some x) one;
        holder = is_holder;
        method = is_method;
        said = described_said there.0 r.0 there.1;
        there = r.1;
      }
    where
      twice : (xs : List Described) (j : ℕ) (x : Described) → slice_get xs j ≡ Some x
          → slice_get (map (λ (y : Under). y.method) (map as_listed xs)) j ≡ Some x.method
      twice [] j x h = absurd cc
      twice (y ∷ xs) zero x h = ap (λ (z : Described). Some z.method) (same_some h)
      twice (y ∷ xs) (suc j) x h = twice xs j x h

  -- the type of a method of Method is what its descriptor says
  pub body_says : (k : ℕ) (b : Body) → (e : slice_get (bodies c) k ≡ Some b)
      → Says p (let m = b.method in m.type_offset) (let o = body_own k b e in let m = member_of p o.described in m.desc)
  body_says k b e =
      let o = body_own k b e in
      let s = o.said in
      said p (let m = b.method in m.type_offset) (let m = member_of p o.described in m.desc)
      (ap (λ (m : MethodDescriptor). says p m.type_offset (let x = member_of p o.described in x.desc)) (sym o.method)
      ∙ s.type)

  -- a method of a class among all is that of Method which has its place
  pub own_found : (j : ℕ) (d : Described) → slice_get (described p) j ≡ Some d → is_plain d ≡ true
      → (i : ℕ) × (b : Body) × (slice_get (bodies c) i ≡ Some b) × (b.method ≡ d.method)
      × (method_at p (let m = d.method in m.offset) ≡ Some d)
  own_found j d e plain =
      let h = filter_has is_plain (described p) j d e plain in
      let at : slice_get (under c) h.0 ≡ Some (as_listed d) = ap (λ xs. slice_get xs h.0) (sym listed_so)
      ∙ item_there as_listed plain_ones h.0 d h.1 in
      let has : slice_get (class_methods c) h.0 ≡ Some d.method = ap (λ ms. slice_get ms h.0) (sym (under_methods c))
      ∙ item_there (λ (x : Under). x.method) (under c) h.0 (as_listed d) at in
      let b = method_has_body c whole h.0 d.method has in
      let o = body_own h.0 b.0 b.1 in (
        h.0,
        b.0,
        b.1,
        b.2,
        ap (λ (m : MethodDescriptor). method_at p m.offset) (sym b.2) ∙ o.found
            ∙ ap (λ (x : Described). Some x) (same_some (sym o.there ∙ h.1)),
      )
