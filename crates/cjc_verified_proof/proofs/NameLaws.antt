-- What names of classes mean: the class_ref that is written for a name means the class that the card finds by it.
use Rattle.std.proofs.Common.{◌≡◌, ℕ, zero, suc, ◌+◌, ◌<◌, ◌≤◌, ◌^◌, ◌==◌, refl, sym, ap, subst, ◌∙◌, arith, Bool, true}
use Rattle.std.proofs.Common.{false}
use Rattle.std.proofs.Common.{List, [], ◌∷◌, ◌++◌, length, map, slice_get, Option, Some, None, position}
use Rattle.std.specs.Prelude.{if◌then◌else◌, is_some, nat_le, option_and_then, option_map, unwrap_or}
use Rattle.std.specs.Str.{bytes_eq}
use Rattle.std.proofs.lemmas.Bool.{leb-true}
use Rattle.cjc_capread.specs.ClassRefs.{is_inside}
use Rattle.cjc_capread.specs.declared.tree.ClassDescriptor.{ClassDescriptor}
use Rattle.cjc_capread.specs.declared.tree.ClassRef.{ClassRef}
use Rattle.cjc_capread.specs.declared.tree.ClassRef.TheVariants.{Inside, Outside}
use Rattle.cjc_world.specs.ExportFile.declared.tree.ExportClass.{ExportClass}
use Rattle.cjc_world.specs.ExportFile.declared.tree.ExportTree.{ExportTree}
use Rattle.cjc_check_rules.specs.declared.spot.ComponentPlace.{ComponentPlace}
use Rattle.cjc_check_rules.specs.Complete.{Complete, described_size}
use Rattle.cjc_check_rules.specs.Described.{all_starts, class_spots, classes_in_order, is_start_of}
use Rattle.cjc_check_rules.specs.Spots.{in_info, numbered, placed, starts, unless}
use Rattle.cjc_world.specs.declared.image.StaticImage.{StaticImage}
use Rattle.cjc_world.specs.Classes as world
use Rattle.cjc_world.specs.Files.{Files}
use Rattle.cjc_world.specs.Order.{class_order}
use Rattle.cjc_card_semantics.specs.Machine.Classes.{Class, External, Info, IsClass, IsInterface, Own, class_named}
use Rattle.cjc_card_semantics.specs.Machine.Classes.{class_of, external}
use Rattle.cjc_card_semantics.specs.Machine.Classes.{external_from, external_named, imported_class, info_at, info_of}
use Rattle.cjc_card_semantics.specs.Machine.Classes.{info_size, is_there, number_from, number_named, offset_from}
use Rattle.cjc_card_semantics.specs.Machine.Classes.{or_else}
use Rattle.cjc_card_semantics.specs.Machine.Classes.{own_from, token_named, where_there, with_token}
use Rattle.cjc_card_semantics.specs.Machine.Loaded.{ClassNames, Loaded, OfFile, Part}
use Rattle.cjc_card_acts.specs.CardTypes.{class_by}
use Rattle.cjc_components.specs.Names.{ref_to}
use Rattle.cjc_components.specs.Paired.Naming.{class_names, files_from, part_of}
use Rattle.cjc_components.specs.Types.{ref_nibbles}
use Rattle.cjc_tokens.specs.Tokens.{Assigned, assigned}
use Rattle.cjc_verify.specs.Infos.{infos}
use Rattle.cjc_verify.specs.Pairs.{Pair, class_ref, pair_of}
use Rattle.cjc_verify.specs.Pairs as pairs
use Rattle.cjc_verified_proof.specs.Entries.{AreCounted, AreRefs, IsRef}
use Rattle.cjc_bytes.proofs.Gets.{get_below, get_inside}
use Rattle.cjc_bytes.proofs.Lists.{none_left, none_right}
use Rattle.cjc_bytes.proofs.Numbers.{number_same, number_same_number, other_number}
use Rattle.cjc_bytes.proofs.Plain.{same_some}
use Rattle.cjc_tokens.proofs.Facts.{position-cons}
use Rattle.cjc_verify.proofs.CardLinkInfoPlaces.{all_starts as starts_of_infos}
use Rattle.cjc_verified_proof.proofs.EntryLaws.{unless_holds}
use Rattle.cjc_verified_proof.proofs.PlaceLaws.{all_read, import_there}

-- ---- infos by number

pub starts_read : (at : ℕ) (is : List Info) (n : ℕ) → slice_get (starts info_size at is) n ≡ offset_from at is n
unfolding placed
starts_read at [] n = refl
starts_read at (i ∷ is) zero = refl
starts_read at (i ∷ is) (suc n) = starts_read (at + info_size i) is n

not_before : (at : ℕ) (is : List Info) (n offset : ℕ) → offset_from at is n ≡ Some offset → at ≤ offset
not_before at [] n offset e = absurd cc
not_before at (i ∷ is) zero offset e = let same = same_some e in omega (arith, same)
not_before at (i ∷ is) (suc n) offset e = let low = not_before (at + info_size i) is n offset e in omega (arith, low)

-- an info stands where one begins
info_begins : (at : ℕ) (is : List Info) (n offset : ℕ) → offset_from at is n ≡ Some offset
    → (i : Info) × (option_and_then (slice_get is) (number_from at is offset) ≡ Some i)
info_begins at [] n offset e = absurd cc
info_begins at (i ∷ is) zero offset e = (
  i,
  ap (λ b. option_and_then (slice_get (i ∷ is)) (if b then Some 0 else option_map suc (number_from (at + info_size i) is
      offset))) (number_same_number at offset (same_some e)),
)
info_begins at (i ∷ is) (suc n) offset e = by (at == offset) (info_begins (at + info_size i) is n offset e)
  where
    later : (o : Option ℕ) → option_and_then (slice_get (i ∷ is)) (option_map suc o) ≡ option_and_then (slice_get is) o
    later None = refl
    later (Some k) = refl

    by : (b : Bool) → (j : Info) × (option_and_then (slice_get is) (number_from (at + info_size i) is offset) ≡ Some j)
        → (j : Info) × (option_and_then (slice_get (i ∷ is)) (if b then Some 0 else option_map suc (number_from (at
        + info_size i) is offset)) ≡ Some j)
    by true r = (i, refl)
    by false r = (r.0, later (number_from (at + info_size i) is offset) ∙ r.1)

infos_have_bytes : (i : Info) → 0 < info_size i
infos_have_bytes (IsInterface i) = omega arith
infos_have_bytes (IsClass c) = omega arith

-- the number of an info's offset
pub number_back : (at : ℕ) (is : List Info) (k offset : ℕ) → offset_from at is k ≡ Some offset
    → number_from at is offset
    ≡ Some k
number_back at [] k offset e = absurd cc
number_back at (i ∷ is) zero offset e = ap (λ b. if b then Some 0 else option_map suc (number_from (at + info_size i) is
    offset)) (number_same_number at offset (same_some e))
number_back at (i ∷ is) (suc k) offset e =
    let low = not_before (at + info_size i) is k offset e in
    let some = infos_have_bytes i in
    ap (λ b. if b then Some 0 else option_map suc (number_from (at + info_size i) is offset))
    (other_number at offset (λ same. omega (arith, low, some, same)))
    ∙ ap (option_map suc) (number_back (at + info_size i) is k offset e)

-- none stands before the first
pub none_before : (at : ℕ) (is : List Info) (offset : ℕ) → offset < at → number_from at is offset ≡ None
none_before at [] offset lt = refl
none_before at (i ∷ is) offset lt =
    ap (λ b. if b then Some 0 else option_map suc (number_from (at + info_size i) is offset))
    (other_number at offset (λ e. omega (arith, lt, e)))
    ∙ ap (option_map suc) (none_before (at + info_size i) is offset (omega (arith, lt)))

-- ---- classes by name

named_place : (files : Files) (a : Assigned) (cs : List world.Class) (name : List ℕ)
    → number_named (map (class_names files a) cs) name ≡ position (λ (c : world.Class). bytes_eq c.name name) cs
named_place files a [] name = refl
named_place files a (c ∷ cs) name = by (bytes_eq c.name name) (named_place files a cs name)
    ∙ sym (position-cons (λ (c : world.Class). bytes_eq c.name name) c cs)
  where
    by : (b : Bool) → number_named (map (class_names files a) cs) name ≡ position (λ (c : world.Class).
        bytes_eq c.name name) cs → (if b then Some 0 else option_map suc (number_named (map (class_names files a) cs)
        name)) ≡ (if b then Some 0 else option_map suc (position (λ (c : world.Class). bytes_eq c.name name) cs))
    by true e = refl
    by false e = ap (option_map suc) e

-- a class of export files by its name
record IsListed (k : ℕ) (trees : List ExportTree) (name : List ℕ) (class : Class) : Type 0 where
  place : ℕ
  tree : ExportTree
  token : ℕ
  there : slice_get trees place ≡ Some tree
  named : token_named tree.classes name ≡ Some token
  is : class ≡ External (k + place) token

listed_there : (k : ℕ) (trees : List ExportTree) (name : List ℕ) (class : Class) → external_from k trees name
    ≡ Some class → IsListed k trees name class
listed_there k [] name class e = absurd cc
listed_there k (t ∷ trees) name class e = by (token_named t.classes name) refl e (listed_there (k + 1) trees name class)
  where
    by : (o : Option ℕ) → token_named t.classes name ≡ o → or_else (option_map (External k) o) (external_from (k + 1)
        trees name) ≡ Some class → (external_from (k + 1) trees name ≡ Some class → IsListed (k + 1) trees name class)
        → IsListed k (t ∷ trees) name class
    by None f g more =
        let r = more g in
        record {
          place = suc r.place;
          tree = r.tree;
          token = r.token;
          there = r.there;
          named = r.named;
          is = r.is ∙ (let z : k + 1 + r.place ≡ k + suc r.place = omega arith in ap (λ n. External n r.token) z);
        }
    by (Some token) f g more = record {
      place = 0;
      tree = t;
      token = token;
      there = refl;
      named = f;
      is = sym (same_some g) ∙ (let z : k ≡ k + 0 = omega arith in ap (λ n. External n token) z);
    }

-- the token of a name is that of a class
record HasToken (cs : List ExportClass) (token : ℕ) : Type 0 where
  place : ℕ
  class : ExportClass
  there : slice_get cs place ≡ Some class
  is : class.token ≡ token
  found : is_some (with_token cs token) ≡ true

token_there : (cs : List ExportClass) (name : List ℕ) (token : ℕ) → token_named cs name ≡ Some token
    → HasToken cs token
token_there [] name token e = absurd cc
token_there (c ∷ cs) name token e = by (bytes_eq c.name name) e (token_there cs name token)
  where
    found : (b : Bool) → is_some (with_token cs token) ≡ true → is_some (if b then Some c else with_token cs token)
        ≡ true
    found true f = refl
    found false f = f

    by : (b : Bool) → (if b then Some c.token else token_named cs name) ≡ Some token
        → (token_named cs name ≡ Some token → HasToken cs token) → HasToken (c ∷ cs) token
    by true f more = record {
      place = 0;
      class = c;
      there = refl;
      is = same_some f;
      found = ap (λ b. is_some (if b then Some c else with_token cs token)) (number_same_number c.token token
          (same_some f));
    }
    by false f more =
        let r = more f in
        record {
          place = suc r.place;
          class = r.class;
          there = r.there;
          is = r.is;
          found = found (c.token == token) r.found;
        }

-- what is tested of items with their numbers
numbered_none : {A : Type 0} (size : A → ℕ) (broken : (number at : ℕ) → A → List ComponentPlace) (n at : ℕ)
    (xs : List A)
    → numbered size broken n at xs ≡ [] → (k : ℕ) (x : A) → slice_get xs k ≡ Some x
    → (place : ℕ) × (broken (n + k) place x ≡ [])
unfolding numbered
numbered_none {A} size broken n at [] e k x f = absurd cc
numbered_none {A} size broken n at (y ∷ xs) e zero x f = (
  at,
  (let z : n + 0 ≡ n = omega arith in ap (λ m. broken m at x) z ∙ ap (broken n at) (sym (same_some f))
      ∙ none_left (broken n at y) (numbered size broken (n + 1) (at + size y) xs) e),
)
numbered_none {A} size broken n at (y ∷ xs) e (suc k) x f =
    let r = numbered_none size broken (n + 1) (at + size y) xs (none_right (broken n at y) (numbered size broken (n + 1)
    (at + size y) xs) e) k x f in
    let z : n + 1 + k ≡ n + suc k = omega arith in
    (r.0, ap (λ m. broken m r.0 x) (sym z) ∙ r.1)

inside_is : (r : ClassRef) (offset : ℕ) → is_inside r offset ≡ true → r ≡ Inside offset
inside_is (Inside o) offset e = ap (λ n. Inside n) (number_same o offset e)
inside_is (Outside import class) offset e = absurd cc

-- Descriptor has the classes of Class in order
pub holder_is : (c : Complete) → (let d = c.descriptor in classes_in_order d.classes (all_starts c.class)) ≡ [] →
    (k : ℕ)
    (d : ClassDescriptor) → slice_get (let x = c.descriptor in x.classes) k ≡ Some d
    → (offset : ℕ) × (slice_get (all_starts c.class) k ≡ Some offset) × (d.this_class ≡ Inside offset)
holder_is c clean k d e =
    let x = c.descriptor in
    let first = numbered described_size (class_spots (all_starts c.class)) 0 1 x.classes in
    let many = unless (nat_le (length (all_starts c.class)) (length x.classes)) (in_info 11 0) in
    let r = numbered_none described_size (class_spots (all_starts c.class)) 0 1 x.classes
    (none_left first many clean) k d e
    in
    let z : 0 + k ≡ k = omega arith in
    let t = ap (λ n. is_start_of (slice_get (all_starts c.class) n) d.this_class) (sym z) ∙ unless_holds
    (is_start_of (slice_get (all_starts c.class) (0 + k)) d.this_class) (in_info 11 (r.0 + 2)) r.1 in
    by (slice_get (all_starts c.class) k) refl t
  where
    by : (o : Option ℕ) → slice_get (all_starts c.class) k ≡ o → is_start_of o d.this_class ≡ true
        → (offset : ℕ) × (slice_get (all_starts c.class) k ≡ Some offset) × (d.this_class ≡ Inside offset)
    by None f g = absurd cc
    by (Some offset) f g = (offset, f, inside_is d.this_class offset g)

-- each class of Class is one of Descriptor
pub holder_there : (c : Complete) → (let d = c.descriptor in classes_in_order d.classes (all_starts c.class)) ≡ []
    → (k offset : ℕ) → slice_get (all_starts c.class) k ≡ Some offset → (d : ClassDescriptor)
    × (slice_get (let x = c.descriptor in x.classes) k ≡ Some d) × (d.this_class ≡ Inside offset)
holder_there c clean k offset e =
    let x = c.descriptor in
    let first = numbered described_size (class_spots (all_starts c.class)) 0 1 x.classes in
    let many = unless (nat_le (length (all_starts c.class)) (length x.classes)) (in_info 11 0) in
    let le = leb-true (length (all_starts c.class)) (length x.classes) (unless_holds (nat_le (length
    (all_starts c.class))
    (length x.classes)) (in_info 11 0) (none_right first many clean)) in
    let lt = get_below (all_starts c.class) k offset e in
    let d = get_inside x.classes k (omega (arith, le, lt)) in
    let h = holder_is c clean k d.0 d.1 in
    (d.0, d.1, h.2 ∙ ap (λ n. Inside n) (same_some (sym h.1 ∙ e)))

module _ (applets : Bool) (files : Files) (image : StaticImage) (c : Complete)
    (ordered : (let d = c.descriptor in classes_in_order d.classes (all_starts c.class)) ≡ []) (refs : AreRefs c)
    (counted : AreCounted files) where
  abbrev p : Pair
  p = pair_of applets files image c

  abbrev l : Loaded
  l = p.loaded

  abbrev part : Part
  part = part_of applets files image c

  -- infos begin below 32768
  pub starts_low : (k offset : ℕ) → slice_get (all_starts c.class) k ≡ Some offset → offset < 2 ^ 15
  starts_low k offset e =
      let d = holder_there c ordered k offset e in
      subst IsRef d.2 (refs.holders k d.0 d.1)

  -- the class of the package of a name
  abbrev own : (name : List ℕ) → Option Class
  own name = option_map (Own 0) (pairs.offset_of p name)

  own_same : (name : List ℕ) → own_from 0 (part ∷ []) name ≡ own name
  own_same name =
      ap (λ o. or_else (option_and_then (λ n. option_map (Own 0) (offset_from 2 (infos c.class) n)) o) None)
      (named_place files (assigned applets files) (class_order (world.all_classes files)) name)
      ∙ by (position (λ (x : world.Class). bytes_eq x.name name) (class_order (world.all_classes files)))
    where
      else_none : (o : Option Class) → or_else o None ≡ o
      else_none None = refl
      else_none (Some x) = refl

      at : (n : ℕ) → offset_from 2 (infos c.class) n ≡ slice_get (pairs.starts p) n
      at n = sym (starts_read 2 (infos c.class) n) ∙ sym (ap (λ (xs : List ℕ). slice_get xs n)
          (starts_of_infos c.class))

      by : (o : Option ℕ) → or_else (option_and_then (λ n. option_map (Own 0) (offset_from 2 (infos c.class) n)) o) None
          ≡ option_map (Own 0) (option_and_then (slice_get (pairs.starts p)) o)
      by None = refl
      by (Some n) = else_none (option_map (Own 0) (offset_from 2 (infos c.class) n)) ∙ ap (option_map (Own 0)) (at n)

  -- an own class is meant by its offset
  pub own_meant : (k offset : ℕ) → slice_get (pairs.starts p) k ≡ Some offset → class_of l 0 (Inside offset)
      ≡ Some (Own 0 offset)
  own_meant k offset e =
      let i = info_begins 2 (infos c.class) k offset (sym (starts_read 2 (infos c.class) k)
      ∙ sym (ap (λ (xs : List ℕ). slice_get xs k) (starts_of_infos c.class)) ∙ e) in
      ap (λ b. if b then Some (Own 0 offset) else None) (ap is_some i.1)

  -- an imported class is meant by its tokens
  pub record IsMeant (class : Class) : Type 0 where
    pub ref : IsRef (ref_to class)
    pub meant : class_of l 0 (ref_to class) ≡ Some class

  pub imported_meant : (name : List ℕ) (class : Class) → external_from 0 files.exports name ≡ Some class → IsMeant class
  imported_meant name class e =
      let r = listed_there 0 files.exports name class e in
      let t = token_there (let x = r.tree in x.classes) name r.token r.named in
      let z : 0 + r.place ≡ r.place = omega arith in
      let is : class ≡ External r.place r.token = r.is ∙ ap (λ n. External n r.token) z in
      let few = counted.few in
      let lt = get_below files.exports r.place r.tree r.there in
      let low = counted.tokens r.place r.tree r.there t.place t.class t.there in
      let same = t.is in
      let import = import_there 0 files.exports r.place r.tree r.there ∙ ap (λ n. Some (OfFile n)) z in
      let there : is_there l (External r.place r.token) ≡ true = ap (λ o. is_some (option_and_then (λ (x : ExportTree).
      with_token x.classes r.token) o)) r.there ∙ t.found in
      subst IsMeant (sym is) (record {
        ref = (omega (arith, few, lt), omega (arith, low, same));
        meant = ap (option_and_then (imported_class l r.token)) import
            ∙ ap (λ b. if b then Some (External r.place r.token) else None) there;
      })

  -- what nibbles say of a class_ref is the class of the name
  pub names_meant : (name : List ℕ) → class_by l (ref_nibbles (class_ref p name)) ≡ class_named l name
  names_meant name = by (pairs.offset_of p name) refl ∙ sym (ap (λ o. or_else o (external_named l name))
      (own_same name))
    where
      of_own : (offset : ℕ) → (o : Option ℕ) → option_and_then (slice_get (pairs.starts p)) o ≡ Some offset
          → class_by l (ref_nibbles (Inside offset)) ≡ Some (Own 0 offset)
      of_own offset None e = absurd cc
      of_own offset (Some k) e = all_read l (Inside offset) (starts_low k offset e) ∙ own_meant k offset e

      of_none : class_by l (ref_nibbles (Inside 0)) ≡ None
      of_none = all_read l (Inside 0) (omega arith) ∙ ap (λ (o : Option ℕ). where_found (option_and_then
          (slice_get (infos c.class)) o)) (none_before 2 (infos c.class) 0 (omega arith))
        where
          where_found : Option Info → Option Class
          where_found o = if is_some o then Some (Own 0 0) else None

      of_imported : (o : Option Class) → external_from 0 files.exports name ≡ o
          → class_by l (ref_nibbles (ref_to (unwrap_or o (Own 0 0)))) ≡ o
      of_imported None e = of_none
      of_imported (Some class) e = let m = imported_meant name class e in all_read l (ref_to class) m.ref ∙ m.meant

      by : (o : Option ℕ) → pairs.offset_of p name ≡ o
          → class_by l (ref_nibbles (ref_to (unwrap_or (or_else (option_map (Own 0) (pairs.offset_of p name))
          (external_from 0 files.exports name)) (Own 0 0)))) ≡ or_else (option_map (Own 0) (pairs.offset_of p name))
          (external_from 0 files.exports name)
      by None e = ap (λ o. class_by l (ref_nibbles (ref_to (unwrap_or (or_else (option_map (Own 0) o) (external_from 0
          files.exports name)) (Own 0 0))))) e ∙ of_imported (external_from 0 files.exports name) refl
          ∙ sym (ap (λ o. or_else (option_map (Own 0) o) (external_from 0 files.exports name)) e)
      by (Some offset) e = ap (λ o. class_by l (ref_nibbles (ref_to (unwrap_or (or_else (option_map (Own 0) o)
          (external_from 0 files.exports name)) (Own 0 0))))) e
          ∙ of_own offset (position (λ (x : world.Class). bytes_eq x.name name) (class_order (pairs.world p))) e
          ∙ sym (ap (λ o. or_else (option_map (Own 0) o) (external_from 0 files.exports name)) e)
