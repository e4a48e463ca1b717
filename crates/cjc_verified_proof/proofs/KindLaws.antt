-- Classes on the card by their names: each class of an export file, and each one of the package, is that of a name,
-- and a
-- class over superclasses of another is so on the card.
use Rattle.std.proofs.Common.{◌≡◌, [], ◌⊎◌, inl, inr, ℕ, zero, suc, ◌+◌, ◌<◌, ◌==◌, Bool, true, false, List, ◌∷◌, ◌++◌}
use Rattle.std.proofs.Common.{length, slice_get, Option, Some, None, refl, sym, ap, subst, ◌∙◌, arith, nat_lt}
use Rattle.std.specs.Prelude.{◌&&◌, ◌||◌, not, if◌then◌else◌, is_some, option_and_then, option_map, option_to_list}
use Rattle.std.specs.Prelude.{position}
use Rattle.std.specs.Prelude.{unwrap_or}
use Rattle.cjc_bytes.specs.AccessFlags.{is_interface}
use Rattle.cjc_check_rules.specs.Complete.{Complete}
use Rattle.cjc_world.specs.ExportFile.declared.tree.ExportClass.{ExportClass}
use Rattle.cjc_world.specs.ExportFile.declared.tree.ExportTree.{ExportTree}
use Rattle.cjc_verify.specs.List.Listed.{ListTree}
use Rattle.cjc_world.specs.declared.image.StaticImage.{StaticImage}
use Rattle.cjc_world.specs.Classes.{Class, all_classes, class_named, imported}
use Rattle.cjc_world.specs.Files.{Files}
use Rattle.cjc_world.specs.Lookup.{object}
use Rattle.cjc_world.specs.Order.{class_order}
use Rattle.cjc_world.specs.Subtype.{is_subclass, is_subtype, starts as begins}
use Rattle.cjc_world.specs.Supertypes.{Above, Lists, after, directly, foremost, onwards, stands, supertypes}
use Rattle.cjc_world.proofs.Subtypes.{reaches}
use Rattle.cjc_token_proof.specs.VTable.Laws.{Under, below, itself}
use Rattle.cjc_verify.specs.Subset.Members.{imports}
use Rattle.cjc_components.proofs.VTableFiled.{get-has}
use Rattle.cjc_card_semantics.specs.Script.Sorts.{Shape, OfClass, OfNumbers, OfReferences}
use Rattle.cjc_card_semantics.specs.Machine.Classes.{Own, External, external, external_from, infos, is_interface_file}
use Rattle.cjc_card_semantics.specs.Machine.Classes.{is_kind_of, is_of, object_class, or_else, shape_class, with_token}
use Rattle.cjc_card_semantics.specs.Machine.Classes as card
use Rattle.cjc_card_semantics.specs.Machine.Loaded.{Loaded}
use Rattle.cjc_card_acts.specs.CardTypes.{both_of}
use Rattle.cjc_token_proof.specs.NCode.Lowering.Naming.{Naming}
use Rattle.cjc_components.specs.Package.{Package}
use Rattle.cjc_components.specs.Paired.Pairs.{ArePaired}
use Rattle.cjc_token_proof.specs.ByToken.Supers.{KindsAgree, SaysKinds}
use Rattle.cjc_token_proof.specs.Tables.Sound.{IsSound}
use Rattle.cjc_verify.specs.Named.{is_unmade, is_unmade_class}
use Rattle.cjc_verify.specs.Pairs.{Pair, class_at, pair_of}
use Rattle.cjc_verify.specs.Pairs as pairs
use Rattle.cjc_verify.specs.Verified.{IsVerified}
use Rattle.cjc_verify_proof.specs.Frames.{Program}
use Rattle.cjc_verify_proof.specs.Turns.{IsMade}
use Rattle.cjc_verified_proof.specs.Programs.{IsProgramOf}
use Rattle.cjc_bytes.proofs.Bools.{and_true, not_true}
use Rattle.cjc_bytes.proofs.Gets.{get_behind, get_below, in_front, position_there}
use Rattle.cjc_bytes.proofs.Numbers.{number_same}
use Rattle.cjc_bytes.proofs.Plain.{same_some}
use Rattle.cjc_token_proof.proofs.ByToken.Subtypes.{kinds_agree}
use Rattle.cjc_token_proof.proofs.TablesLaws.Above.{entry_of_name, info_of_name}
use Rattle.cjc_token_proof.proofs.TablesLaws.Clean.{own_name}
use Rattle.cjc_token_proof.proofs.TablesLaws.Filed.{import_in}
use Rattle.cjc_token_proof.proofs.TablesLaws.Order.{order_in, own_names}
use Rattle.cjc_token_proof.proofs.WrittenCalls.Facts.{Facts}
use Rattle.cjc_verified_proof.proofs.InfoLaws.{as_many}
use Rattle.cjc_verified_proof.proofs.NameLaws.{starts_read}
use Rattle.cjc_verified_proof.proofs.NamingLaws.{class_same, kinds, n as names, q as written}
use Rattle.cjc_verify.proofs.CardLinkInfoPlaces.{all_starts as starts_of_infos}

-- ---- classes of export files by their places

-- the classes of the files before one
front : List ExportTree → ℕ → ℕ
front [] i = 0
front (t ∷ ts) zero = 0
front (t ∷ ts) (suc i) = length t.classes + front ts i

at_place : (ts : List ExportTree) (i a : ℕ) (t : ExportTree) (e : ExportClass) → slice_get ts i ≡ Some t
    → slice_get t.classes a ≡ Some e → slice_get (imports ts) (front ts i + a) ≡ Some e
unfolding front
at_place [] i a t e f g = cc
at_place (u ∷ ts) zero a t e f g =
    let z : 0 + a ≡ a = omega arith in
    ap (slice_get (u.classes ++ imports ts)) z ∙ in_front u.classes (imports ts) a e (ap (λ (x : ExportTree).
    slice_get x.classes a) (same_some f) ∙ g)
at_place (u ∷ ts) (suc i) a t e f g =
    let z : length u.classes + front ts i + a ≡ length u.classes + (front ts i + a) = omega arith in
    ap (slice_get (u.classes ++ imports ts)) z ∙ get_behind u.classes (imports ts) (front ts i + a) ∙ at_place ts i a
    t e f
    g

one_place : (ts : List ExportTree) (i j a b : ℕ) (t u : ExportTree) (e f : ExportClass) → slice_get ts i ≡ Some t
    → slice_get ts j ≡ Some u → slice_get t.classes a ≡ Some e → slice_get u.classes b ≡ Some f
    → front ts i + a ≡ front ts j + b → (i ≡ j) × (a ≡ b)
unfolding front
one_place [] i j a b t u e f g h k l s = cc
one_place (x ∷ ts) zero zero a b t u e f g h k l s = (refl, omega (arith, s))
one_place (x ∷ ts) zero (suc j) a b t u e f g h k l s =
    let lt = get_below t.classes a e k in
    let same = ap (λ (y : ExportTree). length y.classes) (same_some g) in
    absurd (omega (arith, lt, same, s))
one_place (x ∷ ts) (suc i) zero a b t u e f g h k l s =
    let lt = get_below u.classes b f l in
    let same = ap (λ (y : ExportTree). length y.classes) (same_some h) in
    absurd (omega (arith, lt, same, s))
one_place (x ∷ ts) (suc i) (suc j) a b t u e f g h k l s =
    let r = one_place ts i j a b t u e f g h k l (omega (arith, s)) in
    (ap suc r.0, r.1)

-- a class by its token
token_there : (cs : List ExportClass) (token : ℕ) (e : ExportClass) → with_token cs token ≡ Some e → (k : ℕ)
    × (slice_get cs k ≡ Some e) × (e.token ≡ token)
token_there [] token e f = cc
token_there (c ∷ cs) token e f = by (c.token == token) refl f (token_there cs token e)
  where
    by : (b : Bool) → (c.token == token) ≡ b → (if b then Some c else with_token cs token) ≡ Some e
        → (with_token cs token ≡ Some e → (k : ℕ) × (slice_get cs k ≡ Some e) × (e.token ≡ token)) → (k : ℕ)
        × (slice_get (c ∷ cs) k ≡ Some e) × (e.token ≡ token)
    by true is g rest = (0, g, ap (λ (x : ExportClass). x.token) (sym (same_some g)) ∙ number_same c.token token is)
    by false is g rest = let r = rest g in (suc r.0, r.1, r.2)

-- a class of export files: its file and its place there
record IsThere (ts : List ExportTree) (tree token : ℕ) (e : ExportClass) : Type 0 where
  file : ExportTree
  in_list : slice_get ts tree ≡ Some file
  place : ℕ
  in_file : slice_get file.classes place ≡ Some e
  token_is : e.token ≡ token

is_there : (ts : List ExportTree) (tree token : ℕ) (e : ExportClass) → option_and_then (λ (t : ExportTree).
    with_token t.classes token) (slice_get ts tree) ≡ Some e → IsThere ts tree token e
is_there ts tree token e f = by (slice_get ts tree) refl f
  where
    by : (o : Option ExportTree) → slice_get ts tree ≡ o → option_and_then (λ (t : ExportTree). with_token t.classes
        token)
        o ≡ Some e → IsThere ts tree token e
    by None g h = cc
    by (Some t) g h =
        let r = token_there t.classes token e h in
        record { file = t; in_list = g; place = r.0; in_file = r.1; token_is = r.2 }

-- ---- what stands above, by name

lists_front : (y : List ℕ) (xs ys : List (List ℕ)) → Lists y xs → Lists y (xs ++ ys)
lists_front y (x ∷ xs) ys foremost = foremost
lists_front y (x ∷ xs) ys (after l) = after (lists_front y xs ys l)
lists_front y [] ys l = elim l [ ]

pub under_above : (w : List Class) (x y : List ℕ) → Under w x y → (x ≡ y) ⊎ Above w x y
under_above w x y itself = inl refl
under_above w x y (below {y = m} c e l rest) = by (under_above w m y rest)
  where
    by : (m ≡ y) ⊎ Above w m y → (x ≡ y) ⊎ Above w x y
    by (inl same) = inr (directly c e (subst (λ z. Lists z (c.supers ++ c.interfaces)) same (lists_front m c.supers
        c.interfaces l)))
    by (inr far) = inr (onwards c e (lists_front m c.supers c.interfaces l) far)

-- a class is of another that stands above it over superclasses
pub under_subtype : (w : List Class) (x y : List ℕ) → begins 91 x ≡ false → begins 91 y ≡ false → Under w x y
    → is_subtype w x y ≡ true
unfolding is_subtype is_subclass
under_subtype w x y no_x no_y under =
    ap (λ b. if b then (if begins 91 y then Rattle.cjc_world.specs.Subtype.is_element w
    (Rattle.cjc_world.specs.Subtype.element x) (Rattle.cjc_world.specs.Subtype.element y)
    else Rattle.cjc_world.specs.Subtype.array_is w y) else not (begins 91 y) && stands y (supertypes w (x ∷ []))) no_x
    ∙ ap (λ b. not b && stands y (supertypes w (x ∷ []))) no_y ∙ reaches w x y (under_above w x y under)

module _ (name : List ℕ) (list : ListTree) (files : Files) (image : StaticImage) (c : Complete)
    (sound : IsSound name files) (paired : ArePaired files image c)
    (verified : IsVerified (pair_of (nat_lt 0 (length list.applets)) files image c)) where
  abbrev p : Pair
  p = pair_of (nat_lt 0 (length list.applets)) files image c

  abbrev l : Loaded
  l = p.loaded

  abbrev w : List Class
  w = all_classes files

  abbrev q : Package
  q = written name list files image c sound paired verified

  abbrev n : Naming
  n = names name list files image c sound paired verified

  abbrev told : SaysKinds w n
  told = kinds name list files image c sound paired verified

  -- ---- classes of export files

  -- each has a name, which means it
  pub named_external : (tree token : ℕ) (e : ExportClass) → external l tree token ≡ Some e → (k : ℕ)
      × (class_named w e.name ≡ Some (imported k e)) × (n.class e.name ≡ External tree token)
  named_external tree token e there =
      let r = is_there files.exports tree token e there in
      let t = r.file in
      let k = front files.exports tree + r.place in
      let at = at_place files.exports tree r.place t e r.in_list r.in_file in
      let known = own_name name files sound (imported k e) (import_in files sound.classes sound.exports k e at) in
      let h = entry_of_name name q sound e.name (imported k e) known refl in
      let x = h.entry in
      let s = is_there files.exports h.file x.token x h.there in
      let u = s.file in
      let j = front files.exports h.file + s.place in
      let same_name : e.name ≡ x.name = ap (λ (v : Class). v.name) h.class in
      let other = own_name name files sound (imported j x) (import_in files sound.classes sound.exports j x (at_place
      files.exports h.file s.place u x s.in_list s.in_file)) in
      let both : imported k e ≡ imported j x = same_some (sym known ∙ ap (class_named w) same_name ∙ other) in
      let o = one_place files.exports tree h.file r.place s.place t u e x r.in_list s.in_list r.in_file s.in_file (ap
      (λ (v : Class). v.number) both) in
      let file_same : t ≡ u = same_some (sym r.in_list ∙ ap (slice_get files.exports) o.0 ∙ s.in_list) in
      let entry_same : e ≡ x = same_some (sym r.in_file ∙ ap (λ (v : ExportTree). slice_get v.classes r.place) file_same
      ∙ ap (slice_get u.classes) o.1 ∙ s.in_file) in
      let token_same : x.token ≡ token = ap (λ (v : ExportClass). v.token) (sym entry_same) ∙ r.token_is in (
        k,
        known,
        h.on_card ∙ ap (λ i. External i x.token) (sym o.0) ∙ ap (External tree) token_same,
      )

  -- ---- classes of the package

  -- a class of the package by its name, and where its info stands
  pub record Stands (k : Class) : Type 0 where
    pub number : ℕ
    pub offset : ℕ
    pub ordered : slice_get (class_order w) number ≡ Some k
    pub starts : slice_get (pairs.starts p) number ≡ Some offset
    pub on_card : n.class k.name ≡ Own 0 offset
    pub known : class_named w k.name ≡ Some k
    pub own : k.is_imported ≡ false

  ordered_stands : (i offset : ℕ) (k : Class) → slice_get (class_order w) i ≡ Some k → slice_get (pairs.starts p) i
      ≡ Some offset → Stands k
  ordered_stands i offset k ordered starts =
      let o = order_in name files sound k (get-has k (class_order w) i ordered) in
      let at : pairs.offset_of p k.name ≡ Some offset = ap (option_and_then (slice_get (pairs.starts p))) (own_names
      name
      files sound i k ordered) ∙ starts in
      record {
        number = i;
        offset = offset;
        ordered = ordered;
        starts = starts;
        on_card = sym (class_same name list files image c sound paired verified k.name) ∙ ap (λ z. unwrap_or (or_else
            (option_map (Own 0) z) (external_from 0 files.exports k.name)) (Own 0 0)) at;
        known = own_name name files sound k o.0;
        own = o.1;
      }

  pub ordered_at : (i offset : ℕ) (k : Class) → slice_get (class_order w) i ≡ Some k → slice_get (pairs.starts p) i
      ≡ Some offset → (s : Stands k) × (s.offset ≡ offset)
  unfolding ordered_stands
  ordered_at i offset k ordered starts = (ordered_stands i offset k ordered starts, refl)

  -- the class whose info stands at an offset
  pub at_stands : (offset : ℕ) (k : Class) → class_at p offset ≡ Some k → (s : Stands k) × (s.offset ≡ offset)
  at_stands offset k e = by (position (λ at. at == offset) (pairs.starts p)) refl e
    where
      by : (o : Option ℕ) → position (λ at. at == offset) (pairs.starts p) ≡ o
          → option_and_then (slice_get (class_order w)) o ≡ Some k → (s : Stands k) × (s.offset ≡ offset)
      by None f g = cc
      by (Some i) f g =
          let r = position_there (λ (at : ℕ). at == offset) (pairs.starts p) i f in
          let s = ordered_at i r.0 k g r.1 in
          (s.0, s.1 ∙ number_same r.0 offset r.2)

  some_start : (at : ℕ) (is : List card.Info) (i : ℕ) → i < length is → (offset : ℕ) × (card.offset_from at is i
      ≡ Some offset)
  some_start at [] i lt = absurd (omega (arith, lt))
  some_start at (x ∷ is) zero lt = (at, refl)
  some_start at (x ∷ is) (suc i) lt = some_start (at + card.info_size x) is i (omega (arith, lt))

  -- each class of the package
  pub own_stands : (x : List ℕ) (k : Class) → class_named w x ≡ Some k → k.is_imported ≡ false → Stands k
  own_stands x k e own =
      let h = info_of_name name q sound x k e own in
      let lt = get_below (class_order w) h.number k h.ordered in
      let many = as_many name (nat_lt 0 (length list.applets)) files image c sound paired verified in
      let s = some_start 2 (Rattle.cjc_verify.specs.Infos.infos c.class) h.number (omega (arith, lt, many)) in
      ordered_stands h.number s.0 k h.ordered (ap (λ (xs : List ℕ). slice_get xs h.number) (starts_of_infos c.class)
      ∙ starts_read 2 (Rattle.cjc_verify.specs.Infos.infos c.class) h.number ∙ s.1)

  -- ---- what is of what

  agree : KindsAgree w n
  agree = kinds_agree w n told

  pub no_array : (x : List ℕ) (k : Class) → class_named w x ≡ Some k → begins 91 x ≡ false
  no_array x k e = told.no_array x (ap is_some e)

  -- a class is of another that stands above it
  pub under_of : (x y : List ℕ) (k d : Class) → class_named w x ≡ Some k → class_named w y ≡ Some d → Under w x y
      → is_of l (OfClass (n.class x)) (OfClass (n.class y)) ≡ true
  under_of x y k d e f under = agree (OfClass x) (OfClass y) (ap is_some e) (ap is_some f) ∙ under_subtype w x y
      (no_array
      x k e) (no_array y d f) under

  -- and is by name what it is on the card
  pub of_subtype : (x y : List ℕ) (k d : Class) → class_named w x ≡ Some k → class_named w y ≡ Some d
      → is_of l (OfClass (n.class x)) (OfClass (n.class y)) ≡ true → is_subtype w x y ≡ true
  of_subtype x y k d e f is = sym (agree (OfClass x) (OfClass y) (ap is_some e) (ap is_some f)) ∙ is

  -- ---- things that are made

  -- a thing that is made counts as an object of a class, which is no interface, and of the package is not abstract
  pub record Receives (kind : Shape card.Class) : Type 0 where
    pub called : List ℕ
    pub class : Class
    pub known : class_named w called ≡ Some class
    pub plain : is_interface class.flags ≡ false
    pub concrete : class.is_imported ≡ false → is_unmade class.flags ≡ false
    pub on_card : shape_class l kind ≡ Some (n.class called)
    pub alike : (d : card.Class) → both_of l (Some kind) (Some (OfClass d)) ≡ is_of l (OfClass (n.class called))
        (OfClass d)

  unmade_parts : (a b : Bool) → (a || b) ≡ false → a ≡ false
  unmade_parts true b e = cc
  unmade_parts false b e = refl

  module _ (facts : Facts q) where
    array_receives : (kind : Shape card.Class) → shape_class l kind ≡ object_class l → ((d : card.Class)
        → is_of l kind (OfClass d) ≡ card.is_object l d) → Receives kind
    array_receives kind as_object is =
        let o = facts.object_class in
        record {
          called = object;
          class = o.0;
          known = o.1;
          plain = o.3;
          concrete = λ own. (let clash : false ≡ true = sym own ∙ o.2 in absurd cc);
          on_card = as_object ∙ told.object_class;
          alike = λ d. (is d ∙ ap (λ o. Rattle.std.specs.List.list_any (λ c. is_kind_of l c d) (option_to_list o))
              told.object_class ∙ only (is_kind_of l (n.class object) d));
        }
      where
        only : (b : Bool) → (b || false) ≡ b
        only true = refl
        only false = refl

    pub made_receives : (program : Program) → IsProgramOf p program → (kind : Shape card.Class) → IsMade program kind
        → Receives kind
    made_receives program of (OfNumbers element) made = array_receives (OfNumbers element) refl (λ d. refl)
    made_receives program of (OfReferences x) made = array_receives (OfReferences x) refl (λ d. refl)
    made_receives program of (OfClass (External tree token)) made = by (external l tree token) refl (not_true
        (card.is_interface l (External tree token)) (sym (ap (λ f. f (External tree token)) of.made) ∙ made))
      where
        by : (o : Option ExportClass) → external l tree token ≡ o → is_interface_file o ≡ false
            → Receives (OfClass (External tree token))
        by None f g = cc
        by (Some e) f g =
            let r = named_external tree token e f in
            record {
              called = e.name;
              class = imported r.0 e;
              known = r.1;
              plain = g;
              concrete = λ own. absurd cc;
              on_card = ap (λ x. Some x) (sym r.2);
              alike = λ d. ap (λ x. is_of l (OfClass x) (OfClass d)) (sym r.2);
            }
    made_receives program of (OfClass (Own part offset)) made =
        let two = and_true (part == 0) (not (is_unmade_class (class_at p offset))) (sym (ap (λ f. f (Own part offset))
        of.made) ∙ made) in
        by (class_at p offset) refl (not_true (is_unmade_class (class_at p offset)) two.1) (number_same part 0 two.0)
      where
        by : (o : Option Class) → class_at p offset ≡ o → is_unmade_class o ≡ false → part ≡ 0
            → Receives (OfClass (Own part offset))
        by None f g z = cc
        by (Some k) f g z =
            let r = at_stands offset k f in
            let s = r.0 in
            let same : Own part offset ≡ n.class k.name = ap (λ i. Own i offset) z ∙ ap (Own 0) (sym r.1) ∙ sym
            s.on_card
            in
            record {
              called = k.name;
              class = k;
              known = s.known;
              plain = unmade_parts (is_interface k.flags) _ g;
              concrete = λ own. g;
              on_card = ap (λ x. Some x) same;
              alike = λ d. ap (λ x. is_of l (OfClass x) (OfClass d)) same;
            }
