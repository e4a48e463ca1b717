-- What dispatch by class tables finds by a token is a token that Class and the export files have.
use Rattle.std.proofs.Common.{◌≡◌, ℕ, suc, ◌+◌, ◌-◌, ◌<◌, ◌==◌, refl, sym, ap, subst, ◌∙◌, arith, Bool, true, false}
use Rattle.std.proofs.Common.{List, [], ◌∷◌, ◌++◌, length, map, reverse, inl, inr, ⊎_elim}
use Rattle.std.specs.Prelude.{Option, Some, None, ◌⊎◌, nat_le, nat_lt, not, slice_get, unwrap_or, if◌then◌else◌}
use Rattle.std.proofs.lemmas.Bool.Decides.{nat_tests}
use Rattle.std.proofs.lemmas.List.{append-nil, length-map, length-reverse}
use Rattle.cjc_bytes.specs.AccessFlags.{is_interface}
use Rattle.cjc_bytes.proofs.Gets.{get_below}
use Rattle.cjc_capread.specs.declared.tree.ClassRef.TheVariants.{Inside}
use Rattle.cjc_capread.specs.declared.tree.ClassEntry.{ClassEntry}
use Rattle.cjc_check_rules.specs.Spots.{Placed}
use Rattle.cjc_check_rules.specs.Complete.{class_size}
use Rattle.cjc_check_rules.specs.Classes.{classes_at, first_class}
use Rattle.cjc_check_rules.specs.Members.{base_of, has_token, has_virtual, in_imported, place_of, table_of}
use Rattle.cjc_world.specs.declared.found.Found.{Found}
use Rattle.cjc_world.specs.Classes.{Class, class_named}
use Rattle.cjc_world.specs.Supertypes.{AreSupertypes, Supertypes, Lists, foremost, supertypes}
use Rattle.cjc_world.specs.Supertypes as supertype_trees
use Rattle.cjc_world.specs.Order.{in_order}
use Rattle.cjc_world.specs.Rules.{is_interface_of}
use Rattle.cjc_world.proofs.Cycles.{class_named-name}
use Rattle.cjc_tokens.proofs.Walks.{supertypes-known}
use Rattle.cjc_vtable.specs.declared.table.ClassTable.{ClassTable}
use Rattle.cjc_vtable.specs.Dispatch.{Exported, Info, dispatched, dispatched_hidden, held, tower_in, tower_of}
use Rattle.cjc_vtable.specs.Laws.{KeepsRules}
use Rattle.cjc_vtable.specs.Tables as tables
use Rattle.cjc_vtable.proofs.Filed.{get-has, has-get}
use Rattle.cjc_components.specs.Package.{Package, world}
use Rattle.cjc_components.specs.Class.{class_entry, superclass, table_entry}
use Rattle.cjc_components.specs.Methods.{method_offset}
use Rattle.cjc_components.specs.Names.{class_ref}
use Rattle.cjc_token_proof.specs.Components.Whole.{exports_of, whole}
use Rattle.cjc_check_proof.proofs.CodeLaws.Imported.{outside_has}
use Rattle.cjc_token_proof.specs.Tables.Sound.{IsSound}
use Rattle.cjc_token_proof.proofs.TablesLaws.Clean.{has_named, kept}
use Rattle.cjc_token_proof.proofs.TablesLaws.Filed.{one_class}
use Rattle.cjc_token_proof.proofs.TablesLaws.Lists.{right_supers}
use Rattle.cjc_token_proof.proofs.TablesLaws.Order.{kind-in, own_names}
use Rattle.cjc_check_proof.proofs.ClassesLaws.Earlier.{super_before}
use Rattle.cjc_check_proof.proofs.ClassesLaws.Leaving.{placed_at, turned}
use Rattle.cjc_check_proof.proofs.ClassesLaws.Lists.{get-map, starts_rise}
use Rattle.cjc_check_proof.proofs.ClassesLaws.Refs.{class_some, class_starts, info, own_ref}
use Rattle.cjc_check_proof.proofs.ClassesLaws.Supers.{in_place}
use Rattle.cjc_check_proof.proofs.ClassesLaws.There.{super_known}
use Rattle.cjc_check_proof.proofs.TokensLaws.Listed.{imported_has, is_outside}

some_of : (o : Option Class) → Rattle.std.specs.Prelude.is_some o ≡ true → (d : Class) × (o ≡ Some d)
some_of None e = absurd (cc)
some_of (Some d) e = (d, refl)

module _ (list : List ℕ) (p : Package) (sound : IsSound list p.files) (are_supertypes : (xs : List (List ℕ))
    → AreSupertypes (world p) xs (supertypes (world p) xs)) (one_supertypes : (xs : List (List ℕ)) (j k : Supertypes)
    → AreSupertypes (world p) xs j → AreSupertypes (world p) xs k → j ≡ k) (rules : KeepsRules (world p)) where
  abbrev w : List Class
  w = world p

  abbrev entry : Class → ClassEntry
  entry c = class_entry (class_ref p) p c

  abbrev items : List (Placed ClassEntry)
  items = classes_at (info p)

  -- ---- classes with the last first

  record IsPlace (n : ℕ) (q : Placed ClassEntry) : Type 0 where
    class : Class
    ordered : slice_get (in_order w false) n ≡ Some class
    is : q.item ≡ entry class
    start : slice_get (class_starts p) n ≡ Some q.at

  abbrev IsRun : List (Placed ClassEntry) → Type 0
  IsRun [] = Unit {0}
  IsRun (q ∷ all) = IsPlace (length all) q × IsRun all

  run_turned : (all before : List (Placed ClassEntry)) → IsRun before → ((k : ℕ) (q : Placed ClassEntry)
      → slice_get all k ≡ Some q → IsPlace (length before + k) q) → IsRun (reverse all ++ before)
  run_turned [] before run each = run
  run_turned (q ∷ all) before run each =
      let here : length before + 0 ≡ length before = omega arith in
      subst IsRun (sym (turned before all q))
      (run_turned all (q ∷ before) (
        subst (λ n. IsPlace n q) here (each 0 q refl),
        run,
      ) (λ k r e. (let next : length before + suc k ≡ suc (length before) + k = omega arith
      in subst (λ n. IsPlace n r) next (each (suc k) r e))))

  all_run : IsRun (reverse items)
  all_run = subst IsRun (append-nil (reverse items)) (run_turned items [] tt (λ k q e.
      let r = placed_at class_size (first_class (info p)) entry (in_order w false) k q e in
      let z : 0 + k ≡ k = omega arith in
      subst (λ n. IsPlace n q) (sym z) (record {
        class = r.0;
        ordered = r.1;
        is = r.2;
        start = get-map (λ (x : Placed ClassEntry). x.at) items k q e;
      })))

  -- ---- towers

  line_of_super : (c : Class) (super : List ℕ) → c.supers ≡ super ∷ [] → tower_in w (supertypes w c.supers)
      ≡ tower_of w super
  line_of_super c super e = ap (λ ns. tower_in w (supertypes w ns)) e

  tower_own : (x super : List ℕ) (c : Class) → class_named w x ≡ Some c → c.is_imported ≡ false → c.supers ≡ super ∷ []
      → tower_of w x ≡ Info (tables.table_of w c) (tower_of w super)
  tower_own x super c e own supers =
      ap (tower_in w) (supertypes-known w are_supertypes one_supertypes x c e)
      ∙ ap (λ b. if b then Exported (c ∷ supertype_trees.upwards (supertypes w c.supers))
      else Info (tables.table_of w c) (tower_in w (supertypes w c.supers))) own
      ∙ ap (Info (tables.table_of w c)) (line_of_super c super supers)

  tower_import : (x : List ℕ) (c : Class) → class_named w x ≡ Some c → c.is_imported ≡ true
      → tower_of w x ≡ Exported (c ∷ supertype_trees.upwards (supertypes w c.supers))
  tower_import x c e im =
      ap (tower_in w) (supertypes-known w are_supertypes one_supertypes x c e)
      ∙ ap (λ b. if b then Exported (c ∷ supertype_trees.upwards (supertypes w c.supers))
      else Info (tables.table_of w c) (tower_in w (supertypes w c.supers))) im

  -- ---- upwards

  -- an entry stands in the table, or the token is below the base
  abbrev InTable : ClassEntry → ℕ → Type 0
  InTable x token = (nat_le (base_of x token) (place_of token) ≡ true)
      × (nat_lt (place_of token - base_of x token) (length (table_of x token)) ≡ true)

  module _ (token : ℕ) (Finds : List ℕ → Type 0)
      (own_step : (x super : List ℕ) (c : Class) → class_named w x ≡ Some c → c.is_imported ≡ false → c.supers ≡ super
      ∷ [] → Finds x → InTable (entry c) token ⊎ ((nat_le (base_of (entry c) token) (place_of token) ≡ false)
      × Finds super))
      (outside : (x : List ℕ) (c : Class) → class_named w x ≡ Some c → c.is_imported ≡ true → is_interface c.flags
      ≡ false → Finds x → in_imported (exports_of p) (class_ref p x) token ≡ true) where
    outside_token : (all : List (Placed ClassEntry)) (x : List ℕ) (c : Class) → class_named w x ≡ Some c
        → c.is_imported ≡ true → is_interface c.flags ≡ false → Finds x → has_token all (exports_of p) (class_ref p x)
        token ≡ true
    outside_token all x c e im class_here finds =
        let o = is_outside list p sound are_supertypes rules x c e im in
        ap (λ q. has_token all (exports_of p) q token) o.2
        ∙ outside_has p all o.0 o.1 token
        ∙ ap (λ q. in_imported (exports_of p) q token) (sym o.2)
        ∙ outside x c e im class_here finds

    -- where the item is another's, what stands behind it is asked
    passed : (q : Placed ClassEntry) (all : List (Placed ClassEntry)) (s : ℕ) → (s == q.at) ≡ false
        → has_token all (exports_of p) (Inside s) token ≡ true → has_token (q ∷ all) (exports_of p) (Inside s) token
        ≡ true
    unfolding has_token
    passed q all s other rest =
        ap (λ b. if b then (if nat_le (base_of q.item token) (place_of token)
        then nat_lt (place_of token - base_of q.item token) (length (table_of q.item token))
        else has_token all (exports_of p) q.item.superclass token) else has_token all (exports_of p) (Inside s)
        token) other ∙ rest

    -- where it is its own, its table is, or its superclass
    own_item : (q : Placed ClassEntry) (all : List (Placed ClassEntry)) (c : Class) → q.item ≡ entry c
        → InTable (entry c) token ⊎ ((nat_le (base_of (entry c) token) (place_of token) ≡ false)
        × (has_token all (exports_of p) (class_ref p (superclass c)) token ≡ true))
        → has_token (q ∷ all) (exports_of p) (Inside q.at) token ≡ true
    unfolding has_token
    own_item q all c is either =
        let mine : (q.at == q.at) ≡ true = grind (arith, nat_tests) in
        ap (λ b. if b then (if nat_le (base_of q.item token) (place_of token)
        then nat_lt (place_of token - base_of q.item token) (length (table_of q.item token))
        else has_token all (exports_of p) q.item.superclass token) else has_token all (exports_of p) (Inside q.at)
        token) mine
        ∙ ap (λ (x : ClassEntry). if nat_le (base_of x token) (place_of token)
        then nat_lt (place_of token - base_of x token) (length (table_of x token))
        else has_token all (exports_of p) x.superclass token) is
        ∙ ⊎_elim
        (λ r. ap (λ b. if b then nat_lt (place_of token - base_of (entry c) token) (length (table_of (entry c) token))
        else has_token all (exports_of p) (class_ref p (superclass c)) token) r.0 ∙ r.1)
        (λ r. ap (λ b. if b then nat_lt (place_of token - base_of (entry c) token) (length (table_of (entry c) token))
        else has_token all (exports_of p) (class_ref p (superclass c)) token) r.0 ∙ r.1)
        either

    -- the superclass of a class, at a place before it or imported
    at_super : (all : List (Placed ClassEntry)) (k : ℕ) (c : Class) → slice_get (in_order w false) k ≡ Some c
        → (super : List ℕ) → c.supers ≡ super ∷ [] → Finds super
        → ((j : ℕ) → j < k → (d : Class) → slice_get (in_order w false) j ≡ Some d → Finds d.name
        → has_token all (exports_of p) (class_ref p d.name) token ≡ true)
        → has_token all (exports_of p) (class_ref p super) token ≡ true
    at_super all k c e super supers finds earlier = by d.0.is_imported refl
      where
        m : Rattle.cjc_vtable.proofs.Filed.Has c w × (c.is_imported ≡ false)
            × (Rattle.cjc_world.specs.Order.is_of_kind false c ≡ true)
        m = kind-in list p.files sound false c (get-has c (in_order w false) k e)

        listed : Lists super c.supers
        listed = subst (Lists super) (sym supers) foremost

        d : (d : Class) × (class_named w super ≡ Some d)
        d = some_of (class_named w super) (super_known list p sound c super m.0 m.1 supers)

        class_here : is_interface d.0.flags ≡ false
        class_here = let rule = right_supers w c (let u = kept list p.files sound c m.0 in u.supers)
            in sym (ap is_interface_of d.1) ∙ rule.supers super listed

        by : (b : Bool) → d.0.is_imported ≡ b → has_token all (exports_of p) (class_ref p super) token ≡ true
        by true f = outside_token all super d.0 d.1 f class_here finds
        by false f =
            let r = super_before w false d.0 super d.1 f (ap not class_here) k c e listed in
            let n = kind-in list p.files sound false r.1 (get-has r.1 (in_order w false) r.0 r.3) in
            let is : r.1 ≡ d.0 = one_class p.files sound.classes sound.exports r.1 d.0 n.0 (has_named w super d.0 d.1)
            (n.1 ∙ sym f) r.4 in
            let name : r.1.name ≡ super = ap (λ (v : Class). v.name) is ∙ class_named-name w super d.0 d.1 in
            subst (λ y. has_token all (exports_of p) (class_ref p y) token ≡ true) name (earlier r.0 r.2 r.1 r.3
            (subst Finds (sym name) finds))

    single : (k : ℕ) (c : Class) → slice_get (in_order w false) k ≡ Some c → (class_named w c.name ≡ Some c)
        × ((s : List ℕ) × (c.supers ≡ s ∷ []))
    single k c e =
        let m = kind-in list p.files sound false c (get-has c (in_order w false) k e) in
        let named = Rattle.cjc_token_proof.proofs.TablesLaws.Clean.own_name list p.files sound c m.0 in
        (named, rules.single c.name c named m.1)

    has : (all : List (Placed ClassEntry)) → IsRun all → (k : ℕ) → k < length all → (c : Class)
        → slice_get (in_order w false) k ≡ Some c → Finds c.name → has_token all (exports_of p) (class_ref p c.name)
        token ≡ true
    has [] run k lt c e finds = absurd (omega (arith, lt))
    has (q ∷ all) run k lt c e finds = by (nat_lt k (length all)) refl (has all run.1)
      where
        r : (s : ℕ) × (slice_get (class_starts p) k ≡ Some s) × (class_ref p c.name ≡ Inside s)
        r = own_ref p (own_names list p.files sound) k c e

        Rest : Type 0
        Rest = (j : ℕ) → j < length all → (d : Class) → slice_get (in_order w false) j ≡ Some d → Finds d.name
            → has_token all (exports_of p) (class_ref p d.name) token ≡ true

        by : (b : Bool) → nat_lt k (length all) ≡ b → Rest → has_token (q ∷ all) (exports_of p) (class_ref p c.name)
            token ≡ true
        by true f rest =
            let less : k < length all = grind (arith, nat_tests, f) in
            let up = starts_rise class_size (first_class (info p)) (map entry (in_order w false)) k (length all) r.0
            q.at class_some less r.1 run.0.start in
            let other : (r.0 == q.at) ≡ false = grind (arith, nat_tests, up) in
            ap (λ x. has_token (q ∷ all) (exports_of p) x token) r.2
            ∙ passed q all r.0 other (ap (λ x. has_token all (exports_of p) x token) (sym r.2)
            ∙ rest k less c e finds)
        by false f rest =
            let at : k ≡ length all = last k (length all) lt f in
            let one : Some c ≡ Some run.0.class = sym e ∙ ap (slice_get (in_order w false)) at ∙ run.0.ordered in
            let same : c ≡ run.0.class = cc in
            let two : Some r.0 ≡ Some q.at = sym r.1 ∙ ap (slice_get (class_starts p)) at ∙ run.0.start in
            let start : r.0 ≡ q.at = cc in
            let up = single k c e in
            let super : superclass c ≡ up.1.0 = ap (λ xs. unwrap_or (slice_get xs 0) []) up.1.1 in
            ap (λ x. has_token (q ∷ all) (exports_of p) x token) (r.2 ∙ ap Inside start)
            ∙ own_item q all c (run.0.is ∙ ap entry (sym same))
            (⊎_elim (λ h. inl h) (λ h. inr (
              h.0,
              ap (λ y. has_token all (exports_of p) (class_ref p y) token) super
                  ∙ at_super all k c e up.1.0 up.1.1 h.1 (λ j less d g u. rest j (omega (arith, less, at)) d g u),
            ))
            (own_step c.name up.1.0 c up.0 (kind-in list p.files sound false c (get-has c (in_order w false) k e)).1
            up.1.1 finds))
          where
            last : (k n : ℕ) → k < suc n → nat_lt k n ≡ false → k ≡ n
            last k n less g = grind (arith, nat_tests, less, g)

    pub token_there : (x : List ℕ) (c : Class) → class_named w x ≡ Some c → is_interface c.flags ≡ false → Finds x
        → has_virtual (whole p) (exports_of p) (class_ref p x) token ≡ true
    token_there x c e class_here finds = by c.is_imported refl
      where
        by : (b : Bool) → c.is_imported ≡ b → has_virtual (whole p) (exports_of p) (class_ref p x) token ≡ true
        by true f = outside_token (reverse items) x c e f class_here finds
        by false f =
            let k = has-get c (in_order w false) (in_place list p sound c false (has_named w x c e) f class_here) in
            let r = own_ref p (own_names list p.files sound) k.0 c k.1 in
            let few = get_below (class_starts p) k.0 r.0 r.1 in
            let long : length (class_starts p) ≡ length (reverse items) =
            length-map items (λ (q : Placed ClassEntry). q.at) ∙ sym (length-reverse items) in
            let name = class_named-name w x c e in
            subst (λ y. has_virtual (whole p) (exports_of p) (class_ref p y) token ≡ true) name
            (has (reverse items) all_run k.0 (omega (arith, few, long)) c k.1 (subst Finds (sym name) finds))

  -- ---- public and package-visible tokens

  below_or_at : (a b : ℕ) → nat_lt a b ≡ true → nat_le b a ≡ false
  below_or_at a b e = grind (arith, nat_tests, e)

  not_below : (a b : ℕ) → nat_lt a b ≡ false → nat_le b a ≡ true
  not_below a b e = grind (arith, nat_tests, e)

  inside : {A : Type 0} (xs : List A) (k : ℕ) (x : A) → slice_get xs k ≡ Some x → nat_lt k (length xs) ≡ true
  inside xs k x e = let lt = get_below xs k x e in grind (arith, nat_tests, lt)

  pub open_there : (x : List ℕ) (c : Class) → class_named w x ≡ Some c → is_interface c.flags ≡ false → (t : ℕ)
      → t < 128 → (f : Found) → dispatched (tower_of w x) t ≡ Some f
      → has_virtual (whole p) (exports_of p) (class_ref p x) t ≡ true
  open_there x c e class_here t low f finds = token_there t Finds step out x c e class_here (f, finds)
    where
      Finds : List ℕ → Type 0
      Finds y = (g : Found) × (dispatched (tower_of w y) t ≡ Some g)

      seven : nat_lt t 0x80 ≡ true
      seven = grind (arith, nat_tests, low)

      place : place_of t ≡ t
      place = ap (λ b. if b then t else t - 0x80) seven

      base : (c : Class) → base_of (entry c) t ≡ (let table = tables.table_of w c in table.public_base)
      base c = ap (λ b. if b then (let x = entry c in x.public_base) else (let x = entry c in x.package_base)) seven

      long : (c : Class) → length (table_of (entry c) t) ≡ (let table = tables.table_of w c in length table.public)
      long c = ap (λ b. length (if b then (let x = entry c in x.public_methods)
          else (let x = entry c in x.package_methods))) seven ∙ length-map (let table = tables.table_of w c
          in table.public) (table_entry p)

      step : (x super : List ℕ) (c : Class) → class_named w x ≡ Some c → c.is_imported ≡ false → c.supers ≡ super ∷ []
          → Finds x → InTable (entry c) t ⊎ ((nat_le (base_of (entry c) t) (place_of t) ≡ false) × Finds super)
      step x super c e own supers finds = by (nat_lt t table.public_base) refl
          (sym (ap (λ q. dispatched q t) (tower_own x super c e own supers)) ∙ finds.1)
        where
          table : ClassTable
          table = tables.table_of w c

          at_entry : (o : Option (Option Found)) → slice_get table.public (t - table.public_base) ≡ o
              → nat_lt t table.public_base ≡ false → held o (dispatched (tower_of w super) t) ≡ Some finds.0
              → InTable (entry c) t
          at_entry None g below h = absurd (cc)
          at_entry (Some y) g below h = (
            ap (λ b. nat_le b (place_of t)) (base c) ∙ ap (nat_le table.public_base) place
                ∙ not_below t table.public_base below,
            ap (λ n. nat_lt (n - base_of (entry c) t) (length (table_of (entry c) t))) place
                ∙ ap (λ n. nat_lt (t - n) (length (table_of (entry c) t))) (base c)
                ∙ ap (nat_lt (t - table.public_base)) (long c) ∙ inside table.public (t - table.public_base) y g,
          )

          by : (b : Bool) → nat_lt t table.public_base ≡ b → (if b then dispatched (tower_of w super) t
              else held (slice_get table.public (t - table.public_base)) (dispatched (tower_of w super) t))
              ≡ Some finds.0
              → InTable (entry c) t ⊎ ((nat_le (base_of (entry c) t) (place_of t) ≡ false) × Finds super)
          by true g h = inr (
            ap (λ b. nat_le b (place_of t)) (base c) ∙ ap (nat_le table.public_base) place
                ∙ below_or_at t table.public_base g,
            (finds.0, h),
          )
          by false g h = inl (at_entry (slice_get table.public (t - table.public_base)) refl g h)

      out : (x : List ℕ) (c : Class) → class_named w x ≡ Some c → c.is_imported ≡ true → is_interface c.flags ≡ false
          → Finds x → in_imported (exports_of p) (class_ref p x) t ≡ true
      out x c e im here finds = imported_has list p sound are_supertypes rules x c e im here t finds.0
          (sym (ap (λ q. dispatched q t) (tower_import x c e im)) ∙ finds.1)

  pub package_there : (x : List ℕ) (c : Class) → class_named w x ≡ Some c → is_interface c.flags ≡ false
      → (t : ℕ) (f : Found) → dispatched_hidden (tower_of w x) t ≡ Some f
      → has_virtual (whole p) (exports_of p) (class_ref p x) (t + 128) ≡ true
  package_there x c e class_here t f finds = token_there (t + 128) Finds step out x c e class_here (f, finds)
    where
      Finds : List ℕ → Type 0
      Finds y = (g : Found) × (dispatched_hidden (tower_of w y) t ≡ Some g)

      high : nat_lt (t + 128) 0x80 ≡ false
      high = grind (arith, nat_tests)

      place : place_of (t + 128) ≡ t
      place = let less : t + 128 - 0x80 ≡ t = omega arith in ap (λ b. if b then t + 128 else t + 128 - 0x80) high ∙ less

      base : (c : Class) → base_of (entry c) (t + 128) ≡ (let table = tables.table_of w c in table.package_base)
      base c = ap (λ b. if b then (let x = entry c in x.public_base) else (let x = entry c in x.package_base)) high

      long : (c : Class) → length (table_of (entry c) (t + 128)) ≡ (let table = tables.table_of w c
          in length table.«package»)
      long c = ap (λ b. length (if b then (let x = entry c in x.public_methods)
          else (let x = entry c in x.package_methods))) high ∙ length-map (let table = tables.table_of w c
          in table.«package») (method_offset p)

      step : (x super : List ℕ) (c : Class) → class_named w x ≡ Some c → c.is_imported ≡ false → c.supers ≡ super ∷ []
          → Finds x → InTable (entry c) (t + 128) ⊎ ((nat_le (base_of (entry c) (t + 128)) (place_of (t + 128)) ≡ false)
          × Finds super)
      step x super c e own supers finds = by (nat_lt t table.package_base) refl
          (sym (ap (λ q. dispatched_hidden q t) (tower_own x super c e own supers)) ∙ finds.1)
        where
          table : ClassTable
          table = tables.table_of w c

          by : (b : Bool) → nat_lt t table.package_base ≡ b → (if b then dispatched_hidden (tower_of w super) t
              else slice_get table.«package» (t - table.package_base)) ≡ Some finds.0
              → InTable (entry c) (t + 128) ⊎ ((nat_le (base_of (entry c) (t + 128)) (place_of (t + 128)) ≡ false)
              × Finds super)
          by true g h = inr (
            ap (λ b. nat_le b (place_of (t + 128))) (base c) ∙ ap (nat_le table.package_base) place
                ∙ below_or_at t table.package_base g,
            (finds.0, h),
          )
          by false g h = inl (
            ap (λ b. nat_le b (place_of (t + 128))) (base c) ∙ ap (nat_le table.package_base) place
                ∙ not_below t table.package_base g,
            ap (λ n. nat_lt (n - base_of (entry c) (t + 128)) (length (table_of (entry c) (t + 128)))) place
                ∙ ap (λ n. nat_lt (t - n) (length (table_of (entry c) (t + 128)))) (base c)
                ∙ ap (nat_lt (t - table.package_base)) (long c) ∙ inside table.«package» (t - table.package_base)
                finds.0 h,
          )

      out : (x : List ℕ) (c : Class) → class_named w x ≡ Some c → c.is_imported ≡ true → is_interface c.flags ≡ false
          → Finds x → in_imported (exports_of p) (class_ref p x) (t + 128) ≡ true
      out x c e im here finds = let none : None ≡ Some finds.0 =
          sym (ap (λ q. dispatched_hidden q t) (tower_import x c e im)) ∙ finds.1 in absurd (cc)
