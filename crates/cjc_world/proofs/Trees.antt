-- The rows of a table, where they are right, tell the trees of more names; and a name with a tree is not above itself.
use Rattle.std.proofs.Common.{◌≡◌, ℕ, ◌<◌, ◌≤◌, ◌+◌, suc, refl, sym, ap, subst, ◌∙◌, arith, Bool, true, false, List, []}
use Rattle.std.proofs.Common.{◌∷◌, ◌++◌, inl, inr, ⊎_elim}
use Rattle.std.specs.Prelude.{◌⊎◌, Option, Some, None, slice_get, option_to_list, if◌then◌else◌}
use Rattle.std.specs.List.{list_all}
use Rattle.std.proofs.lemmas.List.{append-nil}
use Rattle.cjc_world.specs.declared.tables.Above.{Above}
use Rattle.cjc_world.specs.declared.tables.Order.{Order}
use Rattle.cjc_world.specs.declared.tables.Order.TheVariants as orders
use Rattle.cjc_world.specs.Classes.{Class, class_named}
use Rattle.cjc_world.specs.Supertypes.{Supertypes, End, Unknown, Known, AreSupertypes, ends, unknown_here, known_here}
use Rattle.cjc_world.specs.Supertypes.{Lists, foremost, after, Above as IsAbove, directly, onwards, supertypes, upwards}
use Rattle.cjc_world.specs.Interfaces.{Interface, where_listed, gathered, known}
use Rattle.cjc_world.specs.Working.Places.{place_named, places_of, joined}
use Rattle.cjc_world.specs.Working.Tables.{in_field_order, told, row_at, piece, pieces, above_at, is_row, is_ready_at}
use Rattle.cjc_world.specs.Working.Tables.{is_ready, are_ready, AreRight, IsClear}
use Rattle.cjc_world.proofs.Settled.{AreSupertypes-one, clear-AreSupertypes}
use Rattle.cjc_world.proofs.Cycles.{class_named-name}
use Rattle.cjc_world.proofs.Rising.{known-append}
use Rattle.cjc_world.proofs.Joined.{joined-append, joined-once}
use Rattle.cjc_world.proofs.ByPlace.{place-class, place-none, places-append}
use Rattle.cjc_bytes.proofs.Bools.{both_front, both_back}

-- ---- lists that are joined alike

unfoldable pub Alike : List ℕ → List ℕ → Type 0
Alike ps qs = (seen : List ℕ) → joined seen ps ≡ joined seen qs

alike-append : (a b c d : List ℕ) → Alike a b → Alike c d → Alike (a ++ c) (b ++ d)
unfolding Alike
alike-append a b c d p q = λ seen. joined-append seen a c ∙ ap (λ v. joined v c) (p seen) ∙ q (joined seen b)
    ∙ sym (joined-append seen b d)

alike-once : (a b : List ℕ) → a ≡ joined [] b → Alike a b
unfolding Alike
alike-once a b e = λ seen. ap (joined seen) e ∙ joined-once seen b

alike-same : (a b : List ℕ) → a ≡ b → Alike a b
unfolding Alike
alike-same a b e = λ seen. ap (joined seen) e

-- ---- from the rows of some names

pub record Grove (w : List Class) (rows : List (Option Above)) (xs : List (List ℕ)) : Type 0 where
  pub tree : Supertypes
  pub are_supertypes : AreSupertypes w xs tree
  pub lines : Alike (pieces w orders.Line false rows xs) (places_of w (upwards tree))
  pub interfaces : (listed : Bool) → Alike (pieces w orders.Interfaces listed rows xs)
      (places_of w (known (gathered listed tree)))
  pub fields : Alike (pieces w orders.Fields false rows xs) (places_of w (in_field_order tree))

module _ (w : List Class) (rows : List (Option Above)) (right : AreRight w rows) where
  pub grove : (xs : List (List ℕ)) → list_all (λ x. is_ready w rows x) xs ≡ true → Grove w rows xs
  unfolding Alike pieces places_of gathered known told
  grove [] e = record {
    tree = End;
    are_supertypes = ends;
    lines = λ s. refl;
    interfaces = λ l s. refl;
    fields = λ s. refl;
  }
  grove (x ∷ xs) e = by (place_named w x) refl (both_front (is_ready w rows x) (list_all (λ x. is_ready w rows x) xs) e)
      (grove xs (both_back (is_ready w rows x) (list_all (λ x. is_ready w rows x) xs) e))
    where
      by : (o : Option ℕ) → place_named w x ≡ o → is_ready_at rows o ≡ true → Grove w rows xs → Grove w rows (x ∷ xs)
      by None f ready g = record {
        tree = Unknown x g.tree;
        are_supertypes = unknown_here (place-none w x f) g.are_supertypes;
        lines = λ s. ap (λ o. joined s (piece orders.Line false rows o ++ pieces w orders.Line false rows xs)) f
            ∙ g.lines s;
        interfaces = λ l s. ap (λ o. joined s (piece orders.Interfaces l rows o
            ++ pieces w orders.Interfaces l rows xs)) f ∙ g.interfaces l s ∙ ap (λ is. joined s (places_of w is))
            (sym (unknown-known l x (gathered l g.tree)));
        fields = λ s. ap (λ o. joined s (piece orders.Fields false rows o ++ pieces w orders.Fields false rows xs)) f
            ∙ g.fields s;
      }
        where
          unknown-known : (l : Bool) (x : List ℕ) (is : List Interface)
              → known (where_listed l (record { name = x; class = None }) ++ is) ≡ known is
          unknown-known true x is = refl
          unknown-known false x is = refl
      by (Some q) f ready g = here (slice_get rows q) refl ready
        where
          tail : (order : Order) (listed : Bool) → List ℕ
          tail order listed = pieces w order listed rows xs

          top : (a : Above) → slice_get rows q ≡ Some (Some a) → (tree : Supertypes) → AreSupertypes w (x ∷ []) tree
              → a ≡ told w tree → Grove w rows (x ∷ xs)
          top a h (Known c s i End) (known_here e sk ik ends) tells = record {
            tree = Known c s i g.tree;
            are_supertypes = known_here e sk ik g.are_supertypes;
            lines = λ seen.
                ap (λ o. joined seen (piece orders.Line false rows o ++ tail orders.Line false)) f
                ∙ ap (λ o. joined seen ((row_at orders.Line o ++ []) ++ tail orders.Line false)) h
                ∙ ap (λ v. joined seen (v ++ tail orders.Line false)) (append-nil a.line)
                ∙ alike-append a.line (places_of w (c ∷ upwards s)) (tail orders.Line false)
                (places_of w (upwards g.tree)) (alike-once a.line (places_of w (c ∷ upwards s))
                (ap (λ (v : Above). v.line) tells ∙ ap (λ cs. joined [] (places_of w cs))
                (append-nil (c ∷ upwards s)))) g.lines seen
                ∙ ap (joined seen) (sym (places-append w (c ∷ upwards s) (upwards g.tree)));
            interfaces = λ listed seen.
                ap (λ o. joined seen (piece orders.Interfaces listed rows o ++ tail orders.Interfaces listed)) f
                ∙ ap (λ o. joined seen ((row_at orders.Interfaces o ++ (if listed then q ∷ [] else []))
                ++ tail orders.Interfaces listed)) h
                ∙ alike-append (a.interfaces ++ (if listed then q ∷ [] else [])) (places_of w (known G)
                ++ places_of w (known (self listed))) (tail orders.Interfaces listed)
                (places_of w (known (gathered listed g.tree)))
                (alike-append a.interfaces (places_of w (known G)) (if listed then q ∷ []
                else []) (places_of w (known (self listed)))
                (alike-once a.interfaces (places_of w (known G)) (ap (λ (v : Above). v.interfaces) tells
                ∙ ap (λ is. joined [] (places_of w (known is))) (append-nil (G ++ []) ∙ append-nil G)))
                (alike-same (if listed then q ∷ [] else []) (places_of w (known (self listed))) (self_place listed)))
                (g.interfaces listed) seen
                ∙ ap (joined seen) (sym (places-append w (known G ++ known (self listed))
                (known (gathered listed g.tree)) ∙ ap (λ v. v ++ places_of w (known (gathered listed g.tree)))
                (places-append w (known G) (known (self listed)))))
                ∙ ap (λ cs. joined seen (places_of w cs)) (sym (known-append (G ++ self listed) (gathered listed g.tree)
                ∙ ap (λ cs. cs ++ known (gathered listed g.tree)) (known-append G (self listed))));
            fields = λ seen.
                ap (λ o. joined seen (piece orders.Fields false rows o ++ tail orders.Fields false)) f
                ∙ ap (λ o. joined seen ((row_at orders.Fields o ++ []) ++ tail orders.Fields false)) h
                ∙ ap (λ v. joined seen (v ++ tail orders.Fields false)) (append-nil a.fields)
                ∙ alike-append a.fields (places_of w F) (tail orders.Fields false) (places_of w (in_field_order g.tree))
                (alike-once a.fields (places_of w F) (ap (λ (v : Above). v.fields) tells
                ∙ ap (λ cs. joined [] (places_of w cs)) (append-nil F))) g.fields seen
                ∙ ap (joined seen) (sym (places-append w F (in_field_order g.tree)));
          }
            where
              G : List Interface
              G = gathered false s ++ gathered true i

              F : List Class
              F = c ∷ in_field_order i ++ in_field_order s

              self : Bool → List Interface
              self listed = where_listed listed (record { name = c.name; class = Some c })

              self_place : (listed : Bool) → (if listed then q ∷ [] else []) ≡ places_of w (known (self listed))
              self_place true = ap (λ o. option_to_list o ++ []) (sym (ap (place_named w) (class_named-name w x c e)
                  ∙ f))
              self_place false = refl
          top a h (Known _ _ _ _) (known_here {next = Unknown name next} e sk ik rest) tells = elim rest [ ]
          top a h (Known _ _ _ _) (known_here {next = Known class _ _ next} e sk ik rest) tells = elim rest [ ]
          top a h tree (unknown_here e k) tells = let d = place-class w x q f in let b = d.2 in cc

          here : (o : Option (Option Above)) → slice_get rows q ≡ o → is_row o ≡ true → Grove w rows (x ∷ xs)
          here None h ready = cc
          here (Some None) h ready = cc
          here (Some (Some a)) h ready = let t = right x q a f h in top a h t.0 t.1 t.2

  -- the row of one more class
  same_above : (a b : Above) → a.line ≡ b.line → a.interfaces ≡ b.interfaces → a.fields ≡ b.fields → a ≡ b
  same_above a b l i f = ap (λ v. record { line = v; interfaces = a.interfaces; fields = a.fields }) l
      ∙ ap (λ v. record { line = b.line; interfaces = v; fields = a.fields }) i
      ∙ ap (λ v. record { line = b.line; interfaces = b.interfaces; fields = v }) f

  pub above-tells : (x : List ℕ) (p : ℕ) (c : Class) → place_named w x ≡ Some p → slice_get w p ≡ Some c
      → are_ready w rows c ≡ true → (tree : Supertypes) × AreSupertypes w (x ∷ []) tree
      × (above_at w rows p c ≡ told w tree)
  unfolding Alike pieces places_of gathered known told above_at are_ready joined
  above-tells x p c e f ready =
      let d = place-class w x p e in
      let is : d.0 ≡ c = let b = d.1 in cc in
      let named : class_named w x ≡ Some c = d.2 ∙ ap Some is in
      let self : place_named w c.name ≡ Some p = ap (place_named w) (class_named-name w x c named) ∙ e in
      let s = grove c.supers (both_front (list_all (λ x. is_ready w rows x) c.supers) (list_all (λ x. is_ready w rows x)
      c.interfaces) ready) in
      let i = grove c.interfaces (both_back (list_all (λ x. is_ready w rows x) c.supers)
      (list_all (λ x. is_ready w rows x) c.interfaces) ready) in
      let G = gathered false s.tree ++ gathered true i.tree in (
        Known c s.tree i.tree End,
        known_here named s.are_supertypes i.are_supertypes ends,
        same_above (above_at w rows p c) (told w (Known c s.tree i.tree End)) (
            s.lines (p ∷ []) ∙ ap (λ o. joined [] (option_to_list o ++ places_of w (upwards s.tree))) (sym self)
            ∙ ap (λ cs. joined [] (places_of w cs)) (sym (append-nil (c ∷ upwards s.tree))))
            (ap (λ v. joined v (pieces w orders.Interfaces true rows c.interfaces)) (s.interfaces false [])
            ∙ i.interfaces true (joined [] (places_of w (known (gathered false s.tree))))
            ∙ sym (joined-append [] (places_of w (known (gathered false s.tree)))
            (places_of w (known (gathered true i.tree))))
            ∙ ap (joined []) (sym (places-append w (known (gathered false s.tree)) (known (gathered true i.tree))))
            ∙ ap (λ cs. joined [] (places_of w cs)) (sym (known-append (gathered false s.tree) (gathered true i.tree))
            ∙ ap known (sym (append-nil (G ++ []) ∙ append-nil G))))
            (ap (λ v. joined v (pieces w orders.Fields false rows c.supers)) (i.fields (p ∷ []))
            ∙ s.fields (joined (p ∷ []) (places_of w (in_field_order i.tree)))
            ∙ sym (joined-append (p ∷ []) (places_of w (in_field_order i.tree)) (places_of w (in_field_order s.tree)))
            ∙ ap (λ ps. joined (p ∷ []) ps) (sym (places-append w (in_field_order i.tree) (in_field_order s.tree)))
            ∙ ap (λ o. joined [] (option_to_list o ++ places_of w (in_field_order i.tree ++ in_field_order s.tree)))
            (sym self)
            ∙ ap (λ cs. joined [] (places_of w cs)) (sym (append-nil (c ∷ in_field_order i.tree
            ++ in_field_order s.tree)))),
      )

-- ---- a name with a tree is not above itself

size : Supertypes → ℕ
size End = 0
size (Unknown name next) = suc (size next)
size (Known c supers interfaces next) = suc (size supers + size interfaces + size next)

pub lists-split : (y : List ℕ) (a b : List (List ℕ)) → Lists y (a ++ b) → Lists y a ⊎ Lists y b
lists-split y [] b i = inr i
lists-split y (x ∷ a) b foremost = inl foremost
lists-split y (x ∷ a) b (after i) = ⊎_elim (λ h. inl (after h)) (λ h. inr h) (lists-split y a b i)

module _ (w : List Class) where
  Smaller : List ℕ → ℕ → Type 0
  Smaller y n = (j : Supertypes) × AreSupertypes w (y ∷ []) j × (size j ≤ n)

  listed-tree : (y : List ℕ) (xs : List (List ℕ)) → Lists y xs → (k : Supertypes) → AreSupertypes w xs k
      → Smaller y (size k)
  unfolding Smaller size
  listed-tree y xs foremost k (unknown_here {next = next} e rest) = (Unknown y End, unknown_here e ends, omega arith)
  listed-tree y xs foremost k (known_here {c = c} {supers = s} {interfaces = i} {next = next} e sk ik rest) =
      (Known c s i End, known_here e sk ik ends, omega arith)
  listed-tree y (x ∷ xs) (after l) k (unknown_here {next = next} e rest) = let t = listed-tree y xs l next rest
      in (t.0, t.1, let h = t.2 in omega arith)
  listed-tree y (x ∷ xs) (after l) k (known_here {c = c} {supers = s} {interfaces = i} {next = next} e sk ik rest) =
      let t = listed-tree y xs l next rest in (t.0, t.1, let h = t.2 in omega arith)

  step : (x y : List ℕ) (c : Class) → class_named w x ≡ Some c → Lists y (c.supers ++ c.interfaces) → (k : Supertypes)
      → AreSupertypes w (x ∷ []) k → (j : Supertypes) × AreSupertypes w (y ∷ []) j × (size j < size k)
  unfolding Smaller size
  step x y c e l k (unknown_here f rest) = cc
  step x y c e l k (known_here {c = d} {supers = s} {interfaces = i} {next = next} f sk ik rest) =
      let is : c ≡ d = cc in
      ⊎_elim
      (λ h. let t = listed-tree y d.supers (subst (λ (v : Class). Lists y v.supers) is h) s sk in (
        t.0,
        t.1,
        let n = t.2
            in omega arith,
      ))
      (λ h. let t = listed-tree y d.interfaces (subst (λ (v : Class). Lists y v.interfaces) is h) i ik
      in (t.0, t.1, let n = t.2 in omega arith))
      (lists-split y c.supers c.interfaces l)

  smaller : (x y : List ℕ) → IsAbove w x y → (k : Supertypes) → AreSupertypes w (x ∷ []) k → (j : Supertypes)
      × AreSupertypes w (y ∷ []) j × (size j < size k)
  smaller x y (directly c e l) k is = step x y c e l k is
  smaller x y (onwards {y = z} c e l rest) k is =
      let t = step x z c e l k is in
      let u = smaller z y rest t.0 t.1 in
      (u.0, u.1, let a = t.2 in let b = u.2 in omega arith)

  pub not-own-super : (x : List ℕ) (k : Supertypes) → AreSupertypes w (x ∷ []) k → IsAbove w x x → ⊥
  not-own-super x k is far =
      let t = smaller x x far k is in
      let same : t.0 ≡ k = AreSupertypes-one w (x ∷ []) t.0 k t.1 is in
      let less : size t.0 < size k = t.2 in
      let eq : size t.0 ≡ size k = ap size same in
      absurd (omega arith)

  -- ---- nor is anything that stands above it, so the tree is the one that `supertypes` grows

  pub tree-clear : (x : List ℕ) (k : Supertypes) → AreSupertypes w (x ∷ []) k → IsClear w x
  tree-clear x k is = λ z way far. ⊎_elim
      (λ same. not-own-super x k is (subst (λ v. IsAbove w v v) (sym same) far))
      (λ up. let t = smaller x z up k is in not-own-super z t.0 t.1 far)
      way

  pub listed-clear : (xs : List (List ℕ)) (k : Supertypes) → AreSupertypes w xs k → (y : List ℕ) → Lists y xs
      → IsClear w y
  unfolding Smaller
  listed-clear xs k is y i = let t = listed-tree y xs i k is in tree-clear y t.0 t.1

  pub tree-is-supertypes : (xs : List (List ℕ)) (k : Supertypes) → AreSupertypes w xs k → k ≡ supertypes w xs
  tree-is-supertypes xs k is = AreSupertypes-one w xs k (supertypes w xs) is (clear-AreSupertypes w xs
      (listed-clear xs k is))
