-- A table is filled pass by pass: after each pass one more step upwards is there.
use Rattle.std.proofs.Common.{◌≡◌, ℕ, zero, suc, ◌<◌, ◌≤◌, ◌+◌, refl, sym, ap, subst, ◌∙◌, arith, Bool, true, false}
use Rattle.std.proofs.Common.{List, [], ◌∷◌, ◌++◌, length, ⊎_elim}
use Rattle.std.specs.Prelude.{◌&&◌, Option, Some, None, is_some, slice_get}
use Rattle.std.specs.List.{list_all}
use Rattle.std.proofs.Math.ListN.{set}
use Rattle.cjc_world.specs.declared.tables.Above.{Above}
use Rattle.cjc_world.specs.Classes.{Class}
use Rattle.cjc_world.specs.Supertypes.{Lists, foremost, after, IsAcyclic}
use Rattle.cjc_world.specs.Working.Places.{place_named}
use Rattle.cjc_world.specs.Working.Tables.{above_at, is_row, is_ready_at, is_ready, are_ready, AreRight, IsPart, Closer}
use Rattle.cjc_world.proofs.Settled.{Settles, nothing, something, clear_settles, clear-up, lists-front, lists-behind}
use Rattle.cjc_world.proofs.Cycles.{above-class}
use Rattle.cjc_world.proofs.ByPlace.{place-class, class-place}
use Rattle.cjc_world.proofs.Trees.{above-tells, not-own-super}
use Rattle.cjc_bytes.proofs.Gets.{slice_get_set_same, get_set_other, set_length}
use Rattle.cjc_bytes.proofs.Numbers.{same_place}

-- ---- what is ready stays so

all-more : {A : Type 0} (p q : A → Bool) (xs : List A) → ((x : A) → p x ≡ true → q x ≡ true) → list_all p xs ≡ true
    → list_all q xs ≡ true
all-more p q [] f e = refl
all-more p q (x ∷ xs) f e = by (p x) refl e (all-more p q xs f)
  where
    by : (b : Bool) → p x ≡ b → (b && list_all p xs) ≡ true → (list_all p xs ≡ true → list_all q xs ≡ true)
        → (q x && list_all q xs) ≡ true
    by true g e rest = ap (λ b. b && list_all q xs) (f x g) ∙ rest e
    by false g e rest = cc

and-split : (a b c d : Bool) → (a ≡ true → c ≡ true) → (b ≡ true → d ≡ true) → (a && b) ≡ true → (c && d) ≡ true
and-split true b c d f g e = ap (λ c. c && d) (f refl) ∙ g e
and-split false b c d f g e = cc

module _ (w : List Class) where
  ready-more : (old new : List (Option Above)) → ((p : ℕ) → is_row (slice_get old p) ≡ true → is_row (slice_get new p)
      ≡ true) → (x : List ℕ) → is_ready w old x ≡ true → is_ready w new x ≡ true
  ready-more old new stays x e = by (place_named w x) e
    where
      by : (o : Option ℕ) → is_ready_at old o ≡ true → is_ready_at new o ≡ true
      by None e = refl
      by (Some p) e = stays p e

  are-ready-more : (old new : List (Option Above)) → ((p : ℕ) → is_row (slice_get old p) ≡ true
      → is_row (slice_get new p) ≡ true) → (c : Class) → are_ready w old c ≡ true → are_ready w new c ≡ true
  unfolding are_ready
  are-ready-more old new stays c e =
      and-split (list_all (λ x. is_ready w old x) c.supers) (list_all (λ x. is_ready w old x) c.interfaces)
      (list_all (λ x. is_ready w new x) c.supers) (list_all (λ x. is_ready w new x) c.interfaces)
      (all-more (λ x. is_ready w old x) (λ x. is_ready w new x) c.supers (ready-more old new stays))
      (all-more (λ x. is_ready w old x) (λ x. is_ready w new x) c.interfaces (ready-more old new stays)) e

  -- ---- passes

  pub closer-starts : (rows : List (Option Above)) (p : ℕ) → Closer w rows rows p p
  closer-starts rows p = record {
    count = refl;
    right = λ r. r;
    stays = λ q e. e;
    settles = λ q c l m e r. absurd (omega arith);
  }

  pub closer-then : (old mid new : List (Option Above)) (from to : ℕ) → Closer w old mid from to
      → Closer w mid new to (to + 1) → Closer w old new from (to + 1)
  closer-then old mid new from to a b = record {
    count = b.count ∙ a.count;
    right = λ r. b.right (a.right r);
    stays = λ q e. b.stays q (a.stays q e);
    settles = λ q c l m e r. ⊎_elim
        (λ is. b.settles q c (let i : q ≡ to = is in omega arith) m e (are-ready-more old mid a.stays c r))
        (λ other. b.stays q (a.settles q c l (let n : q ≡ to → ⊥ = other in omega arith) e r))
        (same_place q to);
  }

  -- what comes behind loses nothing
  pub closer-still : (old mid new : List (Option Above)) (from to a b : ℕ) → Closer w old mid from to
      → Closer w mid new a b → Closer w old new from to
  closer-still old mid new from to a b p q = record {
    count = q.count ∙ p.count;
    right = λ r. q.right (p.right r);
    stays = λ i e. q.stays i (p.stays i e);
    settles = λ i c l m e r. q.stays i (p.settles i c l m e r);
  }

  -- nothing was to do at this place
  pub closer-there : (rows : List (Option Above)) (p : ℕ) → is_row (slice_get rows p) ≡ true
      → Closer w rows rows p (p + 1)
  closer-there rows p there = record {
    count = refl;
    right = λ r. r;
    stays = λ q e. e;
    settles = λ q c l m e r. let is : p ≡ q = omega arith in ap (λ n. is_row (slice_get rows n)) (sym is) ∙ there;
  }

  pub closer-unready : (rows : List (Option Above)) (p : ℕ) (d : Class) → slice_get w p ≡ Some d
      → are_ready w rows d ≡ false → Closer w rows rows p (p + 1)
  closer-unready rows p d f not_ready = record {
    count = refl;
    right = λ r. r;
    stays = λ q e. e;
    settles = λ q c l m e r. let is : p ≡ q = omega arith in let g : slice_get w q ≡ Some d = ap (slice_get w) (sym is)
        ∙ f in let same : c ≡ d = cc in let h = ap (are_ready w rows) same in cc;
  }

  pub closer-nowhere : (rows : List (Option Above)) (p : ℕ) → slice_get w p ≡ None → Closer w rows rows p (p + 1)
  closer-nowhere rows p f = record {
    count = refl;
    right = λ r. r;
    stays = λ q e. e;
    settles = λ q c l m e r. let is : p ≡ q = omega arith in let g : slice_get w q ≡ None = ap (slice_get w) (sym is)
        ∙ f in cc;
  }

  pub closer-set : (rows : List (Option Above)) (p : ℕ) (d : Class) → p < length rows → slice_get w p ≡ Some d
      → are_ready w rows d ≡ true → Closer w rows (set rows p (Some (above_at w rows p d))) p (p + 1)
  closer-set rows p d within f ready = record {
    count = set_length rows p (Some (above_at w rows p d));
    right = λ right x q a e g. ⊎_elim
        (λ is.
        let h : slice_get (set rows p (Some (above_at w rows p d))) q ≡ Some (Some (above_at w rows p d)) =
        ap (slice_get (set rows p (Some (above_at w rows p d)))) is
        ∙ slice_get_set_same rows p (Some (above_at w rows p d)) within in
        let same : above_at w rows p d ≡ a = cc in
        let at : place_named w x ≡ Some p = e ∙ ap Some is in
        let t = above-tells w rows right x p d at f ready in
        (t.0, t.1, sym same ∙ t.2))
        (λ other. right x q a e (sym (get_set_other rows p q (Some (above_at w rows p d)) other) ∙ g))
        (same_place q p);
    stays = λ q e. ⊎_elim
        (λ is. ap is_row (ap (slice_get (set rows p (Some (above_at w rows p d)))) is
        ∙ slice_get_set_same rows p (Some (above_at w rows p d)) within))
        (λ other. ap is_row (get_set_other rows p q (Some (above_at w rows p d)) other) ∙ e)
        (same_place q p);
    settles = λ q c l m e r. let is : q ≡ p = omega arith
        in ap is_row (ap (slice_get (set rows p (Some (above_at w rows p d)))) is
        ∙ slice_get_set_same rows p (Some (above_at w rows p d)) within);
  }

  -- ---- how far the passes reach

  -- every class of whose names all ways end within less than so many steps
  unfoldable pub Reached : ℕ → List (Option Above) → Type 0
  Reached n rows = (j : ℕ) → j < n → (p : ℕ) (c : Class) → slice_get w p ≡ Some c
      → ((y : List ℕ) → Lists y (c.supers ++ c.interfaces) → Settles w j y) → is_row (slice_get rows p) ≡ true

  pub reached-none : (rows : List (Option Above)) → Reached 0 rows
  unfolding Reached
  reached-none rows = λ j l. absurd (omega arith)

  settled-ready : (n : ℕ) (rows : List (Option Above)) → Reached n rows → (x : List ℕ) → Settles w n x
      → is_ready w rows x ≡ true
  unfolding Reached
  settled-ready n rows r x (nothing e) = by (place_named w x) refl
    where
      by : (o : Option ℕ) → place_named w x ≡ o → is_ready_at rows o ≡ true
      by None f = refl
      by (Some p) f = let d = place-class w x p f in let g = d.2 in cc
  settled-ready (suc n) rows r x (something c e all) =
      let p = class-place w x c e in
      ap (is_ready_at rows) p.1 ∙ r n (omega arith) p.0 c p.2 all

  pub all-listed : (rows : List (Option Above)) (xs : List (List ℕ)) → ((y : List ℕ) → Lists y xs
      → is_ready w rows y ≡ true) → list_all (λ x. is_ready w rows x) xs ≡ true
  all-listed rows [] f = refl
  all-listed rows (x ∷ xs) f = ap (λ b. b && list_all (λ x. is_ready w rows x) xs) (f x foremost)
      ∙ all-listed rows xs (λ y i. f y (after i))

  pub reached-next : (old new : List (Option Above)) (n count : ℕ) → count ≡ length w → Closer w old new 0 count
      → Reached n old → Reached (n + 1) new
  unfolding Reached are_ready
  reached-next old new n count is closer r = λ j l p c e all. ⊎_elim
      (λ (last : j ≡ n).
      let up : (y : List ℕ) → Lists y (c.supers ++ c.interfaces) → is_ready w old y ≡ true =
      λ y i. settled-ready n old r y (subst (λ m. Settles w m y) last (all y i)) in
      closer.settles p c (omega arith) (let q = got-within w p c e in omega arith) e
      (ap (λ b. b && list_all (λ x. is_ready w old x) c.interfaces) (all-listed old c.supers
      (λ y i. up y (lists-front y c.supers c.interfaces i)))
      ∙ all-listed old c.interfaces (λ y i. up y (lists-behind y c.supers c.interfaces i))))
      (λ (other : j ≡ n → ⊥). closer.stays p (r j (omega arith) p c e all))
      (same_place j n)
    where
      got-within : {A : Type 0} (xs : List A) (i : ℕ) (x : A) → slice_get xs i ≡ Some x → i < length xs
      got-within [] i x e = cc
      got-within (y ∷ xs) zero x e = omega arith
      got-within (y ∷ xs) (suc i) x e = let h = got-within xs i x e in omega arith

  -- ---- the end

  row-there : (rows : List (Option Above)) (p : ℕ) → p < length rows → list_all is_some rows ≡ true → (a : Above)
      × (slice_get rows p ≡ Some (Some a))
  row-there [] p l e = absurd (omega arith)
  row-there (None ∷ rows) p l e = cc
  row-there (Some a ∷ rows) zero l e = (a, refl)
  row-there (Some a ∷ rows) (suc p) l e = row-there rows p (omega arith) e

  place-within : (x : List ℕ) (p : ℕ) → place_named w x ≡ Some p → p < length w
  place-within x p e = let d = place-class w x p e in within w p d.0 d.1
    where
      within : (xs : List Class) (i : ℕ) (c : Class) → slice_get xs i ≡ Some c → i < length xs
      within [] i c e = cc
      within (y ∷ xs) zero c e = omega arith
      within (y ∷ xs) (suc i) c e = let h = within xs i c e in omega arith

  pub filled : (rows : List (Option Above)) → AreRight w rows → length rows ≡ length w → list_all is_some rows ≡ true
      → IsPart w rows
  filled rows right count all = record {
    right = right;
    there = λ x p e clear. let a = row-there rows p (let l = place-within x p e in omega arith) all in ap is_row a.1;
  }

  pub reached-part : (rows : List (Option Above)) (n : ℕ) → AreRight w rows → Reached n rows → suc (suc (length w)) ≤ n
      → IsPart w rows
  unfolding Reached
  reached-part rows n right far l = record {
    right = right;
    there = λ x p e clear. let d = place-class w x p e in far (suc (length w)) (omega arith) p d.0 d.1
        (λ y i. clear_settles w y (clear-up w x y d.0 d.2 i clear));
  }

  -- where all rows are there, there is no cycle
  pub all-acyclic : (rows : List (Option Above)) → AreRight w rows → length rows ≡ length w → list_all is_some rows
      ≡ true → IsAcyclic w
  all-acyclic rows right count all = λ x far.
      let c = above-class w x x far in
      let p = class-place w x c.0 c.1 in
      let a = row-there rows p.0 (let l = place-within x p.0 p.1 in omega arith) all in
      let t = right x p.0 a.0 p.1 a.1 in
      not-own-super w x t.0 t.1 far
