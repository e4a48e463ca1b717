-- Rows of a table with another item at a place.
use Rattle.std.proofs.Common.{◌≡◌, ℕ, zero, suc, ◌+◌, ◌<◌, ◌==◌, ◌&&◌, not, refl, sym, ap, ◌∙◌, arith, Bool, true}
use Rattle.std.proofs.Common.{false, List, [], ◌∷◌, get_or}
use Rattle.std.specs.Prelude.{map, slice_set, if◌then◌else◌}
use Rattle.std.specs.List.{range_with_len}
use Rattle.cjc_classes.specs.ClassFile.declared.tree.ClassTree.{ClassTree}
use Rattle.cjc_exported.specs.World.declared.found.Found.{Found}
use Rattle.cjc_exported.specs.World.Classes.{Class, all_classes, declared}
use Rattle.cjc_exported.specs.World.Files.{Files}
use Rattle.cjc_exported.specs.World.Lookup.{member_at}
use Rattle.cjc_classes.specs.Descriptor.Made.{member_count, numbered}
use Rattle.cjc_classes.specs.declared.descriptor.parts.Extent.{Extent}
use Rattle.cjc_captree.specs.Working.Tables.{is_own, row_of, table_of}
use Rattle.cjc_classes.proofs.BytesNumbers.{like_number}

other_number : (a b : ℕ) → a < b → (b == a) ≡ false
other_number a b lt = grind arith

-- ---- a row

module _ {X : Type 0} (F : ℕ → X) (e : X) where
  -- at places behind
  behind : (a b count : ℕ) → a < b → map (λ j. if j == a then e else F j) (range_with_len b count)
      ≡ map F (range_with_len b count)
  behind a b zero lt = refl
  behind a b (suc count) lt =
      ap (λ t. (if t then e else F b) ∷ map (λ j. if j == a then e else F j) (range_with_len (b + 1) count))
      (other_number a b lt)
      ∙ ap (λ xs. F b ∷ xs) (behind a (b + 1) count (omega arith))

  set_range : (a i count : ℕ) → slice_set (map F (range_with_len a count)) i e ≡ map (λ j. if j == a + i then e
      else F j) (range_with_len a count)
  set_range a i zero = refl
  set_range a zero (suc count) =
      let z : a ≡ a + 0 = omega arith in
      ap (λ xs. e ∷ xs) (sym (behind a (a + 1) count (omega arith)))
      ∙ ap (λ t. (if t then e else F a) ∷ map (λ j. if j == a then e else F j) (range_with_len (a + 1) count))
      (sym (like_number a))
      ∙ ap (λ b. (if a == b then e else F a) ∷ map (λ j. if j == b then e else F j) (range_with_len (a + 1) count)) z
  set_range a (suc i) (suc count) =
      let s : a + 1 + i ≡ a + suc i = omega arith in
      let lt : (a == a + suc i) ≡ false = grind arith in
      ap (λ xs. F a ∷ xs) (set_range (a + 1) i count)
      ∙ ap (λ b. F a ∷ map (λ j. if j == b then e else F j) (range_with_len (a + 1) count)) s
      ∙ ap (λ t. (if t then e else F a) ∷ map (λ j. if j == a + suc i then e else F j) (range_with_len (a + 1) count))
      (sym lt)

-- a member of a class of the package
of_class : (c : Class) → c.is_imported ≡ false → (n k j : ℕ) → is_own n k (member_at c j) ≡ (c.number == n && j == k)
of_class c own n k j = ap (λ b. not b && c.number == n && j == k) own

module _ (files : Files) (g : Found → Extent) (n k : ℕ) (e : Extent) where
  abbrev after : Found → Extent
  after f = if is_own n k f then e else g f

  set_row : (c : Class) → c.is_imported ≡ false → row_of files after c ≡ (if c.number == n
      then slice_set (row_of files g c) k e else row_of files g c)
  set_row c own = by (c.number == n) refl
    where
      count : ℕ
      count = member_count (all_classes files) c

      tests : (b : Bool) → (c.number == n) ≡ b → row_of files after c ≡ map (λ j. if b && j == k then e
          else g (member_at c j)) (range_with_len 0 count)
      tests b h = ap (λ (T : ℕ → Bool). map (λ j. if T j then e else g (member_at c j)) (range_with_len 0 count))
          (λ i j. (of_class c own n k j ∙ ap (λ t. t && j == k) h) i)

      by : (b : Bool) → (c.number == n) ≡ b → row_of files after c ≡ (if b then slice_set (row_of files g c) k e
          else row_of files g c)
      by true h = tests true h ∙ sym (set_range (λ j. g (member_at c j)) e 0 k count
          ∙ ap (λ m. map (λ j. if j == m then e else g (member_at c j)) (range_with_len 0 count)) (let z : 0 + k
          ≡ k = omega arith in z))
      by false h = tests false h

  -- ---- all rows

  rest_same : (a : ℕ) (cs : List ClassTree) → n < a → map (row_of files after) (numbered a cs)
      ≡ map (row_of files g) (numbered a cs)
  rest_same a [] lt = refl
  rest_same a (c ∷ cs) lt =
      let d = declared a c in
      let row : row_of files after d ≡ row_of files g d = set_row d refl
      ∙ ap (λ b. if b then slice_set (row_of files g d) k e else row_of files g d) (other_number n a lt) in
      ap (λ r. r ∷ map (row_of files after) (numbered (a + 1) cs)) row
      ∙ ap (λ rs. row_of files g d ∷ rs) (rest_same (a + 1) cs (omega arith))

  set_rows : (a i : ℕ) (cs : List ClassTree) → a + i ≡ n → (let rows = map (row_of files g) (numbered a cs)
      in slice_set rows i (slice_set (get_or rows i []) k e) ≡ map (row_of files after) (numbered a cs))
  set_rows a i [] is = refl
  set_rows a zero (c ∷ cs) is =
      let d = declared a c in
      let here : (a == n) ≡ true = grind arith in
      let row : row_of files after d ≡ slice_set (row_of files g d) k e = set_row d refl
      ∙ ap (λ b. if b then slice_set (row_of files g d) k e else row_of files g d) here in
      ap (λ r. r ∷ map (row_of files g) (numbered (a + 1) cs)) (sym row) ∙ ap (λ rs. row_of files after d
      ∷ rs) (sym (rest_same (a + 1) cs (omega (arith, is))))
  set_rows a (suc i) (c ∷ cs) is =
      let d = declared a c in
      let there : (a == n) ≡ false = grind arith in
      let row : row_of files after d ≡ row_of files g d = set_row d refl
      ∙ ap (λ b. if b then slice_set (row_of files g d) k e else row_of files g d) there in
      ap (λ rs. row_of files g d ∷ rs) (set_rows (a + 1) i cs (omega (arith, is)))
      ∙ ap (λ r. r ∷ map (row_of files after) (numbered (a + 1) cs)) (sym row)

  pub set_table : slice_set (table_of files g) n (slice_set (get_or (table_of files g) n []) k e)
      ≡ table_of files (λ f. if is_own n k f then e else g f)
  set_table = set_rows 0 n files.classes (omega arith)
