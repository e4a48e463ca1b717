-- The offsets in the table are those of methods.
use Rattle.std.proofs.Common.{◌≡◌, ℕ, zero, suc, ◌+◌, ◌<◌, refl, sym, ap, subst, ◌∙◌, ⊎_elim, true≢false, arith, Bool}
use Rattle.std.proofs.Common.{true, false, List, [], ◌∷◌, length, get_or}
use Rattle.std.specs.Prelude.{map, slice_get, unwrap_or, option_map, option_and_then, if◌then◌else◌, All, Option, Some}
use Rattle.std.specs.Prelude.{None}
use Rattle.std.specs.List.{range_with_len}
use Rattle.std.proofs.lemmas.Bool.{cases_lt}
use Rattle.std.proofs.lemmas.List.{length-map}
use Rattle.std.proofs.lemmas.List.FromFn.{length-range_with_len}
use Rattle.std.proofs.lemmas.Option.{slice_get_cases, slice_get_past, slice_get-map, unwrap_or-slice_get}
use Rattle.cjc_classes.specs.ClassFile.declared.tree.ClassTree.{ClassTree}
use Rattle.cjc_exported.specs.World.declared.found.Found.{Found}
use Rattle.cjc_exported.specs.World.Classes.{Class, class_at, declared}
use Rattle.cjc_exported.specs.World.Lookup.{member_at}
use Rattle.cjc_exported.specs.World.Order.{method_order}
use Rattle.cjc_classes.proofs.VTableNumbers.{at-tree}
use Rattle.cjc_exported.specs.Components.Methods.{first_method, method_offset}
use Rattle.cjc_exported.specs.Components.Package.{LaidMethod, Package, world}
use Rattle.cjc_classes.specs.ClassInfo.Entries.{AreOffsets}
use Rattle.cjc_exported.specs.ExportFile.Offsets.{offset_at}
use Rattle.cjc_methods.specs.Ready.{AreOrdered}
use Rattle.cjc_classes.specs.Descriptor.Made.{extents_in, extents_of, member_count, numbered}
use Rattle.cjc_classes.specs.declared.descriptor.parts.Extent.{Extent}
use Rattle.cjc_captree.proofs.ExtentsLaws.Inside.{IsInside, all_inside, is_nowhere}

-- the offsets of a table
abbrev pub offsets_in : List (List Extent) → List (List ℕ)
offsets_in rows = map (map (λ e. e.offset)) rows

numbered_at : (m : ℕ) (ts : List ClassTree) (k : ℕ) → slice_get (numbered m ts) k ≡ option_map (declared (m + k))
    (slice_get ts k)
numbered_at m [] k = refl
numbered_at m (x ∷ ts) zero = let z : m ≡ m + 0 = omega arith in ap (λ k. Some (declared k x)) z
numbered_at m (x ∷ ts) (suc k) = let s : m + 1 + k ≡ m + suc k = omega arith in numbered_at (m + 1) ts k
    ∙ ap (λ j. option_map (declared j) (slice_get ts k)) s

range_at : (a count k : ℕ) → k < count → slice_get (range_with_len a count) k ≡ Some (a + k)
range_at a zero k lt = absurd (omega arith)
range_at a (suc count) zero lt = let z : a ≡ a + 0 = omega arith in ap Some z
range_at a (suc count) (suc k) lt = let less : k < count = omega arith in let s : a + 1 + k ≡ a + suc k = omega arith
    in range_at (a + 1) count k less ∙ ap Some s

module _ (p : Package) where
  -- the row of a class
  row_at : (n : ℕ) → slice_get (offsets_in (extents_of p)) n ≡ option_map (λ t. map (λ (e : Extent). e.offset)
      (extents_in p (declared n t))) (let files = p.files in slice_get files.classes n)
  row_at n =
      let files = p.files in
      let zn : 0 + n ≡ n = omega arith in
      slice_get-map (map (λ (e : Extent). e.offset)) (extents_of p) n
      ∙ ap (option_map (map (λ (e : Extent). e.offset))) (slice_get-map (extents_in p) (numbered 0 files.classes) n
      ∙ ap (option_map (extents_in p)) (numbered_at 0 files.classes n
      ∙ ap (λ j. option_map (declared j) (slice_get files.classes n)) zn))
      ∙ twice (slice_get files.classes n)
    where
      twice : (o : Option ClassTree) → option_map (map (λ (e : Extent). e.offset)) (option_map (extents_in p)
          (option_map (declared n) o)) ≡ option_map (λ t. map (λ (e : Extent). e.offset) (extents_in p (declared n t)))
          o
      twice None = refl
      twice (Some t) = refl

  -- the offset of a member
  item_at : (c : Class) (k : ℕ) → k < member_count (world p) c
      → slice_get (map (λ (e : Extent). e.offset) (extents_in p c)) k ≡ Some (method_offset p (member_at c k))
  item_at c k lt =
      let zk : 0 + k ≡ k = omega arith in
      slice_get-map (λ (e : Extent). e.offset) (extents_in p c) k
      ∙ ap (option_map (λ (e : Extent). e.offset)) (slice_get-map _ (range_with_len 0 (member_count (world p) c)) k
      ∙ ap (option_map _) (range_at 0 (member_count (world p) c) k lt ∙ ap Some zk))

  row_long : (c : Class) → length (map (λ (e : Extent). e.offset) (extents_in p c)) ≡ member_count (world p) c
  row_long c = length-map (extents_in p c) _ ∙ length-map (range_with_len 0 (member_count (world p) c)) _
      ∙ length-range_with_len 0 (member_count (world p) c)

  pub own_offset : (n k : ℕ) (c : Class) → class_at (world p) false n ≡ Some c → k < length c.fields + length c.methods
      → offset_at (offsets_in (extents_of p)) n k ≡ Some (method_offset p (member_at c k))
  own_offset n k c is lt =
      let files = p.files in
      let (t, is_tree, same) = at-tree files n c is in
      ap (option_and_then (λ (row : List ℕ). slice_get row k)) (row_at n ∙ ap (option_map _) is_tree)
      ∙ ap (λ (d : Class). slice_get (map (λ (e : Extent). e.offset) (extents_in p d)) k) (sym same)
      ∙ item_at c k (omega (arith, lt))

  module _ (order : List ℕ) (ordered : AreOrdered p.files order) (members : map (λ m. m.member) p.methods
      ≡ method_order (world p)) where
    inside : All (IsInside p.files) (map (λ (m : LaidMethod). m.member) p.methods)
    inside = subst (All (IsInside p.files)) (sym members) (all_inside p.files order ordered)

    zero_of : (f : Found) → (IsInside p.files f → ⊥) → 0 ≡ method_offset p f
    zero_of f outside = sym (ap (λ e. e.offset) (is_nowhere p.files f outside (first_method p.methods) 0 p.methods
        inside))

    by_default : (f : Found) → get_or (get_or (offsets_in (extents_of p)) f.class []) f.member 0
        ≡ unwrap_or (slice_get (unwrap_or (slice_get (offsets_in (extents_of p)) f.class) []) f.member) 0
    by_default f =
        sym (unwrap_or-slice_get (get_or (offsets_in (extents_of p)) f.class []) f.member 0)
        ∙ ap (λ (row : List ℕ). unwrap_or (slice_get row f.member) 0)
        (sym (unwrap_or-slice_get (offsets_in (extents_of p)) f.class []))

    in_class : (f : Found) → f.imported ≡ false → (t : ClassTree)
        → (let files = p.files in slice_get files.classes f.class ≡ Some t)
        → unwrap_or (slice_get (unwrap_or (slice_get (offsets_in (extents_of p)) f.class) []) f.member) 0
        ≡ method_offset p f
    in_class f own t is =
        let c = declared f.class t in
        let row : slice_get (offsets_in (extents_of p)) f.class
        ≡ Some (map (λ (e : Extent). e.offset) (extents_in p c)) = row_at f.class ∙ ap (option_map _) is in
        ap (λ o. unwrap_or (slice_get (unwrap_or o []) f.member) 0) row
        ∙ ⊎_elim
        (λ lt. ap (λ o. unwrap_or o 0) (item_at c f.member lt)
        ∙ ap (λ b. method_offset p (record { imported = b; class = f.class; member = f.member })) (sym own))
        (λ le.
        ap (λ o. unwrap_or o 0) (slice_get_past (map (λ (e : Extent). e.offset) (extents_in p c)) f.member
        (let long = row_long c in omega (arith, le, long)))
        ∙ zero_of f (λ i. let same : i.tree ≡ t = (let q = sym i.is_tree ∙ is in cc)
        in let lt = subst (λ u. f.member < member_count (world p) (declared f.class u)) same i.within
        in omega (arith, lt, le)))
        (cases_lt f.member (member_count (world p) c))

    own_member : (f : Found) → f.imported ≡ false → get_or (get_or (offsets_in (extents_of p)) f.class []) f.member 0
        ≡ method_offset p f
    own_member f own =
        let files = p.files in
        by_default f
        ∙ ⊎_elim
        (λ there. let (t, lt, is, read) = there in in_class f own t is)
        (λ past.
        ap (λ o. unwrap_or (slice_get (unwrap_or o []) f.member) 0) (row_at f.class ∙ ap (option_map _) past.1)
        ∙ zero_of f (λ i. let q = sym i.is_tree ∙ past.1 in cc))
        (slice_get_cases files.classes f.class).1

    pub all_offsets : AreOffsets p (offsets_in (extents_of p))
    all_offsets f = by f.imported refl
      where
        by : (b : Bool) → f.imported ≡ b → (if b then 0 else get_or (get_or (offsets_in (extents_of p)) f.class [])
            f.member 0) ≡ method_offset p f
        by true e = zero_of f (λ i. true≢false (sym e ∙ i.own))
        by false e = own_member f e
