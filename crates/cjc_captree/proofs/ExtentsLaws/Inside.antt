-- The methods of a package stand within the rows of their classes.
use Rattle.std.proofs.Common.{◌≡◌, ℕ, zero, suc, ◌+◌, ◌≤◌, ◌<◌, ◌==◌, ◌&&◌, not, refl, sym, ap, subst, ◌∙◌, arith, Bool}
use Rattle.std.proofs.Common.{true, false, List, [], ◌∷◌, length}
use Rattle.std.specs.Prelude.{map, All, slice_get, if◌then◌else◌, codes, Some}
use Rattle.std.specs.Str.{bytes_eq}
use Rattle.std.proofs.lemmas.Bool.{eqb-true}
use Rattle.std.proofs.lemmas.List.Elements.{All-append, All-cons, All-head, All-nil, All-tail}
use Rattle.cjc_classes.specs.ClassFile.declared.tree.ClassTree.{ClassTree}
use Rattle.cjc_exported.specs.World.declared.found.Found.{Found}
use Rattle.cjc_exported.specs.World.Added.{added}
use Rattle.cjc_exported.specs.World.Classes.{Class, Member, all_classes, class_at, declared}
use Rattle.cjc_exported.specs.World.Files.{Files}
use Rattle.cjc_exported.specs.World.Lookup.{member_at}
use Rattle.cjc_exported.specs.World.Order.{in_order, method_order, methods_in_turn, methods_of_class, places, written}
use Rattle.cjc_classes.proofs.VTableNumbers.{at-tree}
use Rattle.cjc_exported.specs.Components.Methods.{extent_at, extent_from, handler_count, is_member, method_size}
use Rattle.cjc_exported.specs.Components.Methods.{nowhere}
use Rattle.cjc_exported.specs.Components.Package.{LaidMethod}
use Rattle.cjc_methods.specs.Ready.{AreOrdered}
use Rattle.cjc_classes.specs.Descriptor.Made.{member_count}
use Rattle.cjc_classes.proofs.BytesBools.{not_true}

-- a member of a class of the package, within its row
pub record IsInside (files : Files) (f : Found) : Type 0 where
  pub own : f.imported ≡ false
  pub tree : ClassTree
  pub is_tree : slice_get files.classes f.class ≡ Some tree
  pub within : f.member < member_count (all_classes files) (declared f.class tree)

module _ (files : Files) (n : ℕ) (t : ClassTree) (is : slice_get files.classes n ≡ Some t) where
  abbrev c : Class
  c = declared n t

  written_inside : (i : ℕ) (ms : List Member) → i + length ms ≤ length c.fields + length c.methods
      → All (IsInside files) (written c i ms)
  written_inside i [] le = All-nil (IsInside files)
  written_inside i (m ∷ ms) le = by (bytes_eq m.name (codes "<clinit>")) (written_inside (i + 1) ms (omega (arith, le)))
    where
      by : (b : Bool) → All (IsInside files) (written c (i + 1) ms)
          → All (IsInside files) (if b then written c (i + 1) ms else member_at c i ∷ written c (i + 1) ms)
      by true all = all
      by false all = All-cons (IsInside files) (member_at c i) (written c (i + 1) ms) (record {
        own = refl;
        tree = t;
        is_tree = is;
        within = omega (arith, le);
      }) all

  places_inside : (i count : ℕ) → i + count ≤ member_count (all_classes files) c
      → All (IsInside files) (places c i count)
  places_inside i zero le = All-nil (IsInside files)
  places_inside i (suc count) le =
      All-cons (IsInside files) (member_at c i) (places c (i + 1) count) (record {
        own = refl;
        tree = t;
        is_tree = is;
        within = omega (arith, le);
      }) (places_inside (i + 1) count (omega (arith, le)))

  class_inside : All (IsInside files) (methods_of_class (all_classes files) c)
  class_inside =
      All-append (IsInside files) (written c (length c.fields) c.methods) (places c (length c.fields + length c.methods)
      (length (added (all_classes files) c)))
      (written_inside (length c.fields) c.methods (omega arith)) (places_inside (length c.fields + length c.methods)
      (length (added (all_classes files) c)) (omega arith))

in_turn_inside : (files : Files) (cs : List Class) (order : List ℕ)
    → map Some cs ≡ map (class_at (all_classes files) false) order
    → All (IsInside files) (methods_in_turn (all_classes files) cs)
in_turn_inside files [] order e = All-nil (IsInside files)
in_turn_inside files (c ∷ cs) [] e = cc
in_turn_inside files (c ∷ cs) (n ∷ order) e =
    let w = all_classes files in
    let is : class_at w false n ≡ Some c = (let h : Some c ≡ class_at w false n = cc in sym h) in
    let rest : map Some cs ≡ map (class_at w false) order = cc in
    let (t, is_tree, same) = at-tree files n c is in
    All-append (IsInside files) (methods_of_class w c) (methods_in_turn w cs)
    (subst (λ (x : Class). All (IsInside files) (methods_of_class w x)) (sym same) (class_inside files n t is_tree))
    (in_turn_inside files cs order rest)

pub all_inside : (files : Files) (order : List ℕ) → AreOrdered files order
    → All (IsInside files) (method_order (all_classes files))
unfolding method_order
all_inside files order e = in_turn_inside files (in_order (all_classes files) false) order e

-- ---- what is not inside stands nowhere

both_true : (a b d : Bool) → (a && b && d) ≡ true → (a ≡ true) × (b ≡ true) × (d ≡ true)
both_true true true true e = (refl, refl, refl)
both_true true true false e = cc
both_true true false d e = cc
both_true false b d e = cc

module _ (files : Files) (f : Found) (outside : IsInside files f → ⊥) where
  not_member : (m : LaidMethod) → IsInside files m.member → is_member f m ≡ false
  not_member m inside = by (is_member f m) refl
    where
      by : (b : Bool) → is_member f m ≡ b → b ≡ false
      by false e = refl
      by true e =
          let g = m.member in
          let all = both_true (not f.imported) (f.class == g.class) (f.member == g.member) e in
          let class = eqb-true f.class g.class all.1 in
          let member = eqb-true f.member g.member all.2 in
          absurd (outside (record {
            own = not_true f.imported all.0;
            tree = inside.tree;
            is_tree = ap (slice_get files.classes) class ∙ inside.is_tree;
            within = subst (λ n. f.member < member_count (all_classes files) (declared n inside.tree)) (sym class)
                (subst (λ k. k < member_count (all_classes files) (declared g.class inside.tree)) (sym member)
                inside.within);
          }))

  pub is_nowhere : (at k : ℕ) (ms : List LaidMethod) → All (IsInside files) (map (λ m. m.member) ms)
      → extent_from at k ms f ≡ nowhere
  is_nowhere at k [] all = refl
  is_nowhere at k (m ∷ ms) all =
      ap (λ b. if b then extent_at at k m else extent_from (at + method_size m) (k + handler_count m) ms f)
      (not_member m (All-head (IsInside files) m.member (map (λ (x : LaidMethod). x.member) ms) all))
      ∙ is_nowhere (at + method_size m) (k + handler_count m) ms (All-tail (IsInside files) m.member
      (map (λ (x : LaidMethod). x.member) ms) all)
