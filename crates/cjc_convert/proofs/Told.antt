-- What is told of a rule that speaks of what is written is told of its place in the order of refusals.
use Rattle.std.proofs.Common.{◌≡◌, ℕ, zero, suc, ◌+◌, ◌-◌, ◌≤◌, refl, sym, ap, subst, ◌∙◌, arith, Bool, true, false}
use Rattle.std.proofs.Common.{List, [], ◌∷◌, length, map, flat_map, ⊎_elim, Option, Some, None}
use Rattle.std.specs.Prelude.{codes, nat_lt, option_map, slice_get, unwrap_or, if◌then◌else◌, ◌||◌}
use Rattle.std.specs.Str.{bytes_eq}
use Rattle.std.proofs.lemmas.Bool.{ltb-true}
use Rattle.std.proofs.lemmas.List.{length-map}
use Rattle.std.proofs.lemmas.Option.{slice_get-map, slice_get_cases, slice_get_within}
use Rattle.cjc_captree.specs.Bytes.Breaks.{Break, at, broken_at, class_spot, member_spot}
use Rattle.cjc_captree.specs.Bytes.Order.{file_of}
use Rattle.cjc_captree.specs.Bytes.Refused.{method_text}
use Rattle.cjc_captree.proofs.ClassOrderDeclared.{order_declared}
use Rattle.cjc_captree.specs.ClassOrder.Classes.Numbers.{declared_at}
use Rattle.cjc_captree.specs.ClassFile.declared.tree.ClassTree.{ClassTree}
use Rattle.cjc_captree.specs.ClassFile.declared.tree.MethodTree.{MethodTree}
use Rattle.cjc_shape_proof.specs.Components.Descriptor.{as_added, method_in, methods_with_added, no_member}
use Rattle.cjc_shape_proof.specs.Components.Limits.{else_of, form_breaks, has_far_types}
use Rattle.cjc_shape_proof.specs.Components.Limits.{has_large_component}
use Rattle.cjc_shape_proof.specs.Components.Limits.{has_many_entries}
use Rattle.cjc_shape_proof.specs.Components.Limits.{has_many_words, in_class, is_too_long, layout_breaks, method_spot}
use Rattle.cjc_shape_proof.specs.Components.Limits.{of_methods}
use Rattle.cjc_shape_proof.specs.Components.Limits.{order_breaks, size_breaks, spot_of_list}
use Rattle.cjc_shape_proof.specs.Components.Package.{LaidMethod, Package, world}
use Rattle.cjc_shape_proof.proofs.JudgeEach.{Each, each_append, each_at, each_more, each_none}
use Rattle.cjc_shape_proof.proofs.JudgePlaces.{IsFileOf, IsTold, class_files, file_is_of, told_at_class}
use Rattle.cjc_shape_proof.proofs.JudgePlaces.{told_at_method, told_list}
use Rattle.cjc_captree.specs.Layout.Refusals.{least, overtaking}
use Rattle.cjc_shape_proof.specs.LowerIntPackage.Limits.{lacks_int_room, word_breaks_by_modes}
use Rattle.cjc_shape_proof.specs.LowerIntPackage.Modes.{Tables}
use Rattle.cjc_shape_proof.specs.LowerMethods.JvmSemantics.OnePackage.{method_at}
use Rattle.cjc_shape_proof.proofs.VTableFiled.{Has, get-has}
use Rattle.cjc_shape_proof.proofs.VTableNumbers.{at-tree}
use Rattle.cjc_shape_proof.specs.World.Added.{added}
use Rattle.cjc_shape_proof.specs.World.Classes.{Class, Member, all_classes, class_at, declared, field_of_class}
use Rattle.cjc_shape_proof.specs.World.Classes.{method_of_class}
use Rattle.cjc_shape_proof.specs.World.Files.{Files}
use Rattle.cjc_shape_proof.specs.World.Lookup.{member_at}
use Rattle.cjc_shape_proof.specs.World.Order.{in_order, method_order, methods_in_turn, methods_of_class, places}
use Rattle.cjc_shape_proof.specs.World.Order.{written}
use Rattle.cjc_shape_proof.specs.World.declared.found.Found.{Found}
use Rattle.cjc_shape_proof.proofs.WrittenLaws.FittingLaws.Order.{has_cons, has_none}
use Rattle.cjc_shape_proof.proofs.BytesGets.{in_front}
use Rattle.cjc_shape_proof.proofs.VTableFiled.{has-either}

-- ---- methods stand behind the fields of their classes

record IsPlaced (files : Files) (f : Found) : Type 0 where
  own : f.imported ≡ false
  past : (t : ClassTree) → slice_get files.classes f.class ≡ Some t → length t.fields ≤ f.member

module _ (files : Files) (c : Class) (is : Some c ≡ declared_at files.classes c.number) where
  tree : (t : ClassTree) × (slice_get files.classes c.number ≡ Some t) × (declared c.number t ≡ c)
  tree = by (slice_get files.classes c.number) refl is
    where
      by : (o : Option ClassTree) → slice_get files.classes c.number ≡ o → Some c ≡ option_map (declared c.number) o
          → (t : ClassTree) × (slice_get files.classes c.number ≡ Some t) × (declared c.number t ≡ c)
      by None f e = cc
      by (Some t) f e = (t, f, cc)

  at_place : (i : ℕ) → length c.fields ≤ i → IsPlaced files (member_at c i)
  at_place i le = record {
    own = ap (λ (d : Class). d.is_imported) (sym tree.2);
    past = λ u e.
        let both : Some tree.0 ≡ Some u = sym tree.1 ∙ e in
        let one : tree.0 ≡ u = cc in
        let t = tree.0 in
        let long : length c.fields ≡ length u.fields = sym (ap (λ (d : Class). length d.fields) tree.2)
        ∙ length-map t.fields field_of_class ∙ ap (λ (v : ClassTree). length v.fields) one in
        omega (arith, le, long);
  }

  written_placed : (i : ℕ) (ms : List Member) → length c.fields ≤ i → (f : Found) → Has f (written c i ms)
      → IsPlaced files f
  written_placed i [] le f h = has_none f h
  written_placed i (m ∷ ms) le f h = by (bytes_eq m.name (codes "<clinit>")) h (written_placed (i + 1) ms (omega (
    arith,
    le,
  )) f)
    where
      by : (b : Bool) → Has f (if b then written c (i + 1) ms else member_at c i ∷ written c (i + 1) ms)
          → (Has f (written c (i + 1) ms) → IsPlaced files f) → IsPlaced files f
      by true g rest = rest g
      by false g rest = ⊎_elim (λ same. subst (IsPlaced files) (sym same) (at_place i le)) (λ j. rest j)
          (has_cons f (member_at c i) (written c (i + 1) ms) g)

  places_placed : (i n : ℕ) → length c.fields ≤ i → (f : Found) → Has f (places c i n) → IsPlaced files f
  places_placed i zero le f h = has_none f h
  places_placed i (suc n) le f h = ⊎_elim (λ same. subst (IsPlaced files) (sym same) (at_place i le))
      (λ j. places_placed (i + 1) n (omega (arith, le)) f j) (has_cons f (member_at c i) (places c (i + 1) n) h)

  class_placed : (w : List Class) (f : Found) → Has f (methods_of_class w c) → IsPlaced files f
  class_placed w f h = ⊎_elim
      (λ g. written_placed (length c.fields) c.methods (omega arith) f g)
      (λ g. places_placed (length c.fields + length c.methods) (length (added w c)) (omega arith) f g)
      (has-either f (written c (length c.fields) c.methods) (places c (length c.fields + length c.methods)
      (length (added w c))) h)

turn_placed : (files : Files) (w cs : List Class) → map Some cs ≡ map (λ c. declared_at files.classes c.number) cs
    → (f : Found) → Has f (methods_in_turn w cs) → IsPlaced files f
turn_placed files w [] e f h = has_none f h
turn_placed files w (c ∷ cs) e f h =
    let here : Some c ≡ declared_at files.classes c.number = cc in
    let rest : map Some cs ≡ map (λ (d : Class). declared_at files.classes d.number) cs = cc in
    ⊎_elim (λ g. class_placed files c here w f g) (λ g. turn_placed files w cs rest f g)
    (has-either f (methods_of_class w c) (methods_in_turn w cs) h)

all_placed : (files : Files) (f : Found) → Has f (method_order (all_classes files)) → IsPlaced files f
unfolding method_order
all_placed files f h = turn_placed files (all_classes files) (in_order (all_classes files) false)
    (order_declared files false) f h

-- ---- lists of breaks

module _ (P : Break → Type 0) where
  each_flat : {A : Type 0} (f : A → List Break) (xs : List A) → ((k : ℕ) (x : A) → slice_get xs k ≡ Some x
      → Each P (f x)) → Each P (flat_map f xs)
  each_flat f [] each = each_none P
  each_flat f (x ∷ xs) each = each_append P (f x) (flat_map f xs) (each 0 x refl)
      (each_flat f xs (λ k y e. each (suc k) y e))

  each_else : (xs ys : List Break) → Each P xs → Each P ys → Each P (else_of xs ys)
  each_else [] ys a b = b
  each_else (x ∷ xs) ys a b = a

-- ---- a package

module _ (p : Package) (counted : (let v = p.files in length v.classes ≡ class_files v.lines))
    (members : map (λ m. m.member) p.methods ≡ method_order (world p)) where
  abbrev Told : Break → Type 0
  Told = IsTold (let l = p.list in l.name) p.files

  -- a place of a method
  spot_told : (f : Found) (c : Class) → IsPlaced p.files f → class_at (world p) f.imported f.class ≡ Some c
      → (offset rule : ℕ) → Told (broken_at (method_spot p c f (method_in (world p) c f.member) offset) rule)
  spot_told f c placed e offset rule = by (nat_lt f.member (length c.fields + length c.methods)) refl
    where
      w : List Class
      w = world p

      found : (t : ClassTree) × (let v = p.files in slice_get v.classes f.class ≡ Some t) × (c ≡ declared f.class t)
      found = at-tree p.files f.class c (ap (λ b. class_at w b f.class) (sym placed.own) ∙ e)

      t : ClassTree
      t = found.0

      file : IsFileOf p.files f.class t (let v = p.files in file_of v.lines f.class)
      file = let v = p.files in file_is_of p.files f.class t (let lt = slice_get_within v.classes f.class t found.1
          in omega (arith, lt, counted)) found.1

      number : c.number ≡ f.class
      number = ap (λ (d : Class). d.number) found.2

      named : c.name ≡ t.name
      named = ap (λ (d : Class). d.name) found.2

      fields_long : length c.fields ≡ length t.fields
      fields_long = ap (λ (d : Class). length d.fields) found.2 ∙ length-map t.fields field_of_class

      methods_long : length c.methods ≡ length t.methods
      methods_long = ap (λ (d : Class). length d.methods) found.2 ∙ length-map t.methods method_of_class

      m : Member
      m = method_in w c f.member

      spot_of : Bool → Break
      spot_of b = broken_at (let v = p.files in if b then member_spot (file_of v.lines c.number) 1 c.name (f.member + 1)
          (method_text m.name m.desc) offset else class_spot (file_of v.lines c.number) 1 c.name) rule

      own : nat_lt f.member (length c.fields + length c.methods) ≡ true → Told (spot_of true)
      own lt = ⊎_elim (λ r. here r.0 r.2) (λ r. (let le = r.0
          in let less = ltb-true f.member (length c.fields + length c.methods) lt in let past = placed.past t found.1
          in absurd (omega (arith, le, less, past, fields_long, methods_long)))) (slice_get_cases t.methods i).1
        where
          i : ℕ
          i = f.member - length t.fields

          here : (x : MethodTree) → slice_get t.methods i ≡ Some x → Told (spot_of true)
          here x there =
              let past = placed.past t found.1 in
              let place : length t.fields + i + 1 ≡ f.member + 1 = omega (arith, past) in
              let at_it : f.member - length c.fields ≡ i = omega (arith, fields_long) in
              let in_class_file : slice_get c.methods i ≡ Some (method_of_class x) =
              ap (λ (d : Class). slice_get d.methods i) found.2 ∙ slice_get-map method_of_class t.methods i
              ∙ ap (option_map method_of_class) there in
              let is : m ≡ method_of_class x =
              ap (λ j. unwrap_or (slice_get (methods_with_added w c) j) no_member) at_it
              ∙ ap (λ o. unwrap_or o no_member) (in_front c.methods (map as_added (added w c)) i (method_of_class x)
              in_class_file) in
              let v = p.files in
              let told = told_at_method (let l = p.list in l.name) p.files f.class t (file_of v.lines f.class) file i x
              there offset rule in
              subst Told
              (ap (λ k. broken_at (member_spot (file_of v.lines f.class) 1 t.name k (method_text x.name x.desc) offset)
              rule) place
              ∙ ap (λ (n : Member). broken_at (member_spot (file_of v.lines f.class) 1 t.name (f.member + 1)
              (method_text n.name n.desc) offset) rule) (sym is)
              ∙ ap (λ n. broken_at (member_spot (file_of v.lines f.class) 1 n (f.member + 1) (method_text m.name m.desc)
              offset) rule) (sym named)
              ∙ ap (λ k. broken_at (member_spot (file_of v.lines k) 1 c.name (f.member + 1) (method_text m.name m.desc)
              offset) rule) (sym number))
              told

      got : Told (spot_of false)
      got =
          let v = p.files in
          subst Told
          (ap (λ n. broken_at (class_spot (file_of v.lines f.class) 1 n) rule) (sym named)
          ∙ ap (λ k. broken_at (class_spot (file_of v.lines k) 1 c.name) rule) (sym number))
          (told_at_class (let l = p.list in l.name) p.files f.class t (file_of v.lines f.class) file rule)

      by : (b : Bool) → nat_lt f.member (length c.fields + length c.methods) ≡ b
          → Told (spot_of (nat_lt f.member (length c.fields + length c.methods)))
      by true lt = subst (λ b. Told (spot_of b)) (sym lt) (own lt)
      by false lt = subst (λ b. Told (spot_of b)) (sym lt) got

  placed_at : (k : ℕ) (m : LaidMethod) → slice_get p.methods k ≡ Some m → IsPlaced p.files m.member
  placed_at k m e =
      let there : slice_get (method_order (world p)) k ≡ Some m.member = ap (λ (fs : List Found). slice_get fs k)
      (sym members) ∙ slice_get-map (λ (x : LaidMethod). x.member) p.methods k
      ∙ ap (option_map (λ (x : LaidMethod). x.member)) e in
      all_placed p.files m.member (get-has m.member (method_order (world p)) k there)

  of_all : (B : Class → LaidMethod → List Break) → ((k : ℕ) (m : LaidMethod) (c : Class) → slice_get p.methods k
      ≡ Some m → (let f = m.member in class_at (world p) f.imported f.class ≡ Some c) → Each Told (B c m))
      → Each Told (of_methods p B)
  of_all B each = each_flat Told (λ m. let f = m.member in in_class B m (class_at (world p) f.imported f.class))
      p.methods (λ k m e. by k m e (let f = m.member in class_at (world p) f.imported f.class) refl)
    where
      by : (k : ℕ) (m : LaidMethod) → slice_get p.methods k ≡ Some m → (o : Option Class)
          → (let f = m.member in class_at (world p) f.imported f.class ≡ o) → Each Told (in_class B m o)
      by k m e None g = each_none Told
      by k m e (Some c) g = each k m c e g

  words_told : (t : Tables) → Each Told (of_methods p (word_breaks_by_modes t p))
  words_told t = of_all (word_breaks_by_modes t p) (λ k m c e g. let f = m.member in
      let x = method_in (world p) c f.member in
      each_at Told (has_many_words x || lacks_int_room t p.files (method_at p.files f)) (method_spot p c f x 0) 417
      (spot_told f c (placed_at k m e) g 0 417))

  layouts_told : Each Told (of_methods p (layout_breaks p))
  layouts_told = of_all (layout_breaks p) each
    where
      each : (k : ℕ) (m : LaidMethod) (c : Class) → slice_get p.methods k ≡ Some m
          → (let f = m.member in class_at (world p) f.imported f.class ≡ Some c) → Each Told (layout_breaks p c m)
      each k m c e g =
          let f = m.member in
          let code = m.code in
          let x = method_in (world p) c f.member in
          each_append Told (order_breaks (method_spot p c f x) (least (overtaking [] code.catches)))
          (at (is_too_long m) (method_spot p c f x 0) 415)
          (by (least (overtaking [] code.catches)))
          (each_at Told (is_too_long m) (method_spot p c f x 0) 415 (spot_told f c (placed_at k m e) g 0 415))
        where
          by : (o : Option ℕ)
              → Each Told (order_breaks (let f = m.member in method_spot p c f (method_in (world p) c f.member)) o)
          by None = each_none Told
          by (Some offset) = let f = m.member
              in each_more Told (broken_at (method_spot p c f (method_in (world p) c f.member) offset) 311) []
              (spot_told f c (placed_at k m e) g offset 311) (each_none Told)

  at_list : (b : Bool) (rule : ℕ) → Each Told (at b (spot_of_list p) rule)
  at_list b rule = each_at Told b (spot_of_list p) rule (told_list (let l = p.list in l.name) p.files rule)

  forms_told : Each Told (form_breaks p)
  forms_told = each_append Told (of_methods p (layout_breaks p)) (at (has_many_entries p) (spot_of_list p) 414)
      layouts_told (at_list (has_many_entries p) 414)

  pub sizes_told : Each Told (size_breaks p)
  sizes_told = each_append Told (at (has_far_types p) (spot_of_list p) 411) (at (has_large_component p) (spot_of_list p)
      416) (at_list (has_far_types p) 411) (at_list (has_large_component p) 416)

  pub written_told : (t : Tables) → Each Told (else_of (of_methods p (word_breaks_by_modes t p)) (form_breaks p))
  written_told t = each_else Told (of_methods p (word_breaks_by_modes t p)) (form_breaks p) (words_told t) forms_told
