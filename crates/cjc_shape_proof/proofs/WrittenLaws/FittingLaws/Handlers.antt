-- Where 407 is not broken at most 255 handlers are written: each stands in the exception table of a method of a class
-- file.
use Rattle.std.proofs.Common.{◌≡◌, ℕ, zero, suc, ◌+◌, ◌≤◌, refl, sym, ap, subst, ◌∙◌, arith, Bool, true, false, List}
use Rattle.std.proofs.Common.{[], ◌∷◌, length, map, Option, Some, None}
use Rattle.std.specs.Prelude.{◌-◌, filter, cond, codes, nat_le, nat_lt, option_and_then, option_map}
use Rattle.std.specs.Prelude.{slice_get, sum_by, if◌then◌else◌}
use Rattle.std.specs.Str.{bytes_eq}
use Rattle.std.proofs.lemmas.List.{length-map}
use Rattle.std.proofs.lemmas.List.Sums.{sum_by-append, sum_by-cons}
use Rattle.std.proofs.lemmas.Option.{slice_get_past}
use Rattle.cjc_bytes.specs.declared.fault.MemberId.{MemberId}
use Rattle.cjc_classes.specs.JvmSemantics.Linked.{Method}
use Rattle.cjc_classes.specs.JvmSemantics.OnePackage.{method_at, method_by, method_in}
use Rattle.cjc_world.specs.ClassFile.Code.{CodeTree}
use Rattle.cjc_world.specs.ClassFile.declared.tree.Catch.{Catch}
use Rattle.cjc_world.specs.ClassFile.declared.tree.ClassTree.{ClassTree}
use Rattle.cjc_world.specs.ClassFile.declared.tree.MethodTree.{MethodTree}
use Rattle.cjc_components.specs.Methods.{handler_count}
use Rattle.cjc_components.specs.Package.{LaidMethod}
use Rattle.cjc_classes.specs.Layout.Handlers.{by_target, has_range, inserted, table_order}
use Rattle.cjc_classes.specs.Narrow.Rows.Resolved.{method_found, resolution}
use Rattle.cjc_classes.specs.Narrow.Rows.Package.{flags_of, read_of}
use Rattle.cjc_classes.specs.Narrow.Pairs.Roles.{with_pairs}
use Rattle.cjc_classes.specs.Narrow.Written.Rows.{has_rows}
use Rattle.cjc_narrow_proof.specs.NCode.Written.{catch_at, catches_at, place_in, reached}
use Rattle.cjc_narrow_proof.specs.NCode.declared.narrow.NCatch.{NCatch}
use Rattle.cjc_narrow_proof.specs.NCode.declared.narrow.NMethod.{NMethod}
use Rattle.cjc_classes.specs.Subset.Limits.{handlers, handlers_of_class}
use Rattle.cjc_classes.specs.Subset.Names.{catches_of}
use Rattle.cjc_shape.specs.LowerIntPackage.LowerIntMode.declared.modes.Mode.{Mode}
use Rattle.cjc_shape.specs.LowerIntPackage.LowerIntMode.declared.modes.Mode.TheVariants as modes
use Rattle.cjc_shape.specs.LowerIntPackage.Modes.{Tables}
use Rattle.cjc_shape.specs.LowerIntPackage.Written.{code_by_mode, code_by_mode_at, code_in}
use Rattle.cjc_world.specs.Added.{added}
use Rattle.cjc_world.specs.Classes.{Class, all_classes, declared, field_of_class, method_of_class}
use Rattle.cjc_world.specs.Files.{Files}
use Rattle.cjc_world.specs.Lookup.{member_at}
use Rattle.cjc_world.specs.Order.{in_order, method_order, methods_in_turn, methods_of_class, places, written}
use Rattle.cjc_world.specs.declared.found.Found.{Found}
use Rattle.cjc_shape_proof.proofs.WrittenLaws.FittingLaws.Order.{classes_within, numbered_most}

-- ---- handlers that are kept

filter_few : {A : Type 0} (p : A → Bool) (xs : List A) → length (filter p xs) ≤ length xs
filter_few p [] = let z : 0 ≤ 0 = omega arith in z
filter_few p (x ∷ xs) = by (p x) (filter_few p xs)
  where
    by : (b : Bool) → length (filter p xs) ≤ length xs → length (cond b (x ∷ filter p xs) (filter p xs)) ≤ suc
        (length xs)
    by true le = omega (arith, le)
    by false le = omega (arith, le)

inserted_one : (c : NCatch) (cs : List NCatch) → length (inserted c cs) ≡ suc (length cs)
inserted_one c [] = refl
inserted_one c (d ∷ cs) = by (nat_le c.target d.target) (inserted_one c cs)
  where
    by : (b : Bool) → length (inserted c cs) ≡ suc (length cs) → length (if b then c ∷ d ∷ cs else d ∷ inserted c cs)
        ≡ suc (suc (length cs))
    by true e = refl
    by false e = ap suc e

ordered_all : (cs : List NCatch) → length (by_target cs) ≡ length cs
ordered_all [] = refl
ordered_all (c ∷ cs) = inserted_one c (by_target cs) ∙ ap suc (ordered_all cs)

table_few : (cs : List NCatch) → length (table_order cs) ≤ length cs
table_few cs = let a = ordered_all (filter has_range cs) in let b = filter_few has_range cs in omega (arith, a, b)

-- ---- of a method

-- the entries of its exception table
abbrev pub entries : Option Method → ℕ
entries None = 0
entries (Some m) = length m.catches

catches_few : (place : ℕ → ℕ) (cs : List Catch) → length (catches_at place cs) ≤ length cs
catches_few place cs =
    let a = filter_few (λ (c : NCatch). nat_lt c.start c.end) (map (catch_at place) cs) in
    let b = length-map cs (catch_at place) in
    omega (arith, a, b)

module _ (files : Files) (near : List MemberId) (t : Tables) where
  mode_few : (mode : Mode) (m : Method) → length (let c = code_in files near t mode m in c.catches) ≤ length m.catches
  mode_few modes.Short m = let id = m.id
      in catches_few (place_in (with_pairs (resolution files near id.class) (read_of m (flags_of (method_found
      (all_classes files) id))) (has_rows (t.types m))) (reached m.insns (t.types m))) m.catches
  mode_few modes.Int m = catches_few _ m.catches

  code_few : (f : Found) (o : Option Method) → length (let c = code_by_mode files near t f o in c.catches) ≤ entries o
  code_few f None = let z : 0 ≤ 0 = omega arith in z
  code_few f (Some m) = mode_few (t.mode m) m

  pub handlers_few : (m : LaidMethod) → code_by_mode_at files near t m.member ≡ m.code
      → handler_count m ≤ entries (method_at files m.member)
  handlers_few m e =
      let a = table_few (let c = m.code in c.catches) in
      let b = code_few m.member (method_at files m.member) in
      let same : length (let c = code_by_mode_at files near t m.member in c.catches)
      ≡ length (let c = m.code in c.catches) =
      ap (λ (c : NMethod). length c.catches) e in
      omega (arith, a, b, same)

-- ---- of the methods of a class

module _ (files : Files) where
  abbrev w : List Class
  w = all_classes files

  abbrev own : Found → ℕ
  own f = entries (method_at files f)

  module _ (n : ℕ) (t : ClassTree) (is : slice_get files.classes n ≡ Some t) where
    abbrev c : Class
    c = declared n t

    entries_by : (m : MethodTree) (o : Option CodeTree) → entries (Some (method_by t m o)) ≡ length (catches_of o)
    entries_by m None = refl
    entries_by m (Some code) = refl

    own_at : (i : ℕ) → own (member_at c i) ≡ entries (option_map (λ (m : MethodTree). method_by t m m.code)
        (slice_get t.methods (i - length t.fields)))
    own_at i = ap (λ o. entries (option_and_then (method_in i) o)) is

    member_few : (i k : ℕ) (m : MethodTree) → i ≡ length t.fields + k → slice_get t.methods k ≡ Some m
        → own (member_at c i) ≡ handlers m
    member_few i k m at e =
        let z : i - length t.fields ≡ k = omega (arith, at) in
        own_at i ∙ ap (λ j. entries (option_map (λ (x : MethodTree). method_by t x x.code) (slice_get t.methods j))) z
        ∙ ap (λ o. entries (option_map (λ (x : MethodTree). method_by t x x.code) o)) e ∙ entries_by m m.code

    member_none : (i : ℕ) → length t.fields + length t.methods ≤ i → own (member_at c i) ≡ 0
    member_none i le =
        own_at i ∙ ap (λ o. entries (option_map (λ (x : MethodTree). method_by t x x.code) o))
        (slice_get_past t.methods (i - length t.fields) (omega (arith, le)))

    written_few : (i k : ℕ) (ts : List MethodTree) → i ≡ length t.fields + k → ((j : ℕ) (m : MethodTree)
        → slice_get ts j ≡ Some m → slice_get t.methods (k + j) ≡ Some m)
        → sum_by own (written c i (map method_of_class ts)) ≤ sum_by handlers ts
    written_few i k [] at all = let z : 0 ≤ 0 = omega arith in z
    written_few i k (m ∷ ts) at all =
        let stay : k + 0 ≡ k = omega arith in
        let here = member_few i k m at (ap (slice_get t.methods) (sym stay) ∙ all 0 m refl) in
        let rest = written_few (i + 1) (k + 1) ts (omega (arith, at)) (λ j x e. let next : k + 1 + j
        ≡ k + suc j = omega arith in ap (slice_get t.methods) next ∙ all (suc j) x e) in
        let head = sum_by-cons handlers m ts in
        by (bytes_eq m.name (codes "<clinit>")) here rest head (sum_by-cons own (member_at c i)
        (written c (i + 1) (map method_of_class ts)))
      where
        by : (b : Bool) → own (member_at c i) ≡ handlers m → sum_by own (written c (i + 1) (map method_of_class ts)) ≤
            sum_by handlers ts → sum_by handlers (m ∷ ts) ≡ handlers m + sum_by handlers ts
            → sum_by own (member_at c i ∷ written c (i + 1) (map method_of_class ts)) ≡ own (member_at c i) + sum_by own
            (written c (i + 1) (map method_of_class ts))
            → sum_by own (if b then written c (i + 1) (map method_of_class ts) else member_at c i
            ∷ written c (i + 1) (map method_of_class ts)) ≤ sum_by handlers (m ∷ ts)
        by true here rest head both = omega (arith, rest, head)
        by false here rest head both = omega (arith, here, rest, head, both)

    places_none : (i count : ℕ) → length t.fields + length t.methods ≤ i → sum_by own (places c i count) ≡ 0
    places_none i zero le = refl
    places_none i (suc count) le =
        let here = member_none i le in
        let rest = places_none (i + 1) count (omega (arith, le)) in
        let both = sum_by-cons own (member_at c i) (places c (i + 1) count) in
        omega (arith, here, rest, both)

    class_few : sum_by own (methods_of_class w c) ≤ handlers_of_class t
    class_few =
        let fields = length-map t.fields field_of_class in
        let methods = length-map t.methods method_of_class in
        let front = written_few (length c.fields) 0 t.methods (omega (arith, fields)) (λ j m e. let z : 0 + j
        ≡ j = omega arith in ap (slice_get t.methods) z ∙ e) in
        let back = places_none (length c.fields + length c.methods) (length (added w c)) (omega (
          arith,
          fields,
          methods,
        )) in
        let both = sum_by-append own (written c (length c.fields) c.methods)
        (places c (length c.fields + length c.methods) (length (added w c))) in
        omega (arith, front, back, both)

  -- ---- of all

  in_turn : (cs : List Class) → sum_by own (methods_in_turn w cs) ≡ sum_by (λ c. sum_by own (methods_of_class w c)) cs
  in_turn [] = refl
  in_turn (c ∷ cs) =
      let both = sum_by-append own (methods_of_class w c) (methods_in_turn w cs) in
      let rest = in_turn cs in
      let head = sum_by-cons (λ c. sum_by own (methods_of_class w c)) c cs in
      omega (arith, both, rest, head)

  all_few : sum_by own (method_order w) ≤ sum_by handlers_of_class files.classes
  unfolding method_order
  all_few =
      let turn = in_turn (in_order w false) in
      let ordered = classes_within files (λ c. sum_by own (methods_of_class w c)) in
      let by_files = numbered_most (λ c. sum_by own (methods_of_class w c)) handlers_of_class 0 files.classes
      (λ n t e. let z : 0 + n ≡ n = omega arith in subst (λ k. sum_by own (methods_of_class w (declared k t)) ≤
      handlers_of_class t) (sym z) (class_few n t e)) in
      omega (arith, turn, ordered, by_files)

  by_member : (ms : List LaidMethod) → ((k : ℕ) (m : LaidMethod) → slice_get ms k ≡ Some m
      → handler_count m ≤ own m.member) → sum_by handler_count ms ≤ sum_by own (map (λ (m : LaidMethod). m.member) ms)
  by_member [] all = let z : 0 ≤ 0 = omega arith in z
  by_member (m ∷ ms) all =
      let here = all 0 m refl in
      let rest = by_member ms (λ k x e. all (suc k) x e) in
      let a = sum_by-cons handler_count m ms in
      let b = sum_by-cons own m.member (map (λ (x : LaidMethod). x.member) ms) in
      omega (arith, here, rest, a, b)

  -- the handlers of methods that stand in the order of Method
  pub few : (ms : List LaidMethod) → map (λ (m : LaidMethod). m.member) ms ≡ method_order w → ((k : ℕ) (m : LaidMethod)
      → slice_get ms k ≡ Some m → handler_count m ≤ entries (method_at files m.member))
      → sum_by handler_count ms ≤ sum_by handlers_of_class files.classes
  few ms members all =
      let a = by_member ms all in
      let b = all_few in
      let same : sum_by own (map (λ (m : LaidMethod). m.member) ms) ≡ sum_by own (method_order w) =
      ap (sum_by own) members in
      omega (arith, a, b, same)
