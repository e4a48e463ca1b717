-- Methods that stand in Method have names of their own.
use Rattle.std.proofs.Common.{◌≡◌, ℕ, zero, suc, ◌+◌, ◌-◌, refl, sym, ap, subst, ◌∙◌, arith, Bool, true, false, List}
use Rattle.std.proofs.Common.{[], ◌∷◌, ◌++◌, length}
use Rattle.std.specs.Prelude.{Option, Some, None, slice_get, map, option_map, option_and_then, position, ◌&&◌, ◌||◌}
use Rattle.std.specs.Prelude.{if◌then◌else◌, codes}
use Rattle.std.specs.List.{list_any}
use Rattle.std.specs.Str.{bytes_eq}
use Rattle.std.proofs.lemmas.List.{length-map}
use Rattle.cjc_bytes.specs.declared.fault.MemberId.{MemberId}
use Rattle.cjc_bytes.proofs.Bools.{and_true}
use Rattle.cjc_jvm_semantics.specs.Linked.{Method}
use Rattle.cjc_jvm_semantics.specs.OnePackage.{method_at, method_by, method_in}
use Rattle.cjc_token_proof.proofs.ByToken.Members.{bytes_same, bytes_tell}
use Rattle.cjc_token_proof.specs.Calls.Reaching.{is_in_method, is_same}
use Rattle.cjc_world.specs.ClassFile.Code.{CodeTree}
use Rattle.cjc_world.specs.ClassFile.declared.tree.ClassTree.{ClassTree}
use Rattle.cjc_world.specs.ClassFile.declared.tree.MethodTree.{MethodTree}
use Rattle.cjc_components.specs.Package.{Package, world}
use Rattle.cjc_token_proof.specs.Tables.Sound.{IsSound}
use Rattle.cjc_token_proof.proofs.TablesLaws.Above.{rules_of}
use Rattle.cjc_token_proof.proofs.TablesLaws.Clean.{own_name}
use Rattle.cjc_token_proof.proofs.TablesLaws.Fields.{first_here}
use Rattle.cjc_token_proof.proofs.TablesLaws.Filed.{own_filed}
use Rattle.cjc_token_proof.proofs.TablesLaws.Order.{kind-in}
use Rattle.cjc_world.specs.declared.found.Found.{Found}
use Rattle.cjc_world.specs.Added.{added}
use Rattle.cjc_world.specs.Classes.{Class, Member, class_named, declared, field_of_class, method_of_class}
use Rattle.cjc_world.specs.Lookup.{is_called, member_at}
use Rattle.cjc_world.specs.Order.{in_order, method_order, methods_in_turn, methods_of_class, places, written}
use Rattle.cjc_world.specs.Rules.{is_twice}
use Rattle.cjc_token_proof.specs.WrittenCalls.Standing.{HaveOwnIds}
use Rattle.cjc_token_proof.proofs.WrittenCalls.Begins.{same_found}
use Rattle.cjc_token_proof.proofs.WrittenCalls.Orders.{method_own}
use Rattle.cjc_vtable.proofs.Filed.{get-has}

module _ (w : List Class) where
  -- a method at a place of one of these classes
  pub record Placed (cs : List Class) (f : Found) : Type 0 where
    pub number : ℕ
    pub class : Class
    pub place : ℕ
    pub there : slice_get cs number ≡ Some class
    pub is : f ≡ member_at class (length class.fields + place)

  AllPlaced : List Class → List Found → Type 0
  AllPlaced cs [] = Unit {0}
  AllPlaced cs (f ∷ fs) = Placed cs f × AllPlaced cs fs

  placed_both : (cs : List Class) (fs gs : List Found) → AllPlaced cs fs → AllPlaced cs gs → AllPlaced cs (fs ++ gs)
  unfolding AllPlaced
  placed_both cs [] gs a b = b
  placed_both cs (f ∷ fs) gs a b = (a.0, placed_both cs fs gs a.1 b)

  placed_later : (c : Class) (cs : List Class) (fs : List Found) → AllPlaced cs fs → AllPlaced (c ∷ cs) fs
  unfolding AllPlaced
  placed_later c cs [] a = tt
  placed_later c cs (f ∷ fs) a = (
    record {
      number = suc a.0.number;
      class = a.0.class;
      place = a.0.place;
      there = a.0.there;
      is = a.0.is;
    },
    placed_later c cs fs a.1,
  )

  here : (c : Class) (cs : List Class) (i : ℕ) → Placed (c ∷ cs) (member_at c (length c.fields + i))
  here c cs i = record { number = 0; class = c; place = i; there = refl; is = refl }

  written_placed : (c : Class) (cs : List Class) (at i : ℕ) → at ≡ length c.fields + i → (ms : List Member)
      → AllPlaced (c ∷ cs) (written c at ms)
  unfolding AllPlaced
  written_placed c cs at i e [] = tt
  written_placed c cs at i e (m ∷ ms) = by (bytes_eq m.name (codes "<clinit>")) (written_placed c cs (at + 1) (i + 1)
      (omega (arith, e)) ms)
    where
      by : (t : Bool) → AllPlaced (c ∷ cs) (written c (at + 1) ms) → AllPlaced (c ∷ cs) (if t then written c (at + 1) ms
          else member_at c at ∷ written c (at + 1) ms)
      by true rest = rest
      by false rest = (subst (λ n. Placed (c ∷ cs) (member_at c n)) (sym e) (here c cs i), rest)

  places_placed : (c : Class) (cs : List Class) (at i : ℕ) → at ≡ length c.fields + i → (n : ℕ)
      → AllPlaced (c ∷ cs) (places c at n)
  unfolding AllPlaced
  places_placed c cs at i e zero = tt
  places_placed c cs at i e (suc n) = (
    subst (λ k. Placed (c ∷ cs) (member_at c k)) (sym e) (here c cs i),
    places_placed c cs (at + 1) (i + 1) (omega (arith, e)) n,
  )

  turn_placed : (cs : List Class) → AllPlaced cs (methods_in_turn w cs)
  unfolding AllPlaced
  turn_placed [] = tt
  turn_placed (c ∷ cs) =
      placed_both (c ∷ cs) (methods_of_class w c) (methods_in_turn w cs)
      (placed_both (c ∷ cs) (written c (length c.fields) c.methods) (places c (length c.fields + length c.methods)
      (length (added w c)))
      (written_placed c cs (length c.fields) 0 (omega arith) c.methods)
      (places_placed c cs (length c.fields + length c.methods) (length c.methods) refl (length (added w c))))
      (placed_later c cs (methods_in_turn w cs) (turn_placed cs))

  same_placed : (cs : List Class) (f : Found) (fs : List Found) → AllPlaced cs fs → ((k : ℕ) (g : Found)
      → slice_get fs k ≡ Some g → g.imported ≡ false) → f.imported ≡ false → list_any (is_same f) fs ≡ true
      → Placed cs f
  unfolding AllPlaced
  same_placed cs f [] all own f_own any = absurd (cc)
  same_placed cs f (g ∷ fs) all own f_own any =
      by (is_same f g) refl any (same_placed cs f fs all.1 (λ k h e. own (suc k) h e) f_own)
    where
      by : (t : Bool) → is_same f g ≡ t → (t || list_any (is_same f) fs) ≡ true → (list_any (is_same f) fs ≡ true
          → Placed cs f) → Placed cs f
      by true is e rest = subst (Placed cs) (same_found f g f_own (own 0 g refl) is) all.0
      by false is e rest = rest e

  pub in_method_placed : (f : Found) → f.imported ≡ false → is_in_method w f ≡ true → Placed (in_order w false) f
  unfolding method_order
  in_method_placed f f_own any = same_placed (in_order w false) f (methods_in_turn w (in_order w false))
      (turn_placed (in_order w false)) (method_own w) f_own any

-- ---- methods of class files

abbrev id_of : ClassTree → MethodTree → MemberId
id_of t m = record { class = t.name; name = m.name; desc = m.desc }

by_id : (t : ClassTree) (m : MethodTree) (o : Option CodeTree) → (method_by t m o).id ≡ id_of t m
by_id t m None = refl
by_id t m (Some code) = refl

get_method : (ms : List MethodTree) (k : ℕ) (m : MethodTree) → slice_get ms k ≡ Some m
    → slice_get (map method_of_class ms) k ≡ Some (method_of_class m)
get_method [] k m e = absurd (cc)
get_method (n ∷ ms) zero m e = let same : n ≡ m = cc in ap (λ q. Some (method_of_class q)) same
get_method (n ∷ ms) (suc k) m e = get_method ms k m e

-- none stands behind another one of its name and descriptor
once : (ms : List MethodTree) (k : ℕ) (m : MethodTree) → slice_get ms k ≡ Some m
    → is_twice (map method_of_class ms) k m.name m.desc ≡ false → position (λ (q : Member). is_called m.name m.desc q)
    (map method_of_class ms) ≡ Some k
unfolding is_twice
once ms k m e rule = first_here (λ (q : Member). is_called m.name m.desc q) (map method_of_class ms) k
    (method_of_class m) (get_method ms k m e) (ap (λ t. t && bytes_eq m.desc m.desc) (bytes_same m.name)
    ∙ bytes_same m.desc) rule

module _ (list : List ℕ) (p : Package) (sound : IsSound list p.files) where
  abbrev v : List Class
  v = world p

  -- a method of a class file, where it stands
  record OfFile (f : Found) (m : Method) : Type 0 where
    number : ℕ
    tree : ClassTree
    place : ℕ
    method : MethodTree
    in_list : slice_get p.files.classes number ≡ Some tree
    is : f ≡ record { imported = false; class = number; member = length tree.fields + place }
    there : slice_get tree.methods place ≡ Some method
    id : m.id ≡ id_of tree method
    known : class_named v tree.name ≡ Some (declared number tree)

  with_method : {f : Found} {m : Method} (n : ℕ) (tree : ClassTree) (i : ℕ) → slice_get p.files.classes n ≡ Some tree
      → f ≡ record { imported = false; class = n; member = length tree.fields + i } → class_named v tree.name
      ≡ Some (declared n tree)
      → (o : Option MethodTree) → slice_get tree.methods i ≡ o
      → option_map (λ (q : MethodTree). method_by tree q q.code) o ≡ Some m → OfFile f m
  with_method n tree i in_list stands named None there found = absurd (cc)
  with_method {m = m} n tree i in_list stands named (Some method) there found =
      let same : method_by tree method method.code ≡ m = cc in
      record {
        number = n;
        tree = tree;
        place = i;
        method = method;
        in_list = in_list;
        is = stands;
        there = there;
        id = sym (ap (λ (q : Method). q.id) same) ∙ by_id tree method method.code;
        known = named;
      }

  of_file : (f : Found) (m : Method) → is_in_method v f ≡ true → method_at p.files f ≡ Some m → OfFile f m
  of_file f m any is_method =
      let own = f_own f.imported refl is_method in
      let pl = in_method_placed v f own any in
      let k = kind-in list p.files sound false pl.class (get-has pl.class (in_order v false) pl.number pl.there) in
      let filed = own_filed p.files sound.classes sound.exports pl.class k.0 k.1 in
      let n = filed.0 in
      let tree = filed.1 in
      let stands : f ≡ record { imported = false; class = n; member = length tree.fields + pl.place } =
      pl.is ∙ ap (λ (c : Class). member_at c (length c.fields + pl.place)) filed.3
      ∙ ap (λ l. record { imported = false; class = n; member = l + pl.place }) (length-map tree.fields
      field_of_class) in
      let left : length tree.fields + pl.place - length tree.fields ≡ pl.place = omega arith in
      let found : option_map (λ (q : MethodTree). method_by tree q q.code) (slice_get tree.methods pl.place) ≡ Some m =
      ap (λ i. option_map (λ (q : MethodTree). method_by tree q q.code) (slice_get tree.methods i)) (sym left)
      ∙ sym (ap (option_and_then (method_in (length tree.fields + pl.place))) filed.2)
      ∙ sym (ap (method_at p.files) stands)
      ∙ is_method in
      let named : class_named v tree.name ≡ Some (declared n tree) = ap (λ (c : Class). class_named v c.name)
      (sym filed.3) ∙ own_name list p.files sound pl.class k.0 ∙ ap Some filed.3 in
      with_method n tree pl.place filed.2 stands named (slice_get tree.methods pl.place) refl found
    where
      f_own : (t : Bool) → f.imported ≡ t
          → (if t then None else option_and_then (method_in f.member) (slice_get p.files.classes f.class)) ≡ Some m
          → f.imported ≡ false
      f_own true is h = absurd (cc)
      f_own false is h = is

  pub own_ids : HaveOwnIds p
  own_ids f g m k in_f in_g is_f is_g ids =
      let a = of_file f m in_f is_f in
      let b = of_file g k in_g is_g in
      let two = and_true (bytes_eq k.id.class m.id.class) (bytes_eq k.id.name m.id.name && bytes_eq k.id.desc m.id.desc)
      ids in
      let three = and_true (bytes_eq k.id.name m.id.name) (bytes_eq k.id.desc m.id.desc) two.1 in
      let class_same : b.tree.name ≡ a.tree.name = sym (ap (λ (q : MemberId). q.class) b.id)
      ∙ bytes_tell k.id.class m.id.class two.0 ∙ ap (λ (q : MemberId). q.class) a.id in
      let name_same : b.method.name ≡ a.method.name = sym (ap (λ (q : MemberId). q.name) b.id)
      ∙ bytes_tell k.id.name m.id.name three.0 ∙ ap (λ (q : MemberId). q.name) a.id in
      let desc_same : b.method.desc ≡ a.method.desc = sym (ap (λ (q : MemberId). q.desc) b.id)
      ∙ bytes_tell k.id.desc m.id.desc three.1 ∙ ap (λ (q : MemberId). q.desc) a.id in
      let both : Some (declared b.number b.tree) ≡ Some (declared a.number a.tree) = sym b.known
      ∙ ap (class_named v) class_same ∙ a.known in
      let one : declared b.number b.tree ≡ declared a.number a.tree = cc in
      let number_same : b.number ≡ a.number = ap (λ (q : Class). q.number) one in
      let trees : Some b.tree ≡ Some a.tree = sym b.in_list ∙ ap (slice_get p.files.classes) number_same ∙ a.in_list in
      let tree_same : b.tree ≡ a.tree = cc in
      let rules = rules_of list p sound a.tree.name (declared a.number a.tree) a.known in
      let first_a = once a.tree.methods a.place a.method a.there (rules.methods a.place (method_of_class a.method)
      (get_method a.tree.methods a.place a.method a.there)) in
      let there_b : slice_get a.tree.methods b.place ≡ Some b.method =
      sym (ap (λ (q : ClassTree). slice_get q.methods b.place) tree_same) ∙ b.there in
      let first_b = once a.tree.methods b.place b.method there_b (rules.methods b.place (method_of_class b.method)
      (get_method a.tree.methods b.place b.method there_b)) in
      let places_same : Some a.place ≡ Some b.place =
      sym first_a ∙ ap (λ x. position (λ (q : Member). is_called x a.method.desc q)
      (map method_of_class a.tree.methods)) (sym name_same)
      ∙ ap (λ x. position (λ (q : Member). is_called b.method.name x q) (map method_of_class a.tree.methods))
      (sym desc_same) ∙ first_b in
      let place_same : a.place ≡ b.place = cc in
      a.is
      ∙ ap (λ (q : ClassTree). record { imported = false; class = a.number; member = length q.fields + a.place })
      (sym tree_same)
      ∙ ap (λ i. record { imported = false; class = a.number; member = length b.tree.fields + i }) place_same
      ∙ ap (λ i. record { imported = false; class = i; member = length b.tree.fields + b.place }) (sym number_same)
      ∙ sym b.is
