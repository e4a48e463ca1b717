-- The first of the export files above an imported class that lists a method is that of the first class above it that
-- has the method: going upwards
-- over names, each once, meets classes in the order of the tree of what stands above.
use Rattle.std.proofs.Common.{◌≡◌, ℕ, zero, suc, ◌+◌, ◌≤◌, refl, sym, ap, subst, ◌∙◌, arith, Bool, true, false, List}
use Rattle.std.proofs.Common.{[], ◌∷◌, ◌++◌, length, inl, inr}
use Rattle.std.specs.Prelude.{◌⊎◌, Option, Some, None, option_map, ◌&&◌, ◌||◌, if◌then◌else◌}
use Rattle.std.specs.Str.{bytes_eq}
use Rattle.std.proofs.lemmas.List.{append-nil, length-append}
use Rattle.std.proofs.lemmas.Bool.{or_left, or_right}
use Rattle.cjc_bytes.specs.AccessFlags.{is_static}
use Rattle.cjc_bytes.specs.declared.fault.MemberId.{MemberId}
use Rattle.cjc_bytes.proofs.Bools.{or_cases}
use Rattle.cjc_token_proof.proofs.ByToken.Members.{bytes_same, bytes_tell}
use Rattle.cjc_token_proof.specs.Calls.Selecting.{signature}
use Rattle.cjc_card_semantics.specs.Machine.Calls.{listed_token, token_in_files}
use Rattle.cjc_card_semantics.specs.Machine.Classes.{or_else}
use Rattle.cjc_components.specs.Package.{Package, world}
use Rattle.cjc_world.specs.ExportFile.declared.tree.ExportClass.{ExportClass}
use Rattle.cjc_world.specs.ExportFile.declared.tree.ExportMethod.{ExportMethod}
use Rattle.cjc_world.specs.ExportFile.Supers.{is_one_of, super_count, upwards_from, with_class}
use Rattle.cjc_world.proofs.ExportFileUpwards.{one_cases, one_here}
use Rattle.cjc_world.specs.ExportFile.Supers as exports
use Rattle.cjc_tokens.specs.Members.{chosen, is_initialiser, is_virtual}
use Rattle.cjc_vtable.specs.Calls.{any_method}
use Rattle.cjc_world.specs.Classes.{Class, Member, class_named, imported, method_of_export}
use Rattle.cjc_world.specs.Supertypes.{Above, AreSupertypes, IsAcyclic, Supertypes, End, Known, Lists, Unknown, after}
use Rattle.cjc_world.specs.Supertypes.{directly, ends, foremost, supertypes, known_here, onwards, stands_by_supers}
use Rattle.cjc_world.specs.Supertypes.{unknown_here}
use Rattle.cjc_world.proofs.Cycles.{class_named-name}
use Rattle.cjc_world.specs.Supertypes as supertype_trees
use Rattle.cjc_token_proof.proofs.WrittenCalls.Facts.{Facts, exported}
use Rattle.cjc_token_proof.proofs.WrittenCalls.Files.{export_virtual}

-- ---- options and tests

else_assoc : {A : Type 0} (a b c : Option A) → or_else (or_else a b) c ≡ or_else a (or_else b c)
else_assoc None b c = refl
else_assoc (Some x) b c = refl

else_none : {A : Type 0} (a : Option A) → or_else a None ≡ a
else_none None = refl
else_none (Some x) = refl

both_none : {A : Type 0} (a b : Option A) → or_else a b ≡ None → (a ≡ None) × (b ≡ None)
both_none None b e = (refl, e)
both_none (Some x) b e = absurd (cc)

-- ---- how many supers are left, of classes whose names were not passed

abbrev load : Bool → ℕ → ℕ
load true n = 0
load false n = n

abbrev weight : (passed : List (List ℕ)) → List ExportClass → ℕ
weight passed [] = 0
weight passed (c ∷ classes) = load (is_one_of passed c.name) (length c.supers) + weight passed classes

weight_is : (classes : List ExportClass) → weight [] classes ≡ super_count classes
weight_is [] = refl
weight_is (c ∷ classes) = ap (λ n. length c.supers + n) (weight_is classes)

load_less : (a b : Bool) (n : ℕ) → load (a || b) n ≤ load b n
load_less true true n = omega arith
load_less true false n = omega arith
load_less false b n = omega arith

weight_less : (x : List ℕ) (passed : List (List ℕ)) (classes : List ExportClass)
    → weight (x ∷ passed) classes ≤ weight passed classes
weight_less x passed [] = omega arith
weight_less x passed (c ∷ classes) = omega (
  arith,
  load_less (bytes_eq x c.name) (is_one_of passed c.name)
      (length c.supers),
  weight_less x passed classes,
)

weight_drop : (x : List ℕ) (passed : List (List ℕ)) (classes : List ExportClass) (c : ExportClass)
    → exports.class_named classes x ≡ Some c → is_one_of passed x ≡ false
    → length c.supers + weight (x ∷ passed) classes ≤ weight passed classes
weight_drop x passed [] c e f = absurd (cc)
weight_drop x passed (d ∷ classes) c e f = go (bytes_eq d.name x) refl e (λ g. weight_drop x passed classes c g f)
  where
    here : d ≡ c → d.name ≡ x → length c.supers + weight (x ∷ passed) (d ∷ classes) ≤ weight passed (d ∷ classes)
    here same is =
        let first : load (is_one_of (x ∷ passed) d.name) (length d.supers) ≡ 0 = ap (λ b. load b (length d.supers))
        (ap (λ z. is_one_of (x ∷ passed) z) is ∙ one_here x passed) in
        let second : load (is_one_of passed d.name) (length d.supers) ≡ length d.supers =
        ap (λ b. load b (length d.supers)) (ap (λ z. is_one_of passed z) is ∙ f) in
        let size : length c.supers ≡ length d.supers = ap (λ (k : ExportClass). length k.supers) (sym same) in
        omega (arith, first, second, size, weight_less x passed classes)

    go : (b : Bool) → bytes_eq d.name x ≡ b → (if b then Some d else exports.class_named classes x) ≡ Some c
        → (exports.class_named classes x ≡ Some c → length c.supers + weight (x ∷ passed) classes ≤ weight passed
        classes)
        → length c.supers + weight (x ∷ passed) (d ∷ classes) ≤ weight passed (d ∷ classes)
    go true g h rest = let same : d ≡ c = cc in here same (bytes_tell d.name x g)
    go false g h rest = omega (arith, rest h, load_less (bytes_eq x d.name) (is_one_of passed d.name) (length d.supers))

-- ---- what classes say of a method

-- the token of its first method of a name and descriptor, or that this one is no virtual method
abbrev pub class_token : MemberId → Class → Option (Option ℕ)
class_token id d = option_map (λ (m : Member). if is_virtual m then Some m.token
    else None) (chosen any_method (signature id) d.methods)

-- of the first class that has one
abbrev pub classes_token : MemberId → List Class → Option (Option ℕ)
classes_token id [] = None
classes_token id (d ∷ ds) = or_else (class_token id d) (classes_token id ds)

-- a class of an export file says what the file lists
pub listed_is : (id : MemberId) (k : ℕ) (e : ExportClass) → ((j : ℕ) (m : ExportMethod)
    → Rattle.std.specs.Prelude.slice_get e.methods j ≡ Some m → is_initialiser m.name ≡ true → is_static m.flags ≡ true)
    → listed_token e.methods id ≡ class_token id (imported k e)
listed_is id k e plain = by e.methods plain
  where
    by : (ms : List ExportMethod) → ((j : ℕ) (m : ExportMethod) → Rattle.std.specs.Prelude.slice_get ms j ≡ Some m
        → is_initialiser m.name ≡ true → is_static m.flags ≡ true)
        → listed_token ms id ≡ option_map (λ (m : Member). if is_virtual m then Some m.token
        else None) (chosen any_method (signature id) (Rattle.std.specs.Prelude.map method_of_export ms))
    by [] all = refl
    by (m ∷ ms) all = split (bytes_eq m.name id.name && bytes_eq m.desc id.desc) (by ms (λ j o h. all (suc j) o h))
      where
        split : (t : Bool) → listed_token ms id ≡ option_map (λ (o : Member). if is_virtual o then Some o.token
            else None) (chosen any_method (signature id) (Rattle.std.specs.Prelude.map method_of_export ms))
            → (if t then Some (if exports.is_virtual m then Some m.token else None) else listed_token ms id)
            ≡ option_map (λ (o : Member). if is_virtual o then Some o.token else None) (if t
            then Some (method_of_export m) else chosen any_method (signature id) (Rattle.std.specs.Prelude.map
            method_of_export ms))
        split true rest = ap (λ b. Some (if b then Some m.token else None)) (export_virtual m (all 0 m refl))
        split false rest = rest

-- the first answer of classes of export files, and of classes
abbrev pub first_file : {A : Type 0} → (ExportClass → Option A) → List ExportClass → Option A
first_file answer [] = None
first_file answer (u ∷ us) = or_else (answer u) (first_file answer us)

abbrev pub first_class : {A : Type 0} → (Class → Option A) → List Class → Option A
first_class answer [] = None
first_class answer (d ∷ ds) = or_else (answer d) (first_class answer ds)

first_both : {A : Type 0} (answer : Class → Option A) (ds fs : List Class) → first_class answer (ds ++ fs)
    ≡ or_else (first_class answer ds) (first_class answer fs)
first_both answer [] fs = refl
first_both answer (d ∷ ds) fs = ap (or_else (answer d)) (first_both answer ds fs)
    ∙ sym (else_assoc (answer d) (first_class answer ds) (first_class answer fs))

files_token_is : (id : MemberId) (us : List ExportClass) → token_in_files us id ≡ first_file (λ (u : ExportClass).
    listed_token u.methods id) us
files_token_is id [] = refl
files_token_is id (u ∷ us) = ap (or_else (listed_token u.methods id)) (files_token_is id us)

classes_token_is : (id : MemberId) (ds : List Class) → first_class (class_token id) ds ≡ classes_token id ds
classes_token_is id [] = refl
classes_token_is id (d ∷ ds) = ap (or_else (class_token id d)) (classes_token_is id ds)

-- What a world has of the classes of export files: each is an imported class there, and each imported class is one of
-- them, which lists imported classes alone.
pub record HasFiles (w : List Class) (es : List ExportClass) : Type 0 where
  pub are_supertypes : (xs : List (List ℕ)) → AreSupertypes w xs (supertypes w xs)
  pub one_supertypes : (xs : List (List ℕ)) (j k : Supertypes) → AreSupertypes w xs j → AreSupertypes w xs k → j ≡ k
  pub acyclic : IsAcyclic w
  pub apart : (x y : List ℕ) (c d : Class) → class_named w x ≡ Some c → c.is_imported ≡ true → Lists y c.supers
      → class_named w y ≡ Some d → d.is_imported ≡ true
  pub of_file : (y : List ℕ) (e : ExportClass) → exports.class_named es y ≡ Some e → (k : ℕ)
      × (class_named w y ≡ Some (imported k e))
  pub in_file : (y : List ℕ) (d : Class) → class_named w y ≡ Some d → d.is_imported ≡ true → (k : ℕ)
      × (e : ExportClass) × (exports.class_named es y ≡ Some e) × (d ≡ imported k e)

-- What classes answer, and what the classes of export files answer alike.
module _ {A : Type 0} (w : List Class) (es : List ExportClass) (facts : HasFiles w es)
    (of_file : ExportClass → Option A) (answer : Class → Option A) (alike : (y : List ℕ) (k : ℕ) (e : ExportClass)
    → exports.class_named es y ≡ Some e → of_file e ≡ answer (imported k e)) where
  -- what the classes of a tree say, over supers
  abbrev tree_answer : Supertypes → Option A
  tree_answer k = first_class answer (supertype_trees.upwards k)

  known_answer : (c : Class) (supers interfaces next : Supertypes) → tree_answer (Known c supers interfaces next)
      ≡ or_else (answer c) (or_else (tree_answer supers) (tree_answer next))
  known_answer c supers interfaces next =
      ap (or_else (answer c)) (first_both answer (supertype_trees.upwards supers) (supertype_trees.upwards next))

  -- ---- trees of one name

  unknown_alone : (x : List ℕ) → class_named w x ≡ None → tree_answer (supertypes w (x ∷ [])) ≡ None
  unknown_alone x none = ap tree_answer (facts.one_supertypes (x ∷ []) (supertypes w (x ∷ [])) (Unknown x End)
      (facts.are_supertypes (x ∷ [])) (unknown_here none ends))

  known_alone : (x : List ℕ) (c : Class) (supers interfaces : Supertypes) → class_named w x ≡ Some c
      → AreSupertypes w c.supers supers → AreSupertypes w c.interfaces interfaces → tree_answer (supertypes w (x ∷ []))
      ≡ or_else (answer c) (tree_answer supers)
  known_alone x c supers interfaces e ks ki =
      ap tree_answer (facts.one_supertypes (x ∷ []) (supertypes w (x ∷ [])) (Known c supers interfaces End)
      (facts.are_supertypes (x ∷ [])) (known_here e ks ki ends))
      ∙ known_answer c supers interfaces End
      ∙ ap (or_else (answer c)) (else_none (tree_answer supers))

  -- what stands in a tree without the method has none itself
  subtree : (xs : List (List ℕ)) (k : Supertypes) → AreSupertypes w xs k → tree_answer k ≡ None → (z : List ℕ)
      → stands_by_supers z k ≡ true → tree_answer (supertypes w (z ∷ [])) ≡ None
  subtree xs k ends none z s = absurd (cc)
  subtree xs k (unknown_here {x = x} {next = next} nowhere rest) none z s =
      elim (or_cases (bytes_eq x z) (stands_by_supers z next) s) [
        | inl same ↦ unknown_alone z (ap (class_named w) (sym (bytes_tell x z same)) ∙ nowhere)
        | inr h ↦ subtree _ next rest none z h
      ]
  subtree xs k (known_here {x = x} {c = c} {supers = supers} {interfaces = interfaces} {next = next} e ks ki kn) none z
      s =
      let parts = both_none (answer c) (or_else (tree_answer supers) (tree_answer next))
      (sym (known_answer c supers interfaces next) ∙ none) in
      let two = both_none (tree_answer supers) (tree_answer next) parts.1 in
      elim (or_cases (bytes_eq c.name z || stands_by_supers z supers) (stands_by_supers z next) s) [
        | inl h ↦ elim (or_cases (bytes_eq c.name z) (stands_by_supers z supers) h) [
          | inl same ↦ (
              let named_z : class_named w z ≡ Some c = ap (class_named w) (sym (bytes_tell c.name z same)
              ∙ class_named-name w x c e) ∙ e in
              known_alone z c supers interfaces named_z ks ki ∙ ap (λ o. or_else o (tree_answer supers)) parts.0 ∙
              two.0)
          | inr g ↦ subtree c.supers supers ks two.0 z g
        ]
        | inr g ↦ subtree _ next kn two.1 z g
      ]

  -- ---- no class stands above itself

  lists_front : (x : List ℕ) (xs ys : List (List ℕ)) → Lists x xs → Lists x (xs ++ ys)
  lists_front x [] ys h = elim h [ ]
  lists_front x (y ∷ xs) ys foremost = foremost
  lists_front x (y ∷ xs) ys (after h) = after (lists_front x xs ys h)

  stands_above : (xs : List (List ℕ)) (k : Supertypes) → AreSupertypes w xs k → (z : List ℕ) → stands_by_supers z k
      ≡ true → Lists z xs ⊎ ((y : List ℕ) × Lists y xs × Above w y z)
  stands_above xs k ends z s = absurd (cc)
  stands_above xs k (unknown_here {x = x} {xs = xs'} {next = next} nowhere rest) z s =
      elim (or_cases (bytes_eq x z) (stands_by_supers z next) s) [
        | inl same ↦ inl (subst (λ v. Lists v (x ∷ xs')) (bytes_tell x z same) foremost)
        | inr h ↦ elim (stands_above _ next rest z h) [ inl g ↦ inl (after g) | inr g ↦ inr (g.0, after g.1, g.2) ]
      ]
  stands_above xs k (known_here {x = x} {xs = xs'} {c = c} {supers = supers} {interfaces = interfaces} {next = next} e
      ks ki kn) z s =
      elim (or_cases (bytes_eq c.name z || stands_by_supers z supers) (stands_by_supers z next) s) [
        | inl h ↦ elim (or_cases (bytes_eq c.name z) (stands_by_supers z supers) h) [
          | inl same ↦ inl (subst (λ v. Lists v (x ∷ xs')) (sym (class_named-name w x c e)
              ∙ bytes_tell c.name z same) foremost)
          | inr g ↦ elim (stands_above c.supers supers ks z g) [
            | inl listed ↦ inr (x, foremost, directly c e (lists_front z c.supers c.interfaces listed))
            | inr up ↦ inr (x, foremost, onwards c e (lists_front up.0 c.supers c.interfaces up.1) up.2)
          ]
        ]
        | inr g ↦ elim (stands_above _ next kn z g) [
          | inl listed ↦ inl (after listed)
          | inr up ↦ inr (
            up.0,
            after up.1,
            up.2,
          )
        ]
      ]

  not_itself : (x : List ℕ) (c : Class) (supers : Supertypes) → class_named w x ≡ Some c
      → AreSupertypes w c.supers supers → stands_by_supers x supers ≡ true → ⊥
  not_itself x c supers e ks s = elim (stands_above c.supers supers ks x s) [
    | inl listed ↦ facts.acyclic x (directly c e (lists_front x c.supers c.interfaces listed))
    | inr up ↦ facts.acyclic x (onwards c e (lists_front up.0 c.supers c.interfaces up.1) up.2)
  ]

  -- ---- the walk

  -- a name that was passed and stands in the tree has no class above it with the method
  abbrev Clean : (passed : List (List ℕ)) → Supertypes → Type 0
  Clean passed k = (z : List ℕ) → is_one_of passed z ≡ true → stands_by_supers z k ≡ true
      → tree_answer (supertypes w (z ∷ [])) ≡ None

  -- What is found upwards from the names of a tree and others: what the tree says, else what is found from the others.
  record Walked (k : Supertypes) (passed names : List (List ℕ)) (o : Option A) : Type 0 where
    fuel : ℕ
    gone : List (List ℕ)
    room : length names + weight gone es ≤ fuel
    is : o ≡ or_else (tree_answer k) (first_file of_file (upwards_from es fuel gone names))
    from : (z : List ℕ) → is_one_of gone z ≡ true → (is_one_of passed z ≡ true) ⊎ (stands_by_supers z k ≡ true)

  -- where the tree says something, the others do not matter
  found_there : (k : Supertypes) (passed gone names : List (List ℕ)) (o : Option A) (v : A) → o ≡ Some v
      → tree_answer k ≡ Some v → ((z : List ℕ) → is_one_of gone z ≡ true → (is_one_of passed z ≡ true)
      ⊎ (stands_by_supers z k ≡ true)) → Walked k passed names o
  found_there k passed gone names o v here there from = record {
    fuel = length names + weight gone es;
    gone = gone;
    room = omega arith;
    is = here ∙ sym (ap (λ q. or_else q (first_file of_file (upwards_from es (length names + weight gone es) gone
        names)))
        there);
    from = from;
  }

  abbrev AllImported : List (List ℕ) → Type 0
  AllImported xs = (x : List ℕ) (d : Class) → Lists x xs → class_named w x ≡ Some d → d.is_imported ≡ true

  no_file : (x : List ℕ) → class_named w x ≡ None → exports.class_named es x ≡ None
  no_file x none = by (exports.class_named es x) refl
    where
      by : (o : Option ExportClass) → exports.class_named es x ≡ o → exports.class_named es x ≡ None
      by None e = e
      by (Some u) e = let f = facts.of_file x u e in let clash : None ≡ Some (imported f.0 u) = sym none ∙ f.1
          in absurd (cc)

  walk : (xs : List (List ℕ)) (k : Supertypes) → AreSupertypes w xs k → AllImported xs
      → (n : ℕ) (passed names : List (List ℕ)) → length (xs ++ names) + weight passed es ≤ n → Clean passed k
      → Walked k passed names (first_file of_file (upwards_from es n passed (xs ++ names)))
  unfolding upwards_from
  walk xs k ends own n passed names room clean = record {
    fuel = n;
    gone = passed;
    room = room;
    is = refl;
    from = λ z h. inl h;
  }
  walk xs k (unknown_here {x = x} nowhere rest) own zero passed names room clean = absurd (omega (arith, room))
  walk xs k (unknown_here {x = x} {xs = xs'} {next = next} nowhere rest) own (suc n) passed names room clean =
      by (λ gone fits clean_next. walk xs' next rest (λ y d h. own y d (after h)) n gone names fits clean_next)
      (is_one_of passed x) refl
    where
      inside : (z : List ℕ) → stands_by_supers z next ≡ true → stands_by_supers z (Unknown x next) ≡ true
      inside z h = or_right (bytes_eq x z) (stands_by_supers z next) h

      fresh : Clean (x ∷ passed) next
      fresh z h g = elim (one_cases x passed z h) [
        | inl same ↦ unknown_alone z (ap (class_named w) (sym same) ∙ nowhere)
        | inr there ↦ clean z there (inside z g)
      ]

      kept : (gone : List (List ℕ)) (z : List ℕ) → (is_one_of (x ∷ passed) z ≡ true) ⊎ (stands_by_supers z next ≡ true)
          → (is_one_of passed z ≡ true) ⊎ (stands_by_supers z (Unknown x next) ≡ true)
      kept gone z h = elim h [
        | inl there ↦ elim (one_cases x passed z there) [
          | inl same ↦ inr (ap (λ y. bytes_eq x y
              || stands_by_supers y next) (sym same) ∙ or_left (bytes_eq x x) (stands_by_supers x next) (bytes_same x))
          | inr g ↦ inl g
        ]
        | inr g ↦ inr (inside z g)
      ]

      by : ((gone : List (List ℕ)) → length (xs' ++ names) + weight gone es ≤ n → Clean gone next
          → Walked next gone names (first_file of_file (upwards_from es n gone (xs' ++ names))))
          → (t : Bool) → is_one_of passed x ≡ t → Walked (Unknown x next) passed names (first_file of_file (if t
          then upwards_from es n passed (xs' ++ names) else with_class (exports.class_named es x) (xs'
          ++ names) (λ more. upwards_from es n (x ∷ passed) more)))
      by on true here =
          let r = on passed (omega (arith, room)) (λ z h g. clean z h (inside z g)) in
          record {
            fuel = r.fuel;
            gone = r.gone;
            room = r.room;
            is = r.is;
            from = λ z h. elim (r.from z h) [ inl there ↦ inl there | inr g ↦ inr (inside z g) ];
          }
      by on false here =
          let r = on (x ∷ passed) (omega (arith, room, weight_less x passed es)) fresh in
          record {
            fuel = r.fuel;
            gone = r.gone;
            room = r.room;
            is = ap (λ o. first_file of_file (with_class o (xs' ++ names) (λ more. upwards_from es n (x ∷ passed)
                more)))
                (no_file x nowhere) ∙ r.is;
            from = λ z h. kept r.gone z (r.from z h);
          }
  walk xs k (known_here {x = x} e ks ki kn) own zero passed names room clean = absurd (omega (arith, room))
  walk xs k (known_here {x = x} {xs = xs'} {c = c} {supers = supers} {interfaces = interfaces} {next = next} e ks ki kn)
      own (suc n) passed names room clean =
      by (λ gone m fits clean_next. walk xs' next kn (λ y d h. own y d (after h)) m gone names fits clean_next)
      (λ fits clean_above. walk c.supers supers ks super_imported n (x ∷ passed) (xs' ++ names) fits clean_above)
      (is_one_of passed x) refl
    where
      import : c.is_imported ≡ true
      import = own x c foremost e

      in_supers : (z : List ℕ) → stands_by_supers z supers ≡ true → stands_by_supers z (Known c supers interfaces next)
          ≡ true
      in_supers z h = or_left (bytes_eq c.name z || stands_by_supers z supers) (stands_by_supers z next)
          (or_right (bytes_eq c.name z) (stands_by_supers z supers) h)

      in_next : (z : List ℕ) → stands_by_supers z next ≡ true → stands_by_supers z (Known c supers interfaces next)
          ≡ true
      in_next z h = or_right (bytes_eq c.name z || stands_by_supers z supers) (stands_by_supers z next) h

      itself : stands_by_supers x (Known c supers interfaces next) ≡ true
      itself = or_left (bytes_eq c.name x || stands_by_supers x supers) (stands_by_supers x next)
          (or_left (bytes_eq c.name x) (stands_by_supers x supers) (ap (bytes_eq c.name) (sym
          (class_named-name w x c e))
          ∙ bytes_same c.name))

      itself_at : (z : List ℕ) → x ≡ z → stands_by_supers z (Known c supers interfaces next) ≡ true
      itself_at z same = ap (λ y. stands_by_supers y (Known c supers interfaces next)) (sym same) ∙ itself

      super_imported : AllImported c.supers
      super_imported y d h f = facts.apart x y c d e import h f

      passed_more : (z : List ℕ) → is_one_of (x ∷ passed) z ≡ true → (is_one_of passed z ≡ true)
          ⊎ (stands_by_supers z (Known c supers interfaces next) ≡ true)
      passed_more z h = elim (one_cases x passed z h) [ inl same ↦ inr (itself_at z same) | inr g ↦ inl g ]

      -- it was passed: nothing above it has the method
      skipped : is_one_of passed x ≡ true
          → Walked next passed names (first_file of_file (upwards_from es n passed (xs' ++ names)))
          → Walked (Known c supers interfaces next) passed names (first_file of_file (upwards_from es n passed (xs' ++
          names)))
      skipped here r =
          let alone = sym (known_alone x c supers interfaces e ks ki) ∙ clean x here itself in
          let parts = both_none (answer c) (tree_answer supers) alone in
          let same : tree_answer (Known c supers interfaces next) ≡ tree_answer next =
          known_answer c supers interfaces next ∙ ap (λ o. or_else o (or_else (tree_answer supers) (tree_answer next)))
          parts.0 ∙ ap (λ o. or_else o (tree_answer next)) parts.1 in
          record {
            fuel = r.fuel;
            gone = r.gone;
            room = r.room;
            is = r.is
                ∙ ap (λ o. or_else o (first_file of_file (upwards_from es r.fuel r.gone names))) (sym same);
            from = λ z h. elim (r.from z h) [ inl there ↦ inl there | inr g ↦ inr (in_next z g) ];
          }

      -- it is met, and has no such method itself
      visited : is_one_of passed x ≡ false → answer c ≡ None → Walked supers (x ∷ passed) (xs'
          ++ names) (first_file of_file (upwards_from es n (x ∷ passed) (c.supers ++ (xs' ++ names))))
          → ((gone : List (List ℕ)) (m : ℕ) → length (xs' ++ names) + weight gone es ≤ m → Clean gone next
          → Walked next gone names (first_file of_file (upwards_from es m gone (xs' ++ names))))
          → Walked (Known c supers interfaces next) passed names (first_file of_file (upwards_from es n (x ∷ passed)
          (c.supers
          ++ (xs' ++ names))))
      visited out none r onwards_from = split (tree_answer supers) refl
        where
          gone_from : (z : List ℕ) → is_one_of r.gone z ≡ true → (is_one_of passed z ≡ true)
              ⊎ (stands_by_supers z (Known c supers interfaces next) ≡ true)
          gone_from z h = elim (r.from z h) [ inl there ↦ passed_more z there | inr g ↦ inr (in_supers z g) ]

          split : (o : Option A) → tree_answer supers ≡ o → Walked (Known c supers interfaces next) passed names
              (first_file of_file (upwards_from es n (x ∷ passed) (c.supers ++ (xs' ++ names))))
          split (Some v) has =
              found_there (Known c supers interfaces next) passed r.gone names
              (first_file of_file (upwards_from es n (x ∷ passed) (c.supers ++ (xs' ++ names)))) v
              (r.is ∙ ap (λ o. or_else o (first_file of_file (upwards_from es r.fuel r.gone (xs' ++ names)))) has)
              (known_answer c supers interfaces next
              ∙ ap (λ o. or_else o (or_else (tree_answer supers) (tree_answer next))) none
              ∙ ap (λ o. or_else o (tree_answer next)) has)
              gone_from
          split None has =
              let alone : tree_answer (supertypes w (x ∷ [])) ≡ None = known_alone x c supers interfaces e ks ki
              ∙ ap (λ o. or_else o (tree_answer supers)) none ∙ has in
              let clean_next : Clean r.gone next = λ z h g. elim (r.from z h) [
                | inl there ↦ elim (one_cases x passed z there) [
                  | inl same ↦ ap (λ y. tree_answer (supertypes w (y ∷ []))) (sym same) ∙ alone
                  | inr f ↦ clean z f (in_next z g)
                ]
                | inr f ↦ subtree c.supers supers ks has z f
              ] in
              let q = onwards_from r.gone r.fuel r.room clean_next in
              record {
                fuel = q.fuel;
                gone = q.gone;
                room = q.room;
                is = r.is ∙ ap (λ o. or_else o (first_file of_file (upwards_from es r.fuel r.gone (xs' ++ names)))) has
                    ∙ q.is
                    ∙ ap (λ o. or_else o (first_file of_file (upwards_from es q.fuel q.gone names)))
                    (sym (known_answer c supers interfaces next
                    ∙ ap (λ o. or_else o (or_else (tree_answer supers) (tree_answer next))) none
                    ∙ ap (λ o. or_else o (tree_answer next)) has));
                from = λ z h. elim (q.from z h) [ inl there ↦ gone_from z there | inr g ↦ inr (in_next z g) ];
              }

      by : ((gone : List (List ℕ)) (m : ℕ) → length (xs' ++ names) + weight gone es ≤ m → Clean gone next
          → Walked next gone names (first_file of_file (upwards_from es m gone (xs' ++ names))))
          → (length (c.supers ++ (xs' ++ names)) + weight (x ∷ passed) es ≤ n → Clean (x ∷ passed) supers
          → Walked supers (x ∷ passed) (xs' ++ names) (first_file of_file (upwards_from es n (x ∷ passed) (c.supers
          ++ (xs' ++ names)))))
          → (t : Bool) → is_one_of passed x ≡ t → Walked (Known c supers interfaces next) passed names
          (first_file of_file (if t then upwards_from es n passed (xs' ++ names) else with_class (exports.class_named es
          x)
          (xs' ++ names) (λ more. upwards_from es n (x ∷ passed) more)))
      by on up true here = skipped here (on passed n (omega (arith, room)) (λ z h g. clean z h (in_next z g)))
      by on up false out = split (answer c) refl
        where
          file : (j : ℕ) × (u : ExportClass) × (exports.class_named es x ≡ Some u) × (c ≡ imported j u)
          file = facts.in_file x c e import

          supers_are : file.1.supers ≡ c.supers
          supers_are = ap (λ (q : Class). q.supers) (sym file.3)

          met : first_file of_file (with_class (exports.class_named es x) (xs' ++ names) (λ more. upwards_from es n (x
              ∷ passed) more)) ≡ or_else (answer c) (first_file of_file (upwards_from es n (x ∷ passed) (c.supers
              ++ (xs' ++ names))))
          met =
              ap (λ o. first_file of_file (with_class o (xs' ++ names) (λ more. upwards_from es n (x ∷ passed) more)))
              file.2
              ∙ ap (λ o. or_else o (first_file of_file (upwards_from es n (x ∷ passed) (file.1.supers ++ (xs' ++
              names)))))
              (alike x file.0 file.1 file.2 ∙ ap answer (sym file.3))
              ∙ ap (λ ss. or_else (answer c) (first_file of_file (upwards_from es n (x ∷ passed) (ss
              ++ (xs' ++ names))))) supers_are

          enough : length (c.supers ++ (xs' ++ names)) + weight (x ∷ passed) es ≤ n
          enough =
              let size = length-append c.supers (xs' ++ names) in
              let drop = weight_drop x passed es file.1 file.2 out in
              let same = ap length supers_are in
              omega (arith, room, size, drop, same)

          clean_supers : Clean (x ∷ passed) supers
          clean_supers z h g = elim (one_cases x passed z h) [
            | inl same ↦ absurd (not_itself x c supers e ks (ap (λ y. stands_by_supers y supers) same ∙ g))
            | inr there ↦ clean z there (in_supers z g)
          ]

          split : (o : Option A) → answer c ≡ o → Walked (Known c supers interfaces next) passed names
              (first_file of_file (with_class (exports.class_named es x) (xs' ++ names) (λ more. upwards_from es n (x ∷
              passed)
              more)))
          split (Some v) has =
              found_there (Known c supers interfaces next) passed (x ∷ passed) names _ v (met
              ∙ ap (λ o. or_else o (first_file of_file (upwards_from es n (x ∷ passed) (c.supers ++ (xs' ++ names)))))
              has)
              (known_answer c supers interfaces next
              ∙ ap (λ o. or_else o (or_else (tree_answer supers) (tree_answer next))) has) passed_more
          split None has =
              let r = visited out has (up enough clean_supers) on in
              record {
                fuel = r.fuel;
                gone = r.gone;
                room = r.room;
                is = met
                    ∙ ap (λ o. or_else o (first_file of_file (upwards_from es n (x ∷ passed) (c.supers ++ (xs' ++
                    names)))))
                    has
                    ∙ r.is;
                from = r.from;
              }

  nothing_upwards : (n : ℕ) (passed : List (List ℕ)) → first_file of_file (upwards_from es n passed []) ≡ None
  unfolding upwards_from
  nothing_upwards zero passed = refl
  nothing_upwards (suc n) passed = refl

  -- What is listed first upwards from some names is what the first class above them says.
  pub files_first : (names : List (List ℕ)) → AllImported names → first_file of_file (exports.upwards es names)
      ≡ first_class answer (supertype_trees.upwards (supertypes w names))
  files_first names own =
      let r = walk names (supertypes w names) (facts.are_supertypes names) own (length names + super_count es) [] []
      (let same = append-nil names in let long = ap length same in let all = weight_is es
      in omega (arith, long, all)) (λ z h g. absurd (cc)) in
      ap (λ ns. first_file of_file (upwards_from es (length names + super_count es) [] ns)) (sym (append-nil names))
      ∙ r.is
      ∙ ap (or_else (tree_answer (supertypes w names))) (nothing_upwards r.fuel r.gone)
      ∙ else_none (tree_answer (supertypes w names))

-- so it is with the token of a method
pub files_token : (w : List Class) (es : List ExportClass) → HasFiles w es → (id : MemberId) → ((y : List ℕ)
    (e : ExportClass) → exports.class_named es y ≡ Some e → (k : ℕ) (m : ExportMethod)
    → Rattle.std.specs.Prelude.slice_get e.methods k ≡ Some m → is_initialiser m.name ≡ true
    → is_static m.flags ≡ true) → (names : List (List ℕ)) → ((x : List ℕ) (d : Class) → Lists x names
    → class_named w x ≡ Some d → d.is_imported ≡ true)
    → token_in_files (exports.upwards es names) id ≡ classes_token id (supertype_trees.upwards (supertypes w names))
files_token w es has id plain names own =
    files_token_is id (exports.upwards es names)
    ∙ files_first w es has (λ (u : ExportClass). listed_token u.methods id) (class_token id)
    (λ y k e named. listed_is id k e (plain y e named)) names own
    ∙ classes_token_is id (supertype_trees.upwards (supertypes w names))

-- ---- a package by itself

has_files : (p : Package) → Facts p → HasFiles (world p) (exported p)
has_files p facts = record {
  are_supertypes = facts.are_supertypes;
  one_supertypes = facts.one_supertypes;
  acyclic = facts.rules.acyclic;
  apart = facts.rules.apart;
  of_file = facts.of_file;
  in_file = facts.in_file;
}

pub upwards_first : {A : Type 0} (p : Package) (facts : Facts p) (of_file : ExportClass → Option A)
    (answer : Class → Option A) → ((y : List ℕ) (k : ℕ) (e : ExportClass) → exports.class_named (exported p) y ≡ Some e
    → of_file e ≡ answer (imported k e)) → (names : List (List ℕ)) → ((x : List ℕ) (d : Class) → Lists x names
    → class_named (world p) x ≡ Some d → d.is_imported ≡ true) → first_file of_file (exports.upwards (exported p) names)
    ≡ first_class answer (supertype_trees.upwards (supertypes (world p) names))
upwards_first p facts of_file answer alike names own =
    files_first (world p) (exported p) (has_files p facts) of_file answer alike names own

pub upwards_token : (p : Package) (facts : Facts p) (id : MemberId) (names : List (List ℕ)) → ((x : List ℕ) (d : Class)
    → Lists x names → class_named (world p) x ≡ Some d → d.is_imported ≡ true)
    → token_in_files (exports.upwards (exported p) names) id ≡ classes_token id (supertype_trees.upwards (supertypes
    (world p) names))
upwards_token p facts id names own = files_token (world p) (exported p) (has_files p facts) id facts.plain names own
