-- The tokens of the methods that a class of the package declares or got: each is the place of a slot or a count, and no
-- two methods have one.
use Rattle.std.proofs.Common.{◌≡◌, ℕ, zero, suc, ◌+◌, ◌<◌, refl, sym, ap, subst, ◌∙◌, arith, Bool, true, false, List}
use Rattle.std.proofs.Common.{[], ◌∷◌, ◌++◌, length, map, take, inl, inr, ⊎_elim, Option, Some, None}
use Rattle.std.specs.Prelude.{not, ◌&&◌, ◌||◌, ◌⊎◌, count_by, option_map, option_and_then, position, slice_get}
use Rattle.std.specs.Prelude.{if◌then◌else◌}
use Rattle.std.specs.List.{list_any}
use Rattle.std.proofs.lemmas.List.{length-map}
use Rattle.std.proofs.lemmas.Option.{slice_get-map}
use Rattle.std.proofs.lemmas.Bool.{or_parts}
use Rattle.cjc_bytes.specs.AccessFlags.{is_interface, is_private, is_protected, is_public, is_static}
use Rattle.cjc_bytes.proofs.Bools.{or_true}
use Rattle.cjc_bytes.proofs.Gets.{in_front, get_behind}
use Rattle.cjc_world.specs.ClassFile.declared.tree.ClassTree.{ClassTree}
use Rattle.cjc_components.specs.ExportFile.{is_listed}
use Rattle.cjc_world.specs.ExportFile.Members.{is_unbound}
use Rattle.cjc_narrow_proof.proofs.LawsLaws.Own.{first_here}
use Rattle.cjc_classes.specs.Subset.Flags.{has_two_accesses}
use Rattle.cjc_tokens.proofs.Facts.{has-got_none, has-own_none, same-refl}
use Rattle.cjc_tokens.proofs.Means.{kept-at}
use Rattle.cjc_tokens.specs.Fields.{field_tokens}
use Rattle.cjc_tokens.specs.Lines.{Line, line_at, line_in}
use Rattle.cjc_tokens.specs.Members.{Signature, has, is_constructor, is_exposed, is_hidden, is_initialiser, is_shown}
use Rattle.cjc_tokens.specs.Members.{same, signature_of, signatures}
use Rattle.cjc_tokens.specs.Methods.{class_method_token, class_method_tokens, interface_methods, interface_token}
use Rattle.cjc_tokens.specs.Methods.{is_open_bound}
use Rattle.cjc_tokens.specs.Slots.{Slots, got, hidden_slots, implementing, own, row, shown_token, slots}
use Rattle.cjc_tokens.specs.Tokens.{OfClass, assigned, joined, method_tokens, token_of_member}
use Rattle.cjc_vtable.proofs.Shown.{declared-token}
use Rattle.cjc_vtable.proofs.Towers.{declared-own, row_at}
use Rattle.cjc_vtable.specs.Tables.{is_own}
use Rattle.cjc_vtable.proofs.Given.{shown-open}
use Rattle.cjc_world.specs.Added.{added, asked_by, declares_open, has_open, is_one_of, is_open, lacking, takes_added}
use Rattle.cjc_world.specs.Classes.{Class, Member, all_classes, declared, field_of_class}
use Rattle.cjc_world.specs.Exported.{is_exported}
use Rattle.cjc_world.specs.Files.{Files}
use Rattle.cjc_world.specs.Supertypes.{supertypes}
use Rattle.cjc_world.specs.Lookup.{is_called, member_at, or_else}
use Rattle.cjc_world.specs.Rules.{is_twice}
use Rattle.cjc_world.specs.declared.found.Found.{Found}
use Rattle.cjc_classes.proofs.KeyTokens.Kept.{fields_long, method_row, rows_long}

-- ---- kinds of methods

-- a listed method of a class that is no interface is a static method or constructor, or virtual
pub listed_kind : (c : Class) (m : Member) → is_interface c.flags ≡ false → is_listed c m ≡ true
    → has_two_accesses m.flags ≡ false → (is_open_bound m ≡ true) ⊎ (is_shown m ≡ true)
listed_kind c m plain listed one = by (is_interface c.flags) (is_public m.flags) (is_protected m.flags)
    (is_private m.flags) (is_static m.flags) (is_constructor m.name) (is_initialiser m.name) plain listed one
  where
    by : (x a b p s c i : Bool) → x ≡ false → ((x || (a || b)) && not i) ≡ true → ((a && p) || (a && b) || (p && b))
        ≡ false → (((a || b) && (s || c) && not i) ≡ true) ⊎ (((a || b) && ((not p && not s) && not (c || i))) ≡ true)
    by true a b p s c i e f g = cc
    by false false false p s c i e f g = cc
    by false true b true s c i e f g = cc
    by false true true false s c i e f g = cc
    by false false true true s c i e f g = cc
    by false true false false s c true e f g = cc
    by false false true false s c true e f g = cc
    by false true false false true c false e f g = inl refl
    by false true false false false true false e f g = inl refl
    by false true false false false false false e f g = inr refl
    by false false true false true c false e f g = inl refl
    by false false true false false true false e f g = inl refl
    by false false true false false false false e f g = inr refl

pub bound_unbound : (m : Member) → is_open_bound m ≡ true → is_unbound m.flags m.name ≡ true
bound_unbound m e = by (is_exposed m.flags) (is_static m.flags) (is_constructor m.name) (is_initialiser m.name) e
  where
    by : (a s c i : Bool) → (a && (s || c) && not i) ≡ true → (s || c) ≡ true
    by true true c i e = refl
    by true false true i e = refl
    by true false false i e = cc
    by false s c i e = cc

pub shown_unbound : (m : Member) → is_shown m ≡ true → is_unbound m.flags m.name ≡ false
shown_unbound m e = by (is_exposed m.flags) (is_private m.flags) (is_static m.flags) (is_constructor m.name)
    (is_initialiser m.name) e
  where
    by : (a p s c i : Bool) → (a && ((not p && not s) && not (c || i))) ≡ true → (s || c) ≡ false
    by false p s c i e = cc
    by true true s c i e = cc
    by true false true c i e = cc
    by true false false true i e = cc
    by true false false false i e = refl

bound_hidden : (m : Member) → is_open_bound m ≡ true → (is_shown m ≡ false) × (is_hidden m ≡ false)
bound_hidden m e = by (is_exposed m.flags) (is_private m.flags) (is_static m.flags) (is_constructor m.name)
    (is_initialiser m.name) e
  where
    by : (a p s c i : Bool) → (a && (s || c) && not i) ≡ true → ((a && ((not p && not s) && not (c || i))) ≡ false)
        × ((not a && ((not p && not s) && not (c || i))) ≡ false)
    by false p s c i e = cc
    by true p s c true e = absurd (no s c e)
      where
        no : (s c : Bool) → (true && (s || c) && false) ≡ true → ⊥
        no true c e = cc
        no false true e = cc
        no false false e = cc
    by true true s c false e = (refl, refl)
    by true false true c false e = (refl, refl)
    by true false false true false e = (refl, refl)
    by true false false false false e = cc

-- ---- lists

has_shown : (ms : List Member) (k : ℕ) (m : Member) → slice_get ms k ≡ Some m → is_shown m ≡ true
    → has (signatures is_shown ms) (signature_of m) ≡ true
has_shown [] k m e is = cc
has_shown (x ∷ ms) zero m e is =
    let one : x ≡ m = cc in
    subst (λ (y : Member). has (if is_shown y then signature_of y ∷ signatures is_shown ms else signatures is_shown ms)
    (signature_of m) ≡ true) (sym one)
    (ap (λ b. has (if b then signature_of m ∷ signatures is_shown ms else signatures is_shown ms) (signature_of m)) is
    ∙ ap (λ b. b || has (signatures is_shown ms) (signature_of m)) (same-refl (signature_of m)))
has_shown (x ∷ ms) (suc k) m e is = by (is_shown x) (has_shown ms k m e is)
  where
    by : (b : Bool) → has (signatures is_shown ms) (signature_of m) ≡ true
        → has (if b then signature_of x ∷ signatures is_shown ms else signatures is_shown ms) (signature_of m) ≡ true
    by true h = ap (λ q. same (signature_of x) (signature_of m) || q) h
        ∙ or_true (same (signature_of x) (signature_of m))
    by false h = h

has_given : (ms : List Member) (k : ℕ) (m : Member) → slice_get ms k ≡ Some m
    → has (map signature_of ms) (signature_of m) ≡ true
has_given [] k m e = cc
has_given (x ∷ ms) zero m e =
    let one : x ≡ m = cc in
    subst (λ (y : Member). (same (signature_of y) (signature_of m) || has (map signature_of ms) (signature_of m))
    ≡ true) (sym one) (ap (λ b. b || has (map signature_of ms) (signature_of m)) (same-refl (signature_of m)))
has_given (x ∷ ms) (suc k) m e = ap (λ q. same (signature_of x) (signature_of m) || q) (has_given ms k m e)
    ∙ or_true (same (signature_of x) (signature_of m))

-- one of these passes
any_at : (test : Member → Bool) (ms : List Member) (k : ℕ) (m : Member) → slice_get ms k ≡ Some m → test m ≡ true
    → list_any test ms ≡ true
any_at test [] k m e is = cc
any_at test (x ∷ ms) zero m e is = let one : x ≡ m = cc in ap (λ b. b || list_any test ms) (ap test one ∙ is)
any_at test (x ∷ ms) (suc k) m e is = ap (λ b. test x || b) (any_at test ms k m e is) ∙ or_true (test x)

one_front : (xs ys : List Member) (name desc : List ℕ) → is_one_of (xs ++ ys) name desc ≡ false → is_one_of xs name desc
    ≡ false
one_front [] ys name desc e = refl
one_front (x ∷ xs) ys name desc e = by (is_called name desc x) (one_front xs ys name desc) e
  where
    by : (b : Bool) → (is_one_of (xs ++ ys) name desc ≡ false → is_one_of xs name desc ≡ false)
        → (b || is_one_of (xs ++ ys) name desc) ≡ false → (b || is_one_of xs name desc) ≡ false
    by true rest f = cc
    by false rest f = rest f

one_back : (xs : List Member) (m : Member) (name desc : List ℕ) → is_one_of (xs ++ m ∷ []) name desc ≡ false
    → is_called name desc m ≡ false
one_back [] m name desc e = (or_parts (is_called name desc m) false e).0
one_back (x ∷ xs) m name desc e = one_back xs m name desc (or_parts (is_called name desc x) (is_one_of (xs
    ++ m ∷ []) name desc) e).1

-- ---- added methods

module _ (there : Member → Bool) where
  -- each is new
  lacking_new : (given ms : List Member) (k : ℕ) (x : Member) → slice_get (lacking there given ms) k ≡ Some x
      → (there x ≡ false) × (is_one_of given x.name x.desc ≡ false)
  unfolding lacking
  lacking_new given [] k x e = cc
  lacking_new given (m ∷ ms) k x e = by (there m) refl (is_one_of given m.name m.desc) refl k e
      (λ j f. lacking_new given ms j x f) (λ j f. lacking_new (given ++ m ∷ []) ms j x f)
    where
      by : (a : Bool) → there m ≡ a → (b : Bool) → is_one_of given m.name m.desc ≡ b → (k : ℕ)
          → slice_get (if a || b then lacking there given ms else m ∷ lacking there (given ++ m ∷ []) ms) k ≡ Some x
          → ((j : ℕ) → slice_get (lacking there given ms) j ≡ Some x → (there x ≡ false)
          × (is_one_of given x.name x.desc ≡ false))
          → ((j : ℕ) → slice_get (lacking there (given ++ m ∷ []) ms) j ≡ Some x → (there x ≡ false)
          × (is_one_of (given ++ m ∷ []) x.name x.desc ≡ false))
          → (there x ≡ false) × (is_one_of given x.name x.desc ≡ false)
      by true f b g k e old fresh = old k e
      by false f true g k e old fresh = old k e
      by false f false g zero e old fresh = let one : m ≡ x = cc in (
        ap there (sym one)
            ∙ f,
        ap (λ (y : Member). is_one_of given y.name y.desc) (sym one) ∙ g,
      )
      by false f false g (suc k) e old fresh = let r = fresh k e in (r.0, one_front given (m ∷ []) x.name x.desc r.1)

  -- no two have one name and descriptor
  lacking_apart : (given ms : List Member) (j k : ℕ) (m x : Member) → j < k → slice_get (lacking there given ms) j
      ≡ Some m → slice_get (lacking there given ms) k ≡ Some x → signature_of m ≡ signature_of x → ⊥
  unfolding lacking
  lacking_apart given [] j k m x lt e f same_one = cc
  lacking_apart given (y ∷ ms) j k m x lt e f same_one = by (there y || is_one_of given y.name y.desc) j k lt e f
      (λ j k lt e f. lacking_apart given ms j k m x lt e f same_one) (λ j k lt e f. lacking_apart (given
      ++ y ∷ []) ms j k m x lt e f same_one)
    where
      Goes : List Member → Type 0
      Goes ms = (j k : ℕ) → j < k → slice_get ms j ≡ Some m → slice_get ms k ≡ Some x → ⊥

      by : (b : Bool) (j k : ℕ) → j < k → slice_get (if b then lacking there given ms else y ∷ lacking there (given
          ++ y ∷ []) ms) j ≡ Some m → slice_get (if b then lacking there given ms else y ∷ lacking there (given
          ++ y ∷ []) ms) k ≡ Some x
          → Goes (lacking there given ms) → Goes (lacking there (given ++ y ∷ []) ms) → ⊥
      by true j k lt e f old fresh = old j k lt e f
      by false j zero lt e f old fresh = omega (arith, lt)
      by false zero (suc k) lt e f old fresh =
          let one : y ≡ m = cc in
          let none = one_back given y x.name x.desc (lacking_new (given ++ y ∷ []) ms k x f).1 in
          let called : is_called x.name x.desc y ≡ true = ap (λ (z : Member). is_called x.name x.desc z) one
          ∙ ap (λ s. same s (signature_of x)) same_one ∙ same-refl (signature_of x) in
          cc
      by false (suc j) (suc k) lt e f old fresh = fresh j k (omega (arith, lt)) e f

-- ---- a class of the package

module _ (files : Files) (applets : Bool) (n : ℕ) (t : ClassTree) (there : slice_get files.classes n ≡ Some t)
    (plain : is_interface t.flags ≡ false) where
  abbrev w : List Class
  w = all_classes files

  abbrev c : Class
  c = declared n t

  abbrev given : List Member
  given = added w c

  abbrev shown_slots : Slots
  shown_slots = slots (line_at w c)

  abbrev shown_ones : Signature → Option ℕ
  shown_ones = shown_token (line_at w c)

  abbrev hidden_ones : Slots
  hidden_ones = hidden_slots (line_at w c)

  abbrev above : Line
  above = line_in w (supertypes w c.supers)

  abbrev token_at : ℕ → Option ℕ
  token_at j = token_of_member (assigned applets files) (member_at c j)

  in_row : (j : ℕ) → token_at (length c.fields + j) ≡ joined (slice_get (method_tokens w (is_exported w applets c) c) j)
  in_row j =
      let k = kept-at files applets n t there in
      let ex = is_exported w applets c in
      let fields = field_tokens ex t.fields 0 t.fields in
      let counted : length c.fields ≡ length fields = length-map t.fields field_of_class
      ∙ sym (fields_long ex t.fields 0 t.fields) in
      ap (option_and_then (λ (x : OfClass). joined (slice_get x.members (length c.fields + j)))) k.1
      ∙ ap (λ i. joined (slice_get (fields ++ method_tokens w ex c) (i + j))) counted
      ∙ ap joined (get_behind fields (method_tokens w ex c) j)

  abbrev own_tokens : List (Option ℕ)
  own_tokens = class_method_tokens (is_exported w applets c) shown_ones hidden_ones c.methods 0 c.methods

  abbrev slot_of : Member → Option ℕ
  slot_of m = shown_ones (signature_of m)

  as_methods : method_tokens w (is_exported w applets c) c ≡ own_tokens ++ map slot_of given
  as_methods = ap (λ b. if b then map (interface_token (interface_methods w c)) c.methods else own_tokens
      ++ map slot_of given) plain

  own_token : (k : ℕ) (m : Member) → slice_get c.methods k ≡ Some m → token_at (length c.fields + k)
      ≡ class_method_token (is_exported w applets c) shown_ones hidden_ones c.methods k m
  own_token k m at =
      let zk : 0 + k ≡ k = omega arith in
      let ex = is_exported w applets c in
      in_row k
      ∙ ap (λ xs. joined (slice_get xs k)) as_methods
      ∙ ap joined (in_front own_tokens (map slot_of given) k _ (method_row ex shown_ones hidden_ones c.methods 0
      c.methods k m at))
      ∙ ap (λ j. class_method_token ex shown_ones hidden_ones c.methods j m) zk

  pub added_token : (i : ℕ) (m : Member) → slice_get given i ≡ Some m
      → token_at (length c.fields + length c.methods + i) ≡ slot_of m
  added_token i m at =
      let moved : length c.fields + length c.methods + i ≡ length c.fields + (length c.methods + i) = omega arith in
      let counted : length c.methods ≡ length own_tokens =
      sym (rows_long (is_exported w applets c) shown_ones hidden_ones c.methods 0 c.methods) in
      ap token_at moved
      ∙ in_row (length c.methods + i)
      ∙ ap (λ xs. joined (slice_get xs (length c.methods + i))) as_methods
      ∙ ap (λ j. joined (slice_get (own_tokens ++ map slot_of given) (j + i))) counted
      ∙ ap joined (get_behind own_tokens (map slot_of given) i)
      ∙ ap joined (slice_get-map slot_of given i)
      ∙ ap (λ o. joined (option_map slot_of o)) at

  pub exposed_token : (k : ℕ) (m : Member) → slice_get c.methods k ≡ Some m → is_shown m ≡ true
      → token_at (length c.fields + k) ≡ slot_of m
  unfolding class_method_token
  exposed_token k m at is = own_token k m at ∙ front _ _ (is_shown m) is
    where
      front : (a b : Option ℕ) (q : Bool) → q ≡ true → (if q then a else b) ≡ a
      front a b true e = refl
      front a b false e = cc

  pub bound_token : (k : ℕ) (m : Member) → slice_get c.methods k ≡ Some m → is_open_bound m ≡ true
      → is_exported w applets c ≡ true → token_at (length c.fields + k)
      ≡ Some (count_by is_open_bound (take k c.methods))
  unfolding class_method_token
  bound_token k m at is exported = let no = bound_hidden m is in own_token k m at
      ∙ third _ _ _ (is_shown m) (is_hidden m) (is_exported w applets c) (is_open_bound m) no.0 no.1 exported is
    where
      third : (a b : Option ℕ) (d : ℕ) (q r x o : Bool) → q ≡ false → r ≡ false → x ≡ true → o ≡ true
          → (if q then a else if r then b else if x && o then Some d else None) ≡ Some d
      third a b d false false true true e f g h = refl
      third a b d true r x o e f g h = cc
      third a b d false true x o e f g h = cc
      third a b d false false false o e f g h = cc
      third a b d false false true false e f g h = cc

  -- ---- slots

  abbrev pub Offers : Signature → Type 0
  Offers s = (has (signatures is_shown c.methods) s ≡ true) ⊎ (has (map signature_of given) s ≡ true)

  pub offers_shown : (k : ℕ) (m : Member) → slice_get c.methods k ≡ Some m → is_shown m ≡ true → Offers (signature_of m)
  offers_shown k m at is = inl (has_shown c.methods k m at is)

  pub offers_given : (k : ℕ) (m : Member) → slice_get given k ≡ Some m → Offers (signature_of m)
  offers_given k m at = inr (has_given given k m at)

  -- what it declares or got has a slot, whose place is its token
  pub slot_there : (s : Signature) → Offers s → (i : ℕ) × (shown_ones s ≡ Some i)
      × (slice_get shown_slots i ≡ Some (Some s))
  slot_there s h = declared-token c given above s refl h

  -- the slot means its own method
  pub own_there : (s : Signature) (i : ℕ) (f : Found) → Offers s → slice_get shown_slots i ≡ Some (Some s)
      → slice_get (row (line_at w c)) i ≡ Some (Some f) → is_own c.number (Some f) ≡ true
  own_there s i f h e at = by (own is_shown s c) refl (got given s c) refl
    where
      means : Some (Some f) ≡ Some (implementing (line_at w c) s)
      means = sym at ∙ row_at (implementing (line_at w c)) shown_slots i s e

      last : Option Found
      last = implementing (line_in w (supertypes w c.supers)) s

      by : (o : Option Found) → own is_shown s c ≡ o → (q : Option Found) → got given s c ≡ q → is_own c.number (Some f)
          ≡ true
      by (Some g) k q l =
          let here : implementing (line_at w c) s ≡ Some g = ap (λ o. or_else o (or_else (got given s c) last)) k in
          let one : g ≡ f = (let both : Some (Some f) ≡ Some (Some g) = means ∙ ap Some here in cc) in
          declared-own c given s f refl (ap (λ o. or_else o (got given s c)) k ∙ ap Some one)
      by None k (Some g) l =
          let here : implementing (line_at w c) s ≡ Some g = ap (λ o. or_else o (or_else (got given s c) last)) k
          ∙ ap (λ o. or_else o last) l in
          let one : g ≡ f = (let both : Some (Some f) ≡ Some (Some g) = means ∙ ap Some here in cc) in
          declared-own c given s f refl (ap (λ o. or_else o (got given s c)) k ∙ l ∙ ap Some one)
      by None k None l = ⊎_elim (λ yes'. let no = has-own_none is_shown s c k in absurd (let z : true ≡ false = sym yes'
          ∙ no in cc)) (λ yes'. let no = has-got_none given s c l in absurd (let z : true ≡ false = sym yes' ∙ no
          in cc)) h

  -- ---- no two of one name and descriptor

  pub own_apart : ((k : ℕ) (m : Member) → slice_get c.methods k ≡ Some m → is_twice c.methods k m.name m.desc ≡ false)
      → (j k : ℕ) (m x : Member) → j < k → slice_get c.methods j ≡ Some m → slice_get c.methods k ≡ Some x
      → signature_of m ≡ signature_of x → ⊥
  unfolding is_twice
  own_apart once j k m x lt e f same_one =
      let called = λ (y : Member). (let z : is_called y.name y.desc y ≡ true = same-refl (signature_of y) in z) in
      let here = first_here (λ (q : Member). is_called m.name m.desc q) c.methods j m e (called m) (once j m e) in
      let there' = first_here (λ (q : Member). is_called x.name x.desc q) c.methods k x f (called x) (once k x f) in
      let alike : position (λ (q : Member). is_called m.name m.desc q) c.methods
      ≡ position (λ (q : Member). is_called x.name x.desc q) c.methods =
      ap (λ (s : Signature). position (λ (q : Member). is_called s.name s.desc q) c.methods) same_one in
      let both : Some j ≡ Some k = sym here ∙ alike ∙ there' in
      let is : j ≡ k = cc in
      omega (arith, is, lt)

  pub given_apart : (j k : ℕ) (m x : Member) → j < k → slice_get given j ≡ Some m → slice_get given k ≡ Some x
      → signature_of m ≡ signature_of x → ⊥
  unfolding added
  given_apart j k m x lt e f same_one = by (takes_added c) e f
    where
      test : Member → Bool
      test q = declares_open q.name q.desc c || has_open q.name q.desc (supertypes w c.supers)

      all : List Member
      all = lacking test [] (asked_by (supertypes w c.supers) (supertypes w c.interfaces))

      by : (b : Bool) → slice_get (if b then all else []) j ≡ Some m → slice_get (if b then all else []) k ≡ Some x → ⊥
      by true g h = lacking_apart test [] (asked_by (supertypes w c.supers) (supertypes w c.interfaces)) j k m x lt g h
          same_one
      by false g h = cc

  pub both_apart : (j k : ℕ) (m x : Member) → slice_get c.methods j ≡ Some m → is_shown m ≡ true
      → slice_get given k ≡ Some x → signature_of m ≡ signature_of x → ⊥
  unfolding added
  both_apart j k m x e is f same_one = by (takes_added c) f
    where
      test : Member → Bool
      test q = declares_open q.name q.desc c || has_open q.name q.desc (supertypes w c.supers)

      opens : declares_open x.name x.desc c ≡ true
      opens = any_at (λ q. is_open q.flags && is_called x.name x.desc q) c.methods j m e (ap (λ b. b
          && is_called x.name x.desc m) (shown-open m is) ∙ ap (λ s. same s (signature_of x)) same_one
          ∙ same-refl (signature_of x))

      by : (b : Bool)
          → slice_get (if b then lacking test [] (asked_by (supertypes w c.supers) (supertypes w c.interfaces))
          else []) k ≡ Some x → ⊥
      by true g =
          let none = (lacking_new test [] (asked_by (supertypes w c.supers) (supertypes w c.interfaces)) k x g).0 in
          let off = (or_parts (declares_open x.name x.desc c) (has_open x.name x.desc
          (supertypes w c.supers)) none).0 in
          absurd (let z : true ≡ false = sym opens ∙ off in cc)
      by false g = cc
