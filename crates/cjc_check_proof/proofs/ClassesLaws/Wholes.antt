-- An imported interface has the methods that its export file lists, each once.
use Rattle.std.proofs.Common.{◌≡◌, ℕ, zero, suc, ◌+◌, ◌<◌, ◌==◌, refl, sym, ap, subst, ◌∙◌, arith, Bool, true, false}
use Rattle.std.proofs.Common.{List, [], ◌∷◌, ◌++◌, length, length-append, inl, inr, ⊎_elim}
use Rattle.std.specs.Prelude.{Some, None, ◌&&◌, ◌||◌, ◌⊎◌, codes, map, nat_le, nat_lt, not, position, slice_get}
use Rattle.std.specs.Prelude.{if◌then◌else◌}
use Rattle.std.specs.List.{list_any}
use Rattle.std.specs.Str.{bytes_eq}
use Rattle.std.proofs.lemmas.Bool.{eqb-true}
use Rattle.std.proofs.lemmas.Bool.Decides.{nat_tests}
use Rattle.std.proofs.lemmas.List.{length-map}
use Rattle.cjc_bytes.specs.AccessFlags.{is_interface}
use Rattle.cjc_world.specs.ExportFile.declared.tree.ExportClass.{ExportClass}
use Rattle.cjc_world.specs.ExportFile.declared.tree.ExportMethod.{ExportMethod}
use Rattle.cjc_world.specs.ExportFile.Members.{interface_token_taken}
use Rattle.cjc_world.specs.ExportFile.Writable.{ClassFits, EachAfter, MethodStands}
use Rattle.cjc_pool.specs.Subset.Members.{imports}
use Rattle.cjc_world.specs.Added.{by_token, own_methods, with_token, without_initialiser}
use Rattle.cjc_world.specs.Classes.{Class, Member, imported, method_of_export}
use Rattle.cjc_world.specs.Lookup.{is_called}
use Rattle.cjc_world.specs.Rules.{is_twice}
use Rattle.cjc_tokens.specs.Members.{Signature, same, signature_of}
use Rattle.cjc_tokens.specs.Methods.{interface_methods}
use Rattle.cjc_tokens.specs.Slots.{Slots, has_slot, holds, new_in}
use Rattle.cjc_tokens.proofs.Facts.{same-refl, same-true}
use Rattle.cjc_vtable.proofs.Filed.{Has, at_front, behind, get-has, has-get, of-imports}
use Rattle.cjc_components.specs.Package.{Package, world}
use Rattle.cjc_token_proof.specs.Tables.Sound.{IsSound}
use Rattle.cjc_token_proof.proofs.TablesLaws.Clean.{has_named, kept}
use Rattle.cjc_token_proof.proofs.TablesLaws.Fields.{first_here}
use Rattle.cjc_token_proof.proofs.TablesLaws.Filed.{import_filed}
use Rattle.cjc_check_proof.specs.Classes.Premises.{ImportsAreWhole}

-- ---- how many of some members have tokens that pass

hits : (ℕ → Bool) → List Member → ℕ
hits test [] = 0
hits test (m ∷ ms) = if test m.token then suc (hits test ms) else hits test ms

-- a token from one on, of so many
abbrev among : (count from token : ℕ) → Bool
among count from token = nat_le from token && nat_lt token (from + count)

none_hit : (test : ℕ → Bool) (ms : List Member) → ((k : ℕ) → test k ≡ false) → hits test ms ≡ 0
unfolding hits
none_hit test [] none = refl
none_hit test (m ∷ ms) none = ap (λ b. if b then suc (hits test ms) else hits test ms) (none m.token)
    ∙ none_hit test ms none

all_hit : (test : ℕ → Bool) (ms : List Member) → ((m : Member) → Has m ms → test m.token ≡ true)
    → hits test ms ≡ length ms
unfolding hits
all_hit test [] all = refl
all_hit test (m ∷ ms) all = ap (λ b. if b then suc (hits test ms) else hits test ms) (all m at_front)
    ∙ ap suc (all_hit test ms (λ x h. all x (behind h)))

-- the first token, or one of the others
first_or_later : (n t : ℕ) (ms : List Member) → hits (among (suc n) t) ms ≡ hits (λ k. k == t) ms + hits
    (among n (t + 1)) ms
unfolding hits
first_or_later n t [] = refl
first_or_later n t (m ∷ ms) = by (m.token == t) refl (first_or_later n t ms)
  where
    by : (b : Bool) → (m.token == t) ≡ b → hits (among (suc n) t) ms ≡ hits (λ k. k == t) ms + hits (among n (t + 1)) ms
        → (if among (suc n) t m.token then suc (hits (among (suc n) t) ms) else hits (among (suc n) t) ms)
        ≡ (if b then suc (hits (λ k. k == t) ms) else hits (λ k. k == t) ms) + (if among n (t + 1) m.token
        then suc (hits (among n (t + 1)) ms) else hits (among n (t + 1)) ms)
    by true e rest =
        let at : m.token ≡ t = eqb-true m.token t e in
        let in_all : among (suc n) t m.token ≡ true = both (nat_le t m.token) (nat_lt m.token (t + suc n))
        (grind (arith, nat_tests, at)) (grind (arith, nat_tests, at)) in
        let not_later : among n (t + 1) m.token ≡ false = left (nat_le (t + 1) m.token) (nat_lt m.token (t + 1 + n))
        (grind (arith, nat_tests, at)) in
        let more : suc (hits (among (suc n) t) ms) ≡ suc (hits (λ k. k == t) ms) + hits (among n (t + 1)) ms =
        omega (arith, rest) in
        ap (λ b. if b then suc (hits (among (suc n) t) ms) else hits (among (suc n) t) ms) in_all ∙ more
        ∙ ap (λ b. suc (hits (λ k. k == t) ms) + (if b then suc (hits (among n (t + 1)) ms)
        else hits (among n (t + 1)) ms)) (sym not_later)
      where
        both : (a b : Bool) → a ≡ true → b ≡ true → (a && b) ≡ true
        both true b f g = g
        both false b f g = absurd (cc)

        left : (a b : Bool) → a ≡ false → (a && b) ≡ false
        left false b f = refl
        left true b f = absurd (cc)
    by false e rest = later (among n (t + 1) m.token) same_test
      where
        same_low : (b : Bool) → nat_le (t + 1) m.token ≡ b → nat_le t m.token ≡ b
        same_low true f = grind (arith, nat_tests, f)
        same_low false f = grind (arith, nat_tests, e, f)

        same_test : among (suc n) t m.token ≡ among n (t + 1) m.token
        same_test =
            let up : t + suc n ≡ t + 1 + n = omega arith in
            ap (λ b. b && nat_lt m.token (t + suc n)) (same_low (nat_le (t + 1) m.token) refl)
            ∙ ap (λ j. nat_le (t + 1) m.token && nat_lt m.token j) up

        later : (b : Bool) → among (suc n) t m.token ≡ b
            → (if among (suc n) t m.token then suc (hits (among (suc n) t) ms) else hits (among (suc n) t) ms)
            ≡ hits (λ k. k == t) ms + (if b then suc (hits (among n (t + 1)) ms) else hits (among n (t + 1)) ms)
        later true f = let more : suc (hits (among (suc n) t) ms) ≡ hits (λ k. k == t) ms + suc (hits (among n (t + 1))
            ms) = omega (arith, rest) in ap (λ b. if b then suc (hits (among (suc n) t) ms)
            else hits (among (suc n) t) ms) f ∙ more
        later false f = ap (λ b. if b then suc (hits (among (suc n) t) ms) else hits (among (suc n) t) ms) f ∙ rest

-- ---- tokens of which no two are the same

abbrev AreApart : List Member → Type 0
AreApart [] = Unit {0}
AreApart (m ∷ ms) = (hits (λ k. k == m.token) ms ≡ 0) × AreApart ms

one_at_most : (t : ℕ) (ms : List Member) → AreApart ms → length (with_token t ms) ≡ hits (λ k. k == t) ms
unfolding hits
one_at_most t [] apart = refl
one_at_most t (m ∷ ms) apart = by (m.token == t) refl (one_at_most t ms apart.1)
  where
    by : (b : Bool) → (m.token == t) ≡ b → length (with_token t ms) ≡ hits (λ k. k == t) ms
        → length (if b then m ∷ [] else with_token t ms) ≡ (if b then suc (hits (λ k. k == t) ms)
        else hits (λ k. k == t) ms)
    by true e rest = sym (ap suc (ap (λ n. hits (λ k. k == n) ms) (sym (eqb-true m.token t e)) ∙ apart.0))
    by false e rest = rest

token_count : (n t : ℕ) (ms : List Member) → AreApart ms → length (by_token n t ms) ≡ hits (among n t) ms
token_count zero t ms apart = sym (none_hit (among 0 t) ms (λ k. none k))
  where
    none : (k : ℕ) → among 0 t k ≡ false
    none k = by (nat_le t k) refl
      where
        by : (b : Bool) → nat_le t k ≡ b → (b && nat_lt k (t + 0)) ≡ false
        by true e = grind (arith, nat_tests, e)
        by false e = refl
token_count (suc n) t ms apart =
    length-append (with_token t ms) (by_token n (t + 1) ms)
    ∙ ap (λ k. k + length (by_token n (t + 1) ms)) (one_at_most t ms apart)
    ∙ ap (λ k. hits (λ j. j == t) ms + k) (token_count n (t + 1) ms apart)
    ∙ sym (first_or_later n t ms)

-- ---- members by token

one_or_none : (t : ℕ) (ms : List Member) → (with_token t ms ≡ []) ⊎ ((m : Member) × (with_token t ms ≡ m ∷ [])
    × Has m ms × (m.token ≡ t))
one_or_none t [] = inl refl
one_or_none t (m ∷ ms) = by (m.token == t) refl (one_or_none t ms)
  where
    by : (b : Bool) → (m.token == t) ≡ b → (with_token t ms ≡ []) ⊎ ((x : Member) × (with_token t ms ≡ x ∷ [])
        × Has x ms × (x.token ≡ t))
        → ((if b then m ∷ [] else with_token t ms) ≡ []) ⊎ ((x : Member) × ((if b then m ∷ [] else with_token t ms) ≡ x
        ∷ []) × Has x (m ∷ ms) × (x.token ≡ t))
    by true e rest = inr (m, refl, at_front, eqb-true m.token t e)
    by false e (inl h) = inl h
    by false e (inr h) = inr (h.0, h.1, behind h.2, h.3)

named_each : (ms : List Member) (n t : ℕ) → ((m : Member) → Has m ms → bytes_eq m.name (codes "<clinit>") ≡ false)
    → without_initialiser (by_token n t ms) ≡ by_token n t ms
named_each ms zero t plain = refl
named_each ms (suc n) t plain = ⊎_elim
    (λ e. ap (λ xs. without_initialiser (xs ++ by_token n (t + 1) ms)) e ∙ named_each ms n (t + 1) plain
    ∙ ap (λ xs. xs ++ by_token n (t + 1) ms) (sym e))
    (λ r. ap (λ xs. without_initialiser (xs ++ by_token n (t + 1) ms)) r.1
    ∙ ap (λ b. if b then without_initialiser (by_token n (t + 1) ms)
    else r.0 ∷ without_initialiser (by_token n (t + 1) ms)) (plain r.0 r.2)
    ∙ ap (λ xs. r.0 ∷ xs) (named_each ms n (t + 1) plain) ∙ ap (λ xs. xs ++ by_token n (t + 1) ms) (sym r.1))
    (one_or_none t ms)

module _ (ms : List Member) (once : (a b : Member) → Has a ms → Has b ms → signature_of a ≡ signature_of b
    → a.token ≡ b.token) where
  -- what has a slot is a member with a lower token
  IsBelow : Slots → ℕ → Type 0
  IsBelow known t = (s : Signature) → has_slot known s ≡ true → (m : Member) × Has m ms × (m.token < t)
      × (signature_of m ≡ s)

  has_last : (known : Slots) (u s : Signature) → has_slot (known ++ Some u ∷ []) s ≡ true → (has_slot known s ≡ true)
      ⊎ (same u s ≡ true)
  has_last [] u s e = by (same u s) e
    where
      by : (b : Bool) → (b || false) ≡ true → (false ≡ true) ⊎ (b ≡ true)
      by true f = inr refl
      by false f = absurd (cc)
  has_last (slot ∷ known) u s e = by (holds slot s) e (has_last known u s)
    where
      by : (b : Bool) → (b || has_slot (known ++ Some u ∷ []) s) ≡ true → (has_slot (known ++ Some u ∷ []) s ≡ true
          → (has_slot known s ≡ true) ⊎ (same u s ≡ true)) → ((b || has_slot known s) ≡ true) ⊎ (same u s ≡ true)
      by true f rest = inl refl
      by false f rest = rest f

  new_count : (n t : ℕ) (known : Slots) → IsBelow known t → length (new_in known (map signature_of (by_token n t ms)))
      ≡ length (by_token n t ms)
  unfolding IsBelow
  new_count zero t known below = refl
  new_count (suc n) t known below = ⊎_elim
      (λ e. ap (λ xs. length (new_in known (map signature_of (xs ++ by_token n (t + 1) ms)))) e
      ∙ new_count n (t + 1) known (λ s h. (let r = below s h in let lt = r.2 in (r.0, r.1, omega (arith, lt), r.3)))
      ∙ ap (λ xs. length (xs ++ by_token n (t + 1) ms)) (sym e))
      (λ r. ap (λ xs. length (new_in known (map signature_of (xs ++ by_token n (t + 1) ms)))) r.1
      ∙ ap (λ b. length (if b then new_in known (map signature_of (by_token n (t + 1) ms)) else signature_of r.0
      ∷ new_in (known ++ Some (signature_of r.0) ∷ []) (map signature_of (by_token n (t + 1) ms))))
      (fresh r.0 r.2 r.3 (has_slot known (signature_of r.0)) refl)
      ∙ ap suc (new_count n (t + 1) (known ++ Some (signature_of r.0) ∷ []) (λ s h. more r.0 r.2 r.3 s
      (has_last known (signature_of r.0) s h)))
      ∙ ap (λ xs. length (xs ++ by_token n (t + 1) ms)) (sym r.1))
      (one_or_none t ms)
    where
      fresh : (m : Member) → Has m ms → m.token ≡ t → (b : Bool) → has_slot known (signature_of m) ≡ b → b ≡ false
      fresh m h at false e = refl
      fresh m h at true e =
          let r = below (signature_of m) e in
          let token = once r.0 m r.1 h r.3 in
          let lt = r.2 in
          absurd (omega (arith, lt, token, at))

      more : (m : Member) → Has m ms → m.token ≡ t → (s : Signature) → (has_slot known s ≡ true)
          ⊎ (same (signature_of m) s ≡ true) → (x : Member) × Has x ms × (x.token < t + 1) × (signature_of x ≡ s)
      more m h at s (inl e) = let r = below s e in let lt = r.2 in (r.0, r.1, omega (arith, lt), r.3)
      more m h at s (inr e) = (m, h, omega (arith, at), same-true (signature_of m) s e)

-- ---- what an export file promises of an interface's methods

abbrev Stands : ℕ → List ExportMethod → ExportMethod → Type 0
Stands count before m = MethodStands true count before m

tokens_low : (count : ℕ) (before ms : List ExportMethod) → EachAfter (Stands count) before ms → (m : Member)
    → Has m (map method_of_export ms) → nat_lt m.token count ≡ true
tokens_low count before [] each m h = elim h [ ]
tokens_low count before (x ∷ ms) each m at_front = by (nat_lt x.token count) (interface_token_taken before x.token)
    each.0.1
  where
    by : (a b : Bool) → (if a && not b then Some x.token else None) ≡ Some x.token → a ≡ true
    by true b e = refl
    by false b e = absurd (cc)
tokens_low count before (x ∷ ms) each m (behind h) = tokens_low count (before ++ x ∷ []) ms each.1 m h

names_plain : (count : ℕ) (before ms : List ExportMethod) → EachAfter (Stands count) before ms → (m : Member)
    → Has m (map method_of_export ms) → bytes_eq m.name (codes "<clinit>") ≡ false
names_plain count before [] each m h = elim h [ ]
names_plain count before (x ∷ ms) each m at_front = by (bytes_eq x.name (codes "<init>"))
    (bytes_eq x.name (codes "<clinit>")) each.0.2
  where
    by : (a b : Bool) → (if a || b then None else Some x.name) ≡ Some x.name → b ≡ false
    by true b e = absurd (cc)
    by false true e = absurd (cc)
    by false false e = refl
names_plain count before (x ∷ ms) each m (behind h) = names_plain count (before ++ x ∷ []) ms each.1 m h

any_both : (test : ExportMethod → Bool) (xs ys : List ExportMethod) → list_any test (xs ++ ys) ≡ (list_any test xs
    || list_any test ys)
any_both test [] ys = refl
any_both test (x ∷ xs) ys = by (test x) (any_both test xs ys)
  where
    by : (t : Bool) → list_any test (xs ++ ys) ≡ (list_any test xs || list_any test ys)
        → (t || list_any test (xs ++ ys)) ≡ ((t || list_any test xs) || list_any test ys)
    by true e = refl
    by false e = e

-- no later one has the token of an earlier one
tokens_new : (count : ℕ) (before ms : List ExportMethod) → EachAfter (Stands count) before ms → (t : ℕ)
    → interface_token_taken before t ≡ true → hits (λ k. k == t) (map method_of_export ms) ≡ 0
unfolding hits
tokens_new count before [] each t taken = refl
tokens_new count before (x ∷ ms) each t taken =
    ap (λ b. if b then suc (hits (λ k. k == t) (map method_of_export ms))
    else hits (λ k. k == t) (map method_of_export ms)) (other (x.token == t) refl)
    ∙ tokens_new count (before ++ x ∷ []) ms each.1 t (any_both (λ m. m.token == t) before (x ∷ [])
    ∙ ap (λ b. b || list_any (λ m. m.token == t) (x ∷ [])) taken)
  where
    other : (b : Bool) → (x.token == t) ≡ b → b ≡ false
    other false e = refl
    other true e =
        let same_token : interface_token_taken before x.token ≡ true =
        ap (interface_token_taken before) (eqb-true x.token t e) ∙ taken in
        let none : (if nat_lt x.token count && not true then Some x.token else None) ≡ Some x.token =
        sym (ap (λ b. if nat_lt x.token count && not b then Some x.token else None) same_token) ∙ each.0.1 in
        absurd (no_one (nat_lt x.token count) none)
      where
        no_one : (b : Bool) → (if b && not true then Some x.token else None) ≡ Some x.token → ⊥
        no_one true f = cc
        no_one false f = cc

tokens_apart : (count : ℕ) (before ms : List ExportMethod) → EachAfter (Stands count) before ms
    → AreApart (map method_of_export ms)
tokens_apart count before [] each = tt
tokens_apart count before (x ∷ ms) each = (
  tokens_new count (before ++ x ∷ []) ms each.1 x.token (any_both (λ m. m.token == x.token) before (x ∷ [])
      ∙ last (list_any (λ m. m.token == x.token) before) (x.token == x.token) (grind (arith, nat_tests))),
  tokens_apart count (before ++ x ∷ []) ms each.1,
)
  where
    last : (a b : Bool) → b ≡ true → (a || (b || false)) ≡ true
    last true b e = refl
    last false true e = refl
    last false false e = absurd (cc)

-- ---- an imported interface

each_of : (before cs : List ExportClass) (c : ExportClass) → EachAfter ClassFits before cs → Has c cs
    → (b : List ExportClass) × ClassFits b c
each_of before [] c f h = elim h [ ]
each_of before (d ∷ cs) c f at_front = (before, f.0)
each_of before (d ∷ cs) c f (behind h) = each_of (before ++ d ∷ []) cs c f.1 h

module _ (list : List ℕ) (p : Package) (sound : IsSound list p.files) where
  -- no two methods of a class have one name and descriptor
  once : (c : Class) → Has c (world p) → (a b : Member) → Has a c.methods → Has b c.methods
      → signature_of a ≡ signature_of b → a.token ≡ b.token
  unfolding is_twice
  once c h a b i j e =
      let rules = kept list p.files sound c h in
      let x = has-get a c.methods i in
      let y = has-get b c.methods j in
      let at_a : position (λ q. is_called a.name a.desc q) c.methods ≡ Some x.0 =
      first_here (λ q. is_called a.name a.desc q) c.methods x.0 a x.1 (same-refl (signature_of a))
      (rules.methods x.0 a x.1) in
      let at_b : position (λ q. is_called b.name b.desc q) c.methods ≡ Some y.0 =
      first_here (λ q. is_called b.name b.desc q) c.methods y.0 b y.1 (same-refl (signature_of b))
      (rules.methods y.0 b y.1) in
      let both : Some x.0 ≡ Some y.0 = sym at_a ∙ ap (λ (s : Signature). position (λ q. is_called s.name s.desc q)
      c.methods) e ∙ at_b in
      let place : x.0 ≡ y.0 = cc in
      let members : Some a ≡ Some b = sym x.1 ∙ ap (slice_get c.methods) place ∙ y.1 in
      let one : a ≡ b = cc in
      ap (λ (m : Member). m.token) one

  whole_one : (k : ℕ) (e : ExportClass) → Has (imported k e) (world p)
      → EachAfter (Stands (length e.methods)) [] e.methods → length (interface_methods (world p) (imported k e))
      ≡ length e.methods
  unfolding interface_methods own_methods IsBelow
  whole_one k e h each =
      let c = imported k e in
      let ms = map method_of_export e.methods in
      let n = length ms in
      let many : n ≡ length e.methods = length-map e.methods method_of_export in
      ap (λ xs. length (new_in [] (map signature_of xs))) (named_each ms n 0 (names_plain (length e.methods) []
      e.methods each))
      ∙ new_count ms (once c h) n 0 [] (λ s g. absurd (cc))
      ∙ token_count n 0 ms (tokens_apart (length e.methods) [] e.methods each)
      ∙ all_hit (among n 0) ms (λ m i. low m.token n (ap (λ j. nat_lt m.token j) many
      ∙ tokens_low (length e.methods) [] e.methods each m i))
      ∙ many
    where
      low : (t n : ℕ) → nat_lt t n ≡ true → among n 0 t ≡ true
      low t n g = grind (arith, nat_tests, g)

  pub all_whole : ImportsAreWhole p
  all_whole y k e known kind =
      let files = p.files in
      let h = has_named (world p) y (imported k e) known in
      let r = import_filed files sound.classes sound.exports (imported k e) h refl in
      let u = r.1 in
      let t = of-imports u files.exports (get-has u (imports files.exports) r.0 r.2) in
      let tree = has-get t.0 files.exports t.1 in
      let read = sound.read in
      let writable = read.exports tree.0 t.0 tree.1 in
      let its = (each_of [] t.0.classes u writable.classes t.2).1 in
      let kind_there : is_interface u.flags ≡ true = sym (ap (λ (c : Class). is_interface c.flags) r.3) ∙ kind in
      let each : EachAfter (Stands (length u.methods)) [] u.methods =
      subst (λ b. EachAfter (MethodStands b (length u.methods)) [] u.methods) kind_there its.methods in
      ap (λ (c : Class). length (interface_methods (world p) c)) r.3
      ∙ whole_one r.0 u (subst (λ (c : Class). Has c (world p)) r.3 h) each
      ∙ sym (length-map u.methods method_of_export)
      ∙ sym (ap (λ (c : Class). length c.methods) r.3)
      ∙ length-map e.methods method_of_export
