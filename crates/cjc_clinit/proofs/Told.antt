-- The list of what is broken is of what the rule speaks of.
use Rattle.std.proofs.Common.{◌≡◌, ◌∙◌, refl, sym, ap, subst, ℕ, zero, suc, ◌+◌, List, [], ◌∷◌, ◌++◌, ⊎_elim, arith}
use Rattle.std.proofs.Common.{Bool, true, false}
use Rattle.std.specs.Prelude.{Option, Some, None, Result, Ok, Err, slice_get, if◌then◌else◌}
use Rattle.cjc_bytes.specs.Breaks.{Break, RulePlace, Among, foremost, IsFirstOf, broken_at, at, each_from, each}
use Rattle.cjc_bytes.specs.Order.{FilePlace, file_of}
use Rattle.cjc_bytes.proofs.Firsts.{among_one, among_either}
use Rattle.cjc_bytes.proofs.BrokenRules.{among_left, among_right, no_among}
use Rattle.cjc_subset.specs.LowerClassFile.declared.tree.ClassTree.{ClassTree}
use Rattle.cjc_subset.specs.LowerClassFile.declared.tree.MethodTree.{MethodTree}
use Rattle.cjc_subset.specs.LowerBytecode.declared.method_code.MethodCode.{MethodCode}
use Rattle.cjc_subset.specs.Places.{at_class, at_method, of_class, of_method}
use Rattle.cjc_subset.specs.LowerWorld.Files.{Files}
use Rattle.cjc_clinit.specs.Initialiser.{is_initialiser}
use Rattle.cjc_clinit.specs.Image.{class_where, if_initialiser, initialised}
use Rattle.cjc_clinit.specs.Rules.{AreBreaks, BreaksClass, BreaksCode, BreaksImage, is_wrong_class}
use Rattle.cjc_clinit.specs.Working.Reading.{Puts, State, after_class, after_code, after_initialiser, breaks_at}
use Rattle.cjc_clinit.specs.Working.Reading.{class_breaks, code_breaks, ended, image_breaks, offset_break, puts, read}
use Rattle.cjc_clinit.specs.Working.Reading.{with_read, wrong_in}
use Rattle.cjc_clinit.proofs.Wrong.{start, wrong-so, ended-so, initialiser-reads, wrong-reads}

-- ---- lists of breaks

module _ {A : Type 0} (f : ℕ → A → List Break) (b : Break) where
  pub each-of : (xs : List A) (n : ℕ) → Among b (each_from f n xs) → (i : ℕ) × (x : A) × (slice_get xs i ≡ Some x)
      × Among b (f (n + i) x)
  unfolding each_from
  each-of [] n h = absurd (no_among b h)
  each-of (x ∷ xs) n h =
      ⊎_elim
      (λ here. (0, x, refl, subst (λ (m : ℕ). Among b (f m x)) (let e : n ≡ n + 0 = omega arith in e) here))
      (λ there. let p = each-of xs (n + 1) there
      in (
        suc p.0,
        p.1,
        p.2,
        subst (λ (m : ℕ). Among b (f m p.1)) (let e : n + 1 + p.0 ≡ n + suc p.0 = omega arith
            in e) p.3,
      ))
      (among_either b (f n x) (each_from f (n + 1) xs) h)

  pub each-has : (xs : List A) (n i : ℕ) (x : A) → slice_get xs i ≡ Some x → Among b (f (n + i) x)
      → Among b (each_from f n xs)
  unfolding each_from
  each-has [] n i x e h = absurd (cc)
  each-has (y ∷ xs) n zero x e h =
      let same : y ≡ x = cc in
      among_left b (f n y) (each_from f (n + 1) xs) (subst (λ (z : A). Among b (f n z)) (sym same)
      (subst (λ (m : ℕ). Among b (f m x)) (let e : n + 0 ≡ n = omega arith in e) h))
  each-has (y ∷ xs) n (suc i) x e h =
      among_right b (f n y) (each_from f (n + 1) xs) (each-has xs (n + 1) i x e (subst (λ (m : ℕ). Among b (f m x))
      (let e : n + suc i ≡ n + 1 + i = omega arith in e) h))

-- ---- the class of an initialiser's code

if-is : (c d : ClassTree) (o : Option MethodTree) → if_initialiser c o ≡ Some d → (m : MethodTree) × (o ≡ Some m)
    × (is_initialiser m ≡ true) × (c ≡ d)
if-is c d None e = absurd (cc)
if-is c d (Some m) e = by (is_initialiser m) refl e
  where
    by : (t : Bool) → is_initialiser m ≡ t → (if t then Some c else None) ≡ Some d → (n : MethodTree)
        × (Some m ≡ Some n) × (is_initialiser n ≡ true) × (c ≡ d)
    by true is h = (m, refl, is, (let f : c ≡ d = cc in f))
    by false is h = absurd (cc)

module _ (files : Files) (code : MethodCode) where
  pub initialised-is : (c : ClassTree) → initialised files code ≡ Some c → (m : MethodTree)
      × (slice_get files.classes code.class ≡ Some c) × (slice_get c.methods code.method ≡ Some m)
      × (is_initialiser m ≡ true)
  initialised-is c e = by (slice_get files.classes code.class) refl e
    where
      by : (o : Option ClassTree) → slice_get files.classes code.class ≡ o → class_where code.method o ≡ Some c
          → (m : MethodTree) × (slice_get files.classes code.class ≡ Some c)
          × (slice_get c.methods code.method ≡ Some m) × (is_initialiser m ≡ true)
      by None is h = absurd (cc)
      by (Some d) is h = let p = if-is d c (slice_get d.methods code.method) h
          in (
            p.0,
            is ∙ ap (λ (q : ClassTree). Some q) p.3,
            subst (λ (q : ClassTree). slice_get q.methods code.method
                ≡ Some p.0) p.3 p.1,
            p.2,
          )

  pub is-initialised : (c : ClassTree) (m : MethodTree) → slice_get files.classes code.class ≡ Some c
      → slice_get c.methods code.method ≡ Some m → is_initialiser m ≡ true → initialised files code ≡ Some c
  is-initialised c m in_classes in_methods is =
      ap (λ (q : Option ClassTree). class_where code.method q) in_classes
      ∙ ap (λ (q : Option MethodTree). if_initialiser c q) in_methods ∙ ap (λ (q : Bool). if q then Some c
      else None) is

  -- ---- what reading the code says

  wrong-with : (p : Puts) (r : Result State ℕ) (at : ℕ) → with_read code p r ≡ Err at → r ≡ Err at
  wrong-with p (Ok s) at e = absurd (cc)
  wrong-with p (Err k) at e = let f : k ≡ at = cc in ap (λ q. Err q) f

  same-wrong : (c : ClassTree) (p q : Puts) → wrong_in (after_initialiser files c code p)
      ≡ wrong_in (after_initialiser files c code q)
  unfolding after_initialiser
  same-wrong c p q = by (ended (read files code.class c (start c p.arrays) code.insns)) refl
    where
      by : (r : Result State ℕ) → ended (read files code.class c (start c p.arrays) code.insns) ≡ r
          → wrong_in (with_read code p (ended (read files code.class c (start c p.arrays) code.insns)))
          ≡ wrong_in (with_read code q (ended (read files code.class c (start c q.arrays) code.insns)))
      by (Err at) e =
          let other = wrong-reads files code.class c q.arrays code.insns at (wrong-so files code.class c p.arrays
          code.insns at e) in
          ap (λ (r : Result State ℕ). wrong_in (with_read code p r)) e
          ∙ sym (ap (λ (r : Result State ℕ). wrong_in (with_read code q r)) other)
      by (Ok s) e =
          let h = ended-so files code.class c p.arrays code.insns s e in
          let other = initialiser-reads files code.class c q.arrays code.insns (h.0, s.fields, h.1) in
          ap (λ (r : Result State ℕ). wrong_in (with_read code p r)) e
          ∙ sym (ap (λ (r : Result State ℕ). wrong_in (with_read code q r)) other)

  class-wrong : (p q : Puts) (o : Option ClassTree) → wrong_in (after_class files code p o)
      ≡ wrong_in (after_class files code q o)
  class-wrong p q None = refl
  class-wrong p q (Some c) = same-wrong c p q

  pub code-wrong : (p : Puts) (r : Result Puts ℕ) → after_code files p code ≡ r
      → wrong_in (after_code files (puts [] []) code) ≡ wrong_in r
  unfolding after_code
  code-wrong p r e = class-wrong (puts [] []) p (initialised files code) ∙ ap (λ (q : Result Puts ℕ). wrong_in q) e

  pub none-broken : (p later : Puts) → after_code files p code ≡ Ok later → code_breaks files code ≡ []
  unfolding code_breaks
  none-broken p later e = ap (λ (q : Option ℕ). breaks_at (offset_break files code) q) (code-wrong p (Ok later) e)

  pub one-broken : (p : Puts) (at : ℕ) → after_code files p code ≡ Err at → code_breaks files code
      ≡ offset_break files code at
  unfolding code_breaks
  one-broken p at e = ap (λ (q : Option ℕ). breaks_at (offset_break files code) q) (code-wrong p (Err at) e)

  pub err-class : (p : Puts) (at : ℕ) → after_code files p code ≡ Err at → (c : ClassTree)
      × (initialised files code ≡ Some c) × (ended (read files code.class c (start c p.arrays) code.insns) ≡ Err at)
  unfolding after_code after_initialiser
  err-class p at e = by (initialised files code) refl e
    where
      by : (o : Option ClassTree) → initialised files code ≡ o → after_class files code p o ≡ Err at → (c : ClassTree)
          × (initialised files code ≡ Some c) × (ended (read files code.class c (start c p.arrays) code.insns) ≡ Err at)
      by None is h = absurd (cc)
      by (Some c) is h = (c, is, wrong-with p (ended (read files code.class c (start c p.arrays) code.insns)) at h)

  pub offset-is : (c : ClassTree) (m : MethodTree) (at : ℕ) → slice_get files.classes code.class ≡ Some c
      → slice_get c.methods code.method ≡ Some m → offset_break files code at
      ≡ broken_at (at_method (file_of files.lines code.class) c code.method m at) 308 ∷ []
  unfolding offset_break
  offset-is c m at in_classes in_methods =
      let breaks : FilePlace → ClassTree → MethodTree → List Break = λ f d n. broken_at (at_method f d code.method n at)
      308 ∷ [] in
      ap (λ (v : Option ClassTree). of_class breaks (file_of files.lines code.class) code.method v) in_classes
      ∙ ap (λ (v : Option MethodTree). of_method breaks (file_of files.lines code.class) c v) in_methods

  -- an offset that is answered is of some method
  pub offset-there : {P : Type 0} (p : Puts) (at : ℕ) → after_code files p code ≡ Err at
      → IsFirstOf (offset_break files code at) None → P
  offset-there p at e none =
      let x = err-class p at e in
      let y = initialised-is x.0 x.1 in
      let f = sym (offset-is x.0 y.0 at y.1 y.2) ∙ none in absurd (cc)

  pub code-among : (b : Break) → Among b (code_breaks files code) → BreaksCode files code b
  code-among b i = by (after_code files (puts [] []) code) refl
    where
      by : (r : Result Puts ℕ) → after_code files (puts [] []) code ≡ r → BreaksCode files code b
      by (Ok later) e = absurd (no_among b (subst (λ (q : List Break). Among b q) (none-broken (puts [] []) later e)
          i))
      by (Err at) e =
          let x = err-class (puts [] []) at e in
          let y = initialised-is x.0 x.1 in
          let one = one-broken (puts [] []) at e ∙ offset-is x.0 y.0 at y.1 y.2 in record {
            class = x.0;
            method = y.0;
            is_class = y.1;
            is_method = y.2;
            initialises = y.3;
            offset = at;
            is_wrong = wrong-so files code.class x.0 [] code.insns at x.2;
            is = among_one b (broken_at (at_method (file_of files.lines code.class) x.0 code.method y.0 at) 308)
                (subst (λ (q : List Break). Among b q) one i);
          }

  err-with : (c : ClassTree) (at : ℕ) → initialised files code ≡ Some c
      → ended (read files code.class c (start c []) code.insns) ≡ Err at → after_code files (puts [] []) code ≡ Err at
  unfolding after_code after_initialiser
  err-with c at is e = ap (λ (q : Option ClassTree). after_class files code (puts [] []) q) is
      ∙ ap (λ (r : Result State ℕ). with_read code (puts [] []) r) e

  pub among-code : (b : Break) → BreaksCode files code b → Among b (code_breaks files code)
  among-code b h =
      let is = is-initialised h.class h.method h.is_class h.is_method h.initialises in
      let e = err-with h.class h.offset is (wrong-reads files code.class h.class [] code.insns h.offset h.is_wrong) in
      let one = one-broken (puts [] []) h.offset e ∙ offset-is h.class h.method h.offset h.is_class h.is_method in
      let here : Among (broken_at (at_method (file_of files.lines code.class) h.class code.method h.method h.offset)
      308) (broken_at (at_method (file_of files.lines code.class) h.class code.method h.method h.offset) 308 ∷ []) =
      foremost in
      subst (λ (q : List Break). Among b q) (sym one)
      (subst (λ (q : Break). Among q (broken_at (at_method (file_of files.lines code.class) h.class code.method
      h.method h.offset) 308 ∷ [])) (sym h.is) here)

-- ---- a class itself

at-of : (b : Break) (t : Bool) (s : RulePlace) (rule : ℕ) → Among b (at t s rule) → (t ≡ true) × (b ≡ broken_at s rule)
at-of b true s rule i = (refl, among_one b (broken_at s rule) i)
at-of b false s rule i = absurd (no_among b i)

module _ (files : Files) (number : ℕ) (c : ClassTree) (b : Break) where
  pub class-among : Among b (class_breaks (file_of files.lines number) c) → BreaksClass files number c b
  unfolding class_breaks
  class-among i = let p = at-of b (is_wrong_class c) (at_class (file_of files.lines number) c) 308 i
      in record { is_wrong = p.0; is = p.1 }

  pub among-class : BreaksClass files number c b → Among b (class_breaks (file_of files.lines number) c)
  unfolding class_breaks
  among-class h =
      let s = at_class (file_of files.lines number) c in
      let here : Among (broken_at s 308) (broken_at s 308 ∷ []) = foremost in
      subst (λ (t : Bool). Among b (at t s 308)) (sym h.is_wrong) (subst (λ (q : Break). Among q (broken_at s 308 ∷ []))
      (sym h.is) here)

-- ---- the package

module _ (files : Files) (codes : List MethodCode) where
  abbrev of_classes : ℕ → ClassTree → List Break
  of_classes n c = class_breaks (file_of files.lines n) c

  abbrev of_codes : ℕ → MethodCode → List Break
  of_codes _ code = code_breaks files code

  pub image-is : AreBreaks files codes (image_breaks files codes)
  unfolding image_breaks
  image-is b = (λ i. ⊎_elim class code (among_either b (each of_classes files.classes) (each of_codes codes) i), back)
    where
      class : Among b (each of_classes files.classes) → BreaksImage files codes b
      class i = let p = each-of of_classes b files.classes 0 i
          in BreaksImage.of_class p.0 p.1 p.2 (class-among files p.0 p.1 b
          (subst (λ (n : ℕ). Among b (of_classes n p.1)) (let e : 0 + p.0 ≡ p.0 = omega arith in e) p.3))

      code : Among b (each of_codes codes) → BreaksImage files codes b
      code i = let p = each-of of_codes b codes 0 i in BreaksImage.of_code p.0 p.1 p.2 (code-among files p.1 b p.3)

      back : BreaksImage files codes b → Among b (each of_classes files.classes ++ each of_codes codes)
      back (BreaksImage.of_class n c is h) = among_left b (each of_classes files.classes) (each of_codes codes)
          (each-has of_classes b files.classes 0 n c is (subst (λ (m : ℕ). Among b (of_classes m c)) (let e : n
          ≡ 0 + n = omega arith in e) (among-class files n c b h)))
      back (BreaksImage.of_code i x is h) = among_right b (each of_classes files.classes) (each of_codes codes)
          (each-has of_codes b codes 0 i x is (among-code files x b h))
