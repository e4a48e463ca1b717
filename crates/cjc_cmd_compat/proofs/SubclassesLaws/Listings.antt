-- Lines of classes of the package in two worlds, in one of which a new version of an export file stands in the place of
-- the old one.
use Rattle.std.proofs.Common.{◌≡◌, ℕ, refl, sym, ap, subst, ◌∙◌, Bool, true, false, List, [], ◌∷◌, ◌++◌}
use Rattle.std.proofs.Common.{inl, inr, ⊎_elim}
use Rattle.std.specs.Prelude.{◌⊎◌, ◌&&◌, ◌||◌, max, Option, Some, None, if◌then◌else◌, slice_get}
use Rattle.cjc_world.specs.Bytes.AccessFlags.{is_final, is_interface}
use Rattle.cjc_world.specs.ClassFile.declared.tree.ClassTree.{ClassTree}
use Rattle.cjc_compat.specs.ExportFile.declared.tree.ExportClass.{ExportClass}
use Rattle.cjc_compat.specs.ExportFile.declared.tree.ExportTree.{ExportTree}
use Rattle.cjc_world.specs.Files.{Files}
use Rattle.cjc_world.specs.Classes.{Class, Member, all_classes, class_named, declared, imported}
use Rattle.cjc_world.specs.Supertypes.{Supertypes, supertypes, upwards}
use Rattle.cjc_world.specs.Lookup.{is_called}
use Rattle.cjc_world.specs.Added.{added}
use Rattle.cjc_world.specs.Upwards.{Has, OnLine, after, foremost}
use Rattle.cjc_world.specs.Upwards as upward
use Rattle.cjc_world.proofs.Settled.{supertypes-AreSupertypes}
use Rattle.cjc_world.proofs.Unbroken.{unbroken_is_acyclic}
use Rattle.cjc_world.proofs.UpwardLaws.Lines.{has-front, listed_line}
use Rattle.cjc_tokens.specs.Members.{In, Signature, all_methods, first_of, has, is_shown, later, same, signature_of}
use Rattle.cjc_tokens.specs.Members.{signatures}
use Rattle.cjc_tokens.specs.Lines.{Declared, Imported, line_at, line_in}
use Rattle.cjc_tokens.specs.Slots.{first_answer, is_slot_of, listed_slots, listed_token, or_next, told_by, told_in}
use Rattle.cjc_tokens.proofs.Facts.{same-refl, same-true}
use Rattle.cjc_tokens.proofs.Held.{listed_slot}
use Rattle.cjc_tokens.proofs.Supers.{class_at-number}
use Rattle.cjc_cmd_compat.specs.Subclasses.{Declares, by_class, with_export}
use Rattle.cjc_cmd_compat.proofs.SubclassesLaws.Lines.{AreLines, AreListings, nowhere}
use Rattle.cjc_cmd_compat.proofs.SubclassesLaws.Lines as lines
use Rattle.cjc_cmd_compat.proofs.SubclassesLaws.Members.{AreAlikeClasses, AreGiven, end-append, listed-length}
use Rattle.cjc_cmd_compat.proofs.SubclassesLaws.Members.{one_class}
use Rattle.cjc_cmd_compat.proofs.SubclassesLaws.Members.{token_end, two_classes}
use Rattle.cjc_cmd_compat.proofs.SubclassesLaws.Slots.{slot-is}
use Rattle.cjc_cmd_compat.proofs.SubclassesLaws.Trees.{AreTrees, added-same, class, given-known, none, supers-alike}
use Rattle.cjc_cmd_compat.proofs.SubclassesLaws.Trees.{unknown}

-- ---- what answers first

answer-got : {A B : Type 0} (f : A → Option B) (xs : List A) (b : B) → first_answer f xs ≡ Some b → (x : A) × Has x xs
    × (f x ≡ Some b)
unfolding first_answer
answer-got f [] b e = absurd cc
answer-got {A} {B} f (x ∷ xs) b e = by (f x) refl e (answer-got f xs b)
  where
    by : (o : Option B) → f x ≡ o → or_next o (first_answer f xs) ≡ Some b → (first_answer f xs ≡ Some b → (y : A)
        × Has y xs × (f y ≡ Some b)) → (y : A) × Has y (x ∷ xs) × (f y ≡ Some b)
    by None h g rest = let r = rest g in (r.0, after r.1, r.2)
    by (Some a) h g rest = (x, foremost, h ∙ g)

answer-some : {A B : Type 0} (f : A → Option B) (xs : List A) (x : A) (b : B) → Has x xs → f x ≡ Some b → (a : B)
    × (first_answer f xs ≡ Some a)
unfolding first_answer
answer-some f [] x b h e = elim h [ ]
answer-some f (y ∷ xs) _ b foremost e = (b, ap (λ o. or_next o (first_answer f xs)) e)
answer-some {A} {B} f (y ∷ xs) x b (after h) e = by (f y) (answer-some f xs x b h e)
  where
    by : (o : Option B) → (a : B) × (first_answer f xs ≡ Some a) → (a : B) × (or_next o (first_answer f xs) ≡ Some a)
    by None r = r
    by (Some a) r = (a, refl)

-- a method that tells a token
told-is : (s : Signature) (m : Member) (t : ℕ) → told_by s m ≡ Some t → (is_shown m ≡ true) × (signature_of m ≡ s)
    × (m.token ≡ t)
told-is s m t e = by (is_shown m) (is_called s.name s.desc m) refl refl e
  where
    by : (a b : Bool) → is_shown m ≡ a → is_called s.name s.desc m ≡ b → (if a && b then Some m.token else None)
        ≡ Some t
        → (is_shown m ≡ true) × (signature_of m ≡ s) × (m.token ≡ t)
    by true true f g h = let is : m.token ≡ t = cc in (f, same-true (signature_of m) s g, is)
    by true false f g h = absurd cc
    by false b f g h = absurd cc

tells : (s : Signature) (m : Member) → is_shown m ≡ true → is_called s.name s.desc m ≡ true
    → told_by s m ≡ Some m.token
tells s m e f = ap (λ b. if b && is_called s.name s.desc m then Some m.token else None) e
    ∙ ap (λ b. if b then Some m.token else None) f

called : (s : Signature) (m : Member) (t : ℕ) → told_by s m ≡ Some t → is_called s.name s.desc m ≡ true
called s m t e = by (is_shown m) (is_called s.name s.desc m) e
  where
    by : (a b : Bool) → (if a && b then Some m.token else None) ≡ Some t → b ≡ true
    by true true h = refl
    by true false h = absurd cc
    by false b h = absurd cc

-- ---- alike classes in turn

data AreAll (files : Files) (old : ExportTree) : List Class → List Class → Type 0 where
  nil : AreAll files old [] []
  cons : (c d : Class) (cs ds : List Class) → AreAlikeClasses files old c d → is_interface c.flags ≡ false
      → AreAll files old cs ds → AreAll files old (c ∷ cs) (d ∷ ds)

all-append : (files : Files) (old : ExportTree) (cs ds es fs : List Class) → AreAll files old cs ds
    → AreAll files old es fs → AreAll files old (cs ++ es) (ds ++ fs)
all-append files old _ _ es fs nil b = b
all-append files old _ _ es fs (cons c d cs ds a plain rest) b = cons c d (cs ++ es) (ds ++ fs) a plain
    (all-append files old cs ds es fs rest b)

upwards-alike : (files : Files) (old : ExportTree) (w v : List Class) (abroad : Bool) (k l : Supertypes)
    → abroad ≡ true → AreTrees files old w v false abroad k l → AreAll files old (upwards k) (upwards l)
upwards-alike files old w v abroad _ _ f none = nil
upwards-alike files old w v abroad _ _ f (unknown x k l t) = upwards-alike files old w v abroad k l f t
upwards-alike files old w v abroad _ _ f (class _ _ s i t j k l (one_class c e) name kind ab is up side on) =
    absurd (let clash = sym (ab f) ∙ e in cc)
upwards-alike files old w v abroad _ _ f (class _ _ s i t j k l (two_classes c d a) name kind ab is up side on) =
    cons c d (upwards s ++ upwards k) (upwards t ++ upwards l) a kind (all-append files old (upwards s) (upwards t)
    (upwards k) (upwards l) (upwards-alike files old w v c.is_imported s t a.abroad up)
    (upwards-alike files old w v abroad k l f on))

all-first : (files : Files) (old : ExportTree) (cs ds : List Class) → AreAll files old cs ds → (c : Class) → Has c cs
    → c.is_imported ≡ true
all-first files old _ _ nil c h = elim h [ ]
all-first files old _ _ (cons c d cs ds a plain rest) _ foremost = a.abroad
all-first files old _ _ (cons c d cs ds a plain rest) b (after h) = all-first files old cs ds rest b h

all-second : (files : Files) (old : ExportTree) (cs ds : List Class) → AreAll files old cs ds → (d : Class) → Has d ds
    → (c : Class) × Has c cs × AreAlikeClasses files old c d
all-second files old _ _ nil d h = elim h [ ]
all-second files old _ _ (cons c d cs ds a plain rest) _ foremost = (c, foremost, a)
all-second files old _ _ (cons c d cs ds a plain rest) b (after h) = let r = all-second files old cs ds rest b h
    in (r.0, after r.1, r.2)

-- ---- the same token is told

told-methods : (files : Files) (old : ExportTree) (c d : Class) → AreAlikeClasses files old c d → (u : Signature)
    → Declares files u → first_answer (told_by u) d.methods ≡ first_answer (told_by u) c.methods
told-methods files old c d a u q = by (first_answer (told_by u) c.methods) (first_answer
    (told_by u) d.methods) refl refl
  where
    by : (o p : Option ℕ) → first_answer (told_by u) c.methods ≡ o → first_answer (told_by u) d.methods ≡ p → p ≡ o
    by None None e f = refl
    by (Some t) None e f =
        let m = answer-got (told_by u) c.methods t e in
        let r = answer-some (told_by u) d.methods m.0 t (a.kept m.0 m.1) m.2 in
        absurd (let clash = sym f ∙ r.1 in cc)
    by None (Some t) e f =
        let m = answer-got (told_by u) d.methods t f in
        let is = told-is u m.0 t m.2 in
        let r = answer-some (told_by u) c.methods m.0 t (a.back m.0 m.1 (subst (λ z. Declares files z)
        (sym is.1) q)) m.2 in
        absurd (let clash = sym e ∙ r.1 in cc)
    by (Some t) (Some p) e f =
        let m = answer-got (told_by u) c.methods t e in
        let n = answer-got (told_by u) d.methods p f in
        let is = told-is u m.0 t m.2 in
        let iz = told-is u n.0 p n.2 in
        let one = a.once n.0 m.0 n.1 (a.kept m.0 m.1) (iz.1 ∙ sym is.1) in
        ap Some (sym iz.2 ∙ ap (λ (z : Member). z.token) one ∙ is.2)

told-class : (files : Files) (old : ExportTree) (c d : Class) → AreAlikeClasses files old c d → (u : Signature)
    → Declares files u → told_in u d ≡ told_in u c
told-class files old c d a u q =
    ap (λ b. if b then first_answer (told_by u) d.methods else None) a.abroad_too
    ∙ told-methods files old c d a u q
    ∙ sym (ap (λ b. if b then first_answer (told_by u) c.methods else None) a.abroad)

told-all : (files : Files) (old : ExportTree) (cs ds : List Class) → AreAll files old cs ds → (u : Signature)
    → Declares files u → first_answer (told_in u) ds ≡ first_answer (told_in u) cs
unfolding first_answer
told-all files old _ _ nil u q = refl
told-all files old _ _ (cons c d cs ds a plain rest) u q =
    ap (λ o. or_next o (first_answer (told_in u) ds)) (told-class files old c d a u q)
    ∙ ap (λ o. or_next (told_in u c) o) (told-all files old cs ds rest u q)

in-class : (m : Member) (cs : List Class) → In m (all_methods cs) → (c : Class) × Has c cs × Has m c.methods
in-class m [] h = elim h [ ]
in-class m (c ∷ cs) h = on (split c.methods (all_methods cs) h) (in-class m cs)
  where
    split : (a b : List Member) → In m (a ++ b) → Has m a ⊎ In m b
    split [] b h = inr h
    split (x ∷ a) b first_of = inl foremost
    split (x ∷ a) b (later h) = ⊎_elim (λ g. inl (after g)) (λ g. inr g) (split a b h)

    on : Has m c.methods ⊎ In m (all_methods cs) → (In m (all_methods cs) → (d : Class) × Has d cs × Has m d.methods)
        → (d : Class) × Has d (c ∷ cs) × Has m d.methods
    on (inl h) rest = (c, foremost, h)
    on (inr h) rest = let r = rest h in (r.0, after r.1, r.2)

shown-method : (ms : List Member) (u : Signature) → has (signatures is_shown ms) u ≡ true → (m : Member) × Has m ms
    × (signature_of m ≡ u)
shown-method [] u e = absurd cc
shown-method (x ∷ ms) u e = by (is_shown x) e (shown-method ms u)
  where
    by : (b : Bool) → has (if b then signature_of x ∷ signatures is_shown ms else signatures is_shown ms) u ≡ true
        → (has (signatures is_shown ms) u ≡ true → (m : Member) × Has m ms × (signature_of m ≡ u)) → (m : Member)
        × Has m (x ∷ ms) × (signature_of m ≡ u)
    by false h rest = let r = rest h in (r.0, after r.1, r.2)
    by true h rest = on (same (signature_of x) u) refl h
      where
        on : (a : Bool) → same (signature_of x) u ≡ a → (a || has (signatures is_shown ms) u) ≡ true → (m : Member)
            × Has m (x ∷ ms) × (signature_of m ≡ u)
        on true f k = (x, foremost, same-true (signature_of x) u f)
        on false f k = let r = rest k in (r.0, after r.1, r.2)

module _ (files : Files) (place : ℕ) (old new : ExportTree) (g : AreGiven files place old new) (n : ℕ) (p : ClassTree)
    (there : slice_get files.classes n ≡ Some p) (plain : is_interface p.flags ≡ false) where
  abbrev w : List Class
  w = all_classes files

  abbrev v : List Class
  v = all_classes (with_export files place new)

  -- ---- the imported classes of a line

  open_below : (c : Class) → OnLine w p.name c → (number : ℕ) (b : ExportClass) → Has b old.classes
      → c ≡ imported number b → is_final b.flags ≡ false
  open_below c on number b h e = g.no_final n p there plain number b h (subst (OnLine w p.name) e on)

  ends-all : (cs ds : List Class) → AreAll files old cs ds → ((c : Class) → Has c cs → OnLine w p.name c)
      → token_end (all_methods ds) ≡ token_end (all_methods cs)
  ends-all _ _ nil on = refl
  ends-all _ _ (cons c d cs ds a kind rest) on =
      end-append d.methods (all_methods ds)
      ∙ ap (λ z. max z (token_end (all_methods ds))) (a.ends (open_below c (on c foremost)) kind)
      ∙ ap (λ z. max (token_end c.methods) z) (ends-all cs ds rest (λ b h. on b (after h)))
      ∙ sym (end-append c.methods (all_methods cs))

  -- a method that is listed is told under its token, whichever class lists it
  told-at : (cs : List Class) → ((c : Class) → Has c cs → OnLine w p.name c)
      → ((c : Class) → Has c cs → c.is_imported ≡ true) → (u : Signature) → Declares files u → (b : Class) (m : Member)
      → Has b cs → Has m b.methods → is_shown m ≡ true → signature_of m ≡ u → first_answer (told_in u) cs ≡ Some m.token
  told-at cs on abroad u q b m hb hm shown is =
      let called_so : is_called u.name u.desc m ≡ true = subst (λ (z : Signature). is_called z.name z.desc m ≡ true) is
      (itself m) in
      let first = answer-some (told_by u) b.methods m m.token hm (tells u m shown called_so) in
      let here : told_in u b ≡ Some first.0 = ap (λ i. if i then first_answer (told_by u) b.methods else None)
      (abroad b hb) ∙ first.1 in
      let found = answer-some (told_in u) cs b first.0 hb here in
      let a = answer-got (told_in u) cs found.0 found.1 in
      let told : first_answer (told_by u) a.0.methods ≡ Some found.0 = sym (ap (λ i. if i
      then first_answer (told_by u) a.0.methods else None) (abroad a.0 a.1)) ∙ a.2 in
      let l = answer-got (told_by u) a.0.methods found.0 told in
      let tell = told-is u l.0 found.0 l.2 in
      let same_token = g.one_token n p there plain a.0 b l.0 m (on a.0 a.1) (on b hb) (abroad a.0 a.1)
      (abroad b hb) l.1 hm tell.0 shown (tell.1 ∙ sym is) (subst (λ z. Declares files z) (sym tell.1) q) in
      found.1 ∙ ap Some (sym tell.2 ∙ same_token)
    where
      itself : (m : Member) → is_called m.name m.desc m ≡ true
      itself m = same-refl (signature_of m)

  listings : (cs ds : List Class) → AreAll files old cs ds → ((c : Class) → Has c cs → OnLine w p.name c)
      → AreListings (Declares files) cs ds
  listings cs ds all on = record {
    imported = all-first files old cs ds all;
    imported_too = λ d h. let r = all-second files old cs ds all d h in (r.2).abroad_too;
    count = listed-length (all_methods ds) ∙ ends-all cs ds all on ∙ sym (listed-length (all_methods cs));
    told = λ u q. told-all files old cs ds all u q;
    only = λ u q t e. first u q t e;
    only_too = λ u q t e. second u q t e;
  }
    where
      first : (u : Signature) → Declares files u → (t : ℕ) → is_slot_of (slice_get (listed_slots (all_methods cs)) t) u
          ≡ true → first_answer (told_in u) cs ≡ Some t
      first u q t e =
          let m = listed_slot (all_methods cs) t u (slot-is (slice_get (listed_slots (all_methods cs)) t) u e) in
          let b = in-class m.0 cs m.1 in
          told-at cs on (all-first files old cs ds all) u q b.0 m.0 b.1 b.2 m.2 m.4 ∙ ap Some m.3

      second : (u : Signature) → Declares files u → (t : ℕ) → is_slot_of (slice_get (listed_slots (all_methods ds)) t) u
          ≡ true → first_answer (told_in u) cs ≡ Some t
      second u q t e =
          let m = listed_slot (all_methods ds) t u (slot-is (slice_get (listed_slots (all_methods ds)) t) u e) in
          let d = in-class m.0 ds m.1 in
          let c = all-second files old cs ds all d.0 d.1 in
          let back = (c.2).back m.0 d.2 (subst (λ z. Declares files z) (sym m.4) q) in
          told-at cs on (all-first files old cs ds all) u q c.0 m.0 c.1 back m.2 m.4 ∙ ap Some m.3

  -- ---- lines

  -- what a class of the package declares
  shown-known : (x : List ℕ) (c : Class) → class_named w x ≡ Some c → c.is_imported ≡ false
      → is_interface c.flags ≡ false → (u : Signature) → has (signatures is_shown c.methods) u ≡ true → Declares files u
  shown-known x c e here kind u h =
      let t = class_at-number files x c e here in
      let m = shown-method c.methods u h in
      subst (λ z. Declares files z) m.2 (by_class c.number t.0 t.1 (sym (ap (λ (z : Class). is_interface z.flags) t.2)
      ∙ kind) m.0 (subst (λ (z : Class). Has m.0 z.methods) t.2 m.1))

  lines-alike : (abroad : Bool) (k l : Supertypes) → AreTrees files old w v false abroad k l
      → ((c : Class) → Has c (upwards k) → OnLine w p.name c)
      → AreLines (Declares files) (line_in w k) (line_in v l)
  lines-alike abroad _ _ none on = nowhere
  lines-alike abroad _ _ (unknown x k l t) on = nowhere
  lines-alike abroad _ _ (class _ _ s i t j k l (one_class c e) name kind ab is up side more) on =
      let line = lines-alike c.is_imported s t up (λ b h. on b (after (has-front b (upwards s) (upwards k) h))) in
      let all : AreLines (Declares files) (Declared c (added w c) (line_in w s)) (Declared c (added w c)
      (line_in v t)) =
      lines.of_class c (added w c) (line_in w s) (line_in v t) line e
      (λ u h. shown-known c.name c name e kind u h) (λ u h. let r = given-known files place old new g c.name c name e
      kind
      u h in (r.0, ap (λ z. listed_token (line_in w z) u) is ∙ r.1)) in
      let both = subst (λ z. AreLines (Declares files) (Declared c (added w c) (line_in w s)) (Declared c z
      (line_in v t)))
      (sym (added-same files place old new g c.name c name e kind)) all in
      subst (λ b. AreLines (Declares files) (if b then Imported (c ∷ upwards s) else Declared c (added w c)
      (line_in w s))
      (if b then Imported (c ∷ upwards t) else Declared c (added v c) (line_in v t))) (sym e) both
  lines-alike abroad _ _ (class _ _ s i t j k l (two_classes c d a) name kind ab is up side more) on =
      let all = cons c d (upwards s) (upwards t) a kind (upwards-alike files old w v c.is_imported s t a.abroad up) in
      let both : AreLines (Declares files) (Imported (c ∷ upwards s)) (Imported (d ∷ upwards t)) =
      lines.of_imports (c ∷ upwards s) (d ∷ upwards t) (listings (c ∷ upwards s) (d ∷ upwards t) all
      (λ b h. on b (has-front b (c ∷ upwards s) (upwards k) h))) in
      subst (λ b. AreLines (Declares files) (if b then Imported (c ∷ upwards s) else Declared c (added w c)
      (line_in w s))
      (if d.is_imported then Imported (d ∷ upwards t) else Declared d (added v d) (line_in v t))) (sym a.abroad)
      (subst (λ b. AreLines (Declares files) (Imported (c ∷ upwards s)) (if b then Imported (d ∷ upwards t)
      else Declared d (added v d) (line_in v t))) (sym a.abroad_too) both)

  -- the line of the class
  pub line-alike : class_named w p.name ≡ Some (declared n p)
      → AreLines (Declares files) (line_at w (declared n p)) (line_at v (declared n p))
  line-alike named =
      let k = supertypes w (declared n p).supers in
      let up = supers-alike files place old new g p.name (declared n p) named in
      let acyclic = unbroken_is_acyclic g.list files g.unbroken in
      let line = lines-alike false k (supertypes v (declared n p).supers) up (λ c h. let r = listed_line w (declared n
      p).supers k c (supertypes-AreSupertypes w acyclic (declared n p).supers) h in upward.up
      (declared n p) named r.1 r.2) in
      let all : AreLines (Declares files) (Declared (declared n p) (added w (declared n p)) (line_in w k))
      (Declared (declared n p) (added w (declared n p)) (line_in v (supertypes v (declared n p).supers))) =
      lines.of_class (declared n p) (added w (declared n p)) (line_in w k)
      (line_in v (supertypes v (declared n p).supers)) line refl
      (λ u h. shown-known p.name (declared n p) named refl plain u h)
      (λ u h. given-known files place old new g p.name (declared n p) named refl plain u h) in
      subst (λ z. AreLines (Declares files) (Declared (declared n p) (added w (declared n p)) (line_in w k))
      (Declared (declared n p) z (line_in v (supertypes v (declared n p).supers))))
      (sym (added-same files place old new g p.name (declared n p) named refl plain)) all
