-- What stands above a class in two worlds, in one of which a new version of an export file stands in the place of the
-- old one, and what a class gets from its interfaces there.
use Rattle.std.proofs.Common.{◌≡◌, ℕ, refl, sym, ap, subst, ◌∙◌, Bool, true, false, List, [], ◌∷◌, ◌++◌, inl, inr}
use Rattle.std.specs.Prelude.{◌⊎◌, ◌||◌, ◌&&◌, not, Option, Some, None, if◌then◌else◌, map}
use Rattle.std.specs.List.{list_any}
use Rattle.std.specs.Str.{bytes_eq}
use Rattle.cjc_world.specs.Bytes.AccessFlags.{is_abstract, is_interface, is_private, is_static}
use Rattle.cjc_compat.specs.ExportFile.declared.tree.ExportTree.{ExportTree}
use Rattle.cjc_world.specs.Files.{Files}
use Rattle.cjc_world.specs.Classes.{Class, Member, all_classes, class_named}
use Rattle.cjc_world.specs.Supertypes.{AreSupertypes, End, IsAcyclic, Known, Lists, Supertypes, Unknown, ends}
use Rattle.cjc_world.specs.Supertypes.{known_here, supertypes, unknown_here, upwards}
use Rattle.cjc_world.specs.Supertypes as trees
use Rattle.cjc_world.specs.Interfaces.{Interface, gathered, known, where_listed}
use Rattle.cjc_world.specs.Lookup.{is_called, object}
use Rattle.cjc_world.specs.Added.{added, asked_by, declares_open, has_open, is_one_of, is_open, lacking, methods_of}
use Rattle.cjc_world.specs.Added.{own_methods, takes_added}
use Rattle.cjc_world.specs.Rules.{is_class_of, is_interface_of, is_of_class_file, lists_wrong}
use Rattle.cjc_world.specs.Upwards.{Has, after, foremost}
use Rattle.cjc_world.proofs.Cycles.{class_named-name}
use Rattle.cjc_world.proofs.Rising.{known-append}
use Rattle.cjc_world.proofs.Settled.{AreSupertypes-one, supertypes-AreSupertypes}
use Rattle.cjc_world.proofs.Unbroken.{unbroken_is_acyclic}
use Rattle.cjc_world.proofs.UpwardLaws.Lines.{has-cons}
use Rattle.cjc_tokens.specs.Members.{Signature, has, is_constructor, is_exposed, is_initialiser, same}
use Rattle.cjc_tokens.specs.Members.{signature_of}
use Rattle.cjc_tokens.specs.Lines.{Declared, Imported, line_in}
use Rattle.cjc_tokens.specs.Slots.{first_answer, listed_token, or_next, told_by, told_in}
use Rattle.cjc_tokens.proofs.Facts.{same-true}
use Rattle.cjc_tokens.proofs.Supers.{class_at-number}
use Rattle.cjc_tokens.proofs.Asked.{methods_of-append}
use Rattle.cjc_cmd_compat.specs.Subclasses.{Declares, by_interface, with_export}
use Rattle.cjc_cmd_compat.proofs.SubclassesLaws.Members.{AreGiven, ArePair, named-kept, none-kept, one_class}
use Rattle.cjc_cmd_compat.proofs.SubclassesLaws.Members.{two_classes}
use Rattle.cjc_cmd_compat.proofs.SubclassesLaws.Slots.{both_ways}
use Rattle.cjc_cmd_compat.proofs.SubclassesLaws.Worlds.{any-got, any-of, named-has, none-listed, ruled-class}
use Rattle.cjc_world.proofs.BytesBools.{bool_four}

-- ---- trees

-- Trees of two worlds, class by class. Of a row is said whether interfaces stand there, and whether only classes of
-- export files do.
pub data AreTrees (files : Files) (old : ExportTree) (w v : List Class) : (listed abroad : Bool) → Supertypes
    → Supertypes → Type 0 where
  none : {listed abroad : Bool} → AreTrees files old w v listed abroad End End
  unknown : {listed abroad : Bool} (x : List ℕ) (k l : Supertypes) → AreTrees files old w v listed abroad k l
      → AreTrees files old w v listed abroad (Unknown x k) (Unknown x l)
  class : {listed abroad : Bool} (c d : Class) (s i t j k l : Supertypes) → ArePair files old c d
      → class_named w c.name ≡ Some c → is_interface c.flags ≡ listed → (abroad ≡ true → c.is_imported ≡ true)
      → s ≡ supertypes w c.supers → AreTrees files old w v false c.is_imported s t
      → AreTrees files old w v true c.is_imported i j → AreTrees files old w v listed abroad k l
      → AreTrees files old w v listed abroad (Known c s i k) (Known d t j l)

pair-supers : (files : Files) (old : ExportTree) (c d : Class) → ArePair files old c d → (d.supers ≡ c.supers)
    × (d.interfaces ≡ c.interfaces)
pair-supers files old _ _ (one_class c e) = (refl, refl)
pair-supers files old _ _ (two_classes c d a) = (a.supers, a.interfaces)

module _ (files : Files) (place : ℕ) (old new : ExportTree) (g : AreGiven files place old new) where
  abbrev w : List Class
  w = all_classes files

  abbrev v : List Class
  v = all_classes (with_export files place new)

  acyclic : IsAcyclic w
  acyclic = unbroken_is_acyclic g.list files g.unbroken

  acyclic_too : IsAcyclic v
  acyclic_too = unbroken_is_acyclic g.list (with_export files place new) g.unbroken_too

  -- what a class lists is of its kind
  wrong : (x : List ℕ) (c : Class) → class_named w x ≡ Some c → lists_wrong w c ≡ false
  wrong x c e = (ruled-class g.list files g.unbroken c (named-has w x c e)).wrong

  row-supers : (x y : List ℕ) (c b : Class) → class_named w x ≡ Some c → Lists y c.supers → class_named w y ≡ Some b
      → (is_interface b.flags ≡ false) × (c.is_imported ≡ true → b.is_imported ≡ true)
  unfolding lists_wrong
  row-supers x y c b e l f =
      let k = bool_four (list_any (λ z. is_interface_of (class_named w z)) c.supers)
      (list_any (λ z. is_class_of (class_named w z)) c.interfaces) (is_interface c.flags
      && list_any (λ z. not (bytes_eq z object)) c.supers) (c.is_imported
      && (list_any (λ z. is_of_class_file (class_named w z)) c.supers
      || list_any (λ z. is_of_class_file (class_named w z)) c.interfaces)) (wrong x c e) in (
        ap is_interface_of (sym f) ∙ none-listed (λ z. is_interface_of (class_named w z)) c.supers y k.0 l,
        λ im. away b.is_imported (ap is_of_class_file (sym f) ∙ none-listed (λ z. is_of_class_file (class_named w z))
            c.supers y (fore c.is_imported (list_any (λ z. is_of_class_file (class_named w z)) c.supers)
            (list_any (λ z. is_of_class_file (class_named w z)) c.interfaces) im k.3) l),
      )
    where
      fore : (i p q : Bool) → i ≡ true → (i && (p || q)) ≡ false → p ≡ false
      fore true false q h e = refl
      fore true true q h e = absurd cc
      fore false p q h e = absurd cc

      away : (i : Bool) → not i ≡ false → i ≡ true
      away true e = refl
      away false e = absurd cc

  row-interfaces : (x y : List ℕ) (c b : Class) → class_named w x ≡ Some c → Lists y c.interfaces
      → class_named w y ≡ Some b → (is_interface b.flags ≡ true) × (c.is_imported ≡ true → b.is_imported ≡ true)
  unfolding lists_wrong
  row-interfaces x y c b e l f =
      let k = bool_four (list_any (λ z. is_interface_of (class_named w z)) c.supers)
      (list_any (λ z. is_class_of (class_named w z)) c.interfaces) (is_interface c.flags
      && list_any (λ z. not (bytes_eq z object)) c.supers) (c.is_imported
      && (list_any (λ z. is_of_class_file (class_named w z)) c.supers
      || list_any (λ z. is_of_class_file (class_named w z)) c.interfaces)) (wrong x c e) in (
        away (is_interface b.flags) (ap is_class_of (sym f) ∙ none-listed (λ z. is_class_of
            (class_named w z)) c.interfaces
            y k.1 l),
        λ im. away b.is_imported (ap is_of_class_file (sym f) ∙ none-listed (λ z. is_of_class_file (class_named w z))
            c.interfaces y (back c.is_imported (list_any (λ z. is_of_class_file (class_named w z)) c.supers)
            (list_any (λ z. is_of_class_file (class_named w z)) c.interfaces) im k.3) l),
      )
    where
      back : (i p q : Bool) → i ≡ true → (i && (p || q)) ≡ false → q ≡ false
      back true false q h e = e
      back true true q h e = absurd cc
      back false p q h e = absurd cc

      away : (i : Bool) → not i ≡ false → i ≡ true
      away true e = refl
      away false e = absurd cc

  trees-alike : (listed abroad : Bool) (xs : List (List ℕ)) (k : Supertypes) → AreSupertypes w xs k
      → ((x : List ℕ) (c : Class) → Lists x xs → class_named w x ≡ Some c → (is_interface c.flags ≡ listed)
      × (abroad ≡ true → c.is_imported ≡ true))
      → ((x : List ℕ) → Lists x xs → class_named w x ≡ None → class_named v x ≡ None)
      → (l : Supertypes) × AreSupertypes v xs l × AreTrees files old w v listed abroad k l
  trees-alike listed abroad xs k ends row n = (End, ends, none)
  trees-alike listed abroad (x ∷ xs) k (unknown_here {next = next} e a) row n =
      let r = trees-alike listed abroad xs next a (λ y c l. row y c (trees.after l)) (λ y l. n y (trees.after l)) in
      (Unknown x r.0, unknown_here (n x trees.foremost e) r.1, unknown x next r.0 r.2)
  trees-alike listed abroad (x ∷ xs) k (known_here {c = c} {supers = s} {interfaces = i} {next = next} e p q a) row n =
      let d = named-kept files place old new g x c e in
      let here = row x c trees.foremost e in
      let same = pair-supers files old c d.0 d.2 in
      let up = trees-alike false c.is_imported c.supers s p (λ y b l f. row-supers x y c b e l f)
      (λ y l f. none-kept files place old new g x y c e (inl l) f) in
      let side = trees-alike true c.is_imported c.interfaces i q (λ y b l f. row-interfaces x y c b e l f)
      (λ y l f. none-kept files place old new g x y c e (inr l) f) in
      let on = trees-alike listed abroad xs next a (λ y b l. row y b (trees.after l)) (λ y l. n y (trees.after l)) in
      let name = ap (class_named w) (class_named-name w x c e) ∙ e in
      let tree = supertypes-AreSupertypes w acyclic c.supers in
      let is = AreSupertypes-one w c.supers s (supertypes w c.supers) p tree in (
        Known d.0 up.0 side.0 on.0,
        known_here d.1 (subst (λ z. AreSupertypes v z up.0) (sym same.0) up.1)
            (subst (λ z. AreSupertypes v z side.0) (sym same.1) side.1) on.1,
        class c d.0 s i up.0 side.0 next on.0 d.2 name here.0 here.1 is up.2 side.2 on.2,
      )

  -- the trees of what a class lists
  pub supers-alike : (x : List ℕ) (c : Class) → class_named w x ≡ Some c
      → AreTrees files old w v false c.is_imported (supertypes w c.supers) (supertypes v c.supers)
  supers-alike x c e =
      let r = trees-alike false c.is_imported c.supers (supertypes w c.supers) (supertypes-AreSupertypes w acyclic
      c.supers)
      (λ y b l f. row-supers x y c b e l f) (λ y l f. none-kept files place old new g x y c e (inl l) f) in
      subst (λ l. AreTrees files old w v false c.is_imported (supertypes w c.supers) l)
      (AreSupertypes-one v c.supers r.0 (supertypes v c.supers) r.1 (supertypes-AreSupertypes v acyclic_too c.supers))
      r.2

  pub interfaces-alike : (x : List ℕ) (c : Class) → class_named w x ≡ Some c
      → AreTrees files old w v true c.is_imported (supertypes w c.interfaces) (supertypes v c.interfaces)
  interfaces-alike x c e =
      let r = trees-alike true c.is_imported c.interfaces (supertypes w c.interfaces)
      (supertypes-AreSupertypes w acyclic
      c.interfaces) (λ y b l f. row-interfaces x y c b e l f) (λ y l f. none-kept files place old new g x y c e
      (inr l) f)
      in
      subst (λ l. AreTrees files old w v true c.is_imported (supertypes w c.interfaces) l)
      (AreSupertypes-one v c.interfaces r.0 (supertypes v c.interfaces) r.1 (supertypes-AreSupertypes v acyclic_too
      c.interfaces)) r.2

-- ---- the methods of interfaces

-- the methods of some interfaces in turn
abbrev asked : List Interface → List Member
asked is = methods_of (known is)

asked-append : (a b : List Interface) → asked (a ++ b) ≡ asked a ++ asked b
asked-append a b = ap methods_of (known-append a b) ∙ methods_of-append (known a) (known b)

asked-both : (a b c d : List Interface) → asked c ≡ asked a → asked d ≡ asked b → asked (c ++ d) ≡ asked (a ++ b)
asked-both a b c d e f = asked-append c d ∙ ap (λ q. q ++ asked d) e ∙ ap (λ q. asked a ++ q) f ∙ sym (asked-append a b)

of-class : Class → Interface
of-class c = record { name = c.name; class = Some c }

asked-here : (files : Files) (old : ExportTree) (c d : Class) (listed : Bool) → ArePair files old c d
    → is_interface c.flags ≡ listed → asked (where_listed listed (of-class d)) ≡ asked (where_listed listed
    (of-class c))
unfolding of-class known methods_of
asked-here files old c d false p e = refl
asked-here files old c d true p e = ap (λ q. q ++ []) (on c d p e)
  where
    on : (c d : Class) → ArePair files old c d → is_interface c.flags ≡ true → own_methods d ≡ own_methods c
    on _ _ (one_class c f) e = refl
    on _ _ (two_classes c d a) e = a.own e

gathered-asked : (files : Files) (old : ExportTree) (w v : List Class) (listed abroad : Bool) (k l : Supertypes)
    → AreTrees files old w v listed abroad k l → asked (gathered listed l) ≡ asked (gathered listed k)
unfolding gathered of-class
gathered-asked files old w v listed abroad _ _ none = refl
gathered-asked files old w v listed abroad _ _ (unknown x k l t) =
    asked-both (where_listed listed (record { name = x; class = None })) (gathered listed k)
    (where_listed listed (record { name = x; class = None })) (gathered listed l) refl
    (gathered-asked files old w v listed abroad k l t)
gathered-asked files old w v listed abroad _ _ (class c d s i t j k l p name kind ab is up side on) =
    let a = gathered-asked files old w v false c.is_imported s t up in
    let b = gathered-asked files old w v true c.is_imported i j side in
    let e = gathered-asked files old w v listed abroad k l on in
    asked-both (gathered false s ++ gathered true i ++ where_listed listed (of-class c)) (gathered listed k)
    (gathered false t ++ gathered true j ++ where_listed listed (of-class d)) (gathered listed l)
    (asked-both (gathered false s ++ gathered true i) (where_listed listed (of-class c)) (gathered false t
    ++ gathered true j) (where_listed listed (of-class d))
    (asked-both (gathered false s) (gathered true i) (gathered false t) (gathered true j) a b)
    (asked-here files old c d listed p kind)) e

pub asked-same : (files : Files) (old : ExportTree) (w v : List Class) (a b : Bool) (s i t j : Supertypes)
    → AreTrees files old w v false a s t → AreTrees files old w v true b i j → asked_by t j ≡ asked_by s i
unfolding asked_by
asked-same files old w v a b s i t j e f = asked-both (gathered false s) (gathered true i) (gathered false t)
    (gathered true j) (gathered-asked files old w v false a s t e) (gathered-asked files old w v true b i j f)

-- ---- methods that a class gets

declares-same : (files : Files) (old : ExportTree) (c d : Class) (s : Signature) → ArePair files old c d
    → Declares files s → declares_open s.name s.desc d ≡ declares_open s.name s.desc c
declares-same files old _ _ s (one_class c e) q = refl
declares-same files old _ _ s (two_classes c d a) q =
    let test = λ (m : Member). is_open m.flags && is_called s.name s.desc m in
    both_ways (declares_open s.name s.desc c) (declares_open s.name s.desc d)
    (λ e. let r = any-got test c.methods e in any-of test d.methods r.0 (a.kept r.0 r.1) r.2)
    (λ e. let r = any-got test d.methods e in
    let is = same-true (signature_of r.0) s (called (is_open r.0.flags) (is_called s.name s.desc r.0) r.2) in
    any-of test c.methods r.0 (a.back r.0 r.1 (subst (λ z. Declares files z) (sym is) q)) r.2)
  where
    called : (x y : Bool) → (x && y) ≡ true → y ≡ true
    called true y e = e
    called false y e = absurd cc

took-same : (files : Files) (old : ExportTree) (c d : Class) (name desc : List ℕ) (ms ns : List Member)
    → ArePair files old c d → ns ≡ ms
    → (takes_added d && is_one_of ns name desc) ≡ (takes_added c && is_one_of ms name desc)
took-same files old _ _ name desc ms ns (one_class c e) is = ap (λ l. takes_added c && is_one_of l name desc) is
took-same files old _ _ name desc ms ns (two_classes c d a) is =
    ap (λ b. (not b && is_abstract d.flags && not (is_interface d.flags)) && is_one_of ns name desc) a.abroad_too
    ∙ sym (ap (λ b. (not b && is_abstract c.flags && not (is_interface c.flags)) && is_one_of ms name desc) a.abroad)

open-same : (files : Files) (old : ExportTree) (w v : List Class) (listed abroad : Bool) (k l : Supertypes)
    (s : Signature) → Declares files s → AreTrees files old w v listed abroad k l
    → has_open s.name s.desc l ≡ has_open s.name s.desc k
unfolding has_open
open-same files old w v listed abroad _ _ s q none = refl
open-same files old w v listed abroad _ _ s q (unknown x k l t) = open-same files old w v listed abroad k l s q t
open-same files old w v listed abroad _ _ s q (class c d s1 i t j k l p name kind ab is up side on) =
    let a = declares-same files old c d s p q in
    let b = open-same files old w v false c.is_imported s1 t s q up in
    let e = took-same files old c d s.name s.desc (asked_by s1 i) (asked_by t j) p
    (asked-same files old w v c.is_imported c.is_imported s1 i t j up side) in
    let f = open-same files old w v listed abroad k l s q on in
    ap (λ z. z || has_open s.name s.desc t || (takes_added d && is_one_of (asked_by t j) s.name s.desc)
    || has_open s.name s.desc l) a
    ∙ ap (λ z. declares_open s.name s.desc c || z || (takes_added d && is_one_of (asked_by t j) s.name s.desc)
    || has_open s.name s.desc l) b
    ∙ ap (λ z. declares_open s.name s.desc c || has_open s.name s.desc s1 || z || has_open s.name s.desc l) e
    ∙ ap (λ z. declares_open s.name s.desc c || has_open s.name s.desc s1
    || (takes_added c && is_one_of (asked_by s1 i) s.name s.desc) || z) f

lacking-same : (p q : Member → Bool) (given ms : List Member) → ((m : Member) → Has m ms → p m ≡ q m)
    → lacking p given ms ≡ lacking q given ms
unfolding lacking
lacking-same p q given [] each = refl
lacking-same p q given (m ∷ ms) each =
    let here = each m foremost in
    let old = lacking-same p q given ms (λ n h. each n (after h)) in
    let more = lacking-same p q (given ++ m ∷ []) ms (λ n h. each n (after h)) in
    ap (λ b. if b || is_one_of given m.name m.desc then lacking p given ms else m ∷ lacking p (given ++ m ∷ []) ms) here
    ∙ ap (λ l. if q m || is_one_of given m.name m.desc then l else m ∷ lacking p (given ++ m ∷ []) ms) old
    ∙ ap (λ l. if q m || is_one_of given m.name m.desc then lacking q given ms else m ∷ l) more

lacking-not : (p : Member → Bool) (given ms : List Member) (m : Member) → Has m (lacking p given ms) → (p m ≡ false)
    × Has m ms
unfolding lacking
lacking-not p given [] m h = elim h [ ]
lacking-not p given (x ∷ ms) m h = by (p x) (is_one_of given x.name x.desc) refl h (lacking-not p given ms m)
    (lacking-not p (given ++ x ∷ []) ms m)
  where
    by : (a b : Bool) → p x ≡ a → Has m (if a || b then lacking p given ms else x ∷ lacking p (given ++ x ∷ []) ms)
        → (Has m (lacking p given ms) → (p m ≡ false) × Has m ms)
        → (Has m (lacking p (given ++ x ∷ []) ms) → (p m ≡ false) × Has m ms) → (p m ≡ false) × Has m (x ∷ ms)
    by true b e h old more = let r = old h in (r.0, after r.1)
    by false true e h old more = let r = old h in (r.0, after r.1)
    by false false e h old more = on (has-cons m x (lacking p (given ++ x ∷ []) ms) h)
      where
        on : (m ≡ x) ⊎ Has m (lacking p (given ++ x ∷ []) ms) → (p m ≡ false) × Has m (x ∷ ms)
        on (inl is) = (ap p is ∙ e, subst (λ z. Has z (x ∷ ms)) (sym is) foremost)
        on (inr g) = let r = more g in (r.0, after r.1)

-- ---- what is listed for a method that a class gets

answer-append : {A B : Type 0} (f : A → Option B) (xs ys : List A) → first_answer f (xs ++ ys)
    ≡ or_next (first_answer f xs) (first_answer f ys)
unfolding first_answer
answer-append f [] ys = refl
answer-append {A} {B} f (x ∷ xs) ys = by (f x) (answer-append f xs ys)
  where
    by : (o : Option B) → first_answer f (xs ++ ys) ≡ or_next (first_answer f xs) (first_answer f ys)
        → or_next o (first_answer f (xs ++ ys)) ≡ or_next (or_next o (first_answer f xs)) (first_answer f ys)
    by None e = e
    by (Some b) e = refl

none-told : (s : Signature) (ms : List Member) → list_any (λ m. is_open m.flags && is_called s.name s.desc m) ms ≡ false
    → first_answer (told_by s) ms ≡ None
unfolding first_answer
none-told s [] e = refl
none-told s (m ∷ ms) e =
    let k = split (is_open m.flags && is_called s.name s.desc m) (list_any (λ n. is_open n.flags && is_called s.name
    s.desc
    n) ms) e in
    let here = shut (is_exposed m.flags) (is_private m.flags) (is_static m.flags) (not (is_constructor m.name
    || is_initialiser m.name)) (is_called s.name s.desc m) k.0 in
    ap (λ b. or_next (if b then Some m.token else None) (first_answer (told_by s) ms)) here ∙ none-told s ms k.1
  where
    split : (a b : Bool) → (a || b) ≡ false → (a ≡ false) × (b ≡ false)
    split true b e = absurd cc
    split false b e = (refl, e)

    shut : (e p s x c : Bool) → ((e && not s) && c) ≡ false → ((e && ((not p && not s) && x)) && c) ≡ false
    shut false p s x c h = refl
    shut true true s x c h = refl
    shut true false true x c h = refl
    shut true false false false c h = refl
    shut true false false true c h = h

not-told : (s : Signature) (c : Class) → declares_open s.name s.desc c ≡ false → told_in s c ≡ None
not-told s c e = by c.is_imported (none-told s c.methods e)
  where
    by : (b : Bool) → first_answer (told_by s) c.methods ≡ None → (if b then first_answer (told_by s) c.methods
        else None) ≡ None
    by true h = h
    by false h = refl

not-above : (s : Signature) (k : Supertypes) → has_open s.name s.desc k ≡ false → first_answer (told_in s) (upwards k)
    ≡ None
unfolding has_open first_answer
not-above s End e = refl
not-above s (Unknown x next) e = not-above s next e
not-above s (Known c t i next) e =
    let k = bool_four (declares_open s.name s.desc c) (has_open s.name s.desc t) (takes_added c && is_one_of
    (asked_by t i) s.name
    s.desc) (has_open s.name s.desc next) e in
    let up = not-above s t k.1 in
    let on = not-above s next k.3 in
    ap (λ o. or_next o (first_answer (told_in s) (upwards t ++ upwards next))) (not-told s c k.0)
    ∙ answer-append (told_in s) (upwards t) (upwards next)
    ∙ ap (λ o. or_next o (first_answer (told_in s) (upwards next))) up ∙ on

not-listed : (w : List Class) (s : Signature) (k : Supertypes) → has_open s.name s.desc k ≡ false
    → listed_token (line_in w k) s ≡ None
unfolding has_open first_answer
not-listed w s End e = refl
not-listed w s (Unknown x next) e = refl
not-listed w s (Known c t i next) e =
    let k = bool_four (declares_open s.name s.desc c) (has_open s.name s.desc t) (takes_added c && is_one_of
    (asked_by t i) s.name
    s.desc) (has_open s.name s.desc next) e in
    by c.is_imported (ap (λ o. or_next o (first_answer (told_in s) (upwards t))) (not-told s c k.0) ∙ not-above s t k.1)
    (not-listed w s t k.1)
  where
    by : (b : Bool) → or_next (told_in s c) (first_answer (told_in s) (upwards t)) ≡ None
        → listed_token (line_in w t) s ≡ None
        → listed_token (if b then Imported (c ∷ upwards t) else Declared c (added w c) (line_in w t)) s ≡ None
    by true h r = h
    by false h r = r

has-signature : (ms : List Member) (s : Signature) → has (map signature_of ms) s ≡ true → (m : Member) × Has m ms
    × (signature_of m ≡ s)
has-signature [] s e = absurd cc
has-signature (x ∷ ms) s e = by (same (signature_of x) s) refl e (has-signature ms s)
  where
    by : (b : Bool) → same (signature_of x) s ≡ b → (b || has (map signature_of ms) s) ≡ true
        → (has (map signature_of ms) s ≡ true → (m : Member) × Has m ms × (signature_of m ≡ s)) → (m : Member)
        × Has m (x ∷ ms) × (signature_of m ≡ s)
    by true f h rest = (x, foremost, same-true (signature_of x) s f)
    by false f h rest = let r = rest h in (r.0, after r.1, r.2)

module _ (files : Files) (place : ℕ) (old new : ExportTree) (g : AreGiven files place old new) (x : List ℕ) (c : Class)
    (named : class_named (all_classes files) x ≡ Some c) (here : c.is_imported ≡ false)
    (plain : is_interface c.flags ≡ false) where
  abbrev one : List Class
  one = all_classes files

  abbrev two : List Class
  two = all_classes (with_export files place new)

  -- a method of an interface that the class has
  asked-known : (m : Member) → Has m (asked_by (supertypes one c.supers) (supertypes one c.interfaces))
      → Declares files (signature_of m)
  asked-known m h =
      let t = class_at-number files x c named here in
      by_interface c.number t.0 t.1 (sym (ap (λ (z : Class). is_interface z.flags) t.2) ∙ plain) m
      (subst (λ (z : Class). Has m (asked_by (supertypes one z.supers) (supertypes one z.interfaces))) t.2 h)

  pub added-same : added two c ≡ added one c
  unfolding added
  added-same =
      let up = supers-alike files place old new g x c named in
      let side = interfaces-alike files place old new g x c named in
      let is = asked-same files old one two c.is_imported c.is_imported (supertypes one c.supers) (supertypes one
      c.interfaces) (supertypes two c.supers) (supertypes two c.interfaces) up side in
      let all = asked_by (supertypes one c.supers) (supertypes one c.interfaces) in
      ap (λ l. if takes_added c then lacking (λ m. declares_open m.name m.desc c || has_open m.name m.desc
      (supertypes two
      c.supers)) [] l else []) is
      ∙ ap (λ l. if takes_added c then l else []) (lacking-same (λ m. declares_open m.name m.desc c
      || has_open m.name m.desc (supertypes two c.supers)) (λ m. declares_open m.name m.desc c
      || has_open m.name m.desc (supertypes one c.supers)) [] all
      (λ m h. ap (λ b. declares_open m.name m.desc c || b) (open-same files old one two false c.is_imported
      (supertypes one
      c.supers) (supertypes two c.supers) (signature_of m) (asked-known m h) up)))

  pub given-known : (u : Signature) → has (map signature_of (added one c)) u ≡ true → Declares files u
      × (listed_token (line_in one (supertypes one c.supers)) u ≡ None)
  unfolding added
  given-known u e =
      let m = has-signature (added one c) u e in
      let r = by (takes_added c) m.0 m.1 in
      let opens = has_open m.0.name m.0.desc (supertypes one c.supers) in
      let shut = split (declares_open m.0.name m.0.desc c) opens r.0 in (
        subst (λ z. Declares files z) m.2 (asked-known m.0 r.1),
        subst (λ z. listed_token (line_in one (supertypes one c.supers)) z ≡ None) m.2
            (not-listed one (signature_of m.0) (supertypes one c.supers) shut),
      )
    where
      by : (b : Bool) (m : Member) → Has m (if b then lacking (λ m. declares_open m.name m.desc c
          || has_open m.name m.desc (supertypes one c.supers)) [] (asked_by (supertypes one c.supers) (supertypes one
          c.interfaces)) else []) → ((declares_open m.name m.desc c || has_open m.name m.desc (supertypes one c.supers))
          ≡ false) × Has m (asked_by (supertypes one c.supers) (supertypes one c.interfaces))
      by true m h = lacking-not (λ m. declares_open m.name m.desc c || has_open m.name m.desc
          (supertypes one c.supers)) []
          (asked_by (supertypes one c.supers) (supertypes one c.interfaces)) m h
      by false m h = elim h [ ]

      split : (a b : Bool) → (a || b) ≡ false → b ≡ false
      split true b e = absurd cc
      split false b e = e
