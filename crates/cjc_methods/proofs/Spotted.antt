-- Places of methods, and rule 417 over the members of a package.
use Rattle.std.proofs.Common.{◌≡◌, ℕ, ◌+◌, ◌<◌, ◌≤◌, refl, sym, ap, subst, ◌∙◌, arith, Bool, true, false}
use Rattle.std.proofs.Common.{nat_lt, List, [], ◌∷◌, ◌++◌, length}
use Rattle.std.specs.Prelude.{◌||◌, map, Option, Some, None, option_map, if◌then◌else◌, IfNone}
use Rattle.std.specs.List.{flat_map}
use Rattle.std.proofs.lemmas.Bool.{ltb-false, ltb-true}
use Rattle.std.proofs.lemmas.List.{length-map}
use Rattle.std.proofs.lemmas.List.Concat.{flat_map-cons}
use Rattle.cjc_bytes.specs.Breaks.{Break, IsFirstOf, RulePlace, at, class_spot, each_from, member_spot}
use Rattle.cjc_bytes.specs.Order.{FilePlace, file_of}
use Rattle.cjc_bytes.specs.Refused.{in_class as in_class_place, method_text}
use Rattle.cjc_bytes.proofs.BrokenRules.{break_kept, empty_both}
use Rattle.cjc_bytes.proofs.Firsts.{first_of_one}
use Rattle.cjc_bytes.proofs.Options.{when_none}
use Rattle.cjc_world.specs.ClassFile.declared.tree.ClassTree.{ClassTree}
use Rattle.cjc_world.specs.declared.found.Found.{Found}
use Rattle.cjc_world.specs.Classes.{Class, Member, all_classes, class_at, declared, field_of_class, method_of_class}
use Rattle.cjc_world.specs.Files.{Files}
use Rattle.cjc_components.specs.Descriptor.{method_in}
use Rattle.cjc_components.specs.Limits.{has_many_words, in_class, of_methods}
use Rattle.cjc_pool.specs.JvmSemantics.OnePackage.{method_at}
use Rattle.cjc_int_package.specs.Limits.{lacks_int_room, word_breaks_by_modes}
use Rattle.cjc_int_package.specs.Modes.{Tables}
use Rattle.cjc_components.specs.Package.{LaidMethod, Package, world}
use Rattle.cjc_methods.specs.Working.Spots.{spot_in, word_breaks_in, words_at}

-- a place at a class, moved to a member
pub moved : (s : RulePlace) (fp : FilePlace) (name : List ℕ) → s ≡ class_spot fp 1 name
    → (member offset : ℕ) (text : List ℕ)
    → record {
      file = s.file;
      class = s.class;
      member = member;
      place = in_class_place s.place.file s.place.class text
          offset;
    } ≡ member_spot fp 1 name member text offset
moved s fp name e member offset text = ap (λ (x : RulePlace). record {
  file = x.file;
  class = x.class;
  member = member;
  place = in_class_place x.place.file x.place.class text offset;
}) e

pub inside : {X : Type 0} (a b : ℕ) (x y : X) → a < b → (if nat_lt a b then x else y) ≡ x
inside a b x y lt = by (nat_lt a b) refl
  where
    by : (t : Bool) → nat_lt a b ≡ t → (if t then x else y) ≡ x
    by true h = refl
    by false h = absurd (let le = ltb-false a b h in omega (arith, le))

-- ---- 417 of all methods

same_at : (t : Tables) (p : Package) (m : LaidMethod) (o : Option Class) → words_at t p.files m.member o
    ≡ in_class (word_breaks_by_modes t p) m o
same_at t p m None = refl
same_at t p m (Some c) = refl

all_words : (t : Tables) (p : Package) (n : ℕ) (ms : List LaidMethod) → each_from (λ _ f. word_breaks_in t p.files f) n
    (map (λ m. m.member) ms)
    ≡ flat_map (λ m. let f = m.member
    in in_class (word_breaks_by_modes t p) m (class_at (world p) f.imported f.class)) ms
unfolding each_from
all_words t p n [] = refl
all_words t p n (m ∷ ms) =
    let f = m.member in
    ap (λ bs. bs ++ each_from (λ _ g. word_breaks_in t p.files g) (n + 1) (map (λ x. x.member) ms))
    (same_at t p m (class_at (world p) f.imported f.class))
    ∙ ap (λ bs. in_class (word_breaks_by_modes t p) m (class_at (world p) f.imported f.class) ++ bs)
    (all_words t p (n + 1) ms)
    ∙ sym (flat_map-cons (λ (x : LaidMethod). let g = x.member
    in in_class (word_breaks_by_modes t p) x (class_at (world p) g.imported g.class)) m ms)

pub all_of_package : (t : Tables) (p : Package) (files : Files) (members : List Found) → p.files ≡ files
    → map (λ m. m.member) p.methods ≡ members → each_from (λ _ f. word_breaks_in t files f) 0 members
    ≡ of_methods p (word_breaks_by_modes t p)
all_of_package t p files members e f =
    ap (λ fs. each_from (λ _ g. word_breaks_in t files g) 0 fs) (sym f)
    ∙ ap (λ (w : Files). each_from (λ _ g. word_breaks_in t w g) 0 (map (λ m. m.member) p.methods)) (sym e)
    ∙ all_words t p 0 p.methods

-- ---- at one member

module _ (t : Tables) (files : Files) (f : Found) (c : Class) (is : class_at (all_classes files) f.imported f.class
    ≡ Some c) where
  abbrev test : Bool
  test = has_many_words (method_in (all_classes files) c f.member) || lacks_int_room t files (method_at files f)

  abbrev spot : RulePlace
  spot = spot_in files c f (method_in (all_classes files) c f.member) 0

  tested : (b : Bool) → b ≡ test → at b spot 417 ≡ word_breaks_in t files f
  tested b e = ap (λ x. at x spot 417) e ∙ ap (words_at t files f) (sym is)

  pub none_broken : (b : Bool) → b ≡ test → b ≡ false → word_breaks_in t files f ≡ []
  none_broken b e off = sym (tested b e) ∙ ap (λ x. at x spot 417) off

  pub first_broken : (b : Bool) → b ≡ test → b ≡ true → (s : RulePlace) → s ≡ spot → (o : Option Break)
      → IsFirstOf (at true s 417) o → IsFirstOf (word_breaks_in t files f) o
  first_broken b e on s there o first =
      subst (λ (bs : List Break). IsFirstOf bs o) (ap (λ (x : RulePlace). at true x 417) there
      ∙ ap (λ x. at x spot 417) (sym on) ∙ tested b e) first

-- ---- where none is broken

-- what stands where one thing is broken
abbrev pub only : Option Break → List Break
only None = []
only (Some b) = b ∷ []

pub first_only : (o : Option Break) → IsFirstOf (only o) o
first_only None = refl
first_only (Some b) = first_of_one b

-- a test that tells a broken rule gives no none
pub is_broken : {X : Type 0} (g : X → Break) (o : Option X) (s : RulePlace) (rule : ℕ) (P : Type 0)
    → IsFirstOf (at true s rule) (option_map g o) → IfNone o P
is_broken g None s rule P first = absurd cc
is_broken g (Some x) s rule P first = tt

-- where the first of two is none, neither is there
pub both_none : {X : Type 0} (g : X → Break) (l r o : Option X) (P Q : Type 0)
    → ((xs ys : List Break) → IsFirstOf xs (option_map g l) → IsFirstOf ys (option_map g r)
    → IsFirstOf (xs ++ ys) (option_map g o)) → IfNone l P → IfNone r Q → IfNone o (P × Q)
both_none g l r o P Q first p q = when_none o (P × Q) (λ e.
    let xs = only (option_map g l) in
    let ys = only (option_map g r) in
    let all : xs ++ ys ≡ [] = subst (λ x. IsFirstOf (xs ++ ys) (option_map g x)) e
    (first xs ys (first_only (option_map g l)) (first_only (option_map g r))) in
    let both = empty_both xs ys all in (
      break_kept g l xs P both.0 (first_only (option_map g l)) p,
      break_kept g r ys Q both.1 (first_only (option_map g r)) q,
    ))

-- ---- whether the class file has the method

outside : {X : Type 0} (a b : ℕ) (x y : X) → b ≤ a → (if nat_lt a b then x else y) ≡ y
outside a b x y le = by (nat_lt a b) refl
  where
    by : (t : Bool) → nat_lt a b ≡ t → (if t then x else y) ≡ y
    by true h = absurd (let lt = ltb-true a b h in omega (arith, lt, le))
    by false h = refl

pub spot_inside : (files : Files) (t : ClassTree) (f : Found) (m : Member) (offset : ℕ)
    → f.member < length t.fields + length t.methods
    → spot_in files (declared f.class t) f m offset ≡ member_spot (file_of files.lines f.class) 1 t.name (f.member + 1)
    (method_text m.name m.desc) offset
spot_inside files t f m offset lt =
    let fields = length-map t.fields field_of_class in
    let methods = length-map t.methods method_of_class in
    inside f.member (length (map field_of_class t.fields) + length (map method_of_class t.methods))
    (member_spot (file_of files.lines f.class) 1 t.name (f.member + 1) (method_text m.name m.desc) offset)
    (class_spot (file_of files.lines f.class) 1 t.name)
    (omega (arith, lt, fields, methods))

pub spot_outside : (files : Files) (t : ClassTree) (f : Found) (m : Member) (offset : ℕ)
    → length t.fields + length t.methods ≤ f.member
    → spot_in files (declared f.class t) f m offset ≡ class_spot (file_of files.lines f.class) 1 t.name
spot_outside files t f m offset le =
    let fields = length-map t.fields field_of_class in
    let methods = length-map t.methods method_of_class in
    outside f.member (length (map field_of_class t.fields) + length (map method_of_class t.methods))
    (member_spot (file_of files.lines f.class) 1 t.name (f.member + 1) (method_text m.name m.desc) offset)
    (class_spot (file_of files.lines f.class) 1 t.name)
    (omega (arith, le, fields, methods))

pub same_text : (n d : List ℕ) (m : Member) → n ≡ m.name → d ≡ m.desc → method_text n d ≡ method_text m.name m.desc
same_text n d m e f = ap (λ x. method_text x d) e ∙ ap (method_text m.name) f
