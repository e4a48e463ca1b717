-- Exceptions of packages of read files that break no rule: java/lang/Throwable and the machine's own are there, each of
-- these a class below that one; and no class of the package is java/lang/Object.
use Rattle.std.proofs.Common.{◌≡◌, ◌⊎◌, ℕ, zero, suc, ◌+◌, refl, sym, ap, subst, ◌∙◌, arith, Bool, true, false, List}
use Rattle.std.proofs.Common.{[]}
use Rattle.std.proofs.Common.{◌∷◌, Option, Some, None, slice_get}
use Rattle.std.specs.Prelude.{◌&&◌, ◌||◌, codes, if◌then◌else◌, is_some, nat_lt, not, option_map, length}
use Rattle.std.specs.Str.{bytes_eq}
use Rattle.cjc_bytes.specs.AccessFlags as flags
use Rattle.cjc_verify.specs.List.Listed.{ListTree}
use Rattle.cjc_check_rules.specs.Complete.{Complete}
use Rattle.cjc_check_rules.specs.Described.{all_starts, classes_in_order}
use Rattle.cjc_world.specs.ExportFile.declared.tree.ExportClass.{ExportClass}
use Rattle.cjc_world.specs.ExportFile.declared.tree.ExportTree.{ExportTree}
use Rattle.cjc_world.specs.declared.image.StaticImage.{StaticImage}
use Rattle.cjc_world.specs.Classes as world_of
use Rattle.cjc_world.specs.Files.{Files}
use Rattle.cjc_world.specs.Lookup.{object}
use Rattle.cjc_world.specs.Rules.{has_array_exceptions, has_class as file_has, has_exception, has_language, has_needed}
use Rattle.cjc_world.specs.Rules.{has_other_exceptions, has_roots, throwable as throwable_name}
use Rattle.cjc_world.specs.Subtype.{is_subclass, is_subtype}
use Rattle.cjc_world.specs.Supertypes.{End, Known, Supertypes, Unknown, is_below, stands, stands_by_supers, supertypes}
use Rattle.cjc_card_semantics.specs.Bytecode.Calculations.{Arithmetic, ArrayStore, ClassCast, Fault, IndexOutside}
use Rattle.cjc_card_semantics.specs.Bytecode.Calculations.{NegativeSize, NullPointer}
use Rattle.cjc_card_semantics.specs.Machine.Classes.{Class, External, Own, external, external_named, fault_class}
use Rattle.cjc_card_semantics.specs.Machine.Classes.{fault_name, is_in, is_interface, is_interface_file, is_kind_of}
use Rattle.cjc_card_semantics.specs.Machine.Classes.{number_named, supers}
use Rattle.cjc_card_semantics.specs.Machine.Loaded.{Loaded, Part}
use Rattle.cjc_card_semantics.specs.Script.Sorts.{OfClass}
use Rattle.cjc_card_acts.specs.CardTypes.{shape_by}
use Rattle.cjc_components.specs.Names.{ref_to}
use Rattle.cjc_components.specs.Package.{Package, world}
use Rattle.cjc_components.specs.Paired.Naming.{part_of}
use Rattle.cjc_token_proof.specs.ByToken.Names.{IsImport, SaysFileName}
use Rattle.cjc_token_proof.specs.Tables.Loading.{loaded, naming, part}
use Rattle.cjc_token_proof.specs.Tables.Sound.{IsSound}
use Rattle.cjc_token_proof.specs.WrittenSends.Named.{FaultsAreClasses}
use Rattle.cjc_verify.specs.ClassTypes.{class_type}
use Rattle.cjc_verify.specs.Instructions.{throwable}
use Rattle.cjc_verify.specs.Pairs.{Pair, pair_of}
use Rattle.cjc_verify_proof.specs.Memories.{SupersStand}
use Rattle.cjc_verify_proof.specs.Scripts.{HasExceptions}
use Rattle.cjc_verified_proof.specs.Entries.{AreCounted, AreRefs}
use Rattle.cjc_verified_proof.specs.PackageTypes.{HasNoObject}
use Rattle.cjc_bytes.proofs.Bools.{both_back, both_front}
use Rattle.cjc_bytes.proofs.Plain.{same_some}
use Rattle.cjc_token_proof.proofs.TablesLaws.Clean.{language}
use Rattle.cjc_token_proof.proofs.TablesLaws.Tables.{kinds_agree}
use Rattle.cjc_token_proof.proofs.TablesLaws.Telling.{has_lang, has_object, says_names}
use Rattle.cjc_card_semantics.proofs.MachineLaws.Upwards.{Over, here, over_told, told_over, up}
use Rattle.cjc_verified_proof.proofs.PlaceLaws.{all_read}
use Rattle.cjc_verified_proof.proofs.NameLaws.{imported_meant}

-- ---- what stands above by supers alone stands above

or_more : (a b d b' i d' : Bool) → (b ≡ true → b' ≡ true) → (d ≡ true → d' ≡ true) → (a || b || d) ≡ true
    → (a || b' || i || d') ≡ true
or_more true b d b' i d' f g e = refl
or_more false true d b' i d' f g e = ap (λ x. false || x || i || d') (f refl)
or_more false false true b' i d' f g e = ap (λ x. false || b' || i || x) (g refl) ∙ last b' i
  where
    last : (b i : Bool) → (false || b || i || true) ≡ true
    last true i = refl
    last false true = refl
    last false false = refl
or_more false false false b' i d' f g e = absurd cc

or_less : (a d d' : Bool) → (d ≡ true → d' ≡ true) → (a || d) ≡ true → (a || d') ≡ true
or_less true d d' g e = refl
or_less false d d' g e = g e

stands_so : (y : List ℕ) (k : Supertypes) → stands_by_supers y k ≡ true → stands y k ≡ true
stands_so y End e = e
stands_so y (Unknown x next) e = or_less (bytes_eq x y) (stands_by_supers y next) (stands y next) (stands_so y next) e
stands_so y (Known c sups interfaces next) e = or_more (bytes_eq c.name y) (stands_by_supers y sups)
    (stands_by_supers y next) (stands y sups) (stands y interfaces) (stands y next) (stands_so y sups)
    (stands_so y next) e

-- ---- 207

needed : (w : List world_of.Class) (ts : List ExportTree) → has_language w ts ≡ true → (t : ExportTree)
    × (has_needed w t ≡ true)
unfolding has_language
needed w [] e = cc
needed w (t ∷ ts) e = by (bytes_eq t.name (codes "java/lang")) e (needed w ts)
  where
    by : (b : Bool) → (if b then has_needed w t else has_language w ts) ≡ true → (has_language w ts ≡ true
        → (u : ExportTree) × (has_needed w u ≡ true)) → (u : ExportTree) × (has_needed w u ≡ true)
    by true f rest = (t, f)
    by false f rest = rest f

split : (a b c : Bool) → (a && b && c) ≡ true → (a ≡ true) × (b ≡ true) × (c ≡ true)
split true true true e = (refl, refl, refl)
split true true false e = cc
split true false c e = cc
split false b c e = cc

-- the exceptions of the machine's own are below Throwable
faults_below : (w : List world_of.Class) (t : ExportTree) → has_needed w t ≡ true → (f : Fault)
    → is_below w (fault_name f) throwable_name ≡ true
unfolding has_needed has_array_exceptions has_other_exceptions
faults_below w t e = by
  where
    parts : (has_roots t ≡ true) × (has_array_exceptions w t ≡ true) × (has_other_exceptions w t ≡ true)
    parts = split (has_roots t) (has_array_exceptions w t) (has_other_exceptions w t) e

    arrays : (has_exception w t (codes "java/lang/ArrayIndexOutOfBoundsException") ≡ true)
        × (has_exception w t (codes "java/lang/ArrayStoreException") ≡ true)
        × (has_exception w t (codes "java/lang/NegativeArraySizeException") ≡ true)
    arrays = split (has_exception w t (codes "java/lang/ArrayIndexOutOfBoundsException"))
        (has_exception w t (codes "java/lang/ArrayStoreException"))
        (has_exception w t (codes "java/lang/NegativeArraySizeException")) parts.1

    others : (has_exception w t (codes "java/lang/ArithmeticException") ≡ true)
        × (has_exception w t (codes "java/lang/ClassCastException") ≡ true)
        × (has_exception w t (codes "java/lang/NullPointerException") ≡ true)
    others = split (has_exception w t (codes "java/lang/ArithmeticException"))
        (has_exception w t (codes "java/lang/ClassCastException"))
        (has_exception w t (codes "java/lang/NullPointerException")) parts.2

    back : (x : List ℕ) → has_exception w t x ≡ true → is_below w x throwable_name ≡ true
    back x h = both_back (file_has t x) (is_below w x throwable_name) h

    by : (f : Fault) → is_below w (fault_name f) throwable_name ≡ true
    by Arithmetic = back (codes "java/lang/ArithmeticException") others.0
    by NullPointer = back (codes "java/lang/NullPointerException") others.2
    by IndexOutside = back (codes "java/lang/ArrayIndexOutOfBoundsException") arrays.0
    by NegativeSize = back (codes "java/lang/NegativeArraySizeException") arrays.2
    by ClassCast = back (codes "java/lang/ClassCastException") others.1
    by ArrayStore = back (codes "java/lang/ArrayStoreException") arrays.1

fault_subtype : (w : List world_of.Class) (f : Fault) → is_below w (fault_name f) throwable_name ≡ true
    → is_subtype w (fault_name f) throwable_name ≡ true
unfolding is_below is_subclass is_subtype
fault_subtype w Arithmetic e = stands_so throwable_name (supertypes w (fault_name Arithmetic ∷ [])) e
fault_subtype w NullPointer e = stands_so throwable_name (supertypes w (fault_name NullPointer ∷ [])) e
fault_subtype w IndexOutside e = stands_so throwable_name (supertypes w (fault_name IndexOutside ∷ [])) e
fault_subtype w NegativeSize e = stands_so throwable_name (supertypes w (fault_name NegativeSize ∷ [])) e
fault_subtype w ClassCast e = stands_so throwable_name (supertypes w (fault_name ClassCast ∷ [])) e
fault_subtype w ArrayStore e = stands_so throwable_name (supertypes w (fault_name ArrayStore ∷ [])) e

module _ (name : List ℕ) (list : ListTree) (files : Files) (image : StaticImage) (c : Complete)
    (sound : IsSound name files) where
  abbrev applets : Bool
  applets = nat_lt 0 (length list.applets)

  abbrev p : Pair
  p = pair_of applets files image c

  abbrev l : Loaded
  l = p.loaded

  -- the package as it is written
  abbrev q : Package
  q = record { list = list; files = files; image = image; methods = [] }

  file_of : (x : List ℕ) → (i : IsImport (world q) x) → SaysFileName (naming q) (part q) x i.class
  file_of x i = (let s = says_names name q sound in s.file) x i.class i.there i.imported

  -- there is a class of all exceptions
  pub throwable_there : (exceptions : List ℕ) × (throwable p ≡ Some exceptions)
  throwable_there =
      let t = (let lang = has_lang name q sound in lang.throwable) in
      let f = file_of (codes "java/lang/Throwable") t in
      (class_type (ref_to (External f.tree f.token)), ap (option_map (λ class. class_type (ref_to class))) f.found)

  -- no class of the package is java/lang/Object
  pub no_object : HasNoObject l
  no_object zero x e =
      let o = has_object name q sound in
      let f = file_of object o in
      subst (λ (y : Part). number_named y.classes (codes "java/lang/Object") ≡ None) (same_some e) f.has_no_info
  no_object (suc k) x e = absurd cc

  module _ (stand : SupersStand l) (plain : FaultsAreClasses (world q))
      (ordered : (let d = c.descriptor in classes_in_order d.classes (all_starts c.class)) ≡ []) (refs : AreRefs c)
      (counted : AreCounted files) (exceptions : List ℕ)
      (thrown : throwable p ≡ Some exceptions) where
    abbrev is_external : Class → Bool
    is_external (Own part offset) = false
    is_external (External tree token) = true

    -- what stands above an imported class does so in every package beside these export files
    step : (a b : Class) → is_external a ≡ true → is_in b (supers (loaded q) a) ≡ true
        → (is_in b (supers l a) ≡ true) × (is_external b ≡ true)
    step (Own part offset) b ext e = absurd cc
    step (External tree token) (External file class) ext e = (e, refl)
    step (External tree token) (Own part offset) ext e = absurd (let no = stand.outside tree token part offset in
        let clash : false ≡ true = sym no ∙ e in cc)

    carried : {a d : Class} → Over (supers (loaded q)) a d → is_external a ≡ true → Over (supers l) a d
    carried here ext = here
    carried (up {c = a} {b = b} e rest) ext = let s = step a b ext e in up s.0 (carried rest s.1)

    pub exceptions_there : HasExceptions l exceptions
    exceptions_there =
        let lang = has_lang name q sound in
        let t = lang.throwable in
        let f = file_of (codes "java/lang/Throwable") t in
        let n = needed (world q) files.exports (language name files sound) in
        let m = imported_meant applets files image c ordered refs counted (codes "java/lang/Throwable") (External f.tree
        f.token) f.found in
        let type : class_type (ref_to (External f.tree f.token)) ≡ exceptions = same_some (sym (ap (option_map (λ class.
        class_type (ref_to class))) f.found) ∙ thrown) in
        record {
          thrown = External f.tree f.token;
          named = f.found;
          means = ap (shape_by l) (sym type) ∙ ap (option_map OfClass) (all_read l (ref_to
              (External f.tree f.token)) m.ref
              ∙ m.meant);
          faults = λ fault. (
              let i = lang.faults fault in
              let g = file_of (fault_name fault) i in
              let sub = fault_subtype (world q) fault (faults_below (world q) n.0 n.1 fault) in
              let kind = kinds_agree name q sound (OfClass (fault_name fault)) (OfClass throwable_name)
              (ap is_some i.there) (ap is_some t.there) ∙ sub in
              let there : is_kind_of (loaded q) (External g.tree g.token) (External f.tree f.token) ≡ true =
              ap (λ x. is_kind_of (loaded q) x (External f.tree f.token)) (sym g.on_card)
              ∙ ap (is_kind_of (loaded q) ((naming q).class (fault_name fault))) (sym f.on_card) ∙ kind in (
                External g.tree g.token,
                (
                  g.found,
                  (
                    over_told l (External g.tree g.token) (External f.tree f.token) (carried (told_over (loaded q)
                        (External g.tree g.token) (External f.tree f.token) there) refl),
                    ap is_interface_file g.there ∙ g.flags ∙ (plain fault i.class i.there).1,
                  ),
                ),
              )
              );
        }
