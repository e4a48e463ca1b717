-- The classes of java/lang that the machine knows are those of export files, and no interfaces.
use Rattle.std.proofs.Common.{◌≡◌, ℕ, refl, sym, ap, subst, ◌∙◌, Bool, true, false, List, [], ◌∷◌, inl, inr, ⊎_elim}
use Rattle.std.specs.Prelude.{◌⊎◌, ◌&&◌, ◌||◌, codes, Some, slice_get, if◌then◌else◌}
use Rattle.std.specs.List.{list_any}
use Rattle.std.specs.Str.{bytes_eq}
use Rattle.cjc_jvm_semantics.specs.Effects.{Arithmetic, ArrayStore, ClassCast, Fault, IndexOutside, NegativeSize}
use Rattle.cjc_jvm_semantics.specs.Effects.{NullPointer, exception_class}
use Rattle.cjc_bytes.specs.AccessFlags.{is_interface}
use Rattle.cjc_bytes.specs.Descriptor.{IsClassName}
use Rattle.cjc_bytes.proofs.Lists.{name_is, bytes_true}
use Rattle.cjc_bytes.proofs.Bools.{both_front, both_back}
use Rattle.cjc_world.proofs.ExportFileRooted.{has_root}
use Rattle.cjc_world.specs.ExportFile.declared.tree.ExportClass.{ExportClass}
use Rattle.cjc_world.specs.ExportFile.declared.tree.ExportTree.{ExportTree}
use Rattle.cjc_theorem.proofs.FairExports.Alone.{acyclic, found}
use Rattle.cjc_token_proof.proofs.WorldProofRules.{only_object, super_class}
use Rattle.cjc_shape_proof.specs.WorldProof.Files.{ExportsAreSound}
use Rattle.cjc_token_proof.specs.Subset.Members.{imports}
use Rattle.cjc_token_proof.proofs.TablesLaws.Clean.{language}
use Rattle.cjc_token_proof.proofs.TablesLaws.Filed.{has-back, has-front}
use Rattle.cjc_token_proof.proofs.TablesLaws.Rooted.{import_root}
use Rattle.cjc_token_proof.specs.Tables.Sound.{IsSound}
use Rattle.cjc_world.specs.Upwards.{OnLine, here, up}
use Rattle.cjc_world.proofs.UpwardLaws.Lines.{above_on, below_line, line_below, line_is_below}
use Rattle.cjc_vtable.proofs.Filed.{Has, at_front, behind, has-get}
use Rattle.cjc_world.specs.Classes.{Class, all_classes, class_named, imported}
use Rattle.cjc_world.specs.Files.{Files}
use Rattle.cjc_world.specs.Supertypes.{Above, Lists, after, foremost, is_below}
use Rattle.cjc_world.specs.Lookup.{object}
use Rattle.cjc_world.specs.Rules.{has_array_exceptions, has_class, has_exception, has_language, has_needed}
use Rattle.cjc_world.specs.Rules.{has_other_exceptions, has_roots, throwable}
use Rattle.cjc_world.proofs.Cycles.{class_named-name}

differ : (x y : List ℕ) → bytes_eq x y ≡ false → x ≡ y → ⊥
differ x y e same = let clash : true ≡ false = sym (name_is x) ∙ ap (bytes_eq x) same ∙ e in cc

-- ---- java/lang

needed_in : (w : List Class) (ts : List ExportTree) → has_language w ts ≡ true → (t : ExportTree) × Has t ts
    × (has_needed w t ≡ true)
unfolding has_language
needed_in w [] e = absurd cc
needed_in w (t ∷ ts) e = by (bytes_eq t.name (codes "java/lang")) e (needed_in w ts)
  where
    by : (b : Bool) → (if b then has_needed w t else has_language w ts) ≡ true → (has_language w ts ≡ true
        → (u : ExportTree) × Has u ts × (has_needed w u ≡ true)) → (u : ExportTree) × Has u (t ∷ ts)
        × (has_needed w u ≡ true)
    by true e rest = (t, at_front, e)
    by false e rest = let r = rest e in (r.0, behind r.1, r.2)

named_in : (name : List ℕ) (cs : List ExportClass) → list_any (λ c. bytes_eq c.name name) cs ≡ true → (c : ExportClass)
    × Has c cs × (c.name ≡ name)
named_in name [] e = absurd cc
named_in name (c ∷ cs) e = by (bytes_eq c.name name) refl e (named_in name cs)
  where
    by : (b : Bool) → bytes_eq c.name name ≡ b → (b || list_any (λ q. bytes_eq q.name name) cs) ≡ true
        → (list_any (λ q. bytes_eq q.name name) cs ≡ true → (q : ExportClass) × Has q cs × (q.name ≡ name))
        → (q : ExportClass) × Has q (c ∷ cs) × (q.name ≡ name)
    by true f e rest = (c, at_front, bytes_true c.name name f)
    by false f e rest = let r = rest e in (r.0, behind r.1, r.2)

pub in_imports : (c : ExportClass) (t : ExportTree) (ts : List ExportTree) → Has t ts → Has c t.classes → Has c
    (imports ts)
in_imports c t [] h g = elim h [ ]
in_imports c t (u ∷ ts) at_front g = has-front c t.classes (imports ts) g
in_imports c t (u ∷ ts) (behind h) g = has-back c u.classes (imports ts) (in_imports c t ts h g)

-- the class of an export file by its name
pub record Stands (files : Files) (name : List ℕ) : Type 0 where
  pub number : ℕ
  pub class : ExportClass
  pub listed : slice_get (imports files.exports) number ≡ Some class
  pub named : class.name ≡ name

stands_in : (files : Files) (t : ExportTree) (name : List ℕ) → Has t files.exports → has_class t name ≡ true
    → Stands files name
stands_in files t name h e =
    let r = named_in name t.classes e in
    let at = has-get r.0 (imports files.exports) (in_imports r.0 t files.exports h r.1) in
    record { number = at.0; class = r.0; listed = at.1; named = r.2 }

-- what 207 asks of each exception of the machine's own
abbrev IsNeeded : List Class → ExportTree → List ℕ → Type 0
IsNeeded w t name = (has_class t name ≡ true) × (is_below w name throwable ≡ true)

needed_one : (w : List Class) (t : ExportTree) (name : List ℕ) → has_exception w t name ≡ true → IsNeeded w t name
needed_one w t name e = (
  both_front (has_class t name) (is_below w name throwable) e,
  both_back (has_class t name) (is_below w name throwable) e,
)

is_needed : (w : List Class) (t : ExportTree) → has_array_exceptions w t ≡ true → has_other_exceptions w t ≡ true
    → (fault : Fault) → IsNeeded w t (exception_class fault)
unfolding has_array_exceptions has_other_exceptions
is_needed w t a o IndexOutside = needed_one w t (codes "java/lang/ArrayIndexOutOfBoundsException")
    (both_front (has_exception w t (codes "java/lang/ArrayIndexOutOfBoundsException"))
    (has_exception w t (codes "java/lang/ArrayStoreException"))
    (both_front (has_exception w t (codes "java/lang/ArrayIndexOutOfBoundsException")
    && has_exception w t (codes "java/lang/ArrayStoreException"))
    (has_exception w t (codes "java/lang/NegativeArraySizeException")) a))
is_needed w t a o ArrayStore = needed_one w t (codes "java/lang/ArrayStoreException")
    (both_back (has_exception w t (codes "java/lang/ArrayIndexOutOfBoundsException"))
    (has_exception w t (codes "java/lang/ArrayStoreException"))
    (both_front (has_exception w t (codes "java/lang/ArrayIndexOutOfBoundsException")
    && has_exception w t (codes "java/lang/ArrayStoreException"))
    (has_exception w t (codes "java/lang/NegativeArraySizeException")) a))
is_needed w t a o NegativeSize = needed_one w t (codes "java/lang/NegativeArraySizeException")
    (both_back (has_exception w t (codes "java/lang/ArrayIndexOutOfBoundsException")
    && has_exception w t (codes "java/lang/ArrayStoreException"))
    (has_exception w t (codes "java/lang/NegativeArraySizeException")) a)
is_needed w t a o Arithmetic = needed_one w t (codes "java/lang/ArithmeticException")
    (both_front (has_exception w t (codes "java/lang/ArithmeticException"))
    (has_exception w t (codes "java/lang/ClassCastException"))
    (both_front (has_exception w t (codes "java/lang/ArithmeticException")
    && has_exception w t (codes "java/lang/ClassCastException"))
    (has_exception w t (codes "java/lang/NullPointerException")) o))
is_needed w t a o ClassCast = needed_one w t (codes "java/lang/ClassCastException")
    (both_back (has_exception w t (codes "java/lang/ArithmeticException"))
    (has_exception w t (codes "java/lang/ClassCastException"))
    (both_front (has_exception w t (codes "java/lang/ArithmeticException")
    && has_exception w t (codes "java/lang/ClassCastException"))
    (has_exception w t (codes "java/lang/NullPointerException")) o))
is_needed w t a o NullPointer = needed_one w t (codes "java/lang/NullPointerException")
    (both_back (has_exception w t (codes "java/lang/ArithmeticException")
    && has_exception w t (codes "java/lang/ClassCastException"))
    (has_exception w t (codes "java/lang/NullPointerException")) o)

no_throwable : (fault : Fault) → bytes_eq (exception_class fault) throwable ≡ false
no_throwable Arithmetic = refl
no_throwable NullPointer = refl
no_throwable IndexOutside = refl
no_throwable NegativeSize = refl
no_throwable ClassCast = refl
no_throwable ArrayStore = refl

-- ---- what lists java/lang/Object

root_listed : (xs : List (List ℕ)) → has_root xs ≡ true → Lists object xs
root_listed [] e = absurd cc
root_listed (x ∷ xs) e = by (bytes_eq x object) refl e (root_listed xs)
  where
    by : (b : Bool) → bytes_eq x object ≡ b → (b || has_root xs) ≡ true → (has_root xs ≡ true → Lists object xs)
        → Lists object (x ∷ xs)
    by true f e rest = subst (λ z. Lists object (z ∷ xs)) (sym (bytes_true x object f)) foremost
    by false f e rest = after (rest e)

-- ---- no interfaces

module _ (list : List ℕ) (files : Files) (sound : IsSound list files) where
  abbrev w : List Class
  w = all_classes files

  -- what stands on a line is the first class there, or no interface
  last_plain : (x : List ℕ) (d : Class) → OnLine w x d → (class_named w x ≡ Some d) ⊎ (is_interface d.flags ≡ false)
  last_plain x d (here e) = inl e
  last_plain x d (up {s = s} c e l rest) = inr (⊎_elim (λ f. super_class list files sound.unbroken x s c d e l f)
      (λ plain. plain) (last_plain s d rest))

  language_in : (t : ExportTree) × Has t files.exports × (has_needed w t ≡ true)
  language_in = needed_in w files.exports (language list files sound)

  abbrev lang : ExportTree
  lang = language_in.0

  needs : (has_roots lang ≡ true) × ((fault : Fault) → IsNeeded w lang (exception_class fault))
  unfolding has_needed
  needs =
      let e = language_in.2 in
      let front = both_front (has_roots lang && has_array_exceptions w lang) (has_other_exceptions w lang) e in (
        both_front (has_roots lang) (has_array_exceptions w lang) front,
        is_needed w lang (both_back (has_roots lang) (has_array_exceptions w lang) front) (both_back (has_roots lang
            && has_array_exceptions w lang) (has_other_exceptions w lang) e),
      )

  pub object_there : Stands files object
  unfolding has_roots
  object_there = stands_in files lang object language_in.1 (both_front (has_class lang object)
      (has_class lang throwable)
      needs.0)

  throwable_there : Stands files throwable
  unfolding has_roots
  throwable_there = stands_in files lang throwable language_in.1 (both_back (has_class lang object)
      (has_class lang throwable) needs.0)

  fault_there : (fault : Fault) → Stands files (exception_class fault)
  fault_there fault = stands_in files lang (exception_class fault) language_in.1 (needs.1 fault).0

  found_as : (name : List ℕ) (s : Stands files name) → class_named w name ≡ Some (imported s.number s.class)
  found_as name s = ap (class_named w) (sym s.named) ∙ found list files sound s.number s.class s.listed

  abbrev root_class : Class
  root_class = let s = object_there in imported s.number s.class

  -- each class of an export file is java/lang/Object, or has it above it
  pub below_root : (n : ℕ) (c : ExportClass) → slice_get (imports files.exports) n ≡ Some c → is_below w c.name object
      ≡ true
  below_root n c e = (let s = object_there in ap (is_below w c.name) (sym s.named))
      ∙ line_is_below w (acyclic list files sound) c.name root_class (⊎_elim
      (λ same. here (ap (class_named w) same ∙ found_as object object_there))
      (λ listed. up (imported n c) (found list files sound n c e) (root_listed c.supers listed) (here (found_as object
      object_there)))
      (import_root files (let r = sound.read in r.exports) n c e))

  abbrev top : Class
  top = let s = throwable_there in imported s.number s.class

  fault_line : (fault : Fault) → OnLine w (exception_class fault) top
  fault_line fault = below_line w (acyclic list files sound) (exception_class fault) throwable top (needs.1 fault).1
      (found_as throwable throwable_there)

  top_plain : is_interface top.flags ≡ false
  top_plain = ⊎_elim
      (λ e. absurd (differ (exception_class Arithmetic) throwable (no_throwable Arithmetic)
      (sym (class_named-name w (exception_class Arithmetic) top e) ∙ throwable_there.named)))
      (λ plain. plain)
      (last_plain (exception_class Arithmetic) top (fault_line Arithmetic))

  root_line : OnLine w throwable root_class
  root_line =
      let s = throwable_there in
      below_line w (acyclic list files sound) throwable object root_class (ap (λ x. is_below w x object) (sym s.named)
      ∙ below_root s.number s.class s.listed) (found_as object object_there)

  root_plain : is_interface root_class.flags ≡ false
  root_plain = ⊎_elim
      (λ e. absurd (differ throwable object refl (sym (class_named-name w throwable root_class e)
      ∙ object_there.named)))
      (λ plain. plain)
      (last_plain throwable root_class root_line)

  -- java/lang/Object is no subclass of java/lang/Throwable
  root_above : Above w throwable object
  root_above = ⊎_elim
      (λ same. absurd (differ throwable object refl (same ∙ object_there.named)))
      (λ far. subst (Above w throwable) object_there.named far)
      (line_below w throwable root_class root_line)

  no_subclass : OnLine w object top → ⊥
  no_subclass on = ⊎_elim
      (λ same. differ object throwable refl (same ∙ throwable_there.named))
      (λ far. acyclic list files sound object (above_on w object throwable object (subst (Above w object)
      throwable_there.named far) root_above))
      (line_below w object top on)

  -- so an exception of the machine's own is no interface
  fault_plain : (fault : Fault) → is_interface (fault_there fault).class.flags ≡ false
  fault_plain fault = by (is_interface (fault_there fault).class.flags) refl
    where
      on : is_interface (fault_there fault).class.flags ≡ true → (x : List ℕ) → x ≡ exception_class fault
          → OnLine w x top → ⊥
      on is x same (here e) = differ (exception_class fault) throwable (no_throwable fault) (sym same
          ∙ sym (class_named-name w x top e) ∙ throwable_there.named)
      on is x same (up {s = s} c e l rest) =
          let both : Some c ≡ Some (imported (fault_there fault).number (fault_there fault).class) = sym e
          ∙ ap (class_named w) same ∙ found_as (exception_class fault) (fault_there fault) in
          let one : c ≡ imported (fault_there fault).number (fault_there fault).class = cc in
          let up_is : s ≡ object = only_object list files sound.unbroken x s c e
          (ap (λ (q : Class). is_interface q.flags) one ∙ is) l in
          no_subclass (subst (λ y. OnLine w y top) up_is rest)

      by : (b : Bool) → is_interface (fault_there fault).class.flags ≡ b → b ≡ false
      by false e = refl
      by true e = absurd (on e (exception_class fault) refl (fault_line fault))

  pub exports_sound : ((n : ℕ) (c : ExportClass) → slice_get (imports files.exports) n ≡ Some c → IsClassName c.name)
      → ExportsAreSound files
  exports_sound names = record {
    names = names;
    exceptions = λ fault. (let s = fault_there fault in record {
      number = s.number;
      class = s.class;
      listed = s.listed;
      found = found_as (exception_class fault) s;
      no_interface = fault_plain fault;
    });
    root = (let s = object_there in record {
      number = s.number;
      class = s.class;
      listed = s.listed;
      found = found_as object s;
      no_interface = root_plain;
    });
    roots = λ n c e plain. below_root n c e;
  }
