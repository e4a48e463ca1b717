-- The names of infos and of export files are those of the loaded package, and export files have java/lang/Throwable and
-- the exceptions of the machine's own.
use Rattle.std.proofs.Common.{◌≡◌, ℕ, refl, sym, ap, subst, ◌∙◌, Bool, true, false, List, [], ◌∷◌}
use Rattle.std.specs.Prelude.{◌&&◌, ◌||◌, Some, if◌then◌else◌, codes}
use Rattle.std.specs.List.{list_any}
use Rattle.std.specs.Str.{bytes_eq}
use Rattle.cjc_bytes.specs.AccessFlags.{is_interface}
use Rattle.cjc_bytes.proofs.Lists.{bytes_true}
use Rattle.cjc_bytes.proofs.Bools.{both_front, both_back}
use Rattle.cjc_card_semantics.specs.Bytecode.Calculations.{Fault, Arithmetic, NullPointer, IndexOutside, NegativeSize}
use Rattle.cjc_card_semantics.specs.Bytecode.Calculations.{ClassCast, ArrayStore}
use Rattle.cjc_card_semantics.specs.Machine.Classes.{fault_name}
use Rattle.cjc_world.specs.ExportFile.declared.tree.ExportClass.{ExportClass}
use Rattle.cjc_world.specs.ExportFile.declared.tree.ExportTree.{ExportTree}
use Rattle.cjc_world_proof.specs.Subset.Members.{imports}
use Rattle.cjc_vtable.proofs.Filed.{Has, at_front, behind, has-get}
use Rattle.cjc_world.specs.Classes.{Class, class_named, imported}
use Rattle.cjc_world.specs.Supertypes.{is_below}
use Rattle.cjc_world.specs.Rules.{has_array_exceptions, has_class, has_exception, has_language, has_needed}
use Rattle.cjc_world.specs.Rules.{has_other_exceptions, has_roots, throwable}
use Rattle.cjc_world.specs.Lookup.{object}
use Rattle.cjc_world.proofs.Cycles.{class_named-name}
use Rattle.cjc_components.specs.Package.{Package, world}
use Rattle.cjc_token_proof.specs.ByToken.Names.{HasLang, IsImport, SaysFileName, SaysNames, SaysOwnName}
use Rattle.cjc_token_proof.specs.Tables.Loading.{naming, part}
use Rattle.cjc_token_proof.specs.Tables.Sound.{IsSound}
use Rattle.cjc_token_proof.proofs.TablesLaws.Clean.{has_named, language, own_name}
use Rattle.cjc_token_proof.proofs.TablesLaws.Filed.{import_in}
use Rattle.cjc_token_proof.proofs.TablesLaws.Named.{has_entry, has_imports, has_info, has_none}

entry_named : (cs : List ExportClass) (x : List ℕ) → list_any (λ c. bytes_eq c.name x) cs ≡ true → (e : ExportClass)
    × Has e cs × (e.name ≡ x)
entry_named [] x e = cc
entry_named (c ∷ cs) x e = by (bytes_eq c.name x) refl e (entry_named cs x)
  where
    by : (b : Bool) → bytes_eq c.name x ≡ b → (b || list_any (λ d. bytes_eq d.name x) cs) ≡ true
        → (list_any (λ d. bytes_eq d.name x) cs ≡ true → (e : ExportClass) × Has e cs × (e.name ≡ x))
        → (e : ExportClass) × Has e (c ∷ cs) × (e.name ≡ x)
    by true f g rest = (c, at_front, bytes_true c.name x f)
    by false f g rest = let r = rest g in (r.0, behind r.1, r.2)

language_file : (w : List Class) (ts : List ExportTree) → has_language w ts ≡ true → (t : ExportTree) × Has t ts
    × (has_needed w t ≡ true)
unfolding has_language
language_file w [] e = cc
language_file w (t ∷ ts) e = by (bytes_eq t.name (codes "java/lang")) e (language_file w ts)
  where
    by : (b : Bool) → (if b then has_needed w t else has_language w ts) ≡ true → (has_language w ts ≡ true
        → (t : ExportTree) × Has t ts × (has_needed w t ≡ true)) → (u : ExportTree) × Has u (t ∷ ts)
        × (has_needed w u ≡ true)
    by true f rest = (t, at_front, f)
    by false f rest = let r = rest f in (r.0, behind r.1, r.2)

module _ (list : List ℕ) (p : Package) (sound : IsSound list p.files) where
  abbrev w : List Class
  w = world p

  abbrev exports : List ExportTree
  exports = let files = p.files in files.exports

  -- a class of an export file is an imported one
  is_import : (t : ExportTree) (x : List ℕ) → Has t exports → has_class t x ≡ true → IsImport w x
  is_import t x h e =
      let r = entry_named t.classes x e in
      let m = has-get r.0 (imports exports) (has_imports list p sound exports t r.0 h r.1) in
      record {
        class = imported m.0 r.0;
        there = ap (class_named w) (sym r.2) ∙ own_name list p.files sound (imported m.0 r.0)
            (import_in p.files sound.classes sound.exports m.0 r.0 m.1);
        imported = refl;
      }

  lang : (t : ExportTree) × Has t exports × (has_needed w t ≡ true)
  lang = language_file w exports (language list p.files sound)

  -- 207
  pub has_object : IsImport w object
  unfolding has_needed has_roots
  has_object =
      let t = lang.0 in
      is_import t object lang.1 (both_front (has_class t object) (has_class t throwable)
      (both_front (has_roots t) (has_array_exceptions w t && has_other_exceptions w t) (regrouped (has_roots t)
      (has_array_exceptions w t) (has_other_exceptions w t) lang.2)))
    where
      regrouped : (a b c : Bool) → (a && b && c) ≡ true → (a && (b && c)) ≡ true
      regrouped true true c e = e
      regrouped true false c e = cc
      regrouped false b c e = cc

  exception : (t : ExportTree) (x : List ℕ) → Has t exports → has_exception w t x ≡ true → IsImport w x
  exception t x h e = is_import t x h (both_front (has_class t x) (is_below w x throwable) e)

  pub has_lang : HasLang w
  unfolding has_needed has_roots has_array_exceptions has_other_exceptions
  has_lang =
      let t = lang.0 in
      let h = lang.1 in
      let parts = split (has_roots t) (has_array_exceptions w t) (has_other_exceptions w t) lang.2 in
      let arrays = split (has_exception w t (codes "java/lang/ArrayIndexOutOfBoundsException"))
      (has_exception w t (codes "java/lang/ArrayStoreException"))
      (has_exception w t (codes "java/lang/NegativeArraySizeException")) parts.1 in
      let others = split (has_exception w t (codes "java/lang/ArithmeticException"))
      (has_exception w t (codes "java/lang/ClassCastException"))
      (has_exception w t (codes "java/lang/NullPointerException")) parts.2 in
      record {
        throwable = is_import t throwable h (both_back (has_class t object) (has_class t throwable) parts.0);
        faults = by (exception t (codes "java/lang/ArithmeticException") h others.0)
            (exception t (codes "java/lang/NullPointerException") h others.2)
            (exception t (codes "java/lang/ArrayIndexOutOfBoundsException") h arrays.0)
            (exception t (codes "java/lang/NegativeArraySizeException") h arrays.2)
            (exception t (codes "java/lang/ClassCastException") h others.1)
            (exception t (codes "java/lang/ArrayStoreException") h arrays.1);
      }
    where
      split : (a b c : Bool) → (a && b && c) ≡ true → (a ≡ true) × (b ≡ true) × (c ≡ true)
      split true true true e = (refl, refl, refl)
      split true true false e = cc
      split true false c e = cc
      split false b c e = cc

      by : IsImport w (fault_name Arithmetic) → IsImport w (fault_name NullPointer)
          → IsImport w (fault_name IndexOutside) → IsImport w (fault_name NegativeSize)
          → IsImport w (fault_name ClassCast) → IsImport w (fault_name ArrayStore) → (f : Fault)
          → IsImport w (fault_name f)
      by a b c d e g Arithmetic = a
      by a b c d e g NullPointer = b
      by a b c d e g IndexOutside = c
      by a b c d e g NegativeSize = d
      by a b c d e g ClassCast = e
      by a b c d e g ArrayStore = g

  -- ---- names of infos and of entries

  own_is : (x : List ℕ) (c : Class) → class_named w x ≡ Some c → c.is_imported ≡ false
      → SaysOwnName (naming p) (part p) x
  own_is x c e own = subst (SaysOwnName (naming p) (part p)) (class_named-name w x c e) (let r = has_info list p sound c
      (has_named w x c e) own in
      record {
        number = r.number;
        offset = r.offset;
        numbered = r.named;
        at = r.at;
        on_card = r.on_card;
        in_no_file = r.in_no_file;
      })

  file_is : (x : List ℕ) (c : Class) → class_named w x ≡ Some c → c.is_imported ≡ true
      → SaysFileName (naming p) (part p) x c
  file_is x c e im = subst (λ y. SaysFileName (naming p) (part p) y c) (class_named-name w x c e)
      (let r = has_entry list p sound c (has_named w x c e) im in
      record {
        tree = r.file;
        token = (let q = r.entry in q.token);
        entry = r.entry;
        on_card = r.on_card;
        found = r.found;
        there = r.there;
        name = ap (λ (v : Class). v.name) (sym r.class);
        flags = ap (λ (v : Class). is_interface v.flags) (sym r.class);
        has_no_info = r.has_no_info;
      })

  pub says_names : SaysNames w (naming p) (part p)
  says_names = record {
    alone = refl;
    own = own_is;
    file = file_is;
    none = λ x e. (let r = has_none list p sound x e in (r.has_no_info, r.in_no_file));
  }
