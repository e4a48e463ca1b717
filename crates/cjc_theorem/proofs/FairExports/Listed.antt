-- What export files say of names and flags, where a package beside them breaks none of the rules of the card's
-- language.
use Rattle.std.proofs.Common.{◌≡◌, ℕ, ◌+◌, refl, ap, subst, ◌∙◌, Bool, true, false, List, [], ◌∷◌, length}
use Rattle.std.specs.Prelude.{◌==◌, not, ◌&&◌, ◌||◌, Some, slice_get}
use Rattle.std.specs.List.{join_with_byte, list_all, slice_split}
use Rattle.std.specs.Str.{bytes_eq}
use Rattle.std.proofs.lemmas.List.Splits.{join_with_byte-slice_split}
use Rattle.cjc_bytes.specs.AccessFlags.{is_abstract, is_interface, is_private, is_static}
use Rattle.cjc_bytes.specs.Breaks.{class_spot, member_spot}
use Rattle.cjc_bytes.specs.Descriptor.{IsClassName, IsName, inside, is_name_byte, last, more, simple}
use Rattle.cjc_bytes.specs.Order.{FilePlace}
use Rattle.cjc_bytes.specs.Refused.{method_text}
use Rattle.cjc_bytes.specs.declared.settings.Settings.{Settings}
use Rattle.cjc_bytes.proofs.Lists.{name_is, none_left, none_right, never_none}
use Rattle.cjc_bytes.proofs.Bools.{both_front, both_back, not_false}
use Rattle.cjc_bytes.proofs.BrokenRules.{not_broken, each_at}
use Rattle.cjc_components.specs.Bytecode.declared.method_code.MethodCode.{MethodCode}
use Rattle.cjc_world.specs.ExportFile.declared.tree.ExportClass.{ExportClass}
use Rattle.cjc_world.specs.ExportFile.declared.tree.ExportMethod.{ExportMethod}
use Rattle.cjc_world.specs.ExportFile.declared.tree.ExportTree.{ExportTree}
use Rattle.cjc_shape_proof.specs.Written.Converted.{ExportsArePlain}
use Rattle.cjc_token_proof.specs.Subset.Checks.{check_breaks, list_breaks}
use Rattle.cjc_token_proof.specs.Subset.Exports.{export_breaks, export_file_of, is_class_name, is_name, is_of_objects}
use Rattle.cjc_token_proof.specs.Subset.Exports.{is_unfit_listed, listed_breaks, listed_class_breaks}
use Rattle.cjc_token_proof.specs.Subset.Exports.{listed_method_breaks}
use Rattle.cjc_token_proof.specs.Subset.Members.{imports, is_constructor, is_initialiser}
use Rattle.cjc_tokens.specs.Members.{is_exposed}
use Rattle.cjc_vtable.proofs.Filed.{get-has, has-get, of-imports}
use Rattle.cjc_world.specs.Files.{Files}
use Rattle.cjc_world.specs.Lookup.{object}

-- ---- names

part_name : (b : ℕ) (bs : List ℕ) → list_all is_name_byte (b ∷ bs) ≡ true → IsName (b ∷ bs)
part_name b [] e = last (both_front (is_name_byte b) true e)
part_name b (c ∷ bs) e = more (both_front (is_name_byte b) (list_all is_name_byte (c ∷ bs)) e)
    (part_name c bs (both_back (is_name_byte b) (list_all is_name_byte (c ∷ bs)) e))

part_of_name : (bs : List ℕ) → is_name bs ≡ true → IsName bs
part_of_name [] e = absurd cc
part_of_name (b ∷ bs) e = part_name b bs e

-- parts joined by /
joined_name : (part : List ℕ) (parts : List (List ℕ)) → list_all is_name (part ∷ parts) ≡ true
    → IsClassName (join_with_byte 47 (part ∷ parts))
joined_name part [] e = simple (part_of_name part (both_front (is_name part) true e))
joined_name part (next ∷ parts) e =
    inside (part_of_name part (both_front (is_name part) (list_all is_name (next ∷ parts)) e))
    (joined_name next parts (both_back (is_name part) (list_all is_name (next ∷ parts)) e))

some_parts : (parts : List (List ℕ)) (bs : List ℕ) → join_with_byte 47 parts ≡ bs → (parts ≡ [] → ⊥)
    → list_all is_name parts ≡ true → IsClassName bs
some_parts [] bs e some all = absurd (some refl)
some_parts (part ∷ parts) bs e some all = subst IsClassName e (joined_name part parts all)

class_name : (bs : List ℕ) → is_class_name bs ≡ true → IsClassName bs
unfolding is_class_name
class_name bs e = some_parts (slice_split (λ b. b == 47) bs) bs (join_with_byte-slice_split 47 bs) (never_none bs) e

-- ---- flags

module _ (p o i s q a k : Bool) (fit : ((p && o) || (i && not s) || (q && (p || s)) || (a && (s || p || k || i)))
    ≡ false) where
  first_off : (p && o) ≡ false
  first_off = by (p && o) (i && not s) (q && (p || s)) (a && (s || p || k || i)) fit
    where
      by : (a b c d : Bool) → (a || b || c || d) ≡ false → a ≡ false
      by true b c d e = absurd cc
      by false b c d e = refl

  started : i ≡ true → s ≡ true
  started e = by (p && o) i s (q && (p || s)) (a && (s || p || k || i)) e fit
    where
      by : (a i s c d : Bool) → i ≡ true → (a || (i && not s) || c || d) ≡ false → s ≡ true
      by a i true c d e f = refl
      by true true false c d e f = absurd cc
      by false true false c d e f = absurd cc
      by a false false c d e f = absurd cc

  bare : q ≡ true → (p ≡ false) × (s ≡ false)
  bare e = by (p && o) (i && not s) p s q (a && (s || p || k || i)) e fit
    where
      by : (a b p s q d : Bool) → q ≡ true → (a || b || (q && (p || s)) || d) ≡ false → (p ≡ false) × (s ≡ false)
      by false false false false true d e f = (refl, refl)
      by false false true s true d e f = absurd cc
      by false false false true true d e f = absurd cc
      by true b p s true d e f = absurd cc
      by false true p s true d e f = absurd cc
      by a b p s false d e f = absurd cc

  -- what is abstract
  seen_by_all : a ≡ true → (s ≡ false) × (p ≡ false) × (k ≡ false)
  seen_by_all e = by (p && o) (i && not s) (q && (p || s)) a s p k i e fit
    where
      by : (x y z a s p k i : Bool) → a ≡ true → (x || y || z || (a && (s || p || k || i))) ≡ false
          → (s ≡ false) × (p ≡ false) × (k ≡ false)
      by false false false true false false false i e f = (refl, refl, refl)
      by false false false true true p k i e f = absurd cc
      by false false false true false true k i e f = absurd cc
      by false false false true false false true i e f = absurd cc
      by true y z true s p k i e f = absurd cc
      by false true z true s p k i e f = absurd cc
      by false false true true s p k i e f = absurd cc
      by x y z false s p k i e f = absurd cc

-- ---- rules

module _ (list : List ℕ) (files : Files) (codes : List MethodCode) (settings : Settings) (none : check_breaks list files
    codes settings ≡ []) where
  exports_none : export_breaks files ≡ []
  unfolding check_breaks list_breaks
  exports_none = none_left _ _ (none_left _ _ (none_left _ _ (none_left _ _ (none_left _ _ (none_left _ _ (none_left _ _
      (none_left _ _ none)))))))

  -- a class of an export file breaks nothing at its place
  record IsClean (c : ExportClass) : Type 0 where
    file : FilePlace
    number : ℕ
    clear : listed_class_breaks file number c ≡ []

  clean : (n : ℕ) (c : ExportClass) → slice_get (imports files.exports) n ≡ Some c → IsClean c
  unfolding export_breaks
  clean n c e =
      let tree = of-imports c files.exports (get-has c (imports files.exports) n e) in
      let t : ExportTree = tree.0 in
      let in_files = has-get t files.exports tree.1 in
      let in_tree = has-get c t.classes tree.2 in
      let of_file : listed_breaks (export_file_of files.lines in_files.0) t ≡ [] =
      each_at (λ e t. listed_breaks (export_file_of files.lines e) t) in_files.0 files.exports t exports_none in_files.1
      in
      record {
        file = export_file_of files.lines in_files.0;
        number = in_tree.0 + 1;
        clear = each_at (λ i c. listed_class_breaks (export_file_of files.lines in_files.0) (i + 1) c) in_tree.0
            t.classes c of_file in_tree.1;
      }

  -- 301
  pub names : (n : ℕ) (c : ExportClass) → slice_get (imports files.exports) n ≡ Some c → IsClassName c.name
  unfolding listed_class_breaks
  names n c e =
      let r = clean n c e in
      class_name c.name (not_false (is_class_name c.name) (not_broken (not (is_class_name c.name)) (class_spot r.file
      r.number c.name) 301 (none_left _ _ r.clear)))

  -- 304
  pub fit_listed : (n : ℕ) (c : ExportClass) → slice_get (imports files.exports) n ≡ Some c → (k : ℕ)
      (m : ExportMethod) → slice_get c.methods k ≡ Some m → is_unfit_listed (is_of_objects c m.name) m.flags m.name
      ≡ false
  unfolding listed_class_breaks
  fit_listed n c e k m at_k =
      let r = clean n c e in
      not_broken (is_unfit_listed (is_of_objects c m.name) m.flags m.name) (member_spot r.file r.number c.name
      (length c.fields + k + 1) (method_text m.name m.desc) 0) 304
      (each_at (λ i m. listed_method_breaks r.file r.number c i m) k c.methods m (none_right _ _ r.clear) at_k)

  pub exports_plain : ExportsArePlain files
  exports_plain = record {
    visible = λ n c e k m at_k. first_off (is_private m.flags) (is_exposed m.flags) (is_initialiser m.name)
        (is_static m.flags) (is_of_objects c m.name) (is_abstract m.flags) (is_constructor m.name) (fit_listed n c e k m at_k);
    initialisers = λ n c e k m at_k named. started (is_private m.flags) (is_exposed m.flags) (is_initialiser m.name)
        (is_static m.flags) (is_of_objects c m.name) (is_abstract m.flags) (is_constructor m.name) (fit_listed n c e k m at_k) named;
    interfaces = λ n c e interface k m at_k. bare (is_private m.flags) (is_exposed m.flags) (is_initialiser m.name)
        (is_static m.flags) (is_of_objects c m.name) (is_abstract m.flags) (is_constructor m.name) (fit_listed n c e k m at_k)
        (ap (λ b. b || (bytes_eq c.name object && not (is_initialiser m.name))) interface);
    abstracts = λ n c e k m at_k shown. seen_by_all (is_private m.flags) (is_exposed m.flags) (is_initialiser m.name)
        (is_static m.flags) (is_of_objects c m.name) (is_abstract m.flags) (is_constructor m.name)
        (fit_listed n c e k m at_k) shown;
  }

  -- java/lang/Object
  pub root_bare : (n : ℕ) (c : ExportClass) → slice_get (imports files.exports) n ≡ Some c → c.name ≡ object → (k : ℕ)
      (m : ExportMethod) → slice_get c.methods k ≡ Some m → is_initialiser m.name ≡ false
      → (is_private m.flags ≡ false) × (is_static m.flags ≡ false)
  root_bare n c e same k m at_k named = bare (is_private m.flags) (is_exposed m.flags) (is_initialiser m.name)
      (is_static m.flags) (is_of_objects c m.name) (is_abstract m.flags) (is_constructor m.name) (fit_listed n c e k m at_k)
      (either (is_interface c.flags) (bytes_eq c.name object) (is_initialiser m.name) (ap (λ x. bytes_eq x object) same
      ∙ name_is object) named)
    where
      either : (a b i : Bool) → b ≡ true → i ≡ false → (a || (b && not i)) ≡ true
      either true b i e f = refl
      either false true false e f = refl
      either false true true e f = absurd cc
      either false false i e f = absurd cc
