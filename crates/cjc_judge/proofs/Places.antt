-- What is told of a place, by where it stands in the order of refusals.
use Rattle.std.proofs.Common.{◌≡◌, ℕ, zero, suc, ◌+◌, ◌<◌, Bool, true, false, List, [], ◌∷◌, ◌++◌, length, map, add-one}
use Rattle.std.proofs.Common.{Option, Some, None, refl, sym, ap, subst, ◌∙◌, arith}
use Rattle.std.specs.Prelude.{slice_get, if◌then◌else◌}
use Rattle.std.proofs.lemmas.List.{length-map}
use Rattle.cjc_bytes.specs.declared.fault.Place.{Place}
use Rattle.cjc_bytes.specs.declared.order.FileKey.TheVariants as keys
use Rattle.cjc_bytes.specs.declared.settings.FileLine.{FileLine}
use Rattle.cjc_bytes.specs.Breaks.{Break, broken_at, class_spot, list_spot, member_spot}
use Rattle.cjc_bytes.specs.Order.{FilePlace, Rank, file_from}
use Rattle.cjc_bytes.specs.Refused.{refused_at, in_class, field_text, method_text}
use Rattle.cjc_bytes.proofs.Gets.{in_front, item_there}
use Rattle.cjc_world.specs.ClassFile.declared.tree.ClassTree.{ClassTree}
use Rattle.cjc_world.specs.ClassFile.declared.tree.FieldTree.{FieldTree}
use Rattle.cjc_world.specs.ClassFile.declared.tree.MethodTree.{MethodTree}
use Rattle.cjc_clinit.specs.Subset.Exports.{export_file_from, export_file_of}
use Rattle.cjc_clinit.specs.Subset.Places.{at_class, at_field, at_method}
use Rattle.cjc_world.specs.Classes.{Class, Member, declared, field_of_class, field_of_export, imported, method_of_class}
use Rattle.cjc_world.specs.Classes.{method_of_export, numbered, of_class_file, of_export_file, size}
use Rattle.cjc_world.specs.ExportFile.declared.tree.ExportClass.{ExportClass}
use Rattle.cjc_world.specs.ExportFile.declared.tree.ExportMethod.{ExportMethod}
use Rattle.cjc_world.specs.ExportFile.declared.tree.ExportTree.{ExportTree}
use Rattle.cjc_world.specs.Files.{Files}

-- ---- what stands at a place of the order

-- the item of this number, counted from 1
abbrev pub item : {A : Type 0} → List A → ℕ → Option A
item xs zero = None
item xs (suc k) = slice_get xs k

-- the texts of the members of a class, in the order of its file
abbrev pub texts_of : Class → List (List ℕ)
texts_of c = map (λ m. field_text m.name m.desc) c.fields ++ map (λ m. method_text m.name m.desc) c.methods

abbrev pub texts : Option Class → List (List ℕ)
texts None = []
texts (Some c) = texts_of c

abbrev pub name_of : Option Class → List ℕ
name_of None = []
name_of (Some c) = c.name

abbrev pub text_or : Option (List ℕ) → List ℕ
text_or None = []
text_or (Some text) = text

-- the name of a file; none of the lines' is the list
abbrev pub file_name : List ℕ → Option FileLine → List ℕ
file_name list None = list
file_name list (Some line) = line.name

-- the classes of one file of these lines, where so many class files, export files and classes of export files stand
-- before
abbrev pub classes_in : Files → (class_files export_files imports : ℕ) → List FileLine → (index : ℕ) → List Class
classes_in files c e i [] j = []
classes_in files c e i (line ∷ lines) zero = if line.class_file then of_class_file c (slice_get files.classes c)
    else of_export_file i (slice_get files.exports e)
classes_in files c e i (line ∷ lines) (suc j) = if line.class_file then classes_in files (c + 1) e i lines j
    else classes_in files c (e + 1) (i + size (slice_get files.exports e)) lines j

-- those of the file of this number in the order
abbrev pub classes_at : Files → ℕ → List Class
classes_at files zero = []
classes_at files (suc index) = classes_in files 0 0 0 files.lines index

-- the place that is told, where a rule stands so
abbrev pub place_at : (list : List ℕ) → Files → Rank → Place
place_at list files r =
    in_class (file_name list (item files.lines r.file)) (name_of (item (classes_at files r.file) r.class))
    (text_or (item (texts (item (classes_at files r.file) r.class)) r.member)) r.offset

-- What is told of the break is what stands at its place.
abbrev pub IsTold : (list : List ℕ) → Files → Break → Type 0
IsTold list files b = b.refusal ≡ refused_at b.rank.rule (place_at list files b.rank)

-- ---- places of files

module _ (list : List ℕ) (files : Files) where
  pub told_list : (rule : ℕ) → IsTold list files (broken_at (list_spot list) rule)
  told_list rule = refl

  module _ (index : ℕ) (line : FileLine) (is_line : slice_get files.lines index ≡ Some line) where
    line_at : item files.lines (index + 1) ≡ Some line
    line_at = ap (λ (n : ℕ). item files.lines n) (add-one index) ∙ is_line

    pub told_file : (rule : ℕ)
        → IsTold list files (broken_at (class_spot (record { key = keys.Line index; name = line.name }) 0 []) rule)
    told_file rule = sym (ap (λ (o : Option FileLine). refused_at rule (in_class (file_name list o) [] [] 0)) line_at)

    pub told_member : (class : ℕ) (c : Class) (member : ℕ) (text : List ℕ) (offset rule : ℕ)
        → item (classes_in files 0 0 0 files.lines index) class ≡ Some c → text_or (item (texts_of c) member) ≡ text
        → IsTold list files (broken_at (member_spot (record { key = keys.Line index; name = line.name }) class c.name
        member text offset) rule)
    told_member class c member text offset rule is_class is_text =
        let there : item (classes_at files (index + 1)) class ≡ Some c = ap (λ (n : ℕ). item (classes_at files n) class)
        (add-one index) ∙ is_class in
        sym
        (ap (λ (o : Option FileLine). refused_at rule (in_class (file_name list o)
        (name_of (item (classes_at files (index + 1)) class))
        (text_or (item (texts (item (classes_at files (index + 1)) class)) member)) offset)) line_at
        ∙ ap (λ (o : Option Class). refused_at rule (in_class line.name (name_of o) (text_or (item (texts o) member))
        offset)) there
        ∙ ap (λ (t : List ℕ). refused_at rule (in_class line.name c.name t offset)) is_text)

    pub told_class : (class : ℕ) (c : Class) (rule : ℕ) → item (classes_in files 0 0 0 files.lines index) class ≡ Some c
        → IsTold list files (broken_at (class_spot (record { key = keys.Line index; name = line.name }) class c.name)
        rule)
    told_class class c rule is_class = told_member class c 0 [] 0 rule is_class refl

-- ---- the texts of members

back_item : {A : Type 0} (xs ys : List A) (j k : ℕ) (x : A) → k ≡ length xs + j → slice_get ys j ≡ Some x
    → slice_get (xs ++ ys) k ≡ Some x
back_item [] ys j k x is e = ap (slice_get ys) (let f : k ≡ j = omega (arith, is) in f) ∙ e
back_item (y ∷ xs) ys j zero x is e = absurd (omega (arith, is))
back_item (y ∷ xs) ys j (suc k) x is e = back_item xs ys j k x (omega (arith, is)) e

item_next : {A : Type 0} (xs : List A) (n k : ℕ) → n ≡ k + 1 → item xs n ≡ slice_get xs k
item_next xs n k is = ap (λ (m : ℕ). item xs m) (is ∙ add-one k)

pub field_at : (c : Class) (j n : ℕ) (m : Member) → n ≡ j + 1 → slice_get c.fields j ≡ Some m
    → text_or (item (texts_of c) n) ≡ field_text m.name m.desc
field_at c j n m is there =
    ap text_or (item_next (texts_of c) n j is ∙ in_front (map (λ m. field_text m.name m.desc) c.fields)
    (map (λ m. method_text m.name m.desc) c.methods) j _ (item_there (λ (m : Member). field_text m.name m.desc) c.fields
    j m there))

pub method_at : (c : Class) (j n : ℕ) (m : Member) → n ≡ length c.fields + j + 1 → slice_get c.methods j ≡ Some m
    → text_or (item (texts_of c) n) ≡ method_text m.name m.desc
method_at c j n m is there =
    let same = length-map c.fields (λ (m : Member). field_text m.name m.desc) in
    ap text_or (item_next (texts_of c) n (length c.fields + j) is
    ∙ back_item (map (λ m. field_text m.name m.desc) c.fields) (map (λ m. method_text m.name m.desc) c.methods) j
    (length c.fields + j) _ (omega (arith, same)) (item_there (λ (m : Member). method_text m.name m.desc) c.methods j m
    there))

-- ---- the file of a class file's number

-- how many class files these lines name
abbrev pub class_files : List FileLine → ℕ
class_files [] = 0
class_files (line ∷ lines) = if line.class_file then suc (class_files lines) else class_files lines

-- The place of a class file: a line, whose one class this is.
pub record IsFileOf (files : Files) (number : ℕ) (c : ClassTree) (f : FilePlace) : Type 0 where
  pub index : ℕ
  pub line : FileLine
  pub is_line : slice_get files.lines index ≡ Some line
  pub is : f ≡ record { key = keys.Line index; name = line.name }
  pub class : item (classes_in files 0 0 0 files.lines index) 1 ≡ Some (declared number c)

-- the same behind so many lines
record IsBehind (files : Files) (before c e i : ℕ) (lines : List FileLine) (k : ℕ) (tree : ClassTree) : Type 0 where
  index : ℕ
  line : FileLine
  is_line : slice_get lines index ≡ Some line
  is : file_from before lines k ≡ record { key = keys.Line (before + index); name = line.name }
  classes : classes_in files c e i lines index ≡ declared (c + k) tree ∷ []

first_behind : (files : Files) (before c e i : ℕ) (line : FileLine) (lines : List FileLine) (tree : ClassTree)
    → line.class_file ≡ true → slice_get files.classes (c + 0) ≡ Some tree
    → IsBehind files before c e i (line ∷ lines) 0 tree
first_behind files before c e i line lines tree is there = record {
  index = 0;
  line = line;
  is_line = refl;
  is = ap (λ (b : Bool). if b then record { key = keys.Line before; name = line.name }
      else file_from (before + 1) lines 0) is
      ∙ ap (λ (n : ℕ). record { key = keys.Line n; name = line.name }) (let e : before ≡ before + 0 = omega arith in e);
  classes = ap (λ (b : Bool). if b then of_class_file c (slice_get files.classes c)
      else of_export_file i (slice_get files.exports e)) is
      ∙ ap (λ (n : ℕ). of_class_file n (slice_get files.classes n)) (let e : c ≡ c + 0 = omega arith in e)
      ∙ ap (of_class_file (c + 0)) there;
}

later_behind : (files : Files) (before c e i : ℕ) (line : FileLine) (lines : List FileLine) (k : ℕ) (tree : ClassTree)
    → line.class_file ≡ true → IsBehind files (before + 1) (c + 1) e i lines k tree
    → IsBehind files before c e i (line ∷ lines) (suc k) tree
later_behind files before c e i line lines k tree is h = record {
  index = suc h.index;
  line = h.line;
  is_line = h.is_line;
  is = ap (λ (b : Bool). if b then file_from (before + 1) lines k else file_from (before + 1) lines (suc k)) is ∙ h.is
      ∙ ap (λ (n : ℕ). record { key = keys.Line n; name = h.line.name }) (let e : before + 1 + h.index
      ≡ before + suc h.index = omega arith in e);
  classes = ap (λ (b : Bool). if b then classes_in files (c + 1) e i lines h.index
      else classes_in files c (e + 1) (i + size (slice_get files.exports e)) lines h.index) is ∙ h.classes
      ∙ ap (λ (n : ℕ). declared n tree ∷ []) (let e : c + 1 + k ≡ c + suc k = omega arith in e);
}

other_behind : (files : Files) (before c e i : ℕ) (line : FileLine) (lines : List FileLine) (k : ℕ) (tree : ClassTree)
    → line.class_file ≡ false → IsBehind files (before + 1) c (e + 1) (i + size (slice_get files.exports e)) lines k
    tree
    → IsBehind files before c e i (line ∷ lines) k tree
other_behind files before c e i line lines k tree is h = record {
  index = suc h.index;
  line = h.line;
  is_line = h.is_line;
  is = passed k ∙ h.is ∙ ap (λ (n : ℕ). record { key = keys.Line n; name = h.line.name }) (let e : before + 1 + h.index
      ≡ before + suc h.index = omega arith in e);
  classes = ap (λ (b : Bool). if b then classes_in files (c + 1) e i lines h.index
      else classes_in files c (e + 1) (i + size (slice_get files.exports e)) lines h.index) is ∙ h.classes;
}
  where
    passed : (k : ℕ) → file_from before (line ∷ lines) k ≡ file_from (before + 1) lines k
    passed zero = ap (λ (b : Bool). if b then record { key = keys.Line before; name = line.name }
        else file_from (before + 1) lines 0) is
    passed (suc k) = ap (λ (b : Bool). if b then file_from (before + 1) lines k
        else file_from (before + 1) lines (suc k)) is

behind : (files : Files) (before c e i : ℕ) (lines : List FileLine) (k : ℕ) (tree : ClassTree) → k < class_files lines
    → slice_get files.classes (c + k) ≡ Some tree → IsBehind files before c e i lines k tree
behind files before c e i [] k tree lt there = absurd (omega (arith, lt))
behind files before c e i (line ∷ lines) k tree lt there = by line.class_file refl k lt there (λ b c e i k lt there.
    behind files b c e i lines k tree lt there)
  where
    by : (b : Bool) → line.class_file ≡ b → (k : ℕ) → k < (if b then suc (class_files lines) else class_files lines)
        → slice_get files.classes (c + k) ≡ Some tree
        → ((before c e i k : ℕ) → k < class_files lines → slice_get files.classes (c + k) ≡ Some tree
        → IsBehind files before c e i lines k tree)
        → IsBehind files before c e i (line ∷ lines) k tree
    by true is zero lt there more = first_behind files before c e i line lines tree is there
    by true is (suc k) lt there more =
        later_behind files before c e i line lines k tree is
        (more (before + 1) (c + 1) e i k (omega (arith, lt)) (ap (slice_get files.classes) (let e : c + 1 + k
        ≡ c + suc k = omega arith in e) ∙ there))
    by false is k lt there more = other_behind files before c e i line lines k tree is (more (before + 1) c (e + 1)
        (i + size (slice_get files.exports e)) k lt there)

pub file_is_of : (files : Files) (number : ℕ) (c : ClassTree) → number < class_files files.lines
    → slice_get files.classes number ≡ Some c → IsFileOf files number c (file_from 0 files.lines number)
file_is_of files number c lt there =
    let zero_plus : 0 + number ≡ number = omega arith in
    let h = behind files 0 0 0 0 files.lines number c lt (ap (slice_get files.classes) zero_plus ∙ there) in
    record {
      index = h.index;
      line = h.line;
      is_line = h.is_line;
      is = h.is ∙ ap (λ (n : ℕ). record { key = keys.Line n; name = h.line.name }) (let e : 0 + h.index
          ≡ h.index = omega arith in e);
      class = ap (λ (cs : List Class). item cs 1) h.classes ∙ ap (λ (n : ℕ). Some (declared n c)) zero_plus;
    }

-- ---- places of class files

module _ (list : List ℕ) (files : Files) (number : ℕ) (c : ClassTree) (f : FilePlace) (h : IsFileOf files number c f)
  where
    pub told_at_class : (rule : ℕ) → IsTold list files (broken_at (at_class f c) rule)
    told_at_class rule =
        subst (λ (g : FilePlace). IsTold list files (broken_at (at_class g c) rule)) (sym h.is)
        (told_class list files h.index h.line h.is_line 1 (declared number c) rule h.class)

    pub told_at_field : (i : ℕ) (m : FieldTree) → slice_get c.fields i ≡ Some m → (rule : ℕ)
        → IsTold list files (broken_at (at_field f c i m) rule)
    told_at_field i m there rule =
        subst (λ (g : FilePlace). IsTold list files (broken_at (at_field g c i m) rule)) (sym h.is)
        (told_member list files h.index h.line h.is_line 1 (declared number c) (i + 1) (field_text m.name m.desc) 0 rule
        h.class
        (field_at (declared number c) i (i + 1) (field_of_class m) refl (item_there field_of_class c.fields i m there)))

    pub told_at_method : (i : ℕ) (m : MethodTree) → slice_get c.methods i ≡ Some m → (offset rule : ℕ)
        → IsTold list files (broken_at (at_method f c i m offset) rule)
    told_at_method i m there offset rule =
        let same = length-map c.fields field_of_class in
        subst (λ (g : FilePlace). IsTold list files (broken_at (at_method g c i m offset) rule)) (sym h.is)
        (told_member list files h.index h.line h.is_line 1 (declared number c) (length c.fields + i + 1)
        (method_text m.name m.desc) offset rule h.class
        (method_at (declared number c) i (length c.fields + i + 1) (method_of_class m) (omega (arith, same))
        (item_there method_of_class c.methods i m there)))

-- ---- the file of an export file's number

-- how many export files these lines name
abbrev pub export_files : List FileLine → ℕ
export_files [] = 0
export_files (line ∷ lines) = if line.class_file then export_files lines else suc (export_files lines)

-- The place of an export file: a line, whose classes are those of this file.
pub record IsExportFileOf (files : Files) (t : ExportTree) (f : FilePlace) : Type 0 where
  pub index : ℕ
  pub line : FileLine
  pub is_line : slice_get files.lines index ≡ Some line
  pub is : f ≡ record { key = keys.Line index; name = line.name }
  -- the number of the first of its classes
  pub first : ℕ
  pub classes : classes_in files 0 0 0 files.lines index ≡ numbered first t.classes

-- the same behind so many lines
record IsListedBehind (files : Files) (before c e i : ℕ) (lines : List FileLine) (k : ℕ) (t : ExportTree) : Type 0 where
  index : ℕ
  line : FileLine
  is_line : slice_get lines index ≡ Some line
  is : export_file_from before lines k ≡ record { key = keys.Line (before + index); name = line.name }
  first : ℕ
  classes : classes_in files c e i lines index ≡ numbered first t.classes

first_listed : (files : Files) (before c e i : ℕ) (line : FileLine) (lines : List FileLine) (t : ExportTree)
    → line.class_file ≡ false → slice_get files.exports (e + 0) ≡ Some t
    → IsListedBehind files before c e i (line ∷ lines) 0 t
first_listed files before c e i line lines t is there = record {
  index = 0;
  line = line;
  is_line = refl;
  is = ap (λ (b : Bool). if b then export_file_from (before + 1) lines 0
      else record { key = keys.Line before; name = line.name }) is
      ∙ ap (λ (n : ℕ). record { key = keys.Line n; name = line.name }) (let e : before ≡ before + 0 = omega arith in e);
  first = i;
  classes = ap (λ (b : Bool). if b then of_class_file c (slice_get files.classes c)
      else of_export_file i (slice_get files.exports e)) is
      ∙ ap (λ (n : ℕ). of_export_file i (slice_get files.exports n)) (let z : e ≡ e + 0 = omega arith in z)
      ∙ ap (of_export_file i) there;
}

later_listed : (files : Files) (before c e i : ℕ) (line : FileLine) (lines : List FileLine) (k : ℕ) (t : ExportTree)
    → line.class_file ≡ false → IsListedBehind files (before + 1) c (e + 1) (i + size (slice_get files.exports e)) lines
    k t
    → IsListedBehind files before c e i (line ∷ lines) (suc k) t
later_listed files before c e i line lines k t is h = record {
  index = suc h.index;
  line = h.line;
  is_line = h.is_line;
  is = ap (λ (b : Bool). if b then export_file_from (before + 1) lines (suc k)
      else export_file_from (before + 1) lines k) is ∙ h.is
      ∙ ap (λ (n : ℕ). record { key = keys.Line n; name = h.line.name }) (let e : before + 1 + h.index
      ≡ before + suc h.index = omega arith in e);
  first = h.first;
  classes = ap (λ (b : Bool). if b then classes_in files (c + 1) e i lines h.index
      else classes_in files c (e + 1) (i + size (slice_get files.exports e)) lines h.index) is ∙ h.classes;
}

class_before : (files : Files) (before c e i : ℕ) (line : FileLine) (lines : List FileLine) (k : ℕ) (t : ExportTree)
    → line.class_file ≡ true → IsListedBehind files (before + 1) (c + 1) e i lines k t
    → IsListedBehind files before c e i (line ∷ lines) k t
class_before files before c e i line lines k t is h = record {
  index = suc h.index;
  line = h.line;
  is_line = h.is_line;
  is = passed k ∙ h.is ∙ ap (λ (n : ℕ). record { key = keys.Line n; name = h.line.name }) (let e : before + 1 + h.index
      ≡ before + suc h.index = omega arith in e);
  first = h.first;
  classes = ap (λ (b : Bool). if b then classes_in files (c + 1) e i lines h.index
      else classes_in files c (e + 1) (i + size (slice_get files.exports e)) lines h.index) is ∙ h.classes;
}
  where
    passed : (k : ℕ) → export_file_from before (line ∷ lines) k ≡ export_file_from (before + 1) lines k
    passed zero = ap (λ (b : Bool). if b then export_file_from (before + 1) lines 0
        else record { key = keys.Line before; name = line.name }) is
    passed (suc k) = ap (λ (b : Bool). if b then export_file_from (before + 1) lines (suc k)
        else export_file_from (before + 1) lines k) is

listed_behind : (files : Files) (before c e i : ℕ) (lines : List FileLine) (k : ℕ) (t : ExportTree)
    → k < export_files lines → slice_get files.exports (e + k) ≡ Some t → IsListedBehind files before c e i lines k t
listed_behind files before c e i [] k t lt there = absurd (omega (arith, lt))
listed_behind files before c e i (line ∷ lines) k t lt there = by line.class_file refl k lt there (λ b c e i k lt there.
    listed_behind files b c e i lines k t lt there)
  where
    by : (b : Bool) → line.class_file ≡ b → (k : ℕ) → k < (if b then export_files lines else suc (export_files lines))
        → slice_get files.exports (e + k) ≡ Some t
        → ((before c e i k : ℕ) → k < export_files lines → slice_get files.exports (e + k) ≡ Some t
        → IsListedBehind files before c e i lines k t)
        → IsListedBehind files before c e i (line ∷ lines) k t
    by false is zero lt there more = first_listed files before c e i line lines t is there
    by false is (suc k) lt there more =
        later_listed files before c e i line lines k t is
        (more (before + 1) c (e + 1) (i + size (slice_get files.exports e)) k (omega (arith, lt))
        (ap (slice_get files.exports) (let z : e + 1 + k ≡ e + suc k = omega arith in z) ∙ there))
    by true is k lt there more = class_before files before c e i line lines k t is (more (before + 1) (c + 1) e i k lt
        there)

pub export_file_is_of : (files : Files) (number : ℕ) (t : ExportTree) → number < export_files files.lines
    → slice_get files.exports number ≡ Some t → IsExportFileOf files t (export_file_of files.lines number)
export_file_is_of files number t lt there =
    let zero_plus : 0 + number ≡ number = omega arith in
    let h = listed_behind files 0 0 0 0 files.lines number t lt (ap (slice_get files.exports) zero_plus ∙ there) in
    record {
      index = h.index;
      line = h.line;
      is_line = h.is_line;
      is = h.is ∙ ap (λ (n : ℕ). record { key = keys.Line n; name = h.line.name }) (let e : 0 + h.index
          ≡ h.index = omega arith in e);
      first = h.first;
      classes = h.classes;
    }

-- ---- places of export files

numbered_get : (first : ℕ) (cs : List ExportClass) (k : ℕ) (c : ExportClass) → slice_get cs k ≡ Some c
    → slice_get (numbered first cs) k ≡ Some (imported (first + k) c)
numbered_get first [] k c e = absurd cc
numbered_get first (b ∷ cs) zero c e =
    let same : b ≡ c = cc in
    ap (λ (x : ExportClass). Some (imported first x)) same
    ∙ ap (λ (n : ℕ). Some (imported n c)) (let z : first ≡ first + 0 = omega arith in z)
numbered_get first (b ∷ cs) (suc k) c e = numbered_get (first + 1) cs k c e
    ∙ ap (λ (n : ℕ). Some (imported n c)) (let z : first + 1 + k ≡ first + suc k = omega arith in z)

module _ (list : List ℕ) (files : Files) (t : ExportTree) (f : FilePlace) (h : IsExportFileOf files t f)
    (k : ℕ) (c : ExportClass) (is_class : slice_get t.classes k ≡ Some c) where
  class_there : item (classes_in files 0 0 0 files.lines h.index) (k + 1) ≡ Some (imported (h.first + k) c)
  class_there = ap (λ (n : ℕ). item (classes_in files 0 0 0 files.lines h.index) n) (add-one k)
      ∙ ap (λ (cs : List Class). slice_get cs k) h.classes ∙ numbered_get h.first t.classes k c is_class

  pub told_at_listed_class : (rule : ℕ) → IsTold list files (broken_at (class_spot f (k + 1) c.name) rule)
  told_at_listed_class rule =
      subst (λ (g : FilePlace). IsTold list files (broken_at (class_spot g (k + 1) c.name) rule)) (sym h.is)
      (told_class list files h.index h.line h.is_line (k + 1) (imported (h.first + k) c) rule class_there)

  pub told_at_listed_method : (i : ℕ) (m : ExportMethod) → slice_get c.methods i ≡ Some m → (rule : ℕ)
      → IsTold list files (broken_at (member_spot f (k + 1) c.name (length c.fields + i + 1) (method_text m.name m.desc)
      0) rule)
  told_at_listed_method i m there rule =
      let same = length-map c.fields field_of_export in
      subst (λ (g : FilePlace). IsTold list files (broken_at (member_spot g (k + 1) c.name (length c.fields + i + 1)
      (method_text m.name m.desc) 0) rule)) (sym h.is)
      (told_member list files h.index h.line h.is_line (k + 1) (imported (h.first + k) c) (length c.fields + i + 1)
      (method_text m.name m.desc) 0 rule class_there
      (method_at (imported (h.first + k) c) i (length c.fields + i + 1) (method_of_export m) (omega (arith, same))
      (item_there method_of_export c.methods i m there)))
