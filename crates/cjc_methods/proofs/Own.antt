-- What is read of a member of a class of the package.
use Rattle.std.proofs.Common.{◌≡◌, ℕ, ◌-◌, ◌<◌, ◌≤◌, refl, sym, ap, subst, ◌∙◌, arith, nat_lt, List, length, get_or}
use Rattle.std.proofs.Common.{true, false}
use Rattle.std.specs.Prelude.{slice_get, Option, Some, None}
use Rattle.std.proofs.lemmas.Bool.{le-ltb, lt-ltb, ltb-false}
use Rattle.std.proofs.lemmas.Option.{slice_get-get_or, slice_get_past, slice_get_within}
use Rattle.cjc_world.specs.ClassFile.declared.tree.ClassTree.{ClassTree}
use Rattle.cjc_world.specs.ClassFile.declared.tree.FieldTree.{FieldTree}
use Rattle.cjc_world.specs.ClassFile.declared.tree.MethodTree.{MethodTree}
use Rattle.cjc_components.specs.Bytecode.declared.method_code.MethodCode.{MethodCode}
use Rattle.cjc_narrow.specs.Types.Tables.{IsMethodOf}
use Rattle.cjc_narrow.specs.Types.declared.table.TypeTable.{TypeTable}
use Rattle.cjc_world.specs.declared.found.Found.{Found}
use Rattle.cjc_world.specs.Classes.{Member, Class, declared, all_classes, class_at}
use Rattle.cjc_world.specs.Files.{Files}
use Rattle.cjc_narrow.specs.Rows.Resolved.{argument_words}
use Rattle.cjc_components.proofs.VTableNumbers.{at-tree}
use Rattle.cjc_bytes.proofs.Gets.{get_inside}
use Rattle.cjc_int_mode.specs.declared.modes.Mode.{Mode}
use Rattle.cjc_methods.specs.declared.method.Signature.{Signature}
use Rattle.cjc_methods.specs.Ready.{AreReady, IsOwn}
use Rattle.cjc_methods.specs.Working.Methods.{IsLike, added_in}
use Rattle.cjc_methods.specs.Working.Places.{class_places, place_in, HasNone, HasPlace, IsPlaced}
use Rattle.cjc_methods.proofs.Owned.{AreLike}
use Rattle.cjc_methods.proofs.Placing.{placed}

-- the class file of a member's class
pub tree_at : (files : Files) (f : Found) → IsOwn files f → (t : ClassTree) × (slice_get files.classes f.class ≡ Some t)
    × ((c : Class) → class_at (all_classes files) f.imported f.class ≡ Some c → c ≡ declared f.class t)
tree_at files f o =
    let e : class_at (all_classes files) false f.class ≡ Some o.class = ap (λ b. class_at (all_classes files) b f.class)
    (sym o.own) ∙ o.is_class in
    let (t, is, same) = at-tree files f.class o.class e in
    (t, is, λ c h. (let g : c ≡ o.class = (let p = sym h ∙ o.is_class in cc) in g ∙ same))

-- the place of a method in its class file
pub place_is : (p i : ℕ) (fields : List FieldTree) (class t : ClassTree) → i ≡ p - length fields → fields ≡ class.fields
    → class ≡ t → i ≡ p - length t.fields
place_is p i fields class t e f g = e ∙ ap (λ (fs : List FieldTree). p - length fs) (f
    ∙ ap (λ (x : ClassTree). x.fields) g)

-- a method that is read
pub method_read : (ms : List MethodTree) (class t : ClassTree) (i j : ℕ) (m : MethodTree) → ms ≡ class.methods
    → class ≡ t → i ≡ j → i < length ms → m ≡ get_or ms i m → slice_get t.methods j ≡ Some m
method_read ms class t i j m e g at lt is =
    ap (slice_get t.methods) (sym at) ∙ ap (λ (xs : List MethodTree). slice_get xs i) (sym (e
    ∙ ap (λ (x : ClassTree). x.methods) g)) ∙ slice_get-get_or ms i m lt ∙ ap Some (sym is)

pub no_method_read : (ms : List MethodTree) (class t : ClassTree) (i j : ℕ) → ms ≡ class.methods → class ≡ t → i ≡ j
    → length ms ≤ i → slice_get t.methods j ≡ None
no_method_read ms class t i j e g at le = ap (slice_get t.methods) (sym at)
    ∙ ap (λ (xs : List MethodTree). slice_get xs i) (sym (e ∙ ap (λ (x : ClassTree). x.methods) g))
    ∙ slice_get_past ms i le

-- ---- the code of a member

module _ (files : Files) (codes : List MethodCode) (types : List TypeTable) (n i j : ℕ) (t : ClassTree)
    (rows : List (List (Option ℕ))) (ready : AreReady files codes types) (is : slice_get files.classes n ≡ Some t)
    (at : i ≡ j) (kept : rows ≡ class_places 0 files.classes) where
  kept_place : (o : Option ℕ) → o ≡ place_in rows n i → IsPlaced files codes n j o
  kept_place o e = subst (IsPlaced files codes n j) (sym (e ∙ ap (place_in rows n) at
      ∙ ap (λ rs. place_in rs n j) kept)) (placed files codes types n j t ready is)

  pub has_place : (k : ℕ) → Some k ≡ place_in rows n i → HasPlace files codes n j k
  has_place k e = kept_place (Some k) e

  pub has_none : None ≡ place_in rows n i → HasNone files n j
  has_none e = kept_place None e

pub same_class : (files : Files) (n : ℕ) (t x : ClassTree) → slice_get files.classes n ≡ Some t
    → slice_get files.classes n ≡ Some x → x ≡ t
same_class files n t x is other = let p = sym other ∙ is in cc

-- the same of the class that is found for a member
abbrev pub class_of : (files : Files) (f : Found) → IsOwn files f → ClassTree
class_of files f own = (tree_at files f own).0

-- at the place of the code of a member
module _ (files : Files) (codes : List MethodCode) (types : List TypeTable) (f : Found) (own : IsOwn files f)
    (rows : List (List (Option ℕ))) (ready : AreReady files codes types) (kept : rows ≡ class_places 0 files.classes)
  where
    abbrev number : ℕ
    number = f.member - length (class_of files f own).fields

    module _ (k : ℕ) (at : (t : ClassTree) → slice_get files.classes f.class ≡ Some t → Some k
        ≡ place_in rows f.class (f.member - length t.fields)) where
      pub place_there : HasPlace files codes f.class (f.member - length (class_of files f own).fields) k
      place_there =
          let is = (tree_at files f own).1 in
          has_place files codes types f.class number number (class_of files f own) rows ready is refl kept k
          (at (class_of files f own) is)

      pub place_within : k < length codes
      place_within = slice_get_within codes k place_there.code place_there.is_code

      pub type_within : k < length types
      type_within = subst (λ n. k < n) (sym ready.count) place_within

    pub none_there : ((t : ClassTree) → slice_get files.classes f.class ≡ Some t → None
        ≡ place_in rows f.class (f.member - length t.fields))
        → HasNone files f.class (f.member - length (class_of files f own).fields)
    none_there at =
        let is = (tree_at files f own).1 in
        has_none files codes types f.class number number (class_of files f own) rows ready is refl kept
        (at (class_of files f own) is)

-- A member has code at some place, with its types and its mode, or none.
pub by_place : (files : Files) (codes : List MethodCode) (types : List TypeTable) (modes_of : List Mode)
    → AreReady files codes types → length modes_of ≡ length codes → (f : Found) (own : IsOwn files f) (P : Type 0)
    → ((k : ℕ) → HasPlace files codes f.class (f.member - length (class_of files f own).fields) k
    → (table : TypeTable) → slice_get types k ≡ Some table → (mode : Mode) → slice_get modes_of k ≡ Some mode → P)
    → (HasNone files f.class (f.member - length (class_of files f own).fields) → P) → P
by_place files codes types modes_of ready sized f own P coded none =
    let is = (tree_at files f own).1 in
    by (place_in (class_places 0 files.classes) f.class (f.member - length (class_of files f own).fields))
    (placed files codes types f.class (f.member - length (class_of files f own).fields) (class_of files f own) ready is)
  where
    by : (o : Option ℕ) → IsPlaced files codes f.class (f.member - length (class_of files f own).fields) o → P
    by None empty = none empty
    by (Some k) here =
        let within = slice_get_within codes k here.code here.is_code in
        let typed = get_inside types k (subst (λ n. k < n) (sym ready.count) within) in
        let moded = get_inside modes_of k (subst (λ n. k < n) (sym sized) within) in
        coded k here typed.0 typed.1 moded.0 moded.1

-- the same place with the code that is read there
abbrev pub with_read : {files : Files} {codes : List MethodCode} {n i k : ℕ} (x : MethodCode)
    → slice_get codes k ≡ Some x → HasPlace files codes n i k → HasPlace files codes n i k
with_read {files} {codes} x e h = record {
  class = h.class;
  method = h.method;
  tree = h.tree;
  code = x;
  is_class = h.is_class;
  is_method = h.is_method;
  is_tree = h.is_tree;
  is_code = e;
  is_own = subst (λ (y : MethodCode). IsMethodOf files y h.class h.method h.tree) (let p = sym h.is_code ∙ e
      in cc) h.is_own;
}

-- ---- words

pub words_like : (s : Signature) (m : Member) → IsLike s m → argument_words s.flags s.desc.now ≡ argument_words m.flags
    m.desc
words_like s m like = ap (λ flags. argument_words flags s.desc.now) like.flags ∙ ap (argument_words m.flags) like.desc

pub not_many : (words n : ℕ) → words ≡ n → words ≤ 255 → nat_lt 255 n ≡ false
not_many words n e le = le-ltb 255 n (omega (arith, e, le))

pub many : (words n : ℕ) → words ≡ n → 255 < words → nat_lt 255 n ≡ true
many words n e lt = lt-ltb 255 n (omega (arith, e, lt))

pub few_words : (words n : ℕ) → words ≡ n → nat_lt 255 n ≡ false → words < 256
few_words words n e h = let le = ltb-false 255 n h in omega (arith, le)

-- ---- a method that its class gets

pub like_on : (s : Signature) (a b m : Member) → IsLike s a → a ≡ b → AreLike b m → IsLike s m
like_on s a b m like e q = record {
  flags = like.flags ∙ ap (λ (x : Member). x.flags) e ∙ q.0;
  name = like.name ∙ ap (λ (x : Member). x.name) e ∙ q.1;
  desc = like.desc ∙ ap (λ (x : Member). x.desc) e ∙ q.2;
}

pub added_read : (files : Files) (n : ℕ) (ms : List MethodTree) (class t : ClassTree) (i j : ℕ) → ms ≡ class.methods
    → class ≡ t → i ≡ j → added_in files n (i - length ms) ≡ added_in files n (j - length t.methods)
added_read files n ms class t i j e g at = ap (λ (xs : List MethodTree). added_in files n (i - length xs)) (e
    ∙ ap (λ (x : ClassTree). x.methods) g) ∙ ap (λ k. added_in files n (k - length t.methods)) at
