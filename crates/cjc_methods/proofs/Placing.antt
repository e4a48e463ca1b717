-- Each method with code has its place among the codes of a package.
use Rattle.std.proofs.Common.{◌≡◌, ℕ, zero, suc, ◌+◌, ◌≤◌, refl, sym, ap, subst, ◌∙◌, arith}
use Rattle.std.proofs.Common.{List, [], ◌∷◌, ◌++◌, length, drop, append_assoc}
use Rattle.std.specs.Prelude.{slice_get, Option, Some, None, option_and_then, Result, Ok}
use Rattle.std.proofs.lemmas.Option.{slice_get_past}
use Rattle.cjc_bytes.specs.declared.breaks.BrokenAt.{BrokenAt}
use Rattle.cjc_bytes.proofs.Gets.{head_at}
use Rattle.cjc_world.specs.ClassFile.Code.{CodeTree}
use Rattle.cjc_world.specs.ClassFile.declared.tree.ClassTree.{ClassTree}
use Rattle.cjc_world.specs.ClassFile.declared.tree.MethodTree.{MethodTree}
use Rattle.cjc_components.specs.Bytecode.Decoded.{decoding, of_code, of_method}
use Rattle.cjc_components.specs.Bytecode.PackageCodes.{code_with, of_classes, of_methods, where_code}
use Rattle.cjc_components.specs.Bytecode.declared.insn.JInsn.{JInsn}
use Rattle.cjc_components.specs.Bytecode.declared.method_code.MethodCode.{MethodCode}
use Rattle.cjc_pool.specs.Tokens.Tokens.{joined}
use Rattle.cjc_narrow.specs.Types.declared.table.TypeTable.{TypeTable}
use Rattle.cjc_world.specs.Files.{Files}
use Rattle.cjc_methods.specs.Ready.{AreReady, IsDecoded}
use Rattle.cjc_methods.specs.Working.Places.{behind, behind_all, class_places, code_places, place_if, place_in}
use Rattle.cjc_methods.specs.Working.Places.{IsPlaced}

-- the code of a method of a class, by what is kept of its place
AtPlace : List MethodCode → ClassTree → (n i : ℕ) → MethodTree → Option (Option ℕ) → Type 0
AtPlace codes t n i m None = ⊥
AtPlace codes t n i m (Some None) = m.code ≡ None
AtPlace codes t n i m (Some (Some q)) = (tree : CodeTree) × (insns : List JInsn) × (m.code ≡ Some tree)
    × (decoding t m tree ≡ Ok insns) × (slice_get codes q ≡ Some (record { class = n; method = i; insns = insns }))

module _ (codes : List MethodCode) (n : ℕ) (t : ClassTree) where
  AreDecoded : List MethodTree → Type 0
  AreDecoded ms = (i : ℕ) (m : MethodTree) (tree : CodeTree) → slice_get ms i ≡ Some m → m.code ≡ Some tree
      → IsDecoded t m tree

  -- behind the code of one method, and what is kept of its place
  one : (k j : ℕ) (m : MethodTree) (o : Option CodeTree) (rest : List MethodCode) → m.code ≡ o
      → ((tree : CodeTree) → m.code ≡ Some tree → IsDecoded t m tree)
      → drop k codes ≡ where_code (code_with n j) t m o ++ rest → (drop (behind k o) codes ≡ rest)
      × AtPlace codes t n j m (Some (place_if k o))
  unfolding AtPlace
  one k j m None rest is dec e = (e, is)
  one k j m (Some tree) rest is dec e =
      let d = dec tree is in
      let here : drop k codes ≡ record { class = n; method = j; insns = d.insns } ∷ rest = e
      ∙ ap (λ (r : Result (List JInsn) BrokenAt). code_with n j r ++ rest) d.decodes in
      let both = head_at codes k (record { class = n; method = j; insns = d.insns }) rest here in
      (both.1, (tree, d.insns, is, d.decodes, both.0))

  -- the codes of some methods are taken one by one
  first_one : (k j : ℕ) (m : MethodTree) (ms : List MethodTree) (rest : List MethodCode) → AreDecoded (m ∷ ms)
      → drop k codes ≡ of_methods code_with n j t (m ∷ ms) ++ rest
      → (drop (behind k m.code) codes ≡ of_methods code_with n (j + 1) t ms ++ rest)
      × AtPlace codes t n j m (Some (place_if k m.code))
  unfolding AreDecoded
  first_one k j m ms rest dec e =
      one k j m m.code (of_methods code_with n (j + 1) t ms ++ rest) refl (λ tree is. dec 0 m tree refl is) (e
      ∙ append_assoc (where_code (code_with n j) t m m.code) (of_methods code_with n (j + 1) t ms) rest)

  later : (m : MethodTree) (ms : List MethodTree) → AreDecoded (m ∷ ms) → AreDecoded ms
  unfolding AreDecoded
  later m ms dec i x tree e is = dec (suc i) x tree e is

  all_behind : (k j : ℕ) (ms : List MethodTree) (rest : List MethodCode) → AreDecoded ms
      → drop k codes ≡ of_methods code_with n j t ms ++ rest → drop (behind_all k ms) codes ≡ rest
  all_behind k j [] rest dec e = e
  all_behind k j (m ∷ ms) rest dec e = all_behind (behind k m.code) (j + 1) ms rest (later m ms dec)
      (first_one k j m ms rest dec e).0

  in_class : (k j : ℕ) (ms : List MethodTree) (rest : List MethodCode) → AreDecoded ms
      → drop k codes ≡ of_methods code_with n j t ms ++ rest
      → (i : ℕ) (m : MethodTree) → slice_get ms i ≡ Some m
      → AtPlace codes t n (j + i) m (slice_get (code_places k ms) i)
  unfolding AtPlace
  in_class k j [] rest dec e i m f = cc
  in_class k j (x ∷ ms) rest dec e zero m f =
      let same : x ≡ m = cc in
      let at : j + 0 ≡ j = omega arith in
      subst (λ p. AtPlace codes t n p m (Some (place_if k x.code))) (sym at)
      (subst (λ (y : MethodTree). AtPlace codes t n j y (Some (place_if k x.code))) same (first_one k j x ms rest
      dec e).1)
  in_class k j (x ∷ ms) rest dec e (suc i) m f =
      let at : j + suc i ≡ j + 1 + i = omega arith in
      subst (λ p. AtPlace codes t n p m (slice_get (code_places (behind k x.code) ms) i)) (sym at)
      (in_class (behind k x.code) (j + 1) ms rest (later x ms dec) (first_one k j x ms rest dec e).0 i m f)

-- a method that is not there has no place
past_methods : (k : ℕ) (ms : List MethodTree) (i : ℕ) → slice_get ms i ≡ None → slice_get (code_places k ms) i ≡ None
past_methods k [] i e = slice_get_past [] i (omega arith)
past_methods k (m ∷ ms) zero e = cc
past_methods k (m ∷ ms) (suc i) e = past_methods (behind k m.code) ms i e

-- of a class of the package: what is kept of its methods
row_there : (k : ℕ) (cs : List ClassTree) (n : ℕ) (t : ClassTree) → slice_get cs n ≡ Some t → (q : ℕ)
    × (slice_get (class_places k cs) n ≡ Some (code_places q t.methods))
row_there k [] n t e = cc
row_there k (c ∷ cs) zero t e = let same : c ≡ t = cc in (
  k,
  ap (λ (x : ClassTree). Some (code_places k x.methods))
      same,
)
row_there k (c ∷ cs) (suc n) t e = row_there (behind_all k c.methods) cs n t e

module _ (codes : List MethodCode) where
  abbrev AllDecoded : List ClassTree → Type 0
  AllDecoded cs = (n i : ℕ) (class : ClassTree) (method : MethodTree) (tree : CodeTree) → slice_get cs n ≡ Some class
      → slice_get class.methods i ≡ Some method → method.code ≡ Some tree → IsDecoded class method tree

  in_classes : (k j : ℕ) (cs : List ClassTree) → AllDecoded cs → drop k codes ≡ of_classes code_with j cs
      → (n : ℕ) (t : ClassTree) → slice_get cs n ≡ Some t
      → (row : List (Option ℕ)) → slice_get (class_places k cs) n ≡ Some row → (i : ℕ) (m : MethodTree)
      → slice_get t.methods i ≡ Some m → AtPlace codes t (j + n) i m (slice_get row i)
  unfolding AtPlace AreDecoded
  in_classes k j [] dec e n t f row g i m h = cc
  in_classes k j (c ∷ cs) dec e zero t f row g i m h =
      let same : c ≡ t = cc in
      let kept : code_places k c.methods ≡ row = cc in
      let at : j + 0 ≡ j = omega arith in
      let there : slice_get c.methods i ≡ Some m = ap (λ (x : ClassTree). slice_get x.methods i) same ∙ h in
      let none : 0 + i ≡ i = omega arith in
      let found : AtPlace codes c j i m (slice_get (code_places k c.methods) i) =
      subst (λ p. AtPlace codes c j p m (slice_get (code_places k c.methods) i)) none (in_class codes j c k 0
      c.methods (of_classes code_with (j + 1) cs) (λ l x tree. dec 0 l c x tree refl) e i m there) in
      subst (λ p. AtPlace codes t p i m (slice_get row i)) (sym at)
      (subst (λ rs. AtPlace codes t j i m (slice_get rs i)) kept (subst (λ (x : ClassTree). AtPlace codes x j i m
      (slice_get (code_places k c.methods) i)) same found))
  in_classes k j (c ∷ cs) dec e (suc n) t f row g i m h =
      let at : j + suc n ≡ j + 1 + n = omega arith in
      let rest = all_behind codes j c k 0 c.methods (of_classes code_with (j + 1) cs) (λ l x tree. dec 0 l c x tree
      refl) e in
      subst (λ p. AtPlace codes t p i m (slice_get row i)) (sym at) (in_classes (behind_all k c.methods) (j + 1) cs
      (λ p l x y tree. dec (suc p) l x y tree) rest n t f row g i m h)

-- ---- of a package

placed_by : (files : Files) (codes : List MethodCode) (n i : ℕ) (t : ClassTree) (m : MethodTree)
    → slice_get files.classes n ≡ Some t → slice_get t.methods i ≡ Some m
    → ((tree : CodeTree) → m.code ≡ Some tree → length tree.bytes ≤ 65535) → (o : Option (Option ℕ))
    → AtPlace codes t n i m o → IsPlaced files codes n i (joined o)
unfolding AtPlace
placed_by files codes n i t m is_class is_method short None at = absurd at
placed_by files codes n i t m is_class is_method short (Some None) at = λ class method f g.
    let c : class ≡ t = (let p = sym f ∙ is_class in cc) in
    let same : method ≡ m = (let p = sym (ap (λ (x : ClassTree). slice_get x.methods i) (sym c) ∙ g) ∙ is_method in cc)
    in
    ap (λ (x : MethodTree). x.code) same ∙ at
placed_by files codes n i t m is_class is_method short (Some (Some q)) (tree, insns, is_tree, decodes, is_code) =
    record {
      class = t;
      method = m;
      tree = tree;
      code = record { class = n; method = i; insns = insns };
      is_class = is_class;
      is_method = is_method;
      is_tree = is_tree;
      is_code = is_code;
      is_own = record {
        is_class = is_class;
        is_method = is_method;
        is_code = is_tree;
        bytes = short tree is_tree;
        insns = ap (of_method t) is_method ∙ ap (of_code t m) is_tree ∙ decodes;
      };
    }

nothing_there : (files : Files) (codes : List MethodCode) (n i : ℕ) (t : ClassTree) → slice_get files.classes n ≡ Some t
    → slice_get t.methods i ≡ None → IsPlaced files codes n i None
nothing_there files codes n i t is_class e = λ class method f g.
    let c : class ≡ t = (let p = sym f ∙ is_class in cc) in
    absurd (let p = sym g ∙ ap (λ (x : ClassTree). slice_get x.methods i) c ∙ e in cc)

-- What is kept of a method of a class says whether it has code, and which.
pub placed : (files : Files) (codes : List MethodCode) (types : List TypeTable) (n i : ℕ) (t : ClassTree)
    → AreReady files codes types → slice_get files.classes n ≡ Some t
    → IsPlaced files codes n i (place_in (class_places 0 files.classes) n i)
placed files codes types n i t ready is_class = by (slice_get t.methods i) refl
  where
    row : (q : ℕ) × (slice_get (class_places 0 files.classes) n ≡ Some (code_places q t.methods))
    row = row_there 0 files.classes n t is_class

    kept : place_in (class_places 0 files.classes) n i ≡ joined (slice_get (code_places row.0 t.methods) i)
    kept = ap (option_and_then (λ r. joined (slice_get r i))) row.1

    by : (o : Option MethodTree) → slice_get t.methods i ≡ o
        → IsPlaced files codes n i (place_in (class_places 0 files.classes) n i)
    by None e = subst (IsPlaced files codes n i) (sym (kept ∙ ap joined (past_methods row.0 t.methods i e)))
        (nothing_there files codes n i t is_class e)
    by (Some m) e =
        let front : 0 + n ≡ n = omega arith in
        let all : drop 0 codes ≡ of_classes code_with 0 files.classes = ready.codes_are in
        subst (IsPlaced files codes n i) (sym kept)
        (placed_by files codes n i t m is_class e (λ tree is. (ready.decoded n i t m tree is_class e is).bytes)
        (slice_get (code_places row.0 t.methods) i)
        (subst (λ q. AtPlace codes t q i m (slice_get (code_places row.0 t.methods) i)) front
        (in_classes codes 0 0 files.classes ready.decoded all n t is_class (code_places row.0 t.methods) row.1 i m
        e)))
