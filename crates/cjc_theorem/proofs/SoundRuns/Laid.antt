-- What stands for a method of a class file in Method is its narrow code by the rows of its least table.
use Rattle.std.proofs.Common.{◌≡◌, ◌⊎◌, ℕ, zero, suc, ◌-◌, ◌≤◌, refl, sym, ap, ◌∙◌, Bool, true, false, List, [], ◌∷◌}
use Rattle.std.proofs.Common.{length, inl, inr}
use Rattle.std.specs.Prelude.{◌&&◌, Option, Some, None, map, option_and_then, option_map, position, slice_get}
use Rattle.std.specs.Prelude.{if◌then◌else◌}
use Rattle.std.specs.Str.{bytes_eq}
use Rattle.std.proofs.lemmas.Option.{slice_get-map}
use Rattle.cjc_jvm_semantics.specs.Linked.{Method}
use Rattle.cjc_jvm_semantics.specs.OnePackage.{method_at, method_by, method_in}
use Rattle.cjc_bytes.specs.declared.fault.MemberId.{MemberId}
use Rattle.cjc_bytes.proofs.Lists.{name_is}
use Rattle.cjc_bytes.proofs.Plain.{same_some}
use Rattle.cjc_token_proof.specs.ClassOrder.Classes.Numbers.{class_count}
use Rattle.cjc_world.specs.ClassFile.Code.{CodeTree}
use Rattle.cjc_world.specs.ClassFile.declared.tree.ClassTree.{ClassTree}
use Rattle.cjc_world.specs.ClassFile.declared.tree.MethodTree.{MethodTree}
use Rattle.cjc_components.specs.Bytecode.declared.insn.JInsn.{JInsn}
use Rattle.cjc_components.specs.Package.{LaidMethod}
use Rattle.cjc_token_proof.specs.Narrow.Keys.Working.Same.{same_member-Decides}
use Rattle.cjc_token_proof.specs.Narrow.Rows.Package.{code_of, flags_of, read_of, tree_of}
use Rattle.cjc_token_proof.specs.Narrow.Pairs.Roles.{with_pairs}
use Rattle.cjc_token_proof.specs.Narrow.Rows.Resolved.{argument_words, method_found, resolution}
use Rattle.cjc_narrow_proof.proofs.LawsLaws.Own.{class_by_name, first_here, own_kept}
use Rattle.cjc_ncode.specs.PoolOrder.{same_member}
use Rattle.cjc_ncode.specs.Written.{Resolution, narrow_method}
use Rattle.cjc_ncode.specs.declared.narrow.NMethod.{NMethod}
use Rattle.cjc_token_proof.specs.Types.declared.state.State.{State}
use Rattle.cjc_world.specs.Classes.{Class, all_classes, class_named, declared, method_of_class}
use Rattle.cjc_world.specs.Files.{Files}
use Rattle.cjc_world.specs.Lookup.{is_called}
use Rattle.cjc_world.specs.Rules.{breaks, is_twice}
use Rattle.cjc_world.specs.declared.found.Found.{Found}
use Rattle.cjc_token_proof.specs.WrittenCalls.Standing.{is_method_of, laid_from, no_rows}

-- A method of a class file.
pub record IsOfFile (files : Files) (x : Method) : Type 0 where
  pub number : ℕ
  pub place : ℕ
  pub class : ClassTree
  pub method : MethodTree
  pub is_class : slice_get files.classes number ≡ Some class
  pub is_method : slice_get class.methods place ≡ Some method
  pub is : x ≡ method_by class method method.code

pub of_file : (files : Files) (f : Found) (x : Method) → method_at files f ≡ Some x → IsOfFile files x
of_file files f x e = by f.imported (slice_get files.classes f.class) refl e
  where
    in_class : (class : ClassTree) (o : Option MethodTree) → slice_get files.classes f.class ≡ Some class
        → slice_get class.methods (f.member - length class.fields) ≡ o → option_map (λ m. method_by class m m.code) o
        ≡ Some x → IsOfFile files x
    in_class class None g h e = absurd cc
    in_class class (Some method) g h e =
        let same : method_by class method method.code ≡ x = cc in
        record {
          number = f.class;
          place = f.member - length class.fields;
          class = class;
          method = method;
          is_class = g;
          is_method = h;
          is = sym same;
        }

    by : (b : Bool) (o : Option ClassTree) → slice_get files.classes f.class ≡ o
        → (if b then None else option_and_then (method_in f.member) o) ≡ Some x → IsOfFile files x
    by true o g e = absurd cc
    by false None g e = absurd cc
    by false (Some class) g e = in_class class (slice_get class.methods (f.member - length class.fields)) g refl e

pub id_of : (class : ClassTree) (m : MethodTree) (o : Option CodeTree) → (method_by class m o).id
    ≡ record { class = class.name; name = m.name; desc = m.desc }
id_of class m None = refl
id_of class m (Some tree) = refl

-- ---- one method of a name

module _ (files : Files) (list : List ℕ) (listed : length files.classes ≤ class_count files.lines)
    (unbroken : breaks list files ≡ []) where
  abbrev w : List Class
  w = all_classes files

  same_class : (n k : ℕ) (c d : ClassTree) → slice_get files.classes n ≡ Some c → slice_get files.classes k ≡ Some d
      → c.name ≡ d.name → n ≡ k
  same_class n k c d e f names =
      let is : declared n c ≡ declared k d = same_some (sym (class_by_name files list listed unbroken n c e)
      ∙ ap (class_named w) names ∙ class_by_name files list listed unbroken k d f) in
      ap (λ (v : Class). v.number) is

  same_place : (n i j : ℕ) (c : ClassTree) (a b : MethodTree) → slice_get files.classes n ≡ Some c
      → slice_get c.methods i ≡ Some a → slice_get c.methods j ≡ Some b → a.name ≡ b.name → a.desc ≡ b.desc → i ≡ j
  unfolding is_twice
  same_place n i j c a b e f g names descs =
      let kept = own_kept files list listed unbroken n c e in
      let at : (k : ℕ) (m : MethodTree) → slice_get c.methods k ≡ Some m
      → position (λ q. is_called m.name m.desc q) (map method_of_class c.methods) ≡ Some k =
      λ k m h. first_here (λ q. is_called m.name m.desc q) (map method_of_class c.methods) k (method_of_class m)
      (slice_get-map method_of_class c.methods k ∙ ap (option_map method_of_class) h) (called m.name m.desc)
      (kept.methods k m h).0 in
      same_some (sym (at i a f)
      ∙ ap (λ x. position (λ q. is_called x a.desc q) (map method_of_class c.methods)) names
      ∙ ap (λ x. position (λ q. is_called b.name x q) (map method_of_class c.methods)) descs
      ∙ at j b g)
    where
      called : (name desc : List ℕ) → (bytes_eq name name && bytes_eq desc desc) ≡ true
      called name desc = ap (λ b. b && bytes_eq desc desc) (name_is name) ∙ name_is desc

  pub one_of_name : (x y : Method) → IsOfFile files x → IsOfFile files y → x.id ≡ y.id → x ≡ y
  one_of_name x y o q e =
      let ids = sym (id_of o.class o.method (let m = o.method in m.code)) ∙ sym (ap (λ (m : Method). m.id) o.is) ∙ e
      ∙ ap (λ (m : Method). m.id) q.is ∙ id_of q.class q.method (let m = q.method in m.code) in
      let numbers = same_class o.number q.number o.class q.class o.is_class q.is_class (ap (λ (i : MemberId). i.class)
      ids) in
      let classes : o.class ≡ q.class = same_some (sym o.is_class ∙ ap (slice_get files.classes) numbers
      ∙ q.is_class) in
      let there : slice_get (let c = o.class in c.methods) q.place ≡ Some q.method =
      ap (λ (c : ClassTree). slice_get c.methods q.place) classes ∙ q.is_method in
      let places = same_place o.number o.place q.place o.class o.method q.method o.is_class o.is_method there
      (ap (λ (i : MemberId). i.name) ids) (ap (λ (i : MemberId). i.desc) ids) in
      let methods : o.method ≡ q.method = same_some (sym o.is_method ∙ ap (slice_get
      (let c = o.class in c.methods)) places
      ∙ there) in
      o.is ∙ ap (λ c. method_by c o.method (let m = o.method in m.code)) classes
      ∙ ap (λ (m : MethodTree). method_by q.class m m.code) methods ∙ sym q.is

  -- ---- among the methods of Method

  module _ (near : List MemberId) (code : Method → NMethod) (x : Method) (file : IsOfFile files x) where
    -- A method of Method has the code that is said of it.
    abbrev pub IsSaid : LaidMethod → Type 0
    IsSaid m = (y : Method) → method_at files m.member ≡ Some y → m.code ≡ code y

    -- It is what is said of this method, or nothing there is of it.
    abbrev IsTold : List LaidMethod → Type 0
    IsTold ms = (laid_from files near ms x ≡ code x)
        ⊎ ((laid_from files near ms x ≡ code_of files near no_rows x) × ((k : ℕ) (m : LaidMethod)
        → slice_get ms k ≡ Some m → method_at files m.member ≡ Some x → ⊥))

    abbrev Choice : LaidMethod → List LaidMethod → Bool → NMethod
    Choice m ms b = if b then m.code else laid_from files near ms x

    abbrev Told : LaidMethod → List LaidMethod → Bool → Type 0
    Told m ms b = (Choice m ms b ≡ code x) ⊎ ((Choice m ms b ≡ code_of files near no_rows x)
        × ((k : ℕ) (n : LaidMethod) → slice_get (m ∷ ms) k ≡ Some n → method_at files n.member ≡ Some x → ⊥))

    -- no other method is this one
    later : (m : LaidMethod) (ms : List LaidMethod) → (method_at files m.member ≡ Some x → ⊥) → IsTold ms
        → Told m ms false
    later m ms differs (inl told) = inl told
    later m ms differs (inr told) = inr (told.0, λ k n f g. here k n f g)
      where
        here : (k : ℕ) (n : LaidMethod) → slice_get (m ∷ ms) k ≡ Some n → method_at files n.member ≡ Some x → ⊥
        here zero n f g = let same : m ≡ n = cc in differs (ap (λ (v : LaidMethod). method_at files v.member) same ∙ g)
        here (suc k) n f g = told.1 k n f g

    named : (m : LaidMethod) (ms : List LaidMethod) → IsSaid m → (y : Method)
        → method_at files m.member ≡ Some y → (b : Bool) → same_member y.id x.id ≡ b → IsTold ms → Told m ms b
    named m ms one y e true f rest =
        let same : y ≡ x = one_of_name y x (of_file files m.member y e) file ((same_member-Decides y.id x.id).0 f) in
        inl (one y e ∙ ap code same)
    named m ms one y e false f rest = later m ms (λ g. no (same_some (sym e ∙ g))) rest
      where
        no : y ≡ x → ⊥
        no g = let yes = sym f ∙ (same_member-Decides y.id x.id).1 (ap (λ (v : Method). v.id) g) in absurd cc

    chosen : (m : LaidMethod) (ms : List LaidMethod) → IsSaid m → (o : Option Method)
        → method_at files m.member ≡ o → IsTold ms → Told m ms (is_method_of x.id o)
    chosen m ms one None e rest = later m ms (λ g. (let no = sym e ∙ g in absurd cc)) rest
    chosen m ms one (Some y) e rest = named m ms one y e (same_member y.id x.id) refl rest

    pub told_among : (ms : List LaidMethod) → ((k : ℕ) (m : LaidMethod) → slice_get ms k ≡ Some m → IsSaid m)
        → IsTold ms
    told_among [] each = inr (refl, λ k m e f. none k m e)
      where
        none : (k : ℕ) (m : LaidMethod) → slice_get [] k ≡ Some m → ⊥
        none k m e = cc
    told_among (m ∷ ms) each = chosen m ms (each 0 m refl) (method_at files m.member) refl
        (told_among ms (λ k n e. each (suc k) n e))

    -- a method that none of them is has no instruction
    pub none_among : (ms : List LaidMethod) → ((k : ℕ) (m : LaidMethod) (y : Method) → slice_get ms k ≡ Some m
        → method_at files m.member ≡ Some y → y.id ≡ x.id → ⊥) → laid_from files near ms x ≡ code_of files near no_rows
        x
    none_among [] none = refl
    none_among (m ∷ ms) none = by (method_at files m.member) refl (none_among ms (λ k n y e f. none (suc k) n y e f))
      where
        one : (y : Method) → method_at files m.member ≡ Some y → (b : Bool) → same_member y.id x.id ≡ b
            → laid_from files near ms x ≡ code_of files near no_rows x → Choice m ms b ≡ code_of files near no_rows x
        one y e true f rest = absurd (none 0 m y refl e ((same_member-Decides y.id x.id).0 f))
        one y e false f rest = rest

        by : (o : Option Method) → method_at files m.member ≡ o → laid_from files near ms x ≡ code_of files near no_rows
            x → Choice m ms (is_method_of x.id o) ≡ code_of files near no_rows x
        by None e rest = rest
        by (Some y) e rest = one y e (same_member y.id x.id) refl rest

-- ---- no instruction is reached without rows

bare_same : (r : Resolution) (tree : CodeTree) (nargs : ℕ) (insns : List JInsn)
    → narrow_method {A = State} r tree nargs insns [] ≡ narrow_method {A = ℕ} r tree nargs insns []
bare_same r tree nargs [] = refl
bare_same r tree nargs (i ∷ insns) = refl

pub bare_code : (files : Files) (near : List MemberId) (x : Method) → code_of {A = State} files near (λ y. []) x
    ≡ code_of files near no_rows x
bare_code files near x =
    let id = x.id in
    let flags = flags_of (method_found (all_classes files) id) in
    bare_same (with_pairs (resolution files near id.class) (read_of x flags) []) (tree_of x)
    (argument_words flags id.desc)
    x.insns
