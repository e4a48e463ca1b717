-- The rows of each method of a package, found by its name: one function for all of them, by the table of each.
use Rattle.std.proofs.Common.{◌≡◌, ℕ, zero, suc, ◌≤◌, refl, sym, ap, subst, ◌∙◌, arith, Bool, true, false, ◌&&◌, List}
use Rattle.std.proofs.Common.{[], ◌∷◌, length}
use Rattle.std.specs.Prelude.{All, Option, Some, None, map, option_map, position, slice_get, if◌then◌else◌, Result, Ok}
use Rattle.std.specs.Str.{bytes_eq}
use Rattle.std.proofs.lemmas.Option.{slice_get-map}
use Rattle.cjc_exported.specs.Bytes.declared.breaks.BrokenAt.{BrokenAt}
use Rattle.cjc_exported.specs.Bytes.declared.fault.MemberId.{MemberId}
use Rattle.cjc_exported.specs.ClassFile.Code.{CodeTree}
use Rattle.cjc_exported.specs.ClassFile.declared.tree.ClassTree.{ClassTree}
use Rattle.cjc_exported.specs.ClassFile.declared.tree.MethodTree.{MethodTree}
use Rattle.cjc_methods.specs.ClassOrder.Classes.Numbers.{class_count}
use Rattle.cjc_methods.specs.JvmSemantics.Linked.{Method}
use Rattle.cjc_methods.specs.JvmSemantics.OnePackage.{method_by}
use Rattle.cjc_methods.specs.Bytecode.Decoded.{decoding_at}
use Rattle.cjc_methods.specs.Bytecode.declared.insn.JInsn.{JInsn}
use Rattle.cjc_methods.specs.Bytecode.declared.method_code.MethodCode.{MethodCode}
use Rattle.cjc_methods.specs.Ready.{AreRows, states}
use Rattle.cjc_narrow_proof.proofs.LawsLaws.Own.{class_by_name, first_here, own_kept}
use Rattle.cjc_methods.specs.Types.declared.state.State.{State}
use Rattle.cjc_methods.specs.Types.declared.table.TypeTable.{TypeTable}
use Rattle.cjc_methods.specs.Types.Flow.{body_of}
use Rattle.cjc_methods.specs.Types.Tables.{IsMethodOf, IsTypeTable, rows_of}
use Rattle.cjc_narrow_proof.proofs.TypesLeast.{one_least}
use Rattle.cjc_exported.specs.World.Classes.{Class, all_classes, class_named, declared, method_of_class}
use Rattle.cjc_exported.specs.World.Files.{Files}
use Rattle.cjc_exported.specs.World.Lookup.{is_called}
use Rattle.cjc_exported.specs.World.Rules.{breaks, is_twice}
use Rattle.cjc_methods.proofs.BytesLists.{name_is, bytes_true}
use Rattle.cjc_methods.proofs.BytesBools.{both_front, both_back}

-- ---- the definition

-- the class and the method that a code is of
pub record Own : Type 0 where
  pub class : ClassTree
  pub method : MethodTree
  pub tree : CodeTree

own_code : ClassTree → MethodTree → Option CodeTree → Option Own
own_code c m None = None
own_code c m (Some tree) = Some (record { class = c; method = m; tree = tree })

own_method : ClassTree → Option MethodTree → Option Own
own_method c None = None
own_method c (Some m) = own_code c m m.code

own_class : (method : ℕ) → Option ClassTree → Option Own
own_class i None = None
own_class i (Some c) = own_method c (slice_get c.methods i)

pub own : Files → MethodCode → Option Own
own files code = own_class code.method (slice_get files.classes code.class)

pub is_named : Option Own → MemberId → Bool
is_named None id = false
is_named (Some o) id = let class = o.class in let m = o.method in bytes_eq class.name id.class
    && (bytes_eq m.name id.name && bytes_eq m.desc id.desc)

rows_at : Option Own → MethodCode → TypeTable → List (Option State)
rows_at None code table = []
rows_at (Some o) code table = states code o.class o.method o.tree table

pub rows_in : Files → List MethodCode → List TypeTable → Method → List (Option State)
rows_in files [] tables m = []
rows_in files (c ∷ cs) [] m = []
rows_in files (c ∷ cs) (t ∷ ts) m = if is_named (own files c) m.id then rows_at (own files c) c t
    else rows_in files cs ts m

-- ---- what it gives

own_of : (files : Files) (code : MethodCode) (class : ClassTree) (method : MethodTree) (tree : CodeTree)
    → IsMethodOf files code class method tree → own files code ≡ Some (record {
      class = class;
      method = method;
      tree = tree;
    })
unfolding own own_class own_method own_code
own_of files code class method tree is = ap (own_class code.method) is.is_class ∙ ap (own_method class) is.is_method
    ∙ ap (own_code class method) is.is_code

module _ (files : Files) (list : List ℕ) (listed : length files.classes ≤ class_count files.lines)
    (unbroken : breaks list files ≡ []) where
  abbrev w : List Class
  w = all_classes files

  -- one class of a name
  same_class : (n k : ℕ) (c d : ClassTree) → slice_get files.classes n ≡ Some c → slice_get files.classes k ≡ Some d
      → c.name ≡ d.name → n ≡ k
  same_class n k c d e f names =
      let one = class_by_name files list listed unbroken n c e in
      let other = class_by_name files list listed unbroken k d f in
      let is : declared n c ≡ declared k d = same (sym one ∙ ap (class_named w) names ∙ other) in
      ap (λ (v : Class). v.number) is
    where
      same : {A : Type 0} {x y : A} → Some x ≡ Some y → x ≡ y
      same e = cc

  -- one method of a name and a descriptor
  same_method : (n i j : ℕ) (c : ClassTree) (a b : MethodTree) → slice_get files.classes n ≡ Some c
      → slice_get c.methods i ≡ Some a → slice_get c.methods j ≡ Some b → a.name ≡ b.name → a.desc ≡ b.desc → i ≡ j
  unfolding is_twice
  same_method n i j c a b e f g names descs =
      let kept = own_kept files list listed unbroken n c e in
      let at : (k : ℕ) (m : MethodTree) → slice_get c.methods k ≡ Some m
      → position (λ q. is_called m.name m.desc q) (map method_of_class c.methods) ≡ Some k =
      λ k m h. first_here (λ q. is_called m.name m.desc q) (map method_of_class c.methods) k (method_of_class m)
      (slice_get-map method_of_class c.methods k ∙ ap (option_map method_of_class) h) (called m.name m.desc)
      (kept.methods k m h).0 in
      let one = at i a f in
      let other = at j b g in
      let same : position (λ q. is_called a.name a.desc q) (map method_of_class c.methods)
      ≡ position (λ q. is_called b.name b.desc q) (map method_of_class c.methods) =
      ap (λ x. position (λ q. is_called x a.desc q) (map method_of_class c.methods)) names
      ∙ ap (λ x. position (λ q. is_called b.name x q) (map method_of_class c.methods)) descs in
      equal (sym one ∙ same ∙ other)
    where
      called : (name desc : List ℕ) → (bytes_eq name name && bytes_eq desc desc) ≡ true
      called name desc = ap (λ b. b && bytes_eq desc desc) (name_is name) ∙ name_is desc

      equal : Some i ≡ Some j → i ≡ j
      equal e = cc

  module _ (code : MethodCode) (class : ClassTree) (method : MethodTree) (tree : CodeTree) (is : IsMethodOf files code
      class method tree) where
    abbrev id : MemberId
    id = record { class = class.name; name = method.name; desc = method.desc }

    pub own_named : is_named (own files code) id ≡ true
    unfolding is_named
    own_named = ap (λ o. is_named o id) (own_of files code class method tree is)
        ∙ ap (λ b. b && (bytes_eq method.name method.name && bytes_eq method.desc method.desc)) (name_is class.name)
        ∙ ap (λ b. b && bytes_eq method.desc method.desc) (name_is method.name) ∙ name_is method.desc

    -- another code of the same name is of the same method
    same_code : (c : MethodCode) (d : ClassTree) (m : MethodTree) (t : CodeTree) → IsMethodOf files c d m t
        → d.name ≡ class.name → m.name ≡ method.name → m.desc ≡ method.desc
        → (m ≡ method) × (body_of d m t c.insns ≡ body_of class method tree code.insns)
    same_code c d m t of names own_names descs = by n_same
      where
        n_same : c.class ≡ code.class
        n_same = same_class c.class code.class d class of.is_class is.is_class names

        some : {A : Type 0} {x y : A} → Some x ≡ Some y → x ≡ y
        some e = cc

        right : (r : Result (List JInsn) BrokenAt) (x y : List JInsn) → r ≡ Ok x → r ≡ Ok y → x ≡ y
        right r x y e f = let g = sym e ∙ f in cc

        by : c.class ≡ code.class → (m ≡ method) × (body_of d m t c.insns ≡ body_of class method tree code.insns)
        by e =
            let classes : d ≡ class = some (sym of.is_class ∙ ap (slice_get files.classes) e ∙ is.is_class) in
            let there : slice_get class.methods c.method ≡ Some m =
            ap (λ (v : ClassTree). slice_get v.methods c.method) (sym classes) ∙ of.is_method in
            let places : c.method ≡ code.method = same_method code.class c.method code.method class m method
            is.is_class there is.is_method own_names descs in
            let methods : m ≡ method = some (sym there ∙ ap (slice_get class.methods) places ∙ is.is_method) in
            let trees : t ≡ tree = some (sym of.is_code ∙ ap (λ (v : MethodTree). v.code) methods ∙ is.is_code) in
            let insns : c.insns ≡ code.insns = right (decoding_at class code.method) c.insns code.insns
            (sym (ap (decoding_at class) places) ∙ sym (ap (λ v. decoding_at v c.method) classes)
            ∙ of.insns) is.insns in
            let bodies : body_of d m t c.insns ≡ body_of class method tree code.insns =
            ap (λ v. body_of v m t c.insns) classes ∙ ap (λ v. body_of class v t c.insns) methods
            ∙ ap (λ v. body_of class method v c.insns) trees ∙ ap (body_of class method tree) insns in
            (methods, bodies)

    -- what is named so is of this name
    same_names : (c : MethodCode) (d : ClassTree) (m : MethodTree) (t : CodeTree) → IsMethodOf files c d m t
        → is_named (own files c) id ≡ true → (d.name ≡ class.name) × (m.name ≡ method.name) × (m.desc ≡ method.desc)
    unfolding is_named
    same_names c d m t of g =
        let named : (bytes_eq d.name class.name && (bytes_eq m.name method.name && bytes_eq m.desc method.desc)) ≡ true
        = sym (ap (λ x. is_named x id) (own_of files c d m t of)) ∙ g in
        let members = both_back (bytes_eq d.name class.name) (bytes_eq m.name method.name
        && bytes_eq m.desc method.desc) named in (
          bytes_true d.name class.name (both_front (bytes_eq d.name class.name) (bytes_eq m.name method.name
              && bytes_eq m.desc method.desc) named),
          bytes_true m.name method.name (both_front (bytes_eq m.name method.name) (bytes_eq m.desc method.desc)
              members),
          bytes_true m.desc method.desc (both_back (bytes_eq m.name method.name) (bytes_eq m.desc method.desc) members),
        )

    -- so a code that is named so is of this method
    pub named_code : (c : MethodCode) (d : ClassTree) (m : MethodTree) (t : CodeTree) → IsMethodOf files c d m t
        → is_named (own files c) id ≡ true
        → (m ≡ method) × (body_of d m t c.insns ≡ body_of class method tree code.insns)
    named_code c d m t of g = let n = same_names c d m t of g in same_code c d m t of n.0 n.1 n.2

    module _ (table : TypeTable) (is_table : IsTypeTable w (body_of class method tree code.insns) table) where
      -- another code of the same name has the same rows
      same_rows : (c : MethodCode) (d : ClassTree) (m : MethodTree) (t : CodeTree) (q : TypeTable)
          → IsMethodOf files c d m t → IsTypeTable w (body_of d m t c.insns) q → is_named (own files c) id ≡ true
          → states c d m t q ≡ states code class method tree table
      same_rows c d m t q of is_q g =
          let bodies = (named_code c d m t of g).1 in
          ap (λ b. rows_of b q) bodies
          ∙ one_least (body_of class method tree code.insns) (rows_of (body_of class method tree code.insns) q)
          (rows_of (body_of class method tree code.insns) table)
          (subst (λ b. IsTypeTable w b q) bodies is_q).stands.least is_table.stands.least

      rows_are : (codes : List MethodCode) (tables : List TypeTable) → All (λ c. (d : ClassTree) × (m : MethodTree)
          × (t : CodeTree) × IsMethodOf files c d m t) codes
          → ((k : ℕ) (c : MethodCode) (q : TypeTable) → slice_get codes k ≡ Some c → slice_get tables k ≡ Some q
          → (d : ClassTree) (m : MethodTree) (t : CodeTree) → IsMethodOf files c d m t
          → IsTypeTable w (body_of d m t c.insns) q)
          → (k : ℕ) → slice_get codes k ≡ Some code → slice_get tables k ≡ Some table
          → rows_in files codes tables (method_by class method (Some tree)) ≡ states code class method tree table
      unfolding rows_in is_named rows_at
      rows_are [] tables of each k e f = cc
      rows_are (c ∷ cs) [] of each k e f = cc
      rows_are (c ∷ cs) (q ∷ qs) of each k e f =
          by (is_named (own files c) id) refl k e f (rows_are cs qs (λ j x l. of (suc j) x (omega arith))
          (λ j x y g h. each (suc j) x y g h))
        where
          here : is_named (own files c) id ≡ true → rows_at (own files c) c q ≡ states code class method tree table
          here g =
              let o = of 0 c (omega arith) in
              ap (λ x. rows_at x c q) (own_of files c o.0 o.1 o.2 o.3)
              ∙ same_rows c o.0 o.1 o.2 q o.3 (each 0 c q refl refl o.0 o.1 o.2 o.3) g

          by : (b : Bool) → is_named (own files c) id ≡ b → (k : ℕ) → slice_get (c ∷ cs) k ≡ Some code
              → slice_get (q ∷ qs) k ≡ Some table
              → ((k : ℕ) → slice_get cs k ≡ Some code → slice_get qs k ≡ Some table
              → rows_in files cs qs (method_by class method (Some tree)) ≡ states code class method tree table)
              → (if b then rows_at (own files c) c q else rows_in files cs qs (method_by class method (Some tree)))
              ≡ states code class method tree table
          by true g k e f rest = here g
          by false g zero e f rest = let is_code : c ≡ code = cc in let named = ap (λ v. is_named (own files v) id)
              is_code ∙ own_named in cc
          by false g (suc k) e f rest = rest k e f

  -- of all methods
  pub are_rows : (codes : List MethodCode) (tables : List TypeTable) → All (λ c. (d : ClassTree) × (m : MethodTree)
      × (t : CodeTree) × IsMethodOf files c d m t) codes
      → ((k : ℕ) (c : MethodCode) (q : TypeTable) → slice_get codes k ≡ Some c → slice_get tables k ≡ Some q
      → (d : ClassTree) (m : MethodTree) (t : CodeTree) → IsMethodOf files c d m t
      → IsTypeTable w (body_of d m t c.insns) q)
      → AreRows files codes tables (rows_in files codes tables)
  are_rows codes tables of each k code table e f class method tree is = rows_are code class method tree is table
      (each k code table e f class method tree is) codes tables of each k e f
