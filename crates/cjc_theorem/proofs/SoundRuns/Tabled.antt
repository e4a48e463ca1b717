-- Tables of a package whose methods are ready to be written: least ones for each method of a class file with code that
-- is no initialiser, and no
-- row for any other.
use Rattle.std.proofs.Common.{◌≡◌, ℕ, ◌+◌, ◌<◌, refl, sym, ap, subst, ◌∙◌, ⊎_elim, arith, Bool, true, false, List, []}
use Rattle.std.proofs.Common.{length}
use Rattle.std.specs.Prelude.{not, ◌&&◌, IfSome, Option, Some, slice_get, if◌then◌else◌, ℤ}
use Rattle.std.proofs.lemmas.Option.{get_or_from_slice_get, slice_get_cases, slice_get_within}
use Rattle.cjc_jvm_semantics.specs.Linked.{Method}
use Rattle.cjc_jvm_semantics.specs.OnePackage.{is_initialiser, method_by}
use Rattle.cjc_bytes.specs.declared.fault.MemberId.{MemberId}
use Rattle.cjc_bytes.proofs.Gets.{all_at}
use Rattle.cjc_world.specs.ClassFile.Code.{CodeTree}
use Rattle.cjc_world.specs.ClassFile.Fits.{ClassFits, CodeFits, MethodFits}
use Rattle.cjc_world.specs.ClassFile.declared.tree.ClassTree.{ClassTree}
use Rattle.cjc_world.specs.ClassFile.declared.tree.MethodTree.{MethodTree}
use Rattle.cjc_components.specs.Bytecode.Decoded.{decoded, insns_of, of_code, of_method}
use Rattle.cjc_components.specs.Bytecode.PackageCodes.{all_codes}
use Rattle.cjc_components.specs.Bytecode.declared.method_code.MethodCode.{MethodCode}
use Rattle.cjc_vtable.specs.Fixpoint.Tables.{HasRow}
use Rattle.cjc_shape_proof.specs.LowerMethods.Ready.{AreReady, AreRows}
use Rattle.cjc_token_proof.specs.Narrow.Rows.Resolved.{constant_named}
use Rattle.cjc_narrow_proof.specs.Laws.Left.{HasLeast, IsReadMethod}
use Rattle.cjc_narrow_proof.specs.Runs.Tables.{Tables, body_in}
use Rattle.cjc_shape_proof.specs.Intervals.Frames.{RangeState}
use Rattle.cjc_shape_proof.specs.Intervals.Tables.{IsLeastRanges, Passes}
use Rattle.cjc_components.specs.Bytecode.ReadLaws.Members.{IsReadClass}
use Rattle.cjc_theorem.proofs.SoundRuns.Coded.{IsCoded, among, coded, is_among, of_classes}
use Rattle.cjc_theorem.proofs.SoundRuns.Listed.{in_classes}
use Rattle.cjc_token_proof.specs.Types.declared.state.State.{State}
use Rattle.cjc_token_proof.specs.Types.declared.table.TypeTable.{TypeTable}
use Rattle.cjc_token_proof.specs.Types.Flow.{Body, body_of}
use Rattle.cjc_token_proof.specs.Types.Tables.{IsMethodOf, IsTypeTable, rows_of}
use Rattle.cjc_vtable.proofs.Filed.{Has, has-get}
use Rattle.cjc_world.specs.Classes.{Class, all_classes}
use Rattle.cjc_world.specs.Files.{Files}

-- the code of a method, and its table
pub record IsTabledCode (files : Files) (codes : List MethodCode) (types : List TypeTable) (class : ClassTree)
    (method : MethodTree) (tree : CodeTree) : Type 0 where
  pub place : ℕ
  pub code : MethodCode
  pub table : TypeTable
  pub is_code : slice_get codes place ≡ Some code
  pub is_table : slice_get types place ≡ Some table
  pub of_package : IsMethodOf files code class method tree

module _ (files : Files) (codes : List MethodCode) (types : List TypeTable) (ready : AreReady files codes types)
    (rows : Method → List (Option State)) (are : AreRows files codes types rows)
    (least : (b : Body) (constant : MemberId → Option ℤ) (types : List (Option State))
    → (ranges : List (Option RangeState)) × IsLeastRanges b constant types ranges) where
  abbrev w : List Class
  w = all_classes files

  abbrev constant : MemberId → Option ℤ
  constant = constant_named files w

  -- ---- the tables

  abbrev is_first : Method → Bool
  is_first m = is_initialiser (let id = m.id in id.name)

  is_own : Method → Bool
  is_own m = is_among m (of_classes files.classes) && not (is_first m)

  if_own : Bool → Method → List (Option State)
  if_own b m = if b then rows m else []

  pub types_in : Method → List (Option State)
  types_in m = if_own (is_own m) m

  pub ranges_in : Method → List (Option RangeState)
  ranges_in m = (least (body_in files m) constant (types_in m)).0

  abbrev pub tables : Tables
  tables = record { types = types_in; ranges = ranges_in }

  -- ---- what they are

  -- the code of each method that has one
  pub tabled_code : (n i : ℕ) (class : ClassTree) (method : MethodTree) (tree : CodeTree) → slice_get files.classes n
      ≡ Some class → slice_get class.methods i ≡ Some method → method.code ≡ Some tree
      → IsTabledCode files codes types class method tree
  tabled_code n i class method tree e f g =
      let d = ready.decoded n i class method tree e f g in
      let code : MethodCode = record { class = n; method = i; insns = d.insns } in
      let zero_more : 0 + n ≡ n = omega arith in
      let listed = has-get code (all_codes files.classes) (subst (λ k. Has (record {
        class = k;
        method = i;
        insns = d.insns;
      }) (all_codes files.classes)) zero_more (in_classes method tree d.insns g 0 n i class
      files.classes e f d.decodes)) in
      let k = listed.0 in
      let there : slice_get codes k ≡ Some code = ap (λ cs. slice_get cs k) ready.codes_are ∙ listed.1 in
      let of : IsMethodOf files code class method tree = record {
        is_class = e;
        is_method = f;
        is_code = g;
        bytes = d.bytes;
        insns = ap (of_method class) f ∙ ap (of_code class method) g ∙ d.decodes;
      } in
      let within = slice_get_within codes k code there in
      let count = ready.count in
      ⊎_elim
      (λ found. record {
        place = k;
        code = code;
        table = found.0;
        is_code = there;
        is_table = found.2;
        of_package = of;
      })
      (λ past. absurd (let le = past.0 in omega (arith, le, within, count)))
      (slice_get_cases types k).1

  module _ (n i : ℕ) (class : ClassTree) (method : MethodTree) (tree : CodeTree) (is_class : slice_get files.classes n
      ≡ Some class) (is_method : slice_get class.methods i ≡ Some method) (is_tree : method.code ≡ Some tree)
      (plain : is_initialiser method.name ≡ false) where
    abbrev this : Method
    this = method_by class method (Some tree)

    -- rows of this method are those that its types stand for
    pub types_are : (code : MethodCode) (k : ℕ) (table : TypeTable) → slice_get codes k ≡ Some code
        → slice_get types k ≡ Some table → IsMethodOf files code class method tree
        → types_in this ≡ rows_of (body_of class method tree code.insns) table
    unfolding types_in if_own is_own
    types_are code k table e f of =
        ap (λ b. if_own (b && not (is_first this)) this) (among this files.classes n i class method tree is_class
        is_method is_tree refl) ∙ ap (λ b. if_own (not b) this) plain ∙ are k code table e f class method tree of

    body_is : (code : MethodCode) → IsMethodOf files code class method tree
        → body_in files this ≡ body_of class method tree code.insns
    unfolding decoded
    body_is code of =
        let insns : decoded class method tree ≡ code.insns = ap insns_of (sym (ap (of_code class method) of.is_code)
        ∙ sym (ap (of_method class) of.is_method) ∙ of.insns) in
        ap (λ flags. record {
          class = class.name;
          flags = flags;
          desc = method.desc;
          max_stack = tree.max_stack;
          max_locals = tree.max_locals;
          catches = tree.catches;
          insns = decoded class method tree;
        })
        (ready.found n i class method is_class is_method)
        ∙ ap (λ insns. record {
          class = class.name;
          flags = method.flags;
          desc = method.desc;
          max_stack = tree.max_stack;
          max_locals = tree.max_locals;
          catches = tree.catches;
          insns = insns;
        }) insns

    module _ (read : IsReadClass class) (fit : ClassFits class)
        (first : (code : MethodCode) → IsMethodOf files code class method tree → 0 < length tree.bytes
        → 0 < length code.insns)
        (pass : (k : ℕ) (code : MethodCode) → slice_get codes k ≡ Some code → IsMethodOf files code class method tree
        → (table : TypeTable) → IsTypeTable w (body_of class method tree code.insns) table
        → (ranges : List (Option RangeState)) → IsLeastRanges (body_of class method tree code.insns) constant
        (rows_of (body_of class method tree code.insns) table) ranges
        → Passes (body_of class method tree code.insns) (rows_of (body_of class method tree code.insns) table)
        ranges) where
      fitting : MethodFits method
      fitting = all_at MethodFits class.methods i method fit.methods is_method

      read_method : (code : MethodCode) → IsMethodOf files code class method tree → IsReadMethod code method
      read_method code of =
          let d = read.methods i method is_method in
          let few = fitting.desc in
          let tree_fits : CodeFits tree = subst (λ o. IfSome o CodeFits) is_tree fitting.code in
          record {
            types = d.0;
            is_desc = d.1;
            is_method = d.2;
            short = omega (arith, few);
            some = first code of tree_fits.some;
          }

      pub has_least : HasLeast files codes tables this
      unfolding ranges_in
      has_least =
          let t = tabled_code n i class method tree is_class is_method is_tree in
          let code = t.code in
          let body = body_of class method tree code.insns in
          let table_is = (ready.each t.place code t.table t.is_code t.is_table class method tree t.of_package).types in
          let same : types_in this ≡ rows_of body t.table = types_are code t.place t.table t.is_code t.is_table
          t.of_package in
          let ranges : IsLeastRanges body constant (types_in this) (ranges_in this) =
          subst (λ b. IsLeastRanges b constant (types_in this) (ranges_in this)) (body_is code t.of_package)
          (least (body_in files this) constant (types_in this)).1 in
          record {
            code = code;
            class = class;
            method = method;
            tree = tree;
            of_package = t.of_package;
            written = plain;
            listed = (
              t.place,
              slice_get_within codes t.place code t.is_code,
              get_or_from_slice_get codes t.place code
                  code t.is_code,
            );
            read = read_method code t.of_package;
            is = refl;
            table = t.table;
            is_table = table_is;
            types = same;
            ranges = ranges;
            passes = subst (λ ts. Passes body ts (ranges_in this)) (sym same) (pass t.place code t.is_code t.of_package
                t.table table_is (ranges_in this) (subst (λ ts. IsLeastRanges body constant ts (ranges_in this)) same
                ranges));
          }

  -- a method with a row is one of a class file, and no initialiser
  pub only_coded : (m : Method) (at : ℕ) (t : State) → HasRow (types_in m) at t → IsCoded files.classes m
      × (is_first m ≡ false)
  unfolding types_in if_own is_own
  only_coded m at t row = by (is_among m (of_classes files.classes)) (is_first m) refl refl row
    where
      by : (a b : Bool) → is_among m (of_classes files.classes) ≡ a → is_first m ≡ b
          → HasRow (if_own (a && not b) m) at t → IsCoded files.classes m × (is_first m ≡ false)
      by true false e f row = (coded m files.classes e, f)
      by true true e f row = let none = row in absurd cc
      by false b e f row = let none = row in absurd cc

  pub no_first : (m : Method) → is_first m ≡ true → types_in m ≡ []
  unfolding types_in if_own is_own
  no_first m e = by (is_among m (of_classes files.classes)) (is_first m) e
    where
      by : (a b : Bool) → b ≡ true → if_own (a && not b) m ≡ []
      by true true e = refl
      by true false e = absurd cc
      by false b e = refl
