-- The tables of a package by modes that breaks no rule, by which its components behave as its class files.
use Rattle.std.proofs.Common.{◌≡◌, ℕ, refl, sym, ap, subst, ◌∙◌, Bool, true, false, List, []}
use Rattle.std.specs.Prelude.{not, ◌&&◌, Option, Some, None, slice_get, if◌then◌else◌}
use Rattle.cjc_classes.specs.JvmSemantics.Linked.{Method}
use Rattle.cjc_classes.specs.JvmSemantics.OnePackage.{is_initialiser, method_at, method_by}
use Rattle.cjc_classes.specs.List.Listed.{ListTree}
use Rattle.cjc_classes.specs.Narrow.Rows.Selected.{near_fields}
use Rattle.cjc_classes.specs.Types.Flow.{Body, body_of}
use Rattle.cjc_classes.specs.Types.declared.state.State.{State}
use Rattle.cjc_components.specs.Bytecode.declared.method_code.MethodCode.{MethodCode}
use Rattle.cjc_components.specs.Package.{LaidMethod, Package, pool}
use Rattle.cjc_int_components.specs.Modes.{Tables, is_int}
use Rattle.cjc_int_narrow.specs.LowerIntMode.Modes.{binds}
use Rattle.cjc_int_narrow.specs.LowerIntMode.declared.modes.Mode.{Mode}
use Rattle.cjc_int_narrow.specs.LowerIntMode.declared.modes.Mode.TheVariants as modes
use Rattle.cjc_int_theorem.specs.Alike.{AreRunBy, BehavesByModes, IsPassedByModes}
use Rattle.cjc_int_theorem.specs.ByModes.{IsConvertedByModes}
use Rattle.cjc_int_theorem.specs.Tabled.{AreTabledByModes, IsOwnMethod, IsTabledByMode, tabled_int, tabled_short}
use Rattle.cjc_int_theorem.proofs.IntTables.{int_listed, short_listed}
use Rattle.cjc_int_theorem.proofs.Methods.{are_methods, free}
use Rattle.cjc_int_theorem.proofs.Narrowed.{is_narrowed}
use Rattle.cjc_int_theorem.proofs.SameCode.{stands_there}
use Rattle.cjc_narrow_proof.specs.Runs.Tables.{Tables as RunTables}
use Rattle.cjc_shape.specs.Flow.Tests.Breaches.{NoBreach}
use Rattle.cjc_shape_proof.proofs.WrittenLaws.Coded.{ComesFrom, IsCoded, comes_from, from_abstract, from_code}
use Rattle.cjc_shape_proof.proofs.WrittenLaws.Coded.{from_none}
use Rattle.cjc_theorem.proofs.SoundRuns.Coded.{among, coded, is_among, of_classes}
use Rattle.cjc_vtable.specs.Fixpoint.Tables.{HasRow}
use Rattle.cjc_world.specs.Files.{Files}

module _ (files : Files) (t : Tables) where
  abbrev is_first : Method → Bool
  is_first m = is_initialiser (let id = m.id in id.name)

  -- a method of the package with code, which is no initialiser
  is_own : Method → Bool
  is_own m = is_among m (of_classes files.classes) && not (is_first m)

  if_own : Bool → Method → List (Option State)
  if_own b m = if b then t.types m else []

  -- tables of these methods alone
  pub own_tables : RunTables
  own_tables = record { types = λ m. if_own (is_own m) m; ranges = t.ranges }

  pub own_mode : Method → Bool
  own_mode m = is_own m && is_int (t.mode m)

  own_so : (m : Method) → IsOwnMethod files m → is_own m ≡ true
  unfolding is_own
  own_so m o =
      let own = o.own in
      ap (λ b. b && not (is_first m)) (among m files.classes own.number own.place o.class o.method o.tree own.is_class
      own.is_method o.is_code o.is) ∙ ap not (ap (λ (x : Method). is_first x) o.is ∙ o.plain)

  so_own : (m : Method) → is_own m ≡ true → IsOwnMethod files m
  unfolding is_own
  so_own m e = by (is_among m (of_classes files.classes)) (is_first m) refl refl e
    where
      by : (a b : Bool) → is_among m (of_classes files.classes) ≡ a → is_first m ≡ b → (a && not b) ≡ true
          → IsOwnMethod files m
      by true false f g e = let c = coded m files.classes f in record {
        class = c.class;
        method = c.method;
        tree = c.tree;
        own = record { number = c.number; place = c.place; is_class = c.is_class; is_method = c.is_method };
        plain = sym (ap (λ (x : Method). is_first x) c.is) ∙ g;
        is_code = c.is_code;
        is = c.is;
      }
      by true true f g e = absurd cc
      by false b f g e = absurd cc

  pub are_run : AreRunBy files t own_tables own_mode
  unfolding own_tables own_mode if_own
  are_run = record {
    types = λ x o. ap (λ b. if_own b x) (own_so x o);
    ranges = λ x o. refl;
    modes = λ x o. ap (λ b. b && is_int (t.mode x)) (own_so x o);
    others = λ x none. no_rows x none (is_own x) refl;
    only = λ x at s row. rows_own x at s (is_own x) refl row;
    only_int = λ x e. int_own x (is_own x) refl e;
  }
    where
      no_rows : (x : Method) → (IsOwnMethod files x → ⊥) → (b : Bool) → is_own x ≡ b → if_own b x ≡ []
      no_rows x none true e = absurd (none (so_own x e))
      no_rows x none false e = refl

      rows_own : (x : Method) (at : ℕ) (s : State) (b : Bool) → is_own x ≡ b → HasRow (if_own b x) at s
          → IsOwnMethod files x
      rows_own x at s true e row = so_own x e
      rows_own x at s false e row = let none = row in absurd cc

      int_own : (x : Method) (b : Bool) → is_own x ≡ b → (b && is_int (t.mode x)) ≡ true → IsOwnMethod files x
      int_own x true e f = so_own x e
      int_own x false e f = absurd cc

-- ---- a package

module _ (list : ListTree) (codes : List MethodCode) (t : Tables) (p : Package) (passed : IsPassedByModes list codes t
    p) where
  is : IsConvertedByModes list codes t p
  is = passed.converted

  module _ (tables : RunTables) (in_int_mode : Method → Bool) (are : AreRunBy p.files t tables in_int_mode) where
    module _ (k : ℕ) (m : LaidMethod) (e : slice_get p.methods k ≡ Some m) (c : IsCoded p.files codes m) (own : IsOwnMethod p.files (method_by c.class
        c.method (Some c.tree))) where
      abbrev x : Method
      x = method_by c.class c.method (Some c.tree)

      abbrev body : Body
      body = body_of c.class c.method c.tree (let d = c.code in d.insns)

      by_mode : (q : Mode) → t.mode x ≡ q → NoBreach (binds q) body (t.types x) (t.ranges x)
          → IsTabledByMode p.files codes tables in_int_mode x
      by_mode modes.Int mode pass =
          let h = int_listed list codes t p is c.code c.class c.method c.tree c.of c.listed c.plain tables in_int_mode
          are mode pass in
          tabled_int (are.modes x own ∙ ap is_int mode) h.0 h.1
      by_mode modes.Short mode pass =
          let off = free list codes t p is k m e c mode in
          let table = passed.tables c.code c.class c.method c.tree c.of c.listed in
          let h = short_listed list codes t p is c.code c.class c.method c.tree c.of c.listed c.plain tables in_int_mode
          are off table.0 table.1 (λ place rule breach. pass place rule refl breach) in
          tabled_short (are.modes x own ∙ ap is_int mode) h.0 h.1 h.2

    pub tabled : (x : Method) → IsOwnMethod p.files x → IsTabledByMode p.files codes tables in_int_mode x
    tabled x o = by (comes_from list codes p is.checked (are_methods list codes t p is) k m there)
      where
        stands : (k : ℕ) × (m : LaidMethod) × (slice_get p.methods k ≡ Some m) × (method_at p.files m.member
            ≡ Some (method_by o.class o.method (Some o.tree)))
        stands = let own = o.own in stands_there list codes t p is own.number own.place o.class o.method o.tree
            own.is_class own.is_method o.is_code o.plain

        k : ℕ
        k = stands.0

        m : LaidMethod
        m = stands.1

        there : slice_get p.methods k ≡ Some m
        there = stands.2

        same_method : {a b : Method} → Some a ≡ Some b → a ≡ b
        same_method e = cc

        by : ComesFrom p.files codes m → IsTabledByMode p.files codes tables in_int_mode x
        by (from_none none) = let no : None ≡ Some (method_by o.class o.method (Some o.tree)) = sym none
            ∙ stands.3 in absurd cc
        by (from_abstract class method known) =
            let two : method_by class method None ≡ method_by o.class o.method (Some o.tree) =
            same_method (sym known ∙ stands.3) in
            let no : true ≡ false = ap (λ (y : Method). y.is_abstract) two in
            absurd cc
        by (from_code c) =
            let same : method_by c.class c.method (Some c.tree) ≡ x = same_method (sym c.known ∙ stands.3) ∙ sym o.is in
            let own = subst (IsOwnMethod p.files) (sym same) o in
            subst (IsTabledByMode p.files codes tables in_int_mode) same
            (by_mode k m there c own (t.mode (method_by c.class c.method (Some c.tree))) refl
            (passed.passes c.code c.class c.method c.tree c.of c.listed c.plain))

    pub are_tabled : AreTabledByModes p.files codes tables in_int_mode
    are_tabled = record { own = tabled; only = are.only; only_int = are.only_int }

  pub behaves : BehavesByModes list codes t p
  behaves = record {
    converted = passed.converted;
    sends = passed.sends;
    tables = own_tables p.files t;
    in_int_mode = own_mode p.files t;
    are_its = are_run p.files t;
    narrowed = is_narrowed list codes t p passed.converted (near_fields (pool p)) (own_tables p.files t)
        (own_mode p.files t) (are_tabled (own_tables p.files t) (own_mode p.files t) (are_run p.files t));
  }
