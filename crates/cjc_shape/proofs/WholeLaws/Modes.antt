-- The modes of the methods of a package that breaks no rule of its files: what was found of them is what is told of
-- them.
use Rattle.std.proofs.Common.{◌≡◌, ◌⊎◌, ℕ, zero, suc, refl, sym, ap, subst, ◌∙◌, arith, inl, inr, Bool, true}
use Rattle.std.proofs.Common.{false, List, [], ◌∷◌, length}
use Rattle.std.specs.Prelude.{◌&&◌, ◌||◌, not, if◌then◌else◌, ℤ, Option, Some, slice_get}
use Rattle.std.specs.List.{Contains, list_any}
use Rattle.std.proofs.lemmas.Option.{slice_get_within}
use Rattle.cjc_exported.specs.Bytes.declared.fault.MemberId.{MemberId}
use Rattle.cjc_exported.specs.ClassFile.Code.{CodeTree}
use Rattle.cjc_exported.specs.ClassFile.declared.tree.ClassTree.{ClassTree}
use Rattle.cjc_exported.specs.ClassFile.declared.tree.MethodTree.{MethodTree}
use Rattle.cjc_exported.specs.World.declared.found.Found.{Found}
use Rattle.cjc_exported.specs.World.Classes.{all_classes}
use Rattle.cjc_exported.specs.World.Files.{Files}
use Rattle.cjc_int_narrow.specs.Constants.{constants_of}
use Rattle.cjc_intervals.specs.Frames.{RangeState}
use Rattle.cjc_intervals.specs.Tables.{IsLeastRanges}
use Rattle.cjc_judge.proofs.Moded.{mode_at, modes_sized}
use Rattle.cjc_judge.specs.declared.judged.Judged.{Judged}
use Rattle.cjc_judge.specs.Modes.{may_be_int}
use Rattle.cjc_judge.specs.Modes as found_modes
use Rattle.cjc_judge.specs.OutOfRange.{IsModeBy}
use Rattle.cjc_methods.proofs.BytesGets.{any_at, any_off, contained, contains_at, get_inside, item_has}
use Rattle.cjc_methods.proofs.Coded.{insns_are}
use Rattle.cjc_methods.proofs.Rooms.{not_in_int_mode}
use Rattle.cjc_methods.specs.Bytecode.PackageCodes.{all_codes}
use Rattle.cjc_methods.specs.Bytecode.declared.insn.JInsn.{JInsn}
use Rattle.cjc_methods.specs.Bytecode.declared.method_code.MethodCode.{MethodCode}
use Rattle.cjc_methods.specs.JvmSemantics.Linked.{Method}
use Rattle.cjc_methods.specs.JvmSemantics.OnePackage.{method_at, method_by}
use Rattle.cjc_methods.specs.List.Listed.{ListTree}
use Rattle.cjc_methods.specs.LowerIntPackage.Components.{is_in_int_mode}
use Rattle.cjc_methods.specs.LowerIntPackage.LowerIntMode.Modes.{IsInIntMode, IsModeOf}
use Rattle.cjc_methods.specs.LowerIntPackage.LowerIntMode.declared.modes.Mode.{Mode}
use Rattle.cjc_methods.specs.LowerIntPackage.LowerIntMode.declared.modes.Mode.TheVariants as modes
use Rattle.cjc_methods.specs.LowerIntPackage.Modes.{Tables, is_int}
use Rattle.cjc_methods.specs.Narrow.Rows.Package.{flags_of, read_of}
use Rattle.cjc_methods.specs.Narrow.Rows.Resolved.{method_found}
use Rattle.cjc_methods.specs.Ready.{AreReady, AreRows, AreTold, IsOwn}
use Rattle.cjc_methods.specs.Tokens.Members.{is_initialiser}
use Rattle.cjc_methods.specs.Types.declared.state.State.{State}
use Rattle.cjc_methods.specs.Types.Flow.{Body, body_of}
use Rattle.cjc_methods.specs.Types.Tables.{IsLeastTable, IsMethodOf, IsOfPackage, rows_of}
use Rattle.cjc_narrow_proof.proofs.TypesLeast.{one_least}
use Rattle.cjc_shape.proofs.PreparedLaws.Rows.{is_named, named_code, own, own_named}
use Rattle.cjc_shape.proofs.PreparedLaws.Sound.{are_ready, listed, world_unbroken}
use Rattle.cjc_shape.proofs.WholeLaws.Drafts.{least, rows}
use Rattle.cjc_shape.specs.Prepared.{IsSound}
use Rattle.cjc_shape.specs.Whole.Conversion.{AreShort, HasModes}

-- ---- one mode

pub one_mode : (ints : Bool) (b : Body) (types : List (Option State)) (ranges : List (Option RangeState)) (x y : Mode)
    → IsModeOf ints b types ranges x → IsModeOf ints b types ranges y → x ≡ y
one_mode ints b types ranges modes.Short modes.Short h k = refl
one_mode ints b types ranges modes.Short modes.Int h k = absurd (h k)
one_mode ints b types ranges modes.Int modes.Short h k = absurd (k h)
one_mode ints b types ranges modes.Int modes.Int h k = refl

-- the mode of a method that may not be in int mode
only_short : (b : Body) (types : List (Option State)) (ranges : List (Option RangeState)) (x : Mode)
    → IsModeOf false b types ranges x → x ≡ modes.Short
only_short b types ranges modes.Short h = refl
only_short b types ranges modes.Int h = let no = h.allowed in absurd cc

short_of : (x : Mode) → is_int x ≡ false → x ≡ modes.Short
short_of modes.Short e = refl
short_of modes.Int e = absurd cc

int_of : (x : Mode) → is_int x ≡ true → x ≡ modes.Int
int_of modes.Short e = absurd cc
int_of modes.Int e = refl

not_int : (x : Mode) → x ≡ modes.Short → is_int x ≡ false
not_int x e = ap is_int e

may_plain : (ints : Bool) (method : MethodTree) → is_initialiser method.name ≡ false → may_be_int ints method ≡ ints
may_plain ints method e = ap (λ b. ints && not b) e ∙ by ints
  where
    by : (b : Bool) → (b && true) ≡ b
    by true = refl
    by false = refl

may_not : (ints : Bool) (method : MethodTree) → is_initialiser method.name ≡ true → may_be_int ints method ≡ false
may_not ints method e = ap (λ b. ints && not b) e ∙ by ints
  where
    by : (b : Bool) → (b && false) ≡ false
    by true = refl
    by false = refl

-- ---- the mode of the method of a name

mode_in : Files → List MethodCode → List Mode → MemberId → Mode
mode_in files [] ms id = modes.Short
mode_in files (c ∷ cs) [] id = modes.Short
mode_in files (c ∷ cs) (m ∷ ms) id = if is_named (own files c) id then m else mode_in files cs ms id

-- where all codes of the name have this mode
mode_in_is : (files : Files) (code : MethodCode) (id : MemberId) (mode : Mode) → is_named (own files code) id ≡ true
    → (codes : List MethodCode) (ms : List Mode)
    → ((j : ℕ) (c : MethodCode) (m : Mode) → slice_get codes j ≡ Some c → slice_get ms j ≡ Some m
    → is_named (own files c) id ≡ true → m ≡ mode)
    → (k : ℕ) → slice_get codes k ≡ Some code → slice_get ms k ≡ Some mode → mode_in files codes ms id ≡ mode
unfolding mode_in
mode_in_is files code id mode named [] ms same k e f = cc
mode_in_is files code id mode named (c ∷ cs) [] same k e f = cc
mode_in_is files code id mode named (c ∷ cs) (m ∷ ms) same k e f =
    by (is_named (own files c) id) refl k e f (mode_in_is files code id mode named cs ms
    (λ j d x g h i. same (suc j) d x g h i))
  where
    by : (b : Bool) → is_named (own files c) id ≡ b → (k : ℕ) → slice_get (c ∷ cs) k ≡ Some code
        → slice_get (m ∷ ms) k ≡ Some mode
        → ((k : ℕ) → slice_get cs k ≡ Some code → slice_get ms k ≡ Some mode → mode_in files cs ms id ≡ mode)
        → (if b then m else mode_in files cs ms id) ≡ mode
    by true g k e f rest = same 0 c m refl refl g
    by false g zero e f rest = let is_code : c ≡ code = cc in let there = ap (λ v. is_named (own files v) id) is_code
        ∙ named in cc
    by false g (suc k) e f rest = rest k e f

-- ---- the package

module _ (list : ListTree) (files : List (List ℕ)) (judged : Judged) (is : IsSound list files judged) where
  abbrev world : Files
  world = judged.world

  abbrev ready : AreReady judged.world judged.codes judged.types
  ready = are_ready list files judged is

  -- ---- the modes that were found

  are_modes : found_modes.AreModes list.ints world judged.codes judged.modes
  are_modes = is.judged_by.modes refl

  pub modes_count : length judged.modes ≡ length judged.codes
  modes_count = modes_sized list.ints world judged.codes judged.modes are_modes

  mode_is : (k : ℕ) (code : MethodCode) (mode : Mode) → slice_get judged.codes k ≡ Some code
      → slice_get judged.modes k ≡ Some mode
      → (class : ClassTree) (method : MethodTree) (tree : CodeTree) → IsMethodOf world code class method tree
      → IsModeBy (may_be_int list.ints method) world (body_of class method tree code.insns) mode
  mode_is k code mode e f = mode_at list.ints world judged.codes judged.modes k code mode are_modes e f

  pub code_listed : (k : ℕ) (code : MethodCode) → slice_get judged.codes k ≡ Some code
      → Contains (all_codes world.classes) code
  code_listed k code e = contained (all_codes world.classes) k code (sym (ap (λ cs. slice_get cs k) ready.codes_are)
      ∙ e)

  pub listed_code : (code : MethodCode) → Contains (all_codes world.classes) code → (k : ℕ) × (slice_get judged.codes k
      ≡ Some code)
  listed_code code contains =
      let there = contains_at (all_codes world.classes) code contains in
      (there.0, ap (λ cs. slice_get cs there.0) ready.codes_are ∙ there.1)

  mode_there : (k : ℕ) (code : MethodCode) → slice_get judged.codes k ≡ Some code
      → (mode : Mode) × (slice_get judged.modes k ≡ Some mode)
  mode_there k code e =
      let within = slice_get_within judged.codes k code e in
      let count = modes_count in
      get_inside judged.modes k (omega (arith, within, count))

  -- ---- whether there is int mode

  -- a method was found to be in int mode
  abbrev pub any_int : Bool
  any_int = list_any is_int judged.modes

  -- where none was found
  pub all_short : any_int ≡ false → AreShort list.ints world
  all_short off code class method tree contains of plain types typed ranges ranged =
      let there = listed_code code contains in
      let k = there.0 in
      let found = mode_there k code there.1 in
      let short = short_of found.0 (any_off is_int judged.modes k found.0 off found.1) in
      let b = body_of class method tree code.insns in
      let is_mode = mode_is k code found.0 there.1 found.1 class method tree of types typed ranges ranged in
      subst (λ a. IsModeOf a b types ranges modes.Short) (may_plain list.ints method plain)
      (subst (λ x. IsModeOf (may_be_int list.ints method) b types ranges x) short is_mode)

  -- where none is, a method that may be in int mode is in short mode
  pub in_short_mode : AreShort list.ints world → (k : ℕ) (code : MethodCode) → slice_get judged.codes k ≡ Some code
      → (class : ClassTree) (method : MethodTree) (tree : CodeTree) → IsMethodOf world code class method tree
      → (types : List (Option State)) → IsLeastTable (body_of class method tree code.insns) types
      → (ranges : List (Option RangeState))
      → IsLeastRanges (body_of class method tree code.insns) (constants_of world) types ranges
      → IsModeOf (may_be_int list.ints method) (body_of class method tree code.insns) types ranges modes.Short
  in_short_mode short k code is_code class method tree of types typed ranges ranged = by (is_initialiser method.name)
      refl
    where
      by : (first : Bool) → is_initialiser method.name ≡ first
          → IsModeOf (may_be_int list.ints method) (body_of class method tree code.insns) types ranges modes.Short
      by true e = λ int. (let yes = int.allowed in let no = may_not list.ints method e in absurd cc)
      by false e = subst (λ a. IsModeOf a (body_of class method tree code.insns) types ranges modes.Short)
          (sym (may_plain list.ints method e))
          (short code class method tree (code_listed k code is_code) of e types typed ranges ranged)

  module _ (t : Tables) (has : HasModes list.ints world t) where
    -- ---- what is told is what was found

    rows_told : AreRows world judged.codes judged.types t.types
    rows_told k code table is_code is_table class method tree of =
        let b = body_of class method tree code.insns in
        one_least b (t.types (method_by class method (Some tree))) (rows_of b table)
        (has.least code class method tree (code_listed k code is_code) of).0
        (ready.each k code table is_code is_table class method tree of).types.stands.least

    pub mode_told : (k : ℕ) (code : MethodCode) (mode : Mode) → slice_get judged.codes k ≡ Some code
        → slice_get judged.modes k ≡ Some mode
        → (class : ClassTree) (method : MethodTree) (tree : CodeTree) → IsMethodOf world code class method tree
        → t.mode (method_by class method (Some tree)) ≡ mode
    mode_told k code mode is_code is_mode class method tree of = by (is_initialiser method.name) refl
      where
        m : Method
        m = method_by class method (Some tree)

        b : Body
        b = body_of class method tree code.insns

        tables : IsLeastTable b (t.types m) × IsLeastRanges b (constants_of world) (t.types m) (t.ranges m)
        tables = has.least code class method tree (code_listed k code is_code) of

        found : IsModeOf (may_be_int list.ints method) b (t.types m) (t.ranges m) mode
        found = mode_is k code mode is_code is_mode class method tree of (t.types m) tables.0 (t.ranges m) tables.1

        by : (first : Bool) → is_initialiser method.name ≡ first → t.mode m ≡ mode
        by true e =
            has.modes.initialisers class method tree e
            ∙ sym (only_short b (t.types m) (t.ranges m) mode (subst (λ a. IsModeOf a b (t.types m) (t.ranges m) mode)
            (may_not list.ints method e) found))
        by false e =
            one_mode list.ints b (t.types m) (t.ranges m) (t.mode m) mode
            (has.modes.with_code code class method tree (code_listed k code is_code) of e)
            (subst (λ a. IsModeOf a b (t.types m) (t.ranges m) mode) (may_plain list.ints method e) found)

    pub tables_told : AreTold judged.world judged.codes judged.types judged.modes t
    tables_told = record {
      rows = rows_told;
      ranges = λ k code table is_code is_table class method tree of.
          let m = method_by class method (Some tree) in
          subst (λ rs. IsLeastRanges (body_of class method tree code.insns) (constants_of world) rs (t.ranges m))
          (rows_told k code table is_code is_table class method tree of)
          (has.least code class method tree (code_listed k code is_code) of).1;
      mode = mode_told;
      without_code = has.modes.without_code;
    }

    -- ---- where some method is in int mode

    some_int : any_int ≡ true → AreShort list.ints world → ⊥
    some_int on short =
        let there = any_at is_int judged.modes on in
        let k = there.0 in
        let mode = there.1 in
        let within = slice_get_within judged.modes k mode there.2 in
        let count = modes_count in
        let code = get_inside judged.codes k (omega (arith, within, count)) in
        let of = item_has (IsOfPackage world) judged.codes k code.0 is.judged_by.of_package code.1 in
        by k mode there.2 (int_of mode there.3) code.0 code.1 of.0 of.1 of.2 of.3
      where
        by : (k : ℕ) (mode : Mode) → slice_get judged.modes k ≡ Some mode → mode ≡ modes.Int → (code : MethodCode)
            → slice_get judged.codes k ≡ Some code → (class : ClassTree) (method : MethodTree) (tree : CodeTree)
            → IsMethodOf world code class method tree → ⊥
        by k mode is_mode int code is_code class method tree of = go (is_initialiser method.name) refl
          where
            m : Method
            m = method_by class method (Some tree)

            b : Body
            b = body_of class method tree code.insns

            tables : IsLeastTable b (t.types m) × IsLeastRanges b (constants_of world) (t.types m) (t.ranges m)
            tables = has.least code class method tree (code_listed k code is_code) of

            in_int_mode : IsInIntMode (may_be_int list.ints method) b (t.types m) (t.ranges m)
            in_int_mode = subst (λ x. IsModeOf (may_be_int list.ints method) b (t.types m) (t.ranges m) x) int
                (mode_is k code mode is_code is_mode class method tree of (t.types m) tables.0 (t.ranges m) tables.1)

            go : (first : Bool) → is_initialiser method.name ≡ first → ⊥
            go true e = let yes = in_int_mode.allowed in let no = may_not list.ints method e in absurd cc
            go false e = short code class method tree (code_listed k code is_code) of e (t.types m) tables.0
                (t.ranges m) tables.1 (subst (λ a. IsInIntMode a b (t.types m) (t.ranges m))
                (may_plain list.ints method e) in_int_mode)

    -- either none is, or some is
    pub short_or_not : AreShort list.ints world ⊎ (AreShort list.ints world → ⊥)
    short_or_not = by any_int refl
      where
        by : (b : Bool) → any_int ≡ b → AreShort list.ints world ⊎ (AreShort list.ints world → ⊥)
        by true e = inr (some_int e)
        by false e = inl (all_short e)

    -- ---- where none is

    pub member_short : AreShort list.ints world → (f : Found) → IsOwn world f
        → is_in_int_mode t (method_at world f) ≡ false
    member_short short f own = not_in_int_mode world judged.codes judged.types judged.modes ready modes_count f own t
        tables_told off
      where
        off : (k : ℕ) (code : MethodCode) (mode : Mode) → slice_get judged.codes k ≡ Some code
            → slice_get judged.modes k ≡ Some mode
            → (class : ClassTree) (method : MethodTree) (tree : CodeTree) → IsMethodOf world code class method tree
            → is_int mode ≡ false
        off k code mode is_code is_mode class method tree of = by (is_initialiser method.name) refl
          where
            m : Method
            m = method_by class method (Some tree)

            b : Body
            b = body_of class method tree code.insns

            tables : IsLeastTable b (t.types m) × IsLeastRanges b (constants_of world) (t.types m) (t.ranges m)
            tables = has.least code class method tree (code_listed k code is_code) of

            found : IsModeOf (may_be_int list.ints method) b (t.types m) (t.ranges m) mode
            found = mode_is k code mode is_code is_mode class method tree of (t.types m) tables.0 (t.ranges m) tables.1

            by : (first : Bool) → is_initialiser method.name ≡ first → is_int mode ≡ false
            by true e = not_int mode (only_short b (t.types m) (t.ranges m) mode (subst (λ a. IsModeOf a b (t.types m)
                (t.ranges m) mode) (may_not list.ints method e) found))
            by false e = not_int mode (one_mode list.ints b (t.types m) (t.ranges m) mode modes.Short
                (subst (λ a. IsModeOf a b (t.types m) (t.ranges m) mode) (may_plain list.ints method e) found)
                (short code class method tree (code_listed k code is_code) of e (t.types m) tables.0 (t.ranges m)
                tables.1))

  -- ---- its own tables

  module _ (exist : (b : Body) (constant : MemberId → Option ℤ) (types : List (Option State))
      → (ranges : List (Option RangeState)) × IsLeastRanges b constant types ranges) where
    pub own_body : Method → Body
    own_body m = read_of m (flags_of (method_found (all_classes world) m.id))

    pub own_ranges : Method → List (Option RangeState)
    own_ranges m = (exist (own_body m) (constants_of world) (rows list files judged is m)).0

    own_mode : Method → Mode
    own_mode m = let id = m.id in
        if m.is_abstract || is_initialiser id.name then modes.Short else mode_in world judged.codes judged.modes id

    pub own_tables : Tables
    own_tables = record { types = rows list files judged is; ranges = own_ranges; mode = own_mode }

    module _ (code : MethodCode) (class : ClassTree) (method : MethodTree) (tree : CodeTree)
        (of : IsMethodOf world code class method tree) where
      abbrev this : Method
      this = method_by class method (Some tree)

      abbrev body : Body
      body = body_of class method tree code.insns

      pub body_is : own_body this ≡ body
      unfolding own_body
      body_is =
          ap (λ flags. read_of this flags) (ready.found code.class code.method class method of.is_class of.is_method)
          ∙ ap (λ (insns : List JInsn). body_of class method tree insns) (insns_are world code class method tree of)

      ranged : IsLeastRanges body (constants_of world) (rows list files judged is this) (own_ranges this)
      unfolding own_ranges
      ranged = subst (λ b. IsLeastRanges b (constants_of world) (rows list files judged is this) (own_ranges this))
          body_is (exist (own_body this) (constants_of world) (rows list files judged is this)).1

      module _ (contains : Contains (all_codes world.classes) code) where
        typed : IsLeastTable body (rows list files judged is this)
        typed = least list files judged is code class method tree contains of

        -- another code of its name has its mode
        same_mode : (k : ℕ) (mode : Mode) → slice_get judged.codes k ≡ Some code → slice_get judged.modes k ≡ Some mode
            → (j : ℕ) (c : MethodCode) (m : Mode) → slice_get judged.codes j ≡ Some c → slice_get judged.modes j
            ≡ Some m → is_named (own world c) (let x = this in x.id) ≡ true → m ≡ mode
        same_mode k mode is_code is_mode j c m is_c is_m named =
            let other = item_has (IsOfPackage world) judged.codes j c is.judged_by.of_package is_c in
            let same = named_code world list.name (listed list files judged is) (world_unbroken list files judged is)
            code class method tree of c other.0 other.1 other.2 other.3 named in
            let types = rows list files judged is this in
            let ranges = own_ranges this in
            let theirs : IsModeBy (may_be_int list.ints other.1) world (body_of other.0 other.1 other.2 c.insns) m =
            mode_is j c m is_c is_m other.0 other.1 other.2 other.3 in
            let moved : IsModeBy (may_be_int list.ints method) world body m =
            subst (λ b. IsModeBy (may_be_int list.ints method) world b m) same.1
            (subst (λ (x : MethodTree). IsModeBy (may_be_int list.ints x) world (body_of other.0 other.1 other.2
            c.insns) m) same.0 theirs) in
            one_mode (may_be_int list.ints method) body types ranges m mode (moved types typed ranges ranged)
            (mode_is k code mode is_code is_mode class method tree of types typed ranges ranged)

        moded : is_initialiser method.name ≡ false → IsModeOf list.ints body (rows list files judged is this)
            (own_ranges this) (own_mode this)
        unfolding own_mode
        moded plain =
            let there = listed_code code contains in
            let k = there.0 in
            let found = mode_there k code there.1 in
            let mode = found.0 in
            let id = (let x = this in x.id) in
            let types = rows list files judged is this in
            let ranges = own_ranges this in
            let named = own_named world list.name (listed list files judged is) (world_unbroken list files judged is)
            code class method tree of in
            let is_mode : own_mode this ≡ mode =
            ap (λ b. if b then modes.Short else mode_in world judged.codes judged.modes id) plain
            ∙ mode_in_is world code id mode named judged.codes judged.modes
            (same_mode k mode there.1 found.1) k there.1 found.1 in
            let here = mode_is k code mode there.1 found.1 class method tree of types typed ranges ranged in
            subst (λ x. IsModeOf list.ints body types ranges x) (sym is_mode)
            (subst (λ a. IsModeOf a body types ranges mode) (may_plain list.ints method plain) here)

    pub own_has : HasModes list.ints world own_tables
    unfolding own_tables own_mode
    own_has = record {
      least = λ code class method tree contains of. (
        typed code class method tree of contains,
        ranged code class method tree of,
      );
      modes = record {
        with_code = λ code class method tree contains of plain. moded code class method tree of contains plain;
        initialisers = λ class method tree e.
            let id : MemberId = record { class = class.name; name = method.name; desc = method.desc } in
            ap (λ b. if b then modes.Short else mode_in world judged.codes judged.modes id) e;
        without_code = λ class method. refl;
      };
    }
