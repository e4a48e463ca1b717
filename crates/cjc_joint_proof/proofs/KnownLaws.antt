-- What the code of several packages names is known among all packages, and whether a call has a receiver is the same by
-- name and by token.
use Rattle.std.proofs.Common.{◌≡◌, ℕ, ◌+◌, ◌*◌, refl, sym, ap, subst, ◌∙◌, Bool, true, List, [], ◌∷◌, Some, None}
use Rattle.std.specs.Prelude.{Option, option_and_then, option_map, slice_get, unwrap_or, ℤ, pos, ◌||◌}
use Rattle.cjc_card_semantics.specs.Bytecode.Effects.{Letter}
use Rattle.cjc_card_semantics.specs.Bytecode.Meanings.{Asks, Branches, Calls, Casts, Gets, GetsStatic}
use Rattle.cjc_card_semantics.specs.Bytecode.Meanings.{Makes, MakesReferences, Meaning}
use Rattle.cjc_card_semantics.specs.Bytecode.Meanings.{Plain, Puts, PutsStatic, Ranged, Use, Uses, meaning}
use Rattle.cjc_card_semantics.specs.Bytecode.Renaming.{KnownOperation, KnownShape, Knows}
use Rattle.cjc_card_semantics.specs.Bytes.declared.fault.MemberId.{MemberId}
use Rattle.cjc_card_semantics.specs.CapRead.declared.tree.ExportedClass.{ExportedClass}
use Rattle.cjc_card_semantics.specs.CapRead.declared.tree.StaticRef.{StaticRef}
use Rattle.cjc_card_semantics.specs.CapRead.declared.tree.StaticRef.TheVariants as refs
use Rattle.cjc_card_semantics.specs.Machine.Calls.{on_object}
use Rattle.cjc_card_semantics.specs.ExportFile.declared.tree.ExportClass.{ExportClass}
use Rattle.cjc_card_semantics.specs.ExportFile.declared.tree.ExportMethod.{ExportMethod}
use Rattle.cjc_card_semantics.specs.Machine.Classes.{external, import_of}
use Rattle.cjc_card_semantics.specs.Machine.Loaded.{Import, Loaded, OfFile, OfGroup, Part}
use Rattle.cjc_card_semantics.specs.Machine.Operations.{Callee, Fixed, Outer, method_through, outer, static_method}
use Rattle.cjc_card_semantics.specs.Machine.Operations.{unbound_of}
use Rattle.cjc_card_semantics.specs.Script.Sorts.{Element, OfClass, OfNumbers, OfReferences, Shape}
use Rattle.cjc_exported.specs.Components.Methods.{placed_methods}
use Rattle.cjc_exported.specs.World.Classes.{Class}
use Rattle.cjc_link_semantics.specs.Components.Package.{Package, world}
use Rattle.cjc_link_semantics.specs.JvmSemantics.OnePackage.{declared_fields}
use Rattle.cjc_link_semantics.specs.Loaded.{group_loaded}
use Rattle.cjc_token_proof.specs.ByToken.Cells.{is_one_of, may_access}
use Rattle.cjc_token_proof.specs.ByToken.Supers.{has_class}
use Rattle.cjc_token_proof.specs.NCode.ByLabel.{call_if, calling, element_type, jumping, making, operation}
use Rattle.cjc_token_proof.specs.NCode.ByLabel.{plain, switching, testing, type_by, using}
use Rattle.cjc_token_proof.specs.NCode.ByLabel
use Rattle.cjc_token_proof.specs.NCode.Lowering.Agreement.{Cells, IsAmong, IsKnownCall, known_by}
use Rattle.cjc_token_proof.specs.NCode.Lowering.Naming.{callee}
use Rattle.cjc_token_proof.specs.NCode.Lowering.Placed.{Placed}
use Rattle.cjc_token_proof.specs.NCode.declared.narrow.NCase.{NCase}
use Rattle.cjc_token_proof.specs.NCode.declared.narrow.NInsn.{NInsn}
use Rattle.cjc_token_proof.specs.NCode.declared.narrow.NInsn.TheVariants as insns
use Rattle.cjc_token_proof.specs.NCode.declared.narrow.PoolKey.{PoolKey}
use Rattle.cjc_token_proof.specs.NCode.declared.narrow.PoolKey.TheVariants as keys
use Rattle.cjc_token_proof.specs.Tables.Known.{is_field_of, may_name, order_of}
use Rattle.cjc_token_proof.specs.Tables.Loading.{naming}
use Rattle.cjc_token_proof.specs.WrittenSends.Named.{known, known_tests}
use Rattle.cjc_joint_proof.specs.JointAlike.{IsCalled, IsOfGroup, callee_at}
use Rattle.cjc_joint_proof.specs.JointCalled.{called_together, is_called_by}
use Rattle.cjc_joint_proof.specs.JointCode.{InPackage, of_package, operation_in}
use Rattle.cjc_joint_proof.specs.JointPackages.{AreLinked, class_together}
use Rattle.cjc_joint_proof.specs.JointTables.{known_together as known_names, may_access_by, world_together}
use Rattle.cjc_joint_proof.specs.JointTogether.{IsOwnClass, NamesOwnFields, cell_together, field_together, methods_by}
use Rattle.cjc_joint_proof.specs.JointTogether.{methods_together, names_by, naming_together, place_together}
use Rattle.cjc_joint_proof.specs.Loading.{group_of}
use Rattle.cjc_joint_proof.proofs.ClassLaws.{placed}
use Rattle.cjc_joint_proof.proofs.JointCodeLaws.{known_in}
use Rattle.cjc_joint_proof.proofs.MeantLaws.{class_there}
use Rattle.cjc_joint_proof.proofs.StandLaws.{known_together, own_together}
use Rattle.cjc_joint_proof.proofs.TogetherLaws.{package_at_home}

-- ---- what is known of an operation for others

-- from names that are known to others, where an instruction names fields that both know
module _ (a b : Knows (List ℕ) MemberId MemberId Cells) (A B : ByLabel.Callee → Type 0)
    (class : (c : List ℕ) → a.class c → b.class c) (call : (m : ByLabel.Callee) → A m → B m) where
  plain_known : (m : Meaning) (operands : List ℤ) → KnownOperation b B (plain m operands)
  plain_known (Plain calculation) operands = tt
  plain_known m operands = tt

  jumping_known : (m : Meaning) (target : ℕ) → KnownOperation b B (jumping m target)
  jumping_known (Branches test) target = tt
  jumping_known m target = tt

  switching_known : (m : Meaning) (other : ℕ) (low : ℤ) (cases : List NCase)
      → KnownOperation b B (switching m other low cases)
  switching_known (Ranged is_int) other low cases = tt
  switching_known m other low cases = tt

  making_known : (o : Option Element) → KnownOperation b B (making o)
  making_known None = tt
  making_known (Some element) = tt

  shape_known : (s : Shape (List ℕ)) → KnownShape a s → KnownShape b s
  shape_known (OfClass c) e = class c e
  shape_known (OfNumbers element) e = e
  shape_known (OfReferences c) e = class c e

  testing_known : (m : Meaning) (o : Option (Shape (List ℕ))) → KnownOperation a A (testing m o)
      → KnownOperation b B (testing m o)
  testing_known Casts (Some kind) e = shape_known kind e
  testing_known Asks (Some kind) e = shape_known kind e
  testing_known m o e = tt

  call_known : (o : Option ByLabel.Callee) → KnownOperation a A (call_if o) → KnownOperation b B (call_if o)
  call_known None e = tt
  call_known (Some m) e = call m e

  module _ (field : (f : MemberId) → Type 0) (cell : (f : MemberId) → Type 0)
      (field_known : (f : MemberId) → field f → a.field f → b.field f)
      (cell_known : (letter : Letter) (f : MemberId) → cell f → a.cell letter f → b.cell letter f) where
    using_known : (how : Use) (key : PoolKey) → ((f : MemberId) → key ≡ keys.Field f → field f)
        → ((f : MemberId) → key ≡ keys.StaticField f → cell f) → KnownOperation a A (using how key)
        → KnownOperation b B (using how key)
    using_known (Gets this letter) (keys.Field f) fields cells e = field_known f (fields f refl) e
    using_known (Puts this letter) (keys.Field f) fields cells e = field_known f (fields f refl) e
    using_known (GetsStatic letter) (keys.StaticField f) fields cells e = cell_known letter f (cells f refl) e
    using_known (PutsStatic letter) (keys.StaticField f) fields cells e = cell_known letter f (cells f refl) e
    using_known (Calls mode) key fields cells e = call_known (calling mode key) e
    using_known Makes (keys.Class c) fields cells e = class c e
    using_known MakesReferences (keys.Class c) fields cells e = class c e
    using_known how key fields cells e = tt

    naming_known : (m : Meaning) (key : PoolKey) → ((f : MemberId) → key ≡ keys.Field f → field f)
        → ((f : MemberId) → key ≡ keys.StaticField f → cell f) → KnownOperation a A (ByLabel.naming m key)
        → KnownOperation b B (ByLabel.naming m key)
    naming_known (Uses how) key fields cells e = using_known how key fields cells e
    naming_known m key fields cells e = tt

    pub still_known : (insn : NInsn) → ((op : ℕ) (f : MemberId) → insn ≡ insns.Named op (keys.Field f) → field f)
        → ((op : ℕ) (f : MemberId) → insn ≡ insns.Named op (keys.StaticField f) → cell f)
        → KnownOperation a A (operation insn) → KnownOperation b B (operation insn)
    still_known (insns.Op op) fields cells e = plain_known (meaning op) []
    still_known (insns.Push op value) fields cells e = plain_known (meaning op) (value ∷ [])
    still_known (insns.Local op index) fields cells e = plain_known (meaning op) (pos index ∷ [])
    still_known (insns.Inc op index by) fields cells e = plain_known (meaning op) (pos index ∷ by ∷ [])
    still_known (insns.Words op m n) fields cells e = plain_known (meaning op) (pos (16 * m + n) ∷ [])
    still_known (insns.Jump op target) fields cells e = jumping_known (meaning op) target
    still_known (insns.Switch op other low cases) fields cells e = switching_known (meaning op) other low cases
    still_known (insns.Named op key) fields cells e =
        naming_known (meaning op) key (λ f g. fields op f (ap (insns.Named op) g)) (λ f g. cells op f (ap (insns.Named
        op) g)) e
    still_known (insns.Interface nargs method) fields cells e = call (ByLabel.OnInterface nargs method) e
    still_known (insns.NewArray kind) fields cells e = making_known (element_type kind)
    still_known (insns.TypeTest op kind class) fields cells e = testing_known (meaning op) (type_by kind class) e

-- ---- of a package among all packages

module _ (packages : List Package) (linked : AreLinked packages) where
  abbrev l : Loaded
  l = group_loaded (group_of packages)

  abbrev w : List Class
  w = world_together packages

  module _ (q : ℕ) (p : Package) (here : slice_get packages q ≡ Some p) where
    class_known : (x : List ℕ) → has_class (world p) x ≡ true → has_class w x ≡ true
    class_known x h = let c = class_there (world p) x h in known_together packages linked q p here x c.0 c.1

    field_known : (f : MemberId) → IsOwnClass p f.class → may_name (world p) f ≡ true → may_name w f ≡ true
    field_known f o may =
        let t = own_together packages linked q p here f.class o.class o.there o.own in
        ap (is_field_of f) t.together ∙ sym (ap (λ b. b || is_one_of f (declared_fields o.class)) o.own
        ∙ ap (λ (c : Class). is_one_of f (declared_fields c)) t.is) ∙ sym (ap (is_field_of f) o.there) ∙ may

    cell_known : (letter : Letter) (f : MemberId) → IsOwnClass p f.class → may_access (order_of p.image) letter f ≡ true
        → may_access_by (slice_get packages (place_together packages f)) letter f ≡ true
    cell_known letter f o may =
        ap (λ x. may_access_by x letter f) (package_at_home packages linked q p here f.class o) ∙ may

    call_known_there : (m : ByLabel.Callee) → IsKnownCall (known_tests p) m
        → IsCalled (called_together packages) (of_package q m)
    call_known_there m e = ap (λ x. is_called_by x m) here ∙ e

    operation_there : NamesOwnFields p → (j : ℕ) (m : Placed) → slice_get (placed_methods p) j ≡ Some m → (k : ℕ)
        (insn : NInsn) → (let n = m.method in slice_get n.insns k ≡ Some insn)
        → KnownOperation (known p) (IsKnownCall (known_tests p)) (operation insn)
        → KnownOperation (known_by (known_names packages)) (IsCalled (called_together packages)) (operation_in q
        (operation insn))
    operation_there own j m at k insn is e =
        known_in (known_by (known_names packages)) (IsCalled (called_together packages)) q (operation insn)
        (still_known (known p) (known_by (known_names packages)) (IsKnownCall (known_tests p)) (λ m. IsCalled
        (called_together packages) (of_package q m)) class_known call_known_there (λ f. IsOwnClass p f.class)
        (λ f. IsOwnClass p f.class) field_known cell_known insn (λ op f g. own.fields j k op m f at (is ∙ ap Some g))
        (λ op f g. own.statics j k op m f at (is ∙ ap Some g)) e)

  pub operations_known : ((q : ℕ) (p : Package) → slice_get packages q ≡ Some p → NamesOwnFields p)
      → ((q : ℕ) (p : Package) → slice_get packages q ≡ Some p → (m : Placed) (k : ℕ) (insn : NInsn)
      → IsAmong (placed_methods p) m → (let n = m.method in slice_get n.insns k ≡ Some insn)
      → KnownOperation (known p) (IsKnownCall (known_tests p)) (operation insn))
      → (m : InPackage Placed) (k : ℕ) (insn : NInsn) → IsOfGroup l (methods_together packages) m
      → (let p = m.item in let n = p.method in slice_get n.insns k ≡ Some insn)
      → KnownOperation (known_by (known_names packages)) (IsCalled (called_together packages)) (operation_in m.part
      (operation insn))
  operations_known own each m k insn of is =
      let o = placed packages linked m.part of.component of.there in
      let p = o.«package» in
      let among : IsAmong (placed_methods p) m.item = subst (λ x. IsAmong (methods_by x) m.item) o.there of.among in
      operation_there m.part p o.there (own m.part p o.there) among.place m.item among.there k insn is (each m.part p
      o.there m.item k insn among is)

-- ---- receivers

-- whether a call that may be there has one
abbrev HasFlag : Bool → Option Callee → Type 0
HasFlag on o = (m : MemberId) → on_object (unwrap_or o (Outer on m)) ≡ on

module _ (l : Loaded) (on : Bool) (class token : ℕ) where
  of_method : (name : List ℕ) (o : Option ExportMethod) → HasFlag on (option_map (outer on name) o)
  of_method name None m = refl
  of_method name (Some x) m = refl

  of_file : (o : Option ExportClass) → HasFlag on (option_and_then (λ c. option_map (outer on c.name) (unbound_of
      c.methods token)) o)
  of_file None m = refl
  of_file (Some c) m = of_method c.name (unbound_of c.methods token) m

  of_offset : (q : ℕ) (o : Option ℕ) → HasFlag on (option_map (Fixed on q) o)
  of_offset q None m = refl
  of_offset q (Some offset) m = refl

  of_class : (q : ℕ) (o : Option ExportedClass) → HasFlag on (option_and_then (λ (e : ExportedClass). option_map (Fixed
      on q) (slice_get e.methods token)) o)
  of_class q None m = refl
  of_class q (Some e) m = of_offset q (slice_get e.methods token) m

  of_part : (q : ℕ) (o : Option Part) → HasFlag on (option_and_then (λ (part : Part). option_and_then (λ (e :
      ExportedClass). option_map (Fixed on q) (slice_get e.methods token)) (slice_get part.exports class)) o)
  of_part q None m = refl
  of_part q (Some part) m = of_class q (slice_get part.exports class) m

  of_import : (o : Option Import) → HasFlag on (option_and_then (method_through l on class token) o)
  of_import None m = refl
  of_import (Some (OfFile tree)) m = of_file (external l tree class) m
  of_import (Some (OfGroup q)) m = of_part q (slice_get l.parts q) m

fixed_object : (l : Loaded) (q : ℕ) (on : Bool) (r : StaticRef) → HasFlag on (static_method l q on r)
fixed_object l q on (refs.Inside offset) m = refl
fixed_object l q on (refs.Outside k class token) m = of_import l on class token (import_of l q k) m

pub objects_alike : (packages : List Package) (m : InPackage ByLabel.Callee)
    → on_object (callee_at (naming_together packages) m) ≡ ByLabel.on_object m.item
objects_alike packages m = by m.item (slice_get packages m.part)
  where
    by : (x : ByLabel.Callee) (o : Option Package) → on_object (callee (record (names_by (group_loaded (group_of
        packages)) m.part o) {
          loaded = group_loaded (group_of packages);
          part = m.part;
          class = class_together packages;
          field_token = field_together packages;
          cell = cell_together packages;
        }) x) ≡ ByLabel.on_object x
    by (ByLabel.Fixed on id) None = refl
    by (ByLabel.Fixed on id) (Some p) = fixed_object (group_loaded (group_of packages)) m.part on (let n = naming p
        in n.method_ref id) id
    by (ByLabel.OnObject id) o = refl
    by (ByLabel.OnSuper id) o = refl
    by (ByLabel.OnInterface words id) o = refl
