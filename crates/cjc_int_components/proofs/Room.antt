-- Room for methods by their modes, and the limits of a package without int mode.
use Rattle.std.proofs.Common.{◌≡◌, ◌≤◌, ◌+◌, ℕ, suc, arith, refl, sym, ap, subst, ◌∙◌, Bool, true, false}
use Rattle.std.proofs.Common.{List}
use Rattle.std.proofs.Common.{[], ◌∷◌, ◌++◌}
use Rattle.std.specs.Prelude.{Option, Some, None, not, ◌&&◌, ◌||◌, if◌then◌else◌, slice_get}
use Rattle.std.specs.List.{Contains, flat_map}
use Rattle.std.proofs.lemmas.Bool.{ltb-false, ltb-true}
use Rattle.cjc_check_proof.proofs.BytesGets.{any_off}
use Rattle.cjc_int_narrow.specs.Bytes.Breaks.{Break, at}
use Rattle.cjc_int_narrow.specs.Bytes.AccessFlags.{is_static}
use Rattle.cjc_int_narrow.specs.Bytecode.PackageCodes.{all_codes}
use Rattle.cjc_int_narrow.specs.Bytecode.declared.insn.JInsn.{JInsn}
use Rattle.cjc_int_narrow.specs.Bytecode.declared.method_code.MethodCode.{MethodCode}
use Rattle.cjc_int_narrow.specs.ClassFile.Code.{CodeTree}
use Rattle.cjc_int_narrow.specs.ClassFile.declared.tree.ClassTree.{ClassTree}
use Rattle.cjc_int_narrow.specs.ClassFile.declared.tree.MethodTree.{MethodTree}
use Rattle.cjc_int_narrow.specs.CardSemantics.Bytecode.Arguments.{widths}
use Rattle.cjc_int_narrow.specs.Script.Sorts.{OfClass, Reference, Signature, signature_of}
use Rattle.cjc_int_narrow.specs.World.Classes.{Class, Member, all_classes, class_at}
use Rattle.cjc_int_narrow.specs.World.Files.{Files}
use Rattle.cjc_int_narrow.specs.LowerSubset.Ints.{code_works_on_int}
use Rattle.cjc_check_proof.specs.Tokens.Members.{is_initialiser}
use Rattle.cjc_check_proof.specs.Types.Flow.{Body, body_of}
use Rattle.cjc_check_proof.specs.Types.Tables.{IsMethodOf}
use Rattle.cjc_check_proof.specs.Types.declared.state.State.{State}
use Rattle.cjc_check_proof.specs.JvmSemantics.Linked.{Method}
use Rattle.cjc_check_proof.specs.JvmSemantics.OnePackage.{method_at, method_by}
use Rattle.cjc_int_narrow.specs.LowerNarrow.Rows.Package.{flags_of, read_of}
use Rattle.cjc_int_narrow.specs.LowerNarrow.Rows.Resolved as resolved
use Rattle.cjc_check_proof.specs.LowerComponents.Descriptor.{method_in}
use Rattle.cjc_check_proof.specs.LowerComponents.Limits.{else_of, form_breaks, has_many_words, in_class, limit_breaks}
use Rattle.cjc_check_proof.specs.LowerComponents.Limits.{method_spot, of_methods, size_breaks, word_breaks}
use Rattle.cjc_check_proof.specs.LowerComponents.Package.{LaidMethod, Package, world}
use Rattle.cjc_check_proof.specs.NarrowProof.Selected.Keeps.{FindsItself}
use Rattle.cjc_int_narrow.proofs.IntModeNamed.{free_in_short_mode}
use Rattle.cjc_int_narrow.specs.LowerIntMode.Room.{IsRoom, LacksRoom, many_arguments}
use Rattle.cjc_int_narrow.specs.LowerIntMode.Written.{argument_words, params_by}
use Rattle.cjc_int_narrow.specs.LowerIntMode.declared.modes.Mode.{Mode}
use Rattle.cjc_int_narrow.specs.LowerIntMode.declared.modes.Mode.TheVariants as modes
use Rattle.cjc_int_components.specs.Components.{has_int_mode, is_in_int_mode}
use Rattle.cjc_int_components.specs.Limits.{lacks_int_room, lacks_room, limit_breaks_by_modes, word_breaks_by_modes}
use Rattle.cjc_int_components.specs.Modes.{AreModes, Tables, is_int}
use Rattle.cjc_int_package.proofs.Room.{told_in_int_mode}
use Rattle.cjc_int_components.proofs.ByModes.{or_false}
use Rattle.cjc_int_components.proofs.ByTables.{insns_are}

-- ---- room in int mode

module _ (files : Files) (code : MethodCode) (class : ClassTree) (method : MethodTree) (tree : CodeTree)
    (is : IsMethodOf files code class method tree) (found : FindsItself files class method) (t : Tables) where
  abbrev x : Method
  x = method_by class method (Some tree)

  pub room_in_int_mode : t.mode x ≡ modes.Int → IsRoom (body_of class method tree code.insns) (t.types x) modes.Int
      (not (lacks_int_room t files (Some x)))
  room_in_int_mode mode =
      let same : lacks_int_room t files (Some x) ≡ lacks_room (body_of class method tree code.insns) (t.types x) =
      ap (λ (q : Mode). is_int q && lacks_room (read_of x (flags_of (resolved.method_found (all_classes files) x.id)))
      (t.types x)) mode
      ∙ ap (λ flags. lacks_room (read_of x flags) (t.types x)) found
      ∙ ap (λ (insns : List JInsn). lacks_room (body_of class method tree insns) (t.types x))
      (insns_are files code class method tree is) in
      subst (λ l. IsRoom (body_of class method tree code.insns) (t.types x) modes.Int (not l)) (sym same)
      (told_in_int_mode (body_of class method tree code.insns) (t.types x))

-- ---- room outside int mode

pub same_words : (b : Body) → resolved.argument_words b.flags b.desc ≡ argument_words b
same_words b = by (is_static b.flags) (signature_of b.desc)
  where
    by : (s : Bool) (o : Option Signature) → (if s then 0 else 1) + resolved.parameter_words o
        ≡ widths ((if s then [] else Reference (OfClass b.class) ∷ []) ++ params_by o)
    by true None = refl
    by true (Some types) = omega arith
    by false None = refl
    by false (Some types) = refl

short_lacks : (b : Body) (types : List (Option State)) → argument_words b ≤ 255 → LacksRoom b types modes.Short → ⊥
short_lacks b types few (many_arguments gt) = omega (arith, few, gt)

pub room_outside : (b : Body) (types : List (Option State)) (m : Member) → m.flags ≡ b.flags → m.desc ≡ b.desc
    → IsRoom b types modes.Short (not (has_many_words m))
room_outside b types m flags desc = by (has_many_words m) refl
  where
    same : resolved.argument_words m.flags m.desc ≡ argument_words b
    same = ap (λ f. resolved.argument_words f m.desc) flags ∙ ap (λ d. resolved.argument_words b.flags d) desc
        ∙ same_words b

    by : (l : Bool) → has_many_words m ≡ l → IsRoom b types modes.Short (not l)
    by true e = let gt = ltb-true 255 (resolved.argument_words m.flags m.desc) e in let eq = same in
        many_arguments (omega (arith, gt, eq))
    by false e = let le = ltb-false 255 (resolved.argument_words m.flags m.desc) e in let eq = same in
        short_lacks b types (omega (arith, le, eq))

-- ---- a package without int mode

flat_where : (f g : LaidMethod → List Break) (ms : List LaidMethod) → ((k : ℕ) (m : LaidMethod) → slice_get ms k
    ≡ Some m → f m ≡ g m) → flat_map f ms ≡ flat_map g ms
flat_where f g [] same = refl
flat_where f g (m ∷ ms) same =
    ap (λ bs. bs ++ flat_map f ms) (same 0 m refl)
    ∙ ap (λ bs. g m ++ bs) (flat_where f g ms (λ k x e. same (suc k) x e))

module _ (t : Tables) (p : Package) (off : has_int_mode t p ≡ false) where
  no_lack : (o : Option Method) → is_in_int_mode t o ≡ false → lacks_int_room t p.files o ≡ false
  no_lack None e = refl
  no_lack (Some m) e =
      ap (λ b. b && lacks_room (read_of m (flags_of (resolved.method_found (all_classes p.files) m.id))) (t.types m)) e

  one_word : (k : ℕ) (m : LaidMethod) → slice_get p.methods k ≡ Some m → (o : Option Class)
      → in_class (word_breaks_by_modes t p) m o ≡ in_class (word_breaks p) m o
  one_word k m e None = refl
  one_word k m e (Some c) =
      let member : Member = method_in (world p) c m.member.member in
      let short = any_off (λ (x : LaidMethod). is_in_int_mode t (method_at p.files x.member)) p.methods k m off e in
      ap (λ b. at (has_many_words member || b) (method_spot p c m.member member 0) 417)
      (no_lack (method_at p.files m.member) short)
      ∙ ap (λ b. at b (method_spot p c m.member member 0) 417) (or_false (has_many_words member))

  pub words_as_before : of_methods p (word_breaks_by_modes t p) ≡ of_methods p (word_breaks p)
  words_as_before =
      flat_where (λ m. in_class (word_breaks_by_modes t p) m (class_at (world p) m.member.imported m.member.class))
      (λ m. in_class (word_breaks p) m (class_at (world p) m.member.imported m.member.class)) p.methods
      (λ k m e. one_word k m e (class_at (world p) m.member.imported m.member.class))

  pub limits_as_before : limit_breaks_by_modes t p ≡ limit_breaks p
  limits_as_before = ap (λ ws. else_of ws (else_of (form_breaks p) (size_breaks p))) words_as_before

-- ---- what works on int

pub works_in_int_mode : (files : Files) (t : Tables) → AreModes true files t → (code : MethodCode) (class : ClassTree)
    (method : MethodTree) (tree : CodeTree) → Contains (all_codes files.classes) code
    → IsMethodOf files code class method tree → is_initialiser method.name ≡ false
    → t.mode (method_by class method (Some tree)) ≡ modes.Short → code_works_on_int files code ≡ false
works_in_int_mode files t are code class method tree there is written short =
    let x : Method = method_by class method (Some tree) in
    free_in_short_mode files code class method tree is (t.types x) (t.ranges x) (t.mode x) short
    (are.with_code code class method tree there is written)
