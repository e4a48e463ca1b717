-- What export files say of tokens, where they are fair, and what rules leave of the methods of interfaces and of
-- java/lang/Object, in the world of a package.
use Rattle.std.proofs.Common.{◌≡◌, ℕ, refl, sym, ap, subst, ◌∙◌, Bool, true, false, List, [], ◌∷◌, ◌++◌, inl, inr}
use Rattle.std.proofs.Common.{length, map, ⊎_elim}
use Rattle.std.specs.Prelude.{◌⊎◌, not, ◌&&◌, ◌||◌, Some, option_map, position, slice_get, if◌then◌else◌}
use Rattle.std.proofs.lemmas.Option.{slice_get-map}
use Rattle.cjc_bytes.specs.AccessFlags.{is_interface, is_private, is_static}
use Rattle.cjc_bytes.specs.declared.settings.Settings.{Settings}
use Rattle.cjc_components.specs.Bytecode.declared.method_code.MethodCode.{MethodCode}
use Rattle.cjc_token_proof.proofs.WorldProofOwn.{mapped_at}
use Rattle.cjc_components.specs.Package.{Package, world}
use Rattle.cjc_world.specs.ExportFile.declared.tree.ExportClass.{ExportClass}
use Rattle.cjc_world.specs.ExportFile.declared.tree.ExportMethod.{ExportMethod}
use Rattle.cjc_theorem.specs.FairExports.Fair.{ExportsAreFair, world_of}
use Rattle.cjc_theorem.proofs.FairExports.Alone.{acyclic, filed, found, same_supertypes, supers_abroad}
use Rattle.cjc_theorem.proofs.FairExports.Listed.{exports_plain, root_bare}
use Rattle.cjc_theorem.proofs.FairExports.Roots.{below_root, object_there}
use Rattle.cjc_theorem.proofs.AlikeLaws.VirtualCalls.MethodKinds.{in_get}
use Rattle.cjc_token_proof.proofs.WorldProofRules.{listed_abroad}
use Rattle.cjc_token_proof.specs.Subset.Checks.{check_breaks}
use Rattle.cjc_token_proof.specs.Tables.Sound.{IsSound}
use Rattle.cjc_tokens.specs.Members.{In, Signature, all_methods, first_of, has, is_initialiser, later, same}
use Rattle.cjc_tokens.specs.Members.{signature_of}
use Rattle.cjc_tokens.specs.Methods.{interface_methods}
use Rattle.cjc_tokens.proofs.Facts.{same-true}
use Rattle.cjc_tokens.proofs.Held.{new-offered}
use Rattle.cjc_world.specs.Upwards.{OnLine}
use Rattle.cjc_world.proofs.UpwardLaws.Lines.{above_on, below_line, line_below}
use Rattle.cjc_vtable.specs.Calls.{IsOneToOne}
use Rattle.cjc_vtable.specs.Kept.{ExportsAgree}
use Rattle.cjc_shape_proof.proofs.WrittenLaws.WholeLaws.Declared.{place_there}
use Rattle.cjc_world.specs.Added.{asked_by, by_token, methods_of, own_methods, without_initialiser}
use Rattle.cjc_world.specs.Classes.{Class, Member, all_classes, class_named, imported, method_of_export}
use Rattle.cjc_world.specs.Files.{Files}
use Rattle.cjc_world.specs.Interfaces.{gathered, known}
use Rattle.cjc_world.specs.Supertypes.{Above, End, AreSupertypes, Supertypes, Known, Lists, after, directly, ends}
use Rattle.cjc_world.specs.Supertypes.{foremost, is_below, supertypes, known_here, line, unknown_here, upwards}
use Rattle.cjc_world.specs.Lookup.{is_selectable, object}
use Rattle.cjc_world.proofs.Cycles.{class_named-name}
use Rattle.cjc_world.proofs.Settled.{AreSupertypes-one, supertypes-AreSupertypes, lists-front}
use Rattle.cjc_token_proof.specs.WrittenSends.Sends.{ExportsSend, InterfacesAsk}

-- ---- an interface's methods are no initialisers

has_either : (ms ns : List Member) (s : Signature) → has (map signature_of (ms ++ ns)) s ≡ true
    → (has (map signature_of ms) s ≡ true) ⊎ (has (map signature_of ns) s ≡ true)
has_either [] ns s e = inr e
has_either (m ∷ ms) ns s e = by (same (signature_of m) s) e (has_either ms ns s)
  where
    by : (b : Bool) → (b || has (map signature_of (ms ++ ns)) s) ≡ true → (has (map signature_of (ms ++ ns)) s ≡ true
        → (has (map signature_of ms) s ≡ true) ⊎ (has (map signature_of ns) s ≡ true))
        → ((b || has (map signature_of ms) s) ≡ true) ⊎ (has (map signature_of ns) s ≡ true)
    by true e rest = inl refl
    by false e rest = rest e

without_plain : (ms : List Member) (s : Signature) → has (map signature_of (without_initialiser ms)) s ≡ true
    → is_initialiser s.name ≡ false
without_plain [] s e = absurd cc
without_plain (m ∷ ms) s e = by (is_initialiser m.name) refl e (without_plain ms s)
  where
    one : (a : Bool) → same (signature_of m) s ≡ a → is_initialiser m.name ≡ false
        → (a || has (map signature_of (without_initialiser ms)) s) ≡ true
        → (has (map signature_of (without_initialiser ms)) s ≡ true → is_initialiser s.name ≡ false)
        → is_initialiser s.name ≡ false
    one true f plain e rest = ap (λ (q : Signature). is_initialiser q.name) (sym (same-true (signature_of m) s f))
        ∙ plain
    one false f plain e rest = rest e

    by : (b : Bool) → is_initialiser m.name ≡ b → has (map signature_of (if b then without_initialiser ms
        else m ∷ without_initialiser ms)) s ≡ true
        → (has (map signature_of (without_initialiser ms)) s ≡ true → is_initialiser s.name ≡ false)
        → is_initialiser s.name ≡ false
    by true f e rest = rest e
    by false f e rest = one (same (signature_of m) s) refl f e rest

own_plain : (c : Class) (s : Signature) → has (map signature_of (own_methods c)) s ≡ true → is_initialiser s.name
    ≡ false
unfolding own_methods
own_plain c s e = without_plain (if c.is_imported then by_token (length c.methods) 0 c.methods else c.methods) s e

asked_plain : (cs : List Class) (s : Signature) → has (map signature_of (methods_of cs)) s ≡ true
    → is_initialiser s.name ≡ false
unfolding methods_of
asked_plain [] s e = absurd cc
asked_plain (c ∷ cs) s e = ⊎_elim (λ f. own_plain c s f) (λ g. asked_plain cs s g) (has_either (own_methods c)
    (methods_of cs) s e)

interface_plain : (w : List Class) (c : Class) (s : Signature) → has (interface_methods w c) s ≡ true
    → is_initialiser s.name ≡ false
unfolding interface_methods asked_by
interface_plain w c s e = by c.is_imported (new-offered [] (map signature_of (if c.is_imported then own_methods c
    else asked_by (supertypes w c.supers) (supertypes w c.interfaces) ++ own_methods c)) s e)
  where
    by : (b : Bool)
        → has (map signature_of (if b then own_methods c
        else asked_by (supertypes w c.supers) (supertypes w c.interfaces) ++ own_methods c)) s ≡ true
        → is_initialiser s.name ≡ false
    by true f = own_plain c s f
    by false f = ⊎_elim (λ g. asked_plain (known (gathered false (supertypes w c.supers)
        ++ gathered true (supertypes w c.interfaces))) s g) (λ g. own_plain c s g)
        (has_either (asked_by (supertypes w c.supers) (supertypes w c.interfaces)) (own_methods c) s f)

-- ---- a class of which no super is known

none_known : (w : List Class) (xs : List (List ℕ)) (k : Supertypes) → AreSupertypes w xs k → ((y : List ℕ) (d : Class)
    → Lists y xs → class_named w y ≡ Some d → ⊥) → upwards k ≡ []
none_known w xs k ends none = refl
none_known w (x ∷ xs) k (unknown_here {next = next} e rest) none =
    none_known w xs next rest (λ y d l f. none y d (after l) f)
none_known w (x ∷ xs) k (known_here {c = c} e s i rest) none = absurd (none x c foremost e)

in_front : (m : Member) (ms : List Member) → In m (ms ++ []) → In m ms
in_front m [] h = h
in_front m (x ∷ ms) first_of = first_of
in_front m (x ∷ ms) (later h) = later (in_front m ms h)

selectable : (flags : ℕ) → is_private flags ≡ false → is_static flags ≡ false → is_selectable flags ≡ true
selectable flags e f = ap (λ b. not b && not (is_static flags)) e ∙ ap not f

module _ (list : List ℕ) (files : Files) (sound : IsSound list files) where
  abbrev w : List Class
  w = all_classes files

  -- ---- tokens

  pub exports_agree : ExportsAreFair files.exports → ExportsAgree w
  exports_agree fair x c e is class_here =
      let r = filed list files sound x c e is in
      let plain : is_interface r.1.flags ≡ false = ap (λ (v : Class). is_interface v.flags) (sym r.3) ∙ class_here in
      let abroad = supers_abroad list files sound x c e is in
      subst (λ k. IsOneToOne (c.methods ++ all_methods (upwards k))) (sym (same_supertypes list files sound c.supers
      abroad))
      (subst (λ (q : Class). IsOneToOne (q.methods
      ++ all_methods (upwards (supertypes (world_of files.exports) q.supers)))) (sym r.3) (fair.tokens r.0 r.1 r.2
      plain))

  -- ---- java/lang/Object

  -- it has no superclass that some file has
  no_super : (o : Class) → class_named w object ≡ Some o → o.is_imported ≡ true → (s : List ℕ) (d : Class)
      → Lists s o.supers → class_named w s ≡ Some d → ⊥
  no_super o e is s d l f =
      let import = listed_abroad list files sound.unbroken object s o d e is (lists-front s o.supers o.interfaces l) f
      in
      let r = filed list files sound s d f import in
      let name : r.1.name ≡ s = ap (λ (v : Class). v.name) (sym r.3) ∙ class_named-name w s d f in
      let on : OnLine w s o = below_line w (acyclic list files sound) s object o (ap (λ x. is_below w x object)
      (sym name) ∙ below_root list files sound r.0 r.1 r.2) e in
      let o_name : o.name ≡ object = class_named-name w object o e in
      let first : Above w object s = directly o e (lists-front s o.supers o.interfaces l) in
      ⊎_elim
      (λ same. acyclic list files sound object (subst (Above w object) (same ∙ o_name) first))
      (λ far. acyclic list files sound object (above_on w object s object first (subst (Above w s) o_name far)))
      (line_below w s o on)

  -- ---- the methods of interfaces, by their tokens

  listed : (y : List ℕ) (k : ℕ) (e : ExportClass) → class_named w y ≡ Some (imported k e) → is_interface e.flags ≡ true
      → (j : ℕ) (m : ExportMethod) → slice_get e.methods j ≡ Some m → is_initialiser m.name ≡ false
      → position (λ s. same s (signature_of (method_of_export m))) (interface_methods w (imported k e)) ≡ Some m.token
  listed y k e known interface j m at plain =
      let r = filed list files sound y (imported k e) known refl in
      let there = ap (λ (q : Class). slice_get q.methods j) (sym r.3) ∙ slice_get-map method_of_export e.methods j
      ∙ ap (option_map method_of_export) at in
      ap (λ (q : Class). position (λ s. same s (signature_of (method_of_export m))) (interface_methods w q)) r.3
      ∙ place_there list files sound.unbroken (let q = sound.read in q.exports) false r.0 r.1 r.2
      (found list files sound r.0 r.1 r.2) (ap (λ (q : Class). is_interface q.flags) (sym r.3)
      ∙ interface) j (method_of_export m) there

  root_import : (o : Class) × (class_named w object ≡ Some o) × (o.is_imported ≡ true)
  root_import = let s = object_there list files sound in (
    imported s.number s.class,
    ap (class_named w) (sym s.named) ∙ found list files sound s.number s.class s.listed,
    refl,
  )

  -- ---- what no broken rule leaves

  module _ (codes : List MethodCode) (settings : Settings) (none : check_breaks list files codes settings ≡ []) where
    -- of interfaces
    ask : InterfacesAsk true w
    ask x i e interface is k m at plain =
        let r = filed list files sound x i e is in
        let q = mapped_at method_of_export r.1.methods k m (ap (λ (v : Class). slice_get v.methods k) (sym r.3) ∙ at) in
        let here : is_interface r.1.flags ≡ true = ap (λ (v : Class). is_interface v.flags) (sym r.3) ∙ interface in
        let bare = (exports_plain list files codes settings none).interfaces r.0 r.1 r.2 here k q.0 q.1 in
        selectable m.flags (ap (λ (v : Member). is_private v.flags) q.2 ∙ bare.0)
        (ap (λ (v : Member). is_static v.flags) q.2 ∙ bare.1)

    -- and of java/lang/Object
    objects : (o : Class) → class_named w object ≡ Some o → o.is_imported ≡ true → (m : Member)
        → In m (all_methods (line w object)) → is_initialiser m.name ≡ false → is_selectable m.flags ≡ true
    unfolding line
    objects o e is m among plain =
        let r = filed list files sound object o e is in
        let name : r.1.name ≡ object = ap (λ (v : Class). v.name) (sym r.3) ∙ class_named-name w object o e in
        let tree = known_here e (supertypes-AreSupertypes w (acyclic list files sound) o.supers)
        (supertypes-AreSupertypes w (acyclic list files sound) o.interfaces) ends in
        let line_is : supertypes w (object ∷ []) ≡ Known o (supertypes w o.supers) (supertypes w o.interfaces) End =
        AreSupertypes-one w (object ∷ []) _ _ (supertypes-AreSupertypes w (acyclic list files sound) (object ∷ [])) tree
        in
        let bare : upwards (supertypes w o.supers) ≡ [] = none_known w o.supers (supertypes w o.supers)
        (supertypes-AreSupertypes w (acyclic list files sound) o.supers) (no_super o e is) in
        let here : In m o.methods = in_front m o.methods (subst (λ ks. In m (o.methods ++ all_methods (ks ++ []))) bare
        (subst (λ k. In m (all_methods (upwards k))) line_is among)) in
        let at = in_get m o.methods here in
        let q = mapped_at method_of_export r.1.methods at.0 m (ap (λ (v : Class). slice_get v.methods at.0) (sym r.3)
        ∙ at.1) in
        let its = root_bare list files codes settings none r.0 r.1 r.2 name at.0 q.0 q.1
        (ap (λ (v : Member). is_initialiser v.name) (sym q.2) ∙ plain) in
        selectable m.flags (ap (λ (v : Member). is_private v.flags) q.2 ∙ its.0)
        (ap (λ (v : Member). is_static v.flags) q.2 ∙ its.1)

-- what scripts rest on when they send
pub exports_send : (list : List ℕ) (p : Package) (codes : List MethodCode) (settings : Settings) → IsSound list p.files
    → check_breaks list p.files codes settings ≡ [] → ExportsSend p
exports_send list p codes settings sound none =
    let o = root_import list p.files sound in
    record {
      ask = ask list p.files sound codes settings none;
      listed = listed list p.files sound;
      objects = λ y i e interface m among asked. objects list p.files sound codes settings none o.0 o.1
          o.2 m among
          (interface_plain (world p) i (signature_of m) asked);
    }
