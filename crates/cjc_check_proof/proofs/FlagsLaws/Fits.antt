-- What 304 says of a method, of an interface too.
use Rattle.std.proofs.Common.{◌≡◌, ℕ, zero, suc, refl, sym, ap, subst, ◌∙◌, Bool, true, false, List, [], ◌∷◌, inl, inr}
use Rattle.std.specs.Prelude.{Some, slice_get, is_some, map, not, ◌&&◌, ◌||◌, ◌⊎◌}
use Rattle.cjc_bytes.specs.AccessFlags.{has, is_abstract, is_interface, is_private, is_protected, is_public, is_static}
use Rattle.cjc_bytes.specs.declared.settings.Settings.{Settings}
use Rattle.cjc_bytes.proofs.Bools.{or_left, or_right}
use Rattle.cjc_world.specs.ClassFile.declared.tree.ClassTree.{ClassTree}
use Rattle.cjc_world.specs.ClassFile.declared.tree.MethodTree.{MethodTree}
use Rattle.cjc_components.specs.Bytecode.declared.method_code.MethodCode.{MethodCode}
use Rattle.cjc_pool.specs.Subset.Flags.{has_two_accesses, is_unfit_method, is_unfit_method_kind}
use Rattle.cjc_world.specs.Classes.{Class, Member, class_named, method_of_class}
use Rattle.cjc_tokens.specs.Members.{is_constructor, is_exposed, is_initialiser}
use Rattle.cjc_vtable.specs.Kept.{BreaksNone}
use Rattle.cjc_vtable.proofs.Clean.{fit-method}
use Rattle.cjc_vtable.proofs.Filed.{Has, at_front, behind, get-has}
use Rattle.cjc_vtable.proofs.Read.{has-code}
use Rattle.cjc_vtable.specs.Meant.{HaveOneAccess}
use Rattle.cjc_components.specs.Package.{Package, world}
use Rattle.cjc_token_proof.specs.Tables.Sound.{IsSound}
use Rattle.cjc_token_proof.proofs.TablesLaws.Clean.{has_named}
use Rattle.cjc_token_proof.proofs.TablesLaws.Filed.{own_filed}
use Rattle.cjc_check_proof.specs.Classes.Premises.{InterfacesAreUnbound}
use Rattle.cjc_token_proof.specs.WrittenCalls.Calls.{NoStaticMethods}
use Rattle.cjc_token_proof.proofs.WrittenCalls.Files.{place_in}
use Rattle.cjc_check_proof.specs.Exports.{ExportsHaveOneAccess}

-- ---- tests that fail

-- public, private and protected: of two that are never together the second is not there
one_access : (a b c : Bool) → ((a && b) || (a && c) || (b && c)) ≡ false → (a || c) ≡ true → b ≡ false
one_access a false c e f = refl
one_access true true c e f = absurd (cc)
one_access false true true e f = absurd (cc)
one_access false true false e f = absurd (cc)

-- a method of an interface that is static, or named like a constructor, is its initialiser
bound : (A S P n s f w C N H : Bool) → (S ≡ true) ⊎ (C ≡ true) → ((n || s || f || w || (A && (S || P)))
    || (A && (C || N)) || (N && not S) || (true && H && not N)) ≡ false → (n ≡ false → A ≡ false → H ≡ true) → N ≡ true
bound A S P n s f w C N H which e code =
    let kind_named = or_left (kind || named) (N && not S) (or_left (kind || named || (N && not S)) coded e) in
    let kind_off = or_left kind named kind_named in
    let named_off = or_right kind named kind_named in
    let coded_off = or_right (kind || named || (N && not S)) coded e in
    let native_off = or_left n s (or_left (n || s) f (or_left (n || s || f) w (or_left (n || s || f || w) (A
    && (S || P)) kind_off))) in
    last H N (code native_off (concrete A S P C N which (or_right (n || s || f || w) (A && (S || P)) kind_off)
    named_off)) coded_off
  where
    kind : Bool
    kind = n || s || f || w || (A && (S || P))

    named : Bool
    named = A && (C || N)

    coded : Bool
    coded = true && H && not N

    concrete : (A S P C N : Bool) → (S ≡ true) ⊎ (C ≡ true) → (A && (S || P)) ≡ false → (A && (C || N)) ≡ false
        → A ≡ false
    concrete false S P C N which g h = refl
    concrete true true P C N which g h = absurd (cc)
    concrete true false P true N which g h = absurd (cc)
    concrete true false P false N (inl i) g h = absurd (cc)
    concrete true false P false N (inr i) g h = absurd (cc)

    last : (H N : Bool) → H ≡ true → (true && H && not N) ≡ false → N ≡ true
    last true true g h = refl
    last true false g h = absurd (cc)
    last false N g h = absurd (cc)

-- ---- members of class files

tree_of : (ms : List MethodTree) (k : ℕ) (m : Member) → slice_get (map method_of_class ms) k ≡ Some m → (r : MethodTree)
    × Has r ms × (method_of_class r ≡ m)
tree_of [] k m e = absurd (cc)
tree_of (n ∷ ms) zero m e = (n, at_front, cc)
tree_of (n ∷ ms) (suc k) m e = let r = tree_of ms k m e in (r.0, behind r.1, r.2)

module _ (list : List ℕ) (p : Package) (codes : List MethodCode) (settings : Settings) (sound : IsSound list p.files)
    (unbroken : BreaksNone list p.files codes settings) where
  -- a method of a class of the package, in its class file
  record Stands (c : Class) (m : Member) : Type 0 where
    tree : ClassTree
    method : MethodTree
    number : ℕ
    in_list : (let files = p.files in slice_get files.classes number ≡ Some tree)
    there : Has method tree.methods
    is : method_of_class method ≡ m
    kind : is_interface tree.flags ≡ is_interface c.flags
    fits : is_unfit_method (is_interface tree.flags) method.flags method.name (is_some method.code) ≡ false

  stands : (x : List ℕ) (c : Class) → class_named (world p) x ≡ Some c → c.is_imported ≡ false → (k : ℕ) (m : Member)
      → slice_get c.methods k ≡ Some m → Stands c m
  stands x c e own k m at =
      let files = p.files in
      let r = own_filed files sound.classes sound.exports c (has_named (world p) x c e) own in
      let tree = r.1 in
      let q = tree_of tree.methods k m (ap (λ (d : Class). slice_get d.methods k) (sym r.3) ∙ at) in
      record {
        tree = tree;
        method = q.0;
        number = r.0;
        in_list = r.2;
        there = q.1;
        is = q.2;
        kind = sym (ap (λ (d : Class). is_interface d.flags) r.3);
        fits = fit-method list files codes settings unbroken.flags tree q.0 (get-has tree files.classes r.0 r.2) q.1;
      }

  pub access : ExportsHaveOneAccess (world p) → HaveOneAccess (world p)
  access exports x c m e i exposed = by c.is_imported refl
    where
      by : (b : Bool) → c.is_imported ≡ b → is_private m.flags ≡ false
      by true f = exports x c m e f i exposed
      by false f =
          let at = place_in c.methods m i in
          let r = stands x c e f at.0 m at.1 in
          let t = r.method in
          let A = is_abstract t.flags in
          let N = is_initialiser t.name in
          let first = A && (is_constructor t.name || N) in
          let second = N && not (is_static t.flags) in
          let third = is_interface r.tree.flags && is_some t.code && not N in
          let kind = is_unfit_method_kind t.flags in
          let kind_off = or_left kind first (or_left (kind || first) second (or_left (kind || first
          || second) third r.fits)) in
          let n = has t.flags 0x0100 in
          let s = has t.flags 0x0020 in
          let w = has t.flags 0x0800 in
          let two_off = or_right (n || s || w) (has_two_accesses t.flags) (or_left (n || s || w
          || has_two_accesses t.flags) (A && (is_static t.flags || is_private t.flags)) kind_off) in
          let same_exposed : is_exposed t.flags ≡ true = ap (λ (q : Member). is_exposed q.flags) r.is ∙ exposed in
          sym (ap (λ (q : Member). is_private q.flags) r.is) ∙ one_access (is_public t.flags) (is_private t.flags)
          (is_protected t.flags) two_off same_exposed

  -- one of an interface that is static, or named like a constructor
  initialiser : (x : List ℕ) (c : Class) → class_named (world p) x ≡ Some c → c.is_imported ≡ false
      → is_interface c.flags ≡ true → (k : ℕ) (m : Member) → slice_get c.methods k ≡ Some m → (is_static m.flags ≡ true)
      ⊎ (is_constructor m.name ≡ true) → is_initialiser m.name ≡ true
  initialiser x c e own interface k m at which =
      let r = stands x c e own k m at in
      let t = r.method in
      let read = sound.read in
      let spelt = read.classes r.number r.tree r.in_list in
      ap (λ (q : Member). is_initialiser q.name) (sym r.is)
      ∙ bound (is_abstract t.flags) (is_static t.flags) (is_private t.flags) (has t.flags 0x0100) (has t.flags 0x0020)
      (has t.flags 0x0800) (has_two_accesses t.flags) (is_constructor t.name) (is_initialiser t.name)
      (is_some t.code)
      (subst (λ (q : Member). (is_static q.flags ≡ true) ⊎ (is_constructor q.name ≡ true)) (sym r.is) which)
      (ap (λ b. is_unfit_method b t.flags t.name (is_some t.code)) (sym (r.kind ∙ interface)) ∙ r.fits)
      (λ native abstract. has-code r.tree spelt.0 t spelt.1 r.there abstract native)

  pub statics : NoStaticMethods (world p)
  statics x c e own interface k m at static = initialiser x c e own interface k m at (inl static)

  pub unbound : InterfacesAreUnbound p
  unbound x c e own interface k m at = by (is_exposed m.flags) (is_static m.flags) (is_constructor m.name)
      (is_initialiser m.name) (λ s. initialiser x c e own interface k m at (inl s)) (λ s. initialiser x c e own
      interface k m at (inr s))
    where
      by : (a s c n : Bool) → (s ≡ true → n ≡ true) → (c ≡ true → n ≡ true) → (a && (s || c) && not n) ≡ false
      by true true c true f g = refl
      by true true c false f g = let no_way = f refl in absurd (cc)
      by true false true true f g = refl
      by true false true false f g = let no_way = g refl in absurd (cc)
      by true false false n f g = refl
      by false s c n f g = refl
