-- What an invokevirtual calls is a virtual method that calls can name.
use Rattle.std.proofs.Common.{◌≡◌, ℕ, suc, refl, sym, ap, subst, ◌∙◌, Bool, true, false, List, [], ◌∷◌, ◌++◌, inl, inr}
use Rattle.std.proofs.Common.{⊎_elim}
use Rattle.std.specs.Prelude.{◌⊎◌, ◌||◌, Some, None, slice_get, if◌then◌else◌}
use Rattle.std.specs.List.{Contains}
use Rattle.cjc_bytes.specs.AccessFlags.{is_abstract, is_interface, is_public}
use Rattle.cjc_bytes.specs.declared.fault.MemberId.{MemberId}
use Rattle.cjc_jvm_semantics.specs.OnePackage.{of_class}
use Rattle.cjc_token_proof.proofs.WorldProofTypes.{below_type, receiver_class}
use Rattle.cjc_shape_proof.specs.WorldProof.Calls.Solid.{IsSolid}
use Rattle.cjc_token_proof.specs.Calls.Selecting.{signature}
use Rattle.cjc_world.specs.ClassFile.declared.tree.ClassTree.{ClassTree}
use Rattle.cjc_components.specs.Bytecode.declared.method_code.MethodCode.{MethodCode}
use Rattle.cjc_components.specs.Bytecode.declared.insn.JOp.TheVariants as jop
use Rattle.cjc_components.specs.Package.{Package, world}
use Rattle.cjc_shape_proof.specs.LowerJudge.Rules.{settings_of}
use Rattle.cjc_token_proof.specs.List.Listed.{ListTree}
use Rattle.cjc_theorem.proofs.AlikeLaws.NamedLaws.Names.{Calls_method, called, virtual_class, virtual_owner}
use Rattle.cjc_token_proof.specs.Narrow.Rows.Resolved.{resolved_method, virtual_by}
use Rattle.cjc_narrow_proof.specs.Laws.Unbroken.{IsInsnOf, KeepsNames}
use Rattle.cjc_ncode.specs.ByLabel.{OnObject}
use Rattle.cjc_vtable.specs.Meant.{AskedHaveTokens}
use Rattle.cjc_tokens.specs.Lines.{line_of}
use Rattle.cjc_tokens.specs.Members.{Signature, all_methods, chosen, is_constructor, is_initialiser, signature_of}
use Rattle.cjc_tokens.specs.Methods.{interface_methods, interfaces_at}
use Rattle.cjc_tokens.proofs.Facts.{chosen-In, chosen-passes}
use Rattle.cjc_world.specs.Upwards.{Below, IsOrdered, OnLine, here}
use Rattle.cjc_world.proofs.UpwardLaws.Lines.{below_abroad, below_on, of_line, on_line}
use Rattle.cjc_vtable.specs.Calls.{finds_hidden, is_special, selects, selects_shown}
use Rattle.cjc_vtable.specs.Kept.{Keeps}
use Rattle.cjc_vtable.specs.Laws.{KeepsRules, Under, selection}
use Rattle.cjc_vtable.proofs.Asked.{Among, at_head, further, has-here, method-asked, named-among, public-shown}
use Rattle.cjc_world.specs.declared.found.Found.{Found}
use Rattle.cjc_world.specs.Classes.{Class, Member, class_named}
use Rattle.cjc_world.specs.Added.{asked_by, own_methods}
use Rattle.cjc_world.specs.Interfaces.{known}
use Rattle.cjc_world.specs.Supertypes.{AreSupertypes, Supertypes, supertypes, line}
use Rattle.cjc_world.specs.Lookup.{own_method}
use Rattle.cjc_world.specs.Subtype.{is_subtype}
use Rattle.cjc_token_proof.specs.WrittenCalls.Calls.{IsNamed, IsSought, got, hidden, on_object}
use Rattle.cjc_shape_proof.proofs.WrittenLaws.Checked.{own_names, read_files}
use Rattle.cjc_shape_proof.proofs.WrittenLaws.Checked.{own_solid, own_subtypes}
use Rattle.cjc_shape_proof.specs.Written.Checked.{IsOfFiles}
use Rattle.cjc_theorem.proofs.AlikeLaws.VirtualCalls.Chosen.{first_found, own_any}
use Rattle.cjc_theorem.proofs.AlikeLaws.VirtualCalls.Found.{called_signature, none_on_line, stands_there}
use Rattle.cjc_theorem.proofs.AlikeLaws.VirtualCalls.MethodKinds.{keeps_kinds}
use Rattle.cjc_theorem.proofs.AlikeLaws.VirtualCalls.Lines.{HasHidden, HasShown, KeepsKinds, shown_selected}
use Rattle.cjc_theorem.proofs.AlikeLaws.VirtualCalls.Places.{has_place}
use Rattle.cjc_theorem.proofs.AlikeLaws.VirtualCalls.Sought.{hidden_sought, shown_sought}
use Rattle.cjc_theorem.proofs.AlikeLaws.VirtualCalls.Ways.{line_finds, under_below}

pub among_get : (i : Class) (is : List Class) → Among i is → (j : ℕ) × (slice_get is j ≡ Some i)
among_get i [] a = elim a [ ]
among_get i (c ∷ is) at_head = (0, refl)
among_get i (c ∷ is) (further a) = let r = among_get i is a in (suc r.0, r.1)

module _ (list : ListTree) (codes : List MethodCode) (p : Package) (is : IsOfFiles list codes p)
    (are_supertypes : (xs : List (List ℕ)) → AreSupertypes (world p) xs (supertypes (world p) xs)) (one_supertypes :
    (xs : List (List ℕ)) (j k : Supertypes) → AreSupertypes (world p) xs j → AreSupertypes (world p) xs k
    → j ≡ k) (keeps : Keeps (world p)) where
  abbrev w : List Class
  w = world p

  abbrev rules : KeepsRules w
  rules = keeps.rules

  abbrev u : KeepsNames list.name p.files codes (settings_of list)
  u = own_names list codes p is.checked

  abbrev solid : IsSolid p.files
  solid = own_solid list codes p is.checked

  abbrev ordered : IsOrdered w
  ordered = (let s = own_solid list codes p is.checked in s.ordered)

  pub own_kinds : KeepsKinds w
  own_kinds = keeps_kinds list.name p.files codes (settings_of list) (let q = u in q.checks) (let o = ordered
      in o.acyclic)

  -- what stands at or above a class that is no interface is sought
  pub sought_there : (m : MemberId) (d : Class) → class_named w m.class ≡ Some d → is_interface d.flags ≡ false
      → HasShown w m.class (signature m) ⊎ HasHidden w m.class (signature m) → IsSought w m
  sought_there m d named class_here h = ⊎_elim (λ a. shown_sought w are_supertypes one_supertypes rules m d named
      class_here a) (λ a. hidden_sought w are_supertypes one_supertypes rules own_kinds m a) h

  -- a class is of what stands above it
  pub of_above : (x : List ℕ) (c d : Class) → class_named w x ≡ Some c → class_named w d.name ≡ Some d
      → Below w x d.name → is_subtype w x d.name ≡ true
  of_above x c d e f way = let s = solid in below_type w x d.name (s.plain d.name d f) (subst (λ y. Below w y d.name)
      (sym (receiver_class x (s.plain x c e))) way)

  -- ---- a method that is found in an interface alone

  -- what an interface lists or inherits has a place among its methods
  abbrev pub ListsMethods : Type 0
  ListsMethods = (c : Class) (m : Member) → Contains (if c.is_imported then own_methods c
      else asked_by (supertypes w c.supers) (supertypes w c.interfaces) ++ own_methods c) m → (t : ℕ)
      × (slice_get (interface_methods w c) t ≡ Some (signature_of m))

  module _ (asked : AskedHaveTokens w) (listed_methods : ListsMethods) (class : ClassTree) (id : MemberId)
      (n : Calls_method list codes p is class 0xB6 id) (own : (let c = n.named_class in c.is_imported) ≡ false)
      (interface : (let d = n.owner in is_interface d.flags) ≡ true) where
    abbrev s : Signature
    s = signature id

    plain_class : (let c = n.named_class in is_interface c.flags) ≡ false
    plain_class = virtual_class list codes p is class id n

    plain_name : is_special s ≡ false
    plain_name = let f = n.fits in either (is_constructor id.name) (is_initialiser id.name) (f.no_constructor refl)
        f.no_initialiser
      where
        either : (a b : Bool) → a ≡ false → b ≡ false → (a || b) ≡ false
        either false false e f = refl
        either true b e f = absurd cc
        either false true e f = absurd cc

    -- its place among the methods of the interface
    placed : (k : ℕ) × (slice_get (interface_methods w n.owner) k ≡ Some s)
    placed =
        let a = n.at in
        let f = n.fits in
        let m = a.member in
        let r = has_place p.files (let q = read_files list codes p is.checked in q.exports) listed_methods
        (let d = n.owner in d.name) n.owner n.named interface a.place m a.is_member (ap is_initialiser a.has_name
        ∙ f.no_initialiser) in
        (r.0, r.1 ∙ ap Some (called_signature list codes p is class 0xB6 id n))

    -- the interface among those of a class below the named one
    listed : (x : List ℕ) (c : Class) → class_named w x ≡ Some c → is_interface c.flags ≡ false → Below w x id.class
        → Among n.owner (known (interfaces_at w c))
    listed x c e plain way =
        let subtypes = own_subtypes list codes p is.checked in
        named-among (known (interfaces_at w c)) (let d = n.owner in d.name) n.owner
        (subtypes.implements x (let d = n.owner in d.name) c n.owner e plain n.named interface (of_above x c n.owner e
        n.named (below_on w x id.class (let d = n.owner in d.name) way n.below)))

    -- selection on a class whose objects are there gives a public one
    public_one : (x : List ℕ) (c : Class) (f : Found) → class_named w x ≡ Some c → c.is_imported ≡ false
        → is_interface c.flags ≡ false → is_abstract c.flags ≡ false → Under w x id.class → selection w x s ≡ Some f
        → selects_shown (line_of w x) s ≡ true
    public_one x c f e own_class plain made under sel =
        let at = placed in
        let a = method-asked w are_supertypes one_supertypes c n.owner s (listed x c e plain (under_below w x id.class
        under)) (has-here (interface_methods w n.owner) at.0 s at.1) in
        let given = (let i = keeps.interfaces in i.methods) x c a.0 e own_class made a.1 in
        let r = first_found true s (line w x) f sel in
        let m = (let q = r.at in q.method) in
        let both : Some m ≡ Some given.0 = sym r.of_all ∙ sym (ap (λ v. chosen selects v (all_methods (line w x))) a.2)
        ∙ given.1 in
        let one : m ≡ given.0 = cc in
        let first_one = (let q = r.at in q.is_first) in
        let d = r.class in
        let is_m = chosen-passes selects s d.methods m first_one in
        shown_selected w are_supertypes one_supertypes rules x s (record {
          class = d;
          on = of_line w (let o = ordered in o.acyclic) x d r.among;
          method = m;
          among = chosen-In selects s d.methods m first_one;
          shown = public-shown m s is_m.0 is_m.1 (ap (λ (v : Member). is_public v.flags) one ∙ given.2) plain_name;
          one = is_m.0;
          is_first = λ o. first_one;
        })

    -- nothing is selected on the named class itself
    none_selected : {A : Type 0} (f : Found) → selection w id.class s ≡ Some f → A
    none_selected f sel =
        let r = first_found true s (line w id.class) f sel in
        let g = own_any s r.class f r.own in
        let q = line_finds w ordered (own_method false id.name id.desc) id.class r.class g.0 (of_line w (let o = ordered
        in o.acyclic) id.class r.class r.among) g.1 in
        let clash : Some q.0 ≡ None = sym q.1 ∙ none_on_line list codes p is class 0xB6 id n plain_class
        interface in
        absurd cc

    selects_below : (x : List ℕ) (c : Class) (f : Found) → class_named w x ≡ Some c → is_interface c.flags ≡ false
        → (x ≡ id.class) ⊎ (c.is_imported ≡ false → is_abstract c.flags ≡ false) → Under w x id.class
        → selection w x s ≡ Some f → selects_shown (line_of w x) s ≡ true
    selects_below x c f e plain (inl same_one) under sel = none_selected f (ap (λ y. selection w y s) (sym same_one)
        ∙ sel)
    selects_below x c f e plain (inr made) under sel = by c.is_imported refl
      where
        by : (b : Bool) → c.is_imported ≡ b → selects_shown (line_of w x) s ≡ true
        by false g = public_one x c f e g plain (made g) under sel
        by true g =
            let clash : true ≡ false = sym (below_abroad w ordered x id.class c n.named_class (under_below w x id.class
            under) e g n.names_class) ∙ own in
            absurd cc

    pub interface_sought : IsSought w id
    interface_sought = by (finds_hidden (line_of w id.class) s) refl
      where
        by : (b : Bool) → finds_hidden (line_of w id.class) s ≡ b → IsSought w id
        by true e = hidden e
        by false e =
            let at = placed in
            let j = among_get n.owner (known (interfaces_at w n.named_class)) (listed id.class n.named_class
            n.names_class plain_class (inl refl)) in
            let t = asked id.class n.named_class n.names_class own plain_class j.0 n.owner j.1 at.0 s at.1 in
            got t.0 t.1 e selects_below

  -- ---- all

  module _ (asked : AskedHaveTokens w) (listed_methods : ListsMethods) (class : ClassTree) (id : MemberId)
      (of : IsInsnOf p.files codes class (jop.Call 0xB6 id)) where
    abbrev n : Calls_method list codes p is class 0xB6 id
    n = called list codes p is class 0xB6 id of

    there : (x : List ℕ) → OnLine w x (let c = n in c.owner) → HasShown w x (signature id)
        ⊎ HasHidden w x (signature id)
    there x on = let c = n in let f = c.fits in stands_there list codes p is class 0xB6 id n
        (f.selectable refl refl) (f.no_constructor refl) x on

    virtual_sought : (let c = n in let k = c.named_class in k.is_imported) ≡ false → IsSought w id
    virtual_sought own = by (let c = n in let d = c.owner in is_interface d.flags) refl
      where
        by : (b : Bool) → (let c = n in let d = c.owner in is_interface d.flags) ≡ b → IsSought w id
        by true e = interface_sought asked listed_methods class id n own e
        by false e = let v = n in sought_there id v.named_class v.names_class (virtual_class list codes p is
            class id n) (there id.class (let c = n in on_line w ordered id.class (let d = c.owner
            in d.name) c.named_class c.owner c.below c.names_class (virtual_class list codes p is class id n)
            c.named e))

    pub virtual_named : IsNamed w (OnObject (virtual_by w id (class_named w id.class)))
    virtual_named = subst (λ o. IsNamed w (OnObject (virtual_by w id o))) (sym (let c = n in c.names_class))
        (by (let c = n in let k = c.named_class in k.is_imported) refl)
      where
        by : (b : Bool) → (let c = n in let k = c.named_class in k.is_imported) ≡ b
            → IsNamed w (OnObject (if b then resolved_method w id else id))
        by true import =
            let c = n in
            let f = c.fits in
            let q = of_class (let d = c.owner in d.name) id in
            subst (λ m. IsNamed w (OnObject m)) (sym c.resolved) (on_object c.owner c.named (virtual_owner list codes p
            is class id n import) f.no_initialiser (sought_there q c.owner c.named
            (virtual_owner list codes p is class id n import) (there q.class (here c.named))))
        by false own =
            let c = n in
            let f = c.fits in
            on_object c.named_class c.names_class (virtual_class list codes p is class id n) f.no_initialiser
            (virtual_sought own)
