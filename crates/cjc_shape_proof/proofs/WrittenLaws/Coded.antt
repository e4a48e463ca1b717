-- Where the methods of a package come from: each is a member of a class of the package, and where a class file has it,
-- its code is there and no initialiser's.
use Rattle.std.proofs.Common.{◌≡◌, ◌⊎◌, inl, inr, ⊎_elim, ℕ, zero, suc, ◌+◌, ◌-◌, ◌<◌, refl, sym, ap, subst, ◌∙◌, arith}
use Rattle.std.proofs.Common.{Bool, true, false, not, List, [], ◌∷◌, ◌++◌, length, map}
use Rattle.std.specs.Prelude.{IfSome, Option, Some, None, option_and_then, option_map, slice_get}
use Rattle.std.specs.Prelude.{if◌then◌else◌}
use Rattle.std.specs.Prelude as prelude
use Rattle.std.specs.List.{Contains}
use Rattle.std.specs.Str.{bytes_eq}
use Rattle.std.proofs.lemmas.List.{length-map}
use Rattle.std.proofs.lemmas.Option.{slice_get-map}
use Rattle.cjc_bytes.specs.AccessFlags.{is_interface}
use Rattle.cjc_bytes.proofs.Gets.{all_at, contained, get_below}
use Rattle.cjc_bytes.proofs.Lists.{none_left}
use Rattle.cjc_check_proof.proofs.TokenProofFiled.{own_filed}
use Rattle.cjc_check_proof.proofs.TokenProofOrder.{kind-in}
use Rattle.cjc_check_proof.specs.TokenProof.WrittenCalls.Standing.{AreMethods}
use Rattle.cjc_classes.specs.JvmSemantics.Linked.{Method}
use Rattle.cjc_classes.specs.JvmSemantics.OnePackage.{is_initialiser, method_at, method_by, method_in}
use Rattle.cjc_classes.specs.List.Listed.{ListTree}
use Rattle.cjc_classes.specs.Types.Tables.{IsMethodOf}
use Rattle.cjc_components.specs.Bytecode.Decoded.{decoded, insns_of, of_code, of_method}
use Rattle.cjc_components.specs.Bytecode.declared.insn.JInsn.{JInsn}
use Rattle.cjc_components.specs.Bytecode.PackageCodes.{all_codes}
use Rattle.cjc_components.specs.Bytecode.declared.method_code.MethodCode.{MethodCode}
use Rattle.cjc_components.specs.Limits.{form_breaks, layout_breaks, of_methods}
use Rattle.cjc_components.specs.Package.{LaidMethod, Package, world}
use Rattle.cjc_narrow_proof.proofs.LawsLaws.Own.{class_by_name, flags_by_name}
use Rattle.cjc_narrow_proof.specs.Laws.Unbroken.{IsInsnOf}
use Rattle.cjc_narrow_proof.specs.Selected.Keeps.{FindsItself}
use Rattle.cjc_shape.specs.LowerMethods.Ready.{IsOwn}
use Rattle.cjc_vtable.proofs.Filed.{get-has}
use Rattle.cjc_world.proofs.ClassFileFitting.{spelt_fits}
use Rattle.cjc_world.specs.Added.{added}
use Rattle.cjc_world.specs.ClassFile.Code.{CodeTree}
use Rattle.cjc_world.specs.ClassFile.Fits as fits
use Rattle.cjc_world.specs.ClassFile.declared.tree.ClassTree.{ClassTree}
use Rattle.cjc_world.specs.ClassFile.declared.tree.MethodTree.{MethodTree}
use Rattle.cjc_world.specs.Classes.{Class, Member, class_named, declared, field_of_class, method_of_class}
use Rattle.cjc_world.specs.Files.{Files}
use Rattle.cjc_world.specs.Lookup.{member_at}
use Rattle.cjc_world.specs.Order.{in_order, method_order, methods_in_turn, methods_of_class, places, written}
use Rattle.cjc_world.specs.declared.found.Found.{Found}
use Rattle.cjc_shape_proof.specs.Written.Checked.{IsChecked}
use Rattle.cjc_shape_proof.proofs.WrittenLaws.Checked.{files_sound}
use Rattle.cjc_shape_proof.proofs.WrittenLaws.Ordering.{IsOrdered, ordered_by}
use Rattle.cjc_shape_proof.proofs.WrittenLaws.Places.{coded_there}
use Rattle.cjc_shape_proof.proofs.WrittenLaws.Shaping.{members_own, none_broken}

-- ---- the class of a method in the order of Method

-- it is a member of the class, and one that stands among the class's own methods is no initialiser
pub record IsMemberOf (c : Class) (f : Found) : Type 0 where
  pub number : f.class ≡ c.number
  pub import : f.imported ≡ c.is_imported
  pub plain : (m : Member) → slice_get c.methods (f.member - length c.fields) ≡ Some m → is_initialiser m.name ≡ false

split : {A : Type 0} (f : A) (xs ys : List A) (k : ℕ) → slice_get (xs ++ ys) k ≡ Some f → ((j : ℕ)
    × (slice_get xs j ≡ Some f)) ⊎ ((j : ℕ) × (slice_get ys j ≡ Some f))
split f [] ys k e = inr (k, e)
split f (x ∷ xs) ys zero e = inl (0, e)
split f (x ∷ xs) ys (suc k) e = ⊎_elim (λ h. inl (suc h.0, h.1)) (λ h. inr h) (split f xs ys k e)

module _ (c : Class) (f : Found) where
  -- a method of the class file, by its place
  in_written : (i : ℕ) (ms : List Member) (j : ℕ) → slice_get (written c i ms) j ≡ Some f → (q : ℕ) × (m : Member)
      × (slice_get ms q ≡ Some m) × (is_initialiser m.name ≡ false) × (f ≡ member_at c (i + q))
  in_written i [] j e = cc
  in_written i (m ∷ ms) j e = by (bytes_eq m.name (prelude.codes "<clinit>")) refl j e (λ q h. later (in_written (i + 1)
      ms q h))
    where
      later : ((q : ℕ) × (x : Member) × (slice_get ms q ≡ Some x) × (is_initialiser x.name ≡ false)
          × (f ≡ member_at c (i + 1 + q)))
          → (q : ℕ) × (x : Member) × (slice_get (m ∷ ms) q ≡ Some x) × (is_initialiser x.name ≡ false)
          × (f ≡ member_at c (i + q))
      later r = let at : i + 1 + r.0 ≡ i + suc r.0 = omega arith
          in (suc r.0, r.1, r.2, r.3, r.4 ∙ ap (member_at c) at)

      by : (b : Bool) → bytes_eq m.name (prelude.codes "<clinit>") ≡ b → (j : ℕ)
          → slice_get (if b then written c (i + 1) ms else member_at c i ∷ written c (i + 1) ms) j ≡ Some f
          → ((q : ℕ) → slice_get (written c (i + 1) ms) q ≡ Some f → (q : ℕ) × (x : Member)
          × (slice_get (m ∷ ms) q ≡ Some x) × (is_initialiser x.name ≡ false) × (f ≡ member_at c (i + q)))
          → (q : ℕ) × (x : Member) × (slice_get (m ∷ ms) q ≡ Some x) × (is_initialiser x.name ≡ false)
          × (f ≡ member_at c (i + q))
      by true g j e rest = rest j e
      by false g zero e rest =
          let same : member_at c i ≡ f = cc in
          let at : i ≡ i + 0 = omega arith in
          (0, m, refl, g, sym same ∙ ap (member_at c) at)
      by false g (suc j) e rest = rest j e

  -- one that the class got
  in_places : (i n j : ℕ) → slice_get (places c i n) j ≡ Some f → (q : ℕ) × (f ≡ member_at c (i + q))
  in_places i zero j e = cc
  in_places i (suc n) zero e =
      let same : member_at c i ≡ f = cc in let at : i ≡ i + 0 = omega arith in (0, sym same ∙ ap (member_at c) at)
  in_places i (suc n) (suc j) e =
      let r = in_places (i + 1) n j e in let at : i + 1 + r.0 ≡ i + suc r.0 = omega arith
      in (suc r.0, r.1 ∙ ap (member_at c) at)

  of_file : (j : ℕ) → slice_get (written c (length c.fields) c.methods) j ≡ Some f → IsMemberOf c f
  of_file j e =
      let r = in_written (length c.fields) c.methods j e in
      record {
        number = ap (λ (g : Found). g.class) r.4;
        import = ap (λ (g : Found). g.imported) r.4;
        plain = λ m at.
            let here : f.member ≡ length c.fields + r.0 = ap (λ (g : Found). g.member) r.4 in
            let same_place : r.0 ≡ f.member - length c.fields = omega (arith, here) in
            let both : Some r.1 ≡ Some m = sym r.2 ∙ ap (slice_get c.methods) same_place ∙ at in
            let same : r.1 ≡ m = cc in
            ap (λ (x : Member). is_initialiser x.name) (sym same) ∙ r.3;
      }

  of_others : (count j : ℕ) → slice_get (places c (length c.fields + length c.methods) count) j ≡ Some f
      → IsMemberOf c f
  of_others count j e =
      let r = in_places (length c.fields + length c.methods) count j e in
      record {
        number = ap (λ (g : Found). g.class) r.1;
        import = ap (λ (g : Found). g.imported) r.1;
        plain = λ m at.
            let here : f.member ≡ length c.fields + length c.methods + r.0 = ap (λ (g : Found). g.member) r.1 in
            let below = get_below c.methods (f.member - length c.fields) m at in
            absurd (omega (arith, here, below));
      }

  member_of : (w : List Class) (j : ℕ) → slice_get (methods_of_class w c) j ≡ Some f → IsMemberOf c f
  member_of w j e = ⊎_elim (λ h. of_file h.0 h.1) (λ h. of_others (length (added w c)) h.0 h.1)
      (split f (written c (length c.fields) c.methods) (places c (length c.fields + length c.methods)
      (length (added w c))) j e)

pub turn_class : (w cs : List Class) (k : ℕ) (f : Found) → slice_get (methods_in_turn w cs) k ≡ Some f → (j : ℕ)
    × (c : Class) × (slice_get cs j ≡ Some c) × IsMemberOf c f
turn_class w [] k f e = cc
turn_class w (c ∷ cs) k f e = ⊎_elim (λ here. (0, c, refl, member_of c f w here.0 here.1))
    (λ there. let r = turn_class w cs there.0 f there.1 in (suc r.0, r.1, r.2, r.3))
    (split f (methods_of_class w c) (methods_in_turn w cs) k e)

-- ---- where a method comes from

-- A method of a class file with its code, which a look-up of its own name finds.
pub record IsCoded (files : Files) (codes : List MethodCode) (m : LaidMethod) : Type 0 where
  pub code : MethodCode
  pub class : ClassTree
  pub method : MethodTree
  pub tree : CodeTree
  pub of : IsMethodOf files code class method tree
  pub number : code.class ≡ (let f = m.member in f.class)
  pub place : code.method ≡ (let f = m.member in f.member - length class.fields)
  pub listed : Contains codes code
  pub insns : (let x = method_by class method (Some tree) in x.insns) ≡ code.insns
  pub known : method_at files m.member ≡ Some (method_by class method (Some tree))
  pub found : FindsItself files class method
  pub some : 0 < length tree.bytes
  pub plain : is_initialiser method.name ≡ false

-- No class file has the method, or one has it without code, or with its code.
pub data ComesFrom (files : Files) (codes : List MethodCode) (m : LaidMethod) : Type 0 where
  from_none : method_at files m.member ≡ None → ComesFrom files codes m
  from_abstract : (class : ClassTree) (method : MethodTree) → method_at files m.member
      ≡ Some (method_by class method None) → ComesFrom files codes m
  from_code : IsCoded files codes m → ComesFrom files codes m

module _ (list : ListTree) (codes : List MethodCode) (p : Package) (is : IsChecked list codes p) (are : AreMethods p)
  where
    pub own_at : (k : ℕ) (m : LaidMethod) → slice_get p.methods k ≡ Some m → IsOwn p.files m.member
    own_at = members_own p are.members is.listed

    -- 311
    pub ordered_at : form_breaks p ≡ [] → (k : ℕ) (m : LaidMethod) → slice_get p.methods k ≡ Some m → IsOrdered m.code
    ordered_at forms k m e =
        let none = none_broken p own_at (layout_breaks p) (none_left (of_methods p (layout_breaks p)) _ forms) k m e in
        ordered_by m.code _ (none_left _ _ none)

    -- the class of a method of Method: of the package, and no interface
    pub record HasHolder (m : LaidMethod) : Type 0 where
      pub class : ClassTree
      pub is_class : (let w = p.files in slice_get w.classes (let f = m.member in f.class) ≡ Some class)
      pub no_interface : is_interface class.flags ≡ false
      pub named : class_named (world p) class.name ≡ Some (declared (let f = m.member in f.class) class)
      pub own : (let f = m.member in f.imported) ≡ false
      -- and where the class file has the method, it is no initialiser
      pub plain : (x : MethodTree) → slice_get class.methods (let f = m.member in f.member - length class.fields) ≡
          Some x
          → is_initialiser x.name ≡ false

    pub holder : (k : ℕ) (m : LaidMethod) → slice_get p.methods k ≡ Some m → HasHolder m
    unfolding method_order
    holder k m e =
        let sound = files_sound list codes p is in
        let f = m.member in
        let member : slice_get (methods_in_turn (world p) (in_order (world p) false)) k ≡ Some f =
        ap (λ fs. slice_get fs k) (sym are.members) ∙ slice_get-map (λ (x : LaidMethod). x.member) p.methods k
        ∙ ap (option_map (λ (x : LaidMethod). x.member)) e in
        let turn = turn_class (world p) (in_order (world p) false) k f member in
        let c = turn.1 in
        let kind = kind-in list.name p.files sound false c (get-has c (in_order (world p) false) turn.0 turn.2) in
        let tree = own_filed p.files sound.classes sound.exports c kind.0 kind.1 in
        let number : f.class ≡ tree.0 = turn.3.number ∙ ap (λ (q : Class). q.number) tree.3 in
        record {
          class = tree.1;
          is_class = ap (slice_get (let w = p.files in w.classes)) number ∙ tree.2;
          no_interface = not_true (is_interface tree.1.flags) (ap (λ (q : Class). not (is_interface q.flags)) (sym
              tree.3)
              ∙ kind.2);
          named = class_by_name p.files list.name is.listed is.unbroken tree.0 tree.1 tree.2
              ∙ ap (λ n. Some (declared n tree.1)) (sym number);
          own = turn.3.import ∙ kind.1;
          plain = λ x at. turn.3.plain (method_of_class x)
              (ap (λ (q : Class). slice_get q.methods (f.member - length q.fields)) tree.3
              ∙ ap (λ n. slice_get (map method_of_class tree.1.methods) (f.member - n)) (length-map tree.1.fields
              field_of_class)
              ∙ slice_get-map method_of_class tree.1.methods (f.member - length tree.1.fields)
              ∙ ap (option_map method_of_class) at);
        }
      where
        not_true : (b : Bool) → not b ≡ true → b ≡ false
        not_true true h = cc
        not_true false h = refl

    -- the code of a method is among those of the package
    pub listed : (code : MethodCode) (class : ClassTree) (method : MethodTree) (tree : CodeTree)
        → IsMethodOf p.files code class method tree → Contains codes code
    listed code class method tree of =
        let at = coded_there 0 (let w = p.files in w.classes) code.class code.method class method tree code.insns
        of.is_class of.is_method of.is_code
        (sym (ap (of_code class method) of.is_code) ∙ sym (ap (of_method class) of.is_method) ∙ of.insns) in
        let number : 0 + code.class ≡ code.class = omega arith in
        subst (λ cs. Contains cs code) (sym is.codes_are)
        (contained (all_codes (let w = p.files in w.classes)) at.0 code (at.1
        ∙ ap (λ k. Some (record { class = k; method = code.method; insns = code.insns })) number))

    -- the code of a method of a class file has a byte
    some_bytes : (n i : ℕ) (class : ClassTree) (method : MethodTree) (tree : CodeTree)
        → (let w = p.files in slice_get w.classes n ≡ Some class) → slice_get class.methods i ≡ Some method
        → method.code ≡ Some tree → 0 < length tree.bytes
    some_bytes n i class method tree e f g =
        let r = is.classes n class e in
        let spelt = r.1 in
        let few = spelt_fits class r.0 spelt.in_bytes spelt.spelt in
        let one = all_at fits.MethodFits class.methods i method few.methods f in
        let code : fits.CodeFits tree = subst (λ o. IfSome o fits.CodeFits) g one.code in
        code.some

    module _ (k : ℕ) (m : LaidMethod) (e : slice_get p.methods k ≡ Some m) where
      abbrev f : Found
      f = m.member

      abbrev h : HasHolder m
      h = holder k m e

      at_tree : (x : Option MethodTree) → slice_get (let u = h.class in u.methods)
          (f.member - length (let u = h.class in u.fields)) ≡ x
          → method_at p.files f ≡ option_map (λ (y : MethodTree). method_by h.class y y.code) x
      at_tree x g =
          ap (λ b. if b then None else option_and_then (method_in f.member) (let w = p.files
          in slice_get w.classes f.class)) h.own
          ∙ ap (option_and_then (method_in f.member)) h.is_class
          ∙ ap (option_map (λ (y : MethodTree). method_by h.class y y.code)) g

      pub comes_from : ComesFrom p.files codes m
      unfolding decoded
      comes_from = go (slice_get (let u = h.class in u.methods) (f.member - length (let u = h.class in u.fields))) refl
        where
          coded : (x : MethodTree) → slice_get (let u = h.class in u.methods)
              (f.member - length (let u = h.class in u.fields)) ≡ Some x → (tree : CodeTree) → x.code ≡ Some tree
              → ComesFrom p.files codes m
          coded x g tree c =
              let n = f.member - length (let u = h.class in u.fields) in
              let d = is.decoded f.class n h.class x tree h.is_class g c in
              let code : MethodCode = record { class = f.class; method = n; insns = d.insns } in
              let of : IsMethodOf p.files code h.class x tree = record {
                is_class = h.is_class;
                is_method = g;
                is_code = c;
                bytes = d.bytes;
                insns = ap (of_method h.class) g ∙ ap (of_code h.class x) c ∙ d.decodes;
              } in
              from_code (record {
                code = code;
                class = h.class;
                method = x;
                tree = tree;
                of = of;
                number = refl;
                place = refl;
                listed = listed code h.class x tree of;
                insns = ap insns_of d.decodes;
                known = at_tree (Some x) g ∙ ap (λ o. Some (method_by h.class x o)) c;
                found = flags_by_name p.files list.name is.listed is.unbroken f.class h.class h.is_class n x g;
                some = some_bytes f.class n h.class x tree h.is_class g c;
                plain = h.plain x g;
              })

          by : (x : MethodTree) → slice_get (let u = h.class in u.methods)
              (f.member - length (let u = h.class in u.fields)) ≡ Some x → (o : Option CodeTree) → x.code ≡ o
              → ComesFrom p.files codes m
          by x g None c = from_abstract h.class x (at_tree (Some x) g ∙ ap (λ o. Some (method_by h.class x o)) c)
          by x g (Some tree) c = coded x g tree c

          go : (o : Option MethodTree) → slice_get (let u = h.class in u.methods)
              (f.member - length (let u = h.class in u.fields)) ≡ o → ComesFrom p.files codes m
          go None g = from_none (at_tree None g)
          go (Some x) g = by x g x.code refl

      -- the method of a class file for which it stands is no initialiser
      pub plain_here : (class : ClassTree) (method : MethodTree) (tree : CodeTree) → method_at p.files f
          ≡ Some (method_by class method (Some tree)) → is_initialiser method.name ≡ false
      plain_here class method tree at =
          go (slice_get (let u = h.class in u.methods) (f.member - length (let u = h.class in u.fields))) refl
        where
          name_by : (x : MethodTree) (o : Option CodeTree)
              → (let y = method_by h.class x o in let id = y.id in id.name) ≡ x.name
          name_by x None = refl
          name_by x (Some code) = refl

          go : (o : Option MethodTree) → slice_get (let u = h.class in u.methods)
              (f.member - length (let u = h.class in u.fields)) ≡ o → is_initialiser method.name ≡ false
          go None g =
              let clash : None ≡ Some (method_by class method (Some tree)) = sym (at_tree None g) ∙ at in
              absurd cc
          go (Some x) g =
              let both : Some (method_by h.class x x.code) ≡ Some (method_by class method (Some tree)) =
              sym (at_tree (Some x) g) ∙ at in
              let same : method_by h.class x x.code ≡ method_by class method (Some tree) = cc in
              ap is_initialiser (sym (ap (λ (y : Method). let id = y.id in id.name) same) ∙ name_by x x.code)
              ∙ h.plain x g

      -- its code is in the class
      pub coded_class : (c : IsCoded p.files codes m) → (let q = holder k m e in q.class) ≡ c.class
      coded_class c =
          let both : Some h.class ≡ Some c.class = sym h.is_class ∙ ap (slice_get (let w = p.files in w.classes))
          (sym c.number) ∙ (let o = c.of in o.is_class) in
          cc

      -- an instruction of its class file is one of the package's
      pub insn_of : (from : Method) → method_at p.files m.member ≡ Some from → (j : ℕ) (i : JInsn)
          → slice_get from.insns j ≡ Some i
          → ((let id = from.id in id.class) ≡ (let q = holder k m e in let c = q.class in c.name))
          × IsInsnOf p.files codes (let q = holder k m e in q.class) i.op
      insn_of from there j i at = by comes_from
        where
          by : ComesFrom p.files codes m
              → ((let id = from.id in id.class) ≡ (let q = holder k m e in let c = q.class in c.name))
              × IsInsnOf p.files codes (let q = holder k m e in q.class) i.op
          by (from_none none) = (let clash : None ≡ Some from = sym none ∙ there in absurd cc)
          by (from_abstract class method known) =
              let both : Some (method_by class method None) ≡ Some from = sym known ∙ there in
              let same : method_by class method None ≡ from = cc in
              let none : slice_get [] j ≡ Some i = ap (λ (q : Method). slice_get q.insns j) same ∙ at in
              absurd cc
          by (from_code c) =
              let both : Some (method_by c.class c.method (Some c.tree)) ≡ Some from = sym c.known ∙ there in
              let same : method_by c.class c.method (Some c.tree) ≡ from = cc in
              let own : h.class ≡ c.class = coded_class c in (
                ap (λ (q : Method). let id = q.id in id.class) (sym same) ∙ ap (λ (q : ClassTree). q.name) (sym own),
                subst (λ q. IsInsnOf p.files codes q i.op) (sym own)
                    (record {
                      code = c.code;
                      method = c.method;
                      tree = c.tree;
                      of_package = c.of;
                      written = c.plain;
                      listed = c.listed;
                      place = j;
                      insn = i;
                      is_insn = ap (λ is. slice_get is j) (sym c.insns) ∙ ap (λ (q : Method). slice_get q.insns j) same
                          ∙ at;
                      is_op = refl;
                    }),
              )
