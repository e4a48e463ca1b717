-- Each method with code that is no initialiser stands in Method.
use Rattle.std.proofs.Common.{◌≡◌, ℕ, zero, suc, ◌+◌, ◌-◌, ◌≤◌, ⊎_elim, refl, sym, ap, subst, ◌∙◌, arith, Bool, true}
use Rattle.std.proofs.Common.{false, List, [], ◌∷◌, ◌++◌, length}
use Rattle.std.specs.Prelude.{map, not, ◌&&◌, ◌||◌, Option, None, Some, is_some, option_and_then}
use Rattle.std.specs.Prelude.{option_map, slice_get, if◌then◌else◌}
use Rattle.std.proofs.lemmas.List.{length-map}
use Rattle.std.proofs.lemmas.Option.{slice_get_past, slice_get-map}
use Rattle.cjc_jvm_semantics.specs.Linked.{Method}
use Rattle.cjc_jvm_semantics.specs.OnePackage.{is_constructor, is_initialiser, method_at, method_by, method_in}
use Rattle.cjc_bytes.specs.AccessFlags.{is_abstract, is_interface, is_static}
use Rattle.cjc_bytes.specs.Descriptor.{IsClassName, IsName, inside, last, more, simple}
use Rattle.cjc_bytes.specs.declared.settings.Settings.{Settings}
use Rattle.cjc_bytes.proofs.Bools.{or_right}
use Rattle.cjc_bytes.proofs.Numbers.{first_byte}
use Rattle.cjc_token_proof.proofs.WorldProofOwn.{mapped_at, method_is}
use Rattle.cjc_world.specs.ClassFile.Code.{CodeTree}
use Rattle.cjc_world.specs.ClassFile.declared.tree.ClassTree.{ClassTree}
use Rattle.cjc_world.specs.ClassFile.declared.tree.MethodTree.{MethodTree}
use Rattle.cjc_world.specs.ExportFile.declared.tree.ExportClass.{ExportClass}
use Rattle.cjc_components.specs.Bytecode.declared.method_code.MethodCode.{MethodCode}
use Rattle.cjc_shape_proof.specs.LowerJudge.Spelt.{IsRead, exports_of}
use Rattle.cjc_shape_proof.specs.LowerJudge.declared.judged.Judged.{Judged}
use Rattle.cjc_token_proof.specs.List.Listed.{ListTree}
use Rattle.cjc_narrow_proof.proofs.LawsLaws.Own.{class_by_name}
use Rattle.cjc_shape_proof.proofs.ShapeSound.{listed, world_unbroken}
use Rattle.cjc_shape_proof.specs.LowerShape.Prepared.{IsSound}
use Rattle.cjc_token_proof.proofs.WorldProofRules.{method_kept}
use Rattle.cjc_theorem.proofs.SoundRuns.Read.{package_is, read_files}
use Rattle.cjc_token_proof.specs.Subset.Checks.{check_breaks}
use Rattle.cjc_token_proof.specs.Subset.Flags.{is_unfit_method_kind}
use Rattle.cjc_token_proof.specs.Subset.Members.{imports}
use Rattle.cjc_token_proof.proofs.TablesLaws.Clean.{has_named}
use Rattle.cjc_token_proof.proofs.TablesLaws.Order.{kind-has, kind-in}
use Rattle.cjc_token_proof.specs.Tables.Sound.{IsSound as IsSoundPackage, export_count}
use Rattle.cjc_token_proof.proofs.TablesLaws.Filed.{has-back, has-front, own_filed}
use Rattle.cjc_vtable.proofs.Filed.{Has, at_front, behind, get-has, has-get, has-either}
use Rattle.cjc_world.specs.Added.{added}
use Rattle.cjc_world.specs.Classes.{Class, Member, all_classes, declared, field_of_class, method_of_class}
use Rattle.cjc_world.specs.Files.{Files}
use Rattle.cjc_world.specs.Lookup.{member_at}
use Rattle.cjc_world.specs.Order.{in_order, method_order, methods_in_turn, methods_of_class, places, written}
use Rattle.cjc_world.specs.Subtype.{starts}
use Rattle.cjc_world.specs.declared.found.Found.{Found}
use Rattle.cjc_shape_proof.proofs.WrittenLaws.Lines.{exports_few}

-- ---- names

plain_name : (name back : List ℕ) → IsName name → starts 91 (name ++ back) ≡ false
plain_name _ back (last e) = first_byte _ e
plain_name _ back (more e rest) = first_byte _ e

no_array : (name : List ℕ) → IsClassName name → starts 91 name ≡ false
no_array name (simple n) = ap (starts 91) (sym (end name)) ∙ plain_name name [] n
  where
    end : (xs : List ℕ) → xs ++ [] ≡ xs
    end [] = refl
    end (x ∷ xs) = ap (λ ys. x ∷ ys) (end xs)
no_array _ (inside {front = front} {back = back} n rest) = plain_name front (47 ∷ back) n

-- ---- the order of methods

module _ (w : List Class) where
  in_written : (c : Class) (at i : ℕ) (ms : List Member) (m : Member) → slice_get ms i ≡ Some m → is_initialiser m.name
      ≡ false → Has (member_at c (at + i)) (written c at ms)
  in_written c at i [] m e plain = absurd cc
  in_written c at zero (x ∷ ms) m e plain =
      let same : x ≡ m = cc in
      let none : at + 0 ≡ at = omega arith in
      subst (λ k. Has (member_at c k) (written c at (x ∷ ms))) (sym none) (by (is_initialiser x.name)
      (ap (λ (v : Member). is_initialiser v.name) same ∙ plain))
    where
      by : (b : Bool) → b ≡ false → Has (member_at c at) (if b then written c (at + 1) ms else member_at c at
          ∷ written c (at + 1) ms)
      by true f = absurd cc
      by false f = at_front
  in_written c at (suc i) (x ∷ ms) m e plain =
      let next : at + 1 + i ≡ at + suc i = omega arith in
      subst (λ k. Has (member_at c k) (written c at (x ∷ ms))) next (by (is_initialiser x.name) (in_written c (at + 1) i
      ms m e plain))
    where
      by : (b : Bool) → Has (member_at c (at + 1 + i)) (written c (at + 1) ms) → Has (member_at c (at + 1 + i)) (if b
          then written c (at + 1) ms else member_at c at ∷ written c (at + 1) ms)
      by true h = h
      by false h = behind h

  in_turn : (c : Class) (f : Found) (cs : List Class) → Has c cs → Has f (methods_of_class w c)
      → Has f (methods_in_turn w cs)
  in_turn c f [] there h = elim there [ ]
  in_turn c f (d ∷ cs) at_front h = has-front f (methods_of_class w d) (methods_in_turn w cs) h
  in_turn c f (d ∷ cs) (behind there) h = has-back f (methods_of_class w d) (methods_in_turn w cs)
      (in_turn c f cs there h)

  -- ---- initialisers

  -- A method that stands in Method is one of its class's own, and no initialiser, or one that the class got.
  data IsOrdered (c : Class) (f : Found) : Type 0 where
    own : (i : ℕ) (m : Member) → slice_get c.methods i ≡ Some m → is_initialiser m.name ≡ false
        → f ≡ member_at c (length c.fields + i) → IsOrdered c f
    got : (i : ℕ) → f ≡ member_at c (length c.fields + length c.methods + i) → IsOrdered c f

  -- those from a place on
  record IsWritten (c : Class) (ms : List Member) (at : ℕ) (f : Found) : Type 0 where
    place : ℕ
    member : Member
    there : slice_get ms place ≡ Some member
    plain : is_initialiser member.name ≡ false
    is : f ≡ member_at c (at + place)

  of_written : (c : Class) (f : Found) (at : ℕ) (ms : List Member) → Has f (written c at ms) → IsWritten c ms at f
  of_written c f at [] h = elim h [ ]
  of_written c f at (m ∷ ms) h = by (is_initialiser m.name) refl h (of_written c f (at + 1) ms)
    where
      later : IsWritten c ms (at + 1) f → IsWritten c (m ∷ ms) at f
      later r =
          let k = r.place in
          let next : at + 1 + k ≡ at + suc k = omega arith in
          record {
            place = suc k;
            member = r.member;
            there = r.there;
            plain = r.plain;
            is = r.is
                ∙ ap (member_at c) next;
          }

      front : is_initialiser m.name ≡ false → (g : Found) → Has f (g ∷ written c (at + 1) ms) → g ≡ member_at c at
          → (Has f (written c (at + 1) ms) → IsWritten c ms (at + 1) f) → IsWritten c (m ∷ ms) at f
      front plain g at_front is rest =
          let none : at ≡ at + 0 = omega arith in
          record { place = 0; member = m; there = refl; plain = plain; is = is ∙ ap (member_at c) none }
      front plain g (behind h) is rest = later (rest h)

      by : (b : Bool) → is_initialiser m.name ≡ b → Has f (if b then written c (at + 1) ms else member_at c at
          ∷ written c (at + 1) ms) → (Has f (written c (at + 1) ms) → IsWritten c ms (at + 1) f)
          → IsWritten c (m ∷ ms) at f
      by true e h rest = later (rest h)
      by false e h rest = front e (member_at c at) h refl rest

  of_places : (c : Class) (f : Found) (at count : ℕ) → Has f (places c at count) → (i : ℕ) × (f ≡ member_at c (at + i))
  of_places c f at zero h = elim h [ ]
  of_places c f at (suc n) h = go (member_at c at) refl h (of_places c f (at + 1) n)
    where
      go : (g : Found) → g ≡ member_at c at → Has f (g ∷ places c (at + 1) n) → (Has f (places c (at + 1) n) → (i : ℕ)
          × (f ≡ member_at c (at + 1 + i))) → (i : ℕ) × (f ≡ member_at c (at + i))
      go g is at_front rest = let none : at ≡ at + 0 = omega arith in (0, is ∙ ap (member_at c) none)
      go g is (behind later) rest =
          let r = rest later in
          let k = r.0 in
          let next : at + 1 + k ≡ at + suc k = omega arith in
          (suc k, r.1 ∙ ap (member_at c) next)

  of_class : (c : Class) (f : Found) → Has f (methods_of_class w c) → IsOrdered c f
  of_class c f h = ⊎_elim
      (λ a. (let r = of_written c f (length c.fields) c.methods a in own r.place r.member r.there r.plain r.is))
      (λ b. (let r = of_places c f (length c.fields + length c.methods) (length (added w c)) b in got r.0 r.1))
      (has-either f (written c (length c.fields) c.methods) (places c (length c.fields + length c.methods)
      (length (added w c))) h)

  in_order_of : (f : Found) (cs : List Class) → Has f (methods_in_turn w cs) → (c : Class) × Has c cs × IsOrdered c f
  in_order_of f [] h = elim h [ ]
  in_order_of f (c ∷ cs) h = ⊎_elim
      (λ a. (c, at_front, of_class c f a))
      (λ b. (let r = in_order_of f cs b in (r.0, behind r.1, r.2)))
      (has-either f (methods_of_class w c) (methods_in_turn w cs) h)

-- a method of a class file that is its class's own or one that it got
plain_of : (world : Files) (n : ℕ) (t : ClassTree) → slice_get world.classes n ≡ Some t → (f : Found) (x : Method)
    → IsOrdered (all_classes world) (declared n t) f → method_at world f ≡ Some x → is_initialiser (let id = x.id
    in id.name) ≡ false
plain_of world n t is_class f x (own i m there plain is) found =
    let tree = mapped_at method_of_class t.methods i m there in
    let both : Some (method_by t tree.0 (let q = tree.0 in q.code)) ≡ Some x =
    sym (method_is world n t i tree.0 is_class tree.1) ∙ ap (method_at world) (sym is) ∙ found in
    let same : method_by t tree.0 (let q = tree.0 in q.code) ≡ x = cc in
    ap (λ (y : Method). let id = y.id in is_initialiser id.name) (sym same) ∙ named tree.0 (let q = tree.0 in q.code)
    ∙ ap (λ (q : Member). is_initialiser q.name) (sym tree.2) ∙ plain
  where
    named : (q : MethodTree) (o : Option CodeTree) → (let y = method_by t q o in let id = y.id
        in is_initialiser id.name) ≡ is_initialiser q.name
    named q None = refl
    named q (Some code) = refl
plain_of world n t is_class f x (got i is) found =
    let fields = length-map t.fields field_of_class in
    let methods = length-map t.methods method_of_class in
    let past : length t.methods ≤ length (map field_of_class t.fields) + length (map method_of_class t.methods) + i -
    length t.fields = omega (arith, fields, methods) in
    let at = length (map field_of_class t.fields) + length (map method_of_class t.methods) + i in
    let none : method_at world (member_at (declared n t) at) ≡ None =
    ap (option_and_then (method_in at)) is_class ∙ ap (option_map (λ m. method_by t m m.code)) (slice_get_past t.methods
    (at - length t.fields) past) in
    let no : None ≡ Some x = sym none ∙ ap (method_at world) (sym is) ∙ found in
    absurd cc

-- ---- a package

no_bare : (interface code first : Bool) → (interface && code && not first) ≡ false → code ≡ true → first ≡ false
    → interface ≡ false
no_bare false code first e f g = refl
no_bare true true false e f g = absurd cc
no_bare true false first e f g = absurd cc
no_bare true true true e f g = absurd cc

-- one that breaks no rule of its files
module _ (list : List ℕ) (world : Files) (codes : List MethodCode) (settings : Settings)
    (sound : IsSoundPackage list world) (checks : check_breaks list world codes settings ≡ []) where
  -- 304
  no_interface : (n i : ℕ) (class : ClassTree) (method : MethodTree) (tree : CodeTree) → slice_get world.classes n
      ≡ Some class → slice_get class.methods i ≡ Some method → method.code ≡ Some tree → is_initialiser method.name
      ≡ false → is_interface class.flags ≡ false
  no_interface n i class method tree e f g plain =
      let kept = (method_kept list world codes settings checks n class e i method f).2 in
      let code : is_some method.code ≡ true = ap is_some g in
      let last : (is_interface class.flags && is_some method.code && not (is_initialiser method.name)) ≡ false =
      or_right ((is_unfit_method_kind method.flags || (is_abstract method.flags && (is_constructor method.name
      || is_initialiser method.name))) || (is_initialiser method.name && not (is_static method.flags)))
      (is_interface class.flags && is_some method.code && not (is_initialiser method.name)) kept in
      no_bare (is_interface class.flags) (is_some method.code) (is_initialiser method.name) last code plain

  pub stands : (n i : ℕ) (class : ClassTree) (method : MethodTree) (tree : CodeTree) → slice_get world.classes n
      ≡ Some class → slice_get class.methods i ≡ Some method → method.code ≡ Some tree → is_initialiser method.name
      ≡ false
      → (k : ℕ) × (f : Found) × (slice_get (method_order (all_classes world)) k ≡ Some f)
      × (method_at world f ≡ Some (method_by class method (Some tree)))
  unfolding method_order
  stands n i class method tree e f g plain =
      let w = all_classes world in
      let c = declared n class in
      let there : Has c w = has_named w class.name c (class_by_name world list sound.classes sound.unbroken
      n class e) in
      let ordered : Has c (in_order w false) = kind-has list world sound false c there refl
      (ap not (no_interface n i class method tree e f g plain)) in
      let member : slice_get c.methods i ≡ Some (method_of_class method) = slice_get-map method_of_class class.methods i
      ∙ ap (option_map method_of_class) f in
      let one = member_at c (length c.fields + i) in
      let own : Has one (methods_of_class w c) = has-front one (written c (length c.fields) c.methods)
      (places c (length c.fields + length c.methods) (length (added w c))) (in_written w c (length c.fields) i
      c.methods (method_of_class method) member plain) in
      let at = has-get one (methods_in_turn w (in_order w false)) (in_turn w c one (in_order w false) ordered own) in
      (at.0, one, at.1, method_is world n class i method e f ∙ ap (λ o. Some (method_by class method o)) g)

  -- what stands in Method is no initialiser
  pub plain_in_order : (k : ℕ) (f : Found) (x : Method) → slice_get (method_order (all_classes world)) k ≡ Some f
      → method_at world f ≡ Some x → is_initialiser (let id = x.id in id.name) ≡ false
  unfolding method_order
  plain_in_order k f x there found =
      let w = all_classes world in
      let r = in_order_of w f (in_order w false) (get-has f (methods_in_turn w (in_order w false)) k there) in
      let own = kind-in list world sound false r.0 r.1 in
      let filed = own_filed world sound.classes sound.exports r.0 own.0 own.1 in
      plain_of world filed.0 filed.1 filed.2 f x (subst (λ c. IsOrdered w c f) filed.3 r.2) found

-- one that was judged
module _ (list : ListTree) (files : List (List ℕ)) (judged : Judged) (is : IsSound list files judged) (of : IsRead list)
    (names : (n : ℕ) (c : ExportClass) → slice_get (imports judged.world.exports) n ≡ Some c → IsClassName c.name) where
  abbrev world : Files
  world = judged.world

  pub sound_package : IsSoundPackage list.name judged.world
  sound_package =
      let read = is.judged_by.read in
      let files_read = read_files list files judged is in
      let few : length (exports_of read.trees) ≤ export_count list.lines = exports_few list.lines files read.trees
      read.spelt in
      record {
        classes = listed list files judged is;
        exports = subst (λ ts. length ts ≤ export_count world.lines) (sym read.exports)
            (subst (λ ls. length (exports_of read.trees) ≤ export_count ls)
            (sym (ap (λ (v : Files). v.lines) is.judged_by.world)) few);
        read = record {
          package_name = no_array world.package_name (package_is list files judged is of);
          classes = λ n c e. (let r = files_read.classes n c e in (r.0, r.2));
          exports = files_read.exports;
        };
        names = λ k c e. no_array c.name (names k c e);
        unbroken = world_unbroken list files judged is;
      }
