-- Classes from outside in a group: their tokens are the same to each package that knows them, each method that is
-- selected there in the joint world has one, and each token makes the event of its method.
use Rattle.std.proofs.Common.{◌≡◌, ℕ, zero, suc, refl, sym, ap, subst, ◌∙◌, Bool, true, false, List, [], ◌∷◌, ⊎_elim}
use Rattle.std.specs.Prelude.{◌==◌, ◌&&◌, ◌||◌, Option, Some, None, cond, find, map, not, slice_get, unwrap_or}
use Rattle.std.specs.Prelude.{if◌then◌else◌}
use Rattle.std.specs.List.{AllByRecursion}
use Rattle.std.specs.Str.{bytes_eq}
use Rattle.cjc_bytes.specs.AccessFlags.{is_interface, is_static}
use Rattle.cjc_bytes.proofs.Bools.{and_true, clash}
use Rattle.cjc_bytes.proofs.Gets.{find_got}
use Rattle.cjc_bytes.proofs.Lists.{bytes_true, name_is}
use Rattle.cjc_bytes.proofs.Numbers.{number_same, number_same_number}
use Rattle.cjc_components.specs.Package.{Package, world}
use Rattle.cjc_jvm_semantics.specs.Group.{is_open, own_where}
use Rattle.cjc_joint_proof.specs.JointPackages.{class_together, files_together}
use Rattle.cjc_joint_proof.specs.JointTables.{world_together}
use Rattle.cjc_joint_proof.specs.JointTowers.{loaded_together}
use Rattle.cjc_joint_proof.specs.Worlds.{outside_classes}
use Rattle.cjc_joint_proof.proofs.ClassLaws.{entry_in, found_in, named_in, number_in, together_at}
use Rattle.cjc_joint_proof.proofs.StandLaws.{Inside, Outside, stands}
use Rattle.cjc_joint_proof.proofs.WorldLaws.{outside_is_found}
use Rattle.cjc_joint_theorem.proofs.OrderedLaws.Ordered.{IsJoint, joint_class, ordered, outside_file, own_file}
use Rattle.cjc_joint_theorem.proofs.OrderedLaws.Standing.{are_apart, class_stands}
use Rattle.cjc_theorem.proofs.AlikeLaws.VirtualCalls.Chosen.{has_methods}
use Rattle.cjc_token_proof.proofs.WrittenCalls.Facts.{Facts}
use Rattle.cjc_token_proof.proofs.WrittenCalls.Files.{export_at, export_from, export_virtual, in_at, lists_one, place_in}
use Rattle.cjc_token_proof.proofs.WrittenCalls.Towers.{line_is}
use Rattle.cjc_token_proof.specs.Calls.Dispatching.{event}
use Rattle.cjc_token_proof.specs.CardSemantics.Machine.Classes.{External, Own}
use Rattle.cjc_token_proof.specs.CardSemantics.Machine.Dispatch.{Outward, dispatched_open, dispatched_outward}
use Rattle.cjc_token_proof.specs.CardSemantics.Machine.Dispatch.{exported_line, in_files, outward, tower}
use Rattle.cjc_token_proof.specs.CardSemantics.Machine.Loaded.{Loaded}
use Rattle.cjc_token_proof.specs.Tables.Infos.{HasEntry}
use Rattle.cjc_tokens.specs.Lines.{Declared, Imported, line_in, line_of}
use Rattle.cjc_tokens.specs.Members.{In, Signature, all_methods, is_exposed, is_initialiser, is_shown, is_virtual}
use Rattle.cjc_tokens.specs.Members.{signature_of}
use Rattle.cjc_tokens.specs.Slots.{listed_slots, slots, token}
use Rattle.cjc_tokens.proofs.Held.{listed_slot, token-slot}
use Rattle.cjc_tokens.proofs.Walks.{supertypes-known}
use Rattle.cjc_vtable.specs.Calls.{is_special}
use Rattle.cjc_vtable.specs.Laws.{TokensOnce, itself}
use Rattle.cjc_vtable.proofs.Given.{In-split}
use Rattle.cjc_world.specs.Added.{added}
use Rattle.cjc_world.specs.Classes.{Class, Member, class_named, imported, method_of_export}
use Rattle.cjc_world.specs.ExportFile.Supers as exports
use Rattle.cjc_world.specs.ExportFile.Supers.{IsAtOrAbove, above, at, is_one_of, virtual_method}
use Rattle.cjc_world.specs.ExportFile.declared.tree.ExportClass.{ExportClass}
use Rattle.cjc_world.specs.ExportFile.declared.tree.ExportMethod.{ExportMethod}
use Rattle.cjc_world.specs.Files.{Files}
use Rattle.cjc_world.specs.Lookup.{first, is_selectable}
use Rattle.cjc_world.specs.Supertypes.{Lists, after, foremost, line, supertypes, upwards}
use Rattle.cjc_world.specs.Upwards.{Has, IsOrdered, OnLine, here, up}
use Rattle.cjc_world.specs.Upwards as upward
use Rattle.cjc_world.specs.declared.found.Found.{Found}
use Rattle.cjc_world.proofs.Cycles.{class_named-name}
use Rattle.cjc_world.proofs.ExportFileUpwards.{all_found, each_own, found_is}
use Rattle.cjc_world.proofs.Settled.{lists-front}
use Rattle.cjc_world.proofs.UpwardLaws.Lines.{below_abroad, first_has, in_line, line_begins, line_below, line_named}
use Rattle.cjc_world.proofs.UpwardLaws.Lines.{line_on, of_line, same_class}
use Rattle.cjc_joint_whole.specs.Selected.{IsOutside, OutsideAgrees, OutsideClassesAgree, SelectTogether, TokensAt}
use Rattle.cjc_joint_whole.proofs.WholeLaws.FixedNamed.{AloneLaws}
use Rattle.cjc_joint_whole.proofs.WholeLaws.OutsideLines.{IsSame, fit_above, line_methods, outside_class, same_methods}
use Rattle.cjc_joint_whole.proofs.WholeLaws.OutsideLines.{same_supers}
use Rattle.cjc_joint_whole.proofs.WholeLaws.Shown.{called_parts, open_parts, where_at}

-- ---- lists

-- a method of some classes is one of a class among them
of_class : (cs : List Class) (m : Member) → In m (all_methods cs) → (b : Class) × Has b cs × In m b.methods
of_class [] m i = elim i [ ]
of_class (c ∷ cs) m i = ⊎_elim (λ a. (c, upward.foremost, a)) (λ b. (let r = of_class cs m b in (
  r.0,
  upward.after r.1,
  r.2,
))) (In-split m c.methods (all_methods cs) i)

one_lists : (y : List ℕ) (xs : List (List ℕ)) → is_one_of xs y ≡ true → Lists y xs
one_lists y [] e = cc
one_lists y (x ∷ xs) e = by (bytes_eq x y) refl e (one_lists y xs)
  where
    by : (t : Bool) → bytes_eq x y ≡ t → (t || is_one_of xs y) ≡ true → (is_one_of xs y ≡ true → Lists y xs)
        → Lists y (x ∷ xs)
    by true f h rest = subst (λ z. Lists y (z ∷ xs)) (sym (bytes_true x y f)) foremost
    by false f h rest = after (rest h)

find_there : {A : Type 0} (test : A → Bool) (xs : List A) (k : ℕ) (x : A) → slice_get xs k ≡ Some x → test x ≡ true
    → (y : A) × (find test xs ≡ Some y)
find_there test [] k x e f = cc
find_there test (z ∷ xs) zero x e f = let same : z ≡ x = cc in (
  z,
  ap (λ t. cond t (Some z) (find test xs)) (ap test
      same ∙ f),
)
find_there {A = A} test (z ∷ xs) (suc k) x e f = by (test z) (find_there test xs k x e f)
  where
    by : (t : Bool) → (y : A) × (find test xs ≡ Some y) → (y : A) × (cond t (Some z) (find test xs) ≡ Some y)
    by true r = (z, refl)
    by false r = r

-- the class of a name among those of export files
named_at : (es : List ExportClass) (y : List ℕ) (e : ExportClass) → exports.class_named es y ≡ Some e → (k : ℕ)
    × (slice_get es k ≡ Some e) × (e.name ≡ y)
named_at [] y e h = cc
named_at (u ∷ es) y e h = by (bytes_eq u.name y) refl h (named_at es y e)
  where
    by : (t : Bool) → bytes_eq u.name y ≡ t → (if t then Some u else exports.class_named es y) ≡ Some e
        → (exports.class_named es y ≡ Some e → (k : ℕ) × (slice_get es k ≡ Some e) × (e.name ≡ y)) → (k : ℕ)
        × (slice_get (u ∷ es) k ≡ Some e) × (e.name ≡ y)
    by true f g rest =
        let same : u ≡ e = cc in (
          0,
          ap (λ (v : ExportClass). Some v) same,
          ap (λ (v : ExportClass). v.name) (sym same) ∙ bytes_true u.name y f,
        )
    by false f g rest = let r = rest g in (suc r.0, r.1, r.2)

there_named : (es : List ExportClass) (k : ℕ) (e : ExportClass) → slice_get es k ≡ Some e → (u : ExportClass)
    × (exports.class_named es e.name ≡ Some u)
there_named [] k e h = cc
there_named (v ∷ es) k e h = by (bytes_eq v.name e.name) refl k h (λ j g. there_named es j e g)
  where
    by : (t : Bool) → bytes_eq v.name e.name ≡ t → (k : ℕ) → slice_get (v ∷ es) k ≡ Some e
        → ((j : ℕ) → slice_get es j ≡ Some e → (u : ExportClass) × (exports.class_named es e.name ≡ Some u))
        → (u : ExportClass) × ((if t then Some v else exports.class_named es e.name) ≡ Some u)
    by true f k g rest = (v, refl)
    by false f zero g rest =
        let same : v ≡ e = cc in
        absurd (clash (bytes_eq v.name e.name) (ap (λ (u : ExportClass). bytes_eq u.name e.name) same ∙ name_is e.name) f)
    by false f (suc j) g rest = rest j g

-- the names of classes
abbrev names_of : List ExportClass → List (List ℕ)
names_of us = map (λ (e : ExportClass). e.name) us

class_of_name : (y : List ℕ) (us : List ExportClass) → is_one_of (names_of us) y ≡ true → (k : ℕ) × (e : ExportClass)
    × (slice_get us k ≡ Some e) × (e.name ≡ y)
class_of_name y [] h = cc
class_of_name y (u ∷ us) h = by (bytes_eq u.name y) refl h (class_of_name y us)
  where
    by : (t : Bool) → bytes_eq u.name y ≡ t → (t || is_one_of (names_of us) y) ≡ true
        → (is_one_of (names_of us) y ≡ true → (k : ℕ) × (e : ExportClass) × (slice_get us k ≡ Some e) × (e.name ≡ y))
        → (k : ℕ) × (e : ExportClass) × (slice_get (u ∷ us) k ≡ Some e) × (e.name ≡ y)
    by true f h rest = (0, u, refl, bytes_true u.name y f)
    by false f h rest = let r = rest h in (suc r.0, r.1, r.2, r.3)

name_of_class : (us : List ExportClass) (k : ℕ) (e : ExportClass) → slice_get us k ≡ Some e
    → is_one_of (names_of us) e.name ≡ true
name_of_class [] k e h = cc
name_of_class (u ∷ us) zero e h =
    let same : u ≡ e = cc in
    ap (λ b. b || is_one_of (names_of us) e.name) (ap (λ (v : ExportClass). bytes_eq v.name e.name) same ∙ name_is e.name)
name_of_class (u ∷ us) (suc k) e h = by (bytes_eq u.name e.name) (name_of_class us k e h)
  where
    by : (t : Bool) → is_one_of (names_of us) e.name ≡ true → (t || is_one_of (names_of us) e.name) ≡ true
    by true f = refl
    by false f = f

each_at : (classes us : List ExportClass) → AllByRecursion (λ (c : ExportClass). exports.class_named classes c.name
    ≡ Some c) us → (k : ℕ) (e : ExportClass) → slice_get us k ≡ Some e → exports.class_named classes e.name ≡ Some e
each_at classes [] all k e h = cc
each_at classes (u ∷ us) all zero e h = let same : u ≡ e = cc in subst (λ (c : ExportClass). exports.class_named classes
    c.name ≡ Some c) same all.0
each_at classes (u ∷ us) all (suc k) e h = each_at classes us all.1 k e h

-- where each of some classes says this method by a token, and one has it, that is the event
outward_is : (t : ℕ) (s : Signature) (name : List ℕ) (cs : List ExportClass) → ((k : ℕ) (e : ExportClass)
    → slice_get cs k ≡ Some e → (m : ExportMethod) → virtual_method t e ≡ Some m
    → signature_of (method_of_export m) ≡ s) → (k : ℕ) (e : ExportClass) (m : ExportMethod) → slice_get cs k ≡ Some e
    → virtual_method t e ≡ Some m → dispatched_outward name cs t ≡ Outward (event name s)
outward_is t s name [] say k e m there has = cc
outward_is t s name (c ∷ cs) say k e m there has = by (virtual_method t c) refl k there (λ j h. outward_is t s name cs (λ
    i u f. say (suc i) u f) j e m h has)
  where
    by : (o : Option ExportMethod) → virtual_method t c ≡ o → (k : ℕ) → slice_get (c ∷ cs) k ≡ Some e
        → ((j : ℕ) → slice_get cs j ≡ Some e → dispatched_outward name cs t ≡ Outward (event name s))
        → outward name o (dispatched_outward name cs t) ≡ Outward (event name s)
    by None own zero h rest =
        let same : c ≡ e = cc in
        let no : None ≡ Some m = sym own ∙ ap (virtual_method t) same ∙ has in
        cc
    by None own (suc j) h rest = rest j h
    by (Some o) own k h rest = ap (λ (q : Signature). Outward (event name q)) (say 0 c refl o own)

-- an export file has the initialiser of a class that a package knows as a static method
pub plain_entry : (p : Package) → Facts p → (y : List ℕ) (e : ExportClass) (b : Class) → class_named (world p) y ≡ Some b
    → b.is_imported ≡ true → b.methods ≡ map method_of_export e.methods → (k : ℕ) (o : ExportMethod)
    → slice_get e.methods k ≡ Some o → is_initialiser o.name ≡ true → is_static o.flags ≡ true
plain_entry p f y e b known import methods k o at_k init =
    let file = f.in_file y b known import in
    let u = file.1 in
    let both : map method_of_export e.methods ≡ map method_of_export u.methods = sym methods ∙ ap (λ (n : Class).
    n.methods) file.3 in
    let r = export_from u.methods k (method_of_export o) (sym (ap (λ ms. slice_get ms k) both) ∙ export_at e.methods k o
    at_k) in
    ap (λ (n : Member). is_static n.flags) (sym r.2)
    ∙ f.plain y u file.2 k r.0 r.1 (ap (λ (n : Member). is_initialiser n.name) r.2 ∙ init)

-- a public or protected method that is selected is a virtual one
shown_by : (m : Member) → is_exposed m.flags ≡ true → is_selectable m.flags ≡ true → is_special (signature_of m) ≡ false
    → is_shown m ≡ true
shown_by m e f g = by (is_exposed m.flags) (is_selectable m.flags) (is_special (signature_of m)) e f g
  where
    by : (a b c : Bool) → a ≡ true → b ≡ true → c ≡ false → (a && (b && not c)) ≡ true
    by true true false e f g = refl
    by true true true e f g = absurd cc
    by true false c e f g = absurd cc
    by false b c e f g = absurd cc

shown_virtual : (m : Member) → is_shown m ≡ true → is_virtual m ≡ true
shown_virtual m e = (and_true (is_exposed m.flags) (is_virtual m) e).1

module _ (packages : List Package) (is : SelectTogether packages) (alone : (q : ℕ) (p : Package)
    → slice_get packages q ≡ Some p → AloneLaws p) where
  abbrev group : List Files
  group = files_together packages

  abbrev w : List Class
  w = world_together packages

  abbrev l : Loaded
  l = loaded_together packages

  -- the classes of export files from outside
  abbrev es : List ExportClass
  es = outside_classes group

  order : IsOrdered w
  order = ordered group is.ordered

  -- ---- classes of export files and of the joint world

  pub in_world : (y : List ℕ) (e : ExportClass) → exports.class_named es y ≡ Some e → (n : ℕ)
      × (class_named w y ≡ Some (imported n e))
  in_world y e h =
      let k = named_at es y e h in
      let o = is.ordered in
      (k.0, ap (class_named w) (sym k.2) ∙ outside_is_found group (are_apart group is.ordered) o.outside k.0 e k.1)

  -- a class from outside by its name
  pub record IsExported (y : List ℕ) (b : Class) : Type 0 where
    pub entry : ExportClass
    pub number : ℕ
    pub is_class : b ≡ imported number entry
    pub in_files_so : exports.class_named es y ≡ Some entry

  pub in_exports : (y : List ℕ) (b : Class) → class_named w y ≡ Some b → b.is_imported ≡ true → IsExported y b
  in_exports y b named import = by (joint_class group y b named) named import
    where
      by : {b : Class} → IsJoint group b → class_named w y ≡ Some b → b.is_imported ≡ true → IsExported y b
      by (own_file q k p t own) named import = absurd cc
      by (outside_file n e there) named import =
          let o = is.ordered in
          let name : e.name ≡ y = class_named-name w y (imported n e) named in
          let u = there_named es n e there in
          let k = named_at es e.name u.0 u.1 in
          let found : class_named w u.0.name ≡ Some (imported k.0 u.0) = outside_is_found group (are_apart group
          is.ordered) o.outside k.0 u.0 k.1 in
          let same : imported k.0 u.0 ≡ imported n e = same_class (sym found ∙ ap (class_named w) (k.2 ∙ name) ∙ named) in
          let numbers : k.0 ≡ n = ap (λ (c : Class). c.number) same in
          let both : Some u.0 ≡ Some e = sym k.1 ∙ ap (slice_get es) numbers ∙ there in
          record {
            entry = e;
            number = n;
            is_class = refl;
            in_files_so = ap (exports.class_named es) (sym name) ∙ u.1 ∙ both;
          }

  module _ (q : ℕ) (p : Package) (here_p : slice_get packages q ≡ Some p) (x : List ℕ) (c : Class)
      (known : class_named (world p) x ≡ Some c) (plain : is_interface c.flags ≡ false) (out : IsOutside packages p c)
    where
      abbrev v : List Class
      v = world p

      facts : Facts p
      facts = let a = alone q p here_p in a.facts

      abbrev h : HasEntry p c
      h = out.0

      abbrev names : List (List ℕ)
      names = let e = h.entry in e.supers

      import_c : c.is_imported ≡ true
      import_c = ap (λ (k : Class). k.is_imported) h.class

      -- the class in the joint world
      there : (d : Class) × (class_named w x ≡ Some d)
      there = let s = class_stands group is.ordered q p.files (together_at packages is.linked q p here_p) x c known in
          (s.class, s.named)

      abbrev d : Class
      d = there.0

      named_d : class_named w x ≡ Some d
      named_d = there.1

      import_d : d.is_imported ≡ true
      import_d = ⊎_elim inside outside (stands packages is.linked x d named_d)
        where
          inside : Inside packages is.linked x d → d.is_imported ≡ true
          inside i =
              let found = found_in packages is.linked q p here_p x c known h out.1 in
              let no : None ≡ Some (External (number_in packages is.linked q p here_p x c known h out.1) (let e = h.entry in
              e.token)) = sym i.in_no_file ∙ found in
              cc

          outside : Outside packages is.linked x d → d.is_imported ≡ true
          outside o = ap (λ (k : Class). k.is_imported) o.is

      same : IsSame packages c d
      same = outside_class packages is q p here_p x c d known named_d import_d

      -- ---- the methods of its line

      abbrev line_p : List Class
      line_p = c ∷ upwards (supertypes v c.supers)

      methods_there : all_methods line_p ≡ all_methods (line w x)
      methods_there = ap all_methods (sym (line_is p facts x c known)) ∙ line_methods packages is q p here_p x c d known
          named_d import_d

      line_of_p : line_of v x ≡ Imported line_p
      line_of_p = (let f = facts in ap (line_in v) (supertypes-known v f.are_supertypes f.one_supertypes x c known))
          ∙ ap (λ b. if b then Imported line_p else Declared c (added v c) (line_in v (supertypes v c.supers))) import_c

      once : TokensOnce v x x
      once = let f = facts in f.tokens_once x x c c known plain known itself

      -- a public or protected virtual method of a class on the line
      pub listed_token : (m : Member) → In m (all_methods (line w x)) → is_shown m ≡ true
          → token (slots (line_of v x)) (signature_of m) ≡ Some m.token
      listed_token m i shown = (let o = once in o.listed) c m known import_c (subst (In m) (sym methods_there) i) shown

      -- of a token, the method
      of_token : (s : Signature) (t : ℕ) → token (slots (line_of v x)) s ≡ Some t → (m : Member)
          × In m (all_methods (line w x)) × (is_shown m ≡ true) × (m.token ≡ t) × (signature_of m ≡ s)
      of_token s t e =
          let slot = token-slot (listed_slots (all_methods line_p)) s t (sym (ap (λ k. token (slots k) s) line_of_p) ∙ e) in
          let r = listed_slot (all_methods line_p) t s slot in
          (r.0, subst (In r.0) methods_there r.1, r.2, r.3, r.4)

      -- ---- what is selected has a token

      has_token : (s : Signature) → is_special s ≡ false → (f : Found)
          → first (own_where is_open s.name s.desc) (line w x) ≡ Some f → (t : ℕ)
          × (token (slots (line_of v x)) s ≡ Some t)
      has_token s ordinary f e =
          let one = first_has (own_where is_open s.name s.desc) (line w x) f e in
          let b = one.0 in
          let a = where_at is_open s.name s.desc b f one.2 in
          let m = a.method in
          let parts = open_parts m.flags a.passing in
          let named = called_parts s.name s.desc m a.called in
          let signed : signature_of m ≡ s = ap (λ n. record { name = n; desc = m.desc }) named.0
          ∙ ap (λ n. record { name = s.name; desc = n }) named.1 in
          let shown = shown_by m parts.1 parts.0 (ap is_special signed ∙ ordinary) in
          let among = has_methods b (line w x) m one.1 (in_at b.methods a.place m a.there) in
          (m.token, ap (token (slots (line_of v x))) (sym signed) ∙ listed_token m among shown)

      -- ---- tokens of classes above

      tokens_at : TokensAt packages p x
      tokens_at r e there_e y b k known_y plain_y named_y on s ordinary t its =
          let import_y : k.is_imported ≡ true = below_abroad w order x k.name d k (line_below w x k on) named_d import_d
          (line_named w x k on) in
          let far = outside_class packages is r e there_e y b k known_y named_y import_y in
          let import_b : b.is_imported ≡ true = ap (λ (z : Class). z.is_imported) far.is in
          let f = (let a = alone r e there_e in a.facts) in
          let ve = world e in
          let cs = b ∷ upwards (supertypes ve b.supers) in
          let its_line : line_of ve y ≡ Imported cs = ap (line_in ve) (supertypes-known ve f.are_supertypes f.one_supertypes
          y b known_y) ∙ ap (λ q. if q then Imported cs else Declared b (added ve b) (line_in ve (supertypes ve b.supers)))
          import_b in
          let slot = token-slot (listed_slots (all_methods cs)) s t (sym (ap (λ q. token (slots q) s) its_line) ∙ its) in
          let m = listed_slot (all_methods cs) t s slot in
          let there_y : all_methods cs ≡ all_methods (line w y) = ap all_methods (sym (line_is e f y b known_y))
          ∙ line_methods packages is r e there_e y b k known_y named_y import_y in
          let on_y = of_class (line w y) m.0 (subst (In m.0) there_y m.1) in
          let k_name : k.name ≡ y = class_named-name w y k named_y in
          let up_there : OnLine w x on_y.0 = line_on w x k on_y.0 on (subst (λ z. OnLine w z on_y.0) (sym k_name) (of_line w
          order.acyclic y on_y.0 on_y.1)) in
          let among = has_methods on_y.0 (line w x) m.0 (in_line w order.acyclic x on_y.0 up_there) on_y.2 in
          ap (token (slots (line_of v x))) (sym m.4) ∙ listed_token m.0 among m.2 ∙ ap (λ n. Some n) m.3

      -- ---- what stands above it among export files

      -- a class of an export file above it is on its line, and the package knows it
      record IsAbove (y : List ℕ) (e : ExportClass) : Type 0 where
        number : ℕ
        named_there : class_named w y ≡ Some (imported number e)
        on : OnLine w x (imported number e)
        class : Class
        known_there : class_named v y ≡ Some class

      reach : (y : List ℕ) → IsAtOrAbove es names y → (e : ExportClass) → exports.class_named es y ≡ Some e → IsAbove y e
      reach y (at one) e named =
          let n = in_world y e named in
          let s = same in
          let listed : Lists y names = one_lists y names one in
          let supers_c : names ≡ c.supers = sym (ap (λ (k : Class). k.supers) h.class) in
          let below = subst (Lists y) supers_c listed in
          let told = fit_above packages is q p here_p x c d known s y below (imported n.0 e) n.1 in
          record {
            number = n.0;
            named_there = n.1;
            on = up d named_d (subst (Lists y) (same_supers packages c d s) below) (here n.1);
            class = told.1;
            known_there = told.2;
          }
      reach y (above {x = z} u under named_z one) e named =
          let n = in_world y e named in
          let r = reach z under u named_z in
          let k = imported r.number u in
          let i = outside_class packages is q p here_p z r.class k r.known_there r.named_there refl in
          let listed : Lists y k.supers = one_lists y u.supers one in
          let below = subst (Lists y) (sym (same_supers packages r.class k i)) listed in
          let told = fit_above packages is q p here_p z r.class k r.known_there i y below (imported n.0 e) n.1 in
          record {
            number = n.0;
            named_there = n.1;
            on = line_on w x k (imported n.0 e) r.on (up k (line_named w x k r.on) listed (here n.1));
            class = told.1;
            known_there = told.2;
          }

      -- what stands on the line of a name is above what the name is
      climb : (z : List ℕ) (b : Class) → OnLine w z b → IsAtOrAbove es names z → (g : Class) → class_named w z ≡ Some g
          → g.is_imported ≡ true → (b.is_imported ≡ true) × IsAtOrAbove es names b.name
      climb z b (here e) start g named import =
          let one : g ≡ b = same_class (sym named ∙ e) in (
            ap (λ (k : Class). k.is_imported) (sym one) ∙ import,
            subst (IsAtOrAbove es names) (sym (class_named-name w z b e))
                start,
          )
      climb z b (up {s = y} k e li rest) start g named import =
          let one : g ≡ k = same_class (sym named ∙ e) in
          let import_k : k.is_imported ≡ true = ap (λ (n : Class). n.is_imported) (sym one) ∙ import in
          let o = in_exports z k e import_k in
          let entry = o.entry in
          let supers_k : k.supers ≡ entry.supers = ap (λ (n : Class). n.supers) o.is_class in
          let next = line_begins w y b rest in
          climb y b rest (above entry start o.in_files_so (lists_one y entry.supers (subst (Lists y) supers_k li))) next.0
          next.1 (order.abroad z y k next.0 e import_k (lists-front y k.supers k.interfaces li) next.1)

      -- ---- events

      -- a method of the line with a token has an entry of it
      entry_method : (e : ExportClass) (m : Member) (t : ℕ) → In m (map method_of_export e.methods) → is_virtual m ≡ true
          → m.token ≡ t → ((k : ℕ) (o : ExportMethod) → slice_get e.methods k ≡ Some o → is_initialiser o.name ≡ true
          → is_static o.flags ≡ true) → (o : ExportMethod) × (virtual_method t e ≡ Some o)
      entry_method e m t i virtual its init =
          let k = place_in (map method_of_export e.methods) m i in
          let r = export_from e.methods k.0 m k.1 in
          let o = r.0 in
          let first_test : exports.is_virtual o ≡ true = export_virtual o (init k.0 o r.1) ∙ ap is_virtual r.2 ∙ virtual in
          let tokens_same : o.token ≡ t = ap (λ (n : Member). n.token) r.2 ∙ its in
          find_there (λ (n : ExportMethod). exports.is_virtual n && (n.token == t)) e.methods k.0 o r.1
          (ap (λ b. b && (o.token == t)) first_test ∙ number_same_number o.token t tokens_same)

      abbrev ups : List ExportClass
      ups = exports.upwards es names

      -- of the classes that the card asks, each is on the line
      record IsAsked (e : ExportClass) : Type 0 where
        name : List ℕ
        class : Class
        number : ℕ
        known_class : class_named v name ≡ Some class
        import : class.is_imported ≡ true
        its_methods : class.methods ≡ map method_of_export e.methods
        on : (m : Member) → In m (map method_of_export e.methods) → In m (all_methods (line w x))

      asked : (k : ℕ) (e : ExportClass) → slice_get (h.entry ∷ ups) k ≡ Some e → IsAsked e
      asked zero e at_k =
          let first_one : h.entry ≡ e = cc in
          let its : c.methods ≡ map method_of_export e.methods = ap (λ (n : Class). n.methods) h.class
          ∙ ap (λ (u : ExportClass). map method_of_export u.methods) first_one in
          record {
            name = x;
            class = c;
            number = h.number;
            known_class = known;
            import = import_c;
            its_methods = its;
            on = λ m i. has_methods d (line w x) m (in_line w (let o = order in o.acyclic) x d (here named_d)) (subst (In m)
                (sym its ∙ same_methods packages c d same) i);
          }
      asked (suc k) e at_k =
          let named = each_at es ups (each_own es names) k e at_k in
          let up_there = (found_is es names e.name (name_of_class ups k e at_k)).0 in
          let r = reach e.name up_there e named in
          let i = outside_class packages is q p here_p e.name r.class (imported r.number e) r.known_there r.named_there refl
          in
          record {
            name = e.name;
            class = r.class;
            number = r.number;
            known_class = r.known_there;
            import = ap (λ (n : Class). n.is_imported) i.is;
            its_methods = same_methods packages r.class (imported r.number e) i;
            on = λ m j. has_methods (imported r.number e) (line w x) m (in_line w (let o = order in o.acyclic) x (imported
                r.number e) r.on) j;
          }

      -- and of those on the line one is asked that has the method
      record HasMethod (t : ℕ) : Type 0 where
        place : ℕ
        entry : ExportClass
        method : ExportMethod
        there_so : slice_get (h.entry ∷ ups) place ≡ Some entry
        is_method : virtual_method t entry ≡ Some method

      has_method : (t : ℕ) (m : Member) → In m (all_methods (line w x)) → is_virtual m ≡ true → m.token ≡ t → HasMethod t
      has_method t m i virtual its =
          let b = of_class (line w x) m i in
          by b.0 (of_line w (let o = order in o.acyclic) x b.0 b.1) b.2
        where
          at_place : (k : ℕ) (e : ExportClass) → slice_get (h.entry ∷ ups) k ≡ Some e
              → In m (map method_of_export e.methods) → HasMethod t
          at_place k e at_k j =
              let a = asked k e at_k in
              let o = entry_method e m t j virtual its (plain_entry p facts a.name e a.class a.known_class a.import
              a.its_methods) in
              record { place = k; entry = e; method = o.0; there_so = at_k; is_method = o.1 }

          by : (b : Class) → OnLine w x b → In m b.methods → HasMethod t
          by b (here e) j =
              let one : d ≡ b = same_class (sym named_d ∙ e) in
              let its_ms : b.methods ≡ map method_of_export (let u = h.entry in u.methods) = ap (λ (n : Class). n.methods)
              (sym one) ∙ sym (same_methods packages c d same) ∙ ap (λ (n : Class). n.methods) h.class in
              at_place 0 h.entry refl (subst (In m) its_ms j)
          by b (up {s = y} k e li rest) j =
              let one : d ≡ k = same_class (sym named_d ∙ e) in
              let supers_k : k.supers ≡ names = ap (λ (n : Class). n.supers) (sym one)
              ∙ sym (same_supers packages c d same) ∙ ap (λ (n : Class). n.supers) h.class in
              let import_k : k.is_imported ≡ true = ap (λ (n : Class). n.is_imported) (sym one) ∙ import_d in
              let next = line_begins w y b rest in
              let r = climb y b rest (at (lists_one y names (subst (Lists y) supers_k li))) next.0 next.1 ((let o = order in
              o.abroad) x y k next.0 e import_k (lists-front y k.supers k.interfaces li) next.1) in
              let u = in_exports b.name b (line_named w y b rest) r.0 in
              let entry = u.entry in
              let found = class_of_name b.name ups (all_found es names b.name entry r.1 u.in_files_so) in
              let its_own = each_at es ups (each_own es names) found.0 found.1 found.2 in
              let both : Some found.1 ≡ Some entry = sym its_own ∙ ap (exports.class_named es) found.3 ∙ u.in_files_so in
              let same_one : found.1 ≡ entry = cc in
              let its_ms : b.methods ≡ map method_of_export (let z = found.1 in z.methods) = ap (λ (n : Class). n.methods)
              u.is_class ∙ ap (λ (z : ExportClass). map method_of_export z.methods) (sym same_one) in
              at_place (suc found.0) found.1 found.2 (subst (In m) its_ms j)

      makes_event : (s : Signature) → is_special s ≡ false → (t : ℕ) → token (slots (line_of v x)) s ≡ Some t
          → dispatched_open (tower l (class_together packages x)) t ≡ Outward (event x s)
      makes_event s ordinary t its =
          let m = of_token s t its in
          let o = has_method t m.0 m.1 (shown_virtual m.0 m.2) m.3 in
          let entry = h.entry in
          let number = number_in packages is.linked q p here_p x c known h out.1 in
          let class_is : class_together packages x ≡ External number entry.token = ap (λ k. unwrap_or k (Own 0 0)) (named_in
          packages is.linked q p here_p x c known h out.1) in
          let name : entry.name ≡ x = sym (ap (λ (k : Class). k.name) h.class) ∙ class_named-name v x c known in
          ap (λ k. dispatched_open (tower l k) t) class_is
          ∙ ap (λ k. in_files (exported_line l k) t) (entry_in packages is.linked q p here_p x c known h out.1)
          ∙ outward_is t s entry.name (entry ∷ ups) (says m.0 m.1 (shown_virtual m.0 m.2) m.3 m.4) o.place o.entry o.method
          o.there_so o.is_method
          ∙ ap (λ k. Outward (event k s)) name
        where
          says : (m : Member) → In m (all_methods (line w x)) → is_virtual m ≡ true → m.token ≡ t → signature_of m ≡ s
              → (k : ℕ) (e : ExportClass) → slice_get (h.entry ∷ ups) k ≡ Some e → (o : ExportMethod)
              → virtual_method t e ≡ Some o → signature_of (method_of_export o) ≡ s
          says m i virtual same_token signed k e at_k o is_o =
              let a = asked k e at_k in
              let r = find_got (λ (n : ExportMethod). exports.is_virtual n && (n.token == t)) e.methods o is_o in
              let two = and_true (exports.is_virtual o) (o.token == t) r.2 in
              let init = plain_entry p facts a.name e a.class a.known_class a.import a.its_methods r.0 o r.1 in
              let virtual_o : is_virtual (method_of_export o) ≡ true = sym (export_virtual o init) ∙ two.0 in
              let among = a.on (method_of_export o) (in_at (map method_of_export e.methods) r.0 (method_of_export o)
              (export_at e.methods r.0 o r.1)) in
              let rules = (let f = facts in f.rules) in
              let told = rules.told x c known import_c plain (method_of_export o) m (subst (In (method_of_export o)) (sym
              methods_there) among) (subst (In m) (sym methods_there) i) virtual_o virtual in
              told.0 (number_same o.token t two.1 ∙ sym same_token) ∙ signed

      outside_agrees : OutsideAgrees packages p x
      outside_agrees = record { has = has_token; makes = makes_event; tokens = tokens_at }

  -- so classes from outside agree
  pub outside_classes_agree : OutsideClassesAgree packages
  outside_classes_agree q p here_p x c known plain out = outside_agrees q p here_p x c known plain out
