-- Package-visible methods of one package, selected on classes of all packages below the named one: the search by name
-- passes over the classes of other packages, and so do their tables; at the classes of the package itself selection is
-- what it is in the package by itself.
use Rattle.std.proofs.Common.{◌≡◌, ◌<◌, ◌+◌, ℕ, zero, suc, refl, sym, ap, subst, ◌∙◌, arith, Bool, true, false, List, []}
use Rattle.std.proofs.Common.{◌∷◌, ⊎_elim}
use Rattle.std.specs.Prelude.{◌==◌, Option, Some, None, slice_get, if◌then◌else◌}
use Rattle.std.specs.Str.{bytes_eq}
use Rattle.std.proofs.lemmas.Bool.{cases_eq, eqb-true}
use Rattle.cjc_bytes.specs.AccessFlags.{is_interface}
use Rattle.cjc_bytes.proofs.Lists.{bytes_true}
use Rattle.cjc_components.specs.Methods.{method_offset}
use Rattle.cjc_components.specs.Package.{Package, world}
use Rattle.cjc_jvm_semantics.specs.Group.{own_where, own_within, package_of}
use Rattle.cjc_jvm_semantics.specs.OnePackage.{first_imported, is_initialiser}
use Rattle.cjc_joint_proof.specs.JointPackages.{class_together, files_together}
use Rattle.cjc_joint_proof.specs.JointTables.{world_together}
use Rattle.cjc_joint_proof.specs.JointTowers.{GoesOn, loaded_together}
use Rattle.cjc_joint_proof.specs.Loading.{AllLead, group_of, member_of}
use Rattle.cjc_joint_proof.specs.Worlds.{IsOwn, before, found_in}
use Rattle.cjc_joint_proof.proofs.ClassLaws.{home as package_home, together_at}
use Rattle.cjc_joint_proof.proofs.ClimbLaws.{goes_on}
use Rattle.cjc_joint_proof.proofs.LeadLaws.{all_lead}
use Rattle.cjc_joint_proof.proofs.PackageNames.{package_is}
use Rattle.cjc_joint_theorem.proofs.OrderedLaws.Ordered.{IsJoint, joint_class, ordered, outside_file, own_file}
use Rattle.cjc_joint_theorem.proofs.OrderedLaws.Ordered.{super_there}
use Rattle.cjc_joint_theorem.proofs.OrderedLaws.Selected.{found_together, within_moves, within_tells}
use Rattle.cjc_joint_theorem.proofs.OrderedLaws.Standing.{Stands, are_apart, class_stands, from_outside, of_member}
use Rattle.cjc_joint_theorem.proofs.OrderedLaws.Standing.{own_class, own_in}
use Rattle.cjc_theorem.proofs.FairWriting.Upwards.{line_under}
use Rattle.cjc_token_proof.proofs.TablesLaws.Clean.{has_named}
use Rattle.cjc_token_proof.proofs.TablesLaws.Filed.{own_filed}
use Rattle.cjc_token_proof.proofs.WrittenCalls.Facts.{Facts}
use Rattle.cjc_token_proof.proofs.WrittenCalls.Found.{first_own, line_named as line_names, own_is}
use Rattle.cjc_token_proof.proofs.WrittenCalls.Receivers.{found_stands}
use Rattle.cjc_token_proof.proofs.WrittenCalls.Towers.{line_is}
use Rattle.cjc_token_proof.specs.Calls.Reaching.{is_in_method}
use Rattle.cjc_token_proof.specs.CardSemantics.Machine.Dispatch.{At, Selection, dispatched_hidden, tower}
use Rattle.cjc_tokens.specs.Lines.{line_of}
use Rattle.cjc_tokens.specs.Members.{Signature}
use Rattle.cjc_tokens.specs.Slots.{hidden_slots, token}
use Rattle.cjc_vtable.specs.Calls.{finds_hidden}
use Rattle.cjc_vtable.specs.Dispatch as tables
use Rattle.cjc_vtable.specs.Dispatch.{tower_of}
use Rattle.cjc_vtable.specs.Laws.{Under, selection}
use Rattle.cjc_world.specs.ClassFile.declared.tree.ClassTree.{ClassTree}
use Rattle.cjc_world.specs.Classes.{Class, all_classes, class_named, declared, imported}
use Rattle.cjc_world.specs.Files.{Files}
use Rattle.cjc_world.specs.Lookup.{first, is_selectable, own_method}
use Rattle.cjc_world.specs.Supertypes.{Lists, foremost, line, supertypes, upwards}
use Rattle.cjc_world.specs.Upwards.{IsOrdered, OnLine, here as at_once, up}
use Rattle.cjc_world.specs.declared.found.Found.{Found}
use Rattle.cjc_world.proofs.Cycles.{class_named-name}
use Rattle.cjc_world.proofs.Upwards.{line_goes_up}
use Rattle.cjc_world.proofs.UpwardLaws.Lines.{line_on, same_class}
use Rattle.cjc_joint_whole.specs.Selected.{SelectTogether, SelectsAlike, in_package}
use Rattle.cjc_joint_whole.proofs.WholeLaws.FixedNamed.{AloneLaws}
use Rattle.cjc_joint_whole.proofs.WholeLaws.HiddenMethods.{EndsInside, HoldsHidden, ends_in_package, holds_hidden}
use Rattle.cjc_joint_whole.proofs.WholeLaws.Linked.{package_with}
use Rattle.cjc_joint_whole.proofs.WholeLaws.LinesBack.{line_back, not_outside, one_home, one_listed}
use Rattle.cjc_joint_whole.proofs.WholeLaws.Listed.{lists_methods}
use Rattle.cjc_joint_whole.proofs.WholeLaws.Shown.{search_up}

-- A method of the package that is selected on a class by name, where other packages are passed over, and by a
-- package-visible token.
pub record SelectsHidden (packages : List Package) (home : ℕ) (p : Package) (s : Signature) (number : ℕ)
    (x : List ℕ) : Type 0 where
  pub found : Found
  pub mine : found.imported ≡ false
  pub inside : is_in_method (world p) found ≡ true
  pub tree : ClassTree
  pub file : (let f = p.files in slice_get f.classes found.class ≡ Some tree)
  pub by_name : first (own_within (let f = p.files in f.package_name) s.name s.desc) (line (world_together packages) x)
      ≡ Some (found_in (before (files_together packages) home) found)
  pub by_token : dispatched_hidden (tower (loaded_together packages) (class_together packages x)) home number
      ≡ At home (method_offset p found)

module _ (packages : List Package) (is : SelectTogether packages) (alone : (q : ℕ) (p : Package)
    → slice_get packages q ≡ Some p → AloneLaws p) where
  abbrev group : List Files
  group = files_together packages

  abbrev w : List Class
  w = world_together packages

  pub leads : (q : ℕ) (p : Package) → slice_get packages q ≡ Some p → AllLead (group_of packages) (member_of p)
  leads q p here = all_lead packages is.linked (λ r e there. lists_methods e (let a = is.each r e there in let k = a.runs
      in k.unbound)) q p here

  pub facts_at : (q : ℕ) (p : Package) → slice_get packages q ≡ Some p → Facts p
  facts_at q p here = let a = alone q p here in a.facts

  pub files_here : (q : ℕ) (p : Package) → slice_get packages q ≡ Some p → slice_get group q ≡ Some p.files
  files_here q p here = together_at packages is.linked q p here

  pub goes : (q : ℕ) (p : Package) → slice_get packages q ≡ Some p → (x : List ℕ) (c : Class)
      → class_named (world p) x ≡ Some c → is_interface c.flags ≡ false → c.is_imported ≡ false → GoesOn packages q p x
  goes q p here x c known plain own = goes_on packages is.linked leads facts_at q p here x c known plain own

  pub order_at : (q : ℕ) (p : Package) → slice_get packages q ≡ Some p → IsOrdered (world p)
  order_at q p here = let o = is.ordered in o.each q p.files (files_here q p here)

  -- the class file of an own class
  pub own_tree : (q : ℕ) (p : Package) → slice_get packages q ≡ Some p → (x : List ℕ) (c : Class)
      → class_named (world p) x ≡ Some c → c.is_imported ≡ false → (n : ℕ) × (t : ClassTree)
      × (let f = p.files in slice_get f.classes n ≡ Some t) × (c ≡ declared n t)
  own_tree q p here x c known own =
      let l = is.linked in
      let s = (let v = l.sound in v.each) q p.files (files_here q p here) in
      let sound = s.sound in
      own_filed p.files sound.classes sound.exports c (has_named (world p) x c known) own

  -- the first imported class of the line of a class
  first_own_class : (q : ℕ) (p : Package) → slice_get packages q ≡ Some p → (x s : List ℕ) (c : Class)
      → class_named (world p) x ≡ Some c → c.is_imported ≡ false → c.supers ≡ s ∷ []
      → first_imported (line (world p) x) ≡ first_imported (line (world p) s)
  first_own_class q p here x s c known own super =
      let o = order_at q p here in
      ap first_imported (line_goes_up (world p) o.acyclic x s c known super)
      ∙ ap (λ b. if b then c.name else first_imported (line (world p) s)) own

  first_of_import : (q : ℕ) (p : Package) → slice_get packages q ≡ Some p → (x : List ℕ) (c : Class)
      → class_named (world p) x ≡ Some c → c.is_imported ≡ true → first_imported (line (world p) x) ≡ x
  first_of_import q p here x c known import =
      ap first_imported (line_is p (facts_at q p here) x c known)
      ∙ ap (λ b. if b then c.name else first_imported (upwards (supertypes (world p) c.supers))) import
      ∙ class_named-name (world p) x c known

  module _ (home : ℕ) (p : Package) (here_p : slice_get packages home ≡ Some p) (y : List ℕ) (n : ℕ) (t : ClassTree)
      (file : let f = p.files in slice_get f.classes n ≡ Some t) (known_y : class_named (world p) y ≡ Some (declared n t))
      (plain_y : is_interface t.flags ≡ false) (s : Signature) (hidden : finds_hidden (line_of (world p) y) s ≡ true)
      (ordinary : is_initialiser s.name ≡ false) (number : ℕ)
      (its_token : token (hidden_slots (line_of (world p) y)) s ≡ Some number) where
    abbrev v : List Class
    v = world p

    abbrev home_name : List ℕ
    home_name = let f = p.files in f.package_name

    abbrev joint_y : Class
    joint_y = declared (before group home + n) t

    abbrev Selects : List ℕ → Type 0
    Selects x = SelectsHidden packages home p s number x

    abbrev on_card : List ℕ → Selection
    on_card x = dispatched_hidden (tower (loaded_together packages) (class_together packages x)) home number

    abbrev within : Class → Option Found
    within = own_within home_name s.name s.desc

    facts : Facts p
    facts = facts_at home p here_p

    same_home : (x : List ℕ) (c : Class) → class_named v x ≡ Some c → c.is_imported ≡ false
        → package_of c.name ≡ home_name
    same_home x c known own = package_home packages is.linked home p here_p x c known own

    file_y : IsOwn group home n p.files t
    file_y = record { member = files_here home p here_p; file = file }

    name_y : t.name ≡ y
    name_y = class_named-name v y (declared n t) known_y

    pub holder : HoldsHidden v s y
    holder = holds_hidden v (order_at home p here_p) (let f = facts in f.rules) s y hidden

    -- ---- on a class of the package

    pub dispatched_alone : (x : List ℕ) (c : Class) → class_named v x ≡ Some c → is_interface c.flags ≡ false
        → Under v x y → tables.dispatched_hidden (tower_of v x) number ≡ selection v x s
    dispatched_alone x c known plain under =
        let a = (let f = facts in f.virtual_calls) x y c (declared n t) known plain known_y under in
        let r = a.package_method s hidden in
        let both : Some r.0 ≡ Some number = sym r.1 ∙ its_token in
        let same : r.0 ≡ number = cc in
        ap (tables.dispatched_hidden (tower_of v x)) (sym same) ∙ r.2

    pub ends_at : (x : List ℕ) → OnLine v x (declared n t) → EndsInside v s home_name x
    ends_at x on =
        let h = holder in
        ends_in_package v (order_at home p here_p) (let f = facts in f.rules) s home_name same_home y h x (line_on v x
        (declared n t) h.class on (subst (λ z. OnLine v z h.class) (sym name_y) h.on))

    at_home : (x : List ℕ) (c : Class) → class_named v x ≡ Some c → is_interface c.flags ≡ false
        → c.is_imported ≡ false → OnLine v x (declared n t) → Selects x
    at_home x c known plain own on =
        let e = ends_at x on in
        let f = e.found in
        let under : Under v x y = subst (Under v x) name_y (line_under v x (declared n t) on) in
        let g = goes home p here_p x c known plain own in
        let go = g.on in
        let whose = first_own v (own_method true s.name s.desc) (line v x) f (line_names v x) e.selection in
        let b = whose.0 in
        let o = own_is v true s.name s.desc b f whose.2 in
        let mine : b.is_imported ≡ false = sym (ap (λ (k : Found). k.imported) o.is) ∙ e.mine in
        let tree = own_tree home p here_p b.name b whose.1 mine in
        let places : f.class ≡ tree.0 = ap (λ (k : Found). k.class) o.is ∙ ap (λ (k : Class). k.number) tree.3 in
        record {
          found = f;
          mine = e.mine;
          inside = found_stands p facts true s.name s.desc ordinary x c known plain f e.selection e.mine;
          tree = tree.1;
          file = (let fs = p.files in ap (slice_get fs.classes) places) ∙ tree.2;
          by_name = found_together group is.ordered home p.files (files_here home p here_p) within (within_moves home_name
              s.name s.desc) (within_tells home_name s.name s.desc) x c known f e.inside e.mine;
          by_token = go.hidden number f (dispatched_alone x c known plain under ∙ e.selection) e.mine;
        }

    -- ---- on a class of another package

    -- its tables are passed over, up to the first imported class
    passes_to_foot : (r : ℕ) (e : Package) → slice_get packages r ≡ Some e → (r ≡ home → ⊥) → (x : List ℕ) (c : Class)
        → class_named (world e) x ≡ Some c → is_interface c.flags ≡ false
        → on_card x ≡ on_card (first_imported (line (world e) x))
    passes_to_foot r e there apart x c known plain = by c.is_imported refl
      where
        differ : (b : Bool) → (r == home) ≡ b → b ≡ false
        differ false f = refl
        differ true f = absurd (apart (eqb-true r home f))

        by : (b : Bool) → c.is_imported ≡ b → on_card x ≡ on_card (first_imported (line (world e) x))
        by true import = ap on_card (sym (first_of_import r e there x c known import))
        by false own =
            let g = goes r e there x c known plain own in
            let go = g.on in
            go.passed home number (differ (r == home) refl) ∙ ap on_card (sym g.first)

    passes : (r i : ℕ) (e : Package) (u : ClassTree) → slice_get packages r ≡ Some e → IsOwn group r i e.files u
        → (r ≡ home → ⊥) → (x : List ℕ) → class_named (world e) x ≡ Some (declared i u)
        → is_interface u.flags ≡ false → class_named w x ≡ Some (declared (before group r + i) u) → (b : Class)
        → class_named (world e) u.superclass ≡ Some b → is_interface b.flags ≡ false → Selects u.superclass
        → Selects x
    passes r i e u there other apart x known plain named b super ground h =
        record {
          found = h.found;
          mine = h.mine;
          inside = h.inside;
          tree = h.tree;
          file = h.file;
          by_name = search_up w (let o = ordered group is.ordered in o.acyclic) within x u.superclass (declared (before
              group r + i) u) named refl (none_here (bytes_eq (package_of u.name) home_name) refl) ∙ h.by_name;
          by_token = passes_to_foot r e there apart x (declared i u) known plain
              ∙ ap on_card (first_own_class r e there x u.superclass (declared i u) known refl refl)
              ∙ sym (passes_to_foot r e there apart u.superclass b super ground) ∙ h.by_token;
        }
      where
        none_here : (t : Bool) → bytes_eq (package_of u.name) home_name ≡ t
            → (if t then own_where is_selectable s.name s.desc (declared (before group r + i) u) else None) ≡ None
        none_here false f = refl
        none_here true f =
            let k = are_apart group is.ordered in
            let fp = p.files in
            let fe = e.files in
            let theirs : package_of u.name ≡ fe.package_name = package_is fe.package_name u.name (k.own r i fe u other) in
            absurd (apart (k.names r home fe fp other.member (files_here home p here_p) (sym theirs ∙ bytes_true
            (package_of u.name) home_name f)))

    -- ---- on each class below the named one

    module _ (r : ℕ) (e : Package) (there : slice_get packages r ≡ Some e) (behind : (j : ℕ) → j < r → (m : Package)
        → slice_get packages j ≡ Some m → (x : List ℕ) (c : Class) → class_named (world m) x ≡ Some c
        → is_interface c.flags ≡ false → OnLine w x joint_y → Selects x) where
      step : (x : List ℕ) (c b : Class) → Stands group r e.files c b → class_named (world e) x ≡ Some c
          → class_named w x ≡ Some b → is_interface c.flags ≡ false → OnLine w x joint_y
          → ((i : ℕ) (u : ClassTree) → IsOwn group r i e.files u → class_named (world e) x ≡ Some (declared i u)
          → class_named w x ≡ Some (declared (before group r + i) u) → is_interface u.flags ≡ false → (r ≡ home → ⊥)
          → Selects x) → Selects x
      step x _ _ (own_class i u other) known named plain on elsewhere = ⊎_elim same (λ apart. elsewhere i u other known
          named plain apart) (cases_eq r home)
        where
          same : r ≡ home → Selects x
          same e_home =
              let both : Some e ≡ Some p = sym there ∙ ap (slice_get packages) e_home ∙ here_p in
              let one : e ≡ p = cc in
              let known_p : class_named v x ≡ Some (declared i u) = ap (λ (k : Package). class_named (world k) x) (sym one)
              ∙ known in
              at_home x (declared i u) known_p plain refl (line_back group is.ordered home n p.files t file_y joint_y refl x
              on (declared i u) known_p)
      step x _ _ (of_member i z j a m u less other name kind) known named plain on elsewhere =
          let k = package_with packages j m other.member in
          let called : u.name ≡ x = class_named-name w x (declared (before group j + a) u) named in
          let its_world : class_named (all_classes m) x ≡ Some (declared a u) = ap (class_named (all_classes m)) (sym
          called) ∙ own_in group is.ordered j a m u other in
          behind j less k.0 k.1 x (declared a u) (ap (λ (f : Files). class_named (all_classes f) x) (sym k.2)
          ∙ its_world) (kind.interface ∙ plain) on
      step x _ _ (from_outside i a z kept) known named plain on elsewhere = absurd (not_outside group is.ordered home n
          p.files t file_y joint_y refl x (imported a z) named refl on)

      along : (x : List ℕ) (k : Class) → k ≡ joint_y → OnLine w x k → (c : Class) → class_named (world e) x ≡ Some c
          → is_interface c.flags ≡ false → Selects x
      along x k is_k (at_once f) c known plain =
          let h = class_stands group is.ordered r e.files (files_here r e there) x c known in
          step x c h.class h.stands known h.named plain (subst (OnLine w x) is_k (at_once f)) (λ i u other known named ground
          apart.
          (let top : joint_y ≡ declared (before group r + i) u = same_class (sym (f ∙ ap (λ (q : Class). Some q) is_k)
          ∙ named) in
          absurd (apart (sym (one_home group is.ordered home n p.files t file_y joint_y refl r i e.files u other (ap
          (λ (q : Class). q.name) (sym top)))))))
      along x k is_k (up {s = z} b f l rest) c known plain =
          let h = class_stands group is.ordered r e.files (files_here r e there) x c known in
          step x c h.class h.stands known h.named plain (subst (OnLine w x) is_k (up b f l rest)) (λ i u other known named
          ground apart.
          (let top : b ≡ declared (before group r + i) u = same_class (sym f ∙ named) in
          let super = super_there group is.ordered r i e.files u other u.superclass foremost in
          let order = order_at r e there in
          let plain_super = order.supers x u.superclass (declared i u) super.0 known foremost super.1 in
          let one : z ≡ u.superclass = one_listed z u.superclass (subst (λ (q : Class). Lists z q.supers) top l) in
          passes r i e u there other apart x known ground named super.0 super.1 plain_super (subst Selects one (along z k
          is_k rest super.0 (ap (class_named (world e)) one ∙ super.1) plain_super))))

    go_on : (m r : ℕ) → r < m → (e : Package) → slice_get packages r ≡ Some e → (x : List ℕ) (c : Class)
        → class_named (world e) x ≡ Some c → is_interface c.flags ≡ false → OnLine w x joint_y → Selects x
    go_on zero r lt e there x c known plain on = absurd (omega (arith, lt))
    go_on (suc m) r lt e there x c known plain on = along r e there (λ j less f at z b g ground far. go_on m j (omega (
      arith,
      lt,
      less,
    )) f at z b g ground far) x joint_y refl on c known plain

    -- so it is on each class of the joint world
    pub selects_hidden : (x : List ℕ) (c : Class) → class_named w x ≡ Some c → is_interface c.flags ≡ false
        → OnLine w x joint_y → Selects x
    selects_hidden x c named plain on = by (joint_class group x c named) named plain
      where
        by : {c : Class} → IsJoint group c → class_named w x ≡ Some c → is_interface c.flags ≡ false → Selects x
        by (outside_file i z at) named plain = absurd (not_outside group is.ordered home n p.files t file_y joint_y refl x
            (imported i z) named refl on)
        by (own_file r i f u own) named plain =
            let k = package_with packages r f own.member in
            let called : u.name ≡ x = class_named-name w x (declared (before group r + i) u) named in
            let its_world : class_named (all_classes f) x ≡ Some (declared i u) = ap (class_named (all_classes f)) (sym
            called) ∙ own_in group is.ordered r i f u own in
            go_on (suc r) r (omega arith) k.0 k.1 x (declared i u) (ap (λ (g : Files). class_named (all_classes g) x)
            (sym k.2) ∙ its_world) plain on

-- by name and by token alike
pub hidden_alike : (packages : List Package) (home : ℕ) (p : Package) → slice_get packages home ≡ Some p
    → (s : Signature) (number : ℕ) (x : List ℕ) → (h : SelectsHidden packages home p s number x)
    → SelectsAlike packages x s (found_in (before (files_together packages) home) h.found)
    (dispatched_hidden (tower (loaded_together packages) (class_together packages x)) home number)
hidden_alike packages home p here_p s number x h = in_package home p h.found h.tree here_p h.mine h.file refl h.inside
    h.by_token
