-- Public and protected methods that selection gives in the joint world on a class that a package knows: the class has a
-- token for each, by which dispatch goes to where the method stands, through whichever packages.
use Rattle.std.proofs.Common.{◌≡◌, ℕ, ◌+◌, refl, sym, ap, subst, ◌∙◌, Bool, true, false, List, [], ◌∷◌, Option, Some}
use Rattle.std.proofs.Common.{None, length, ⊎_elim}
use Rattle.std.specs.Prelude.{◌&&◌, ◌||◌, not, option_map, position, slice_get, if◌then◌else◌}
use Rattle.std.proofs.lemmas.List.{append-nil}
use Rattle.cjc_bytes.specs.AccessFlags.{is_interface}
use Rattle.cjc_components.specs.ExportFile.{export_of}
use Rattle.cjc_components.specs.Package.{Package, world}
use Rattle.cjc_joint_proof.specs.JointPackages.{AreLinked, class_together, files_together}
use Rattle.cjc_joint_proof.specs.JointTables.{world_together}
use Rattle.cjc_joint_proof.specs.JointTowers.{GoesOn, loaded_together}
use Rattle.cjc_joint_proof.specs.Loading.{AllLead, group_of, member_of}
use Rattle.cjc_joint_proof.specs.Worlds.{before, found_in}
use Rattle.cjc_joint_proof.proofs.ClassLaws.{kept_in, number_in, sound_at, together_at, token_in}
use Rattle.cjc_joint_proof.proofs.ClimbLaws.{goes_on}
use Rattle.cjc_joint_proof.proofs.StandLaws.{Inside, Outside, own_together, stands}
use Rattle.cjc_joint_theorem.specs.Ordered.{AreOrdered}
use Rattle.cjc_joint_theorem.proofs.OrderedLaws.Ordered.{ordered}
use Rattle.cjc_joint_theorem.proofs.OrderedLaws.Selected.{where_moves, where_tells}
use Rattle.cjc_joint_theorem.proofs.OrderedLaws.Standing.{class_stands}
use Rattle.cjc_jvm_semantics.specs.Group.{is_of_group, is_open, own_where}
use Rattle.cjc_jvm_semantics.specs.OnePackage.{first_imported, method_hit}
use Rattle.cjc_theorem.proofs.AlikeLaws.VirtualCalls.Chosen.{first_found}
use Rattle.cjc_theorem.proofs.AlikeLaws.VirtualCalls.Lines.{HasShown, shown_selected, shown_token}
use Rattle.cjc_theorem.proofs.AlikeLaws.VirtualCalls.Ways.{line_class}
use Rattle.cjc_token_proof.proofs.TablesLaws.Clean.{has_named, kept}
use Rattle.cjc_token_proof.proofs.TablesLaws.Fields.{first_here}
use Rattle.cjc_token_proof.proofs.WorldProofOwn.{hit_is, is_found}
use Rattle.cjc_token_proof.proofs.WorldProofSelects.{called_by}
use Rattle.cjc_token_proof.proofs.WrittenCalls.Facts.{Facts}
use Rattle.cjc_token_proof.proofs.WrittenCalls.Found.{own_is}
use Rattle.cjc_token_proof.proofs.WrittenCalls.Held.{FormsLaw, OffsetsLaw}
use Rattle.cjc_token_proof.proofs.WrittenCalls.Receivers.{line_found}
use Rattle.cjc_token_proof.proofs.WrittenCalls.Towers.{line_is}
use Rattle.cjc_token_proof.specs.Calls.Dispatching.{event}
use Rattle.cjc_token_proof.specs.Calls.Reaching.{is_in_method}
use Rattle.cjc_token_proof.specs.CardSemantics.Machine.Dispatch.{Outward, Selection, dispatched_open, tower}
use Rattle.cjc_token_proof.specs.CardSemantics.Machine.Loaded.{Loaded}
use Rattle.cjc_token_proof.specs.Tables.Infos.{HasEntry}
use Rattle.cjc_token_proof.specs.VTable.Dispatch as tables
use Rattle.cjc_token_proof.specs.VTable.Dispatch.{tower_of}
use Rattle.cjc_token_proof.specs.VTable.Naming.{named as signature_at}
use Rattle.cjc_tokens.proofs.Facts.{chosen-passes}
use Rattle.cjc_tokens.specs.Lines.{line_of}
use Rattle.cjc_tokens.specs.Members.{Signature, is_constructor, is_initialiser, is_virtual, signature_of}
use Rattle.cjc_tokens.specs.Slots.{slots, token}
use Rattle.cjc_vtable.proofs.Agrees.{shown_selects}
use Rattle.cjc_vtable.specs.Calls.{is_special, selects, selects_shown}
use Rattle.cjc_vtable.specs.Laws.{CallsAlike, TokensOnce, below, itself}
use Rattle.cjc_world.proofs.Cycles.{class_named-name}
use Rattle.cjc_world.proofs.Settled.{supertypes-known}
use Rattle.cjc_world.proofs.Upwards.{line_goes_up}
use Rattle.cjc_world.proofs.UpwardLaws.Lines.{below_abroad, first_has, first_some, in_line, line_below, line_named}
use Rattle.cjc_world.proofs.UpwardLaws.Lines.{of_line}
use Rattle.cjc_world.specs.ClassFile.declared.tree.ClassTree.{ClassTree}
use Rattle.cjc_world.specs.Classes.{Class, Member, class_named, declared}
use Rattle.cjc_world.specs.Files.{Files}
use Rattle.cjc_world.specs.Lookup.{first, is_called, is_selectable, is_wanted, member_at, own_method}
use Rattle.cjc_world.specs.Supertypes.{IsAcyclic, Lists, foremost, line, supertypes, upwards}
use Rattle.cjc_world.specs.Upwards.{IsOrdered}
use Rattle.cjc_world.specs.declared.found.Found.{Found}
use Rattle.cjc_joint_whole.specs.Selected.{FindsOpen, OpenSelectionsAgree, OutsideClassesAgree, SelectTogether}
use Rattle.cjc_joint_whole.specs.Selected.{SelectsAlike, from_outside, in_package}
use Rattle.cjc_joint_whole.proofs.WholeLaws.ClimbingPackages.{climbing_packages}
use Rattle.cjc_joint_whole.proofs.WholeLaws.Exposed.{stands_once}
use Rattle.cjc_joint_whole.proofs.WholeLaws.FixedNamed.{AloneLaws, inside_at}
use Rattle.cjc_joint_whole.proofs.WholeLaws.Shown.{SelectsBy, Shows, called_parts, none_selected, open_parts}
use Rattle.cjc_joint_whole.proofs.WholeLaws.Shown.{own_selected, search_from, search_up, shows_at, where_at}
use Rattle.cjc_joint_whole.proofs.WholeLaws.TokenMeans.{ImportsAreExposed}
use Rattle.cjc_joint_whole.proofs.WholeLaws.TokensDown.{lists_one, shared_token}

-- ---- flags and names

pub special_parts : (name : List ℕ) → (is_constructor name || is_initialiser name) ≡ false → is_initialiser name ≡ false
special_parts name e = by (is_constructor name) (is_initialiser name) e
  where
    by : (a b : Bool) → (a || b) ≡ false → b ≡ false
    by true b e = absurd cc
    by false b e = e

pub virtual_by : (m : Member) → is_selectable m.flags ≡ true → is_special (signature_of m) ≡ false → is_virtual m ≡ true
virtual_by m a b = by (is_selectable m.flags) (is_special (signature_of m)) a b
  where
    by : (a b : Bool) → a ≡ true → b ≡ false → (a && not b) ≡ true
    by true false e f = refl
    by true true e f = absurd cc
    by false b e f = absurd cc

pub same_found : {f g : Found} → Some f ≡ Some g → f ≡ g
same_found e = cc

clash : {b : Bool} → b ≡ true → b ≡ false → ⊥
clash e g = let no : true ≡ false = sym e ∙ g in cc

pub line_from : (w : List Class) → IsAcyclic w → (x : List ℕ) (k : Class) → class_named w x ≡ Some k → line w x
    ≡ k ∷ upwards (supertypes w k.supers)
unfolding line
line_from w acyclic x k named = ap upwards (supertypes-known w acyclic x k named)
    ∙ append-nil (k ∷ upwards (supertypes w k.supers))

-- ---- an imported class in the world of a package

module _ (p : Package) (its : IsOrdered (world p)) (exposed : ImportsAreExposed p) (by_rules : SelectsBy (world p))
    (s : Signature) (ordinary : is_special s ≡ false) where
  abbrev alone : List Class
  alone = world p

  abbrev picked : Class → Option Found
  picked = own_method true s.name s.desc

  -- Selection there gives a public or protected method of an imported class.
  pub record ShowsFar (x : List ℕ) : Type 0 where
    pub flags : ℕ
    pub shows : Shows alone x s flags
    pub far : (let f = shows.place in f.imported ≡ true)

  -- where the class has a token for it
  pub shows_far : (x : List ℕ) (c : Class) → class_named alone x ≡ Some c → c.is_imported ≡ true
      → is_interface c.flags ≡ false → (t : ℕ) → token (slots (line_of alone x)) s ≡ Some t → ShowsFar x
  unfolding own_method
  shows_far x c known import plain t tok =
      let o = lists_one p its x c known import plain s t tok in
      let k = o.class in
      let passes : (is_wanted true (let m = o.method in m.flags) && is_called s.name s.desc o.method) ≡ true =
      ap (λ b. b && is_called s.name s.desc o.method) (shown_selects o.method o.shown)
      ∙ called_by s.name s.desc o.method (ap (λ (u : Signature). u.name) o.one) (ap (λ (u : Signature). u.desc) o.one)
      in
      let at = is_found (λ (m : Member). is_wanted true m.flags && is_called s.name s.desc m) k.methods o.place o.method
      o.there passes in
      let own : picked k ≡ Some (member_at k (length k.fields + at.0)) = ap (option_map (λ n. member_at k
      (length k.fields + n))) at.1 in
      let g = first_some picked (line alone x) k (member_at k (length k.fields + at.0)) (in_line alone its.acyclic x k
      o.on) own in
      by g.0 g.1
    where
      by : (g : Found) → first picked (line alone x) ≡ Some g → ShowsFar x
      by g e =
          let r = first_found true s (line alone x) g e in
          let d = r.class in
          let a = r.at in
          let m = a.method in
          let on = of_line alone its.acyclic x d r.among in
          let named = line_named alone x d on in
          let abroad = below_abroad alone its x d.name c d (line_below alone x d on) known import named in
          let is_m = chosen-passes selects s d.methods m a.is_first in
          record {
            flags = m.flags;
            shows = record {
              place = g;
              found = e;
              hit = record { owner = d; flags = m.flags };
              is_hit = ap (method_hit alone) a.is ∙ hit_is alone d a.place m (by_rules.numbered d.name d named) a.there;
              selectable = is_m.1;
              exposed = exposed d.name d a.place m named abroad (line_class alone its x c d on known plain) a.there
                  (virtual_by m is_m.1 (ap is_special is_m.0 ∙ ordinary));
              has_flags = refl;
            };
            far = ap (λ (f : Found). f.imported) a.is ∙ abroad;
          }

-- ---- a group

module _ (forms : FormsLaw) (offsets : OffsetsLaw) (packages : List Package) (is : SelectTogether packages)
    (each : (q : ℕ) (p : Package) → slice_get packages q ≡ Some p → AloneLaws p)
    (exposed : (q : ℕ) (p : Package) → slice_get packages q ≡ Some p → ImportsAreExposed p)
    (outside : OutsideClassesAgree packages)
    (leads : (q : ℕ) (p : Package) → slice_get packages q ≡ Some p → AllLead (group_of packages) (member_of p)) where
  abbrev l : Loaded
  l = loaded_together packages

  abbrev group : List Files
  group = files_together packages

  abbrev w : List Class
  w = world_together packages

  linked : AreLinked packages
  linked = is.linked

  all : AreOrdered group
  all = is.ordered

  order : IsOrdered w
  order = ordered group all

  facts : (q : ℕ) (p : Package) → slice_get packages q ≡ Some p → Facts p
  facts q p it = let a = each q p it in a.facts

  its_order : (q : ℕ) (p : Package) → slice_get packages q ≡ Some p → IsOrdered (world p)
  its_order q p it = all.each q p.files (together_at packages linked q p it)

  rules_at : (q : ℕ) (p : Package) → slice_get packages q ≡ Some p → SelectsBy (world p)
  rules_at q p it = (let f = facts q p it in let r = f.rules in record {
    acyclic = r.acyclic;
    rules = f.rules;
    numbered = f.placed;
  })

  module _ (s : Signature) (ordinary : is_special s ≡ false) (f : Found) where
    abbrev opened : Class → Option Found
    opened = own_where is_open s.name s.desc

    abbrev sel : Class → Option Found
    sel = own_method true s.name s.desc

    -- Where what selection in a package's own world gives on a class stands: in a class file of the package, or it goes
    -- on at the first imported class.
    data Origin (q : ℕ) (p : Package) (x : List ℕ) (t : ℕ) (g : Found) : Type 0 where
      of_own : (tree : ClassTree) → g.imported ≡ false
          → (let files = p.files in slice_get files.classes g.class ≡ Some tree) → f ≡ found_in (before group q) g
          → is_in_method (world p) g ≡ true → Origin q p x t g
      beyond : g.imported ≡ true → (z : List ℕ) → first_imported (line (world p) x) ≡ z
          → first_imported (line w x) ≡ first_imported (line w z)
          → SelectsAlike packages z s f (dispatched_open (tower l (class_together packages z)) t) → Origin q p x t g

    -- A token by which a package has it on a class.
    record Finds (q : ℕ) (p : Package) (x : List ℕ) : Type 0 where
      flags : ℕ
      shows : Shows (world p) x s flags
      its : ℕ
      its_token : token (slots (line_of (world p) x)) s ≡ Some its
      origin : Origin q p x its (let h = shows in h.place)

    -- where selection in the joint world gives it
    abbrev FindsAt : ℕ → Package → List ℕ → Type 0
    FindsAt q p x = first opened (line w x) ≡ Some f → Finds q p x

    -- ---- in a package

    module _ (q : ℕ) (p : Package) (it : slice_get packages q ≡ Some p) where
      abbrev v : List Class
      v = world p

      its_facts : Facts p
      its_facts = facts q p it

      by_rules : SelectsBy v
      by_rules = rules_at q p it

      -- what is selected there is shown
      has_shown : (x : List ℕ) (flags : ℕ) → Shows v x s flags → HasShown v x s
      has_shown x flags h =
          let a = shows_at v by_rules s ordinary x flags h in
          record {
            class = a.class;
            on = a.on;
            method = a.method;
            among = a.among;
            shown = a.shown;
            one = a.one;
            is_first = λ own. a.is_first;
          }

      shown_so : (x : List ℕ) (flags : ℕ) → Shows v x s flags → selects_shown (line_of v x) s ≡ true
      shown_so x flags h = (let k = its_facts in shown_selected v k.are_supertypes k.one_supertypes k.rules x s
          (has_shown x flags h))

      -- ---- a class of the package

      module _ (x : List ℕ) (c : Class) (known : class_named v x ≡ Some c) (mine : c.is_imported ≡ false)
          (plain : is_interface c.flags ≡ false) where
        goes : GoesOn packages q p x
        goes = goes_on packages linked leads facts q p it x c known plain mine

        -- dispatch leads there
        leads_there : Finds q p x → FindsOpen packages p x s f
        leads_there h = record {
          its = h.its;
          its_token = h.its_token;
          shown = shown_so x h.flags h.shows;
          alike = by h.origin;
        }
          where
            place : Found
            place = let k = h.shows in k.place

            calls : CallsAlike v x x
            calls = let k = its_facts in k.virtual_calls x x c c known plain known itself

            met : tables.dispatched (tower_of v x) h.its ≡ Some (let k = h.shows in k.place)
            met = let a = calls in let k = h.shows in a.by_token s h.its h.its_token (shown_so x h.flags h.shows)
                ∙ k.found

            is_named : signature_at v (let k = h.shows in k.place) ≡ Some s
            is_named = let k = h.shows in line_found p its_facts true s.name s.desc x k.place k.found

            moved : (z : List ℕ) (a b : Selection) → a ≡ b → first_imported (line w x) ≡ first_imported (line w z)
                → SelectsAlike packages z s f b → SelectsAlike packages x s f a
            moved z a b same joint (in_package r e g t there own file one inside at) =
                in_package r e g t there own file one inside (same ∙ at)
            moved z a b same joint (from_outside import at) =
                from_outside import (same ∙ at ∙ ap (λ y. Outward (event y s)) (sym joint))

            by : Origin q p x h.its (let k = h.shows in k.place)
                → SelectsAlike packages x s f (dispatched_open (tower l (class_together packages x)) h.its)
            by (of_own tree own file same inside) =
                let g = goes in
                let on = g.on in
                in_package q p (let k = h.shows in k.place) tree it own file same inside (on.own h.its (let k = h.shows
                in k.place) s met is_named own)
            by (beyond import z alone joint alike) =
                let g = goes in
                let on = g.on in
                moved z (dispatched_open (tower l (class_together packages x)) h.its) (dispatched_open (tower l
                (class_together packages z)) h.its) (on.onward h.its (let k = h.shows in k.place) s met is_named import
                ∙ ap (λ y. dispatched_open (tower l (class_together packages y)) h.its) (sym g.first ∙ alone)) joint
                alike

        -- a method is the only one of its name and descriptor in the class (202)
        once : (i : ℕ) (m : Member) → slice_get c.methods i ≡ Some m → is_called s.name s.desc m ≡ true
            → position (λ (k : Member). is_called s.name s.desc k) c.methods ≡ Some i
        once i m there called =
            let sound = sound_at packages linked q p it in
            let keeps = kept sound.list p.files sound.sound c (has_named v x c known) in
            let names = called_parts s.name s.desc m called in
            first_here (λ (k : Member). is_called s.name s.desc k) c.methods i m there called
            (stands_once c.methods i m s.name s.desc names.0 names.1 (keeps.methods i m there))

        -- its own method
        finds_here : (g : Found) → opened c ≡ Some g → FindsAt q p x
        finds_here g e found =
            let a = where_at is_open s.name s.desc c g e in
            let m = a.method in
            let parts = open_parts m.flags a.passing in
            let names = called_parts s.name s.desc m a.called in
            let alone = own_together packages linked q p it x c known mine in
            let together = joint_own g e in
            let shows : Shows v x s m.flags = record {
              place = member_at c (length c.fields + a.place);
              found = search_from v (let r = by_rules in r.acyclic) sel x c known (member_at c (length c.fields
                  + a.place)) (own_selected v by_rules s ordinary c a.place m a.there a.called (once a.place m a.there
                  a.called) a.passing);
              hit = record { owner = c; flags = m.flags };
              is_hit = hit_is v c a.place m (let r = by_rules in r.numbered x c known) a.there;
              selectable = parts.0;
              exposed = parts.1;
              has_flags = refl;
            } in
            let t = (let k = its_facts in shown_token v k.are_supertypes k.one_supertypes k.rules x c known plain s
            (has_shown x m.flags shows)) in
            record {
              flags = m.flags;
              shows = shows;
              its = t.0;
              its_token = t.1;
              origin = of_own alone.tree mine (ap (λ (k : Class). (let files = p.files
                  in slice_get files.classes k.number)) alone.is ∙ alone.file) (same_found (sym found ∙ together)
                  ∙ ap (found_in (before group q)) a.is) (inside_at forms offsets p (each q p it) x c known mine plain
                  a.place m a.there (ap is_initialiser names.0 ∙ special_parts s.name ordinary));
            }
          where
            joint_own : (g : Found) → opened c ≡ Some g → first opened (line w x) ≡ Some (found_in (before group q) g)
            joint_own g e =
                let o = own_together packages linked q p it x c known mine in
                let t = o.tree in
                search_from w order.acyclic opened x (declared (before group q + o.place) t) o.together
                (found_in (before group q) g) (where_moves is_open s.name s.desc (before group q) o.place t
                ∙ ap (λ k. option_map (found_in (before group q)) (opened k)) (sym o.is)
                ∙ ap (option_map (found_in (before group q))) e)

        -- one of its superclass
        finds_above : (super : List ℕ) → c.supers ≡ super ∷ [] → (b : Class) → class_named v super ≡ Some b
            → opened c ≡ None → FindsAt q p super → FindsAt q p x
        finds_above super supers b super_is none above found =
            let o = own_together packages linked q p it x c known mine in
            let t = o.tree in
            let d : Class = declared (before group q + o.place) t in
            let its_supers : d.supers ≡ super ∷ [] = sym (ap (λ (k : Class). k.supers) o.is) ∙ supers in
            let moved : opened d ≡ None = where_moves is_open s.name s.desc (before group q) o.place t
            ∙ ap (λ k. option_map (found_in (before group q)) (opened k)) (sym o.is)
            ∙ ap (option_map (found_in (before group q))) none in
            let r = above (sym (search_up w order.acyclic opened x super d o.together its_supers moved) ∙ found) in
            let h = r.shows in
            let rules = by_rules in
            let shows : Shows v x s r.flags = record {
              place = h.place;
              found = search_up v rules.acyclic sel x super c known supers (none_selected v by_rules s ordinary x super
                  c known mine supers none r.flags h) ∙ h.found;
              hit = h.hit;
              is_hit = h.is_hit;
              selectable = h.selectable;
              exposed = h.exposed;
              has_flags = h.has_flags;
            } in
            let once : TokensOnce v x super = (let k = its_facts in k.tokens_once x super c b known plain super_is
            (below c known (subst (Lists super) (sym supers) foremost) itself)) in
            record {
              flags = r.flags;
              shows = shows;
              its = r.its;
              its_token = once.inherited s r.its r.its_token;
              origin = higher r.its h.place r.origin;
            }
          where
            higher : (n : ℕ) (g : Found) → Origin q p super n g → Origin q p x n g
            higher n g (of_own tree own file same inside) = of_own tree own file same inside
            higher n g (beyond import z alone joint alike) =
                let o = own_together packages linked q p it x c known mine in
                let rules = by_rules in
                beyond import z
                (ap first_imported (line_goes_up v rules.acyclic x super c known supers)
                ∙ ap (λ b. if b then c.name else first_imported (line v super)) mine ∙ alone)
                (ap first_imported (line_goes_up w order.acyclic x super (declared (before group q + o.place) o.tree)
                o.together (sym (ap (λ (k : Class). k.supers) o.is) ∙ supers)) ∙ joint)
                alike

      -- ---- an imported class

      module _ (x : List ℕ) (c : Class) (known : class_named v x ≡ Some c) (import : c.is_imported ≡ true)
          (plain : is_interface c.flags ≡ false) where
        itself_first : first_imported (line v x) ≡ x
        itself_first = ap first_imported (line_is p its_facts x c known)
            ∙ ap (λ b. if b then c.name else first_imported (upwards
            (supertypes v c.supers))) import
            ∙ class_named-name v x c known

        -- which leads there
        finds_far : (t : ℕ) → token (slots (line_of v x)) s ≡ Some t
            → SelectsAlike packages x s f (dispatched_open (tower l (class_together packages x)) t) → Finds q p x
        finds_far t tok alike =
            let r = shows_far p (its_order q p it) (exposed q p it) by_rules s ordinary x c known import plain t tok in
            record {
              flags = r.flags;
              shows = r.shows;
              its = t;
              its_token = tok;
              origin = beyond r.far x itself_first refl alike;
            }

        -- and so does what is found
        found_far : Finds q p x → FindsOpen packages p x s f
        found_far h = record {
          its = h.its;
          its_token = h.its_token;
          shown = shown_so x h.flags h.shows;
          alike = by h.origin;
        }
          where
            by : Origin q p x h.its (let k = h.shows in k.place)
                → SelectsAlike packages x s f (dispatched_open (tower l (class_together packages x)) h.its)
            by (of_own tree own file same inside) =
                let k = h.shows in
                let one = first_has sel (line v x) k.place k.found in
                let d = one.0 in
                let on = of_line v (let i = its_order q p it in i.acyclic) x d one.1 in
                let abroad = below_abroad v (its_order q p it) x d.name c d (line_below v x d on) known import
                (line_named v x d on) in
                let at = own_is v true s.name s.desc d k.place one.2 in
                absurd (clash (ap (λ (g : Found). g.imported) at.is ∙ abroad) own)
            by (beyond far z alone joint alike) =
                subst (λ y. SelectsAlike packages y s f (dispatched_open (tower l (class_together packages y)) h.its))
                (sym alone ∙ itself_first) alike

        -- one from outside
        finds_outside : (h : HasEntry p c) → is_of_group group (let t = h.tree in t.name) ≡ false → FindsAt q p x
        finds_outside h out found =
            let o = outside q p it x c known plain (h, out) in
            let t = o.has s ordinary f found in
            let hs = class_stands group all q p.files (together_at packages linked q p it) x c known in
            let k = hs.class in
            let abroad = ⊎_elim (inside k) (beside k) (stands packages linked x k hs.named) in
            finds_far t.0 t.1 (from_outside (is_abroad k hs.named abroad) (o.makes s ordinary t.0 t.1
            ∙ ap (λ y. Outward (event y s)) (sym (ends k hs.named abroad))))
          where
            inside : (k : Class) → Inside packages linked x k → k.is_imported ≡ true
            inside k i =
                let no = linked.no_own (number_in packages linked q p it x c known h out) i.part h.tree i.«package»
                (declared i.place i.tree) x (let a = h.entry in a.token) (kept_in packages linked q p it x c known h
                out) (token_in packages linked q p it x c known h out) i.here i.there in
                absurd (clash no refl)

            beside : (k : Class) → Outside packages linked x k → k.is_imported ≡ true
            beside k o = ap (λ (d : Class). d.is_imported) o.is

            is_abroad : (k : Class) → class_named w x ≡ Some k → k.is_imported ≡ true → f.imported ≡ true
            is_abroad k named far =
                let one = first_has opened (line w x) f found in
                let d = one.0 in
                let on = of_line w order.acyclic x d one.1 in
                where_tells is_open s.name s.desc d f one.2 ∙ below_abroad w order x d.name k d (line_below w x d on)
                named far (line_named w x d on)

            ends : (k : Class) → class_named w x ≡ Some k → k.is_imported ≡ true → first_imported (line w x) ≡ x
            ends k named far = ap first_imported (line_from w order.acyclic x k named)
                ∙ ap (λ b. if b then k.name else first_imported (upwards
                (supertypes w k.supers))) far ∙ class_named-name w x k named

    -- ---- upwards

    finds_own : (q : ℕ) (p : Package) → slice_get packages q ≡ Some p → (x : List ℕ) (c : Class)
        → class_named (world p) x ≡ Some c → c.is_imported ≡ false → is_interface c.flags ≡ false → (super : List ℕ)
        → c.supers ≡ super ∷ [] → (d : Class) → class_named (world p) super ≡ Some d → is_interface d.flags ≡ false
        → FindsAt q p super → FindsAt q p x
    finds_own q p it x c known mine plain super supers d super_is ground above = by (opened c) refl
      where
        by : (o : Option Found) → opened c ≡ o → FindsAt q p x
        by (Some g) e = finds_here q p it x c known mine plain g e
        by None e = finds_above q p it x c known mine plain super supers d super_is e above

    finds_shared : (q : ℕ) (p : Package) → slice_get packages q ≡ Some p → (x : List ℕ) (c : Class)
        → class_named (world p) x ≡ Some c → c.is_imported ≡ true → is_interface c.flags ≡ false → (h : HasEntry p c)
        → (r : ℕ) (e : Package) → slice_get packages r ≡ Some e → h.tree ≡ export_of e → (k : Class)
        → class_named (world e) x ≡ Some k → k.is_imported ≡ false → is_interface k.flags ≡ false → FindsAt r e x
        → FindsAt q p x
    finds_shared q p it x c known import plain h r e there same k is_k own kind rest found =
        let o = leads_there r e there x k is_k own kind (rest found) in
        finds_far q p it x c known import plain o.its (shared_token packages is facts exposed outside q p it x c known
        import plain h r e there same k is_k kind s ordinary o.its o.its_token) o.alike

    finds_abroad : (q : ℕ) (p : Package) → slice_get packages q ≡ Some p → (x : List ℕ) (c : Class)
        → class_named (world p) x ≡ Some c → c.is_imported ≡ true → is_interface c.flags ≡ false → (h : HasEntry p c)
        → is_of_group group (let t = h.tree in t.name) ≡ false → FindsAt q p x
    finds_abroad q p it x c known import plain h out = finds_outside q p it x c known import plain h out

    finds : (q : ℕ) (p : Package) → slice_get packages q ≡ Some p → (x : List ℕ) (c : Class)
        → class_named (world p) x ≡ Some c → is_interface c.flags ≡ false → FindsAt q p x
    finds q p it x c known plain = climbing_packages packages linked facts FindsAt finds_own finds_shared finds_abroad q
        p it x c known plain

    pub finds_open : (q : ℕ) (p : Package) → slice_get packages q ≡ Some p → (x : List ℕ) (c : Class)
        → class_named (world p) x ≡ Some c → is_interface c.flags ≡ false → first opened (line w x) ≡ Some f
        → FindsOpen packages p x s f
    finds_open q p it x c known plain found = by c.is_imported refl
      where
        by : (b : Bool) → c.is_imported ≡ b → FindsOpen packages p x s f
        by false mine = leads_there q p it x c known mine plain (finds q p it x c known plain found)
        by true import = found_far q p it x c known import plain (finds q p it x c known plain found)

  -- so it is of each that is selected
  pub open_selections_agree : OpenSelectionsAgree packages
  open_selections_agree q p it x c known plain s ordinary f found = finds_open s ordinary f q p it x c known plain found
