-- Ways upwards over superclasses, in worlds whose classes list what is of their kind.
use Rattle.std.proofs.Common.{◌≡◌, ℕ, refl, sym, ap, subst, ◌∙◌, Bool, true, false, List, [], ◌∷◌, inl}
use Rattle.std.specs.Prelude.{Option, Some, None}
use Rattle.cjc_bytes.specs.AccessFlags.{is_interface}
use Rattle.cjc_token_proof.proofs.WorldProofOwn.{own_at}
use Rattle.cjc_tokens.specs.Members.{Signature}
use Rattle.cjc_world.specs.Upwards.{Below, IsOrdered, OnLine, here, up}
use Rattle.cjc_world.proofs.UpwardLaws.Lines.{below_abroad, first_some, in_line, line_begins, line_below, listed_below}
use Rattle.cjc_world.proofs.UpwardLaws.Lines.{same_class}
use Rattle.cjc_vtable.specs.Laws.{KeepsRules, Under, below, itself, selection}
use Rattle.cjc_world.specs.declared.found.Found.{Found}
use Rattle.cjc_world.specs.Classes.{Class, class_named}
use Rattle.cjc_world.specs.Supertypes.{Lists, after, foremost, line}
use Rattle.cjc_world.specs.Lookup.{first, or_else, own_method}
use Rattle.cjc_world.proofs.Cycles.{class_named-name}
use Rattle.cjc_world.proofs.Settled.{lists-front}
use Rattle.cjc_world.proofs.Upwards.{line_goes_up}

only : (y s : List ℕ) → Lists y (s ∷ []) → y ≡ s
only y s foremost = refl
only y s (after l) = elim l [ ]

first_step : (own : Class → Option Found) (c : Class) (cs : List Class)
    → first own (c ∷ cs) ≡ or_else (own c) (first own cs)
unfolding first
first_step own c cs = refl

pub under_below : (w : List Class) (x y : List ℕ) → Under w x y → Below w x y
under_below w x y itself = inl refl
under_below w x y (below {y = z} c e l under) = listed_below w x z y c e (lists-front z c.supers c.interfaces l)
    (under_below w z y under)

module _ (w : List Class) (ordered : IsOrdered w) where
  -- a class stands on lines of classes
  pub line_class : (x : List ℕ) (c d : Class) → OnLine w x d → class_named w x ≡ Some c → is_interface c.flags ≡ false
      → is_interface d.flags ≡ false
  line_class x c d (here e) f plain = ap (λ (q : Class). is_interface q.flags) (same_class (sym e ∙ f)) ∙ plain
  line_class x c d (up {s = s} b e l on) f plain = let a = line_begins w s d on
      in line_class s a.0 d on a.1 (ordered.supers x s b a.0 e l a.1)

  -- what stands above an imported class is imported
  pub line_abroad : (x : List ℕ) (c d : Class) → OnLine w x d → class_named w x ≡ Some c → c.is_imported ≡ true
      → class_named w d.name ≡ Some d → d.is_imported ≡ true
  line_abroad x c d on e import f = below_abroad w ordered x d.name c d (line_below w x d on) e import f

  module _ (rules : KeepsRules w) where
    -- of two classes on a line the imported one stands above that of the package
    pub far_above : (x : List ℕ) (c d : Class) → OnLine w x c → class_named w c.name ≡ Some c → c.is_imported ≡ false
        → OnLine w x d → d.is_imported ≡ true → OnLine w c.name d
    far_above x c d (here e) named own on import = subst (λ n. OnLine w n d) (sym (class_named-name w x c e)) on
    far_above x c d (up {s = s} b e l rest) named own (here f) import =
        let same : b ≡ d = same_class (sym e ∙ f) in
        let clash : true ≡ false = sym (line_abroad x b c (up b e l rest) e (ap (λ (q : Class). q.is_imported) same
        ∙ import) named) ∙ own in
        absurd cc
    far_above x c d (up {s = s} b e l rest) named own (up {s = t} a f k on) import =
        by b.is_imported refl (λ way. far_above s c d rest named own way import)
      where
        by : (v : Bool) → b.is_imported ≡ v → (OnLine w s d → OnLine w c.name d) → OnLine w c.name d
        by true g more = let clash : true ≡ false = sym (line_abroad x b c (up b e l rest) e g named) ∙ own in absurd cc
        by false g more =
            let same : a ≡ b = same_class (sym f ∙ e) in
            let z = rules.single x b e g in
            let at : s ≡ z.0 = only s z.0 (subst (Lists s) z.1 l) in
            let there : t ≡ z.0 = only t z.0 (subst (Lists t) z.1 (subst (λ (q : Class). Lists t q.supers) same k)) in
            more (subst (λ n. OnLine w n d) (there ∙ sym at) on)

    -- The first imported class on the way to one, from which the same is selected.
    pub record IsTop (s : Signature) (f : Found) (d : Class) : Type 0 where
      pub name : List ℕ
      pub class : Class
      pub known : class_named w name ≡ Some class
      pub import : class.is_imported ≡ true
      pub plain : is_interface class.flags ≡ false
      pub on : OnLine w name d
      pub selected : selection w name s ≡ Some f

    pub top : (s : Signature) (f : Found) (x : List ℕ) (c d : Class) → OnLine w x d → d.is_imported ≡ true
        → class_named w x ≡ Some c → is_interface c.flags ≡ false → f.imported ≡ true → selection w x s ≡ Some f
        → IsTop s f d
    top s f x c d (here e) import known plain far sel =
        let same : d ≡ c = same_class (sym e ∙ known) in
        record {
          name = x;
          class = d;
          known = e;
          import = import;
          plain = ap (λ (q : Class). is_interface q.flags) same
              ∙ plain;
          on = here e;
          selected = sel;
        }
    top s f x c d (up {s = y} b e l on) import known plain far sel =
        by b.is_imported refl (λ a h there more. top s f y a d on import h there far more)
      where
        same : b ≡ c
        same = same_class (sym e ∙ known)

        plain_here : is_interface b.flags ≡ false
        plain_here = ap (λ (q : Class). is_interface q.flags) same ∙ plain

        by : (v : Bool) → b.is_imported ≡ v → ((a : Class) → class_named w y ≡ Some a → is_interface a.flags ≡ false
            → selection w y s ≡ Some f → IsTop s f d) → IsTop s f d
        by true g rest = record {
          name = x;
          class = b;
          known = e;
          import = g;
          plain = plain_here;
          on = up b e l on;
          selected = sel;
        }
        by false g rest = own_one (own_method true s.name s.desc b) refl
          where
            z : (q : List ℕ) × (b.supers ≡ q ∷ [])
            z = rules.single x b e g

            at : y ≡ z.0
            at = only y z.0 (subst (Lists y) z.1 l)

            step : or_else (own_method true s.name s.desc b) (selection w y s) ≡ Some f
            step = sym (ap (first (own_method true s.name s.desc)) (line_goes_up w ordered.acyclic x y b e (z.1
                ∙ ap (λ n. n ∷ []) (sym at))) ∙ first_step (own_method true s.name s.desc) b (line w y)) ∙ sel

            begins : (a : Class) × (class_named w y ≡ Some a)
            begins = line_begins w y d on

            own_one : (o : Option Found) → own_method true s.name s.desc b ≡ o → IsTop s f d
            own_one (Some h) i =
                let both : Some h ≡ Some f = sym (ap (λ o. or_else o (selection w y s)) i) ∙ step in
                let one : h ≡ f = cc in
                let a = own_at true s.name s.desc b h i in
                let clash : true ≡ false = sym far ∙ ap (λ (q : Found). q.imported) (sym one)
                ∙ ap (λ (q : Found). q.imported) a.is ∙ g in
                absurd cc
            own_one None i = rest begins.0 begins.1 (ordered.supers x y b begins.0 e l begins.1)
                (sym (ap (λ o. or_else o (selection w y s)) i) ∙ step)

  -- a class on a line with a method of its own is found from there
  pub line_finds : (own : Class → Option Found) (x : List ℕ) (d : Class) (f : Found) → OnLine w x d → own d ≡ Some f
      → (g : Found) × (first own (line w x) ≡ Some g)
  line_finds own x d f on e = first_some own (line w x) d f (in_line w ordered.acyclic x d on) e
