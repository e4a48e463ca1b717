-- What class infos say of a class and its superclasses, told from the class up to any height that is enough.
use Rattle.std.proofs.Common.{◌≡◌, ℕ, zero, suc, ◌≤◌, sym, ap, ◌∙◌, arith, List}
use Rattle.std.specs.Prelude.{Some}
use Rattle.cjc_card_semantics.specs.CapRead.declared.tree.ClassEntry.{ClassEntry}
use Rattle.cjc_card_semantics.specs.Machine.Classes.{class_of, depth}
use Rattle.cjc_card_semantics.specs.Machine.Dispatch.{Tower, Exported, Table, above, exported_line, tower, tower_from}
use Rattle.cjc_card_semantics.specs.Machine.Dispatch.{table_or_missing}
use Rattle.cjc_world.specs.declared.found.Found.{Found}
use Rattle.cjc_world.specs.Classes.{Class}
use Rattle.cjc_ncode.specs.Lowering.Naming.{Naming}
use Rattle.cjc_token_proof.specs.Calls.Dispatching.{SaysTables, SaysFile, SaysTower, of_file, of_package}

-- the tables of a class and of so many above it
abbrev pub tower_on_card : Naming → (depth : ℕ) → List ℕ → Tower
tower_on_card n d x = tower_from n.loaded (suc d) (Some (n.class x))

module _ (w : List Class) (n : Naming) (offset : Found → ℕ) where
  pub card_package : (d : ℕ) (x super : List ℕ) (c : Class) (s : SaysTables w n offset x c super)
      → tower_on_card n (suc d) x ≡ Table n.part s.entry (tower_on_card n d super)
  card_package d x super c s =
      ap (λ q. tower_from n.loaded (suc (suc d)) (Some q)) s.on_card
      ∙ (ap (λ o. table_or_missing n.part o (λ (e : ClassEntry). tower_from n.loaded (suc d) (class_of n.loaded n.part
      e.superclass))) s.there
      ∙ ap (λ o. Table n.part s.entry (tower_from n.loaded (suc d) o)) s.superclass)

  pub card_file : (d : ℕ) (x : List ℕ) (c : Class) (s : SaysFile w n x c)
      → tower_on_card n d x ≡ Exported (exported_line n.loaded (Some s.entry))
  card_file d x c s = ap (λ q. tower_from n.loaded (suc d) (Some q)) s.on_card
      ∙ ap (λ o. Exported (exported_line n.loaded o)) s.there

  -- any height that is enough gives the same
  tower_same : {h : ℕ} {x z : List ℕ} → SaysTower w n offset h x z → (d e : ℕ) → h ≤ d → h ≤ e
      → tower_on_card n d x ≡ tower_on_card n e x
  tower_same {x = x} (of_file c known imported file) d e le le' = card_file d x c file ∙ sym (card_file e x c file)
  tower_same (of_package c super known imported supers class more) zero e le le' = absurd (omega (arith, le))
  tower_same (of_package c super known imported supers class more) (suc d) zero le le' = absurd (omega (arith, le'))
  tower_same {x = x} (of_package c super known imported supers class more) (suc d) (suc e) le le' =
      card_package d x super c class
      ∙ (ap (Table n.part class.entry) (tower_same more d e (omega (arith, le)) (omega (arith, le')))
      ∙ sym (card_package e x super c class))

  -- what stands above a class's tables are those of its superclass
  pub superclass_above : {h : ℕ} (x super z : List ℕ) (c : Class) → SaysTables w n offset x c super
      → SaysTower w n offset h super z → suc h ≤ depth n.loaded → above (tower n.loaded (n.class x))
      ≡ tower n.loaded (n.class super)
  superclass_above {h = h} x super z c class more le = by (depth n.loaded) le
    where
      by : (d : ℕ) → suc h ≤ d → above (tower_on_card n d x) ≡ tower_on_card n d super
      by zero low = absurd (omega (arith, low))
      by (suc d) low = ap above (card_package d x super c class) ∙ tower_same more d (suc d) (omega (arith, low))
          (omega (arith, low))
