-- The next entry of a script, after its acts.
use Rattle.std.proofs.Common.{◌≡◌, ℕ, List, [], ◌∷◌, sym, ap, ◌∙◌, Bool, true, false}
use Rattle.std.specs.Prelude.{Option, if◌then◌else◌}
use Rattle.cjc_jvm_step.specs.Script.declared.script.Entry.{Entry}
use Rattle.cjc_jvm_step.specs.Script.declared.report.Outcome.TheVariants.{Unfit}
use Rattle.cjc_jvm_step.specs.Script.declared.report.Thing.{Thing}
use Rattle.cjc_jvm_step.specs.Script.Sorts.{signature_of}
use Rattle.cjc_jvm_step.specs.CardSemantics.Bytecode.Runs.{Move, Over}
use Rattle.cjc_jvm_semantics.specs.Linked.{Linked, Method}
use Rattle.cjc_jvm_semantics.specs.Machine.{State, report, heap_of, with_heap, after_acts, args_fit, begins}
use Rattle.cjc_jvm_semantics.specs.Machine.{entry_begins, entry_method}

module _ (l : Linked) (e : Entry) (rest : List Entry) (s : State) (heap : List Thing) (done : Bool)
    (acts : (number : ℕ) (t : State) (go : State → Move State) → after_acts l e.acts number (with_heap (heap_of s) t) go
    ≡ (if done then go (with_heap heap t) else Over (report (Unfit number) (with_heap heap t)))) (next : s.entries ≡ e
    ∷ rest) where
  -- what follows the acts
  abbrev follows : State → Move State
  follows t = entry_begins l (entry_method l (heap_of t) e) (args_fit l (heap_of t) e (signature_of (let m = e.method
      in m.desc))) e rest t

  begins_by : begins l [] s.entries s ≡ (if done then follows (with_heap heap s)
      else Over (report (Unfit e.number) (with_heap heap s)))
  begins_by = ap (λ es. begins l [] es s) next ∙ acts e.number s follows

  -- acts that do not fit
  pub unfit : done ≡ false → begins l [] s.entries s ≡ Over (report (Unfit e.number) (with_heap heap s))
  unfit is = begins_by ∙ ap (λ d. if d then follows (with_heap heap s)
      else Over (report (Unfit e.number) (with_heap heap s))) is

  -- acts that fit, and then the method and the arguments
  pub fits : done ≡ true → (m : Option Method) (fit : Bool) → m ≡ entry_method l heap e
      → fit ≡ args_fit l heap e (signature_of (let id = e.method in id.desc)) → begins l [] s.entries s
      ≡ entry_begins l m fit e rest (with_heap heap s)
  fits is m fit by_name by_types =
      begins_by
      ∙ ap (λ d. if d then follows (with_heap heap s) else Over (report (Unfit e.number) (with_heap heap s))) is
      ∙ ap (λ n. entry_begins l n (args_fit l heap e (signature_of (let id = e.method in id.desc))) e rest
      (with_heap heap s)) (sym by_name)
      ∙ ap (λ t. entry_begins l m t e rest (with_heap heap s)) (sym by_types)
