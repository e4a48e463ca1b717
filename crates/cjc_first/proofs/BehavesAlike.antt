-- A package of the form and what is written for it behave alike.
use Rattle.std.proofs.Common.{◌≡◌, ℕ, zero, suc, ◌+◌, ◌-◌, ◌*◌, ◌≤◌, refl, sym, ap, subst, ◌∙◌, ⊎_elim, arith, Bool, true, false, List, [], ◌∷◌, ◌++◌, length, replicate, inl, inr, ◌⊎◌}
use Rattle.std.specs.Prelude.{◌≢◌, Some, None, nat_lt, ◌==◌, ◌&&◌, ◌||◌, not, if◌then◌else◌, flat_map, filter}
use Rattle.std.proofs.lemmas.Bool.{cases_lt}
use Rattle.std.proofs.lemmas.Bool.Decides.{nat_tests}
use Rattle.std.specs.List.{list_all}
use Rattle.cjc_bytes.specs.declared.fault.MemberId.{MemberId}
use Rattle.cjc_capread.specs.declared.tree.ClassRef.TheVariants.{Inside as InsideRef}
use Rattle.cjc_first.specs.TokenMachine.Naming.{Loaded, loaded, loaded_from, method_names, written_methods}
use Rattle.cjc_first.specs.TokenMachine.ByToken
use Rattle.cjc_first.proofs.Longer.{over_stays, notes_grow}
use Rattle.cjc_classfile.specs.declared.tree.MethodTree.{MethodTree}
use Rattle.cjc_classfile.specs.declared.tree.ClassTree.{ClassTree}
use Rattle.cjc_classfile.specs.declared.tree.Catch.{Catch}
use Rattle.cjc_code.specs.declared.insn.JInsn.{JInsn}
use Rattle.cjc_code.specs.Decoded.{decoding, decoded, insns_of}
use Rattle.cjc_export.specs.declared.tree.ExportClass.{ExportClass}
use Rattle.cjc_export.specs.declared.tree.ExportTree.{ExportTree}
use Rattle.cjc_first.specs.NameMachine.Linked.{Method, Linked, linked, declared_methods, method_of, method_with, is_static, initialiser, declares_class, has_class, exported, entered_among, is_subtype, has_plain_class}
use Rattle.cjc_first.specs.NameMachine.ByName
use Rattle.cjc_script.specs.declared.report.Outcome.{Outcome}
use Rattle.cjc_script.specs.declared.report.Outcome.TheVariants.{Done, Running, Waiting, Unfit, Stuck}
use Rattle.cjc_script.specs.declared.report.Report.{Report}
use Rattle.cjc_script.specs.declared.script.Script.{Script}
use Rattle.cjc_script.specs.Agree.{Agree, IsBegun}
use Rattle.cjc_first.specs.Scripts.Names.{same_text}
use Rattle.cjc_first.specs.Scripts.Types.{Short, signature, onto, params_of, pieces}
use Rattle.cjc_export.specs.Tokens.{HaveOwnTokens}
use Rattle.cjc_first.proofs.Known.{known}
use Rattle.cjc_first.specs.FirstForm.{PackageLine, IsFirstForm, IsPart, is_name_byte, shorts, ops_of}
use Rattle.cjc_first.specs.Selected.{header, selected_code}
use Rattle.cjc_first.specs.Converted.{converted, tree_for, method_bytes, descriptor_part}
use Rattle.cjc_first.specs.BehaveAlike.{RunAlike, BehaveAlike}
use Rattle.cjc_first.proofs.Codes.{and_true}
use Rattle.cjc_first.proofs.Lists.{lt_test}
use Rattle.cjc_first.proofs.Steps.{IsSmall, Reaches, Tied, resting, all_reach}
use Rattle.cjc_first.proofs.Steps

-- two machines agree on a script
record Alike (l : Linked) (c : Loaded) (script : Script) : Type 0 where
  notes : (n m : ℕ) → IsBegun (ByName.run l script n).notes (ByToken.run c script m).notes ⊎ IsBegun (ByToken.run c script m).notes (ByName.run l script n).notes
  ends : (n : ℕ) → (ByName.run l script n).outcome ≢ Running → Agree (ByToken.run c script (3 * n)) (ByName.run l script n)
  ends_only : (n : ℕ) → (ByToken.run c script n).outcome ≢ Running → Agree (ByName.run l script (65536 * (n + 1))) (ByToken.run c script n)
  never_stuck : (n at : ℕ) → ((ByName.run l script n).outcome ≢ Stuck at) × ((ByToken.run c script n).outcome ≢ Stuck at)

-- ---- both directions from one matching

module _ (exports : List ExportTree) (class : List ℕ) (there : List ℕ → Bool) (id : MemberId) (k room nlocals : ℕ) (insns : List JInsn) (small : IsSmall exports class there id k room nlocals insns) (script : Script) where
  abbrev C : Loaded
  C = Steps.by_token exports class there id k room nlocals insns

  abbrev named : ℕ → Report
  named n = ByName.run (Steps.by_name exports class there id k room nlocals insns) script n

  abbrev carded : ℕ → Report
  carded n = ByToken.run C script n

  reaches : (n : ℕ) → Reaches exports class there id k room nlocals insns small 0 n (ByName.start (Steps.by_name exports class there id k room nlocals insns) script) (ByToken.start C script)
  reaches n = all_reach exports class there id k room nlocals insns small n (resting [] script.entries script.answers [] 0 0)

  stays : (m j : ℕ) → m ≤ j → (carded m).outcome ≢ Running → carded j ≡ carded m
  stays m j le over = over_stays C m j (ByToken.start C script) le over

  turned_round : {a b : Report} → Agree a b → Agree b a
  turned_round h = record { notes = sym h.notes; statics = sym h.statics; heap = sym h.heap; outcome = sym h.outcome }

  along : {a b c : Report} → a ≡ b → Agree b c → Agree a c
  along e h = record { notes = ap (λ r. r.notes) e ∙ h.notes; statics = ap (λ r. r.statics) e ∙ h.statics; heap = ap (λ r. r.heap) e ∙ h.heap; outcome = ap (λ r. r.outcome) e ∙ h.outcome }

  ends : (n : ℕ) → (named n).outcome ≢ Running → Agree (carded (3 * n)) (named n)
  ends n over =
      let r = reaches n in
      along (stays r.count (3 * n) (omega (arith, r.at_most)) (λ e. over (sym r.same.outcome ∙ e))) r.same

  one_end : (m j : ℕ) → (carded m).outcome ≢ Running → (carded j).outcome ≢ Running → carded m ≡ carded j
  one_end m j a b = ⊎_elim (λ l. sym (stays m j (omega arith) a)) (λ l. stays j m l b) (cases_lt m j)

  is_running : (o : Outcome) → (o ≡ Running) ⊎ (o ≢ Running)
  is_running Done = inr (λ e. cc)
  is_running Running = inl refl
  is_running Waiting = inr (λ e. cc)
  is_running (Unfit n) = inr (λ e. cc)
  is_running (Stuck at) = inr (λ e. cc)

  ends_only : (n : ℕ) → (carded n).outcome ≢ Running → Agree (named (65536 * (n + 1))) (carded n)
  ends_only n over =
      let r = reaches (65536 * (n + 1)) in
      ⊎_elim
      (λ going.
      let far = r.far going in
      let same = stays n r.count (omega arith) over in
      absurd (over (ap (λ q. q.outcome) (sym same) ∙ r.same.outcome ∙ going)))
      (λ ended. turned_round (along (one_end n r.count over (λ e. ended (sym r.same.outcome ∙ e))) r.same))
      (is_running (named (65536 * (n + 1))).outcome)

  notes : (n m : ℕ) → IsBegun (named n).notes (carded m).notes ⊎ IsBegun (carded m).notes (named n).notes
  notes n m =
      let r = reaches n in
      ⊎_elim
      (λ l. inl (subst (λ q. IsBegun q (carded m).notes) r.same.notes (notes_grow C r.count m (ByToken.start C script) (omega arith))))
      (λ l. inr (subst (λ q. IsBegun (carded m).notes q) r.same.notes (notes_grow C m r.count (ByToken.start C script) l)))
      (cases_lt r.count m)

  never_stuck : (n at : ℕ) → ((named n).outcome ≢ Stuck at) × ((carded n).outcome ≢ Stuck at)
  never_stuck n at = (
    (reaches n).fine at,
    λ stuck.
        let over : (carded n).outcome ≢ Running = λ e. cc in
        (reaches (65536 * (n + 1))).fine at ((ends_only n over).outcome ∙ stuck),
  )

  alike : Alike (Steps.by_name exports class there id k room nlocals insns) C script
  alike = record { notes = notes; ends = ends; ends_only = ends_only; never_stuck = never_stuck }

-- ---- the form

types_of : (k : ℕ) → signature (shorts k) ≡ Some (record { params = replicate k Short; result = Some Short })
unfolding signature
types_of k = go k
  where
    go : (k : ℕ) → params_of (pieces [] false (replicate k 83 ++ 41 ∷ 83 ∷ [])) ≡ Some (record { params = replicate k Short; result = Some Short })
    go zero = refl
    go (suc k) = ap (onto Short) (go k)

not_initialiser : (name : List ℕ) → IsPart name → same_text name initialiser ≡ false
not_initialiser [] part = absurd (omega (arith, part.some))
not_initialiser (c ∷ cs) part = by (c == 60) refl
  where
    by : (t : Bool) → (c == 60) ≡ t → same_text (c ∷ cs) initialiser ≡ false
    by false e = ap (λ t. t && same_text cs (99 ∷ 108 ∷ 105 ∷ 110 ∷ 105 ∷ 116 ∷ 62 ∷ [])) e
    by true e =
        let is : c ≡ 60 = grind (arith, nat_tests) in
        let h : is_name_byte c ≡ true = (and_true (is_name_byte c) (list_all is_name_byte cs) part.bytes).0 in
        let bad : is_name_byte 60 ≡ true = subst (λ d. is_name_byte d ≡ true) is h in
        cc

pub short_header : (room k l : ℕ) → room ≤ 15 → k ≤ 15 → l ≤ 15 → header room k l ≡ room ∷ (16 * k + l) ∷ []
unfolding header
short_header room k l a b c =
    ap (λ t. if t && nat_lt k 16 && nat_lt l 16 then room ∷ (16 * k + l) ∷ [] else 0x80 ∷ room ∷ k ∷ l ∷ []) (lt_test room 16 (omega (arith, a)))
    ∙ ap (λ t. if t && nat_lt l 16 then room ∷ (16 * k + l) ∷ [] else 0x80 ∷ room ∷ k ∷ l ∷ []) (lt_test k 16 (omega (arith, b)))
    ∙ ap (λ t. if t then room ∷ (16 * k + l) ∷ [] else 0x80 ∷ room ∷ k ∷ l ∷ []) (lt_test l 16 (omega (arith, c)))

module _ (line : PackageLine) (tree : ClassTree) (form : IsFirstForm line tree) (exports : List ExportTree) (own : HaveOwnTokens exports) where
  abbrev id : MemberId
  id = record { class = tree.name; name = form.method.name; desc = form.method.desc }

  abbrev there : List ℕ → Bool
  there name = declares_class (tree ∷ []) name || has_class (exported exports) name

  abbrev room : ℕ
  room = form.code.max_stack

  abbrev nlocals : ℕ
  nlocals = form.code.max_locals

  small : IsSmall exports tree.name there id form.params room nlocals form.insns
  small =
      let m = form.is_sum in
      let c = m.is_sum in
      record {
        some_room = c.some_stack;
        two_room = c.stack_for_two;
        little_room = c.stack;
        few_params = m.few;
        locals_hold = c.params_fit;
        few_locals = c.locals;
        sums = c.is_sum;
        types = ap signature m.desc ∙ types_of form.params;
        named = not_initialiser form.method.name m.name;
        know = known exports own tree.name id form.params room nlocals form.insns;
      }

  abbrev made : Bool → List JInsn → List Catch → Method
  made static insns catches = record {
    id = id;
    is_static = static;
    params = replicate form.params Short;
    result = Some Short;
    max_stack = room;
    max_locals = nlocals;
    insns = insns;
    catches = catches;
  }

  declared_is : declared_methods (tree ∷ []) ≡ made true form.insns [] ∷ []
  unfolding declared_methods decoded
  declared_is =
      let m = form.is_sum in
      ap (λ ms. flat_map (method_of tree) ms ++ []) form.methods
      ∙ ap (λ t. (method_with tree form.method t form.method.code ++ []) ++ []) small.types
      ∙ ap (λ c. (method_with tree form.method (Some (record { params = replicate form.params Short; result = Some Short })) c ++ []) ++ []) m.has_code
      ∙ ap (λ f. made (is_static f) (insns_of (decoding tree form.method form.code)) form.code.catches ∷ []) m.flags
      ∙ ap (λ r. made true (insns_of r) form.code.catches ∷ []) form.are_decoded
      ∙ ap (λ c. made true form.insns c ∷ []) m.is_sum.catches

  linked_is : linked (tree ∷ []) exports ≡ Steps.by_name exports tree.name there id form.params room nlocals form.insns
  linked_is = ap (λ ms. let l : Linked = record {
    statics = [];
    heap = [];
    entry = entered_among ms;
    sent = λ class id. None;
    called = λ op holder receiver id. None;
    subtype = is_subtype (exported exports);
    is_there = there;
    is_imported = has_plain_class (exported exports);
  } in l) declared_is

  abbrev card_of : List ℕ → List MethodTree → Loaded
  card_of bytes methods =
      let d = descriptor_part form.params (length (selected_code (ops_of form.insns))) in
      loaded_from (record { handlers = []; methods = bytes }) d exports (record {
        classes = record { class = InsideRef 2; name = tree.name } ∷ [];
        methods = method_names tree.name (record { token = 0; flags = 0x09; offset = 1; type_offset = 2; bytecode_count = length (selected_code (ops_of form.insns)); handler_count = 0; first_handler = 0 } ∷ []) methods ++ [];
        fields = λ class. [];
        cells = [];
      })

  written_is : written_methods tree ≡ form.method ∷ []
  written_is =
      ap (λ ms. filter (λ m. not (same_text m.name initialiser)) ms) form.methods
      ∙ ap (λ t. if not t then form.method ∷ [] else []) small.named

  loaded_is : (lang : ExportTree) (root : ExportClass) → loaded (converted line lang root tree form) exports (tree ∷ []) ≡ Steps.by_token exports tree.name there id form.params room nlocals form.insns
  unfolding loaded tree_for
  loaded_is lang root =
      let m = form.is_sum in
      ap (λ ms. card_of (method_bytes form.params form.code (ops_of form.insns)) ms) written_is
      ∙ ap (λ h. card_of (h ++ selected_code (ops_of form.insns)) (form.method ∷ [])) (short_header room form.params (nlocals - form.params) m.is_sum.stack m.few (omega (arith, m.is_sum.locals)))

  pub behaves : (lang : ExportTree) (root : ExportClass) (script : Script) → RunAlike (tree ∷ []) exports (converted line lang root tree form) script
  behaves lang root script =
      let a = alike exports tree.name there id form.params room nlocals form.insns small script in
      let b : Alike (linked (tree ∷ []) exports) (Steps.by_token exports tree.name there id form.params room nlocals form.insns) script = subst (λ l. Alike l (Steps.by_token exports tree.name there id form.params room nlocals form.insns) script) (sym linked_is) a in
      let c : Alike (linked (tree ∷ []) exports) (loaded (converted line lang root tree form) exports (tree ∷ [])) script = subst (λ c. Alike (linked (tree ∷ []) exports) c script) (sym (loaded_is lang root)) b in
      record { notes = c.notes; ends = c.ends; ends_only = c.ends_only; never_stuck = c.never_stuck }

-- A package of the form and the components that are written for it behave alike.
pub form_behaves_alike : (line : PackageLine) (tree : ClassTree) (form : IsFirstForm line tree) (lang : ExportTree) (root : ExportClass) (exports : List ExportTree) → HaveOwnTokens exports → BehaveAlike (tree ∷ []) exports (converted line lang root tree form)
form_behaves_alike line tree form lang root exports own script = behaves line tree form exports own lang root script
