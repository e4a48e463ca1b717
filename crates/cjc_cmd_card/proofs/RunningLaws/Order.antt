-- The first of what a package, components and a script break.
use Rattle.std.proofs.Common.{◌≡◌, ◌⊎◌, inl, inr, ℕ, ◌+◌, ◌<◌, ◌≤◌, ◌^◌, List, [], refl, sym, ap, subst, ◌∙◌, arith}
use Rattle.std.proofs.Common.{Option, Some, Result, Ok, Err, IfErr}
use Rattle.cjc_cmd_check.specs.Bytes.Breaks.{Break, Among, IsFirstRefusal}
use Rattle.cjc_cmd_check.specs.Bytes.Order.{NotAfter, numbers}
use Rattle.cjc_cmd_check.specs.Bytes.Refused.{IsUnlessNoMemory}
use Rattle.cjc_cmd_check.specs.Bytes.declared.fault.Fault.{Fault}
use Rattle.cjc_cmd_check.specs.Bytes.declared.fault.Fault.TheVariants as faults
use Rattle.cjc_cmd_check.specs.Bytes.declared.fault.Refusal.{Refusal}
use Rattle.cjc_cmd_check.proofs.BytesFirsts.{upto_refl}
use Rattle.cjc_card.specs.CapRead.declared.tree.CapTree.{CapTree}
use Rattle.cjc_cmd_check.specs.Check.{sentence_breaks}
use Rattle.cjc_pairing.specs.ExportFile.declared.tree.ExportTree.{ExportTree}
use Rattle.cjc_cmd_check.specs.Folder.Breaks.{ArePartsRead, cap_in, part_breaks}
use Rattle.cjc_cmd_jvm.specs.Judge.Judged.{IsJudged, IsStopped}
use Rattle.cjc_cmd_jvm.specs.Judge.Rules.{Breach, BreaksFile, IsFirstRefused, IsFirstFault, of_file}
use Rattle.cjc_cmd_jvm.specs.Judge.Spelt.{FileTree, IsRead, SpellTrees, exports_of}
use Rattle.cjc_cmd_jvm.specs.Judge.declared.judged.Judged.{Judged}
use Rattle.cjc_shape.proofs.JudgeEarly.{fault_from}
use Rattle.cjc_shape.proofs.JudgeFirsts.{all_spell, one_spelling}
use Rattle.cjc_cmd_check.specs.List.Listed.{answer}
use Rattle.cjc_cmd_jvm.specs.Running.Ready.{script_break, BreaksScript}
use Rattle.cjc_cmd_jvm.specs.LowerScriptText.Scripted.{ScriptTree, scripted}
use Rattle.cjc_pairing.specs.CheckRules.Consistent.{breaks}
use Rattle.cjc_cmd_card.specs.declared.running.input.Input.{Input}
use Rattle.cjc_cmd_card.specs.Running.Reads.{IsInput}
use Rattle.cjc_cmd_card.specs.Running.Ready.{BreaksSentence, Breaks, of_package, of_parts, of_script, of_sentences}
use Rattle.cjc_cmd_card.specs.Running.Ready.{tested}
use Rattle.cjc_cmd_card.proofs.RunningLaws.Ranks.{package_rank, script_rank, sentence_rank}
use Rattle.cjc_cmd_check.proofs.BytesBrokenRules.{no_among}

-- the first of a list as that of those in it
listed_fault : (bs : List Break) (e : Fault) → IsFirstRefusal bs e → IsFirstFault (λ b. Among b bs) e
listed_fault bs e (inl memory) = inl memory
listed_fault bs e (inr (b, first, is)) = inr (
  b.refusal,
  record {
    broken = b;
    first = record {
      breaks = first.among;
      least = first.least;
    };
    is = refl;
  },
  is,
)

-- ---- the script

-- what was read as a script is one
pub script_found : (name text : List ℕ) (s : ScriptTree) → IsUnlessNoMemory (Ok s) (answer (scripted name text))
    → scripted name text ≡ Ok s
script_found name text s read = by (scripted name text) read
  where
    by : (q : Result ScriptTree Refusal) → IsUnlessNoMemory (Ok s) (answer q) → q ≡ Ok s
    by (Ok t) (inl h) = let same : s ≡ t = cc in ap (λ (x : ScriptTree). Ok x) (sym same)
    by (Err x) (inl h) = absurd (let clash : Ok s ≡ Err (faults.Refused x) = h in cc)
    by q (inr h) = absurd (let clash : Ok s ≡ Err faults.NoMemory = h in cc)

script_fault : (name text : List ℕ) (e : Fault) → IsUnlessNoMemory (Err e) (answer (scripted name text))
    → IsFirstFault (BreaksScript name text) e
script_fault name text e read = by (scripted name text) refl read
  where
    least : (r : Refusal) → scripted name text ≡ Err r → (a : Break) → BreaksScript name text a
        → NotAfter (let s = script_break r in s.rank) a.rank
    least r is a (r', is', at) =
        let same : r ≡ r' = (let h = sym is ∙ is' in cc) in
        subst (λ (x : Break). NotAfter (let s = script_break r in s.rank) x.rank) (ap script_break same
        ∙ sym at) (upto_refl (numbers (let s = script_break r in s.rank)))

    by : (q : Result ScriptTree Refusal) → scripted name text ≡ q → IsUnlessNoMemory (Err e) (answer q)
        → IsFirstFault (BreaksScript name text) e
    by (Ok t) is (inl h) = absurd (let clash : Err e ≡ Ok t = h in cc)
    by (Err r) is (inl h) = inr (
      r,
      record {
        broken = script_break r;
        first = record {
          breaks = (r, is, refl);
          least = least r is;
        };
        is = refl;
      },
      (let same : e ≡ faults.Refused r = cc in same),
    )
    by q is (inr h) = inl (let same : e ≡ faults.NoMemory = cc in same)

no_script : {P : Type 0} (name text : List ℕ) (s : ScriptTree) → scripted name text ≡ Ok s → (b : Break)
    → BreaksScript name text b → P
no_script name text s e b (r, is, at) = absurd (let h : Ok s ≡ Err r = sym e ∙ is in cc)

-- ---- all

module _ (input : Input) (name : List ℕ) (is : IsInput input)
    (file_ranks : (b : Break) → IsRead input.list → BreaksFile input.list.lines input.files b → (b.rank.family ≡ 1)
    × (b.rank.file ≤ 2 ^ 32))
    (file_or_later : (b : Break) → Breach input.list input.files tested b → BreaksFile input.list.lines input.files b
    ⊎ (2 ≤ b.rank.family))
    (part_ranks : (b : Break) → ArePartsRead input.parts → Among b (part_breaks input.parts) → (b.rank.family ≡ 1)
    × (2 ^ 64 < b.rank.file) × (b.rank.file < 2 ^ 64 + 256)) where
  file_rank : (b : Break) → BreaksFile input.list.lines input.files b → (b.rank.family ≡ 1) × (b.rank.file ≤ 2 ^ 32)
  file_rank b h = file_ranks b is.list h

  part_rank : (b : Break) → Among b (part_breaks input.parts) → (b.rank.family ≡ 1) × (2 ^ 64 < b.rank.file)
      × (b.rank.file < 2 ^ 64 + 256)
  part_rank b among = part_ranks b is.read among

  -- a rule of a single file
  pub files_stop : (e : Fault) → IsFirstFault (BreaksFile input.list.lines input.files) e
      → IsFirstFault (Breaks input name) e
  files_stop e first = fault_from (BreaksFile input.list.lines input.files) (Breaks input name) e
      (λ b h. of_package (of_file h)) least first
    where
      least : (r : Refusal) (f : IsFirstRefused (BreaksFile input.list.lines input.files) r) (b : Break)
          → Breaks input name b → NotAfter f.broken.rank b.rank
      least r f b (of_package h) = elim (file_or_later b h) [
        | inl g ↦ f.first.least b g
        | inr later ↦ let low = file_rank f.broken f.first.breaks in let one = low.0 in inl (omega (arith, one, later))
      ]
      least r f b (of_parts among) =
          let low = file_rank f.broken f.first.breaks in let file = low.1 in
          let part = part_rank b among in let behind = part.1 in
          inr (low.0 ∙ sym part.0, inl (omega (arith, file, behind)))
      least r f b (of_script h) =
          let low = file_rank f.broken f.first.breaks in let file = low.1 in
          let script = script_rank name input.script b h in let behind = script.1 in
          inr (low.0 ∙ sym script.0, inl (omega (arith, file, behind)))
      least r f b (of_sentences h) =
          let low = file_rank f.broken f.first.breaks in let one = low.0 in
          let seven = sentence_rank input.list input.files input.parts b h in
          inl (omega (arith, one, seven))

  -- a component's format, where no single file breaks a rule
  pub parts_stop : (e : Fault) → IsFirstRefusal (part_breaks input.parts) e
      → ((b : Break) → BreaksFile input.list.lines input.files b → ⊥) → IsFirstFault (Breaks input name) e
  parts_stop e first none = fault_from (λ b. Among b (part_breaks input.parts)) (Breaks input name) e
      (λ b h. of_parts h) least (listed_fault (part_breaks input.parts) e first)
    where
      least : (r : Refusal) (f : IsFirstRefused (λ b. Among b (part_breaks input.parts)) r) (b : Break)
          → Breaks input name b → NotAfter f.broken.rank b.rank
      least r f b (of_package h) = elim (file_or_later b h) [
        | inl g ↦ absurd (none b g)
        | inr later ↦ let part = part_rank f.broken f.first.breaks in let one = part.0
            in inl (omega (arith, one, later))
      ]
      least r f b (of_parts among) = f.first.least b among
      least r f b (of_script h) =
          let part = part_rank f.broken f.first.breaks in let below = part.2 in
          let script = script_rank name input.script b h in let at = script.1 in
          inr (part.0 ∙ sym script.0, inl (omega (arith, below, at)))
      least r f b (of_sentences h) =
          let part = part_rank f.broken f.first.breaks in let one = part.0 in
          let seven = sentence_rank input.list input.files input.parts b h in
          inl (omega (arith, one, seven))

  module _ (unbroken : part_breaks input.parts ≡ []) where
    no_parts : {P : Type 0} (b : Break) → Among b (part_breaks input.parts) → P
    no_parts b among = absurd (no_among b (subst (Among b) unbroken among))

    -- the script, where moreover no component breaks its format
    pub script_stops : (e : Fault) → IsUnlessNoMemory (Err e) (answer (scripted name input.script))
        → ((b : Break) → BreaksFile input.list.lines input.files b → ⊥) → IsFirstFault (Breaks input name) e
    script_stops e read none = fault_from (BreaksScript name input.script) (Breaks input name) e (λ b h. of_script h)
        least (script_fault name input.script e read)
      where
        least : (r : Refusal) (f : IsFirstRefused (BreaksScript name input.script) r) (b : Break) → Breaks input name b
            → NotAfter f.broken.rank b.rank
        least r f b (of_package h) = elim (file_or_later b h) [
          | inl g ↦ absurd (none b g)
          | inr later ↦ let script = script_rank name input.script f.broken f.first.breaks in let one = script.0
              in inl (omega (arith, one, later))
        ]
        least r f b (of_parts among) = no_parts b among
        least r f b (of_script h) = f.first.least b h
        least r f b (of_sentences h) =
            let script = script_rank name input.script f.broken f.first.breaks in let one = script.0 in
            let seven = sentence_rank input.list input.files input.parts b h in
            inl (omega (arith, one, seven))

    module _ (s : ScriptTree) (is_script : scripted name input.script ≡ Ok s) where
      -- a rule of the package, where the text is a script
      package_stops : (e : Fault) → IsStopped input.list input.files tested e → IsFirstFault (Breaks input name) e
      package_stops e first = fault_from (Breach input.list input.files tested) (Breaks input name) e
          (λ b h. of_package h) least first
        where
          least : (r : Refusal) (f : IsFirstRefused (Breach input.list input.files tested) r) (b : Break)
              → Breaks input name b → NotAfter f.broken.rank b.rank
          least r f b (of_package h) = f.first.least b h
          least r f b (of_parts among) = no_parts b among
          least r f b (of_script h) = no_script name input.script s is_script b h
          least r f b (of_sentences h) =
              let four = package_rank input.list input.files f.broken f.first.breaks in
              let seven = sentence_rank input.list input.files input.parts b h in
              inl (omega (arith, four, seven))

      pub package_refused : {T : Type 0} (result : Result T Fault)
          → IfErr result (IsStopped input.list input.files tested) → IfErr result (IsFirstFault (Breaks input name))
      package_refused (Ok x) h = tt
      package_refused (Err e) h = package_stops e h

      module _ (judged : Judged) (is_judged : IsJudged input.list input.files tested judged) (cap : CapTree)
          (is_cap : cap_in input.parts ≡ Some cap) where
        abbrev exports : List ExportTree
        exports = let world = judged.world in world.exports

        abbrev trees : List FileTree
        trees = let read = is_judged.read in read.trees

        spelt : SpellTrees input.list.lines input.files trees
        spelt = let read = is_judged.read in all_spell input.list.lines input.files read.trees read.spelt

        exports_are : exports ≡ exports_of trees
        exports_are = let read = is_judged.read in read.exports

        -- what the components say together beside what the files of the list spell
        here : (us : List FileTree) → SpellTrees input.list.lines input.files us
            → sentence_breaks (cap_in input.parts) (exports_of us) ≡ breaks cap exports
        here us p =
            ap (λ (ts : List FileTree). sentence_breaks (cap_in input.parts) (exports_of ts))
            (one_spelling input.list.lines input.files us trees p spelt)
            ∙ ap (λ (es : List ExportTree). sentence_breaks (cap_in input.parts) es) (sym exports_are)
            ∙ ap (λ (o : Option CapTree). sentence_breaks o exports) is_cap

        into : (b : Break) → Among b (breaks cap exports) → BreaksSentence input.list input.files input.parts b
        into b among = (trees, spelt, unbroken, subst (Among b) (sym (here trees spelt)) among)

        from : (b : Break) → BreaksSentence input.list input.files input.parts b → Among b (breaks cap exports)
        from b (us, p, fine, among) = subst (Among b) (here us p) among

        -- what the components say together, where the package breaks nothing
        sentences_stop : (e : Fault) → IsFirstRefusal (breaks cap exports) e → IsFirstFault (Breaks input name) e
        sentences_stop e first = fault_from (λ b. Among b (breaks cap exports)) (Breaks input name) e
            (λ b h. of_sentences (into b h)) least (listed_fault (breaks cap exports) e first)
          where
            least : (r : Refusal) (f : IsFirstRefused (λ b. Among b (breaks cap exports)) r) (b : Break)
                → Breaks input name b → NotAfter f.broken.rank b.rank
            least r f b (of_package h) = absurd (is_judged.unbroken b h)
            least r f b (of_parts among) = no_parts b among
            least r f b (of_script h) = no_script name input.script s is_script b h
            least r f b (of_sentences h) = f.first.least b (from b h)

        pub sentences_refused : {T : Type 0} (result : Result T Fault)
            → IfErr result (IsFirstRefusal (breaks cap exports)) → IfErr result (IsFirstFault (Breaks input name))
        sentences_refused (Ok x) h = tt
        sentences_refused (Err e) h = sentences_stop e h
