use Rattle.std.proofs.Common.{◌≡◌, ◌+◌, ℕ, List, Option, ap, sym, ◌∙◌, arith, length, get_or, slice_get, ◌==◌}
use Rattle.std.specs.List.{find}
use Rattle.std.proofs.lemmas.List.{get_or_default, length-map}
use Rattle.cjc_check_rules.specs.ExportFile.declared.tree.ExportClass.{ExportClass}
use Rattle.cjc_check_rules.specs.ExportFile.declared.tree.ExportTree.{ExportTree}
use Rattle.cjc_check_index.specs.Lookup.Indexed.{places_of}
use Rattle.cjc_check_index.specs.Imported.Tokens.{file_starts}
use Rattle.cjc_check_index.proofs.ImportedLaws.Answers.{in_file, no_file}
use Rattle.cjc_check_index.proofs.ImportedLaws.Flat.{flat_at, flat_bound, length-file_starts}
use Rattle.cjc_check_index.proofs.imported.lookup.place_of.Goals as goal
use Rattle.cjc_check_index.proofs.imported.lookup.place_of.Goals.{then-file-names-via-then-file-names}
use Rattle.cjc_check_index.proofs.imported.lookup.place_of.Goals.{then-file-names-via-else-file-names+then-file-names-2}
use Rattle.cjc_check_index.proofs.imported.lookup.place_of.Goals.{then-file-names-via-else-file-names+else-file-names-2+then-file-starts}

pub returns-then-file-names : goal.returns-then-file-names
returns-then-file-names c =
    let exports = c.args.names.now.exports.now in
    let n : c.from-file.result ≡ c.args.import = c.from-file.ensures in
    let t : length c.args.names.now.tokens.now ≡ length exports = ap (λ (ts : List (List (Option ℕ))). length ts)
    c.requires.ready.tokens ∙ length-map exports (λ (x : ExportTree). places_of x.classes) in
    let s : length c.args.starts.now ≡ length exports = ap (λ (ns : List ℕ). length ns) c.requires.starts
    ∙ length-file_starts 0 exports in
    elim c.then-file-names.branch [
      | then-file-names-via-then-file-names w ↦ no_file exports c.from-file.result c.args.import c.args.class n
          w.if-file-names.true
      | then-file-names-via-else-file-names+then-file-names-2 w ↦ (let le = w.if-file-names-2.true
          in no_file exports c.from-file.result c.args.import c.args.class n (omega (arith, t, le)))
      | then-file-names-via-else-file-names+else-file-names-2+then-file-starts w ↦ (let le = w.if-file-starts.true
          in no_file exports c.from-file.result c.args.import c.args.class n (omega (arith, s, le)))
    ]

pub overflow_add-result : goal.overflow_add-result
overflow_add-result c =
    let exports = c.args.names.now.exports.now in
    let lt = c.if-file-names.false in
    let tree = get_or exports c.from-file.result c.index-names-file.result in
    let is : tree ≡ get_or exports c.from-file.result tree = get_or_default exports c.from-file.result
    c.index-names-file.result tree (omega (arith, lt)) in
    let l : length c.items-classes.result.now ≡ length tree.classes = ap (λ (cs : List ExportClass). length cs)
    c.items-classes.ensures in
    let inside = c.in-Some.ensures.inside in
    let b = flat_bound 0 exports c.from-file.result c.in-Some.at tree (omega (arith, lt)) is (omega (arith, l, inside))
    in
    let g : get_or c.args.starts.now c.from-file.result 0 ≡ get_or (file_starts 0 exports) c.from-file.result 0 =
    ap (λ (ns : List ℕ). get_or ns c.from-file.result 0) c.requires.starts in
    let n = c.requires.count in
    let fits = c.ranges.count.fits in
    omega (arith, b, g, n, fits)

pub returns-in-Some : goal.returns-in-Some
returns-in-Some c =
    let exports = c.args.names.now.exports.now in
    let lt = c.if-file-names.false in
    let tree = get_or exports c.from-file.result c.index-names-file.result in
    let is : tree ≡ get_or exports c.from-file.result tree = get_or_default exports c.from-file.result
    c.index-names-file.result tree (omega (arith, lt)) in
    let l : length c.items-classes.result.now ≡ length tree.classes = ap (λ (cs : List ExportClass). length cs)
    c.items-classes.ensures in
    let inside = c.in-Some.ensures.inside in
    let g : get_or c.args.starts.now c.from-file.result 0 ≡ get_or (file_starts 0 exports) c.from-file.result 0 =
    ap (λ (ns : List ℕ). get_or ns c.from-file.result 0) c.requires.starts in
    flat_at 0 exports c.from-file.result c.in-Some.at (get_or c.args.starts.now c.from-file.result 0 + c.in-Some.at)
    tree (omega (arith, lt)) is (omega (arith, l, inside)) (omega (arith, g))
    ∙ ap (λ (cs : List ExportClass). slice_get cs c.in-Some.at) (sym c.items-classes.ensures) ∙ c.in-Some.ensures.found
    ∙ ap (λ (cs : List ExportClass). find (λ x. x.token == c.args.class) cs) c.items-classes.ensures
    ∙ in_file exports c.from-file.result c.args.import c.args.class tree c.from-file.ensures (omega (arith, lt)) is

pub returns-in-None : goal.returns-in-None
returns-in-None c =
    let exports = c.args.names.now.exports.now in
    let lt = c.if-file-names.false in
    let tree = get_or exports c.from-file.result c.index-names-file.result in
    let is : tree ≡ get_or exports c.from-file.result tree = get_or_default exports c.from-file.result
    c.index-names-file.result tree (omega (arith, lt)) in
    c.in-None.ensures.found ∙ ap (λ (cs : List ExportClass). find (λ x. x.token == c.args.class) cs)
    c.items-classes.ensures
    ∙ in_file exports c.from-file.result c.args.import c.args.class tree c.from-file.ensures (omega (arith, lt)) is
