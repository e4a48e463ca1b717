use Rattle.std.proofs.Common.{◌∙◌, List, ap, map, refl, sym}
use Rattle.cjc_card_acts.specs.CardSemantics.Machine.Loaded.{Loaded}
use Rattle.cjc_classes.specs.ClassOrder.Classes.Numbers.{declared_at}
use Rattle.cjc_verify.specs.Pairs.{Pair}
use Rattle.cjc_verify.specs.Working.Ready.{pair_by}
use Rattle.cjc_verify.proofs.checker.break_by.Goals as goal

pub invariant_of-pair : goal.invariant_of-pair
invariant_of-pair c =
    let files = c.args.world.now in
    let p : Pair = pair_by files c.args.tokens.now c.args.image.now c.args.parts.now c.args.tables.now in
    let made = c.requires.made in
    record {
      tables_kept = c.requires.kept;
      lines_kept = c.in_ok-lines.ensures;
      files_kept = c.in_ok-files.ensures;
      refs_kept = made.refs p refl refl;
      same_files = ap (λ (l : Loaded). l.trees) c.requires.tables;
      in_order = made.in_order ∙ ap (map (declared_at files.classes)) (sym c.items.ensures);
      begin = c.items-2.ensures ∙ made.begin;
      methods_kept = c.items-3.ensures ∙ made.methods p refl refl;
      small = c.requires.small;
    }
