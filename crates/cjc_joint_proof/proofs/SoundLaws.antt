-- Packages that break no rule of classes and names stand apart from one another.
use Rattle.std.proofs.Common.{◌≡◌, ℕ, ◌<◌, arith, refl, sym, ap, ◌∙◌, List}
use Rattle.std.specs.Prelude.{Some, option_map}
use Rattle.std.proofs.lemmas.Option.{slice_get_within}
use Rattle.cjc_exported.specs.ClassFile.declared.tree.ClassTree.{ClassTree}
use Rattle.cjc_exported.specs.World.Classes.{Class, all_classes, class_named, declared}
use Rattle.cjc_exported.specs.World.Files.{Files}
use Rattle.cjc_token_proof.proofs.VTableFiled.{Has}
use Rattle.cjc_token_proof.proofs.VTableNumbers.{own_listed}
use Rattle.cjc_token_proof.specs.ClassOrder.Classes.Numbers.{class_count}
use Rattle.cjc_token_proof.specs.Tables.Kept.{KeepsRules}
use Rattle.cjc_token_proof.proofs.TablesLaws.Clean.{kept, own_name}
use Rattle.cjc_token_proof.proofs.TablesLaws.Filed.{own_in}
use Rattle.cjc_joint_proof.specs.Sound.{AreSound}
use Rattle.cjc_joint_proof.specs.Worlds.{AreApart, IsListed, IsOwn}

module _ (group : List Files) (sound : AreSound group) (i k : ℕ) (p : Files) (c : ClassTree) (h : IsOwn group i k p c)
  where
    among : Has (declared k c) (all_classes p)
    among = let s = (sound.each i p h.member).sound in own_in p s.classes s.exports k c h.file

    named : class_named (all_classes p) c.name ≡ Some (declared k c)
    named = let s = sound.each i p h.member in own_name s.list p s.sound (declared k c) among

    keeps : KeepsRules p.package_name (all_classes p) (declared k c)
    keeps = let s = sound.each i p h.member in kept s.list p s.sound (declared k c) among

    pub listed : IsListed p k c
    listed =
        let s = (sound.each i p h.member).sound in
        let within = slice_get_within p.classes k c h.file in
        let count = s.classes in
        let low : k < class_count p.lines = omega (arith, within, count) in
        record { number = own_listed p k low ∙ ap (option_map (declared k)) h.file; name = named }

pub apart : (group : List Files) → AreSound group → AreApart group
apart group sound = record {
  names = sound.names;
  own = λ i k p c h. (keeps group sound i k p c h).of_package refl;
  once = λ i k n p c d h g same. (let both : Some (declared k c) ≡ Some (declared n d) = sym (named group sound i k p c
      h) ∙ (ap (class_named (all_classes p)) same ∙ named group sound i n p d g) in
      let is : declared k c ≡ declared n d = cc in ap (λ (v : Class). v.number) is);
}
