-- Equal things.
use Rattle.cjc_bytes.specs.declared.settings.FileLine.{FileLine}
use Rattle.std.proofs.Common.{None, false, sym, true, ◌∙◌, ◌≡◌}
use Rattle.std.specs.Prelude.{Some}

pub the_same : {A : Type 0} (x y : A) → Some x ≡ Some y → x ≡ y
the_same x y e = cc

pub same_some : {A : Type 0} {x y : A} → Some x ≡ Some y → x ≡ y
same_some e = cc

pub none_is_some : {A : Type 0} (k : A) → None ≡ Some k → ⊥
none_is_some k e = cc

pub no_true : {P : Type 0} (b : FileLine) → b.class_file ≡ true → b.class_file ≡ false → P
no_true b e f = absurd (let g : true ≡ false = sym e ∙ f in cc)

pub no_both : {A : Type 0} → true ≡ false → A
no_both e = absurd cc
