use Rattle.std.proofs.Common.{◌≡◌, ◌≤◌}
use Rattle.cjc_jvm_semantics.specs.Group.{package_of}
use Rattle.cjc_jvm_link.proofs.Packages.{from_place}
use Rattle.cjc_jvm_link.proofs.wanted.package_of.Given as goal

abbrev pub invariant-loop-place : goal.invariant-loop-place
invariant-loop-place l = record {
  found : from_place l.class l.place l.end ≡ package_of l.class;
  within : l.end ≤ l.place;
}
