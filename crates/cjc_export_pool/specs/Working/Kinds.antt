-- A constant as the code keeps it.
use Rattle.cjc_export.specs.Constant.{Constant, text, integer, class, this}
use Rattle.cjc_export_pool.specs.declared.constants.Kind.{Kind}
use Rattle.cjc_export_pool.specs.declared.constants.Kind.TheVariants as kinds

abbrev pub constant_of : Kind → Constant
constant_of (kinds.Text bytes) = text bytes.now
constant_of (kinds.Integer n) = integer n
constant_of (kinds.Class name) = class name.now
constant_of kinds.This = this
