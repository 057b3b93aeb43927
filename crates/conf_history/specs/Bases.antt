-- The configurations of a base.
use Rattle.std.specs.Prelude.{List}
use Rattle.conf_history.specs.{Prelude.Entry, declared.base.Base.{Base, TheVariants.{Written, Spelled}}}

abbrev pub configs_of : Base → List Entry
configs_of (Written base) = base.configs
configs_of (Spelled state) = state.configs
