-- The rules that turn what a branch has tested into the value of a test, for a promise that goes by tests: `search tests`. Assumes nothing.
use Rattle.basis.specs.Prelude.{lt-ltb, le-ltb, le-leb, lt-leb, eq-eqb, ne_eqb}

pub ruleset tests = (lt-ltb, le-ltb, le-leb, lt-leb, eq-eqb, ne_eqb)
