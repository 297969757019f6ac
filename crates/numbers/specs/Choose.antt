-- If, then, else: how every definition goes by a test.
use Rattle.std.specs.Prelude.{Bool, true, false}

-- a where the test holds, b where it does not
abbrev pub choose : {A : Type 0} → Bool → A → A → A
choose true a b = a
choose false a b = b
