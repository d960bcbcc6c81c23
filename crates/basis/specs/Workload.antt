-- The workload of a row in a window.
use Rattle.std.specs.Prelude.{◌+◌, ◌*◌, ◌-◌, ◌/◌}
use Rattle.basis.specs.Prelude.{ℕ, min}

-- The most slots that jobs of C slots, T apart, run in x slots of which the first starts a job.
unfoldable pub ω : ℕ → ℕ → ℕ → ℕ
ω C T x = x / T * C + min C (x - x / T * T)
