-- Laws of placement: processors are kept, and rows and records that agree above row k leave as many free there. Assumes nothing.
use Rattle.basis.specs.Prelude.{ℕ, zero, suc, ◌+◌, ◌-◌, ◌≤◌, ◌<◌, ◌≡◌, refl, Bool, true, false, leb, leb-true, leb-false, arith}
use Rattle.machine.proofs.Names.{pick, sum, both_right, Row, Job, has_job, fits, free_below, free_at, Given, begun, free, runs}

pub free_agrees : (m : ℕ) (p q : ℕ → Row) (a b : ℕ → Job) (k : ℕ) → ((i : ℕ) → i < k → p i ≡ q i) → ((i : ℕ) → i < k → a i ≡ b i) → free_at m p a k ≡ free_at m q b k
unfolding free_at
free_agrees m p q a b zero e f = refl
free_agrees m p q a b (suc k) e f =
    let above = free_agrees m p q a b k (λ i l. e i (omega arith)) (λ i l. f i (omega arith)) in
    rw (above, e k (omega arith), f k (omega arith))

-- what row k takes of the processors
abbrev pub taken_by : Given → ℕ → ℕ
taken_by g k = pick (runs g k) (g.rows k).threads 0

-- a row that runs fits
pub runs_fits : (free : ℕ) (row : Row) (s : Job) → fits free row s ≡ true → row.threads ≤ free
unfolding fits
runs_fits free row s e = leb-true row.threads free (both_right (has_job s) (leb row.threads free) e)

-- processors are kept: free at row k and what the rows above it that run take make m
pub processors_are_kept : (g : Given) (k : ℕ) → free g k + sum k (taken_by g) ≡ g.processors
unfolding free_at free_below sum
processors_are_kept g zero = omega arith
processors_are_kept g (suc k) = go (processors_are_kept g k) (runs g k) refl
  where
    go : free g k + sum k (taken_by g) ≡ g.processors → (t : Bool) → runs g k ≡ t
        → pick t (free g k - (g.rows k).threads) (free g k) + (sum k (taken_by g) + pick t (g.rows k).threads 0) ≡ g.processors
    go above true e = omega (arith, runs_fits (free g k) (g.rows k) (begun g k) e)
    go above false e = omega arith

-- a row with a job that waits does not fit
pub waits_unfit : (g : Given) (k : ℕ) → has_job (begun g k) ≡ true → runs g k ≡ false → free g k < (g.rows k).threads
unfolding fits
waits_unfit g k j e = leb-false (g.rows k).threads (free g k) (rw j at e)
