-- Codes, as facts: the tests that they are made of, what a code 4 says of the row, and which code a job has that goes on. Assumes nothing.
use Rattle.basis.specs.Prelude.{ℕ, ◌≤◌, ◌≡◌, refl, sym, ◌∙◌, Bool, true, false, eqb, arith, lt-ltb, ne_eqb, ltb-true, eqb-true}
use Rattle.records.proofs.Names.{pick, Row, Job, has_job, code_of}

-- a code by the tests that it is made of: j a job, w something is left, d at the deadline, r it ran
abbrev pub code_by_tests : Bool → Bool → Bool → Bool → ℕ
code_by_tests j w d r = pick j (pick w (pick d 4 (pick r 2 1)) 3) 0

by_tests : (j w d r : Bool) → ◌≡◌ {A = ℕ} (pick (eqb (pick j (pick r 2 1) 0) 0) 0 (pick w (pick d 4 (pick j (pick r 2 1) 0)) 3)) (code_by_tests j w d r)
by_tests true w d true = refl
by_tests true w d false = refl
by_tests false w d r = refl

module _ (row : Row) (ran : Bool) (before after : Job) where
  -- a code by those tests
  pub code_is : code_of row ran before after ≡ code_by_tests (has_job before) (has_job after) (eqb after.since row.deadline) ran
  unfolding code_of
  code_is = by_tests (has_job before) (has_job after) (eqb after.since row.deadline) ran

  -- 4: there was a job, something is left of it, and since is the deadline
  pub four_says : code_of row ran before after ≡ 4 → (1 ≤ before.remaining) × (1 ≤ after.remaining) × (after.since ≡ row.deadline)
  four_says e = go (has_job before) refl (has_job after) refl (eqb after.since row.deadline) refl ran (sym code_is ∙ e)
    where
      go : (j : Bool) → has_job before ≡ j → (w : Bool) → has_job after ≡ w → (d : Bool) → eqb after.since row.deadline ≡ d → (r : Bool) → code_by_tests j w d r ≡ 4
          → (1 ≤ before.remaining) × (1 ≤ after.remaining) × (after.since ≡ row.deadline)
      go true e true g true i r f = (ltb-true 0 before.remaining e, ltb-true 0 after.remaining g, eqb-true after.since row.deadline i)
      go true e true g false i true f = absurd (omega arith)
      go true e true g false i false f = absurd (omega arith)
      go true e false g d i r f = absurd (omega arith)
      go false e w g d i r f = absurd (omega arith)

  -- a job of which something is left before the deadline ran or waited
  pub goes_on : 1 ≤ before.remaining → 1 ≤ after.remaining → (after.since ≡ row.deadline → ⊥) → code_of row ran before after ≡ pick ran 2 1
  goes_on j w d = code_is ∙ rw (lt-ltb 0 before.remaining j, lt-ltb 0 after.remaining w, ne_eqb after.since row.deadline d)
