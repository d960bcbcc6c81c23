-- What each call of the machine answers, from the answers of what it calls. Assumes nothing.
use Rattle.std.specs.Prelude.{Result}
use Rattle.basis.specs.Prelude.{ℕ, ◌≡◌, sym, List, w64}
use lib.IntN.{ℤ}
use mir.Val.{SFits, to_z, of_z}
use mir.ValLaws.{to_z-of_z}
use Rattle.exports.proofs.Names.{accepted, refused, outcome, Refusal, fresh_answer, slot_answer, no_job, margin_is, refused_margin, margin, sheet_in, state_in, fresh_on, slot_in, ran_in, run_in, told, fresh_in, slot_on, run_on, margin_given, margin_in}
use Rattle.machine.specs.declared.places.Done.{Done}

-- `giachimu_fresh`
pub fresh_answered : (s list : List ℕ) (r : Result (Unit {0}) Refusal) (after : List ℕ) → fresh_answer (outcome r) after ≡ fresh_on (sheet_in s) list → (v p : ℕ) → (v, p) ≡ told (outcome r) → ((v, p), after) ≡ fresh_in s list
unfolding fresh_in
fresh_answered s list r after er v p e = rw (e, sym er)

-- `giachimu_slot`
pub slot_answered : (s list rel cs : List ℕ) (r : Result (Unit {0}) Refusal) (after ds : List ℕ) → slot_answer (outcome r) after ds ≡ slot_in (sheet_in s) list rel cs → (v p : ℕ) → (v, p) ≡ told (outcome r)
    → ((v, p), (after, ds)) ≡ slot_on s list rel cs
unfolding slot_on
slot_answered s list rel cs r after ds er v p e = rw (e, sym er)

-- `giachimu_run`
pub run_answered : (s list rel cs : List ℕ) (r : Done) (after ds : List ℕ) → ran_in r after ds ≡ run_in (sheet_in s) list rel cs → (v p : ℕ) → (v, p) ≡ told (outcome r.ended)
    → ((v, p), (r.done, (after, ds))) ≡ run_on s list rel cs
unfolding run_on
run_answered s list rel cs r after ds er v p e = rw (e, sym er)

-- `giachimu_margin`
module _ (s list : List ℕ) (row : ℕ) (v p job : ℕ) (z : ℤ) where
  pub margin_refused : (a b : ℕ) → refused_margin a b ≡ margin (sheet_in s) (state_in list) row → (v, p) ≡ told (refused a b) → ((v, p), (job, z)) ≡ margin_in s list row (job, z)
  unfolding margin_in margin_given
  margin_refused a b er e = rw (e, sym er)

  pub margin_none : no_job ≡ margin (sheet_in s) (state_in list) row → (v, p) ≡ told accepted → ((v, p), (0, z)) ≡ margin_in s list row (job, z)
  unfolding margin_in margin_given
  margin_none er e = rw (e, sym er)

  pub margin_some : (d : ℤ) → margin_is d ≡ margin (sheet_in s) (state_in list) row → SFits w64 d → (v, p) ≡ told accepted → ((v, p), (1, to_z w64 (of_z w64 d))) ≡ margin_in s list row (job, z)
  unfolding margin_in margin_given
  margin_some d er fits e = rw (e, to_z-of_z w64 d fits, sym er)
