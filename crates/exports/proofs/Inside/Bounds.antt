-- What `giachimu_bounds` answers at each way out, where `bounds_on` has judged the sheet in the list. Assumes nothing.
use Rattle.basis.specs.Prelude.{ℕ, ◌≡◌, refl, true, sym, ◌∙◌, Bool, false, List, length}
use mir.Val.{bool_byte}
use Rattle.exports.proofs.Names.{Outcome, accepted, refused, or_else, room_for, handed, handed_outcome, handed_found, handed_done, filled, sheet_in, bounds_of, results_long, result_cell, results_on, bounds_on, flag, results_in, bounds_in}

-- yes and no as the numbers that the kit makes of them
pub byte_flag : (b : Bool) → bool_byte b ≡ flag b
byte_flag true = refl
byte_flag false = refl

module _ (sheet list : List ℕ) (o : Outcome) (holds : Bool) (after : List ℕ) (e : (o, (holds, after)) ≡ bounds_on sheet list) (found : ℕ) (t : ℕ × ℕ) where
  -- 10, then the room for the results
  told_by : Outcome
  told_by = or_else (bounds_of (sheet_in sheet)).0 (room_for (results_long (sheet_in sheet).count) (length list))

  done : Bool × List ℕ
  done = ((bounds_of (sheet_in sheet)).1, filled (result_cell (bounds_of (sheet_in sheet)).2) list)

  given : (o, (holds, after)) ≡ handed told_by done (false, list)
  unfolding bounds_on results_on told_by done
  given = e

  outcome_is : o ≡ told_by
  outcome_is = (λ i. (given i).0) ∙ handed_outcome done (false, list) told_by

  pub bounds_refused : (k p : ℕ) → o ≡ refused k p → t ≡ (k, p) → (t, (found, after)) ≡ bounds_in sheet (found, list)
  unfolding bounds_in results_in told_by
  bounds_refused k p q f =
      let kept = (λ i. (given i).1) ∙ handed_found done (false, list) told_by k p (sym (λ i. (given i).0) ∙ q) in
      rw (f, sym outcome_is, q) (λ i. ((k, p), (found, (kept i).1)))

  pub bounds_are_told : o ≡ accepted → (v : ℕ) → v ≡ flag holds → t ≡ (0, 0) → (t, (v, after)) ≡ bounds_in sheet (found, list)
  unfolding bounds_in results_in told_by done
  bounds_are_told q v ev f =
      let are = (λ i. (given i).1) ∙ (handed_done done (false, list) told_by (sym (λ i. (given i).0) ∙ q)).1 in
      rw (f, ev, sym outcome_is, q) (λ i. ((0, 0), (flag (are i).0, (are i).1)))
