-- A refused call for a scenario changes nothing that is lent, and what one call writes the other reads. Assumes nothing.
use Rattle.basis.specs.Prelude.{ℕ, ◌*◌, ◌/◌, ◌≤◌, ◌≡◌, refl, Bool, true, false, List, length, take, sets, arith}
use Rattle.exports.proofs.Names.{accepted, refused, Step, ok, refuse, legal, sheet_in, lent_told, read_scenario, write_scenario, scenario_read, scenario_written, pick}
use Rattle.scenario.specs.Form.{Held, scenario}
use Rattle.scenario.specs.Written.{file_of}
use Rattle.scenario.specs.Listed.{ReadRefusal, sheet_not_legal, no_mark, cut_off, bad_number, missing_row, out_of_order, bad_count, no_room, WriteRefusal, unfit_sheet, uneven_list, over_the_budget, short_buffer}
use Rattle.scenario.proofs.Refusals.{read_refusal_is_listed, write_refusal_is_listed}
use Rattle.scenario.proofs.BothWays.{list_comes_back, file_comes_back}
use Rattle.basis.specs.Readers.{Bytes}
use Rattle.exports.proofs.Inside.LentAnswers.{put_kept, written_left, told_zero_lem}
use Rattle.basis.specs.Lent.{nothing_by}
use Rattle.scenario.specs.Answers.{filled_by, check_list}

-- A refused `giachimu_read_scenario` leaves the number and the list.
pub refused_read_scenario_changes_nothing : (sheet s : List ℕ) (lent : ℕ × List ℕ) → ((scenario_read sheet s lent).0.0 ≡ 0 → ⊥) → (scenario_read sheet s lent).1 ≡ lent
unfolding scenario_read read_scenario
refused_read_scenario_changes_nothing sheet s (found, list) n = go (legal (sheet_in sheet)) n
  where
    read : (x : Step Held) → ((lent_told (filled_by x list) found).0.0 ≡ 0 → ⊥) → (lent_told (filled_by x list) found).1 ≡ (found, list)
    read (ok x m) f = put_kept x.slots x.entries list found f
    read (refuse k p) f = refl

    go : (t : Bool) → ((lent_told (pick t (filled_by (scenario (sheet_in sheet) s 0) list) (nothing_by (refused 10 0) list)) found).0.0 ≡ 0 → ⊥)
        → (lent_told (pick t (filled_by (scenario (sheet_in sheet) s 0) list) (nothing_by (refused 10 0) list)) found).1 ≡ (found, list)
    go true f = read (scenario (sheet_in sheet) s 0) f
    go false f = refl

-- A refused `giachimu_write_scenario` leaves the number and the buffer.
pub refused_write_scenario_changes_nothing : (sheet list : List ℕ) (lent : ℕ × List ℕ) → ((scenario_written sheet list lent).0.0 ≡ 0 → ⊥) → (scenario_written sheet list lent).1 ≡ lent
unfolding scenario_written write_scenario
refused_write_scenario_changes_nothing sheet list (found, out) n = written_left (check_list (sheet_in sheet) list) (file_of (sheet_in sheet) list) out found n

read_some : (s : List ℕ) (k p : ℕ) → ReadRefusal s k p → 1 ≤ k
read_some s k p (sheet_not_legal a b) = omega arith
read_some s k p (no_mark a b) = omega arith
read_some s k p (cut_off a b) = omega arith
read_some s k p (bad_number a b) = omega arith
read_some s k p (missing_row a b) = omega arith
read_some s k p (out_of_order a b) = omega arith
read_some s k p (bad_count a b) = omega arith
read_some s k p (no_room a b) = omega arith

write_some : (n k p : ℕ) → WriteRefusal n k p → 1 ≤ k
write_some n k p (unfit_sheet a b) = omega arith
write_some n k p (uneven_list a b) = omega arith
write_some n k p (over_the_budget a b) = omega arith
write_some n k p (short_buffer a b) = omega arith

-- What `giachimu_write_scenario` writes, `giachimu_read_scenario` reads as the list again, into any list that is long enough.
pub written_list_is_read : (sheet list out l : List ℕ) (found had : ℕ) → (scenario_written sheet list (found, out)).0.0 ≡ 0 → length list ≤ length l
    → scenario_read sheet (take (scenario_written sheet list (found, out)).1.0 (scenario_written sheet list (found, out)).1.1) (had, l)
    ≡ ((0, 0), (length list / (sheet_in sheet).count, sets l 0 list))
unfolding scenario_written scenario_read
written_list_is_read sheet list out l found had none room =
    let yes : (write_scenario (sheet_in sheet) list out).outcome ≡ accepted =
    told_zero_lem _ (λ k p e. write_some _ k p (write_refusal_is_listed (sheet_in sheet) list out k p e)) none in
    rw (yes, list_comes_back (sheet_in sheet) list out l yes room)

-- What `giachimu_read_scenario` reads, `giachimu_write_scenario` writes as the very bytes again, into any buffer that is long enough.
pub read_file_is_written : (sheet s l out : List ℕ) (found had : ℕ) → Bytes s → (scenario_read sheet s (found, l)).0.0 ≡ 0 → length s ≤ length out
    → scenario_written sheet (take ((scenario_read sheet s (found, l)).1.0 * (sheet_in sheet).count) (scenario_read sheet s (found, l)).1.1) (had, out)
    ≡ ((0, 0), (length s, sets out 0 s))
unfolding scenario_written scenario_read
read_file_is_written sheet s l out found had bytes none room =
    let yes : (read_scenario (sheet_in sheet) s l).outcome ≡ accepted =
    told_zero_lem _ (λ k p e. read_some s k p (read_refusal_is_listed (sheet_in sheet) s l k p e)) none in
    rw (yes, file_comes_back (sheet_in sheet) s l out bytes yes room)
