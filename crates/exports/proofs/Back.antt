-- What is read into a list comes back when the list is read: the sheet, and where its labels lie. Assumes nothing.
use Rattle.basis.specs.Prelude.{ℕ, ◌+◌, ◌*◌, ◌<◌, ◌≡◌, refl, ap₂, ◌∙◌, Bool, true, false, List, length, leb, arith}
use Rattle.exports.proofs.Names.{Outcome, accepted, refused, or_else, needed, room_for, room_holds, reading, label_in, accepted_is_legal, rows_long, sheet_in, sheet_long, told, fields_in, read_in, labels_by, labels_on}
use Rattle.basis.proofs.Inside.Pairs.{first_cell, second_cell}
use Rattle.reader.specs.Lists.{labels_long, label_cell, part_in}
use Rattle.reader.proofs.Reach.{refusal_is_listed}
use Rattle.sheet.proofs.Inside.FilledLists.{filled_read}
use Rattle.sheet.proofs.RoundTrip.{sheet_comes_back}

-- where no refusal is told, the reader accepts and there is room
module _ (s : List ℕ) (needs room : ℕ) (none : (told (or_else (reading s).0 (room_for needs room))).0 ≡ 0) where
  room_refused : (test : Bool) (number a b : ℕ) → needed test number ≡ refused a b → number ≡ a
  room_refused true number a b e = let z : ◌≡◌ {A = ℕ} 0 1 = cc in absurd (omega arith)
  room_refused false number a b e = cc

  by_outcomes : (o q : Outcome) → (reading s).0 ≡ o → room_for needs room ≡ q → (told (or_else o q)).0 ≡ 0 → (o ≡ accepted) × (q ≡ accepted)
  by_outcomes accepted accepted e f z = (refl, refl)
  by_outcomes accepted (refused a b) e f z = absurd (omega (arith, z, room_refused (leb needs room) 15 a b f))
  by_outcomes (refused a b) q e f z = absurd (omega (arith, z, (refusal_is_listed s a b e).at_least))

  pub both_pass : ((reading s).0 ≡ accepted) × (room_for needs room ≡ accepted)
  both_pass = by_outcomes (reading s).0 (room_for needs room) refl refl none

-- What `giachimu_read` writes where it tells no refusal is the sheet that was read.
module _ (s l : List ℕ) (none : (read_in s l).0.0 ≡ 0) where
  pub read_passes : ((reading s).0 ≡ accepted) × (room_for (sheet_long (reading s).1.count) (length l) ≡ accepted)
  unfolding read_in fields_in
  read_passes = both_pass s (sheet_long (reading s).1.count) (length l) none

  pub read_comes_back : sheet_in (read_in s l).1 ≡ (reading s).1
  unfolding read_in fields_in
  read_comes_back =
      rw (read_passes.0, read_passes.1)
      (sheet_comes_back (reading s).1 (reading s).1.count l (rows_long s) (accepted_is_legal s read_passes.0).1 (room_holds (sheet_long (reading s).1.count) (length l) read_passes.1))

-- What `giachimu_labels` writes where it tells no refusal is where each label lies.
module _ (s b : List ℕ) (none : (labels_on s b).0.0 ≡ 0) where
  labels_pass : ((reading s).0 ≡ accepted) × (room_for (labels_long (reading s).1.count) (length b) ≡ accepted)
  unfolding labels_on labels_by
  labels_pass = both_pass s (labels_long (reading s).1.count) (length b) none

  pub labels_come_back : (k : ℕ) → k < (reading s).1.count → part_in (labels_on s b).1 k ≡ label_in s k
  unfolding labels_on labels_by part_in
  labels_come_back k c =
      let room = room_holds (labels_long (reading s).1.count) (length b) labels_pass.1 in
      rw (labels_pass.0, labels_pass.1)
      (ap₂ (λ (x : ℕ) (y : ℕ). record { start = x; long = y })
      (filled_read (label_cell s) b (k * 2) (λ p. absurd (omega arith)) ∙ first_cell (λ j. (label_in s j).start) (λ j. (label_in s j).long) k)
      (filled_read (label_cell s) b (k * 2 + 1) (λ p. absurd (omega arith)) ∙ second_cell (λ j. (label_in s j).start) (λ j. (label_in s j).long) k))
