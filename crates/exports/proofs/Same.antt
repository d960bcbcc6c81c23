-- Equal answers: any two answers that the promise of a call allows are equal. Assumes nothing.
use Rattle.basis.specs.Prelude.{ℕ, ◌≡◌, Bool, List}
use Rattle.basis.proofs.Same.{same}
use lib.IntN.{ℤ}
use Rattle.exports.proofs.Names.{legal, sheet_in, number_on, up_to_on, fixed_in, box_on, verdict_in, read_in, label_answer, bounds_in, fresh_in, slot_on, run_on, margin_in, scenario_read, scenario_written, labels_on, sheet_written}

-- `giachimu_read`: the number and the place, and the list.
pub read_same : (s list : List ℕ) (a b : (ℕ × ℕ) × List ℕ) → a ≡ read_in s list → b ≡ read_in s list → a ≡ b
read_same s list = same (read_in s list)

-- `giachimu_label`: the number and the place, where the label starts and how long it is.
pub label_same : (s : List ℕ) (row : ℕ) (found : ℕ × ℕ) (a b : (ℕ × ℕ) × (ℕ × ℕ)) → a ≡ label_answer s row found → b ≡ label_answer s row found → a ≡ b
label_same s row found = same (label_answer s row found)

-- `giachimu_labels`: the number and the place, and the list.
pub labels_same : (s list : List ℕ) (a b : (ℕ × ℕ) × List ℕ) → a ≡ labels_on s list → b ≡ labels_on s list → a ≡ b
labels_same s list = same (labels_on s list)

-- `giachimu_write`: the number and the place, how many bytes, and the buffer.
pub write_same : (sheet s labels : List ℕ) (lent : ℕ × List ℕ) (a b : (ℕ × ℕ) × (ℕ × List ℕ)) → a ≡ sheet_written sheet s labels lent → b ≡ sheet_written sheet s labels lent → a ≡ b
write_same sheet s labels lent = same (sheet_written sheet s labels lent)

-- `giachimu_bounds`: the number and the place, whether the sheet holds, and the list.
pub bounds_same : (s : List ℕ) (lent : ℕ × List ℕ) (a b : (ℕ × ℕ) × (ℕ × List ℕ)) → a ≡ bounds_in s lent → b ≡ bounds_in s lent → a ≡ b
bounds_same s lent = same (bounds_in s lent)

-- `giachimu_fresh`: the number and the place, and the list.
pub fresh_same : (s list : List ℕ) (a b : (ℕ × ℕ) × List ℕ) → a ≡ fresh_in s list → b ≡ fresh_in s list → a ≡ b
fresh_same s list = same (fresh_in s list)

-- `giachimu_slot`: the number and the place, the list and the codes.
pub slot_same : (s list rel cs : List ℕ) (a b : (ℕ × ℕ) × (List ℕ × List ℕ)) → a ≡ slot_on s list rel cs → b ≡ slot_on s list rel cs → a ≡ b
slot_same s list rel cs = same (slot_on s list rel cs)

-- `giachimu_run`: the number and the place, the slots done, the list and the codes.
pub run_same : (s list rel cs : List ℕ) (a b : (ℕ × ℕ) × (ℕ × (List ℕ × List ℕ))) → a ≡ run_on s list rel cs → b ≡ run_on s list rel cs → a ≡ b
run_same s list rel cs = same (run_on s list rel cs)

-- `giachimu_margin`: the number and the place, whether there is a job, and the margin.
pub margin_same : (s list : List ℕ) (row : ℕ) (lent : ℕ × ℤ) (a b : (ℕ × ℕ) × (ℕ × ℤ)) → a ≡ margin_in s list row lent → b ≡ margin_in s list row lent → a ≡ b
margin_same s list row lent = same (margin_in s list row lent)

-- `giachimu_verdict`: the number and the place, the buffer and the text's length.
pub verdict_same : (s text : List ℕ) (long : ℕ) (a b : (ℕ × ℕ) × (List ℕ × ℕ)) → a ≡ verdict_in s text long → b ≡ verdict_in s text long → a ≡ b
verdict_same s text long = same (verdict_in s text long)

-- `giachimu_number`: the number and the place, the value and the place after it.
pub number_same : (s : List ℕ) (at : ℕ) (found : ℕ × ℕ) (a b : (ℕ × ℕ) × (ℕ × ℕ)) → a ≡ number_on s at found → b ≡ number_on s at found → a ≡ b
number_same s at found = same (number_on s at found)

-- `giachimu_number_up_to`: the same.
pub number_up_to_same : (s : List ℕ) (at most : ℕ) (found : ℕ × ℕ) (a b : (ℕ × ℕ) × (ℕ × ℕ)) → a ≡ up_to_on s at most found → b ≡ up_to_on s at most found → a ≡ b
number_up_to_same s at most found = same (up_to_on s at most found)

-- `giachimu_legal`: yes or no.
pub legal_same : (s : List ℕ) (a b : Bool) → a ≡ legal (sheet_in s) → b ≡ legal (sheet_in s) → a ≡ b
legal_same s = same (legal (sheet_in s))

-- `giachimu_fixed`: the number and the place, and the list.
pub fixed_same : (k : ℕ) (list : List ℕ) (a b : (ℕ × ℕ) × List ℕ) → a ≡ fixed_in k list → b ≡ fixed_in k list → a ≡ b
fixed_same k list = same (fixed_in k list)

-- `giachimu_box`: the number and the place, the slots done, the list and the codes.
pub box_same : (s list rel cs : List ℕ) (a b : (ℕ × ℕ) × (ℕ × (List ℕ × List ℕ))) → a ≡ box_on s list rel cs → b ≡ box_on s list rel cs → a ≡ b
box_same s list rel cs = same (box_on s list rel cs)

-- `giachimu_read_scenario`: the number and the place, how many slots, and the list.
pub read_scenario_same : (sheet s : List ℕ) (lent : ℕ × List ℕ) (a b : (ℕ × ℕ) × (ℕ × List ℕ)) → a ≡ scenario_read sheet s lent → b ≡ scenario_read sheet s lent → a ≡ b
read_scenario_same sheet s lent = same (scenario_read sheet s lent)

-- `giachimu_write_scenario`: the number and the place, how many bytes, and the buffer.
pub write_scenario_same : (sheet list : List ℕ) (lent : ℕ × List ℕ) (a b : (ℕ × ℕ) × (ℕ × List ℕ)) → a ≡ scenario_written sheet list lent → b ≡ scenario_written sheet list lent → a ≡ b
write_scenario_same sheet list lent = same (scenario_written sheet list lent)
