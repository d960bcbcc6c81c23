-- A refused call changes nothing that is lent: where the number told is not 0, every list and number is as it was. Assumes nothing.
use Rattle.basis.specs.Prelude.{ℕ, ◌/◌, ◌≡◌, refl, sym, ap, ◌∙◌, List, length, eq-eqb}
use lib.IntN.{ℤ}
use Rattle.exports.proofs.Names.{pick, Outcome, accepted, refused, or_else, needed, room_for, handed, is_accepted, Step, ok, refuse, number, up_to, reading, Sheet, bounds_of, results_long, check_slot, check_run, RunAnswer, run_answer, MarginAnswer, no_job, margin_is, refused_margin, fresh, next_state, next_codes, slot_by, slot, course, run, margin, State, verdict_text, legal, sheet_in, sheet_long, fixed_sheet, state_long, state_in, fresh_on, slot_listed, slot_in, run_in, told, verdict_in, fields_in, read_in, labels_by, labels_on, label_outcome, label_answer, results_in, bounds_in, fresh_in, slot_told, slot_on, run_on, margin_given, margin_in, step_told, number_on, up_to_on, fixed_in, box_by, box_of, box_on}
use Rattle.reader.specs.Lists.{labels_long}
use Rattle.machine.proofs.SlotsDone.{Ends, all_done, stopped_at, run_ends, run_not_begun}

-- what is handed over where a number other than 0 is told
kept : {A : Type 0} (o : Outcome) (done found : A) → ((told o).0 ≡ 0 → ⊥) → (handed o done found).1 ≡ found
kept accepted done found n = absurd (n refl)
kept (refused number place) done found n = refl

-- A refused `giachimu_read` leaves the list.
pub refused_read_changes_nothing : (s list : List ℕ) → ((read_in s list).0.0 ≡ 0 → ⊥) → (read_in s list).1 ≡ list
unfolding read_in fields_in
refused_read_changes_nothing s list n = kept (or_else (reading s).0 (room_for (sheet_long (reading s).1.count) (length list))) _ list n

-- A refused `giachimu_label` leaves both numbers.
pub refused_label_changes_nothing : (s : List ℕ) (row : ℕ) (found : ℕ × ℕ) → ((label_answer s row found).0.0 ≡ 0 → ⊥) → (label_answer s row found).1 ≡ found
unfolding label_answer
refused_label_changes_nothing s row found n = kept (label_outcome (reading s) row) _ found n

-- A refused `giachimu_labels` leaves the list.
pub refused_labels_changes_nothing : (s list : List ℕ) → ((labels_on s list).0.0 ≡ 0 → ⊥) → (labels_on s list).1 ≡ list
unfolding labels_on labels_by
refused_labels_changes_nothing s list n = kept (or_else (reading s).0 (room_for (labels_long (reading s).1.count) (length list))) _ list n

-- A refused `giachimu_bounds` leaves the list and the number.
pub refused_bounds_changes_nothing : (s : List ℕ) (lent : ℕ × List ℕ) → ((bounds_in s lent).0.0 ≡ 0 → ⊥) → (bounds_in s lent).1 ≡ lent
unfolding bounds_in results_in
refused_bounds_changes_nothing s lent n = kept (or_else (bounds_of (sheet_in s)).0 (room_for (results_long (sheet_in s).count) (length lent.1))) _ lent n

-- the same of a call of the machine
left : {A : Type 0} (o : Outcome) (done found : A) → ((told o).0 ≡ 0 → ⊥) → pick (is_accepted o) done found ≡ found
left accepted done found n = absurd (n refl)
left (refused number place) done found n = refl

-- A refused `giachimu_fresh` leaves the list.
pub refused_fresh_changes_nothing : (s list : List ℕ) → ((fresh_in s list).0.0 ≡ 0 → ⊥) → (fresh_in s list).1 ≡ list
unfolding fresh_in fresh_on
refused_fresh_changes_nothing s list n = left (or_else (fresh (sheet_in s)).outcome (room_for (state_long (sheet_in s).count) (length list))) _ list n

-- A refused `giachimu_slot` leaves the state's list and the codes.
pub refused_slot_changes_nothing : (s list rel cs : List ℕ) → ((slot_on s list rel cs).0.0 ≡ 0 → ⊥) → (slot_on s list rel cs).1 ≡ (list, cs)
unfolding slot_on slot_in slot
refused_slot_changes_nothing s list rel cs n = go (check_slot (sheet_in s) (state_in list) rel (length cs)) n
  where
    next : State × List ℕ
    next = (next_state (sheet_in s) (state_in list) rel, next_codes (sheet_in s) (state_in list) rel cs)

    go : (o : Outcome) → ((slot_told (slot_listed (sheet_in s).count (slot_by o next (state_in list, cs)) list)).0.0 ≡ 0 → ⊥)
        → (slot_told (slot_listed (sheet_in s).count (slot_by o next (state_in list, cs)) list)).1 ≡ (list, cs)
    go accepted m = absurd (m refl)
    go (refused number place) m = refl

-- a run that has done no slot has written no code
course_writes_nothing : (h : Sheet) (t : State) (rel cs : List ℕ) (n : ℕ) (c : RunAnswer State) → Ends h rel (run_answer 0 accepted t cs) n c → c ≡ course h rel (run_answer 0 accepted t cs) n → c.done ≡ 0 → c.codes ≡ cs
unfolding course
course_writes_nothing h t rel cs n c (all_done u ds e) g z = let none : n ≡ 0 = sym (λ i. (e i).done) ∙ z in rw (g, none)
course_writes_nothing h t rel cs n c (stopped_at i l u ds s a b r e) g z =
    let none : i ≡ 0 = sym (λ j. (e j).done) ∙ z in
    let same = rw none at s in rw e (sym (λ j. (same j).codes))

run_writes_nothing : (h : Sheet) (t : State) (rel cs : List ℕ) → (run h t rel cs).done ≡ 0 → (run h t rel cs).codes ≡ cs
unfolding run
run_writes_nothing h t rel cs z = go (check_run h t rel (length cs)) refl
  where
    go : (o : Outcome) → check_run h t rel (length cs) ≡ o → (run h t rel cs).codes ≡ cs
    go accepted e = course_writes_nothing h t rel cs (length rel / h.count) (run h t rel cs) (run_ends h t rel cs e) (rw e) z
    go (refused a b) e = λ i. (run_not_begun h t rel cs a b e i).codes

-- A `giachimu_run` that has done no slot leaves the state's list and the codes.
pub run_of_none_changes_nothing : (s list rel cs : List ℕ) → (run_on s list rel cs).1.0 ≡ 0 → (run_on s list rel cs).1.1 ≡ (list, cs)
unfolding run_on run_in
run_of_none_changes_nothing s list rel cs z =
    rw (eq-eqb (run (sheet_in s) (state_in list) rel cs).done 0 z, run_writes_nothing (sheet_in s) (state_in list) rel cs z)

-- A refused `giachimu_margin` leaves both numbers.
pub refused_margin_changes_nothing : (s list : List ℕ) (row : ℕ) (lent : ℕ × ℤ) → ((margin_in s list row lent).0.0 ≡ 0 → ⊥) → (margin_in s list row lent).1 ≡ lent
unfolding margin_in margin_given
refused_margin_changes_nothing s list row lent n = go (margin (sheet_in s) (state_in list) row) n
  where
    go : (m : MarginAnswer) → ((margin_given m lent).0.0 ≡ 0 → ⊥) → (margin_given m lent).1 ≡ lent
    go no_job f = absurd (f refl)
    go (margin_is d) f = absurd (f refl)
    go (refused_margin number place) f = refl

-- A refused `giachimu_verdict` leaves the buffer and the number.
pub refused_verdict_changes_nothing : (s text : List ℕ) (long : ℕ) → ((verdict_in s text long).0.0 ≡ 0 → ⊥) → (verdict_in s text long).1 ≡ (text, long)
unfolding verdict_in
refused_verdict_changes_nothing s text long n = kept (room_for (length (verdict_text s)) (length text)) _ (text, long) n

-- what reading a number leaves where a number other than 0 is told
step_kept : (st : Step ℕ) (found : ℕ × ℕ) → ((step_told st found).0.0 ≡ 0 → ⊥) → (step_told st found).1 ≡ found
unfolding step_told
step_kept (ok value after) found n = absurd (n refl)
step_kept (refuse k place) found n = refl

-- A refused `giachimu_number` leaves both numbers.
pub refused_number_changes_nothing : (s : List ℕ) (at : ℕ) (found : ℕ × ℕ) → ((number_on s at found).0.0 ≡ 0 → ⊥) → (number_on s at found).1 ≡ found
unfolding number_on
refused_number_changes_nothing s at found n = step_kept (number s at) found n

-- So does a refused `giachimu_number_up_to`.
pub refused_up_to_changes_nothing : (s : List ℕ) (at most : ℕ) (found : ℕ × ℕ) → ((up_to_on s at most found).0.0 ≡ 0 → ⊥) → (up_to_on s at most found).1 ≡ found
unfolding up_to_on
refused_up_to_changes_nothing s at most found n = step_kept (up_to most 7 8 s at) found n

-- A refused `giachimu_fixed` leaves the list.
pub refused_fixed_changes_nothing : (k : ℕ) (list : List ℕ) → ((fixed_in k list).0.0 ≡ 0 → ⊥) → (fixed_in k list).1 ≡ list
unfolding fixed_in fields_in
refused_fixed_changes_nothing k list n = kept (room_for (sheet_long (fixed_sheet k).count) (length list)) _ list n

-- A `giachimu_box` whose sheet is out of range, or whose list has no room for a state, does no slot and leaves the list and the codes.
pub unbegun_box_changes_nothing : (s list rel cs : List ℕ) (a b : ℕ) → or_else (needed (legal (sheet_in s)) 10) (room_for (state_long (sheet_in s).count) (length list)) ≡ refused a b
    → box_on s list rel cs ≡ ((a, b), (0, (list, cs)))
unfolding box_on box_of
unbegun_box_changes_nothing s list rel cs a b e = ap (λ (o : Outcome). box_by o (run (sheet_in s) (fresh (sheet_in s)).state rel cs) list cs) e
