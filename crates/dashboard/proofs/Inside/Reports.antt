-- The two ways out of a verdict, and the sections of the reference. Assumes nothing.
use Rattle.basis.specs.Prelude.{ℕ, zero, suc, ◌+◌, ◌≤◌, ◌<◌, ◌≡◌, refl, ap, ◌∙◌, Bool, true, false, List, ◌++◌, add-one, le_antisymm, arith, length}
use Rattle.dashboard.proofs.Names.{most_rows, all_of, Outcome, accepted, refused, outcome, legal_row, legal_at, legal, filled, sheet_in, sheet_cell, sheet_long, Sheet, legal_is, reading, labels_long, refused_is_no_sheet, passes, result_of, holds, fixed_sheet, results_long, result_cell, bounds_on, words, word_at, judged_bytes, ending, no_verdict, own_label, numbered, LabelsLie, Roomy, lines, board, text_of, verdict_text, fixed_count, prefix, section, sections, reference_text, Page, written, said, two_said, said_is_written}
use Rattle.std.specs.Prelude.{Result, Ok, Err}
use Rattle.std.specs.Result.{result_unwrap_or}
use Rattle.basis.specs.declared.refusal.Refusal.{Refusal}
use Rattle.bound.specs.Lists.{holding}
use Rattle.sheet.proofs.RoundTrip.{whole_sheet_comes_back}
use Rattle.sheet.proofs.Inside.FilledLists.{zeros, zeros_long}
use Rattle.reader.proofs.Inside.ShortestSheet.{accepted_is_not_shorter}
use Rattle.reader.proofs.Inside.ZeroLists.{rows_few}
use Rattle.dashboard.proofs.Outcomes.{by_outcome}
use Rattle.bound.proofs.FromBytes.{found, judged_outcome, judged_count, judged_few, judged_labels_long, judged_label, judged_results_long, judged_word, judged_holds}
use Rattle.bound.proofs.Lists.{legal_is_put, word_there, word_comes_back}
use Rattle.dashboard.proofs.Inside.Boards.{board_is}

-- ---- a verdict, where the bytes were judged in lists of zeros with room for their sheet

-- what is then known of the first n rows: each has a label in a list, and a result in another
pub record RowsRead (s parts results : List ℕ) (n : ℕ) : Type 0 where
  pub few : n ≤ most_rows
  pub labels : labels_long n ≤ length parts
  pub lie : LabelsLie s parts n
  pub judged : results_long n ≤ length results

module _ (s : List ℕ) (long pairs : ℕ) (room : Roomy s long pairs) (h : Bool) (l b rs : List ℕ) where
  text_of_lem : (o : Outcome) → found o h l b rs ≡ judged_bytes s (zeros long) (zeros pairs) (zeros pairs) → text_of s (o, (reading s).1) ≡ verdict_text s
  unfolding verdict_text
  text_of_lem o e =
      ap (λ (x : Outcome). text_of s (x, (reading s).1))
      (judged_outcome s (zeros long) (zeros pairs) (zeros pairs) o h l b rs e (omega (arith, zeros_long long, room.for_rows)) (omega (arith, zeros_long pairs, room.for_labels)) (omega arith))

  pub verdict_refused : (k p : ℕ) → found (refused k p) h l b rs ≡ judged_bytes s (zeros long) (zeros pairs) (zeros pairs)
      → (buffer : List ℕ) (q : Page) → q ≡ said (buffer, 0) (no_verdict k p) → q ≡ written (verdict_text s) buffer
  verdict_refused k p e buffer q f = said_is_written q _ buffer (f ∙ ap (said (buffer, 0)) (text_of_lem (refused k p) e))

  module _ (e : found accepted h l b rs ≡ judged_bytes s (zeros long) (zeros pairs) (zeros pairs)) (n : ℕ) (en : n ≡ (sheet_in l).count) where
    count_is : n ≡ (reading s).1.count
    count_is = en ∙ judged_count s (zeros long) (zeros pairs) (zeros pairs) accepted h l b rs e refl

    pub rows_are_read : RowsRead s b rs n
    rows_are_read = record {
      few = omega (arith, count_is, judged_few s (zeros long) (zeros pairs) (zeros pairs) accepted h l b rs e refl);
      labels = omega (arith, count_is, judged_labels_long s (zeros long) (zeros pairs) (zeros pairs) accepted h l b rs e refl);
      lie = λ i m. judged_label s (zeros long) (zeros pairs) (zeros pairs) accepted h l b rs e refl i (omega (arith, count_is));
      judged = omega (arith, count_is, judged_results_long s (zeros long) (zeros pairs) (zeros pairs) accepted h l b rs e refl);
    }

    pub verdict_accepted : (buffer : List ℕ) (q : Page) → q ≡ said (buffer, 0) (lines (own_label s) (word_at rs) n ++ ending h) → q ≡ written (verdict_text s) buffer
    verdict_accepted buffer q f =
        said_is_written q _ buffer (f ∙ ap (said (buffer, 0))
        (board_is (reading s).1 (own_label s) (word_at rs) n h count_is (judged_word s (zeros long) (zeros pairs) (zeros pairs) accepted h l b rs e refl) (judged_holds s (zeros long) (zeros pairs) (zeros pairs) accepted h l b rs e refl)
        ∙ text_of_lem accepted e))

-- lists with room for every row have room for any sheet
pub room_for_any : (s : List ℕ) → Roomy s (sheet_long most_rows) (labels_long most_rows)
room_for_any s = record { for_rows = omega (arith, rows_few s); for_labels = omega (arith, rows_few s); few_long = omega arith; few_pairs = omega arith }

-- and so have small ones for a sheet of few bytes
pub room_for_few : (s : List ℕ) → length s < 36 → Roomy s (sheet_long 4) (labels_long 4)
room_for_few s h =
    let few : (reading s).1.count ≤ 4 = by_outcome s (λ e. omega (arith, accepted_is_not_shorter s e)) (λ k p e. rw (refused_is_no_sheet s k p e) (omega arith)) in
    record { for_rows = omega arith; for_labels = omega arith; few_long = omega arith; few_pairs = omega arith }

-- ---- the reference

-- sheets A to E are legal, and have room for every row
fixed_is_legal : (i : ℕ) → i < fixed_count → (legal (fixed_sheet i) ≡ true) × (length (fixed_sheet i).rows ≡ most_rows)
unfolding fixed_sheet legal legal_at legal_row all_of
fixed_is_legal zero l = (refl, refl)
fixed_is_legal (suc zero) l = (refl, refl)
fixed_is_legal (suc (suc zero)) l = (refl, refl)
fixed_is_legal (suc (suc (suc zero))) l = (refl, refl)
fixed_is_legal (suc (suc (suc (suc zero)))) l = (refl, refl)
fixed_is_legal (suc (suc (suc (suc (suc i))))) l = absurd (omega arith)

-- whether it holds, which is told in a result
unwrapped : (r : Result Bool Refusal) → result_unwrap_or r false ≡ holding r
unwrapped (Ok holds) = refl
unwrapped (Err refusal) = refl

-- a fixed sheet
module _ (i : ℕ) (i<n : i < fixed_count) (h : Sheet) (eh : h ≡ fixed_sheet i) where
  legal_so : legal h ≡ true
  legal_so = ap legal eh ∙ (fixed_is_legal i i<n).0

  pub fixed_few : h.count ≤ most_rows
  fixed_few = (legal_is h legal_so).at_most_rows

  pub fixed_results : (rs : List ℕ) → length rs ≡ results_long most_rows → results_long h.count ≤ length rs
  fixed_results rs e = omega (arith, fixed_few)

-- its lines
module _ (i : ℕ) (i<n : i < fixed_count) (h : Sheet) (eh : h ≡ fixed_sheet i) (list : List ℕ) (el : list ≡ filled (sheet_cell h) (zeros (sheet_long most_rows))) (r : Result Bool Refusal) (rs : List ℕ)
    (e : (outcome r, (holding r, rs)) ≡ bounds_on list (zeros (results_long most_rows))) (yes : Bool) (ey : yes ≡ result_unwrap_or r false) where
  handed_so : sheet_in list ≡ h
  handed_so = ap sheet_in el ∙ whole_sheet_comes_back h (zeros (sheet_long most_rows)) (ap (λ (x : Sheet). length x.rows) eh ∙ (fixed_is_legal i i<n).1) (omega (arith, zeros_long (sheet_long most_rows)))

  judged_so : ◌≡◌ {A = Outcome × (Bool × List ℕ)} (outcome r, (holding r, rs)) (accepted, (holds passes h, filled (result_cell (words h)) (zeros (results_long most_rows))))
  judged_so =
      e ∙ legal_is_put list (zeros (results_long most_rows)) (ap legal handed_so ∙ legal_so i i<n h eh) (rw handed_so (omega (arith, fixed_few i i<n h eh, zeros_long (results_long most_rows))))
      ∙ ap (λ (x : Sheet). (accepted, (holds passes x, filled (result_cell (words x)) (zeros (results_long most_rows))))) handed_so

  pub fixed_said : (p q : Page) → q ≡ said p (lines (numbered prefix) (word_at rs) h.count ++ ending yes) → q ≡ said p (board (numbered prefix) (fixed_sheet i))
  unfolding filled
  fixed_said p q f =
      f ∙ ap (said p) (board_is h (numbered prefix) (word_at rs) h.count yes refl word_so (ey ∙ unwrapped r ∙ ap (λ (x : Outcome × (Bool × List ℕ)). x.1.0) judged_so))
      ∙ ap (λ (x : Sheet). said p (board (numbered prefix) x)) eh
    where
      word_so : (k : ℕ) → k < h.count → word_at rs k ≡ result_of passes h k
      word_so k m =
          word_comes_back (words h) rs (zeros (results_long most_rows)) (length (zeros (results_long most_rows))) k (ap (λ (x : Outcome × (Bool × List ℕ)). x.1.1) judged_so) (omega arith) (omega (arith, fixed_few i i<n h eh, zeros_long (results_long most_rows)))
          ∙ word_there passes h k (legal_is h (legal_so i i<n h eh)) m

-- the loop over them
pub one_section : (p q r : Page) (i : ℕ) → q ≡ said p (sections i) → r ≡ said q (section i) → r ≡ said p (sections (i + 1))
unfolding sections
one_section p q r i e f = rw add-one (two_said p q r (sections i) (section i) e f)

pub reference_written : (buffer : List ℕ) (q : Page) (i : ℕ) → i ≤ fixed_count → fixed_count ≤ i → q ≡ said (buffer, 0) (sections i) → q ≡ written reference_text buffer
unfolding reference_text
reference_written buffer q i h g e = said_is_written q _ buffer (e ∙ ap (λ (k : ℕ). said (buffer, 0) (sections k)) (le_antisymm h g))
