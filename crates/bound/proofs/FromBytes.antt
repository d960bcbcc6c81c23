-- Bytes read and judged: what is known at each step, and each way out. Assumes nothing.
use Rattle.basis.specs.Prelude.{ℕ, ◌+◌, ◌*◌, ◌≤◌, ◌<◌, ◌≡◌, refl, sym, ap, ◌∙◌, Bool, true, false, List, arith, length, take, length-take-le, lt-leb, le-leb, w64, Fits}
use Rattle.bound.proofs.Names.{most_rows, upto, Outcome, accepted, refused, outcome, or_else, room_for, room_holds, handed_found, handed_done, handed_outcome, length_upto, legal, sheet_in, sheet_long, legal_is, labels_long, read_into, holding, passes, Answer, result_of, holds, bounds_of, results_long, result_cell, words, word_at, judged_bytes}
use Rattle.std.specs.Prelude.{Result}
use Rattle.basis.specs.declared.refusal.Refusal.{Refusal}
use Rattle.basis.proofs.Inside.FirstRefusal.{both_accepted}
use Rattle.reader.specs.Answers.{reading, label_in}
use Rattle.reader.specs.Lists.{part_in}
use Rattle.reader.proofs.LentLists.{list_kept, labels_kept, list_has_room, labels_have_room, list_as_long, count_read, front_hands_over, sheet_is_legal, outcome_is_the_readers, parts_written, labels_as_long}
use Rattle.reader.proofs.Inside.ZeroLists.{lists}
use Rattle.bound.proofs.Answers.{legal_answer, judgement_same}
use Rattle.bound.proofs.Lists.{word_there, word_comes_back}

-- what `judge_bytes` answers
abbrev pub Found : Type 0
Found = Outcome × (Bool × (List ℕ × (List ℕ × List ℕ)))

abbrev pub found : Outcome → Bool → List ℕ → List ℕ → List ℕ → Found
found o h l b rs = (o, (h, (l, (b, rs))))

module _ (s list labels results : List ℕ) where
  -- less room for results than for labels
  pub less_room : length results < length labels → found (refused 15 0) false list labels results ≡ judged_bytes s list labels results
  unfolding judged_bytes
  less_room l = simp (lt-leb (length labels) (length results) l)

  module _ (r : length labels ≤ length results) (l b : List ℕ) where
    -- the reader refuses
    pub not_read : (k p : ℕ) → lists (refused k p) l b ≡ read_into s list labels → found (refused k p) false l b results ≡ judged_bytes s list labels results
    unfolding judged_bytes
    not_read k p read =
        simp (le-leb (length labels) (length results) r, ← read)
        (λ i. found (refused k p) false (list_kept s list labels (refused k p) l b read k p refl i) (labels_kept s list labels (refused k p) l b read k p refl i) results)

    -- it accepts
    module _ (read : lists accepted l b ≡ read_into s list labels) (n : ℕ) (en : n ≡ (sheet_in l).count) where
      sheet_legal : legal (reading s).1 ≡ true
      sheet_legal = sheet_is_legal s list labels accepted l b read refl

      rows_are : n ≡ (reading s).1.count
      rows_are = en ∙ count_read s list labels accepted l b read refl

      pub rows_fit : Fits w64 (n * 4)
      rows_fit = record { fits = omega (arith, rows_are, (legal_is (reading s).1 sheet_legal).at_most_rows) }

      pub end_fits : Fits w64 (n * 4 + 2)
      end_fits = record { fits = omega (arith, rows_are, (legal_is (reading s).1 sheet_legal).at_most_rows) }

      pub end_inside : n * 4 + 2 ≤ length l
      end_inside = omega (arith, rows_are, list_has_room s list labels accepted l b read refl, list_as_long s list labels accepted l b read refl)

      pub front_long : n * 4 + 2 ≡ length (take (n * 4 + 2) l)
      front_long = sym (length-take-le (n * 4 + 2) l end_inside)

      front : sheet_in (take (n * 4 + 2) l) ≡ (reading s).1
      front = ap (λ (k : ℕ). sheet_in (take (sheet_long k) l)) rows_are ∙ front_hands_over s list labels accepted l b read refl

      pub front_count : n ≡ (sheet_in (take (n * 4 + 2) l)).count
      front_count = rw front rows_are

      pub front_legal : legal (sheet_in (take (n * 4 + 2) l)) ≡ true
      front_legal = rw front sheet_legal

      pub results_fit : results_long n ≤ length results
      results_fit = omega (arith, rows_are, labels_have_room s list labels accepted l b read refl)

      pub read_and_judged : (h : Bool) (rs : List ℕ) → h ≡ holds passes (sheet_in (take (n * 4 + 2) l)) → rs ≡ upto (results_long n) (result_cell (words (sheet_in (take (n * 4 + 2) l)))) results
          → found accepted h l b rs ≡ judged_bytes s list labels results
      unfolding judged_bytes
      read_and_judged h rs eh er = simp (le-leb (length labels) (length results) r, ← read, legal_answer passes (reading s).1 sheet_legal) (rw (eh, er, front, rows_are))

-- what is known after it
module _ (s list labels results : List ℕ) (o : Outcome) (h : Bool) (l b rs : List ℕ) (e : found o h l b rs ≡ judged_bytes s list labels results) where
  -- what is refused first: the room for results, then what reading says
  abbrev first : Outcome
  first = or_else (room_for (length labels) (length results)) (read_into s list labels).0

  -- where there is room the outcome is the reader's
  pub judged_outcome : sheet_long (reading s).1.count ≤ length list → labels_long (reading s).1.count ≤ length labels → length labels ≤ length results → o ≡ (reading s).0
  unfolding judged_bytes
  judged_outcome r q t = ap (λ (x : Found). x.0) e ∙ handed_outcome _ _ first ∙ simp (le-leb (length labels) (length results) t) (outcome_is_the_readers s list labels r q)

  -- and beside a refusal the sheet does not hold
  pub judged_refused : (k p : ℕ) → o ≡ refused k p → h ≡ false
  unfolding judged_bytes
  judged_refused k p q =
      let kept = handed_found _ (false, (list, (labels, results))) first k p (sym (ap (λ (x : Found). x.0) e) ∙ q) in
      (λ i. (e i).1.0) ∙ λ i. (kept i).0

  module _ (q : o ≡ accepted) where
    accepting : (first ≡ accepted)
        × (◌≡◌ {A = Bool × (List ℕ × (List ℕ × List ℕ))} (h, (l, (b, rs)))
        ((bounds_of (reading s).1).1, ((read_into s list labels).1.0, ((read_into s list labels).1.1, upto (results_long (reading s).1.count) (result_cell (bounds_of (reading s).1).2) results))))
    unfolding judged_bytes
    accepting =
        let (a, d) = handed_done _ (false, (list, (labels, results))) first (sym (ap (λ (x : Found). x.0) e) ∙ q) in
        (a, ap (λ (x : Found). x.1) e ∙ d)

    both_so : (room_for (length labels) (length results) ≡ accepted) × ((read_into s list labels).0 ≡ accepted)
    both_so = both_accepted (room_for (length labels) (length results)) (read_into s list labels).0 accepting.0

    read_so : lists accepted l b ≡ read_into s list labels
    read_so = λ i. lists (sym both_so.1 i) (accepting.1 i).1.0 (accepting.1 i).1.1.0

    legal_so : legal (reading s).1 ≡ true
    legal_so = sheet_is_legal s list labels accepted l b read_so refl

    room_for_results : results_long (reading s).1.count ≤ length results
    room_for_results = omega (arith, labels_have_room s list labels accepted l b read_so refl, room_holds (length labels) (length results) both_so.0)

    pub judged_holds : h ≡ holds passes (reading s).1
    judged_holds = (λ i. (accepting.1 i).0) ∙ ap (λ (x : Answer). x.1) (legal_answer passes (reading s).1 legal_so)

    results_so : rs ≡ upto (results_long (reading s).1.count) (result_cell (words (reading s).1)) results
    results_so =
        (λ i. (accepting.1 i).1.1.1) ∙ ap (λ (x : Answer). upto (results_long (reading s).1.count) (result_cell x.2) results) (legal_answer passes (reading s).1 legal_so)

    pub judged_word : (k : ℕ) → k < (reading s).1.count → word_at rs k ≡ result_of passes (reading s).1 k
    judged_word k m =
        word_comes_back (words (reading s).1) rs results (results_long (reading s).1.count) k results_so room_for_results (omega arith)
        ∙ word_there passes (reading s).1 k (legal_is (reading s).1 legal_so) m

    pub judged_label : (k : ℕ) → k < (reading s).1.count → part_in b k ≡ label_in s k
    judged_label = parts_written s list labels accepted l b read_so refl

    pub judged_count : (sheet_in l).count ≡ (reading s).1.count
    judged_count = count_read s list labels accepted l b read_so refl

    pub judged_few : (reading s).1.count ≤ most_rows
    judged_few = (legal_is (reading s).1 legal_so).at_most_rows

    pub judged_labels_long : labels_long (reading s).1.count ≤ length b
    judged_labels_long = omega (arith, labels_have_room s list labels accepted l b read_so refl, labels_as_long s list labels accepted l b read_so refl)

    pub judged_results_long : results_long (reading s).1.count ≤ length rs
    judged_results_long = omega (arith, room_for_results, ap length results_so ∙ length_upto (results_long (reading s).1.count) (result_cell (words (reading s).1)) results)

-- two answers of `judge_bytes` are equal
pub judge_bytes_same : (s list labels results : List ℕ) (r t : Result Bool Refusal) (l b rs l' b' rs' : List ℕ)
    → found (outcome r) (holding r) l b rs ≡ judged_bytes s list labels results → found (outcome t) (holding t) l' b' rs' ≡ judged_bytes s list labels results
    → (r ≡ t) × (l ≡ l') × (b ≡ b') × (rs ≡ rs')
judge_bytes_same s list labels results r t l b rs l' b' rs' e f =
    let (judgement, lists-same) = judgement_same (judged_bytes s list labels results) r t (l, (b, rs)) (l', (b', rs')) e f in
    (judgement, (λ i. (lists-same i).0), (λ i. (lists-same i).1.0), λ i. (lists-same i).1.1)
