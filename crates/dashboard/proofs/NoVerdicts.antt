-- NO VERDICT: the number after it is 1 to 9, and no row is printed of a sheet that the reader refuses. Assumes nothing.
use Rattle.basis.specs.Prelude.{ℕ, zero, suc, ◌≤◌, ◌<◌, ◌≡◌, refl, sym, ap, ◌∙◌, List, ◌∷◌, ◌++◌, arith, length, drop}
use Rattle.dashboard.proofs.Names.{accepted, row_at, reading, Sheet, accepted_is_legal, legal_is, refusal_is_listed, passes, Word, result_of, holds, Answer, bounds_of, digits, decimal, space, newline, line_start, line, ending, no_verdict_word, refused_by, no_verdict, own_label, lines, board, verdict_text, Reported, NoVerdict}
use Rattle.bound.proofs.Answers.{legal_answer}
use Rattle.dashboard.proofs.Outcomes.{accepted_prints_its_rows, refused_prints_one_line, by_outcome}

-- the text of a sheet with a row begins with the digit of row 0
lines_begin : (label : ℕ → List ℕ) (result : ℕ → Word) (n : ℕ) → (rest : List ℕ) × (lines label result (suc n) ≡ 0x30 ∷ rest)
unfolding lines line line_start decimal digits
lines_begin label result zero = (_, refl)
lines_begin label result (suc n) =
    let (rest, e) = lines_begin label result n in
    let next : List ℕ = line (suc n) (label (suc n)) (result (suc n)) in
    (rest ++ next, ap (λ (x : List ℕ). x ++ next) e)

board_begins : (label : ℕ → List ℕ) (h : Sheet) → 1 ≤ h.count → (rest : List ℕ) × (board label h ≡ 0x30 ∷ rest)
unfolding board
board_begins label h some = go h.count some
  where
    go : (n : ℕ) → 1 ≤ n → (rest : List ℕ) × (lines label (result_of passes h) n ++ ending (holds passes h) ≡ 0x30 ∷ rest)
    go zero l = absurd (omega arith)
    go (suc n) l =
        let (rest, e) = lines_begin label (result_of passes h) n in
        (rest ++ ending (holds passes h), ap (λ (x : List ℕ). x ++ ending (holds passes h)) e)

after_word : (k p : ℕ) (rest : List ℕ) → no_verdict_word ++ rest ≡ no_verdict k p → rest ≡ decimal k ++ space ++ decimal p ++ newline
unfolding no_verdict refused_by
after_word k p rest e = ap (drop (length no_verdict_word)) e

-- a text that begins with NO VERDICT is the reader's refusal, by 1 to 9
pub number_is_1_to_9 : (s rest : List ℕ) → verdict_text s ≡ no_verdict_word ++ rest → NoVerdict s rest
number_is_1_to_9 s rest t =
    by_outcome s (λ e.
    let (_, b) = board_begins (own_label s) (reading s).1 (legal_is (reading s).1 (accepted_is_legal s e).0).some_rows in
    let q = sym (accepted_prints_its_rows s e ∙ b) ∙ t in
    cc)
    (λ k p e.
    let l = refusal_is_listed s k p e in
    let after = after_word k p rest (sym t ∙ refused_prints_one_line s k p e) in
    record { number = k; place = p; from_reader = e; some = l.at_least; most = l.at_most; follows = after })

-- the bounds never refuse a sheet that was read
pub bounds_follow_the_reader : (s : List ℕ) → (reading s).0 ≡ accepted → (bounds_of (reading s).1).0 ≡ accepted
bounds_follow_the_reader s e = ap (λ (a : Answer). a.0) (legal_answer passes (reading s).1 (accepted_is_legal s e).0)

-- every row of a sheet that was read is reported
read_is_reported : (s : List ℕ) → (reading s).0 ≡ accepted → (i : ℕ) → i < (reading s).1.count → Reported (row_at (reading s).1 i)
read_is_reported s e i l =
    let r = (legal_is (reading s).1 (accepted_is_legal s e).0).rows i l in
    record { threads = r.some_threads; separation = r.some_separation; deadline = r.some_deadline; budget = r.some_budget }

no_row_zero : (k p : ℕ) (rest : List ℕ) → 0x30 ∷ rest ≡ no_verdict k p → ⊥
unfolding no_verdict refused_by
no_row_zero k p rest e = cc

-- where row 0 is printed every row is reported: a sheet with a zero in threads, separation, deadline or budget prints no row
pub printed_rows_are_reported : (s rest : List ℕ) → verdict_text s ≡ 0x30 ∷ rest → (i : ℕ) → i < (reading s).1.count → Reported (row_at (reading s).1 i)
printed_rows_are_reported s rest t = by_outcome s (read_is_reported s) (λ k p e. absurd (no_row_zero k p rest (sym t ∙ refused_prints_one_line s k p e)))
