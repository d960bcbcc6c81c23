-- The last line is HOLDS exactly if the bytes are green, and then no job is ever late. Assumes nothing.
use Rattle.basis.specs.Prelude.{ℕ, zero, suc, ◌+◌, ◌<◌, ◌≡◌, refl, sym, ap, subst, ◌∙◌, Bool, true, false, ◌⊎◌, inl, inr, ◌↔◌, List, [], ◌∷◌, ◌++◌, append_assoc, arith, length, drop, length-append, drop_at}
use Rattle.dashboard.proofs.Names.{accepted, is_accepted, true_not_false, both_left, both_right, reading, Sheet, accepted_is_legal, passes, Word, result_of, holds, decimal, space, newline, result_words, line_start, line, holds_line, ending, refused_by, no_verdict, own_label, lines, board, verdict_text, EndsIn, LastLine, last_digit}
use Rattle.green.specs.Demand.{NoJobIsLate}
use Rattle.green.specs.Green.{green_of}
use Rattle.green.proofs.Theorem.{no_job_is_late}
use Rattle.dashboard.proofs.Outcomes.{accepted_prints_its_rows, refused_prints_one_line, by_outcome}

-- one list has one end of a length
ends_same : {A : Type 0} (x y a b : List A) → x ++ a ≡ y ++ b → length a ≡ length b → a ≡ b
ends_same x y a b e l =
    let n : length y ≡ length x = omega (arith, simp length-append at (ap length e)) in
    sym (drop_at x a (length x) refl) ∙ ap (drop (length x)) e ∙ drop_at y b (length x) n

module _ (label : ℕ → List ℕ) (result : ℕ → Word) where
  lines_end : (n : ℕ) → (lines label result n ≡ []) ⊎ EndsIn (lines label result n) newline
  unfolding lines line
  lines_end zero = inl refl
  lines_end (suc n) = inr (record {
    before = lines label result n ++ (line_start n (label n) ++ result_words (result n));
    whole = sym (append_assoc (lines label result n) (line_start n (label n) ++ result_words (result n)) newline);
  })

-- HOLDS or FAILS is the last line of a sheet's text
board_ends : (label : ℕ → List ℕ) (h : Sheet) → LastLine (board label h) (ending (holds passes h))
unfolding board
board_ends label h = record { before = lines label (result_of passes h) h.count; whole = refl; starts = lines_end label (result_of passes h) h.count }

ending_holds : (b : Bool) → ending b ≡ holds_line → b ≡ true
ending_holds true e = refl
ending_holds false e = let z : ◌≡◌ {A = ℕ} 0x46 0x48 = cc in absurd (omega arith)

ending_long : (b : Bool) → length (ending b) ≡ length holds_line
ending_long true = refl
ending_long false = refl

-- the line of a refusal ends in a digit
digit_is_not_holds : (x y : List ℕ) (d : ℕ) → d < 10 → x ++ ((0x30 + d) ∷ newline) ≡ y ++ holds_line → ⊥
digit_is_not_holds x y d l e =
    let hold : List ℕ = 0x48 ∷ 0x4F ∷ 0x4C ∷ 0x44 ∷ [] in
    let q : (0x30 + d) ∷ newline ≡ 0x53 ∷ newline = ends_same x (y ++ hold) ((0x30 + d) ∷ newline) (0x53 ∷ newline) (e ∙ sym (append_assoc y hold (0x53 ∷ newline))) refl in
    let z : 0x30 + d ≡ 0x53 = cc in
    omega arith

no_verdict_is_not_holds : (k p : ℕ) (y : List ℕ) → no_verdict k p ≡ y ++ holds_line → ⊥
unfolding no_verdict
no_verdict_is_not_holds k p y f =
    let (ds, d, small, e) = last_digit p in
    let front : List ℕ = refused_by k ++ space in
    digit_is_not_holds (front ++ ds) y d small
    (append_assoc front ds ((0x30 + d) ∷ newline) ∙ ap (λ (x : List ℕ). front ++ x) (sym (append_assoc ds ((0x30 + d) ∷ []) newline) ∙ ap (λ (x : List ℕ). x ++ newline) (sym e)) ∙ sym (append_assoc front (decimal p) newline) ∙ f)

-- where the text ends in HOLDS, the bytes are green
pub ends_in_holds_is_green : (s : List ℕ) → EndsIn (verdict_text s) holds_line → green_of s ≡ true
unfolding green_of
ends_in_holds_is_green s t =
    by_outcome s
    (λ e.
    let l = board_ends (own_label s) (reading s).1 in
    let all : Bool = holds passes (reading s).1 in
    let q = ends_same l.before t.before (ending all) holds_line (sym l.whole ∙ sym (accepted_prints_its_rows s e) ∙ t.whole) (ending_long all) in
    let yes : holds passes (reading s).1 ≡ true = ending_holds all q in
    rw (e, yes)) (λ k p e. absurd (no_verdict_is_not_holds k p t.before (sym (refused_prints_one_line s k p e) ∙ t.whole)))

green_is_accepted : (s : List ℕ) → green_of s ≡ true → ((reading s).0 ≡ accepted) × (holds passes (reading s).1 ≡ true)
unfolding green_of
green_is_accepted s g = (
  by_outcome s (λ e. e) (λ k p e. true_not_false (sym (both_left (is_accepted (reading s).0) (holds passes (reading s).1) g) ∙ ap is_accepted e)),
  both_right (is_accepted (reading s).0) (holds passes (reading s).1) g,
)

green_ends_in_holds : (s : List ℕ) → green_of s ≡ true → LastLine (verdict_text s) holds_line
green_ends_in_holds s g =
    let (e, all) = green_is_accepted s g in
    let l : LastLine (board (own_label s) (reading s).1) holds_line = subst (λ (b : Bool). LastLine (board (own_label s) (reading s).1) (ending b)) all (board_ends (own_label s) (reading s).1) in
    record { before = l.before; whole = accepted_prints_its_rows s e ∙ l.whole; starts = l.starts }

-- the last line is HOLDS exactly if the bytes are green
pub last_line_is_holds : (s : List ℕ) → LastLine (verdict_text s) holds_line ↔ (green_of s ≡ true)
last_line_is_holds s = (λ l. ends_in_holds_is_green s (record { before = l.before; whole = l.whole }), green_ends_in_holds s)

-- if the text ends in HOLDS, no job is ever late
pub holds_means_no_job_is_late : (s : List ℕ) → EndsIn (verdict_text s) holds_line → NoJobIsLate (reading s).1
holds_means_no_job_is_late s t =
    let (e, all) = green_is_accepted s (ends_in_holds_is_green s t) in
    no_job_is_late (reading s).1 (accepted_is_legal s e).0 all
