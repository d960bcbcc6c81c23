-- How long a line can be: any is whole in the buffer that a program lends. Assumes nothing.
use Rattle.basis.specs.Prelude.{ℕ, suc, ◌*◌, ◌≤◌, ◌<◌, ◌≡◌, refl, sym, subst, Bool, true, false, List, [], ◌∷◌, arith, length, get_or, take, get_or-take, length-append, length-take, length-replicate, eqb, lt-ltb}
use Rattle.watch.proofs.Names.{Outcome, accepted, refused, upto_below, has_job, code_of, Row, Job, Sheet, State, code, state_in, slot_in, given, next_codes, slot, slot_shows, decimal, digits, decimal_is_short, codes_text, slot_line, end_line, slot_number, refused_by, refused_slot, refused_file, file_name, written, part_is_text, no_codes, line_of, play_answer, played_slot, line_size, line_buffer, File}
use Rattle.records.proofs.Inside.Codes.{code_by_tests, code_is}
use Rattle.watch.specs.declared.ends.File.TheVariants as files

-- ---- the line of a slot that is done

-- a code is one digit
by_tests_small : (j w d r : Bool) → code_by_tests j w d r < 10
by_tests_small true true true r = omega arith
by_tests_small true true false true = omega arith
by_tests_small true true false false = omega arith
by_tests_small true false d r = omega arith
by_tests_small false w d r = omega arith

code_is_small : (row : Row) (ran : Bool) (before after : Job) → code_of row ran before after < 10
code_is_small row ran before after =
    subst (λ (c : ℕ). c < 10) (sym (code_is row ran before after)) (by_tests_small (has_job before) (has_job after) (eqb after.since row.deadline) ran)

digit_is_one : (n : ℕ) → n < 10 → length (decimal n) ≡ 1
unfolding decimal digits
digit_is_one n h = simp (lt-ltb n 10 h)

codes_are_short : (codes : List ℕ) → ((i : ℕ) → i < length codes → get_or codes i 0 < 10) → length (codes_text codes) ≡ length codes * 2
unfolding codes_text
codes_are_short [] s = refl
codes_are_short (c ∷ codes) s =
    simp length-append (omega (arith, digit_is_one c (s 0 (omega arith)), codes_are_short codes (λ i l. s (suc i) (omega arith))))

module _ (h : Sheet) (t : State) (rel : List ℕ) (k : ℕ) where
  -- the slot's number, and of each row a space and a digit
  pub slot_line_fits : (slot h t rel no_codes).outcome ≡ accepted → length (slot_line k (take h.count (slot h t rel no_codes).codes)) ≤ line_size
  unfolding slot next_codes slot_line
  slot_line_fits e =
      let shown = slot_shows h t rel (length no_codes) e in
      let cs : List ℕ = take h.count (next_codes h t rel no_codes) in
      let long : length cs ≤ h.count = rw length-take (omega arith) in
      let small : (i : ℕ) → i < length cs → get_or cs i 0 < 10 = (λ i l. rw (get_or-take h.count (next_codes h t rel no_codes) i 0 (omega arith), upto_below h.count (code (given h t rel)) no_codes 0 i (omega arith) (omega (arith, shown.long, shown.roomy))) (code_is_small _ _ _ _)) in
      rw e (simp length-append (omega (arith, decimal_is_short k, codes_are_short cs small, shown.long, shown.roomy)))

-- ---- the other lines

pub end_line_fits : (n : ℕ) → length (end_line n) ≤ line_size
unfolding end_line
end_line_fits n = simp length-append (omega (arith, decimal_is_short n))

refused_by_fits : (number place : ℕ) → length (refused_by number place) ≤ 49
unfolding refused_by
refused_by_fits number place = simp length-append (omega (arith, decimal_is_short number, decimal_is_short place))

pub refused_slot_fits : (k number row : ℕ) → length (refused_slot k number row) ≤ line_size
unfolding refused_slot slot_number
refused_slot_fits k number row = simp length-append (omega (arith, decimal_is_short k, refused_by_fits number row))

name_fits : (file : File) → length (file_name file) ≤ 8
unfolding file_name
name_fits files.Sheet = omega arith
name_fits files.Scenario = omega arith

pub refused_file_fits : (file : File) (number place : ℕ) → length (refused_file file number place) ≤ line_size
unfolding refused_file
refused_file_fits file number place = simp length-append (omega (arith, refused_by_fits number place, name_fits file))

-- the line of any slot that is played
pub played_line_fits : (h : Sheet) (t : State) (rel : List ℕ) (k : ℕ) → length (line_of h.count k (slot h t rel no_codes).outcome (slot h t rel no_codes).codes) ≤ line_size
unfolding line_of
played_line_fits h t rel k = go (slot h t rel no_codes).outcome refl
  where
    go : (o : Outcome) → (slot h t rel no_codes).outcome ≡ o → length (line_of h.count k o (slot h t rel no_codes).codes) ≤ line_size
    go accepted e = slot_line_fits h t rel k e
    go (refused a b) e = refused_slot_fits k a b

-- ---- what a program prints of the buffer that it lends is the whole line

buffer_long : length line_buffer ≡ line_size
buffer_long = length-replicate {A = ℕ} line_size 0

module _ (after : List ℕ) (n : ℕ) where
  pub end_is_printed : (slots : ℕ) → (after, n) ≡ written (end_line slots) line_buffer → take n after ≡ end_line slots
  end_is_printed slots e = part_is_text (end_line slots) line_buffer after n e (omega (arith, end_line_fits slots, buffer_long))

  pub refused_is_printed : (file : File) (number place : ℕ) → (after, n) ≡ written (refused_file file number place) line_buffer → take n after ≡ refused_file file number place
  refused_is_printed file number place e = part_is_text (refused_file file number place) line_buffer after n e (omega (arith, refused_file_fits file number place, buffer_long))

  pub slot_is_printed : (h : Sheet) (l rel : List ℕ) (k : ℕ) (o : Outcome) (l' : List ℕ) → play_answer o l' (after, n) ≡ played_slot h l rel k line_buffer
      → take n after ≡ line_of h.count k (slot h (state_in l) rel no_codes).outcome (slot h (state_in l) rel no_codes).codes
  unfolding played_slot slot_in
  slot_is_printed h l rel k o l' e =
      part_is_text _ line_buffer after n (λ i. ((e i).text, (e i).long)) (omega (arith, played_line_fits h (state_in l) rel k, buffer_long))
