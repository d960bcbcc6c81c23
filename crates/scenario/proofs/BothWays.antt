-- Both ways, over the promises: a list that is written and read is the list again, a file that is read and written is its very bytes, and so each list has one file and each accepted file one list. Assumes nothing.
use Rattle.basis.specs.Prelude.{ℕ, ◌*◌, ◌/◌, ◌≤◌, ◌%◌, ◌≡◌, refl, sym, ap, ◌∙◌, Bool, true, mul-div_cancel, mul-mod_left, List, false, arith, length, get_or, take, ltb, div-add-mod', leb, sets, le-ltb, ltb-false, eq-eqb, leb-true}
use Rattle.scenario.proofs.Names.{put_where_room, written_whole, wrote, first_at, Bytes, Step, ok, refuse, accepted, refused, first_of, pick, Answer, answer, filled_by, nothing_by, written_by, check_list, check_whole, over_at, over_budget, read_scenario, write_scenario, Held, budget_at, scenario, file_of, scenario_bytes, legal_is, legal, Sheet}
use Rattle.basis.proofs.Inside.FirstRefusal.{all_accepted_lem}
use Rattle.basis.proofs.Inside.Stores.{sets_front}
use Rattle.scenario.proofs.Inside.Checks.{checked_legal, checked_even, checked_entries}
use Rattle.scenario.proofs.ReadIsWritten.{read_is_written}
use Rattle.scenario.proofs.WrittenIsRead.{Fits, written_is_read}

-- ---- the checks and the facts

-- an accepted list fits the sheet
pub checked_fits : (h : Sheet) (l : List ℕ) → check_list h l ≡ accepted → Fits h (length l / h.count) l
unfolding over_at over_budget
checked_fits h l e = record {
  whole = sym (omega (arith, div-add-mod' (length l) h.count, checked_even h l e));
  not_over = λ i b. go i (ltb (budget_at h (i % h.count)) (get_or l i 0)) refl (first_at (length l) (over_at h l) (checked_entries h l e) i b);
}
  where
    go : (i : ℕ) (t : Bool) → ltb (budget_at h (i % h.count)) (get_or l i 0) ≡ t → pick t (refused 12 (i % h.count)) accepted ≡ accepted → get_or l i 0 ≤ budget_at h (i % h.count)
    go i true q f = let z : ◌≡◌ {A = ℕ} 0 1 = cc in absurd (omega arith)
    go i false q f = ltb-false (budget_at h (i % h.count)) (get_or l i 0) q

-- and a list that fits is accepted
pub fits_checked : (h : Sheet) (k : ℕ) (l : List ℕ) → legal h ≡ true → Fits h k l → check_list h l ≡ accepted
unfolding check_list check_whole over_at over_budget
fits_checked h k l fine f =
    let even : length l % h.count ≡ 0 = ap (λ (m : ℕ). m % h.count) f.whole ∙ mul-mod_left k h.count in
    let all : first_of (length l) (over_at h l) ≡ accepted =
    all_accepted_lem (length l) (over_at h l) (λ i b. ap (λ (t : Bool). pick t (refused 12 (i % h.count)) accepted) (le-ltb (budget_at h (i % h.count)) (get_or l i 0) (f.not_over i b))) in
    ap (λ (t : Bool). pick t (check_whole h l) (refused 10 0)) fine
    ∙ ap (λ (t : Bool). pick t (first_of (length l) (over_at h l)) (refused 11 0)) (eq-eqb (length l % h.count) 0 even) ∙ all

-- ---- list, bytes, list

-- the bytes that were written, read into any list that is long enough, give the list and its slots
pub list_comes_back : (h : Sheet) (l out l' : List ℕ) → (write_scenario h l out).outcome ≡ accepted → length l ≤ length l'
    → read_scenario h (take (write_scenario h l out).count (write_scenario h l out).lent) l' ≡ answer accepted (length l / h.count) (sets l' 0 l)
unfolding read_scenario write_scenario
list_comes_back h l out l' e r =
    let w = wrote (check_list h l) (file_of h l) out e in
    let fine : legal h ≡ true = checked_legal h l w.checked in
    let read : scenario h (file_of h l) 0 ≡ ok (record { slots = length l / h.count; entries = l }) (length (file_of h l)) =
    written_is_read h (legal_is h fine) (length l / h.count) l (checked_fits h l w.checked) in
    ap (λ (s : List ℕ). pick (legal h) (filled_by (scenario h s 0) l') (nothing_by (refused 10 0) l')) w.bytes
    ∙ ap (λ (t : Bool). pick t (filled_by (scenario h (file_of h l) 0) l') (nothing_by (refused 10 0) l')) fine
    ∙ ap (λ (x : Step Held). filled_by x l') read
    ∙ put_where_room (length l / h.count) l l' r

-- ---- bytes, list, bytes

-- what the reader that accepts has done
record HasRead (h : Sheet) (s l : List ℕ) : Type 0 where
  legally : legal h ≡ true
  held : Held
  end : ℕ
  is : scenario h s 0 ≡ ok held end
  room : length held.entries ≤ length l
  told : read_scenario h s l ≡ answer accepted held.slots (sets l 0 held.entries)

has_read : (h : Sheet) (s l : List ℕ) → (read_scenario h s l).outcome ≡ accepted → HasRead h s l
unfolding read_scenario
has_read h s l e = legally (legal h) refl e
  where
    put : (x : Held) (n : ℕ) (t : Bool) → legal h ≡ true → scenario h s 0 ≡ ok x n → leb (length x.entries) (length l) ≡ t
        → (pick {A = Answer} t (answer accepted x.slots (sets l 0 x.entries)) (nothing_by (refused 15 0) l)).outcome ≡ accepted → HasRead h s l
    put x n true q g c f = record {
      legally = q;
      held = x;
      end = n;
      is = g;
      room = leb-true _ _ c;
      told =
          ap (λ (t : Bool). pick t (filled_by (scenario h s 0) l) (nothing_by (refused 10 0) l)) q
          ∙ ap (λ (y : Step Held). filled_by y l) g
          ∙ ap (λ (t : Bool). pick {A = Answer} t (answer accepted x.slots (sets l 0 x.entries)) (nothing_by (refused 15 0) l)) c;
    }
    put x n false q g c f = let z : ◌≡◌ {A = ℕ} 0 1 = cc in absurd (omega arith)

    go : (x : Step Held) → legal h ≡ true → scenario h s 0 ≡ x → (filled_by x l).outcome ≡ accepted → HasRead h s l
    go (ok x n) q g f = put x n (leb (length x.entries) (length l)) q g refl f
    go (refuse k p) q g f = let z : ◌≡◌ {A = ℕ} 0 1 = cc in absurd (omega arith)

    legally : (t : Bool) → legal h ≡ t → (pick t (filled_by (scenario h s 0) l) (nothing_by (refused 10 0) l)).outcome ≡ accepted → HasRead h s l
    legally true q f = go (scenario h s 0) q refl f
    legally false q f = let z : ◌≡◌ {A = ℕ} 0 1 = cc in absurd (omega arith)

-- the slots that were read, written into any buffer that is long enough, give the very bytes
pub file_comes_back : (h : Sheet) (s l out : List ℕ) → Bytes s → (read_scenario h s l).outcome ≡ accepted → length s ≤ length out
    → write_scenario h (take ((read_scenario h s l).count * h.count) (read_scenario h s l).lent) out ≡ answer accepted (length s) (sets out 0 s)
unfolding write_scenario
file_comes_back h s l out bytes e r =
    let w = has_read h s l e in
    let x : Held = w.held in
    let (same, fits) = read_is_written s bytes h x w.end w.is in
    let back : take ((read_scenario h s l).count * h.count) (read_scenario h s l).lent ≡ x.entries =
    ap (λ (a : Answer). take (a.count * h.count) a.lent) w.told ∙ ap (λ (k : ℕ). take k (sets l 0 x.entries)) (sym fits.whole) ∙ sets_front l x.entries w.room in
    let k : length x.entries / h.count ≡ x.slots = ap (λ (m : ℕ). m / h.count) fits.whole ∙ mul-div_cancel x.slots (legal_is h w.legally).some_rows in
    let ws : file_of h x.entries ≡ s = ap (λ (j : ℕ). scenario_bytes h.count j x.entries) k ∙ sym same in
    ap (λ (y : List ℕ). written_by (check_list h y) (file_of h y) out) back
    ∙ ap (λ (y : List ℕ). written_by (check_list h x.entries) y out) ws
    ∙ written_whole (check_list h x.entries) s out (fits_checked h x.slots x.entries w.legally fits) r

-- two accepted files with equal lists are equal
pub one_file_each : (h : Sheet) (s t : List ℕ) → Bytes s → Bytes t → (x : Held) (n m : ℕ) → scenario h s 0 ≡ ok x n → scenario h t 0 ≡ ok x m → s ≡ t
one_file_each h s t bs bt x n m e f = (read_is_written s bs h x n e).0 ∙ sym (read_is_written t bt h x m f).0
