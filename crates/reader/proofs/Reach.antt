-- The reader is tame: how long a sheet can be, that no later byte counts, and that its refusals are the table's. Assumes nothing.
use Rattle.basis.specs.Prelude.{ℕ, zero, suc, ◌+◌, ◌*◌, ◌≤◌, ◌<◌, ◌≡◌, refl, ap, ◌⊎◌, inl, inr, List, [], ◌∷◌, arith, mul-le-mul_right, length, take, take_all, get_or-take, length-take-le}
use Rattle.reader.proofs.Names.{most_groups, most_processors, most_rows, longest_label, most_separation, refused, Step, ok, refuse, Reader, ◌>>=◌, give, enough, end, marked, lt_or_le, up_to, spelt, width, bounded, Held, mark_bytes, is_plain, plain, label_by, label, entry_by, entry, entries_by, entries, body_by, body, head_by, head, sheet_by, sheet, reading_of, reading}
use Rattle.basis.proofs.Tame.{BytesRefusal, Tame, bytes_refusal_as, tame_give, tame_more, tame_then, tame_tested, tame_enough, tame_end, tame_marked}
use Rattle.numbers.proofs.Inside.Reach.{tame_up_to, width_grows}
use Rattle.reader.specs.Longest.{longest_row, longest_sheet}
use Rattle.reader.proofs.Inside.LabelPlaces.{whole}
use Rattle.reader.proofs.Inside.Heads.{headed}

-- a number from 1 to most, where limit is no less, and what follows it
tame_number : {A : Type 0} (limit most under beyond : ℕ) (f : ℕ → Reader A) {o b c : ℕ} → most ≤ limit → 3 ≤ under → under ≤ 9 → 3 ≤ beyond → beyond ≤ 9
    → ((v : ℕ) → v ≤ most → Tame o (f v) b c) → most_groups ≤ width limit + b → Tame o (up_to most under beyond >>= f) (width limit + b) (width limit + c)
tame_number limit most under beyond f h a b c d U g =
    tame_then (up_to most under beyond) f (tame_more most_groups (width limit) (omega arith) (width_grows most limit h) (tame_up_to most under beyond a b c d))
    (λ s at v n l e. U v (bounded most under beyond s at v n e).not_over) g

-- what the limits have to be: a number has no more groups than it and what must follow it can take
groups_fit : (most_groups ≤ width longest_label + longest_label) × (most_groups ≤ width most_separation) × (most_groups ≤ most_rows * longest_row)
unfolding longest_row width spelt
groups_fit = omega arith

tame_plain : {o : ℕ} (k : ℕ) → Tame o (plain k) k k
unfolding plain
tame_plain zero = tame_give []
tame_plain (suc k) =
    tame_more (suc k) (suc k) (omega arith) (omega arith) (tame_tested is_plain (λ b. plain k >>= (λ bs. give (b ∷ bs))) 6
    (λ p b. tame_then (plain k) _ (tame_plain k) (λ s at bs n l e. tame_give (b ∷ bs)) (omega arith)) (omega arith) (omega arith))

tame_label : {o : ℕ} → Tame o label (width longest_label + longest_label) (width longest_label + longest_label)
unfolding label_by
tame_label =
    tame_number longest_label longest_label 6 6 _ (omega arith) (omega arith) (omega arith) (omega arith) (omega arith)
    (λ k few. tame_more longest_label longest_label (omega arith) (omega arith) (tame_then (enough k) (λ u. plain k) (tame_enough k) (λ s at u n l e. tame_plain k) (omega arith)))
    groups_fit.0

-- threads, separation, deadline, budget
tame_entry : {o : ℕ} (m : ℕ) → m ≤ most_processors → Tame o (entry m) longest_row longest_row
unfolding entry_by longest_row
tame_entry m few =
    tame_then label _ tame_label
    (λ s at l n k e.
    tame_number most_processors m 7 8 _ few (omega arith) (omega arith) (omega arith) (omega arith)
    (λ t h₁. tame_number most_separation most_separation 7 8 _ (omega arith) (omega arith) (omega arith) (omega arith) (omega arith)
    (λ T h₂. tame_number most_separation T 7 8 _ h₂ (omega arith) (omega arith) (omega arith) (omega arith)
    (λ D h₃. tame_more (width most_separation) (width most_separation) (omega arith) (omega arith)
    (tame_number most_separation D 7 8 _ (omega arith) (omega arith) (omega arith) (omega arith) (omega arith)
    (λ C h₄. tame_give (record { label = l; row = record { threads = t; separation = T; deadline = D; budget = C } })) (omega (arith, groups_fit))))
    (omega (arith, groups_fit))) (omega (arith, groups_fit))) (omega (arith, groups_fit))) (omega arith)

tame_entries : {o : ℕ} (m n : ℕ) → m ≤ most_processors → Tame o (entries m n) (n * longest_row) (n * longest_row)
unfolding entries_by
tame_entries m zero few = tame_more (0 * longest_row) (0 * longest_row) (omega arith) (omega arith) (tame_give [])
tame_entries m (suc n) few =
    tame_more (suc n * longest_row) (suc n * longest_row) (omega arith) (omega arith) (tame_then (entry m) _ (tame_entry m few)
    (λ s at e k l q. tame_then (entries m n) _ (tame_entries m n few) (λ s₁ at₁ es k₁ l₁ q₁. tame_give (e ∷ es)) (omega arith)) (omega arith))

tame_head : {o : ℕ} → Tame o head (length mark_bytes + (width most_processors + (width most_rows + most_groups))) (length mark_bytes + (width most_processors + (width most_rows + 0)))
unfolding head_by
tame_head =
    tame_then (marked mark_bytes) _ (tame_marked mark_bytes)
    (λ s at u n l e.
    tame_number most_processors most_processors 4 4 _ (omega arith) (omega arith) (omega arith) (omega arith) (omega arith)
    (λ m h₁. tame_number most_rows most_rows 5 5 _ (omega arith) (omega arith) (omega arith) (omega arith) (omega arith)
    (λ k h₂. tame_more most_groups 0 (omega arith) (omega arith) (tame_give (record { processors = m; count = k }))) (omega arith)) (omega arith)) (omega arith)

tame_body : {o : ℕ} (m n : ℕ) → m ≤ most_processors → n ≤ most_rows → Tame o (body m n) (most_rows * longest_row + 1) (most_rows * longest_row)
unfolding body_by
tame_body m n few h =
    let most : n * longest_row ≤ most_rows * longest_row = mul-le-mul_right longest_row h in
    tame_more (most_rows * longest_row + 1) (most_rows * longest_row) (omega arith) (omega arith) (tame_then (entries m n) _ (tame_entries m n few)
    (λ s at es k l e. tame_then end _ tame_end (λ s₁ at₁ u k₁ l₁ q. tame_more 1 0 (omega arith) (omega arith) (tame_give (record { processors = m; entries = es }))) (omega arith))
    (omega arith))

-- a whole sheet looks at one byte more than the longest has
pub tame_sheet : Tame 0 sheet (longest_sheet + 1) longest_sheet
unfolding sheet_by head_by longest_sheet
tame_sheet =
    tame_more (longest_sheet + 1) longest_sheet (omega arith) (omega arith) (tame_then head _ tame_head
    (λ s at h n l e.
    let r = headed s h n e in
    tame_body h.processors h.count (bounded most_processors 4 4 _ _ _ _ r.processors).not_over (bounded most_rows 5 5 _ _ _ _ r.count).not_over)
    (omega (arith, groups_fit)))

-- the longest sheet of the table
pub longest_is_870 : longest_sheet ≡ 870
unfolding longest_sheet longest_row width spelt
longest_is_870 = refl

-- an accepted sheet is no longer
pub accepted_is_short : (s : List ℕ) (h : Held) (n : ℕ) → sheet s 0 ≡ ok h n → length s ≤ longest_sheet
accepted_is_short s h n e = let w = whole s h n e in omega (arith, (tame_sheet.ends s 0 h n (omega arith) e).0)

-- one byte more than that is enough to read
pub first_bytes_decide : (s : List ℕ) → reading (take (longest_sheet + 1) s) ≡ reading s
first_bytes_decide s = ap reading_of (go (lt_or_le (longest_sheet + 1) (length s)))
  where
    go : (longest_sheet + 1 < length s) ⊎ (length s ≤ longest_sheet + 1) → sheet (take (longest_sheet + 1) s) 0 ≡ sheet s 0
    go (inl h) =
        let long : length (take (longest_sheet + 1) s) ≡ longest_sheet + 1 = length-take-le (longest_sheet + 1) s (omega arith) in
        tame_sheet.alike (longest_sheet + 1) (take (longest_sheet + 1) s) s
        (record { left = omega arith; right = omega arith; same = λ i l. get_or-take (longest_sheet + 1) s i 0 l }) 0 (omega arith)
    go (inr h) = ap (λ (t : List ℕ). sheet t 0) (take_all (longest_sheet + 1) s h)

-- a refusal of the reader is the table's: 1 to 9, at a place of the sheet, 0 for 1 and the length for 2
pub refusal_is_listed : (s : List ℕ) (k p : ℕ) → (reading s).0 ≡ refused k p → BytesRefusal s k p
refusal_is_listed s k p e = go (sheet s 0) refl e
  where
    go : (x : Step Held) → sheet s 0 ≡ x → (reading_of x).0 ≡ refused k p → BytesRefusal s k p
    go (ok h n) q f = let z : ◌≡◌ {A = ℕ} 0 1 = cc in absurd (omega arith)
    go (refuse j i) q f = bytes_refusal_as s (cc) (cc) (tame_sheet.refuses s 0 j i (omega arith) (omega arith) q)
