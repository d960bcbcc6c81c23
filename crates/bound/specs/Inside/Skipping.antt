-- Which lengths may be skipped: what the functions of the search say of lengths that fail. No promise of a public function speaks of it.
use Rattle.std.specs.Prelude.{Option, None, Some, ◌+◌, ◌*◌, ◌-◌, ◌≤◌, ◌<◌, ◌≡◌}
use Rattle.basis.specs.Prelude.{ℕ, min, Bool, true, false, leb, ltb}
use Rattle.basis.specs.Limits.{most_processors}
use Rattle.basis.specs.Words.{pick}
use Rattle.sheet.specs.Legal.{row_at}
use Rattle.sheet.specs.declared.row.Row.{Row}
use Rattle.sheet.specs.declared.row.Sheet.{Sheet}
use Rattle.bound.specs.Quantities.{widest_separation, slots, plus, minus, lesser, left, on, Duration, Amount}
use Rattle.bound.specs.Inside.Parts.{fine, part_of, lesser_fine, Fine, FineAmount}
use Rattle.bound.specs.Test.{T, C, X, x, W, duration_of, amounts, room, passes}
use Rattle.bound.specs.Inside.Ready.{Length, Above}
use Rattle.bound.specs.declared.pace.Pace.{Pace}
use Rattle.bound.specs.declared.sum.Added.{Added}
use Rattle.bound.specs.declared.stretch.Stretch.{Stretch}
use Rattle.bound.specs.declared.stretch.Ends.{Ends}

-- r is further than L, and every length from L on that it steps over fails.
pub record Skips (h : Sheet) (R : ℕ → Duration) (k : ℕ) (L r : Duration) : Type 0 where
  pub further : L.0 < r.0
  pub fails : (l : ℕ) → L.0 ≤ l → l < r.0 → passes h R k (slots l) ≡ false

-- No length of row k before r passes: r is a length to begin with.
pub record Starts (h : Sheet) (R : ℕ → Duration) (k : ℕ) (r : Duration) : Type 0 where
  pub low : (row_at h k).budget ≤ r.0
  pub fails : (l : ℕ) → (row_at h k).budget ≤ l → l < r.0 → passes h R k (slots l) ≡ false

-- The length that the bound of a row above gives a row on m processors to begin with. Where the one above is no wider: as many slots after the budget as there, if its
-- budget is no larger; its bound, if the two never run together. Else the budget.
unfoldable pub carried_of : ℕ → Row → Row → Duration → Duration
carried_of m row above R =
    pick (ltb row.threads above.threads) (C row)
    (pick (leb above.budget row.budget) (plus (minus R (C above)) (C row))
    (pick (ltb m (above.threads + row.threads)) R (C row)))

-- What the trial of a length tells: it passes, or the next length that can. What is spare is a guide only.
abbrev pub Says : Sheet → (ℕ → Duration) → ℕ → Duration → Option (Duration × FineAmount) → Type 0
Says h R k L None = passes h R k L ≡ true
Says h R k L (Some t) = Skips h R k L t.0

-- The slots for which a row's duration grows by one with each slot that the length grows by: what is left of its present job, and what X cut off.
unfoldable pub stay_of : Row → Duration → Duration → Duration → Duration
stay_of row R L X = plus (minus (C row) (left (x row R L) (T row))) (minus (W row (x row R L)) X)

-- A pace with a row more: where the row stays, its threads count, and the pace holds no longer than the row stays.
unfoldable pub joined : Pace → ℕ → Duration → Pace
joined p g s = pick (ltb 0 s.0) (record { width = p.width + g; stay = lesser p.stay s }) p

-- The amounts of the first n rows grow at this pace: by its width with each slot that the length grows by, while it stays.
pub record Paces (h : Sheet) (R : ℕ → Duration) (k : ℕ) (L : Duration) (n : ℕ) (p : Pace) : Type 0 where
  pub width : p.width ≤ n * most_processors
  pub stay : p.stay.0 ≤ widest_separation
  pub grows : (d : ℕ) → d ≤ p.stay.0 → (amounts h R k L n).0 + p.width * d ≤ (amounts h R k (plus L (slots d)) n).0

-- These rows are added, the first above row k: the sum of their amounts, and the pace at which it grows.
pub record Adds (h : Sheet) (R : ℕ → Duration) (k : ℕ) (L : Duration) (a : Added) : Type 0 where
  pub within : a.rows ≤ k
  pub sum : a.sum ≡ amounts h R k L a.rows
  pub pace : Paces h R k L a.rows a.pace

-- The sum of rows that are added reaches q × X.
abbrev pub Fills : Sheet → ℕ → Duration → Added → Type 0
Fills h k L a = (room h k L).0 ≤ a.sum.0

-- So many slots are within a pace's stay, and what q processors take in them beyond the pace's width is within an amount.
pub record Steep (over : Amount) (q : ℕ) (p : Pace) (r : Duration) : Type 0 where
  pub within_stay : r.0 ≤ p.stay.0
  pub within_over : r.0 * (q - p.width) ≤ over.0

-- The duration of a row above by its share, in 256ths: its budget of every separation of x, and at most X.
unfoldable pub share_of : Row → Duration → Duration → Duration → Fine
share_of row R L X = lesser_fine (part_of (x row R L) row.budget (T row)) (fine X)

-- An amount in 256ths that the first n rows reach in every length up to L, in proportion to X.
pub record Shares (h : Sheet) (R : ℕ → Duration) (k : ℕ) (L : Duration) (n : ℕ) (a : FineAmount) : Type 0 where
  pub small : a.0 ≤ n * (256 * (widest_separation * most_processors))
  pub reached : (l : ℕ) → (row_at h k).budget ≤ l → l ≤ L.0 → (X h k (slots l)).0 * a.0 ≤ (X h k L).0 * (256 * (amounts h R k (slots l) n).0)

-- The straight line from a to b is nowhere above f: not where d slots of its way are passed and c are left.
abbrev pub Under : ℕ → ℕ → ℕ → (ℕ → ℕ) → Type 0
Under e a b f = (c d : ℕ) → c + d ≡ e → c * a + d * b ≤ (c + d) * f d

-- The slots from the one length of a stretch to the other.
abbrev pub way : Stretch → ℕ
way s = s.to.0 - s.from.0

-- A stretch from one length of row k to a longer one, with the X of each.
pub record Stretches (h : Sheet) (k : ℕ) (s : Stretch) : Type 0 where
  pub from : Length h k s.from
  pub to : Length h k s.to
  pub further : s.from.0 < s.to.0
  pub early : s.early ≡ X h k s.from
  pub late : s.late ≡ X h k s.to

-- A row above with its bound, along a stretch of a row with this q.
pub record Along (row : Row) (R : Duration) (s : Stretch) (q : ℕ) : Type 0 where
  pub from : Above row R s.from
  pub to : Above row R s.to
  pub further : s.from.0 < s.to.0
  pub late : s.late.0 ≡ s.early.0 + way s
  pub most_early : s.early.0 ≤ widest_separation
  pub most_late : s.late.0 ≤ widest_separation
  pub most_q : q ≤ most_processors

-- The amount of a row above, d slots on from the start of a stretch.
abbrev pub amount_along : Row → Duration → Stretch → ℕ → ℕ → Amount
amount_along row R s q d = on (duration_of row R (plus s.from (slots d)) (plus s.early (slots d))) (min row.threads q)

-- Two ends, in 256ths: along a stretch the amount of a row above is never below the straight line between them.
pub record RowMeets (row : Row) (R : Duration) (s : Stretch) (q : ℕ) (ends : Ends) : Type 0 where
  pub small_now : ends.now.0 ≤ 256 * (widest_separation * most_processors)
  pub small_then : ends.then.0 ≤ 256 * (widest_separation * most_processors)
  pub under : Under (way s) ends.now.0 ends.then.0 (λ d. 256 * (amount_along row R s q d).0)

-- Two ends, in 256ths: along a stretch the amounts of the first n rows are never below the straight line between them.
pub record RowsMeet (h : Sheet) (R : ℕ → Duration) (k : ℕ) (s : Stretch) (n : ℕ) (ends : Ends) : Type 0 where
  pub small_now : ends.now.0 ≤ n * (256 * (widest_separation * most_processors))
  pub small_then : ends.then.0 ≤ n * (256 * (widest_separation * most_processors))
  pub under : Under (way s) ends.now.0 ends.then.0 (λ d. 256 * (amounts h R k (plus s.from (slots d)) n).0)

-- A row's present separation lasts to the end of a stretch.
unfoldable pub lasts : Row → Duration → Stretch → Bool
lasts row R s = leb ((left (x row R s.from) (T row)).0 + way s) row.separation

-- What is told of the lengths from a to b: that each of them fails, or nothing.
abbrev pub AllFail : Sheet → (ℕ → Duration) → ℕ → ℕ → ℕ → Bool → Type 0
AllFail h R k a b true = (l : ℕ) → a ≤ l → l ≤ b → passes h R k (slots l) ≡ false
AllFail h R k a b false = Unit {0}
