-- What the functions inside the reader and the writer answer; no promise of a public function speaks of them.
use Rattle.std.specs.Prelude.{◌≡◌, ◌++◌, Result, Ok, Err}
use Rattle.basis.specs.Prelude.{ℕ, List, [], length, take, drop, eqb}
use Rattle.basis.specs.Words.{pick}
use Rattle.basis.specs.Refusals.{told}
use Rattle.basis.specs.Readers.{Step, ok, refuse}
use Rattle.basis.specs.declared.refusal.Refusal.{Refusal}
use Rattle.numbers.specs.Numbers.{spell}
use Rattle.scenario.specs.Form.{Held, no_releases}

-- The slots that were read are so many, or they are refused.
abbrev pub Counted : Step Held → Result ℕ Refusal → Type 0
Counted x (Ok k) = (y : Held) × (n : ℕ) × (x ≡ ok y n) × (y.slots ≡ k)
Counted x (Err r) = x ≡ refuse (told r).0 (told r).1

-- What was read has come into lent entries, and the place after it is answered. Nothing is said of the entries beside a refusal.
abbrev pub Landed : Step (List ℕ) → Result ℕ Refusal → List ℕ → Type 0
Landed x (Ok n) entries = x ≡ ok entries n
Landed x (Err r) entries = x ≡ refuse (told r).0 (told r).1

-- As many zeros stand at the front of a list as what was read has entries.
abbrev pub Fills : Step Held → List ℕ → Type 0
Fills (ok x n) l = take (length x.entries) l ≡ no_releases (length x.entries)
Fills (refuse number place) l = ⊥

-- The list with what was read at its front.
abbrev pub fill_by : Step Held → List ℕ → List ℕ
fill_by (ok x n) l = x.entries ++ drop (length x.entries) l
fill_by (refuse number place) l = l

-- The bytes of the entry of row i.
unfoldable pub entry_bytes : ℕ → ℕ → List ℕ
entry_bytes i v = pick (eqb v 0) [] (spell i ++ spell v)
