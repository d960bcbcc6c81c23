-- How short an accepted sheet can be: six bytes before its rows, and six for each. Assumes nothing.
use Rattle.basis.specs.Prelude.{ℕ, zero, suc, ◌+◌, ◌*◌, ◌≤◌, ◌≡◌, List, arith, length}
use Rattle.reader.proofs.Names.{longest_label, most_processors, most_rows, accepted, ok, enough, after_ok, ok_same, enough_ok, up_to, bounded, Entry, entry_label, label_by, label, entry, entries_by, entries, reading}
use Rattle.reader.proofs.Inside.LabelPlaces.{rowed, whole}
use Rattle.reader.proofs.Inside.Heads.{headed}
use Rattle.reader.proofs.Inside.Plain.{plain_ok}
use Rattle.reader.proofs.LegalSheets.{accepted_read}

-- a label: its length, and a byte at least
label_bytes_lem : (s : List ℕ) (at : ℕ) (bs : List ℕ) (n : ℕ) → label s at ≡ ok bs n → at + 2 ≤ n
unfolding label_by
label_bytes_lem s at bs n e =
    after_ok (up_to longest_label 6 6 s at) _ e λ k st e₁ e₂.
    after_ok (enough k s st) _ e₂ λ u m e₃ e₄.
    omega (arith, bounded longest_label 6 6 s at k st e₁, (enough_ok k s st u m e₃).1, (plain_ok k s m bs n e₄).next)

-- rows: each a label, and four numbers
entries_bytes_lem : (m k : ℕ) (s : List ℕ) (at : ℕ) (es : List Entry) (n : ℕ) → entries m k s at ≡ ok es n → at ≤ length s → (at + k * 6 ≤ n) × (n ≤ length s)
unfolding entries_by
entries_bytes_lem m zero s at es n e h = let (_, en) = ok_same e in omega arith
entries_bytes_lem m (suc k) s at es n e h =
    after_ok (entry m s at) _ e λ x q e₁ e₂.
    after_ok (entries m k s q) _ e₂ λ gs l e₃ e₄.
    let one = rowed m s at x q e₁ in
    let rest = entries_bytes_lem m k s q gs l e₃ one.inside in
    omega (arith, label_bytes_lem s at (entry_label x) one.from one.labelled, (ok_same e₄).1)

-- a whole sheet
pub accepted_is_not_shorter : (s : List ℕ) → (reading s).0 ≡ accepted → 6 + (reading s).1.count * 6 ≤ length s
accepted_is_not_shorter s e =
    let (h, n, q) = accepted_read s e in
    let w = whole s h n q in
    let t = headed s w.top w.from w.before in
    let m = bounded most_processors 4 4 s 4 _ _ t.processors in
    let c = bounded most_rows 5 5 s _ _ _ t.count in
    let all = entries_bytes_lem w.top.processors w.top.count s w.from h.entries w.to w.all c.in_bytes in
    rw q (omega arith)
