-- Every refusal of the writer is one of the table's, and beside it the buffer is as it was. Assumes nothing.
use Rattle.basis.specs.Prelude.{ℕ, zero, suc, ◌<◌, ◌≡◌, refl, ◌∙◌, Bool, true, false, List, arith, length}
use Rattle.writer.proofs.Names.{put_refused, Outcome, accepted, needed, or_else, refused, first_of, pick, written_by, Sheet, legal, held_by, part_in, check_sheet, label_at, label_lies, write_sheet, sheet_bytes}
use Rattle.basis.proofs.Lent.{written_kept}
use Rattle.writer.specs.Listed.{SheetRefusal, illegal_sheet, bad_label, no_room}

-- the first refusal among some is that of one of them
label_refusal : (s labels : List ℕ) (n k p : ℕ) → first_of n (label_at s labels) ≡ refused k p → (k ≡ 6) × (p < n)
unfolding first_of label_at
label_refusal s labels zero k p e = let z : ◌≡◌ {A = ℕ} 0 1 = cc in absurd (omega arith)
label_refusal s labels (suc n) k p e = go (label_refusal s labels n k p) (first_of n (label_at s labels)) refl e
  where
    one : (t : Bool) → pick t accepted (refused 6 n) ≡ refused k p → (k ≡ 6) × (p < suc n)
    one true f = let z : ◌≡◌ {A = ℕ} 0 1 = cc in absurd (omega arith)
    one false f = let q : n ≡ p = cc in (cc, omega arith)

    go : (first_of n (label_at s labels) ≡ refused k p → (k ≡ 6) × (p < n)) → (o : Outcome) → first_of n (label_at s labels) ≡ o → or_else o (label_at s labels n) ≡ refused k p → (k ≡ 6) × (p < suc n)
    go above accepted q f = one (label_lies s (part_in labels n)) f
    go above (refused a b) q f = let (x, y) = above (q ∙ f) in (x, omega arith)

check_refusal : (h : Sheet) (s labels : List ℕ) (k p : ℕ) → check_sheet h s labels ≡ refused k p → SheetRefusal h.count k p
unfolding check_sheet
check_refusal h s labels k p e = go (legal h) e
  where
    go : (t : Bool) → or_else (needed t 10) (first_of h.count (label_at s labels)) ≡ refused k p → SheetRefusal h.count k p
    go true f = let (x, y) = label_refusal s labels h.count k p f in bad_label x y
    go false f = illegal_sheet (cc) (cc)

pub sheet_refusal_is_listed : (h : Sheet) (s labels out : List ℕ) (k p : ℕ) → (write_sheet h s labels out).outcome ≡ refused k p → SheetRefusal h.count k p
unfolding write_sheet
sheet_refusal_is_listed h s labels out k p e = go (check_sheet h s labels) refl e
  where
    go : (o : Outcome) → check_sheet h s labels ≡ o → (written_by o (sheet_bytes (held_by h s labels)) out).outcome ≡ refused k p → SheetRefusal h.count k p
    go accepted q f = let (x, y) = put_refused (length (sheet_bytes (held_by h s labels))) (sheet_bytes (held_by h s labels)) out k p f in no_room x y
    go (refused a b) q f = check_refusal h s labels k p (q ∙ f)

-- nothing is written beside a refusal, and no byte is counted
pub nothing_beside_a_refusal : (h : Sheet) (s labels out : List ℕ) (k p : ℕ) → (write_sheet h s labels out).outcome ≡ refused k p
    → ((write_sheet h s labels out).count ≡ 0) × ((write_sheet h s labels out).lent ≡ out)
unfolding write_sheet
nothing_beside_a_refusal h s labels out k p e = written_kept (check_sheet h s labels) (sheet_bytes (held_by h s labels)) out k p e
