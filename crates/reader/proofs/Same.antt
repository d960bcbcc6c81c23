-- Equal answers of the reader and of the labels. Assumes nothing.
use Rattle.std.specs.Prelude.{Result, Ok, Err}
use Rattle.basis.specs.Prelude.{ℕ, ◌≡◌, ap, List}
use denote.Ref.{Bor}
use Rattle.reader.proofs.Names.{Outcome, accepted, refused_by, refused_by_one_to_one, outcome, outcome_and_sheet, reading, shown, part, label_in, labels_in, read_into, Part, Parts, Sheet}
use Rattle.basis.specs.declared.refusal.Refusal.{Refusal}
use Rattle.basis.proofs.Same.{same, same_by, pair_same, outcome_same}

-- an answer stands for one value of the code
pub reading_one_to_one : (a b : Result Sheet Refusal) → outcome_and_sheet a ≡ outcome_and_sheet b → a ≡ b
reading_one_to_one (Ok h) (Ok g) e = ap Ok (ap (λ (x : Outcome × Sheet). x.1) e)
reading_one_to_one (Ok h) (Err r) e = let z : accepted ≡ refused_by r = ap (λ (x : Outcome × Sheet). x.0) e in cc
reading_one_to_one (Err r) (Ok h) e = let z : refused_by r ≡ accepted = ap (λ (x : Outcome × Sheet). x.0) e in cc
reading_one_to_one (Err r) (Err q) e = ap Err (refused_by_one_to_one r q (ap (λ (x : Outcome × Sheet). x.0) e))

-- `read`
pub read_same : (s : List ℕ) (a b : Result Sheet Refusal) → outcome_and_sheet a ≡ reading s → outcome_and_sheet b ≡ reading s → a ≡ b
read_same s = same_by outcome_and_sheet reading_one_to_one (reading s)

-- `label`: the same place in memory, and the same bytes
pub label_same : (s : Bor (List ℕ)) (i : ℕ) (a b : Bor (List ℕ)) → shown a ≡ part s (label_in s.now i) → shown b ≡ part s (label_in s.now i) → (a.ref_ptr ≡ b.ref_ptr) × (a.now ≡ b.now)
label_same s i a b = pair_same (part s (label_in s.now i)) a.ref_ptr b.ref_ptr a.now b.now

-- of the part that is a label
pub label_part_same : (s : List ℕ) (i : ℕ) (a b : Part) → a ≡ label_in s i → b ≡ label_in s i → a ≡ b
label_part_same s i = same (label_in s i)

-- `label_parts`
pub label_parts_same : (s : List ℕ) (a b : Parts) → a.parts ≡ labels_in s → b.parts ≡ labels_in s → a ≡ b
label_parts_same s a b e f = ap (λ (l : List Part). record { parts = l }) (same (labels_in s) a.parts b.parts e f)

-- `read_into`: the same outcome and the same lists
pub read_into_same : (s list labels : List ℕ) (a b : Result (Unit {0}) Refusal) (l b₁ l' b₂ : List ℕ) → ◌≡◌ {A = Outcome × (List ℕ × List ℕ)} (outcome a, (l, b₁)) (read_into s list labels) → ◌≡◌ {A = Outcome × (List ℕ × List ℕ)} (outcome b, (l', b₂)) (read_into s list labels)
    → (a ≡ b) × (l ≡ l') × (b₁ ≡ b₂)
read_into_same s list labels a b l b₁ l' b₂ e f =
    let (o, g) = outcome_same (read_into s list labels) a b (l, b₁) (l', b₂) e f in
    (o, ap (λ (x : List ℕ × List ℕ). x.0) g, ap (λ (x : List ℕ × List ℕ). x.1) g)
