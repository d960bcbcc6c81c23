-- No scenario is longer than the longest of its slots, which is met, so a buffer of that size is never 15. Assumes nothing.
use Rattle.basis.specs.Prelude.{ℕ, zero, suc, ◌+◌, ◌*◌, ◌≤◌, ◌/◌, ◌≡◌, refl, sym, ap, ◌∙◌, Bool, true, List, false, replicate-append-replicate, [], ◌++◌, ◌∷◌, arith, take, length, drop, add-zero, take_at, replicate, zero-add, length-append, length-take, length-replicate, drop_at, sets, eqb, le-leb}
use Rattle.scenario.proofs.Names.{sum_grows, most_separation, Outcome, accepted, refused, pick, sum, width_grows, spell, spelt, width, Answer, answer, nothing_by, written_by, check_list, write_scenario, mark_bytes, longest_release, longest_scenario, longest_slot, file_of, releases_bytes, releases_in, scenario_bytes, slot_bytes, slots_bytes, Sheet}
use Rattle.scenario.proofs.Inside.Lengths.{width_few}
use Rattle.scenario.proofs.WrittenIsRead.{released_few}

-- the bytes of a release
release_long : (i v : ℕ) (rest : List ℕ) → length (spell i ++ (spell v ++ rest)) ≡ width i + (width v + length rest)
unfolding width
release_long i v rest = omega (arith, length-append (spell i) (spell v ++ rest), length-append (spell v) rest)

-- no slot count takes more than the largest one
count_short : (v : ℕ) → width v ≤ width most_separation
unfolding width spelt
count_short v = omega (arith, width_few v)

-- ---- no longer

releases_short : (i : ℕ) (l : List ℕ) → sum i longest_release + length (releases_bytes i l) ≤ sum (i + length l) longest_release
unfolding releases_bytes sum longest_release
releases_short i [] = let e : i + 0 ≡ i = add-zero i in omega (arith, ap (λ (k : ℕ). sum k longest_release) e)
releases_short i (v ∷ l) = go (eqb v 0) (releases_short (suc i) l)
  where
    same : suc i + length l ≡ i + suc (length l)
    same = omega arith

    go : (t : Bool) → sum (suc i) longest_release + length (releases_bytes (suc i) l) ≤ sum (suc i + length l) longest_release
        → sum i longest_release + length (pick t (releases_bytes (suc i) l) (spell i ++ (spell v ++ releases_bytes (suc i) l))) ≤ sum (i + suc (length l)) longest_release
    go true ih = omega (arith, ap (λ (k : ℕ). sum k longest_release) same)
    go false ih = omega (arith, ap (λ (k : ℕ). sum k longest_release) same, release_long i v (releases_bytes (suc i) l), count_short v)

slot_short_lem : (n : ℕ) (l : List ℕ) → length l ≤ n → length (slot_bytes l) ≤ longest_slot n
unfolding slot_bytes longest_slot sum width
slot_short_lem n l h =
    omega (arith, length-append (spell (releases_in l)) (releases_bytes 0 l), width_grows (releases_in l) n (omega (arith, released_few l)), releases_short 0 l, ap (λ (k : ℕ). sum k longest_release) (zero-add (length l)), sum_grows (length l) n longest_release h)

slots_short_lem : (n k : ℕ) (l : List ℕ) → length (slots_bytes n k l) ≤ k * longest_slot n
unfolding slots_bytes
slots_short_lem n zero l = omega arith
slots_short_lem n (suc k) l =
    omega (arith, length-append (slot_bytes (take n l)) (slots_bytes n k (drop n l)), slot_short_lem n (take n l) (omega (arith, length-take n l)), slots_short_lem n k (drop n l))

pub no_scenario_is_longer : (n k : ℕ) (l : List ℕ) → length (scenario_bytes n k l) ≤ longest_scenario n k
unfolding scenario_bytes longest_scenario
no_scenario_is_longer n k l = omega (arith, length-append mark_bytes (slots_bytes n k l), slots_short_lem n k l)

-- a buffer of that size is never too short
pub never_fifteen : (h : Sheet) (l out : List ℕ) → check_list h l ≡ accepted → longest_scenario h.count (length l / h.count) ≤ length out
    → (write_scenario h l out).outcome ≡ accepted
unfolding write_scenario
never_fifteen h l out e r =
    let room : length (file_of h l) ≤ length out = omega (arith, no_scenario_is_longer h.count (length l / h.count) l) in
    ap (λ (o : Outcome). (written_by o (file_of h l) out).outcome) e
    ∙ ap (λ (t : Bool). (pick {A = Answer} t (answer accepted (length (file_of h l)) (sets out 0 (file_of h l))) (nothing_by (refused 15 0) out)).outcome) (le-leb (length (file_of h l)) (length out) room)

-- ---- and as long as that: every row released in every slot, each for the largest separation

-- so many entries
abbrev all : ℕ → List ℕ
all j = replicate j most_separation

all_released : (j : ℕ) → releases_in (all j) ≡ j
unfolding releases_in
all_released zero = refl
all_released (suc j) = ap suc (all_released j)

all_releases : (i j : ℕ) → sum i longest_release + length (releases_bytes i (all j)) ≡ sum (i + j) longest_release
unfolding releases_bytes sum longest_release
all_releases i zero = omega (arith, ap (λ (k : ℕ). sum k longest_release) (add-zero i))
all_releases i (suc j) =
    let same : suc i + j ≡ i + suc j = omega arith in
    omega (arith, ap (λ (k : ℕ). sum k longest_release) same, release_long i most_separation (releases_bytes (suc i) (all j)), all_releases (suc i) j)

slot_long : (n : ℕ) → length (slot_bytes (all n)) ≡ longest_slot n
unfolding slot_bytes longest_slot sum width
slot_long n = omega (arith, length-append (spell (releases_in (all n))) (releases_bytes 0 (all n)), ap (λ (k : ℕ). length (spell k)) (all_released n), all_releases 0 n, ap (λ (k : ℕ). sum k longest_release) (zero-add n))

slots_long : (n k : ℕ) → length (slots_bytes n k (all (k * n))) ≡ k * longest_slot n
unfolding slots_bytes
slots_long n zero = omega arith
slots_long n (suc k) =
    let whole : suc k * n ≡ n + k * n = omega arith in
    let two : all (suc k * n) ≡ all n ++ all (k * n) = ap all whole ∙ sym (replicate-append-replicate n (k * n) most_separation) in
    let one : length (all n) ≡ n = length-replicate {A = ℕ} n most_separation in
    let joined : length (slot_bytes (all n) ++ slots_bytes n k (all (k * n))) ≡ suc k * longest_slot n =
    omega (arith, length-append (slot_bytes (all n)) (slots_bytes n k (all (k * n))), slot_long n, slots_long n k) in
    ap (λ (l : List ℕ). length (slot_bytes (take n l) ++ slots_bytes n k (drop n l))) two
    ∙ ap (λ (l : List ℕ). length (slot_bytes l ++ slots_bytes n k (drop n (all n ++ all (k * n))))) (take_at (all n) (all (k * n)) n one)
    ∙ ap (λ (l : List ℕ). length (slot_bytes (all n) ++ slots_bytes n k l)) (drop_at (all n) (all (k * n)) n one)
    ∙ joined

pub longest_is_met : (n k : ℕ) → length (scenario_bytes n k (all (k * n))) ≡ longest_scenario n k
unfolding scenario_bytes longest_scenario
longest_is_met n k = omega (arith, length-append mark_bytes (slots_bytes n k (all (k * n))), slots_long n k)
