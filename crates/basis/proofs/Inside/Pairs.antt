-- Laws of a list of pairs: the store of a pair, and what is read of one. Assumes nothing.
use Rattle.basis.specs.Prelude.{ℕ, ◌+◌, ◌*◌, ◌/◌, ◌%◌, ◌≤◌, ◌<◌, ◌≡◌, sym, ap, ap₂, ◌∙◌, List, eqb, length, get_or, set, arith, div-add-mod', mod-lt}
use lib.Arith.{digits_div, digits_mod}
use Rattle.basis.specs.Words.{pick}
use Rattle.basis.specs.Upto.{upto, pair_cell}
use Rattle.basis.proofs.Inside.Words.{pick_same}
use Rattle.basis.proofs.Inside.Upto.{upto_set, upto_below}

-- the first and the second of a pair
module _ (f g : ℕ → ℕ) (k : ℕ) where
  cell_of : (i j : ℕ) → j < 2 → i ≡ k * 2 + j → pair_cell f g i ≡ pick (eqb j 0) (f k) (g k)
  unfolding pair_cell
  cell_of i j l e =
      let d : i / 2 ≡ k = ap (λ (x : ℕ). x / 2) e ∙ digits_div k l in
      let m : i % 2 ≡ j = ap (λ (x : ℕ). x % 2) e ∙ digits_mod k l in
      rw (d, m)

  pub first_cell : pair_cell f g (k * 2) ≡ f k
  first_cell = cell_of (k * 2) 0 (omega arith) (omega arith)

  pub second_cell : pair_cell f g (k * 2 + 1) ≡ g k
  second_cell = cell_of (k * 2 + 1) 1 (omega arith) (omega arith)

  -- where the first k pairs are made, the store of pair k makes one more
  pub pair_stored : (l l₀ : List ℕ) → l ≡ upto (k * 2) (pair_cell f g) l₀ → (a b : ℕ) → a ≡ f k → b ≡ g k → set (set l (k * 2) a) (k * 2 + 1) b ≡ upto ((k + 1) * 2) (pair_cell f g) l₀
  pair_stored l l₀ e a b ea eb =
      upto_set (k * 2 + 1) (pair_cell f g) (set l (k * 2) a) l₀ b (upto_set (k * 2) (pair_cell f g) l l₀ a e (ea ∙ sym first_cell)) (eb ∙ sym second_cell)
      ∙ ap (λ (n : ℕ). upto n (pair_cell f g) l₀) (omega arith)

  -- what is read of pair k, where the first n are made
  module _ (n : ℕ) (l : List ℕ) (k<n : k < n) (long : n * 2 ≤ length l) where
    pub first_read : get_or (upto (n * 2) (pair_cell f g) l) (k * 2) 0 ≡ f k
    first_read = upto_below (n * 2) (pair_cell f g) l 0 (k * 2) (omega arith) long ∙ first_cell

    pub second_read : get_or (upto (n * 2) (pair_cell f g) l) (k * 2 + 1) 0 ≡ g k
    second_read = upto_below (n * 2) (pair_cell f g) l 0 (k * 2 + 1) (omega arith) long ∙ second_cell

-- two lists of the same n pairs
pub pairs_agree : (f g f' g' : ℕ → ℕ) (n : ℕ) → ((k : ℕ) → k < n → f k ≡ f' k) → ((k : ℕ) → k < n → g k ≡ g' k) → (i : ℕ) → i < n * 2 → pair_cell f g i ≡ pair_cell f' g' i
unfolding pair_cell
pairs_agree f g f' g' n sf sg i l =
    let h : i / 2 < n = omega (arith, div-add-mod' i 2) in
    ap₂ (λ (a b : ℕ). pick (eqb (i % 2) 0) a b) (sf (i / 2) h) (sg (i / 2) h)

-- pairs of zeros past n
pub pair_zero : (f g : ℕ → ℕ) (n : ℕ) → ((k : ℕ) → n ≤ k → f k ≡ 0) → ((k : ℕ) → n ≤ k → g k ≡ 0) → (i : ℕ) → n * 2 ≤ i → pair_cell f g i ≡ 0
unfolding pair_cell
pair_zero f g n zf zg i l =
    let h : n ≤ i / 2 = omega (arith, div-add-mod' i 2, mod-lt i {m = 2} (omega arith)) in
    rw (zf (i / 2) h, zg (i / 2) h) (pick_same (eqb (i % 2) 0) 0)
