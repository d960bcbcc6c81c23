-- The digits of a number: the last and those before it, how many there are, and what they stand for. Assumes nothing.
use Rattle.basis.specs.Prelude.{ℕ, zero, suc, ◌+◌, ◌-◌, ◌*◌, ◌/◌, ◌%◌, ◌^◌, ◌≤◌, ◌<◌, ◌≡◌, refl, ap, ◌∙◌, Bool, true, false, List, [], ◌∷◌, ◌++◌, pow-succ', arith, length, length-append, ltb, lt-ltb, le-ltb, ltb-true, ltb-false}
use Rattle.basis.specs.Words.{pick}
use Rattle.page.specs.Decimals.{digits, decimal, most_digits, value_after, value}
use Rattle.page.specs.Pages.{Page, said}
use Rattle.page.proofs.Inside.Pages.{two_said}

-- any number of places that suffices gives the same digits
enough : (j k n : ℕ) → n < 10 ^ suc j → n < 10 ^ suc k → digits (suc j) n ≡ digits (suc k) n
unfolding digits
enough zero k n h g = simp (lt-ltb n 10 h)
enough (suc j) zero n h g = simp (lt-ltb n 10 g)
enough (suc j) (suc k) n h g =
    ap (λ (l : List ℕ). pick (ltb n 10) ((0x30 + n) ∷ []) (l ++ ((0x30 + n % 10) ∷ [])))
    (enough j k (n / 10) (omega (arith, pow-succ' 10 (suc j))) (omega (arith, pow-succ' 10 (suc k))))

more_digits : (n : ℕ) → n < 2 ^ 64 → 10 ≤ n → decimal n ≡ decimal (n / 10) ++ ((0x30 + n % 10) ∷ [])
unfolding decimal digits
more_digits n f h = simp (le-ltb _ _ h) (ap (λ (l : List ℕ). l ++ ((0x30 + n % 10) ∷ [])) (enough 18 19 (n / 10) (omega arith) (omega arith)))

-- `put_number`
pub digit_said : (p q : Page) (n : ℕ) → n < 10 → q ≡ said p ((0x30 + n) ∷ []) → q ≡ said p (decimal n)
unfolding decimal digits
digit_said p q n h e = simp (lt-ltb _ _ h) e

pub digits_said : (p q r : Page) (n : ℕ) → n < 2 ^ 64 → 10 ≤ n → q ≡ said p (decimal (n / 10)) → r ≡ said q ((0x30 + n % 10) ∷ []) → r ≡ said p (decimal n)
digits_said p q r n k h e f = rw (more_digits n k h) (two_said p q r _ _ e f)

-- ---- how many digits

by_test : {A : Type 0} (a b : ℕ) → (ltb a b ≡ true → a < b → A) → (ltb a b ≡ false → b ≤ a → A) → A
by_test {A} a b f g = go (ltb a b) refl
  where
    go : (t : Bool) → ltb a b ≡ t → A
    go true e = f e (ltb-true a b e)
    go false e = g e (ltb-false a b e)

digits_grow : (k n m : ℕ) → n ≤ m → length (digits k n) ≤ length (digits k m)
unfolding digits
digits_grow zero n m h = omega arith
digits_grow (suc k) n m h =
    by_test m 10 (λ e l. simp (e, lt-ltb n 10 (omega arith)) (omega arith)) (λ e l. by_test n 10 (λ f g. simp (e, f, length-append) (omega arith))
    (λ f g. simp (e, f, length-append) (omega (arith, digits_grow k (n / 10) (m / 10) (omega arith)))))

-- a larger number has no fewer
pub decimal_grows : (n m : ℕ) → n ≤ m → length (decimal n) ≤ length (decimal m)
unfolding decimal
decimal_grows n m h = digits_grow most_digits n m h

digits_few : (k n : ℕ) → length (digits k n) ≤ k
unfolding digits
digits_few zero n = omega arith
digits_few (suc k) n = by_test n 10 (λ e l. simp e (omega arith)) (λ e l. simp (e, length-append) (omega (arith, digits_few k (n / 10))))

pub decimal_is_short : (n : ℕ) → length (decimal n) ≤ most_digits
unfolding decimal
decimal_is_short n = digits_few most_digits n

-- the last byte of a number is a digit
pub last_digit : (n : ℕ) → (before : List ℕ) × (d : ℕ) × (d < 10) × (decimal n ≡ before ++ ((0x30 + d) ∷ []))
unfolding decimal digits
last_digit n = by_test n 10 (λ e l. ([], n, l, simp e)) (λ e l. (digits 19 (n / 10), n % 10, omega arith, simp e))

-- ---- what the digits stand for

value_more : (n : ℕ) (bs : List ℕ) (d : ℕ) → value_after n (bs ++ ((0x30 + d) ∷ [])) ≡ value_after n bs * 10 + d
unfolding value_after
value_more n [] d = omega arith
value_more n (b ∷ bs) d = value_more (n * 10 + (b - 0x30)) bs d

digits_value : (k n : ℕ) → n < 10 ^ suc k → value (digits (suc k) n) ≡ n
unfolding digits value_after
digits_value zero n h = simp (lt-ltb n 10 h) (omega arith)
digits_value (suc k) n h =
    by_test n 10 (λ e l. simp e (omega arith))
    (λ e l. simp e (value_more 0 (digits (suc k) (n / 10)) (n % 10) ∙ omega (arith, digits_value k (n / 10) (omega (arith, pow-succ' 10 (suc k))))))

-- any number of the code, printed, reads back as itself
pub decimal_reads_back : (n : ℕ) → n < 2 ^ 64 → value (decimal n) ≡ n
unfolding decimal
decimal_reads_back n h = digits_value 19 n (omega arith)
