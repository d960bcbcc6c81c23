-- Laws of lists that hold of any. Assumes nothing.
use Rattle.basis.specs.Prelude.{ℕ, zero, suc, ◌≡◌, refl, ap, List, [], ◌∷◌, map, arith, set, get_or, replicate}

module _ {A B : Type 0} (f : A → B) where
  pub map_set : (l : List A) (i : ℕ) (y : A) → map f (set l i y) ≡ set (map f l) i (f y)
  map_set [] i y = refl
  map_set (x ∷ xs) zero y = refl
  map_set (x ∷ xs) (suc i) y = ap (λ (zs : List B). f x ∷ zs) (map_set xs i y)

  -- lists are equal where what a one-to-one function makes of them is
  pub map_one_to_one : ((a b : A) → f a ≡ f b → a ≡ b) → (l m : List A) → map f l ≡ map f m → l ≡ m
  map_one_to_one g [] [] e = refl
  map_one_to_one g [] (y ∷ ys) e = let z : ◌≡◌ {A = ℕ} 0 1 = cc in absurd (omega arith)
  map_one_to_one g (x ∷ xs) [] e = let z : ◌≡◌ {A = ℕ} 0 1 = cc in absurd (omega arith)
  map_one_to_one g (x ∷ xs) (y ∷ ys) e =
      let ex : x ≡ y = g x y (cc) in
      let exs : xs ≡ ys = map_one_to_one g xs ys (cc) in
      cc

-- a list of one value has it at every place, and past its end
pub get_d_all : {A : Type 0} (n i : ℕ) (a : A) → get_or (replicate n a) i a ≡ a
get_d_all zero i a = refl
get_d_all (suc n) zero a = refl
get_d_all (suc n) (suc i) a = get_d_all n i a
