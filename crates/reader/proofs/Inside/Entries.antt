-- A row: each way out of the functions that read its numbers, and its label before them. Assumes nothing.
use Rattle.basis.specs.Prelude.{ℕ, ◌≡◌, refl, sym, List, length}
use Rattle.reader.proofs.Names.{most_separation, Step, ok, refuse, after, map_step, map_step_ok, map_step_no, up_to, entry_row, label, entry_by, entry, numbers}

-- the four numbers
module _ (m : ℕ) (s : List ℕ) (at : ℕ) where
  pub no_threads : (k p : ℕ) → refuse k p ≡ up_to m 7 8 s at → refuse k p ≡ numbers m s at
  unfolding numbers
  no_threads k p e = simp (sym e)

  module _ (t b : ℕ) (e₁ : ok t b ≡ up_to m 7 8 s at) where
    pub no_separation : (k p : ℕ) → refuse k p ≡ up_to most_separation 7 8 s b → refuse k p ≡ numbers m s at
    unfolding numbers
    no_separation k p e = simp (sym e₁, sym e)

    module _ (T c : ℕ) (e₂ : ok T c ≡ up_to most_separation 7 8 s b) where
      pub no_deadline : (k p : ℕ) → refuse k p ≡ up_to T 7 8 s c → refuse k p ≡ numbers m s at
      unfolding numbers
      no_deadline k p e = simp (sym e₁, sym e₂, sym e)

      module _ (D d : ℕ) (e₃ : ok D d ≡ up_to T 7 8 s c) where
        pub no_budget : (k p : ℕ) → refuse k p ≡ up_to D 7 8 s d → refuse k p ≡ numbers m s at
        unfolding numbers
        no_budget k p e = simp (sym e₁, sym e₂, sym e₃, sym e)

        pub whole_row : (C f : ℕ) → ok C f ≡ up_to D 7 8 s d → ok (record { threads = t; separation = T; deadline = D; budget = C }) f ≡ numbers m s at
        unfolding numbers
        whole_row C f e = simp (sym e₁, sym e₂, sym e₃, sym e)

-- a part that is told of what follows a step
through : {A B C : Type 0} (f : B → C) (x : Step A) (K : A → ℕ → Step B) (K' : A → ℕ → Step C) → ((a : A) (n : ℕ) → map_step f (K a n) ≡ K' a n) → map_step f (after x K) ≡ after x K'
unfolding map_step
through f (ok a n) K K' h = h a n
through f (refuse k p) K K' h = refl

-- a label, and the numbers after it
module _ (m : ℕ) (s : List ℕ) (at : ℕ) where
  pub entry_no_label : (k p : ℕ) → refuse k p ≡ map_step length (label s at) → refuse k p ≡ map_step entry_row (entry m s at)
  unfolding entry_by map_step
  entry_no_label k p e = simp (map_step_no length (label s at) (sym e))

  -- the numbers decide
  pub after_label : (long a : ℕ) → ok long a ≡ map_step length (label s at) → numbers m s a ≡ map_step entry_row (entry m s at)
  unfolding entry_by numbers map_step
  after_label long a e =
      let (l, el, _) = map_step_ok length (label s at) (sym e) in
      sym (simp el
      (through entry_row (up_to m 7 8 s a) _ _ λ t b. through entry_row (up_to most_separation 7 8 s b) _ _ λ T c.
      through entry_row (up_to T 7 8 s c) _ _ λ D d. through entry_row (up_to D 7 8 s d) _ _ λ C f. refl))
