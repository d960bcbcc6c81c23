-- The entries of slots, n to a slot, in a list of which the part of the first j slots is kept and what comes after it is another. Assumes nothing.
use Rattle.basis.specs.Prelude.{ℕ, ◌+◌, ◌*◌, ◌≤◌, ◌<◌, ◌≡◌, sym, ap, ◌∙◌, List, ◌++◌, arith, mul-le-mul_right, length, take, drop, length-drop, length-take-le, take-append-drop, take-append-le, drop-append-le, drop_at}
use Rattle.machine.proofs.Names.{entries_of}

module _ (n j : ℕ) (cs : List ℕ) (fits : j * n ≤ length cs) (x : List ℕ) where
  front_long : length (take (j * n) cs) ≡ j * n
  front_long = length-take-le (j * n) cs fits

  -- those of slot j
  pub entries_here : entries_of n j (take (j * n) cs ++ x) ≡ take n x
  entries_here = rw (drop_at (take (j * n) cs) x (j * n) front_long)

  -- and those of the slots before it
  pub entries_there : (i : ℕ) → i < j → entries_of n i (take (j * n) cs ++ x) ≡ entries_of n i cs
  entries_there i l =
      let room : i * n + n ≤ j * n = omega (arith, mul-le-mul_right {m = i + 1} {n = j} n (omega arith)) in
      let a : i * n ≤ length (take (j * n) cs) = omega (arith, front_long) in
      let b : n ≤ length (drop (i * n) (take (j * n) cs)) = omega (arith, front_long, length-drop (i * n) (take (j * n) cs)) in
      let near : (y : List ℕ) → entries_of n i (take (j * n) cs ++ y) ≡ take n (drop (i * n) (take (j * n) cs)) = λ y. rw (drop-append-le, take-append-le) in
      near x ∙ sym (near (drop (j * n) cs)) ∙ ap (entries_of n i) (take-append-drop (j * n) cs)
