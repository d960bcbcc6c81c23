-- A label: each way out of the function that reads one. Assumes nothing.
use Rattle.basis.specs.Prelude.{ℕ, ◌+◌, ◌-◌, ◌*◌, ◌^◌, ◌≤◌, ◌<◌, ◌≡◌, sym, ap, List, arith, add-sub_cancel_left, length, le-leb, lt-leb, w64, Fits}
use Rattle.reader.proofs.Names.{longest_label, ok, refuse, map_step, map_step_ok, map_step_no, up_to, bounded, plain, label_by, label, part_after, nothing}
use Rattle.reader.proofs.Inside.Plain.{plain_ok}

module _ (s : List ℕ) (at : ℕ) where
  pub label_no_length : (k p : ℕ) → refuse k p ≡ up_to longest_label 6 6 s at → refuse k p ≡ map_step length (label s at)
  unfolding label_by map_step
  label_no_length k p e = simp (sym e)

  module _ (k st : ℕ) (e : ok k st ≡ up_to longest_label 6 6 s at) where
    -- its end is a place
    pub label_ends : length s * 1 < 2 ^ 63 → Fits w64 (st + k)
    label_ends l = record { fits = omega (arith, bounded longest_label 6 6 s at k st (sym e)) }

    -- where it lies
    pub label_lies_at : record { start = st; long = k } ≡ part_after (up_to longest_label 6 6 s at)
    label_lies_at = ap part_after e

    pub label_too_long : length s < st + k → refuse 2 (length s) ≡ map_step length (label s at)
    unfolding label_by map_step
    label_too_long l = simp (sym e, lt-leb (st + k) (length s) l)

    module _ (l : st + k ≤ length s) where
      pub label_bad_byte : (j p : ℕ) → refuse j p ≡ map_step nothing (plain (st + k - st) s st) → refuse j p ≡ map_step length (label s at)
      unfolding label_by map_step
      label_bad_byte j p f =
          let bytes_of : refuse j p ≡ map_step nothing (plain k s st) = simp add-sub_cancel_left at f in
          simp (sym e, le-leb (st + k) (length s) l, map_step_no nothing (plain k s st) (sym bytes_of))

      pub label_whole : (n : ℕ) → ok tt n ≡ map_step nothing (plain (st + k - st) s st) → ok k n ≡ map_step length (label s at)
      unfolding label_by map_step
      label_whole n f =
          let bytes_of : ok tt n ≡ map_step nothing (plain k s st) = simp add-sub_cancel_left at f in
          let (bs, eb, _) = map_step_ok nothing (plain k s st) (sym bytes_of) in
          simp (sym e, le-leb (st + k) (length s) l, eb, (plain_ok k s st bs n eb).long)
