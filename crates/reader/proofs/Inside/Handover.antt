-- Reading into lent lists: each way out of the functions that read and hand over. Assumes nothing.
use Rattle.basis.specs.Prelude.{ℕ, ◌≤◌, ◌<◌, ◌≡◌, sym, ap, ◌∙◌, List, arith, length, take, drop, ◌++◌, lt-leb, lt-ltb, le-ltb, le-leb}
use Rattle.reader.proofs.Names.{most_rows, upto, ok, refuse, map_step, Outcome, accepted, refused, pairs_agree, map_step_ok, map_step_no, upto_agree, upto_below, bounded, row_at, number_at, list_cell, sheet_long, rows_agree, Entry, Held, entries, body_by, head, sheet_by, sheet, label_head, sheet_held, label_in, labels_long, label_cell, into_lists, read_into, nothing, row_after, label_from, label_after, rows_in, parts_in, handed_over, Part}
use Rattle.basis.proofs.Inside.Upto.{upto_front}
use Rattle.reader.proofs.LegalSheets.{row_held}
use Rattle.reader.proofs.Inside.LabelPlaces.{entries_length, row_was_read}
use Rattle.reader.proofs.Inside.Heads.{headed}

-- `hand_over`
module _ (n : ℕ) (own parts list labels : List ℕ) where
  pub no_room_for_list : length list < sheet_long n → (refused 15 0, (list, labels)) ≡ handed_over n own parts list labels
  unfolding handed_over
  no_room_for_list h = simp (lt-leb (sheet_long n) (length list) h)

  pub no_room_for_labels : sheet_long n ≤ length list → length labels < labels_long n → (refused 15 0, (list, labels)) ≡ handed_over n own parts list labels
  unfolding handed_over
  no_room_for_labels r h = simp (le-leb (sheet_long n) (length list) r, lt-leb (labels_long n) (length labels) h)

  pub both_handed_over : sheet_long n ≤ length own → labels_long n ≤ length parts → sheet_long n ≤ length list → labels_long n ≤ length labels
      → (accepted, (take (sheet_long n) own ++ drop (sheet_long n) list, take (labels_long n) parts ++ drop (labels_long n) labels)) ≡ handed_over n own parts list labels
  unfolding handed_over
  both_handed_over ro rp r q =
      simp (le-leb (sheet_long n) (length list) r, le-leb (labels_long n) (length labels) q, upto_front (sheet_long n) own list ro r, upto_front (labels_long n) parts labels rp q)

-- `read_into`
pub head_refused : (s : List ℕ) (k p : ℕ) → refuse k p ≡ head s 0 → (list labels : List ℕ) → (refused k p, (list, labels)) ≡ read_into s list labels
unfolding read_into into_lists sheet_by
head_refused s k p e list labels = simp (sym e)

-- `read_body`
module _ (s : List ℕ) (m n at : ℕ) (e : head s 0 ≡ ok (record { processors = m; count = n }) at) where
  pub few_rows : n ≤ most_rows
  few_rows = (bounded most_rows 5 5 _ _ _ _ (headed s (record { processors = m; count = n }) at e).count).not_over

  pub own_inside : (long : ℕ) → long ≡ sheet_long most_rows → sheet_long n ≤ long
  own_inside long e = omega (arith, few_rows)

  pub parts_inside : (long : ℕ) → long ≡ labels_long most_rows → labels_long n ≤ long
  parts_inside long e = omega (arith, few_rows)

  module _ (list labels : List ℕ) where
    pub rows_refused : (k p : ℕ) → refuse k p ≡ map_step nothing (entries m n s at) → (refused k p, (list, labels)) ≡ read_into s list labels
    unfolding read_into into_lists sheet_by body_by
    rows_refused k p q = simp (e, map_step_no nothing (entries m n s at) (sym q))

    module _ (next : ℕ) (q : ok tt next ≡ map_step nothing (entries m n s at)) where
      pub bytes_over : next < length s → (refused 9 next, (list, labels)) ≡ read_into s list labels
      unfolding read_into into_lists sheet_by body_by
      bytes_over l = simp (e, (map_step_ok nothing (entries m n s at) (sym q)).1, lt-ltb next (length s) l)

      module _ (l : length s ≤ next) (es : List Entry) (ee : entries m n s at ≡ ok es next) where
        abbrev this : Held
        this = record { processors = m; entries = es }

        was_read : sheet s 0 ≡ ok this next
        unfolding sheet_by body_by
        was_read = simp (e, ee, le-ltb next (length s) l)

        many : length es ≡ n
        many = entries_length m n s at es next ee

        row_is : (k : ℕ) → k < n → row_after m s at k ≡ row_at (sheet_held this) k
        row_is k h = row_was_read m n k s at es next ee h ∙ sym (row_held this k (omega (arith, many)))

        label_is : (k : ℕ) → k < n → label_after m s at k ≡ label_in s k
        unfolding label_in label_head label_after label_from
        label_is k h = sym (simp (was_read, lt-ltb k (length es) (omega (arith, many)), e))

        -- both lists, as the reader's definition has them
        module _ (own₀ parts₀ own parts : List ℕ) (ro : sheet_long n ≤ length own₀) (rp : labels_long n ≤ length parts₀) where
          list_is : own ≡ rows_in m n s at n own₀ → upto (sheet_long n) (number_at own) list ≡ upto (sheet_long n) (list_cell m n (row_at (sheet_held this))) list
          unfolding rows_in
          list_is eo =
              upto_agree (sheet_long n) (number_at own) (list_cell m n (row_at (sheet_held this))) list
              (λ i h. rw eo (upto_below (sheet_long n) (list_cell m n (row_after m s at)) own₀ 0 i h ro ∙ rows_agree m n (row_after m s at) (row_at (sheet_held this)) row_is i h))

          labels_are : parts ≡ parts_in m s at n parts₀ → upto (labels_long n) (number_at parts) labels ≡ upto (labels_long n) (label_cell s) labels
          unfolding parts_in
          labels_are ep =
              upto_agree (labels_long n) (number_at parts) (label_cell s) labels (λ i h. rw ep (upto_below (labels_long n) _ parts₀ 0 i h rp
              ∙ pairs_agree _ _ (λ k. (label_in s k).start) (λ k. (label_in s k).long) n (λ k b. ap (λ (p : Part). p.start) (label_is k b)) (λ k b. ap (λ (p : Part). p.long) (label_is k b)) i h))

          handed_is : own ≡ rows_in m n s at n own₀ → parts ≡ parts_in m s at n parts₀ → handed_over n own parts list labels ≡ read_into s list labels
          unfolding handed_over read_into into_lists
          handed_is eo ep = rw (list_is eo, labels_are ep, ← many, was_read)

      -- the last byte is accepted
      pub whole_read : length s ≤ next → (own₀ parts₀ own parts : List ℕ) → sheet_long n ≤ length own₀ → labels_long n ≤ length parts₀ → own ≡ rows_in m n s at n own₀ → parts ≡ parts_in m s at n parts₀
          → (a : Outcome × (List ℕ × List ℕ)) → a ≡ handed_over n own parts list labels → a ≡ read_into s list labels
      whole_read l own₀ parts₀ own parts ro rp eo ep a ea =
          let (es, ee, _) = map_step_ok nothing (entries m n s at) (sym q) in
          ea ∙ handed_is l es ee own₀ parts₀ own parts ro rp eo ep
