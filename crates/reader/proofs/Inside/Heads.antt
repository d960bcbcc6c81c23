-- What stands before the rows: each way out of the function that reads it, and what is known where it is accepted. Assumes nothing.
use Rattle.basis.specs.Prelude.{ℕ, ◌≡◌, sym, ap, ap₂, ◌∙◌, List, true, false}
use Rattle.reader.proofs.Names.{most_processors, most_rows, ok, refuse, begins, marked, after_ok, ok_same, marked_ok, up_to, Head, mark_bytes, head_by, head}

-- the ways out of `read_head`
module _ (s : List ℕ) where
  pub head_unmarked : false ≡ begins mark_bytes s → refuse 1 0 ≡ head s 0
  unfolding head_by
  head_unmarked q = simp (sym q)

  module _ (q : true ≡ begins mark_bytes s) where
    pub head_no_processors : (k p : ℕ) → refuse k p ≡ up_to most_processors 4 4 s 4 → refuse k p ≡ head s 0
    unfolding head_by
    head_no_processors k p e = simp (sym q, sym e)

    module _ (v a : ℕ) (m : ok v a ≡ up_to most_processors 4 4 s 4) where
      pub head_no_count : (k p : ℕ) → refuse k p ≡ up_to most_rows 5 5 s a → refuse k p ≡ head s 0
      unfolding head_by
      head_no_count k p e = simp (sym q, sym m, sym e)

      pub head_whole : (c z : ℕ) → ok c z ≡ up_to most_rows 5 5 s a → ok (record { processors = v; count = c }) z ≡ head s 0
      unfolding head_by
      head_whole c z e = simp (sym q, sym m, sym e)

-- what is known where it is accepted
pub record Headed (s : List ℕ) (h : Head) (n : ℕ) : Type 0 where
  pub from : ℕ
  pub processors : up_to most_processors 4 4 s 4 ≡ ok h.processors from
  pub count : up_to most_rows 5 5 s from ≡ ok h.count n

pub headed : (s : List ℕ) (h : Head) (n : ℕ) → head s 0 ≡ ok h n → Headed s h n
unfolding head_by
headed s h n e =
    after_ok (marked mark_bytes s 0) _ e λ u z m₁ m₂.
    let (is, ez) = marked_ok mark_bytes s 0 u z m₁ in
    after_ok (up_to most_processors 4 4 s z) _ m₂ λ m a e₁ e₂.
    after_ok (up_to most_rows 5 5 s a) _ e₂ λ k b e₃ e₄.
    let (same, eb) = ok_same e₄ in
    record {
      from = a;
      processors = ap (up_to most_processors 4 4 s) ez ∙ e₁ ∙ ap (λ (x : Head). ok x.processors a) same;
      count = e₃ ∙ ap₂ (λ (x : Head) (y : ℕ). ok x.count y) same eb;
    }
