-- The words of the kit that everything here is written in, passed on under one name.
pub use Rattle.std.proofs.Common.{Fits, ◌∙◌, ap, ap₂, subst, sym, append_assoc, append-nil, drop_of_length-le, length-append, length-drop, length-set, length-take, take-append-drop, rules, arith, le→leb, lit<, ltb→lt, eq-eqb, eqb-true, le-leb, le-ltb, leb-false, leb-true, lt-ltb, ltb-false, ltb-true, ne_eqb, add-mul, add-sub_of_le, add-suc, add-zero, div-add-mod', div-lt_iff_lt-mul, div-mul-le_self, eq-or-lt_of_le, le_antisymm, le-div_iff_mul-le, le_of_lt, le_of_mul-le-mul_right, le_of_suc-le-suc, le_refl, lt_of_not-le, mod-eq_of_lt, mod-lt, mul_assoc, mul_comm, mul-div_cancel, mul-le-mul, mul-le-mul_left, mul-le-mul_right, not-suc-le-zero, zero-add, zero-lt-suc, inl, inr, ⊎_elim, drop_at, drop-cons, drop-drop, ext_get_or, get_or-append-add, get_or-drop, get_or-set_other, get_or-set_same, get_or-take, length-take-le, take-add, take_all, take_at, take-suc, take-take, add-one}
pub use Rattle.std.specs.Int.{w64}
pub use Rattle.std.specs.Prelude.{◌%◌, ◌*◌, ◌+◌, ◌-◌, ◌/◌, ◌<◌, ◌^◌, ◌≤◌, max, min, suc, zero, ℕ, ◌≡◌, refl, List, [], ◌++◌, ◌∷◌, map, drop, get_or, length, replicate, set, take, Bool, cond, false, not, true, eqb, leb, ltb, ◌↔◌, ◌⊎◌}
pub use Rattle.std.proofs.Math.ListN.{get_or-append, get_or-eq_default, get_or-map}
pub use Rattle.std.proofs.lemmas.List.{get_or-replicate, length-map, length-replicate, replicate-append-replicate, drop-append-le, set_at, set-get_or, take-append-le}
pub use Rattle.std.proofs.lemmas.Bool.{eqb-false, lt-leb}
pub use Rattle.std.proofs.Math.Nat.{add-mod_left, add-sub_cancel_left, le-min, le_of_mul-le-mul_left, mod-add-mod, mul-mod_left, one-le-pow, pow-succ', sub-zero}
pub use Rattle.std.proofs.Math.Seq.{append_snoc, drop-nil, get_or-append_seam, length-sets, length-slice, set-append_seam, set_out, slice, slice-cons, slice_empty, take-length, take-nil, take-set-lt}
pub use Rattle.std.proofs.lemmas.List.Edits.{sets, sets-eq}
