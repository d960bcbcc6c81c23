-- The worked scenarios hold of the definitions, each way. Assumes nothing.
use Rattle.basis.specs.Prelude.{◌≡◌, refl, [], ◌∷◌, ◌++◌}
use Rattle.scenario.proofs.Names.{Each, begins, groups, up_to_by, spelt, mark_bytes, row, releases, slot, slots, scenario, releases_in, releases_bytes, slot_bytes, slots_bytes, scenario_bytes, two_rows, files}

-- each file reads so
pub worked_files : Each (λ c. scenario two_rows (mark_bytes ++ c.after_mark) 0 ≡ c.gives) files
unfolding scenario slots slot releases row up_to_by groups begins
worked_files = (refl, (refl, (refl, (refl, (refl, (refl, (refl, (refl, (refl, tt)))))))))

-- the first of them is what its list is written as
pub worked_list : scenario_bytes 2 3 (2 ∷ 200 ∷ 0 ∷ 0 ∷ 0 ∷ 7 ∷ []) ≡ mark_bytes ++ (2 ∷ 0 ∷ 2 ∷ 1 ∷ 0xC8 ∷ 0x01 ∷ 0 ∷ 1 ∷ 1 ∷ 7 ∷ [])
unfolding scenario_bytes slots_bytes slot_bytes releases_bytes releases_in spelt
worked_list = refl
