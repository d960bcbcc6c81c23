-- What a call says of itself: accepted, or refused, with the number and the place of the table of refusals.
use Rattle.basis.specs.Prelude.{ℕ, zero, suc, Bool, true, false, leb}
use Rattle.basis.specs.Words.{pick}
use Rattle.std.specs.Prelude.{Result, Ok, Err}
use Rattle.basis.specs.declared.refusal.Refusal.{Refusal}
use Rattle.basis.specs.declared.refusal.Refusal.TheVariants.{Mark, Ends, Number, Processors, Rows, Label, Zero, Over, Trailing, Sheet, Releases, Budget, Soon, Row, Room, State, Order}

-- Accepted, or refused by a number at a place.
pub data Outcome : Type 0 where
  accepted : Outcome
  refused : ℕ → ℕ → Outcome

-- The number and the place of each refusal of the code.
abbrev pub told : Refusal → ℕ × ℕ
told Mark = (1, 0)
told (Ends place) = (2, place)
told (Number place) = (3, place)
told (Processors place) = (4, place)
told (Rows place) = (5, place)
told (Label place) = (6, place)
told (Zero place) = (7, place)
told (Over place) = (8, place)
told (Trailing place) = (9, place)
told Sheet = (10, 0)
told Releases = (11, 0)
told (Budget place) = (12, place)
told (Soon place) = (13, place)
told (Row place) = (14, place)
told Room = (15, 0)
told State = (16, 0)
told (Order place) = (20, place)

-- The outcome that an error of the code stands for.
abbrev pub refused_by : Refusal → Outcome
refused_by r = refused (told r).0 (told r).1

-- The outcome that each answer of the code stands for, whatever it hands over.
abbrev pub outcome : {A : Type 0} → Result A Refusal → Outcome
outcome (Ok a) = accepted
outcome (Err r) = refused_by r

-- Nothing is refused.
abbrev pub is_accepted : Outcome → Bool
is_accepted accepted = true
is_accepted (refused number place) = false

-- The first of two outcomes that is a refusal.
abbrev pub or_else : Outcome → Outcome → Outcome
or_else accepted b = b
or_else (refused number place) b = refused number place

-- The first refusal among f 0, .., f (n - 1).
unfoldable pub first_of : ℕ → (ℕ → Outcome) → Outcome
first_of zero f = accepted
first_of (suc n) f = or_else (first_of n f) (f n)

-- A test that has to hold, and the number where it does not; its place is none.
abbrev pub needed : Bool → ℕ → Outcome
needed test number = pick test accepted (refused number 0)

-- 15 where an answer needs more places than its buffer has.
abbrev pub room_for : ℕ → ℕ → Outcome
room_for needs room = needed (leb needs room) 15

-- What is handed over: the one where the call is accepted, the other beside a refusal.
abbrev pub handed : {A : Type 0} → Outcome → A → A → Outcome × A
handed accepted done found = (accepted, done)
handed (refused number place) done found = (refused number place, found)
