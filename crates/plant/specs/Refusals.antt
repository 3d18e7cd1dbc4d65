-- Document 01, "The questions, in order", and document 02: the number of each refusal, and what a call answers, by numbers.
use Rattle.std.specs.Prelude.{◌≡◌, ℕ, ◌<◌, Result, Ok, Err}
use Rattle.plant.specs.declared.Refusal.{Refusal}
use Rattle.plant.specs.declared.Refusal.TheVariants.{FirstField, Variables, Locations, SwitchesAndBoxes, Words, FieldTag, FieldLength, ModelEnd, Invariant, Rates, Start, Places, SwitchBoxes, MaskedResets, Guard, Landing, Forbidden, TableWords, WorkWords, Counters, Table, Unchanged, Touching, CountField, PieceField, PieceOrder, TableEnd, TableBytes, ModelBytes, Edition, CutPlace}

abbrev pub number : Refusal → ℕ
number FirstField = 1
number Variables = 2
number Locations = 3
number SwitchesAndBoxes = 4
number Words = 5
number FieldTag = 6
number FieldLength = 7
number ModelEnd = 8
number Invariant = 11
number Rates = 12
number Start = 13
number Places = 14
number SwitchBoxes = 15
number MaskedResets = 16
number Guard = 17
number Landing = 18
number Forbidden = 19
number TableWords = 20
number WorkWords = 21
number Counters = 22
number Table = 32
number Unchanged = 33
number Touching = 34
number CountField = 35
number PieceField = 36
number PieceOrder = 37
number TableEnd = 38
number TableBytes = 39
number ModelBytes = 40
number Edition = 43
number CutPlace = 46

-- a number has one meaning: no two refusals have the same, and none has 0 or an answer's, which are 100 and more
pub record OneMeaning : Type 0 where
  pub number_once : (r s : Refusal) → number r ≡ number s → r ≡ s
  pub not_0 : (r : Refusal) → 0 < number r
  pub below_answers : (r : Refusal) → number r < 100

-- questions that are all yes, or the refusal of the first that is not: 0, or its number
abbrev pub asked : Result Unit Refusal → ℕ
asked (Ok u) = 0
asked (Err r) = number r

-- what a call gives, or its refusal's number
abbrev pub numbered : {A : Type 0} → Result A Refusal → Result A ℕ
numbered (Ok a) = Ok a
numbered (Err r) = Err (number r)
