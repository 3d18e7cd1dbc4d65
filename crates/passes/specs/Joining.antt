-- What the code that joins steps to the pieces of faces asks of the words that it is lent, and the words that it leaves.
use Rattle.std.specs.Prelude.{◌≡◌, List, ℕ, ◌*◌, ◌<◌, ℤ, pos, length, cond, ◌&&◌, eqb, Option, Some, None}
use Rattle.std.specs.Coded.{Unit-prop, le_prop}
use Rattle.integers.specs.Words.{word}
use Rattle.plant.specs.Box.{box_at, Face, absent, join}
use Rattle.plant.specs.declared.Cut.{Cut}
use Rattle.plant.specs.Model.{n#, L#, E#, source, target}
use Rattle.plant.specs.Questions.{model_questions}
use Rattle.plant.specs.Pieces.{pieces_per_face, per_face, pieces, piece_face}
use Rattle.plant.specs.Tables.{face_size, table_by, piece_of, target_face, to_piece, switch_onto, switches_joined}
use Rattle.tables.specs.Room.{faces_by, CutBelow}

-- the words of a part of n variables; its box has P if it is there
pub record PartOk (n : ℕ) (P : List ℤ → Type 0) (part : List ℤ) : Type 0 where
  pub sized : length part ≡ face_size n
  pub has : word part 0 ≡ pos 1 → P (box_at n part 1)

-- how many pieces a location of n variables with the cut c has
abbrev pub pieces_with : ℕ → Option Cut → ℕ
pieces_with n c = 2 * n * pieces_per_face c

-- a location has the cut of one of its variables, or none, in one way
pub below_prop : (n : ℕ) (cut : Option Cut) → IsProp (CutBelow n cut)
below_prop n None = Unit-prop
below_prop n (Some cut) = le_prop

-- what is known of location l by its number of pieces
pub record Located (m : List ℤ) (l n count : ℕ) : Type 0 where
  pub passes : model_questions m ≡ 0
  pub below : l < L# m
  pub n_is : n ≡ n# m
  pub count_is : count ≡ pieces m l

-- piece k of the face that switch e leaves, which has so many pieces
pub record Leaves (m : List ℤ) (e count k : ℕ) : Type 0 where
  pub is_switch : e < E# m
  pub count_is : count ≡ per_face m (source m e)
  pub is_piece : k < per_face m (source m e)

-- no location is cut
pub record NoCut (m : List ℤ) : Type 0 where
  pub one_each : (l : ℕ) → l < L# m → per_face m l ≡ 1

-- the words of location l with the pieces g
abbrev pub location_by : List ℤ → ℕ → (ℕ → Face) → List ℤ
location_by m l g = faces_by (n# m) (pieces m l) g

-- the words are those of a table
abbrev pub IsTable : List ℤ → List ℤ → Type 0
IsTable m t = table_by m (piece_of m t) ≡ t

-- what switch e lands on piece q of location l where its step gives g
abbrev pub landed_on : List ℤ → ℕ → Face → ℕ → ℕ → Face
landed_on m e g l q = cond (eqb (target m e) l && eqb (target_face m e) (piece_face m l q)) (to_piece m l q g) absent

-- the words of a table, each of its pieces joined with that
abbrev pub with_landed : List ℤ → ℕ → Face → List ℤ → List ℤ
with_landed m e g out = table_by m (λ l q. join (n# m) (piece_of m out l q) (landed_on m e g l q))

-- the words of a table, each of its pieces joined with what switch e lands on it from piece k of its source's face of the table t
abbrev pub with_switch : List ℤ → List ℤ → ℕ → ℕ → List ℤ → List ℤ
with_switch m t e k out = table_by m (λ l q. join (n# m) (piece_of m out l q) (switch_onto m t l q e k))

-- each piece with its wall steps and the steps of the switches below e
abbrev pub joined_below : List ℤ → List ℤ → ℕ → ℕ → ℕ → Face
joined_below m t e l q = switches_joined m t l q e
