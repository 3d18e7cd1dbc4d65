-- What the code on model files asks of what it is lent, and which fields its parts write.
use Rattle.std.specs.Prelude.{◌≡◌, cond, List, [], ◌∷◌, ℕ, ◌+◌, ◌*◌, ◌<◌, ◌≤◌, T, ℤ, pos, negsuc, length}
use Rattle.std.specs.Int.Signed.{non_neg}
use Rattle.integers.specs.Words.{word}
use Rattle.integers.specs.Counted.{cat}
use Rattle.files.specs.Fields.{payload_length, field_length, field_place, field_at, is_field}
use Rattle.plant.specs.Model.{n#, L#, E#, B#, location_size, switch_size, forbidden_size, location_at, switch_at, forbidden_at, cut_size, model_size}
use Rattle.plant.proofs.Whole.{Head, Whole}
use Rattle.files.specs.ModelFile.{record_field, model_file, cut_field_size, head_words, is_head, locations_from, switches_from, forbiddens_from, cut_field_words, cuts_questions, names_location}
use Rattle.model_files.specs.declared.Run.{Run}
use Rattle.files.proofs.ModelLength.{cut_field_of}

-- ---- the three runs of records

abbrev pub locations_run : List ℤ → Run
locations_run h = record { count = L# h; w = location_size (n# h); place = location_at h 0; tag = 2; from = locations_from }

abbrev pub switches_run : List ℤ → Run
switches_run h = record { count = E# h; w = switch_size (n# h); place = switch_at h 0; tag = 3; from = switches_from h }

abbrev pub forbiddens_run : List ℤ → Run
forbiddens_run h = record { count = B# h; w = forbidden_size (n# h); place = forbidden_at h 0; tag = 4; from = forbiddens_from h }

-- ---- reading

-- the fields of a run stand whole, and there is room for its words
pub record RunReady (s : List ℕ) (run : Run) (words : List ℤ) : Type 0 where
  pub whole : (i : ℕ) → i < run.count → T (is_field (field_at s (field_place run.from run.w i)) run.tag (payload_length run.w))
  pub room : run.place + run.count * run.w ≤ length words
  pub w_small : run.w ≤ 37

-- a cut's field stands whole at a position, and its location is no negative number
pub record CutThere (s : List ℕ) (at : ℕ) : Type 0 where
  pub there : at + field_length cut_field_size ≤ length s
  pub natural : T (non_neg (word (cut_field_words s at) 0))

-- the cuts' fields of a file stand from a position on, for a model of L locations, and there is room for the words of all cuts
pub record CutsReady (s : List ℕ) (from L : ℕ) (words : List ℤ) (to : ℕ) : Type 0 where
  pub some : 1 ≤ L
  pub few : L ≤ 64
  pub passes : cuts_questions s from L ≡ 0
  pub room : to + L * cut_size ≤ length words

-- variable and value of location l: those of the field at a position if it names the location, else -1 and 0
abbrev pub filled_cut : (s : List ℕ) (at l : ℕ) → List ℤ
filled_cut s at l = cond (names_location s at l) (word (cut_field_words s at) 1 ∷ word (cut_field_words s at) 2 ∷ []) (negsuc 0 ∷ pos 0 ∷ [])

-- the head words of a file whose questions 1 to 5 are yes
pub record HeadRead (s : List ℕ) (h words : List ℤ) : Type 0 where
  pub first_field : T (is_head (field_at s 0))
  pub is_read : h ≡ head_words s
  pub head : Head h
  pub room : model_size h ≤ length words

-- ---- writing

-- the field of record i of a run; of all its records
abbrev pub field_of : (m : List ℤ) (run : Run) (i : ℕ) → List ℕ
field_of m run i = record_field run.tag m (run.place + i * run.w) run.w

abbrev pub record_fields : (m : List ℤ) (run : Run) → List ℕ
record_fields m run = cat run.count (field_of m run)

-- the records stand there, and there is room for their fields
pub record RunRoom (m : List ℤ) (run : Run) (file : List ℕ) : Type 0 where
  pub there : run.place + run.count * run.w ≤ length m
  pub room : run.from + run.count * field_length run.w ≤ length file
  pub w_small : run.w ≤ 37

-- a location's cut, and room for a field of it
pub record CutRoom (m : List ℤ) (l : ℕ) (file : List ℕ) (to : ℕ) : Type 0 where
  pub whole : Whole m
  pub location : l < L# m
  pub room : to + length (cut_field_of m l) ≤ length file

-- a whole model, and room for its file
pub record FileRoom (m : List ℤ) (file : List ℕ) : Type 0 where
  pub whole : Whole m
  pub room : length (model_file m) ≤ length file
