-- What code may read once a question was answered yes.
use mathlib.Core.Path.{◌≡◌, sym}
use mathlib.Core.Bool.{Bool}
use mathlib.Core.List.{List}
use Prim.Native.Nat.{ℕ, ◌≤◌}
use native.Mathlib.Omega.{arith}
use lib.IntN.{ℤ}
use lib.ListN.{length}
use Rattle.files.specs.Fields.{field_at, is_field}
use Rattle.files.specs.TableFile.{room_questions}
use Rattle.files.proofs.Fields.{due}
use Rattle.files.proofs.TableAsked.{room_yes}
use Rattle.passes.specs.Ready.{TableReady}
use Rattle.plant.specs.Ask.{ask}
use Rattle.plant.specs.Pieces.{any_cut}
use Rattle.plant.specs.Questions.{model_questions}
use Rattle.plant.proofs.Asks.{ask_yes}
use Rattle.plant.proofs.Passing.{whole}
use Rattle.plant.proofs.Whole.{Whole}
use Rattle.tables.specs.Places.{Places}
use Rattle.table_files.specs.TableRoom.{FieldsReady}

-- the model's questions: the model
pub whole_asked : (m : List ℤ) → 0 ≡ model_questions m → Whole m
whole_asked m e = whole m (sym e)

pub ready_asked : (m : List ℤ) {places : List ℕ} {cut : Bool} → model_questions m ≡ 0 → Places m places → cut ≡ any_cut m → FieldsReady m places cut
ready_asked m e p f = record { whole = whole m e; are_places = p; cut_is = f }

-- then 20: a table of it
pub room_asked : (m t : List ℤ) → 0 ≡ room_questions m (length t) → TableReady m t
room_asked m t e = let r = room_yes m (length t) (sym e) in record { passes = r.0; room = r.1 }

pub room_whole : (m : List ℤ) (room : ℕ) → 0 ≡ room_questions m room → Whole m
room_whole m room e = whole m (room_yes m room (sym e)).0

-- 35 of the head field: the count
pub head_there : (s : List ℕ) {b : Bool} → b ≡ is_field (field_at s 0) 6 4 → 0 ≡ ask b 35 → 7 ≤ length s
head_there s {b} e h = (due s 0 6 4 (rw (← e) (ask_yes b 35 (omega arith) (sym h)))).there
