-- Words that follow a model's, or a table's, change nothing that reading and writing a table file give.
use mathlib.Core.Path.{◌≡◌, refl, ap, ap₂, ◌∙◌}
use mathlib.Core.Bool.{Bool}
use mathlib.Core.List.{List}
use Prim.Native.Nat.{ℕ}
use lib.Dec.{leb}
use lib.IntN.{ℤ}
use lib.ListN.{length}
use Rattle.plant.specs.Ask.{ask, ◌then◌}
use Rattle.plant.specs.Questions.{model_questions}
use Rattle.plant.specs.Tables.{table_ok}
use Rattle.plant.specs.Calls.{unless_refused, write_by, bytes_question}
use Rattle.plant.proofs.Asks.{or_left, then_same}
use Rattle.plant.proofs.Reading.{unless_same}
use Rattle.plant.proofs.Writing.{write_same}
use Rattle.plant.proofs.Passed.{passed}
use Rattle.plant.proofs.Beginning.{alone}
use Rattle.plant.proofs.Front.{front, room_front, piece_front, ok_front}
use Rattle.plant.proofs.Alike.{Alike, same_size, same_longest, piece_same, same_ok}
use Rattle.plant.proofs.SameModel.{itself}
use Rattle.plant.proofs.WordsBehind.{passed_alone, alike_alone, after_questions, room_alone}
use Rattle.files.specs.TableFile.{table_file, room_questions, read_faces, read_table_call, write_questions, write_table_call}
use Rattle.files.proofs.TableAsked.{room_yes}
use Rattle.files.proofs.AlikeFiles.{same_file_table, same_file_questions, same_file}

module _ (m : List ℤ) where
  room_questions_alone : (k : ℕ) → room_questions (alone m) k ≡ room_questions m k
  unfolding room_questions
  room_questions_alone k = after_questions m _ _ (λ asks. room_alone m asks k)

  -- ---- reading

  faces_alone : model_questions m ≡ 0 → (s : List ℕ) (table : List ℤ) → read_faces (alone m) s table ≡ read_faces m s table
  faces_alone asks s table =
      let like : Alike (alone m) m = alike_alone m asks in
      rw (same_file_questions (alone m) m like s (passed_alone m asks), same_size (alone m) m like, same_file_table (alone m) m like s) refl

  pub read_alone : (s : List ℕ) (table : List ℤ) → read_table_call (alone m) s table ≡ read_table_call m s table
  unfolding read_table_call
  read_alone s table =
      ap (λ (q : ℕ). unless_refused q table (read_faces (alone m) s table)) (room_questions_alone (length table))
      ∙ unless_same (room_questions m (length table)) table _ _ (λ e. faces_alone (room_yes m (length table) e).0 s table)

  -- ---- writing, of a list of words t and of the table alone

  module _ (t : List ℤ) where
    file_alone : model_questions m ≡ 0 → table_file (alone m) (front m t) ≡ table_file m t
    file_alone asks =
        let like : Alike (alone m) m = alike_alone m asks in
        same_file (alone m) m like (front m t) (front m t) (λ l q u v. piece_same (alone m) m like (front m t) l q u)
        ∙ same_file m m (itself m).alike (front m t) t (piece_front m (passed m asks) t)

    rooms_alone : room_questions (alone m) (length (front m t)) ≡ room_questions m (length t)
    unfolding room_questions
    rooms_alone = room_questions_alone (length (front m t)) ∙ ap (λ (q : ℕ). model_questions m then q) (room_front m t)

    write_questions_alone : (room : ℕ) → write_questions (alone m) (front m t) room ≡ write_questions m t room
    unfolding write_questions
    write_questions_alone room =
        ap (λ (q : ℕ). q then (ask (table_ok (alone m) (front m t)) 32 then bytes_question (alone m) room)) rooms_alone
        ∙ then_same (room_questions m (length t)) _ _ (λ e. after (room_yes m (length t) e).0)
      where
        after : model_questions m ≡ 0 → (ask (table_ok (alone m) (front m t)) 32 then bytes_question (alone m) room) ≡ (ask (table_ok m t) 32 then bytes_question m room)
        after asks =
            let like : Alike (alone m) m = alike_alone m asks in
            ap₂ (λ (b : Bool) (size : ℕ). ask b 32 then ask (leb size room) 39) (same_ok (alone m) m like (front m t) ∙ ok_front m (passed m asks) t) (same_longest (alone m) m like)

    pub write_alone : (buffer : List ℕ) → write_table_call (alone m) (front m t) buffer ≡ write_table_call m t buffer
    unfolding write_table_call write_questions
    write_alone buffer =
        ap (λ (q : ℕ). write_by q (table_file (alone m) (front m t)) buffer) (write_questions_alone (length buffer))
        ∙ write_same (write_questions m t (length buffer)) _ _ buffer (λ e. file_alone (room_yes m (length t) (or_left (room_questions m (length t)) _ e)).0)
