-- A cut never hurts, for bytes: a table file that check accepts with a model file holds a table that the checker accepts; divided, it is
-- accepted for the model with further cuts, and check accepts its file there.
use mathlib.Core.Path.{◌≡◌}
use mathlib.Core.List.{List}
use Prim.Native.Nat.{ℕ, ◌<◌}
use Rattle.files.specs.TableFile.{file_table}
use Rattle.interface.specs.Hosts.{model_of, model_file_questions, host_check_call}
use Rattle.interface.specs.HostDemand.{code, answer_file}
use Rattle.interface.proofs.Reading.{model_asked}
use Rattle.interface.proofs.Demand.{file_accepts, file_accepted_safe, host_demand}
use Rattle.finer.specs.Finer.{Finer, divided}
use Rattle.finer.specs.CutFilesStaySafe.{divided_file, FinerFilesStaySafe}
use Rattle.finer.proofs.CutStaysSafe.{finer_stays_safe}

module _ (first second : List ℕ) (file₁ : model_file_questions first ≡ 0) (file₂ : model_file_questions second ≡ 0) (into : Finer (model_of second) (model_of first)) where
  divided_accepted : (t : List ℕ) → host_check_call first t ≡ 100 → host_check_call second (divided_file second first t) ≡ 100
  unfolding divided_file
  divided_accepted t h = host_demand.table_accepted second (divided (model_of second) (model_of first) (file_table (model_of first) t)) file₂
      ((finer_stays_safe (model_of first) (model_of second) (model_asked first file₁) (model_asked second file₂) into).divided_accepted (file_table (model_of first) t) (file_accepts first t h))

  table_accepted : (file : List ℕ) (limit : ℕ) → limit < 4294967296 → code first file limit ≡ 100 → host_check_call second (divided_file second first (answer_file first file limit)) ≡ 100
  table_accepted file limit small safe = divided_accepted (answer_file first file limit) ((host_demand.decides first file limit small).safe_accepted safe)

pub finer_files_stay_safe : FinerFilesStaySafe
finer_files_stay_safe first second file₁ file₂ into = record {
  divided_accepted = divided_accepted first second file₁ file₂ into;
  no_run_meets = λ t h. host_demand.no_run_meets second (divided_file second first t) (divided_accepted first second file₁ file₂ into t h);
  stays_safe = λ file limit small safe file' limit' small' u room.
      file_accepted_safe second file' limit' small' file₂ room u (divided_file second first (answer_file first file limit)) (table_accepted first second file₁ file₂ into file limit small safe);
  never_unknown = λ file limit small safe file' limit' small' h.
      (host_demand.decides second file' limit' small').unknown_refused h (divided_file second first (answer_file first file limit)) (table_accepted first second file₁ file₂ into file limit small safe);
  table_accepted = table_accepted first second file₁ file₂ into;
}
