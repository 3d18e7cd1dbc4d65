-- Document 02, T-13, for bytes: a table file that check accepts with a model file holds a table that the checker accepts; it accepts it
-- for a narrower model too, and there the file passes as well, and holds that table.
use mathlib.Core.Path.{◌≡◌, refl, sym, ap, ◌∙◌, subst}
use mathlib.Core.List.{List}
use Prim.Native.Nat.{ℕ, ◌<◌}
use lib.IntN.{ℤ}
use lib.ListN.{take}
use Rattle.plant.specs.Model.{location_at, switch_at, forbidden_at, cut_at, model_size}
use Rattle.plant.specs.Questions.{model_questions}
use Rattle.plant.specs.Calls.{certificate_questions, check_by}
use Rattle.plant.specs.Narrower.{Narrower}
use Rattle.plant.proofs.Asks.{then_intro}
use Rattle.plant.proofs.Passed.{passed}
use Rattle.plant.proofs.Alike.{narrower_alike}
use Rattle.plant.proofs.Accepted.{Accepted, certificate_yes, accepted}
use Rattle.narrower.proofs.StaysSafe.{narrower_stays_safe}
use Rattle.narrower.proofs.NarrowerCases.{dosed, refilled, brine_tank, steadier_tank, narrower_cases, steadier_narrower}
use Rattle.files.specs.ModelFile.{model_file}
use Rattle.files.specs.TableFile.{file_table}
use Rattle.files.proofs.AlikeFiles.{same_file_table, same_file_questions}
use Rattle.interface.specs.Hosts.{model_of, model_file_questions, certificate_file_questions, host_check_call}
use Rattle.interface.specs.HostDemand.{code, answer_file}
use Rattle.narrower.specs.FilesStaySafe.{FilesStaySafe, NarrowerFilesStaySafe}
use Rattle.interface.proofs.Reading.{model_asked}
use Rattle.interface.proofs.Demand.{check_yes, file_accepts, file_accepted_safe, host_demand}

module _ (first second : List ℕ) (file₁ : model_file_questions first ≡ 0) (file₂ : model_file_questions second ≡ 0) (into : Narrower (model_of second) (model_of first)) where
  stays_accepted : (t : List ℕ) → host_check_call first t ≡ 100 → host_check_call second t ≡ 100
  unfolding host_check_call certificate_file_questions
  stays_accepted t h =
      let asks : model_questions (model_of second) ≡ 0 = model_asked second file₂ in
      let a : Accepted (model_of second) (file_table (model_of first) t) = accepted (model_of second) (file_table (model_of first) t)
      ((narrower_stays_safe (model_of first) (model_of second) (model_asked first file₁) asks into).stays_accepted (file_table (model_of first) t) (file_accepts first t h)) in
      ap (λ (q : ℕ). (check_by q).code)
      (then_intro file₂
      (then_intro (same_file_questions (model_of second) (model_of first) (narrower_alike into) t (passed (model_of second) asks) ∙ (check_yes first t h).1)
      (ap (certificate_questions (model_of second)) (same_file_table (model_of second) (model_of first) (narrower_alike into) t) ∙ certificate_yes (model_of second) (file_table (model_of first) t) a.is_unchanged a.is_clear)))

  module _ (file : List ℕ) (limit : ℕ) (small : limit < 4294967296) (safe : code first file limit ≡ 100) where
    table_accepted : host_check_call second (answer_file first file limit) ≡ 100
    table_accepted = stays_accepted (answer_file first file limit) ((host_demand.decides first file limit small).safe_accepted safe)

pub narrower_files_stay_safe : NarrowerFilesStaySafe
narrower_files_stay_safe first second file₁ file₂ into = record {
  stays_accepted = stays_accepted first second file₁ file₂ into;
  no_run_meets = λ t h. host_demand.no_run_meets second t (stays_accepted first second file₁ file₂ into t h);
  stays_safe = λ file limit small safe file' limit' small' u room.
      file_accepted_safe second file' limit' small' file₂ room u (answer_file first file limit) (table_accepted first second file₁ file₂ into file limit small safe);
  never_unknown = λ file limit small safe file' limit' small' h.
      (host_demand.decides second file' limit' small').unknown_refused h (answer_file first file limit) (table_accepted first second file₁ file₂ into file limit small safe);
  table_accepted = table_accepted first second file₁ file₂ into;
}

-- ---- it speaks of the files of a pair (models/brine-tank.model and models/brine-tank-steadier.model)

taken : (m : List ℤ) → model_questions m ≡ 0 → take (model_size m) m ≡ m → (model_file_questions (model_file m) ≡ 0) × (model_of (model_file m) ≡ m)
taken m asks whole = let p : _ × _ = host_demand.model_passes m asks in (p.0, p.1 ∙ whole)

first_taken : (model_file_questions (model_file brine_tank) ≡ 0) × (model_of (model_file brine_tank) ≡ brine_tank)
unfolding location_at switch_at forbidden_at cut_at model_size dosed refilled brine_tank
first_taken = taken brine_tank narrower_cases.first_passes refl

second_taken : (model_file_questions (model_file steadier_tank) ≡ 0) × (model_of (model_file steadier_tank) ≡ steadier_tank)
unfolding location_at switch_at forbidden_at cut_at model_size dosed refilled steadier_tank
second_taken = taken steadier_tank narrower_cases.second_passes refl

pub steadier_files_stay_safe : FilesStaySafe (model_file steadier_tank) (model_file brine_tank)
steadier_files_stay_safe = narrower_files_stay_safe (model_file brine_tank) (model_file steadier_tank) first_taken.0 second_taken.0
    (subst (λ (m : List ℤ). Narrower m (model_of (model_file brine_tank))) (sym second_taken.1) (subst (Narrower steadier_tank) (sym first_taken.1) steadier_narrower))
