-- All that is promised, proved.
use Rattle.plant.proofs.Demands as demands
use Rattle.plant.proofs.Meaning as means
use Rattle.plant.proofs.Cases as cases
use Rattle.plant.proofs.Refusing as refusing
use Rattle.files.proofs.ModelRoundTrip as exact
use Rattle.files.proofs.ModelBack as models
use Rattle.files.proofs.UncutModelFile as uncut-models
use Rattle.files.proofs.TableBack as tables
use Rattle.files.proofs.UncutTableFile as uncut-tables
use Rattle.orders.proofs.Answers as desk
use Rattle.orders.proofs.Counts as counts
use Rattle.orders.proofs.Kept as quotes
use Rattle.interface.proofs.Demand as host
use Rattle.interface.proofs.ForC as for-c
use Rattle.interface.proofs.WordsBehind as behind
use Rattle.narrower.proofs.StaysSafe as narrower
use Rattle.narrower.proofs.FilesStaySafe as narrower-files
use Rattle.finer.proofs.CutStaysSafe as finer
use Rattle.finer.proofs.CutFilesStaySafe as finer-files
use Rattle.earlier.proofs.StartsInside as starts
use Rattle.earlier.proofs.WithoutWindow as windows
use Rattle.promises.specs.Promises.{Promises}

pub promises : Promises
promises = record {
  first_demand = demands.first_demand;
  desk_first_demand = desk.desk_first_demand;
  meaning = means.meaning;
  second_demand = demands.second_demand;
  table_back = tables.table_back;
  desk_counts = counts.desk_counts;
  desk_counts_for_c = for-c.desk_counts_for_c;
  third_demand = demands.third_demand;
  one_meaning = refusing.one_meaning;
  host_demand = host.host_demand;
  words_behind = behind.words_behind;
  desk_answers = desk.desk_answers;
  starred = cases.starred;
  further = cases.further;
  model_back = models.model_back;
  model_files_exact = exact.model_files_exact;
  as_before = starts.as_before;
  nothing_lost = windows.nothing_lost;
  quote_kept = quotes.quote_kept;
  uncut_model_file = uncut-models.uncut_model_file;
  uncut_table_file = uncut-tables.uncut_table_file;
  finer_stays_safe = finer.finer_stays_safe;
  finer_files_stay_safe = finer-files.finer_files_stay_safe;
  narrower_stays_safe = narrower.narrower_stays_safe;
  narrower_files_stay_safe = narrower-files.narrower_files_stay_safe;
}
