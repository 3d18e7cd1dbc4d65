-- All that is promised, in one record. It is proved by one theorem, `promises` (proofs/Promises.antt). Above each field stand the
-- customer's words that it carries, from documents 00, 01 and 02, or what it adds to them; the field says them of the definitions that
-- the contracts of the calls cite. A list of words m is any list: where it is no model, the promises say how it is refused.
use Rattle.std.specs.Prelude.{List, ℕ, ℤ}
use Rattle.plant.specs.Demands.{FirstDemand, SecondDemand, ThirdDemand}
use Rattle.plant.specs.Meaning.{Meaning}
use Rattle.plant.specs.Refusals.{OneMeaning}
use Rattle.plant.specs.Cases.{Starred, Further}
use Rattle.files.specs.ModelFilesExact.{ModelFilesExact}
use Rattle.files.specs.ModelBack.{ModelBack}
use Rattle.files.specs.UncutModelFile.{UncutModelFile}
use Rattle.files.specs.TableBack.{TableBack}
use Rattle.files.specs.UncutTableFile.{UncutTableFile}
use Rattle.orders.specs.declared.Desk.{Desk}
use Rattle.orders.specs.Desks.{DeskFirstDemand, DeskAnswers, Call, DeskCounts}
use Rattle.orders.specs.Quotes.{QuoteDemand}
use Rattle.interface.specs.HostDemand.{HostDemand}
use Rattle.interface.specs.ForC.{DeskCountsForC}
use Rattle.interface.specs.WordsBehind.{WordsBehind}
use Rattle.narrower.specs.StaysSafe.{NarrowerStaysSafe}
use Rattle.narrower.specs.FilesStaySafe.{NarrowerFilesStaySafe}
use Rattle.finer.specs.CutStaysSafe.{FinerStaysSafe}
use Rattle.finer.specs.CutFilesStaySafe.{FinerFilesStaySafe}
use Rattle.earlier.specs.StartsInside.{AsBefore}
use Rattle.earlier.specs.WithoutWindow.{NothingLost}

pub record Promises : Type 0 where
  -- ---- document 00, the three demands

  -- "Every model that keeps the rules of document 01, with buffers of its size and counters that can take the limit, is answered safe,
  -- unknown or unfinished under any pass limit, with its table and the number of passes. Every other input gets the number of the
  -- first question it fails, and lent memory stands as document 01 sets for that number": of the analysis, the checker and the
  -- ceiling; of the desk (of files see `table_back`, `model_back`, `model_files_exact`, of bytes `host_demand`, of quotes `quote_kept`)
  pub first_demand : (m : List ℤ) → FirstDemand m
  pub desk_first_demand : (d : Desk) (m : List ℤ) → DeskFirstDemand d m
  -- "The table after k passes is k rounds of the time and event steps of report ERL M99/12, bounds rounded outward": table k is so
  -- defined (`table_after`), and what its steps mean, by levels and delays of runs, is proved, so that nobody has to trust a procedure
  pub meaning : Meaning
  -- "The k answered is the first whose table can touch a forbidden box (unknown) or that a further pass repeats (safe), else the limit"
  pub second_demand : (m : List ℤ) → SecondDemand m
  -- "Table files written read back as the same table, and a file that reads is what writing its table gives"
  pub table_back : TableBack
  -- "For every list of desk calls from a fresh desk, the pass counter is the sum of passes answered": of the desk, and of the counters
  -- that a C program lends
  pub desk_counts : (cs : List Call) → DeskCounts cs
  pub desk_counts_for_c : (cs : List Call) → DeskCountsForC cs
  -- "Take any plant model and any list of words that the checker, by exactly the questions document 01 names for it, accepts as its
  -- table, whoever made it. Then in every run of the model, a first configuration and a list of delays and switches of any length, with
  -- rational levels and delays, no forbidden box is met, not at the start and not after any of them. When our analysis answers safe,
  -- under whatever pass limit, the checker accepts its table. When it answers unknown, the checker refuses every list of words as a
  -- table for that model. An answer under a pass limit of at least the model's ceiling is never unfinished: it is safe exactly when some
  -- list of words is accepted as a table for that model, and otherwise unknown"
  pub third_demand : (m : List ℤ) → ThirdDemand m
  -- "The service's programmers call from C and rely on every refusal number having one meaning"
  pub one_meaning : OneMeaning
  -- "The host's C program hands over bytes and a limit" (document 01): the demands of bytes, for decide and check
  pub host_demand : HostDemand
  -- ---- document 01

  -- "Words past the model's or the table's length are not part of either": of every call on words, refused or not
  pub words_behind : (m : List ℤ) → WordsBehind m
  -- "A desk call is an analysis that also takes the desk"; "the desk's counters move only on an answered call, jobs by 1, passes by k"
  pub desk_answers : (d : Desk) (m : List ℤ) (limit : ℕ) (table work : List ℤ) → DeskAnswers d m limit table work
  -- "Marked * for proof"; and further cases beside them
  pub starred : Starred
  pub further : Further
  -- ---- document 02 (T-04 and T-10 are in `meaning`: `seven_sizes`, `edition_1`, `at_target_wall`)

  -- T-01: "The reader gives the same words back, and a file that reads is written again with the same bytes"; and bytes are read exactly
  -- if they are a model's file
  pub model_back : ModelBack
  pub model_files_exact : ModelFilesExact
  -- T-02: beside its words, which `meaning` carries (`start_part_is`): every number but 13, and what passed before, is as it was
  pub as_before : (m : List ℤ) → AsBefore m
  -- T-06: "A table accepted before stays accepted"
  pub nothing_lost : NothingLost
  -- T-07: "It must be the same number as the sum over faces. No analysis by passes exceeds any of the three"
  pub quote_kept : (m : List ℤ) → QuoteDemand m
  -- T-12: a model without cuts has document 01's files
  pub uncut_model_file : UncutModelFile
  pub uncut_table_file : UncutTableFile
  -- and beside its words: a cut never hurts. A plant that is safe stays safe when locations that are not cut get a cut, and its table,
  -- divided into the pieces, is accepted: of words, and of files
  pub finer_stays_safe : FinerStaysSafe
  pub finer_files_stay_safe : FinerFilesStaySafe
  -- T-13: "If the first is safe, the second under its own ceiling is safe, and the first's table is accepted for it": of words, and of
  -- files
  pub narrower_stays_safe : NarrowerStaysSafe
  pub narrower_files_stay_safe : NarrowerFilesStaySafe
