-- Words past the model's or the table's length are not part of either: of every call on words.
use mathlib.Core.List.{List}
use lib.IntN.{ℤ}
use Rattle.plant.proofs.Beginning.{questions_alone}
use Rattle.plant.proofs.WordsBehind.{ceiling_alone, check_alone, analyse_alone}
use Rattle.files.proofs.ModelBack.{model_back}
use Rattle.files.proofs.WordsBehind.{read_alone, write_alone}
use Rattle.orders.proofs.WordsBehind.{desk_alone, quote_alone}
use Rattle.interface.specs.WordsBehind.{WordsBehind}

pub words_behind : (m : List ℤ) → WordsBehind m
words_behind m = record {
  questions = questions_alone m;
  ceiling = ceiling_alone m;
  quote = quote_alone m;
  write_model = model_back.words_behind m;
  check = check_alone m;
  write_table = write_alone m;
  analyse = analyse_alone m;
  desk = desk_alone m;
  read_table = read_alone m;
}
