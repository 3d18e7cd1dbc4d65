-- The three numbers of a quote.
use mathlib.Core.Path.{◌≡◌, ap}
use mathlib.Core.List.{List}
use Prim.Native.Nat.{ℕ}
use lib.IntN.{ℤ}
use Rattle.plant.specs.Questions.{model_questions}
use Rattle.plant.specs.Tables.{table_size, longest_table_file, ceiling_of}
use Rattle.orders.specs.Quotes.{QuoteReply, quote_reply, quote_by, quote_call, quoted}

module _ (m : List ℤ) where
  -- what a model that passes is quoted
  quoted_is : model_questions m ≡ 0 → quoted m ≡ record { code = 100; words = table_size m; bytes = longest_table_file m; ceiling = ceiling_of m }
  unfolding quote_call
  quoted_is asks = ap (λ (q : ℕ). quote_reply (quote_by m q)) asks

  pub words_are : model_questions m ≡ 0 → (quoted m).words ≡ table_size m
  words_are asks = ap (λ (r : QuoteReply). r.words) (quoted_is asks)

  pub bytes_are : model_questions m ≡ 0 → (quoted m).bytes ≡ longest_table_file m
  bytes_are asks = ap (λ (r : QuoteReply). r.bytes) (quoted_is asks)

  pub ceiling_is : model_questions m ≡ 0 → (quoted m).ceiling ≡ ceiling_of m
  ceiling_is asks = ap (λ (r : QuoteReply). r.ceiling) (quoted_is asks)
