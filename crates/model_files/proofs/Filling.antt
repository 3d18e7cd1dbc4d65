-- What the copying of the runs asks of a file that passes, and of words that are long enough.
use mathlib.Core.Path.{◌≡◌, refl, ap, ◌∙◌}
use mathlib.Core.List.{List, ◌++◌}
use Prim.Native.Nat.{ℕ, ◌≤◌}
use native.Mathlib.Omega.{arith}
use lib.IntN.{ℤ}
use lib.ListN.{length, drop}
use Rattle.integers.specs.Words.{onto}
use Rattle.plant.specs.Model.{L#, cut_at, model_size}
use Rattle.plant.proofs.Whole as model
use Rattle.plant.proofs.Positions.{head_first}
use Rattle.plant.proofs.Heads.{locations_at, switches_at, forbiddens_at, cuts_at, words_end}
use Rattle.files.specs.ModelFile.{cuts_from}
use Rattle.files.proofs.FirstField.{length_head}
use Rattle.files.proofs.ModelReading.{BodyPassed}
use Rattle.model_files.specs.Room.{locations_run, switches_run, forbiddens_run, RunReady, CutsReady, HeadRead}

module _ {s : List ℕ} {h words : List ℤ} (r : HeadRead s h words) where
  pub five : length h ≡ 5
  five = ap length r.is_read ∙ length_head s

  pub head_room : 5 ≤ length words
  head_room = omega (arith, r.room, head_first h)

  -- the head's words, put to the front
  pub head_put : {y : List ℤ} → y ≡ h → y ++ drop 5 words ≡ onto h words
  unfolding onto
  head_put e = rw (e, five) refl

module _ (s : List ℕ) (h : List ℤ) (ok : model.Head h) (y : BodyPassed s h) (words : List ℤ) (room : model_size h ≤ length words) where
  pub locations_ready : RunReady s (locations_run h) words
  locations_ready = record { whole = y.locations_whole; room = omega (arith, locations_at h, switches_at h, forbiddens_at h, cuts_at h, words_end h); w_small = omega (arith, ok.n_small) }

  pub switches_ready : RunReady s (switches_run h) words
  switches_ready = record { whole = y.switches_whole; room = omega (arith, forbiddens_at h, cuts_at h, words_end h); w_small = omega (arith, ok.n_small) }

  pub forbiddens_ready : RunReady s (forbiddens_run h) words
  forbiddens_ready = record { whole = y.forbiddens_whole; room = omega (arith, cuts_at h, words_end h); w_small = omega (arith, ok.n_small) }

  pub cuts_ready : CutsReady s (cuts_from h) (L# h) words (cut_at h 0)
  cuts_ready = record { some = ok.L_positive; passes = y.cuts_pass; room = omega (arith, words_end h); few = ok.L_small }
