-- Document 02, T-12: a model without cuts has the file of document 01, byte for byte (in edition 2, T-10, with tag 9 first).
use Rattle.std.specs.Prelude.{◌≡◌, List, ◌++◌, ℕ, ℤ}
use Rattle.integers.specs.Counted.{cat}
use Rattle.plant.specs.Model.{n#, L#, E#, B#, edition, location_size, switch_size, forbidden_size, location_at, switch_at, forbidden_at}
use Rattle.plant.specs.Meaning.{Uncut}
use Rattle.files.specs.ModelFile.{first_tag, head_field_size, record_field, model_file}

-- tag 1, or 9 in edition 2 (n, L, E, B), then L of tag 2, E of tag 3, B of tag 4, each one record
abbrev pub records_file : List ℤ → List ℕ
records_file m =
    record_field (first_tag (edition m)) m 0 head_field_size
    ++ (cat (L# m) (λ l. record_field 2 m (location_at m l) (location_size (n# m)))
    ++ (cat (E# m) (λ e. record_field 3 m (switch_at m e) (switch_size (n# m)))
    ++ cat (B# m) (λ b. record_field 4 m (forbidden_at m b) (forbidden_size (n# m)))))

pub record UncutModelFile : Type 0 where
  pub uncut : (m : List ℤ) → Uncut m → model_file m ≡ records_file m
