-- Words that follow a model's are no part of its file.
use mathlib.Core.Path.{◌≡◌, sym, ap, ap₂, ◌∙◌}
use mathlib.Core.List.{List, ◌++◌}
use Prim.Native.Nat.{ℕ, ◌+◌, ◌≤◌}
use native.Mathlib.Omega.{arith}
use lib.IntN.{ℤ}
use lib.ListN.{length, drop, take-append-drop}
use Rattle.integers.proofs.Buffers.{cat_ext}
use Rattle.files.specs.Bytes.{words_bytes}
use Rattle.files.specs.Fields.{field}
use Rattle.plant.specs.Model.{n#, L#, E#, B#, edition, location_size, switch_size, forbidden_size, location_at, switch_at, forbidden_at, model_size}
use Rattle.plant.proofs.Whole.{Whole}
use Rattle.plant.proofs.Positions.{location_within, switch_within, forbidden_within}
use Rattle.plant.proofs.Beginning as same
use Rattle.plant.proofs.Beginning.{alone, alone_whole}
use Rattle.files.specs.ModelFile.{first_tag, head_field_size, record_field, cut_field, model_file}

module _ (a r : List ℤ) (w : Whole a) where
  abbrev m : List ℤ
  m = a ++ r

  field_same : (tag at size : ℕ) → at + size ≤ length a → record_field tag m at size ≡ record_field tag a at size
  field_same tag at size l = ap (λ (zs : List ℤ). field tag (words_bytes zs)) (same.part_same a r w at size l)

  file_same : model_file m ≡ model_file a
  unfolding model_file
  file_same =
      rw (same.n_same a r w, same.L_same a r w, same.E_same a r w, same.B_same a r w, same.edition_same a r w)
      (ap₂ (λ (s t : List ℕ). s ++ t) (field_same (first_tag (edition a)) 0 head_field_size (omega (arith, w.head.there)))
      (ap₂ (λ (s t : List ℕ). s ++ t) (cat_ext (L# a) _ _ (λ l u. rw (same.location_same a r w l) (field_same 2 (location_at a l) (location_size (n# a)) (location_within a w l u))))
      (ap₂ (λ (s t : List ℕ). s ++ t) (cat_ext (E# a) _ _ (λ e u. rw (same.switch_same a r w e) (field_same 3 (switch_at a e) (switch_size (n# a)) (switch_within a w e u))))
      (ap₂ (λ (s t : List ℕ). s ++ t) (cat_ext (B# a) _ _ (λ b u. rw (same.forbidden_same a r w b) (field_same 4 (forbidden_at a b) (forbidden_size (n# a)) (forbidden_within a w b u))))
      (cat_ext (L# a) _ _ (λ l u. ap₂ (cut_field l) (same.cut_variable_same a r w l u) (same.cut_value_same a r w l u)))))))

module _ (m : List ℤ) (w : Whole m) where
  pub file_alone : model_file (alone m) ≡ model_file m
  file_alone = sym (file_same (alone m) (drop (model_size m) m) (alone_whole m w)) ∙ ap model_file (take-append-drop (model_size m) m)
