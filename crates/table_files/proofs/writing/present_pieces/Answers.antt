-- The pieces by key.
use mathlib.Core.Path.{◌≡◌, ap, ◌∙◌}
use Prim.Native.Nat.{ℕ, ◌*◌, ◌<◌}
use native.Mathlib.Omega.{arith}
use lib.Dec.{eqb}
use lib.IntN.{pos}
use mir.Syntax.{w32}
use mir.Val.{SFits, of_z}
use Rattle.std.proofs.Common.{rules, tests}
use Rattle.std.specs.declared.ops.Range.{Range}
use Rattle.std.proofs.lemmas.Iterator.{serves_from_Range, YieldsList-from_range}
use Rattle.std.proofs.lemmas.Iterator.Consumers.{count_from_yields_List, YieldsList-from_filter}
use Rattle.integers.specs.Words.{word, eq_z}
use Rattle.integers.proofs.Signed.{bits_eq}
use Rattle.plant.specs.Model.{n#}
use Rattle.plant.specs.Tables.{face_size, piece_count}
use Rattle.table_files.proofs.Cuts.{count_listed}
use Rattle.table_files.proofs.TableWriting.{key_inside, key_small, present_counted}
use Rattle.table_files.proofs.writing.present_pieces.Goals as goal
use Rattle.table_files.proofs.writing.present_pieces.Goals.{After-filter}

pub count-requires-clause-can : goal.count-requires-clause-can
count-requires-clause-can c = (
  tt,
  tt,
  serves_from_Range (λ x q r. search (rules, tests)) (λ k a b.
      let below : k < c.piece_count.result = omega (arith, ap (λ (r : Range ℕ). r.end) c.filter.ensures.source, b) in
      let inside = key_inside c.args.model.now c.requires.0 c.variables.ensures c.face_size-size.ensures c.piece_count.ensures below in
      let small = key_small c.args.model.now c.requires.0 c.variables.ensures c.face_size-size.ensures c.piece_count.ensures below in
      search (rules, tests)),
)

pub returns : goal.returns
returns c =
    let a = c.args in
    count_from_yields_List _ c.count.result c.count.ensures.ran
    (YieldsList-from_filter _ (λ k. eq_z (word a.table.now (k * face_size (n# a.model.now))) (pos 1)) (YieldsList-from_range 0 c.piece_count.result (piece_count a.model.now) c.filter.ensures.source (omega (arith, c.piece_count.ensures))) c.filter.ensures.closure (λ k b q h.
    let fits : SFits w32 (word a.table.now (k * face_size (n# a.model.now))) = search rules in
    let size = c.face_size-size.ensures ∙ ap face_size c.variables.ensures in
    let flag : b ≡ eqb (of_z w32 (word a.table.now (k * c.face_size-size.result))) 1 = search (rules, tests) in
    (search (rules, tests), flag ∙ ap (λ (w : ℕ). eqb (of_z w32 (word a.table.now (k * w))) 1) size ∙ bits_eq _ (pos 1) fits (search rules))))
    ∙ count_listed _ _ ∙ present_counted _ _
