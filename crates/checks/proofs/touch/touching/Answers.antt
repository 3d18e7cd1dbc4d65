-- What was passed in each of the three loops touches nothing: the boxes of a location are passed from its last to its first.
use Rattle.std.proofs.Common.{suc, ◌≡◌, sym, ◌∙◌, ◌+◌, ◌-◌, ◌<◌, ◌≤◌, get_or, arith}
use Rattle.std.proofs.lemmas.Int.{ints}
use Rattle.plant.specs.Box.{present}
use Rattle.plant.specs.Model.{n#, L#, B#, forbidden_location}
use Rattle.plant.specs.Pieces.{pieces}
use Rattle.plant.specs.Tables.{pieces_before, part_of, part_touches}
use Rattle.plant.proofs.FaceWords.{read_present, read_absent}
use Rattle.plant.proofs.PieceCases.{before_more}
use Rattle.passes.specs.Parts.{IsPart}
use Rattle.checks.specs.Links.{last_box}
use Rattle.checks.proofs.Linking.{last_within}
use Rattle.checks.proofs.Model.{L_most}
use Rattle.checks.proofs.Parts.{part_ready, part_is}
use Rattle.checks.proofs.Search.{search_is, no_part, no_location, no_boxes, none_absent, all_left, one_less, none_left, part_more, location_more, found}
use Rattle.checks.proofs.Touched.{touch_is, touch_ready}
use Rattle.checks.proofs.touch.touching.Goals as goal
use Rattle.checks.proofs.touch.touching.Goals.{In-search, In-parts, After-part_at-part, After-box_at-bounds, In-boxes, After-touches}

-- ---- location l: how many pieces stand before it and the next, and its last box

location : (c : In-search) → c.search.l < L# c.args.model.now
location c = omega arith

earlier_is : (c : In-search) → get_or c.args.places.now c.search.l 0 ≡ pieces_before c.args.model.now c.search.l
earlier_is c = c.requires.1.each c.search.l (omega (arith, location c))

next_is : (c : In-search) → get_or c.args.places.now (c.search.l + 1) 0 ≡ pieces_before c.args.model.now c.search.l + pieces c.args.model.now c.search.l
next_is c = c.requires.1.each (c.search.l + 1) (omega (arith, location c)) ∙ before_more c.args.model.now c.search.l

last_is : (c : In-search) → get_or c.args.links.now.last c.search.l 0 ≡ last_box c.args.model.now c.search.l (B# c.args.model.now)
last_is c = c.requires.3.last_is c.search.l (omega (arith, location c, L_most c.args.model.now c.requires.0.passes))

pub search-init : goal.search-init
search-init c = no_location _ _

pub search-preserved-then-last-eq0 : goal.search-preserved-then-last-eq0
search-preserved-then-last-eq0 c =
    location_more _ _ c.search.l c.search.invariant (no_boxes _ _ c.search.l (sym (last_is (goal.at.search-preserved-then-last-eq0 c).In-search) ∙ c.if-last-eq0.true) _)

pub overflow_sub-p-end : goal.overflow_sub-p-end
overflow_sub-p-end c =
    let s = (goal.at.overflow_sub-p-end c).In-search in
    omega (arith, earlier_is s, next_is s)

-- ---- part p of it

pub parts-init : goal.parts-init
parts-init c = no_part _ _ _

asked : (c : In-parts) → c.parts.p ≤ pieces c.args.model.now c.search.l
asked c = grind (arith, before_more)

pub part_at-part-requires : goal.part_at-part-requires
part_at-part-requires c =
    let s = (goal.at.part_at-part-requires c).In-search in
    let p = (goal.at.part_at-part-requires c).In-parts in
    rw (c.variables-n.ensures, earlier_is s) (part_ready c.args.model.now c.args.table.now c.requires.0 c.search.l (location s) c.parts.p (asked p) c.start_words.new.words (omega arith))

words : (c : After-part_at-part) → IsPart (n# c.args.model.now) c.part_at-part.result.now (part_of c.args.model.now c.args.table.now c.search.l c.parts.p)
words c =
    let s = (goal.at.bounds-part-0 c).In-search in
    let p = (goal.at.bounds-part-0 c).In-parts in
    rw (c.part_at-part.ensures, c.variables-n.ensures, earlier_is s)
    (part_is c.args.model.now c.args.table.now c.requires.0 c.search.l (location s) c.parts.p (asked p) c.start_words.new.words (omega arith) c.start_words.ensures)

pub bounds-part-0 : goal.bounds-part-0
bounds-part-0 c = omega (arith, (words c).sized)

pub parts-preserved-then-part-ne1 : goal.parts-preserved-then-part-ne1
parts-preserved-then-part-ne1 c =
    let m = c.args.model.now in
    let w = words (goal.at.parts-preserved-then-part-ne1 c).After-part_at-part in
    part_more _ _ c.search.l c.parts.p c.parts.invariant (none_absent _ _ c.search.l c.parts.p (B# m) (sym w.gives ∙ read_absent (n# m) c.part_at-part.result.now (grind (arith, ints))))

pub box_at-bounds-requires : goal.box_at-bounds-requires
box_at-bounds-requires c = omega (arith, (words (goal.at.box_at-bounds-requires c).After-part_at-part).sized)

there : (c : After-box_at-bounds) → part_of c.args.model.now c.args.table.now c.search.l c.parts.p ≡ present c.box_at-bounds.result.now
there c =
    let m = c.args.model.now in
    let w = words (goal.at.boxes-init c).After-part_at-part in
    rw (c.box_at-bounds.ensures, c.variables-n.ensures) (sym w.gives ∙ read_present (n# m) c.part_at-part.result.now (grind (arith, ints)))

pub boxes-init : goal.boxes-init
boxes-init c = rw (last_is (goal.at.boxes-init c).In-search) (all_left _ _ c.search.l c.parts.p)

-- ---- box b - 1 of those that are left for it

pub touches-requires : goal.touches-requires
touches-requires c =
    let s = (goal.at.touches-requires c).In-search in
    let p = (goal.at.touches-requires c).In-parts in
    rw (c.variables-n.ensures, c.invariant-inv.ensures, c.rate-rate.ensures, c.forbidden_box.ensures)
    (touch_ready c.args.model.now c.args.table.now c.requires.0 c.requires.2 c.search.l (location s) c.parts.p (asked p) (there (goal.at.touches-requires c).After-box_at-bounds) (c.boxes.b - 1) (omega (arith, c.boxes.invariant.within)))

told : (c : After-touches) → part_of c.args.model.now c.args.table.now c.search.l c.parts.p ≡ present c.box_at-bounds.result.now → c.touches.result ≡ part_touches c.args.model.now c.search.l (c.boxes.b - 1) (part_of c.args.model.now c.args.table.now c.search.l c.parts.p)
told c there =
    c.touches.ensures
    ∙ rw (c.variables-n.ensures, c.invariant-inv.ensures, c.rate-rate.ensures, c.forbidden_box.ensures) (touch_is c.args.model.now c.search.l (c.boxes.b - 1) there (c.boxes.invariant.own c.boxes-test.true))

pub returns-then-touches : goal.returns-then-touches
returns-then-touches c =
    let s = (goal.at.returns-then-touches c).In-search in
    let p = (goal.at.returns-then-touches c).In-parts in
    sym (found c.args.model.now c.args.table.now c.search.l c.parts.p (c.boxes.b - 1) (location s) (omega (arith, asked p)) (omega (arith, c.boxes.invariant.within)) (sym (told (goal.at.returns-then-touches c).After-touches (there (goal.at.returns-then-touches c).After-box_at-bounds)) ∙ c.if-touches.true))

before_is : (c : In-boxes) → get_or c.args.links.now.before (c.boxes.b - 1) 0 ≡ last_box c.args.model.now (forbidden_location c.args.model.now (c.boxes.b - 1)) (c.boxes.b - 1)
before_is c = c.requires.3.before_is (c.boxes.b - 1) (omega (arith, c.boxes.invariant.within))

pub boxes-smaller : goal.boxes-smaller
boxes-smaller c =
    let m = c.args.model.now in
    omega (arith, before_is (goal.at.boxes-smaller c).In-boxes, last_within m (forbidden_location m (c.boxes.b - 1)) (c.boxes.b - 1))

pub boxes-preserved : goal.boxes-preserved
boxes-preserved c =
    one_less c.args.model.now c.args.table.now c.search.l c.parts.p c.boxes.invariant c.boxes-test.true (sym (told (goal.at.boxes-preserved c).After-touches (there (goal.at.boxes-preserved c).After-box_at-bounds)) ∙ c.if-touches.false) (before_is (goal.at.boxes-preserved c).In-boxes)

pub parts-preserved : goal.parts-preserved
parts-preserved c =
    let m = c.args.model.now in
    let t = c.args.table.now in
    let none : c.boxes.b ≡ 0 = omega arith in
    part_more m t c.search.l c.parts.p c.parts.invariant (none_left m t c.search.l c.parts.p (rw none at c.boxes.invariant))

pub search-preserved : goal.search-preserved
search-preserved c =
    let s = (goal.at.search-preserved c).In-search in
    let all : c.parts.p ≡ suc (pieces c.args.model.now c.search.l) = omega (arith, earlier_is s, next_is s) in
    location_more _ _ c.search.l c.search.invariant (rw all at c.parts.invariant)

pub returns : goal.returns
returns c =
    let all : c.search.l ≡ L# c.args.model.now = omega arith in
    sym (rw all at c.search.invariant) ∙ search_is c.args.model.now c.args.table.now
