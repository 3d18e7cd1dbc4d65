-- The words of small plants, and of tables of them, with which the cases compute.
use mathlib.Core.List.{List, [], ◌∷◌, ◌++◌}
use Prim.Native.Nat.{ℕ}
use lib.IntN.{ℤ, pos, negsuc}
use lib.ListN.{replicate}
use Rattle.plant.specs.Cases.{box₂}

-- ---- cuts

-- x and y from 5 at rate 1 to 6, in 0..6; at the wall y 6 a switch sets x to 1; x 4, y 6 is forbidden; with this cut
unfoldable pub plant_c : (variable value : ℤ) → List ℤ
plant_c variable value =
    pos 2 ∷ pos 1 ∷ pos 1 ∷ pos 1 ∷ pos 1
    ∷ pos 0 ∷ pos 6 ∷ pos 0 ∷ pos 6
    ∷ pos 1 ∷ pos 1 ∷ pos 1 ∷ pos 1
    ∷ pos 1 ∷ pos 5 ∷ pos 5 ∷ pos 5 ∷ pos 5
    ∷ pos 0 ∷ pos 0 ∷ pos 1 ∷ pos 1 ∷ pos 1 ∷ pos 1
    ∷ pos 0 ∷ pos 6 ∷ pos 6 ∷ pos 6
    ∷ pos 1 ∷ pos 1 ∷ pos 6 ∷ pos 6
    ∷ pos 0 ∷ pos 4 ∷ pos 4 ∷ pos 6 ∷ pos 6
    ∷ variable ∷ value ∷ []

-- not cut; and cut at x 2
unfoldable pub uncut_c : List ℤ
uncut_c = plant_c (negsuc 0) (pos 0)

unfoldable pub cut_c : List ℤ
cut_c = plant_c (pos 0) (pos 2)

-- an absent piece; a present one
abbrev pub gone : List ℤ
gone = pos 0 ∷ pos 0 ∷ pos 0 ∷ pos 0 ∷ pos 0 ∷ []

abbrev pub there : (a b c d : ℕ) → List ℤ
there a b c d = pos 1 ∷ box₂ a b c d

-- a table of C cut at x 2: no piece of faces 0 and 2, of face 1 (the wall x 6) the first and this second one, of face 3 (the wall
-- y 6) these two
unfoldable pub table_c : (own up from : List ℤ) → List ℤ
table_c own up from = gone ++ gone ++ there 6 6 6 6 ++ own ++ gone ++ gone ++ up ++ from

-- two locations of x 0..4, y 0..8: from x 0, y 0..2 both grow at rate 1 in the first; at the wall x 4 a switch leads to x 0 of the
-- second, where x grows alone; with the cut words of the first and of the second
unfoldable pub plant_d : (cut₀ cut₁ : List ℤ) → List ℤ
plant_d cut₀ cut₁ =
    (pos 2 ∷ pos 2 ∷ pos 1 ∷ pos 0 ∷ pos 1
    ∷ pos 0 ∷ pos 4 ∷ pos 0 ∷ pos 8 ∷ pos 1 ∷ pos 1 ∷ pos 1 ∷ pos 1 ∷ pos 1 ∷ pos 0 ∷ pos 0 ∷ pos 0 ∷ pos 2
    ∷ pos 0 ∷ pos 4 ∷ pos 0 ∷ pos 8 ∷ pos 1 ∷ pos 1 ∷ pos 0 ∷ pos 0 ∷ pos 0 ∷ pos 0 ∷ pos 0 ∷ pos 0 ∷ pos 0
    ∷ pos 0 ∷ pos 1 ∷ pos 0 ∷ pos 1 ∷ pos 0 ∷ pos 1 ∷ pos 4 ∷ pos 4 ∷ pos 0 ∷ pos 8 ∷ pos 0 ∷ pos 0 ∷ pos 0 ∷ pos 8 ∷ [])
    ++ cut₀ ++ cut₁

abbrev pub no_cut : List ℤ
no_cut = negsuc 0 ∷ pos 0 ∷ []

abbrev pub cut_y : List ℤ
cut_y = pos 1 ∷ pos 5 ∷ []

-- ---- start boxes

-- plant P with this rate of y, start flag, start box, forbidden box and cut
unfoldable pub plant_q : (rate : List ℤ) (flag : ℤ) (start box cut : List ℤ) → List ℤ
plant_q rate flag start box cut =
    (pos 2 ∷ pos 1 ∷ pos 0 ∷ pos 1 ∷ pos 1 ∷ pos 0 ∷ pos 10 ∷ pos 0 ∷ pos 10 ∷ pos 1 ∷ pos 1 ∷ [])
    ++ rate ++ (flag ∷ start) ++ (pos 0 ∷ box) ++ cut

-- with P's rate and forbidden box, not cut; the same started at x 0 and this y
unfoldable pub starting_p : (flag : ℤ) (start : List ℤ) → List ℤ
starting_p flag start = plant_q (pos 1 ∷ pos 2 ∷ []) flag start (box₂ 9 10 0 4) (negsuc 0 ∷ pos 0 ∷ [])

unfoldable pub starting_y : (lo hi : ℤ) → List ℤ
starting_y lo hi = starting_p (pos 1) (pos 0 ∷ pos 0 ∷ lo ∷ hi ∷ [])

-- y falls, by 1 to 2, from x 0 and this y on, with this forbidden box
unfoldable pub falling : (lo hi : ℕ) (box : List ℤ) → List ℤ
falling lo hi box = plant_q (negsuc 1 ∷ negsuc 0 ∷ []) (pos 1) (box₂ 0 0 lo hi) box (negsuc 0 ∷ pos 0 ∷ [])

-- from y 5..15, with x 10, y 3..5 forbidden; and a table of it, with the high of y on face 0, of y on face 1 and of x on face 3
unfoldable pub overhang : List ℤ
overhang = falling 5 15 (box₂ 10 10 3 5)

unfoldable pub overhang_table : (a b c : ℕ) → List ℤ
overhang_table a b c = (pos 1 ∷ box₂ 0 0 5 a) ++ (pos 1 ∷ box₂ 10 10 0 b) ++ (pos 1 ∷ box₂ 2 10 0 0) ++ (pos 1 ∷ box₂ 0 c 10 10)

-- two locations of one variable, 0..10 without a start and 20..30 with this one
unfoldable pub two : (lo hi : ℕ) → List ℤ
two lo hi =
    pos 1 ∷ pos 2 ∷ pos 0 ∷ pos 0 ∷ pos 1
    ∷ pos 0 ∷ pos 10 ∷ pos 1 ∷ pos 1 ∷ pos 0 ∷ pos 0 ∷ pos 0
    ∷ pos 20 ∷ pos 30 ∷ pos 1 ∷ pos 1 ∷ pos 1 ∷ pos lo ∷ pos hi
    ∷ negsuc 0 ∷ pos 0 ∷ negsuc 0 ∷ pos 0 ∷ []

-- cut at y 5
unfoldable pub cut_q : List ℤ
cut_q = plant_q (pos 1 ∷ pos 2 ∷ []) (pos 1) (box₂ 0 0 2 15) (box₂ 9 10 0 4) (pos 1 ∷ pos 5 ∷ [])

-- ---- windows

-- a box of three variables; the rate -1..-1
abbrev pub box₃ : (a b c d e f : ℕ) → List ℤ
box₃ a b c d e f = pos a ∷ pos b ∷ pos c ∷ pos d ∷ pos e ∷ pos f ∷ []

abbrev pub down : List ℤ
down = negsuc 0 ∷ negsuc 0 ∷ []

-- document 02's rates: 0..1, 1..1, -1..-1
abbrev pub rates : List ℤ
rates = box₂ 0 1 1 1 ++ down

-- a pump draws x up at 1..2 while a vat y fills at 1 to its rim 6 and a store z falls at 1 from 10; a store of 0..3 is forbidden
unfoldable pub pump : List ℤ
pump =
    (pos 3 ∷ pos 1 ∷ pos 0 ∷ pos 1 ∷ pos 1 ∷ box₃ 0 10 0 6 0 10) ++ (box₂ 1 2 1 1 ++ down)
    ++ (pos 1 ∷ box₃ 0 0 0 0 10 10) ++ (pos 0 ∷ box₃ 0 10 0 6 0 3) ++ (negsuc 0 ∷ pos 0 ∷ [])

-- its table, with the low of z on faces 1 and 3, the walls x 10 and y 6
unfoldable pub table_of_pump : ℕ → List ℤ
table_of_pump z =
    (pos 1 ∷ box₃ 0 0 0 0 10 10) ++ (pos 1 ∷ box₃ 10 10 5 6 z 5) ++ (pos 1 ∷ box₃ 0 0 0 0 10 10)
    ++ (pos 1 ∷ box₃ 6 10 6 6 z 5) ++ (pos 0 ∷ box₃ 0 0 0 0 0 0) ++ (pos 1 ∷ box₃ 0 0 0 0 10 10)

-- three variables in 0..2, 0..2 and 0..1, all at rate 2, from x 0, y 0..2, z 1, cut at y 1
unfoldable pub plant_s : List ℤ
plant_s =
    (pos 3 ∷ pos 1 ∷ pos 0 ∷ pos 0 ∷ pos 1 ∷ box₃ 0 2 0 2 0 1) ++ box₃ 2 2 2 2 2 2 ++ (pos 1 ∷ box₃ 0 0 0 2 1 1) ++ (pos 1 ∷ pos 1 ∷ [])

-- ---- resets to a range

-- dosing: two locations of x 0..10, y 0..10, where x grows by 1 and y stands; from x 0, y 0 in the first; at the wall x 10 a switch
-- with this mask and reset box leads to the wall of x of this side of the second, where y 3..4 is forbidden; and the second's cut
unfoldable pub dosing : (edition side mask : ℤ) (reset cut : List ℤ) → List ℤ
dosing edition side mask reset cut =
    (pos 2 ∷ pos 2 ∷ pos 1 ∷ pos 1 ∷ edition ∷ [])
    ++ (pos 0 ∷ pos 10 ∷ pos 0 ∷ pos 10 ∷ pos 1 ∷ pos 1 ∷ pos 0 ∷ pos 0 ∷ pos 1 ∷ pos 0 ∷ pos 0 ∷ pos 0 ∷ pos 0 ∷ [])
    ++ (pos 0 ∷ pos 10 ∷ pos 0 ∷ pos 10 ∷ pos 1 ∷ pos 1 ∷ pos 0 ∷ pos 0 ∷ pos 0 ∷ pos 0 ∷ pos 0 ∷ pos 0 ∷ pos 0 ∷ [])
    ++ (pos 0 ∷ pos 1 ∷ pos 0 ∷ pos 1 ∷ side ∷ mask ∷ pos 10 ∷ pos 10 ∷ pos 0 ∷ pos 10 ∷ []) ++ reset
    ++ (pos 1 ∷ pos 0 ∷ pos 10 ∷ pos 3 ∷ pos 4 ∷ [])
    ++ no_cut ++ cut

-- x and y set, to 0 and to this range; y alone, x being kept at 10 and asked to be in this range
unfoldable pub dose : (edition : ℤ) (lo hi : ℕ) → List ℤ
dose edition lo hi = dosing edition (pos 0) (pos 3) (box₂ 0 0 lo hi) no_cut

unfoldable pub kept : (edition : ℤ) (xl xh yl yh : ℕ) → List ℤ
kept edition xl xh yl yh = dosing edition (pos 1) (pos 2) (box₂ xl xh yl yh) no_cut

-- the table of a dose: y 0 in the first location, y as it was set in the second
unfoldable pub table_of_dose : (lo hi : ℕ) → List ℤ
table_of_dose lo hi =
    there 0 0 0 0 ++ there 10 10 0 0 ++ there 0 10 0 0 ++ gone
    ++ there 0 0 lo hi ++ there 10 10 lo hi ++ gone ++ gone

-- three variables in 0..10, none moving; a switch with this mask from the wall y 10, its guard of y from this low, to the wall y 0
unfoldable pub stirred : (edition : ℤ) (guard : ℕ) (mask : ℤ) (reset : List ℤ) → List ℤ
stirred edition guard mask reset =
    (pos 3 ∷ pos 1 ∷ pos 1 ∷ pos 0 ∷ edition ∷ []) ++ box₂ 0 10 0 10 ++ (pos 0 ∷ pos 10 ∷ []) ++ replicate 13 (pos 0)
    ++ (pos 0 ∷ pos 0 ∷ pos 1 ∷ pos 1 ∷ pos 0 ∷ mask ∷ pos 0 ∷ pos 10 ∷ pos guard ∷ pos 10 ∷ pos 0 ∷ pos 10 ∷ [])
    ++ reset ++ no_cut

-- the five words of a head
abbrev pub head : (n L E B edition : ℤ) → List ℤ
head n L E B edition = n ∷ L ∷ E ∷ B ∷ edition ∷ []
