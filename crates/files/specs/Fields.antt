-- Document 01, "Files": a field is a one-byte tag, a two-byte length of the payload (highest byte first), the payload.
use Rattle.std.specs.Prelude.{Bool, false, cond, ◌&&◌, List, [], ◌∷◌, ◌++◌, ℕ, ◌+◌, ◌*◌, ◌/◌, ◌%◌, eqb, leb, length, get_or}
use Rattle.files.specs.Bytes.{word_size}
use Rattle.files.specs.declared.Field.{Field}
use Rattle.files.specs.declared.Field.TheVariants.{Whole, Cut, Short}

-- ---- how many bytes a field has: its tag and length, a payload of w words, both together

abbrev pub header_size : ℕ
header_size = 3

abbrev pub payload_length : ℕ → ℕ
payload_length w = word_size * w

abbrev pub field_length : ℕ → ℕ
field_length w = header_size + payload_length w

-- where field i of a run of fields begins, each with a payload of w words
abbrev pub field_place : (from w i : ℕ) → ℕ
field_place from w i = from + i * field_length w

-- ---- reading

-- the length that the second and third byte give
abbrev pub length_at : List ℕ → ℕ → ℕ
length_at s at = get_or s (at + 1) 0 * 256 + get_or s (at + 2) 0

-- the field that begins at a position: Short if under three bytes are left, Cut with its tag if its payload is not all there;
-- else Whole with its tag, where its payload starts, the payload's length, and the position after it
unfoldable pub field_at : List ℕ → ℕ → Field
field_at s at =
    cond (leb (at + header_size) (length s))
    (cond (leb (at + header_size + length_at s at) (length s))
    (Whole (get_or s at 0) (at + header_size) (length_at s at) (at + header_size + length_at s at))
    (Cut (get_or s at 0)))
    Short

-- a whole field of this tag and this length
abbrev pub is_field : Field → (tag len : ℕ) → Bool
is_field (Whole t start l next) tag len = eqb t tag && eqb l len
is_field (Cut t) tag len = false
is_field Short tag len = false

-- ---- writing

-- the tag and the length
abbrev pub header : (tag len : ℕ) → List ℕ
header tag len = tag ∷ (len / 256) ∷ (len % 256) ∷ []

unfoldable pub field : ℕ → List ℕ → List ℕ
field tag payload = header tag (length payload) ++ payload
