-- Lines and columns. A line ends at each line feed, and each character is one column; both are counted from 1.
-- Source: the project's own (docs/FORMATS.md, "Tokens").
use Rattle.std.specs.Prelude.{ℕ, ◌+◌, ◌==◌, ◌||◌, not, Bool, false, if◌then◌else◌, List, [], ◌∷◌, suc, take}
use Rattle.rif_lex.specs.declared.place.Place.{Place}
use Rattle.rif_lex.specs.Characters.{is_between}

-- the byte begins a character; in UTF-8 each other byte of a character is 128 to 191
abbrev pub begins_character : ℕ → Bool
begins_character b = not (is_between 128 191 b)

-- how many line feeds a text has
abbrev pub line_feeds : List ℕ → ℕ
line_feeds [] = 0
line_feeds (b ∷ bs) = if b == 10 then suc (line_feeds bs) else line_feeds bs

-- how many characters a text has
abbrev pub characters : List ℕ → ℕ
characters [] = 0
characters (b ∷ bs) = if begins_character b then suc (characters bs) else characters bs

abbrev pub has_line_feed : List ℕ → Bool
has_line_feed [] = false
has_line_feed (b ∷ bs) = b == 10 || has_line_feed bs

-- what stands behind the last line feed of a text, or all of it
abbrev pub last_line : List ℕ → List ℕ
last_line [] = []
last_line (b ∷ bs) = if has_line_feed (b ∷ bs) then last_line bs else b ∷ bs

-- the line and the column of the character that begins at a byte, of which so many stand before it
abbrev pub line_at : List ℕ → ℕ → ℕ
line_at text at = 1 + line_feeds (take at text)

abbrev pub column_at : List ℕ → ℕ → ℕ
column_at text at = 1 + characters (last_line (take at text))

-- the place behind one byte more
abbrev pub place_after : Place → ℕ → Place
place_after p b = record {
  offset = suc p.offset;
  line = if b == 10 then suc p.line else p.line;
  col = if b == 10 then 1 else (if begins_character b then suc p.col else p.col);
}

-- the place behind some bytes more
abbrev pub place_past : Place → List ℕ → Place
place_past p [] = p
place_past p (b ∷ bs) = place_past (place_after p b) bs

-- the place where a text begins
abbrev pub first_place : Place
first_place = record { offset = 0; line = 1; col = 1 }
