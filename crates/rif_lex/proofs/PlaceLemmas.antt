-- Places behind texts.
use Rattle.std.proofs.Common.{◌≡◌, ℕ, ◌+◌, ◌<◌, List, [], ◌∷◌, ◌++◌, length, suc, refl, ap, ◌∙◌, arith, true, false}
use Rattle.std.proofs.Common.{cond, ◌==◌}
use Rattle.std.proofs.lemmas.Bool.{lt-leb}
use Rattle.std.specs.Str.{IsAscii}
use Rattle.rif_lex.specs.declared.place.Place.{Place}
use Rattle.rif_lex.specs.Places.{begins_character, line_feeds, characters, has_line_feed, last_line, place_after}
use Rattle.rif_lex.specs.Places.{place_past, first_place}

pub line_feeds_first : (b : ℕ) (bs : List ℕ) → line_feeds (b ∷ bs) ≡ 0 → ((b == 10) ≡ false) × (line_feeds bs ≡ 0)
line_feeds_first b bs none = elim (b == 10) as (λ v. cond v (suc (line_feeds bs)) (line_feeds bs) ≡ 0 →
    (v ≡ false) × (line_feeds bs ≡ 0)) [
      | true ↦ λ e. absurd (omega arith)
      | false ↦ λ e. (refl, e)
    ] none

abbrev place_of : ℕ → ℕ → ℕ → Place
place_of offset line col = record { offset = offset; line = line; col = col }

same_place : (o l c q m d : ℕ) → o ≡ q → l ≡ m → c ≡ d → place_of o l c ≡ place_of q m d
same_place o l c q m d offset line col = cc

col_after : (p : Place) (b n : ℕ) → (b == 10) ≡ false →
    (place_after p b).col + n ≡ p.col + cond (begins_character b) (suc n) n
col_after p b n other = rw other
    (elim (begins_character b) as (λ v. cond v (suc p.col) p.col + n ≡ p.col + cond v (suc n) n) [
      | true ↦ omega arith
      | false ↦ refl
    ])

-- the place behind a text without a line feed
pub place_past-in_line : (p : Place) (bs : List ℕ) → line_feeds bs ≡ 0 →
    place_past p bs ≡ record { offset = p.offset + length bs; line = p.line; col = p.col + characters bs }
place_past-in_line p [] none = same_place p.offset p.line p.col _ _ _ (omega arith) refl (omega arith)
place_past-in_line p (b ∷ bs) none =
    let first = line_feeds_first b bs none in
    let other = first.0 in
    place_past-in_line (place_after p b) bs first.1
    ∙ same_place _ _ _ _ _ _ (omega arith) (rw other refl) (col_after p b (characters bs) other)

first_ascii : (b : ℕ) (bs : List ℕ) → IsAscii (b ∷ bs) → begins_character b ≡ true
first_ascii b bs ascii = let low : b < 128 = ascii 0 in rw (lt-leb 128 b low) refl

pub characters-IsAscii : (bs : List ℕ) → IsAscii bs → characters bs ≡ length bs
characters-IsAscii [] ascii = refl
characters-IsAscii (b ∷ bs) ascii =
    let rest : IsAscii bs = λ (i : ℕ). ascii (suc i) in
    rw (first_ascii b bs ascii) (ap suc (characters-IsAscii bs rest))

pub past_ascii : (p : Place) (bs : List ℕ) → line_feeds bs ≡ 0 → IsAscii bs →
    place_past p bs ≡ record { offset = p.offset + length bs; line = p.line; col = p.col + length bs }
past_ascii p bs none ascii =
    place_past-in_line p bs none ∙ same_place _ _ _ _ _ _ refl refl
    (ap (λ (n : ℕ). p.col + n) (characters-IsAscii bs ascii))

pub place_past-append : (p : Place) (xs ys : List ℕ) → place_past p (xs ++ ys) ≡ place_past (place_past p xs) ys
place_past-append p [] ys = refl
place_past-append p (x ∷ xs) ys = place_past-append (place_after p x) xs ys

pub place_past-offset : (p : Place) (bs : List ℕ) → (place_past p bs).offset ≡ p.offset + length bs
place_past-offset p [] = omega arith
place_past-offset p (b ∷ bs) = omega (arith, place_past-offset (place_after p b) bs)

place_past-line : (p : Place) (bs : List ℕ) → (place_past p bs).line ≡ p.line + line_feeds bs
place_past-line p [] = omega arith
place_past-line p (b ∷ bs) =
    place_past-line (place_after p b) bs
    ∙ elim (b == 10) as (λ v. cond v (suc p.line) p.line + line_feeds bs ≡ p.line + cond v (suc (line_feeds bs))
    (line_feeds bs)) [
      | true ↦ omega arith
      | false ↦ refl
    ]

last_line_whole : (bs : List ℕ) → has_line_feed bs ≡ false → last_line bs ≡ bs
last_line_whole [] whole = refl
last_line_whole (b ∷ bs) whole = rw whole refl

-- the column behind a text: that of its last line, or where it has no line feed the one before and its characters
abbrev col_behind : ℕ → List ℕ → ℕ
col_behind col bs = cond (has_line_feed bs) (1 + characters (last_line bs)) (col + characters bs)

col_behind-line_feed : (col b : ℕ) (bs : List ℕ) → (b == 10) ≡ true → col_behind 1 bs ≡ col_behind col (b ∷ bs)
col_behind-line_feed col b bs feed =
    elim (has_line_feed bs) as (λ v. has_line_feed bs ≡ v →
    cond v (1 + characters (last_line bs)) (1 + characters bs) ≡ col_behind col (b ∷ bs)) [
      | true ↦ λ _. rw feed refl
      | false ↦ λ whole. (let all = last_line_whole bs whole in rw (feed, all) refl)
    ] refl

col_behind-other : (p : Place) (b : ℕ) (bs : List ℕ) → (b == 10) ≡ false →
    col_behind (place_after p b).col bs ≡ col_behind p.col (b ∷ bs)
col_behind-other p b bs other =
    elim (has_line_feed bs) as (λ v. has_line_feed bs ≡ v →
    cond v (1 + characters (last_line bs)) ((place_after p b).col + characters bs) ≡ col_behind p.col (b ∷ bs)) [
      | true ↦ λ feed. rw (other, feed) refl
      | false ↦ λ whole. col_after p b (characters bs) other ∙ rw (other, whole) refl
    ] refl

place_past-col : (p : Place) (bs : List ℕ) → (place_past p bs).col ≡ col_behind p.col bs
place_past-col p [] = omega arith
place_past-col p (b ∷ bs) = elim (b == 10) as
    (λ v. (b == 10) ≡ v → (place_past (place_after p b) bs).col ≡ col_behind p.col (b ∷ bs)) [
      | true ↦ λ feed. (let one : (place_after p b).col ≡ 1 = rw feed refl in
          place_past-col (place_after p b) bs
          ∙ (ap (λ (c : ℕ). col_behind c bs) one ∙ col_behind-line_feed p.col b bs feed))
      | false ↦ λ other. place_past-col (place_after p b) bs ∙ col_behind-other p b bs other
    ] refl

col_from_first : (bs : List ℕ) → col_behind 1 bs ≡ 1 + characters (last_line bs)
col_from_first bs = elim (has_line_feed bs) as
    (λ v. has_line_feed bs ≡ v → cond v (1 + characters (last_line bs)) (1 + characters bs)
    ≡ 1 + characters (last_line bs)) [
      | true ↦ λ _. refl
      | false ↦ λ whole. (let all = last_line_whole bs whole in rw all refl)
    ] refl

-- the place behind the front of an input
pub place_behind : (bs : List ℕ) →
    place_past first_place bs ≡ record {
      offset = length bs;
      line = 1 + line_feeds bs;
      col =
          1 + characters (last_line bs);
    }
place_behind bs =
    let offset : (place_past first_place bs).offset ≡ length bs = place_past-offset first_place bs ∙ omega arith in
    same_place _ _ _ _ _ _ offset (place_past-line first_place bs) (place_past-col first_place bs ∙ col_from_first bs)
