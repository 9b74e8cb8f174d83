-- Lines and columns behind one text and another.
use Rattle.std.proofs.Common.{◌≡◌, ◌∙◌, ◌≤◌, ◌<◌, ◌+◌, ◌-◌, ℕ, suc, List, [], ◌∷◌, ◌++◌, length, get_or, take, drop, min, refl, ap, ap₂, sym, arith, Bool, true, false, cond, ◌||◌}
use Rattle.std.proofs.Math.Seq.{take-add, take-append-add, take-append_seam}
use Rattle.std.proofs.lemmas.Bool.{or_right}
use Rattle.std.proofs.lemmas.List.{take-append-le, take_all, length-take-le}
use Rattle.std.proofs.lemmas.List.Folds.{list_any-append}
use Rattle.std.proofs.lemmas.List.Sums.{sum_by-append, sum_by-cons, count_by-le-length}
use Rattle.std.specs.List.{list_any, count_by}
use Rattle.telling.specs.Positions.{is_feed, begins_char, behind_feeds, line_of, column_of}
use Rattle.telling.specs.Places.{line_behind, column_behind}
use Rattle.telling.proofs.Lines.{or_same}

-- ---- what stands behind the line feeds of two texts
some_behind : (front text : List ℕ) → list_any is_feed text ≡ true → behind_feeds (front ++ text) ≡ behind_feeds text
some_behind [] text e = refl
some_behind (x ∷ xs) text e =
    let some : list_any is_feed (x ∷ xs ++ text) ≡ true = list_any-append is_feed (x ∷ xs) text ∙ or_right (list_any is_feed (x ∷ xs)) (list_any is_feed text) e in
    ap (λ v. cond v (behind_feeds (xs ++ text)) (x ∷ xs ++ text)) some ∙ some_behind xs text e

pub whole_behind : (text : List ℕ) → list_any is_feed text ≡ false → behind_feeds text ≡ text
whole_behind [] e = refl
whole_behind (x ∷ xs) e = ap (λ v. cond v (behind_feeds xs) (x ∷ xs)) e

cond_longer : (v : Bool) (xs ys text : List ℕ) → cond v (xs ++ text) (ys ++ text) ≡ cond v xs ys ++ text
cond_longer true xs ys text = refl
cond_longer false xs ys text = refl

none_more : (front text : List ℕ) → list_any is_feed text ≡ false → behind_feeds (front ++ text) ≡ behind_feeds front ++ text
none_more [] text e = whole_behind text e
none_more (x ∷ xs) text e =
    let same : list_any is_feed (x ∷ xs ++ text) ≡ list_any is_feed (x ∷ xs) =
    list_any-append is_feed (x ∷ xs) text ∙ or_same (list_any is_feed (x ∷ xs)) (list_any is_feed text) e in
    ap (λ v. cond v (behind_feeds (xs ++ text)) (x ∷ xs ++ text)) same
    ∙ ap (λ v. cond (list_any is_feed (x ∷ xs)) v (x ∷ xs ++ text)) (none_more xs text e)
    ∙ cond_longer (list_any is_feed (x ∷ xs)) (behind_feeds xs) (x ∷ xs) text

-- ---- the line and the column behind both
lines_add : (front text : List ℕ) → suc (count_by is_feed (front ++ text)) ≡ line_behind (suc (count_by is_feed front)) text
lines_add front text = let h = sum_by-append (λ b. cond (is_feed b) 1 0) front text in omega (arith, h)

columns_by : (v : Bool) (front text : List ℕ) → list_any is_feed text ≡ v
    → suc (count_by begins_char (behind_feeds (front ++ text)))
    ≡ cond v (suc (count_by begins_char (behind_feeds text))) (suc (count_by begins_char (behind_feeds front)) + count_by begins_char text)
columns_by true front text e = ap (λ line. suc (count_by begins_char line)) (some_behind front text e)
columns_by false front text e =
    let more = ap (count_by begins_char) (none_more front text e) in
    let h = sum_by-append (λ b. cond (begins_char b) 1 0) (behind_feeds front) text in omega (arith, more, h)

columns_add : (front text : List ℕ)
    → suc (count_by begins_char (behind_feeds (front ++ text))) ≡ column_behind (suc (count_by begins_char (behind_feeds front))) text
columns_add front text = columns_by (list_any is_feed text) front text refl

-- from one offset of a text to a later one
module _ (text : List ℕ) (from to : ℕ) (order : from ≤ to) where
  split : take to text ≡ take from text ++ take (to - from) (drop from text)
  split = ap (λ n. take n text) (later from to order) ∙ take-add from (to - from) text
    where
      later : (a b : ℕ) → a ≤ b → b ≡ a + (b - a)
      later a b h = omega arith

  pub line_later : line_of text to ≡ line_behind (line_of text from) (take (to - from) (drop from text))
  line_later = ap (λ front. suc (count_by is_feed front)) split ∙ lines_add (take from text) (take (to - from) (drop from text))

  pub column_later : column_of text to ≡ column_behind (column_of text from) (take (to - from) (drop from text))
  column_later = ap (λ front. suc (count_by begins_char (behind_feeds front))) split ∙ columns_add (take from text) (take (to - from) (drop from text))

-- an offset of a text that stands in a file
module _ (front text back : List ℕ) (at : ℕ) (within : at ≤ length text) where
  inside : take (length front + at) (front ++ (text ++ back)) ≡ front ++ take at text
  inside = take-append-add front (text ++ back) at ∙ ap (λ v. front ++ v) (take-append-le at text back within)

  start : take (length front) (front ++ (text ++ back)) ≡ front
  start = take-append_seam front (text ++ back)

  pub line_inside : line_of (front ++ (text ++ back)) (length front + at) ≡ line_behind (line_of (front ++ (text ++ back)) (length front)) (take at text)
  line_inside =
      ap (λ v. suc (count_by is_feed v)) inside ∙ lines_add front (take at text)
      ∙ ap (λ v. line_behind (suc (count_by is_feed v)) (take at text)) (sym start)

  pub column_inside : column_of (front ++ (text ++ back)) (length front + at) ≡ column_behind (column_of (front ++ (text ++ back)) (length front)) (take at text)
  column_inside =
      ap (λ v. suc (count_by begins_char (behind_feeds v))) inside ∙ columns_add front (take at text)
      ∙ ap (λ v. column_behind (suc (count_by begins_char (behind_feeds v))) (take at text)) (sym start)

-- ---- a column, byte by byte
same_column : (v : Bool) (bs : List ℕ) → list_any is_feed bs ≡ v
    → suc (count_by begins_char (behind_feeds bs)) ≡ cond v (suc (count_by begins_char (behind_feeds bs))) (1 + count_by begins_char bs)
same_column true bs e = refl
same_column false bs e = let h = ap (count_by begins_char) (whole_behind bs e) in omega (arith, h)

pub column_past_feed : (column b : ℕ) (bs : List ℕ) → is_feed b ≡ true → column_behind column (b ∷ bs) ≡ column_behind 1 bs
column_past_feed column b bs e =
    ap (λ v. cond (v || list_any is_feed bs) (suc (count_by begins_char (cond (v || list_any is_feed bs) (behind_feeds bs) (b ∷ bs)))) (column + count_by begins_char (b ∷ bs))) e
    ∙ same_column (list_any is_feed bs) bs refl

past_by : (v : Bool) (column n count whole : ℕ) (bs line : List ℕ) → whole ≡ n + count
    → cond v (suc (count_by begins_char (cond v bs line))) (column + whole) ≡ cond v (suc (count_by begins_char bs)) (column + n + count)
past_by true column n count whole bs line h = refl
past_by false column n count whole bs line h = omega (arith, h)

pub column_past_other : (column b : ℕ) (bs : List ℕ) → is_feed b ≡ false → column_behind column (b ∷ bs) ≡ column_behind (column + cond (begins_char b) 1 0) bs
column_past_other column b bs e =
    ap (λ v. cond (v || list_any is_feed bs) (suc (count_by begins_char (cond (v || list_any is_feed bs) (behind_feeds bs) (b ∷ bs)))) (column + count_by begins_char (b ∷ bs))) e
    ∙ past_by (list_any is_feed bs) column (cond (begins_char b) 1 0) (count_by begins_char bs) (count_by begins_char (b ∷ bs)) (behind_feeds bs) (b ∷ bs)
    (sum_by-cons (λ x. cond (begins_char x) 1 0) b bs)

-- a column beyond the last that is counted
beyond_by : (v : Bool) (column most a count : ℕ) → min (cond v a (min column most + count)) most ≡ min (cond v a (column + count)) most
beyond_by true column most a count = refl
beyond_by false column most a count = omega arith

column_beyond : (column most : ℕ) (bs : List ℕ) → min (column_behind (min column most) bs) most ≡ min (column_behind column bs) most
column_beyond column most bs = beyond_by (list_any is_feed bs) column most (suc (count_by begins_char (behind_feeds bs))) (count_by begins_char bs)

next_by : (v : Bool) (column b most next : ℕ) (bs : List ℕ) → is_feed b ≡ v → 0 < most → next ≡ cond v 1 (min (column + cond (begins_char b) 1 0) most)
    → (next ≤ most) × (min (column_behind next bs) most ≡ min (column_behind column (b ∷ bs)) most)
next_by true column b most next bs f l e =
    (omega (arith, e), ap (λ n. min (column_behind n bs) most) e ∙ ap (λ n. min n most) (sym (column_past_feed column b bs f)))
next_by false column b most next bs f l e =
    (omega (arith, e), ap (λ n. min (column_behind n bs) most) e ∙ column_beyond (column + cond (begins_char b) 1 0) most bs ∙ ap (λ n. min n most) (sym (column_past_other column b bs f)))

-- one byte more
column_next : (column b most next : ℕ) (bs : List ℕ) → 0 < most → next ≡ cond (is_feed b) 1 (min (column + cond (begins_char b) 1 0) most)
    → (next ≤ most) × (min (column_behind next bs) most ≡ min (column_behind column (b ∷ bs)) most)
column_next column b most next bs l e = next_by (is_feed b) column b most next bs refl l e

-- and what is left
pub column_step : (column most next whole : ℕ) (rest after : List ℕ) → 1 ≤ length rest → after ≡ take (length rest - 1) (drop 1 rest) → 0 < most
    → next ≡ cond (is_feed (get_or rest 0 0)) 1 (min (column + cond (begins_char (get_or rest 0 0)) 1 0) most) → min (column_behind column rest) most ≡ whole
    → (next ≤ most) × (min (column_behind next after) most ≡ whole)
column_step column most next whole [] after l a p e is = absurd (omega arith)
column_step column most next whole (b ∷ bs) after l a p e is =
    let step = column_next column b most next bs p e in
    let all : after ≡ bs = a ∙ take_all (length (b ∷ bs) - 1) bs (omega arith) in
    (step.0, ap (λ xs. min (column_behind next xs) most) all ∙ step.1 ∙ is)

-- none more
pub column_end : (column most whole : ℕ) (rest : List ℕ) → length rest < 1 → column ≤ most → min (column_behind column rest) most ≡ whole → column ≡ whole
column_end column most whole [] l h e = omega (arith, e)
column_end column most whole (b ∷ bs) l h e = absurd (omega arith)

-- ---- the line and the column of a later offset
min_below : (n m : ℕ) → n ≤ m → min n m ≡ n
min_below n m h = omega arith

behind_by : (v : Bool) (x : ℕ) (xs : List ℕ) → length (behind_feeds xs) ≤ length xs → length (cond v (behind_feeds xs) (x ∷ xs)) ≤ length (x ∷ xs)
behind_by true x xs h = omega (arith, h)
behind_by false x xs h = omega arith

behind_short : (xs : List ℕ) → length (behind_feeds xs) ≤ length xs
behind_short [] = omega arith
behind_short (x ∷ xs) = behind_by (list_any is_feed (x ∷ xs)) x xs (behind_short xs)

module _ (text bytes : List ℕ) (from to known result most : ℕ) (same : bytes ≡ text) (order : from ≤ to) (within : to ≤ length text) (short : length text < most) where
  pub mark_line : known ≡ line_of text from → result ≡ min (line_behind known (take (to - from) (drop from bytes))) most → result ≡ line_of text to
  mark_line is e =
      let there : line_behind known (take (to - from) (drop from bytes)) ≡ line_of text to =
      ap₂ (λ (n : ℕ) (bs : List ℕ). line_behind n (take (to - from) (drop from bs))) is same ∙ sym (line_later text from to order) in
      let few = count_by-le-length is_feed (take to text) in
      let long = length-take-le to text within in
      e ∙ ap (λ n. min n most) there ∙ min_below (line_of text to) most (omega (arith, few, long))

  pub mark_column : known ≡ column_of text from → result ≡ min (column_behind known (take (to - from) (drop from bytes))) most → result ≡ column_of text to
  mark_column is e =
      let there : column_behind known (take (to - from) (drop from bytes)) ≡ column_of text to =
      ap₂ (λ (n : ℕ) (bs : List ℕ). column_behind n (take (to - from) (drop from bs))) is same ∙ sym (column_later text from to order) in
      let few = count_by-le-length begins_char (behind_feeds (take to text)) in
      let less = behind_short (take to text) in
      let long = length-take-le to text within in
      e ∙ ap (λ n. min n most) there ∙ min_below (column_of text to) most (omega (arith, few, less, long))
