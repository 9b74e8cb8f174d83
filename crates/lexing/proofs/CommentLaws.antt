-- Comments, as a scanner counts them and as they nest.
use Rattle.std.proofs.Common.{◌≡◌, ℕ, zero, suc, ◌<◌, ◌≤◌, ◌+◌, ◌-◌, ◌⊎◌, inl, inr, List, [], ◌∷◌, ◌++◌, length, refl, ap, sym, subst, ◌∙◌, arith, cond, Bool, true, false, not, ◌||◌, ◌&&◌, ◌==◌, Some, None, length-append}
use Rattle.std.proofs.lemmas.Bool.{eqb-true, and_parts}
use Rattle.std.specs.List.{list_all}
use Rattle.literals.specs.Scanning.{skip}
use Rattle.lexing.specs.declared.comment.Mark.{Mark}
use Rattle.lexing.specs.declared.comment.Mark.TheVariants.{Opens, Closes, Plain}
use Rattle.lexing.specs.Pieces.{star, slash, is_in_line, is_plain, begins_with, is_doc, IsInside, nothing, nested, plain, IsComment, IsPiece}
use Rattle.lexing.specs.Scanning.{IsMark, open_after, closing_at, comment_kind}
use Rattle.literals.proofs.Laws.{either, skip_split, skip_past, neither}
use Rattle.lexing.proofs.TextLaws.{run_shorter}

-- ---- one mark
past_both : {A : Type 0} (x y z : A) (a b : Bool) → not (a || b) ≡ true → cond a x (cond b y z) ≡ z
past_both x y z true b h = cc
past_both x y z false true h = cc
past_both x y z false false h = refl

closing_opens : (n : ℕ) (rest : List ℕ) → closing_at (suc n) (slash ∷ star ∷ rest) ≡ closing_at (suc (suc n)) rest
unfolding closing_at
closing_opens n rest = refl

closing_closes : (n : ℕ) (rest : List ℕ) → closing_at (suc n) (star ∷ slash ∷ rest) ≡ closing_at n rest
unfolding closing_at
closing_closes n rest = refl

closing_plain : (n c : ℕ) (rest : List ℕ) → is_plain (c ∷ rest) ≡ true → closing_at (suc n) (c ∷ rest) ≡ closing_at (suc n) rest
unfolding closing_at
closing_plain n c [] h = refl
closing_plain n c (d ∷ ds) h = past_both (closing_at (suc (suc n)) ds) (closing_at n ds) (closing_at (suc n) (d ∷ ds)) ((c == slash) && (d == star)) ((c == star) && (d == slash)) h

step : (mark : Mark) (n : ℕ) (text rest : List ℕ) → IsMark mark text rest → closing_at (open_after mark (suc n)) rest ≡ closing_at (suc n) text
step Opens n text rest e = let more : suc n + 1 ≡ suc (suc n) = omega arith in ap (λ v. closing_at v rest) more ∙ sym (ap (closing_at (suc n)) e ∙ closing_opens n rest)
step Closes n text rest e = let less : suc n - 1 ≡ n = omega arith in ap (λ v. closing_at v rest) less ∙ sym (ap (closing_at (suc n)) e ∙ closing_closes n rest)
step Plain n text rest e = sym (ap (closing_at (suc n)) e.1 ∙ closing_plain n e.0 rest (subst (λ v. is_plain v ≡ true) e.1 e.2))

-- a mark is passed, and as many comments end where they did
pub closing_past : (mark : Mark) (depth : ℕ) (text rest : List ℕ) → 0 < depth → IsMark mark text rest → closing_at (open_after mark depth) rest ≡ closing_at depth text
closing_past mark zero text rest h m = absurd (omega arith)
closing_past mark (suc n) text rest h m = step mark n text rest m

-- a mark opens or closes at most one
pub open_near : (mark : Mark) (depth : ℕ) → (open_after mark depth ≤ depth + 1) × (depth ≤ open_after mark depth + 1)
open_near Opens depth = (omega arith, omega arith)
open_near Closes depth = (omega arith, omega arith)
open_near Plain depth = (omega arith, omega arith)

pub closing_none : (depth : ℕ) → 0 < depth → closing_at depth [] ≡ None
unfolding closing_at
closing_none zero h = absurd (omega arith)
closing_none (suc n) h = refl

pub closing_done : (depth : ℕ) (cs : List ℕ) → depth ≤ 0 → closing_at depth cs ≡ Some cs
unfolding closing_at
closing_done zero cs h = refl
closing_done (suc n) cs h = absurd (omega arith)

-- ---- a block comment is counted to its end
inside_short : {cs rest : List ℕ} → IsInside cs rest → length rest ≤ length cs
inside_short nothing = omega arith
inside_short (nested b r) = let first = inside_short b in let second = inside_short r in omega arith
inside_short (plain p b) = let more = inside_short b in omega arith

plain_longer : (c : ℕ) (cs less : List ℕ) → 0 < length cs → is_plain (c ∷ (cs ++ less)) ≡ is_plain (c ∷ cs)
plain_longer c [] less h = absurd (omega arith)
plain_longer c (d ∷ ds) less h = refl

inside_reads : {cs rest : List ℕ} → IsInside cs rest → 0 < length rest → (less : List ℕ) (n : ℕ) → closing_at (suc n) (cs ++ less) ≡ closing_at (suc n) (rest ++ less)
inside_reads nothing l less n = refl
inside_reads (nested {cs = cs} {mid = mid} b r) l less n = closing_opens n (cs ++ less) ∙ inside_reads b (omega arith) less (suc n) ∙ closing_closes (suc n) (mid ++ less) ∙ inside_reads r l less n
inside_reads (plain {c = c} {cs = cs} p b) l less n =
    let some : 0 < length cs = omega (arith, inside_short b) in
    closing_plain n c (cs ++ less) (plain_longer c cs less some ∙ p) ∙ inside_reads b l less n

pub block_reads : (body less : List ℕ) → IsInside body (star ∷ slash ∷ []) → closing_at 1 (body ++ less) ≡ Some less
block_reads body less b = inside_reads b (omega arith) less 0 ∙ closing_closes 0 less ∙ closing_done 0 less (omega arith)

-- ---- what is counted to its end is a block comment
-- the text ends with the last of so many open block comments
abbrev Ends : ℕ → List ℕ → Type 0
Ends zero cs = cs ≡ []
Ends (suc n) cs = (mid : List ℕ) × IsInside cs (star ∷ slash ∷ mid) × Ends n mid

abbrev Closed : ℕ → List ℕ → List ℕ → Type 0
Closed n cs rest = (front : List ℕ) × (cs ≡ front ++ rest) × Ends n front

found_opens : (n c d : ℕ) (ds rest : List ℕ) → ((c == slash) && (d == star)) ≡ true → Closed (suc (suc n)) ds rest → Closed (suc n) (c ∷ d ∷ ds) rest
found_opens n c d ds rest h r =
    let both = and_parts (c == slash) (d == star) h in
    let first : c ≡ slash = eqb-true c slash both.0 in
    let second : d ≡ star = eqb-true d star both.1 in
    let parts : ds ≡ r.0 ++ rest = r.1 in
    (slash ∷ star ∷ r.0, cc, (r.2.2.0, nested r.2.1 r.2.2.1, r.2.2.2))

found_closes : (n c d : ℕ) (ds rest : List ℕ) → ((c == star) && (d == slash)) ≡ true → Closed n ds rest → Closed (suc n) (c ∷ d ∷ ds) rest
found_closes n c d ds rest h r =
    let both = and_parts (c == star) (d == slash) h in
    let first : c ≡ star = eqb-true c star both.0 in
    let second : d ≡ slash = eqb-true d slash both.1 in
    let parts : ds ≡ r.0 ++ rest = r.1 in
    (star ∷ slash ∷ r.0, cc, (r.0, nothing, r.2))

found_plain : (n c d : ℕ) (ds rest : List ℕ) → ((c == slash) && (d == star)) ≡ false → ((c == star) && (d == slash)) ≡ false → Closed (suc n) (d ∷ ds) rest → Closed (suc n) (c ∷ d ∷ ds) rest
found_plain n c d ds rest h k r =
    let some : 0 < length r.0 = omega (arith, inside_short r.2.1) in
    let here : is_plain (c ∷ d ∷ ds) ≡ true = neither ((c == slash) && (d == star)) ((c == star) && (d == slash)) h k in
    let there : is_plain (c ∷ r.0) ≡ true = sym (plain_longer c r.0 rest some) ∙ sym (ap (λ v. is_plain (c ∷ v)) r.1) ∙ here in
    (c ∷ r.0, ap (λ v. c ∷ v) r.1, (r.2.0, plain there r.2.1, r.2.2))

closing_sound : (n : ℕ) (cs rest : List ℕ) → closing_at n cs ≡ Some rest → Closed n cs rest
unfolding closing_at
closing_sound zero cs rest e = ([], (let same : cs ≡ rest = cc in same), refl)
closing_sound (suc n) [] rest e = cc
closing_sound (suc n) (c ∷ []) rest e = cc
closing_sound (suc n) (c ∷ d ∷ ds) rest e =
    elim (either ((c == slash) && (d == star)) e) [
      | inl h ↦ found_opens n c d ds rest h.0 (closing_sound (suc (suc n)) ds rest h.1)
      | inr h ↦
          elim (either ((c == star) && (d == slash)) h.1) [
            | inl k ↦ found_closes n c d ds rest k.0 (closing_sound n ds rest k.1)
            | inr k ↦ found_plain n c d ds rest h.0 k.0 (closing_sound (suc n) (d ∷ ds) rest k.1)
          ]
    ]

-- ---- whether a comment is a doc comment is seen from the whole text as from the comment
pub doc_in_block : (body less : List ℕ) → 2 ≤ length body → is_doc star (body ++ less) ≡ is_doc star body
doc_in_block [] less l = absurd (omega arith)
doc_in_block (c ∷ []) less l = absurd (omega arith)
doc_in_block (c ∷ d ∷ ds) less l = refl

abbrev EndsLine : List ℕ → Type 0
EndsLine [] = Unit {0}
EndsLine (c ∷ cs) = c ≡ 10

line_end_one : (c : ℕ) (cs : List ℕ) (b : Bool) → (c == 10) ≡ b → EndsLine (skip is_in_line cs) → EndsLine (cond (not b) (skip is_in_line cs) (c ∷ cs))
line_end_one c cs true e h = eqb-true c 10 e
line_end_one c cs false e h = h

line_end : (cs : List ℕ) → EndsLine (skip is_in_line cs)
line_end [] = tt
line_end (c ∷ cs) = line_end_one c cs (c == 10) refl (line_end cs)

begins_in_line : (d : ℕ) (front after : List ℕ) → (10 == d) ≡ false → EndsLine after → begins_with d (front ++ after) ≡ begins_with d front
begins_in_line d [] [] e h = refl
begins_in_line d [] (c ∷ cs) e h = ap (λ v. v == d) h ∙ e
begins_in_line d (c ∷ cs) after e h = refl

pub doc_in_line : (front after : List ℕ) → EndsLine after → is_doc slash (front ++ after) ≡ is_doc slash front
doc_in_line [] [] h = refl
doc_in_line [] (c ∷ cs) h = ap (λ v. (v == 33) || ((v == slash) && not (begins_with slash cs || begins_with slash cs))) h
doc_in_line (c ∷ cs) after h = ap (λ v. (c == 33) || ((c == slash) && not (v || v))) (begins_in_line slash cs after refl h)

-- ---- comments as pieces
comment_piece : (doc : Bool) (c : ℕ) (cs : List ℕ) → IsComment doc (c ∷ cs) → IsPiece (comment_kind doc) (c ∷ cs)
comment_piece true c cs h = h
comment_piece false c cs h = h

pub line_front : (body : List ℕ) → (front : List ℕ) × (slash ∷ slash ∷ body ≡ front ++ skip is_in_line body) × IsPiece (comment_kind (is_doc slash body)) front
line_front body =
    let line = skip_split is_in_line body in
    let same : is_doc slash line.0 ≡ is_doc slash body = sym (ap (is_doc slash) line.1 ∙ doc_in_line line.0 (skip is_in_line body) (line_end body)) in
    (slash ∷ slash ∷ line.0, ap (λ v. slash ∷ slash ∷ v) line.1, comment_piece (is_doc slash body) slash (slash ∷ line.0) (inl (line.0, refl, line.2, same)))

pub block_front : (body rest : List ℕ) → closing_at 1 body ≡ Some rest → (front : List ℕ) × (slash ∷ star ∷ body ≡ front ++ rest) × IsPiece (comment_kind (is_doc star body)) front
block_front body rest e =
    let block = closing_sound 1 body rest e in
    let inside : IsInside block.0 (star ∷ slash ∷ []) = subst (λ v. IsInside block.0 (star ∷ slash ∷ v)) block.2.2 block.2.1 in
    let long : 2 ≤ length block.0 = inside_short inside in
    let same : is_doc star block.0 ≡ is_doc star body = sym (ap (is_doc star) block.1 ∙ doc_in_block block.0 rest long) in
    (slash ∷ star ∷ block.0, ap (λ v. slash ∷ star ∷ v) block.1, comment_piece (is_doc star body) slash (star ∷ block.0) (inr (block.0, refl, inside, same)))

pub block_short : (body rest : List ℕ) → closing_at 1 body ≡ Some rest → length rest ≤ length body
block_short body rest e = let block = closing_sound 1 body rest e in omega (arith, ap length block.1, length-append block.0 rest)

pub block_long : (body : List ℕ) → IsInside body (star ∷ slash ∷ []) → 2 ≤ length body
block_long body b = inside_short b

-- a line comment goes on, or what follows it does not change whether it is a doc comment
next_line : (doc : Bool) (body : List ℕ) (d : ℕ) (ds : List ℕ) (b : Bool) → (d == 10) ≡ b → list_all is_in_line body ≡ true → is_doc slash body ≡ doc
    → (length (skip is_in_line (body ++ d ∷ ds)) < length (d ∷ ds)) ⊎ (is_doc slash (body ++ d ∷ ds) ≡ doc)
next_line doc body d ds true e h k = inr (doc_in_line body (d ∷ ds) (eqb-true d 10 e) ∙ k)
next_line doc body d ds false e h k =
    let past = ap length (skip_past is_in_line body (d ∷ ds) h) in
    let more = run_shorter is_in_line d ds (ap not e) in
    inl (omega (arith, past, more))

pub line_reads : (doc : Bool) (body less : List ℕ) → list_all is_in_line body ≡ true → is_doc slash body ≡ doc → (length (skip is_in_line (body ++ less)) < length less) ⊎ (is_doc slash (body ++ less) ≡ doc)
line_reads doc body [] h k = inr (doc_in_line body [] tt ∙ k)
line_reads doc body (d ∷ ds) h k = next_line doc body d ds (d == 10) refl h k
